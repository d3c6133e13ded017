use Rattle.std.proofs.Common.{◌≡◌, ◌<◌, ◌==◌, ◌&&◌, ◌++◌, true, length, get_or, refl, sym, ◌∙◌}
use Rattle.mo_types.specs.Candidates.{is_candidate, strength}
use Rattle.symbol_winners.specs.inner.Tables.{strong_among}
use Rattle.symbol_winners.proofs.NamedLemmas.{candidate_external}
use Rattle.symbol_winners.proofs.NumberLemmas.{number_there}
use Rattle.symbol_winners.proofs.UntilLemmas.{firsts_add, firsts_pass, strong_candidate, until}
use Rattle.symbol_winners.proofs.duplicates.note_file.Goals as goal
use Rattle.symbol_winners.proofs.duplicates.note_file.Goals.{then-is_strong, else-is_strong}

pub loop-i-preserved : goal.loop-i-preserved
loop-i-preserved c =
    let low : c.loop-i.i < length c.args.file.now.object.symbols = rw (sym c.as_slice-symbol-items.ensures) c.loop-i-test.true in
    let there : c.symbol-item.result ≡ get_or c.args.file.now.object.symbols c.loop-i.i c.symbol-item.result = rw (sym c.as_slice-symbol-items.ensures) c.symbol-item.is in
    elim c.if-is_strong.branch [
      | then-is_strong w ↦
          let strong : (is_candidate c.args.file.now.object.sections c.symbol-item.result && strength c.symbol-item.result == 0) ≡ true = sym c.is_strong.ensures ∙ w.if-is_strong.true in
          rw w.table-is
          record {
            size = w.note.ensures.size ∙ c.loop-i.invariant.size;
            firsts = λ all are.
                firsts_add c.args.names.now all c.args.file.now c.loop-i.i c.symbol-item.result w.note.new.table.items low there strong
                (w.note.ensures.firsts (strong_among (all ++ until c.args.file.now c.loop-i.i)) (record { file = c.args.file.now.id; index = c.loop-i.i; symbol = c.symbol-item.result }) refl
                (candidate_external c.args.file.now c.symbol-item.result (strong_candidate c.args.file.now c.symbol-item.result strong))
                (number_there c.args.names.now c.args.file.now c.args.numbers.now c.loop-i.i w.number_at.result _ c.symbol-item.result c.requires.numbers low there w.number_at.ensures)
                (c.loop-i.invariant.firsts all are));
          }
      | else-is_strong w ↦
          rw w.table-is
          record {
            size = c.loop-i.invariant.size;
            firsts = λ all are. firsts_pass c.args.names.now all c.args.file.now c.loop-i.i c.symbol-item.result c.loop-i.table.items low there (sym c.is_strong.ensures ∙ w.if-is_strong.false) (c.loop-i.invariant.firsts all are);
          }
    ]
