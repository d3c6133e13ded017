use Rattle.std.proofs.Common.{◌≡◌, ◌<◌, length, get_or, refl, sym, ◌∙◌}
use Rattle.std.proofs.lemmas.List.{get_or_default}
use Rattle.symbol_winners.proofs.NamedLemmas.{candidate_external}
use Rattle.symbol_winners.proofs.NumberLemmas.{number_there}
use Rattle.symbol_winners.proofs.UntilLemmas.{bests_add, bests_pass}
use Rattle.symbol_winners.proofs.choosing.note_file.Goals as goal
use Rattle.symbol_winners.proofs.choosing.note_file.Goals.{then-is_candidate, else-is_candidate}

pub note-requires-clause-candidate : goal.note-requires-clause-candidate
note-requires-clause-candidate c =
    let low : c.loop-i.i < length c.args.file.now.object.symbols = rw (sym c.as_slice-symbol-items.ensures) c.loop-i-test.true in
    let there : c.symbol-item.result ≡ get_or c.args.file.now.object.symbols c.loop-i.i c.symbol-item.result = rw (sym c.as_slice-symbol-items.ensures) c.symbol-item.is in
    record {
      whole = c.requires.whole;
      index = low;
      there = λ d. sym (there ∙ get_or_default c.args.file.now.object.symbols c.loop-i.i c.symbol-item.result d low);
      candidate = sym c.is_candidate.ensures ∙ c.if-is_candidate.true;
    }

pub note-requires-clause-numbered : goal.note-requires-clause-numbered
note-requires-clause-numbered c =
    let low : c.loop-i.i < length c.args.file.now.object.symbols = rw (sym c.as_slice-symbol-items.ensures) c.loop-i-test.true in
    let there : c.symbol-item.result ≡ get_or c.args.file.now.object.symbols c.loop-i.i c.symbol-item.result = rw (sym c.as_slice-symbol-items.ensures) c.symbol-item.is in
    record {
      external = candidate_external c.args.file.now c.symbol-item.result (sym c.is_candidate.ensures ∙ c.if-is_candidate.true);
      number_is = number_there c.args.names.now c.args.file.now c.args.numbers.now c.loop-i.i c.number_at.result _ c.symbol-item.result c.requires.numbers low there c.number_at.ensures;
    }

pub loop-i-preserved : goal.loop-i-preserved
loop-i-preserved c =
    let low : c.loop-i.i < length c.args.file.now.object.symbols = rw (sym c.as_slice-symbol-items.ensures) c.loop-i-test.true in
    let there : c.symbol-item.result ≡ get_or c.args.file.now.object.symbols c.loop-i.i c.symbol-item.result = rw (sym c.as_slice-symbol-items.ensures) c.symbol-item.is in
    elim c.if-is_candidate.branch [
      | then-is_candidate w ↦
          rw w.table-is
          record {
            size = w.note.ensures.size ∙ c.loop-i.invariant.size;
            bests = λ files all least has.
                bests_add files c.args.names.now all c.args.file.now c.loop-i.i c.symbol-item.result _ c.loop-i.table.items w.note.new.table.items low there (sym c.is_candidate.ensures ∙ w.if-is_candidate.true) refl
                (record {
                  external = candidate_external c.args.file.now c.symbol-item.result (sym c.is_candidate.ensures ∙ w.if-is_candidate.true);
                  number_is = number_there c.args.names.now c.args.file.now c.args.numbers.now c.loop-i.i w.number_at.result _ c.symbol-item.result c.requires.numbers low there w.number_at.ensures;
                })
                (λ fs are. w.note.ensures.bests files fs least are)
                (c.loop-i.invariant.bests files all least has);
          }
      | else-is_candidate w ↦
          rw w.table-is
          record {
            size = c.loop-i.invariant.size;
            bests = λ files all least has. bests_pass files c.args.names.now all c.args.file.now c.loop-i.i c.symbol-item.result c.loop-i.table.items low there (sym c.is_candidate.ensures ∙ w.if-is_candidate.false) (c.loop-i.invariant.bests files all least has);
          }
    ]
