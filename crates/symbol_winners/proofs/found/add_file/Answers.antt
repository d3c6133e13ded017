use Rattle.std.proofs.Common.{◌≡◌, ◌<◌, length, get_or, sym, ap, ◌∙◌}
use Rattle.std.proofs.lemmas.List.{map-append}
use Rattle.symbol_winners.specs.inner.Tables.{held, found_of}
use Rattle.symbol_winners.proofs.FoundLemmas.{file_add, file_pass}
use Rattle.symbol_winners.proofs.NumberLemmas.{number_there, numbered_more}
use Rattle.symbol_winners.proofs.found.add_file.Goals as goal
use Rattle.symbol_winners.proofs.found.add_file.Goals.{then-is_candidate+in_ok-push, else-is_candidate}

pub loop-i-preserved : goal.loop-i-preserved
loop-i-preserved c =
    let low : c.loop-i.i < length c.args.file.now.object.symbols = rw (sym c.as_slice-symbol-items.ensures) c.loop-i-test.true in
    let there : c.symbol-item.result ≡ get_or c.args.file.now.object.symbols c.loop-i.i c.symbol-item.result = rw (sym c.as_slice-symbol-items.ensures) c.symbol-item.is in
    elim c.if-is_candidate.branch [
      | then-is_candidate+in_ok-push w ↦
          record {
            adding = file_add (held c.args.before.items) (held c.loop-i.found.items) (held c.if-is_candidate.found.items) c.args.file.now c.loop-i.i c.symbol-item.result c.loop-i.invariant.adding low there (sym c.is_candidate.ensures ∙ w.if-is_candidate.true)
                (rw w.found-is (ap held w.in_ok-push.ensures.items ∙ map-append found_of c.loop-i.found.items _));
            numbered = λ names before are.
                rw w.found-is
                (numbered_more names c.loop-i.found.items _ _ c.args.file.now (c.loop-i.invariant.numbered names before are) w.in_ok-push.ensures.items (sym c.is_candidate.ensures ∙ w.if-is_candidate.true)
                (number_there names c.args.file.now c.args.numbers.now c.loop-i.i w.number_at.result _ c.symbol-item.result are low there w.number_at.ensures));
          }
      | else-is_candidate w ↦
          rw w.found-is
          record {
            adding = file_pass (held c.args.before.items) (held c.loop-i.found.items) c.args.file.now c.loop-i.i c.symbol-item.result c.loop-i.invariant.adding low there (sym c.is_candidate.ensures ∙ w.if-is_candidate.false);
            numbered = c.loop-i.invariant.numbered;
          }
    ]
