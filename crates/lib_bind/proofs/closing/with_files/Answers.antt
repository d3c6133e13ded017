use Rattle.std.proofs.Common.{◌≡◌, ◌∷◌, sym, ap, ◌∙◌, length, arith}
use Rattle.std.specs.Vec.Iter.{into_iter_items}
use Rattle.lib_bind.proofs.ChoosingLemmas.{nothing_left}
use Rattle.lib_bind.proofs.ClosingLemmas.{files_end, files_next}
use Rattle.lib_bind.proofs.closing.with_files.Goals as goal

pub loop-file-preserved : goal.loop-file-preserved
loop-file-preserved c =
    let at = c.loop-file in
    let steps : into_iter_items at.file-iterator ≡ c.in-Some.file ∷ into_iter_items c.next.new.self = c.in-Some.ensures.steps.0 in
    record {
      same = files_next _ _ _ c.in-Some.file _ _ _ steps at.invariant.same c.in_ok-growing.ensures;
      count = let was = at.invariant.count in let gone = c.in-Some.ensures.steps.1 in let short = ap length steps in omega arith;
    }

pub returns : goal.returns
returns c =
    let at = c.loop-file in
    files_end _ _ _ _ (nothing_left _ (sym at.invariant.count ∙ c.in-None.ensures.steps.0)) at.invariant.same
