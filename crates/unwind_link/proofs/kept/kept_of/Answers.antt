use Rattle.std.proofs.Common.{List, map, ap, ◌++◌, ◌∙◌}
use Rattle.std.specs.List.{filter}
use Rattle.mark_core.specs.Kept.{has}
use Rattle.mo_types.specs.declared.unwind.Unwind.{Unwind}
use Rattle.unwind_link.specs.Kept.{kept_as}
use Rattle.unwind_link.proofs.KeptLemmas.{file_more}
use Rattle.unwind_link.proofs.kept.kept_of.Goals as goal

pub loop-at-preserved : goal.loop-at-preserved
loop-at-preserved c =
    file_more c.args.keys.now c.loop-at.kept.items c.in_ok-kept.kept.items c.args.files.now c.loop-at.at c.index-files-at.result c.loop-at.invariant c.loop-at-test.true c.index-files-at.is
    (c.in_ok-kept.ensures ∙ ap (λ (unwinds : List Unwind). c.loop-at.kept.items ++ map (kept_as c.loop-at.at) (filter (λ (unwind : Unwind). has c.args.keys.now unwind.atom) unwinds)) c.as_slice.ensures)
