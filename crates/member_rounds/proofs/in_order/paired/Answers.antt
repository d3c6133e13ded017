use Rattle.std.proofs.Common.{◌∙◌, ◌++◌, List, ap, sym}
use Rattle.std.specs.Vec.Iter.{into_iter_items, into_iter_len}
use Rattle.mo_types.specs.declared.loaded.LoadedFile.{LoadedFile}
use Rattle.member_rounds.specs.inner.Paired.{zipped}
use Rattle.member_rounds.proofs.OrderLemmas.{pair_more}
use Rattle.member_rounds.proofs.in_order.paired.Goals as goal

pub loop-file-preserved : goal.loop-file-preserved
loop-file-preserved c =
    pair_more c.loop-file.pairs.items c.in_ok-pairs-2.pairs.items c.in-Some.file (into_iter_items c.next.new.self) c.next-in-loop-file.result (into_iter_items c.loop-file.lists) (into_iter_items c.next-in-loop-file.new.self) (zipped c.args.files.items c.args.numbers.items)
    (ap (λ (fs : List LoadedFile). c.loop-file.pairs.items ++ zipped fs (into_iter_items c.loop-file.lists)) (sym c.in-Some.ensures.steps.0) ∙ c.loop-file.invariant)
    c.next-in-loop-file.ensures.items (into_iter_len c.loop-file.lists) c.loop-file.lists.rest.ok.0 c.next-in-loop-file.ensures.variant c.in_ok-pairs-2.ensures
