use Rattle.std.proofs.Common.{refl, sym}
use Rattle.std.proofs.lemmas.Option.{get_or_from_slice_get}
use Rattle.mark_core.proofs.KeyLemmas.{no_atom}
use Rattle.mark_race.proofs.KeepLemmas.{picked_more}
use Rattle.mark_race.specs.Marks.{at_start}
use Rattle.mark_race.proofs.keeping.picked.Goals as goal

pub loop-i-preserved : goal.loop-i-preserved
loop-i-preserved c =
    picked_more c.args.atoms.now.keys c.loop-i.list.items c.in_ok-list.list.items c.args.marked.now c.loop-i.i (at_start c.args.marked.now c.loop-i.i) c.index.result.now c.loop-i.invariant refl
    (sym (get_or_from_slice_get c.args.atoms.now.keys c.loop-i.i c.index.result.now no_atom c.index.ensures)) c.in_ok-list.ensures
