use Rattle.std.proofs.Common.{get_or}
use Rattle.lib_bind.proofs.ReachLemmas.{first_more, first_all}
use Rattle.lib_bind.proofs.ReachedLemmas.{library_is, no_library}
use Rattle.lib_bind.proofs.reach.reaches.Goals as goal

pub loop-library-preserved : goal.loop-library-preserved
loop-library-preserved c =
    first_more c.args.libraries.now c.args.links.now c.loop-library.reach.items c.push.new.self.items c.loop-library.library-index (get_or c.args.libraries.now c.loop-library.library-index no_library) c.in_ok-reached.field-0
    c.loop-library.invariant c.loop-library-test.true (library_is c.args.libraries.now c.loop-library.library-index c.loop-library-test.true) c.in_ok-reached.ensures c.in_ok-push.ensures.items

pub returns : goal.returns
returns c = first_all c.args.libraries.now c.args.links.now c.loop-library.reach.items c.loop-library.library-index c.loop-library.invariant c.loop-library-test.false c.loop-library.auto.library-index-end
