use Rattle.std.proofs.Common.{ap, ◌∙◌, map, List, ℕ}
use Rattle.lib_bind.specs.Closing.{reexport_by}
use Rattle.lib_bind.specs.Found.{found}
use Rattle.lib_bind.proofs.GrowingLemmas.{map_goes_on}
use Rattle.lib_bind.proofs.growing.with_reexports.Goals as goal

pub loop-stub-preserved : goal.loop-stub-preserved
loop-stub-preserved c =
    map_goes_on _ _ _ _ _ _ c.stub-item.result c.in_ok-reexports_of.field-0 c.loop-stub.invariant c.loop-stub-test.true c.stub-item.is
    (c.in_ok-reexports_of.ensures ∙ ap (λ (names : List (List ℕ)). map (λ install. reexport_by (found install c.args.places.now) (found install c.args.heads.now) install) names) c.as_slice.ensures)
    c.in_ok-push.ensures.ok
