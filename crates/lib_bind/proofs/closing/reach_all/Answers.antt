use Rattle.std.proofs.Common.{◌<◌, ap, ◌∙◌, get_or, length, subst, sym}
use Rattle.lib_bind.specs.declared.closing.Closing.{Closing}
use Rattle.lib_bind.specs.declared.growing.Growing.{Growing}
use Rattle.lib_bind.proofs.ClosingLemmas.{reach_ends, reach_next}
use Rattle.lib_bind.proofs.ReachedLemmas.{no_library}
use Rattle.lib_bind.proofs.StepLemmas.{reach_growing}
use Rattle.lib_bind.proofs.closing.reach_all.Goals as goal

pub reach-requires : goal.reach-requires
reach-requires c =
    subst (λ (growing : Growing). (get_or c.args.libraries.now c.loop-library.library-index no_library).document < length growing.reexports) (sym c.loop-library.invariant.growing)
    (c.requires c.loop-library.library-index no_library c.loop-library-test.true)

pub loop-library-preserved : goal.loop-library-preserved
loop-library-preserved c = record {
  same = reach_next _ _ no_library _ _ _ c.loop-library-test.true c.loop-library.invariant.same c.in_ok-closing.ensures;
  growing = ap (λ (closing : Closing). closing.growing) c.in_ok-closing.ensures ∙ reach_growing _ c.loop-library.closing ∙ c.loop-library.invariant.growing;
}

pub returns : goal.returns
returns c = reach_ends _ _ _ _ c.loop-library.invariant.same c.loop-library-test.false
