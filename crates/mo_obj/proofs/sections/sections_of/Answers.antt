use Rattle.std.proofs.Common.{rules}
use Rattle.mo_obj.proofs.TableLemmas.{takings, one_more_of_each}
use Rattle.mo_obj.proofs.sections.sections_of.Goals as goal

pub loop-header-preserved : goal.loop-header-preserved
loop-header-preserved c = record {
  taken = search (rules, takings);
  roomy = one_more_of_each _ _ _ _ (search rules) c.loop-header.invariant.roomy c.in_ok-section_of.ensures.roomy;
}
