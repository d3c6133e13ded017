use Rattle.std.proofs.Common.{rules}
use Rattle.mo_obj.proofs.TableLemmas.{mappings, one_more_of_each}
use Rattle.mo_obj.proofs.sections.relocs_of.Goals as goal

pub loop-i-preserved : goal.loop-i-preserved
loop-i-preserved c = record {
  mapped = search (rules, mappings);
  numbers = one_more_of_each _ _ _ _ (search rules) c.loop-i.invariant.numbers c.reloc_at.ensures.number;
}
