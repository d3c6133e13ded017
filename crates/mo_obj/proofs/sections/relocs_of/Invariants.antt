use Rattle.mo_obj.specs.Each.{Each}
use Rattle.mo_obj.proofs.TableLemmas.{IsMapped}
use Rattle.mo_obj.specs.Sections.{IsNumbered, reloc_at}
use Rattle.mo_obj.proofs.sections.relocs_of.Given as goal

abbrev pub invariant-loop-i : goal.invariant-loop-i
invariant-loop-i l = record {
  mapped : IsMapped (reloc_at l.bytes l.header) l.i l.relocs.items;
  numbers : Each IsNumbered l.relocs.items;
}
