use Rattle.mo_obj.specs.Each.{Each}
use Rattle.mo_obj.specs.Sections.{IsRoomy, section_of}
use Rattle.mo_obj.proofs.TableLemmas.{IsTaken}
use Rattle.mo_obj.proofs.sections.sections_of.Given as goal

abbrev pub invariant-loop-header : goal.invariant-loop-header
invariant-loop-header l = record {
  taken : IsTaken (section_of l.file) l.headers l.header-index l.list.items;
  roomy : Each IsRoomy l.list.items;
}
