use Rattle.reloc_read.specs.Faults.{IsClean}
use Rattle.reloc_read.proofs.FaultLemmas.{AreSections}
use Rattle.reloc_read.proofs.RefLemmas.{AreAll}
use Rattle.reloc_read.proofs.reading.read_sections.Given as goal

abbrev pub invariant-loop-index : goal.invariant-loop-index
invariant-loop-index l = record {
  faults : AreSections l.cut.object.now l.index l.found;
  refs : IsClean l.cut.object.now → AreAll l.cut.object.now l.cut.file l.initial.out l.out l.index;
}
