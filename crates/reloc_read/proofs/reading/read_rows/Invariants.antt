use Rattle.std.proofs.Common.{◌+◌}
use Rattle.reloc_read.specs.Faults.{IsClean}
use Rattle.reloc_read.proofs.FaultLemmas.{AreRows}
use Rattle.reloc_read.proofs.RefLemmas.{AreRefs}
use Rattle.reloc_read.proofs.reading.read_rows.Given as goal

abbrev pub invariant-loop-at : goal.invariant-loop-at
invariant-loop-at l = record {
  faults : AreRows l.linked.cut.object.now (l.linked.index + 1) l.linked.section.now l.at l.found;
  refs : IsClean l.linked.cut.object.now → AreRefs l.linked.cut.object.now l.linked.cut.file (l.linked.index + 1) l.linked.section.now l.initial.out l.out l.at;
}
