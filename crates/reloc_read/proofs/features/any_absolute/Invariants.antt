use Rattle.reloc_read.specs.Features.{row_names_absolute_at}
use Rattle.reloc_read.proofs.ScanLemmas.{NoneBelow}
use Rattle.reloc_read.proofs.features.any_absolute.Given as goal

abbrev pub invariant-loop-at : goal.invariant-loop-at
invariant-loop-at l = NoneBelow (row_names_absolute_at l.symbols l.section.relocs) l.at
