use Rattle.link_files.proofs.NameLemmas.{IsCounted}
use Rattle.link_files.proofs.names.few_atoms.Given as goal

abbrev pub invariant-loop-file : goal.invariant-loop-file
invariant-loop-file l = IsCounted l.files l.left l.file-index
