use Rattle.mo_format.specs.Relocation.{relocation_info_bytes}
use Rattle.link_gen.proofs.Lists.{IsPutting}
use Rattle.link_gen.specs.Parts.{relocation}
use Rattle.link_gen.proofs.text.put_relocations.Given as goal

abbrev pub invariant-loop-r : goal.invariant-loop-r
invariant-loop-r l = IsPutting relocation_info_bytes (relocation l.made) l.fn.out.items l.r l.out.items
