use Rattle.load_cmds.specs.Segments.{section_bytes}
use Rattle.load_cmds.proofs.Appends.{IsPutting}
use Rattle.load_cmds.proofs.sections.put_sections.Given as goal

abbrev pub invariant-loop-placed : goal.invariant-loop-placed
invariant-loop-placed l = IsPutting (section_bytes l.indirect.stubs l.indirect.slots) l.sections l.fn.out.items l.placed-index l.out.items
