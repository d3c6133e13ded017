use Rattle.load_cmds.specs.Others.{library_bytes}
use Rattle.load_cmds.proofs.Appends.{IsPutting}
use Rattle.load_cmds.proofs.libraries.put_libraries.Given as goal

abbrev pub invariant-loop-library : goal.invariant-loop-library
invariant-loop-library l = IsPutting (library_bytes l.libs) l.libraries l.fn.out.items l.library-index l.out.items
