use Rattle.load_cmds.specs.Others.{rpath_bytes}
use Rattle.load_cmds.proofs.Appends.{IsPutting}
use Rattle.load_cmds.proofs.others.put_rpaths.Given as goal

abbrev pub invariant-loop-path : goal.invariant-loop-path
invariant-loop-path l = IsPutting rpath_bytes l.rpaths l.fn.out.items l.path-index l.out.items
