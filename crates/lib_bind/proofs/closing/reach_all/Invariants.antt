use Rattle.std.proofs.Common.{◌≡◌, drop}
use Rattle.lib_bind.specs.Closing.{reach_all}
use Rattle.lib_bind.proofs.closing.reach_all.Given as goal

abbrev pub invariant-loop-library : goal.invariant-loop-library
invariant-loop-library l = record {
  same : reach_all (drop l.library-index l.libraries) l.closing ≡ reach_all l.libraries l.fn.before;
  growing : l.closing.growing ≡ l.fn.before.growing;
}
