use Rattle.std.proofs.Common.{◌≡◌, drop}
use Rattle.lib_bind.specs.Named.{are_named}
use Rattle.lib_bind.proofs.named.are_named.Given as goal

abbrev pub invariant-loop-stub : goal.invariant-loop-stub
invariant-loop-stub l = are_named l.inputs l.least (drop l.stub-index l.named) ≡ are_named l.inputs 0 l.named
