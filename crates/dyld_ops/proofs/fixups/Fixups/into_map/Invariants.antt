use Rattle.std.proofs.Common.{◌≡◌}
use Rattle.std.specs.Prelude.{map}
use Rattle.dyld_ops.specs.inner.Entries.{fixup_of}
use Rattle.dyld_ops.proofs.fixups.Fixups.into_map.Given as goal

abbrev pub invariant-loop-address : goal.invariant-loop-address
invariant-loop-address l = l.fixups.items ≡ map fixup_of l.yielded
