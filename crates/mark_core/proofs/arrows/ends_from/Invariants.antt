use Rattle.std.proofs.Common.{◌≡◌, map, take}
use Rattle.std.specs.Prelude.{IfSome}
use Rattle.std.specs.List.{filter}
use Rattle.mark_core.specs.Kept.{has}
use Rattle.mark_core.specs.inner.Arrows.{begins_in, end_of}
use Rattle.mark_core.proofs.arrows.ends_from.Given as goal

abbrev pub invariant-loop-arrow : goal.invariant-loop-arrow
invariant-loop-arrow l = record {
  list : l.ends.items ≡ map end_of (filter (begins_in l.roots) (take l.arrow-index l.arrows));
  known : IfSome l.last (λ asked. asked.is_root ≡ has l.roots asked.key);
}
