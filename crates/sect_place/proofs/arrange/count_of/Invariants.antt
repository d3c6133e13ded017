use Rattle.std.proofs.Common.{◌≡◌, ◌+◌, ◌*◌, ◌^◌, ◌≤◌, length, drop}
use Rattle.sect_place.specs.Arrangement.{parts_count}
use Rattle.sect_place.proofs.arrange.count_of.Given as goal

abbrev pub invariant-loop-group : goal.invariant-loop-group
invariant-loop-group l = record {
  so_far : l.count + parts_count (drop l.group-index l.groups) ≡ parts_count l.groups;
  small : l.count ≤ l.group-index * 2 ^ 57;
  within : l.group-index ≤ length l.groups;
}
