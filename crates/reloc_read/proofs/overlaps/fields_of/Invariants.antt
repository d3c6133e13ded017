use Rattle.std.proofs.Common.{◌≡◌, All}
use Rattle.std.specs.List.{filter_map, range_with_len}
use Rattle.mo_types.specs.RelocationRules.{field_at}
use Rattle.reloc_read.specs.Fields.{IsSmall}
use Rattle.reloc_read.proofs.overlaps.fields_of.Given as goal

abbrev pub invariant-loop-at : goal.invariant-loop-at
invariant-loop-at l = record {
  fields : l.found.items ≡ filter_map (field_at l.relocs) (range_with_len 0 l.at);
  small : All IsSmall l.found.items;
}
