-- What stands in the image for an atom.
use Rattle.std.specs.Prelude.{List, Option}
use Rattle.std.specs.List.{find}
use Rattle.std.specs.Option.{option_map_or}
use Rattle.std.specs.Ordering.{is_eq}
use Rattle.mo_types.specs.Keys.{compare_keys}
use Rattle.mo_types.specs.declared.key.AtomKey.{AtomKey}
use Rattle.literal_merge.specs.declared.representative.Representative.{Representative}

-- what stands for a literal
abbrev pub literal_at : List Representative → AtomKey → Option Representative
literal_at literals key = find (λ r. is_eq (compare_keys r.literal key)) literals

-- the atom that stands for one in the image: a literal's representative, and for any other itself
abbrev pub stands_for : List Representative → AtomKey → AtomKey
stands_for literals key = option_map_or (λ r. r.representative) (literal_at literals key) key
