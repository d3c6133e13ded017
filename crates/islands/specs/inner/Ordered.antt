-- What look-ups in a layout rest on.
use Rattle.std.specs.Prelude.{All, Bool}
use Rattle.std.specs.List.Sorted.{IsStrictlySortedBy}
use Rattle.mo_types.specs.Keys.{compare_keys}
use Rattle.mo_types.specs.declared.out_section.OutSection.{OutSection}
use Rattle.sect_place.specs.Addresses.{AreOnce}
use Rattle.sect_place.specs.Arrangement.{is_code}
use Rattle.sect_place.specs.declared.layout.Layout.{Layout}
use Rattle.sect_place.specs.declared.layout.PlacedSection.{PlacedSection}
use Rattle.islands.specs.Text.{is_text}
use Rattle.islands.specs.declared.text.Region.{Region}
use Rattle.islands.specs.declared.text.Region.TheVariants.{Code, Text}

-- no atom has two places, and each section lists its atoms in order
pub record IsOrdered (layout : Layout) : Type 0 where
  pub once : AreOnce layout.placed
  pub each : All (λ (p : PlacedSection). IsStrictlySortedBy compare_keys p.section.atoms) layout.sections

-- the sections of a region
abbrev pub test_of : Region → OutSection → Bool
test_of Code section = is_code section
test_of Text section = is_text section
