-- What is read once of a layout, so that a target is told by its address.
use Rattle.std.specs.Prelude.{ℕ, ◌≡◌, ◌+◌, ◌<◌, true, List, [], codes, Contains, IfSome}
use Rattle.std.specs.List.{find}
use Rattle.std.specs.Option.{is_some, option_map, option_map_or}
use Rattle.std.specs.Str.{bytes_eq}
use Rattle.mo_types.specs.declared.goal.Goal.{Goal}
use Rattle.mo_types.specs.declared.key.AtomKey.{AtomKey}
use Rattle.sect_place.specs.Addresses.{address_in}
use Rattle.sect_place.specs.Arrangement.{is_code}
use Rattle.sect_place.specs.declared.island.BranchTarget.{BranchTarget}
use Rattle.sect_place.specs.declared.layout.Layout.{Layout}
use Rattle.sect_place.specs.declared.layout.PlacedSection.{PlacedSection}
use Rattle.sect_place.specs.declared.layout.Segment.{Segment}
use Rattle.sect_place.specs.inner.Around.{IsAround}
use Rattle.island_core.specs.Far.{in_reach}
use Rattle.islands.specs.declared.branch.Branch.{Branch}
use Rattle.islands.specs.declared.ground.Ground.{Ground}
use Rattle.islands.specs.declared.ground.Span.{Span}
use Rattle.islands.specs.Reach.{from_of, to_of}
use Rattle.islands.specs.Rows.{goal_spot, header_in, is_plain, spot_of, stubs_in}
use Rattle.islands.specs.Text.{in_code, in_text, place_in}
use Rattle.islands.specs.inner.Ordered.{IsOrdered}

-- where `__TEXT` ends in memory
abbrev pub text_end : List Segment → ℕ
text_end segments = option_map_or (λ (s : Segment). s.address + s.vmsize) (find (λ (s : Segment). bytes_eq s.name (codes "__TEXT")) segments) 0

-- no atom twice, what stands before that place is in `__TEXT`, and what stands in the midst of a section of `__text` in it
pub record IsTold (layout : Layout) : Type 0 where
  pub ordered : IsOrdered layout
  pub below : (key : AtomKey) → is_some (address_in layout.placed key) ≡ true → place_in layout key < text_end layout.segments → in_text layout key ≡ true
  pub amid : (key : AtomKey) → is_some (address_in layout.placed key) ≡ true → (p : PlacedSection) → IsAround layout.sections (place_in layout key) p → is_code p.section ≡ true → in_code layout key ≡ true

-- where a section of `__text` stands
abbrev pub IsCodeSpan : List PlacedSection → Span → Type 0
IsCodeSpan sections span = (p : PlacedSection) × Contains sections p × (is_code p.section ≡ true) × (span.from ≡ p.address) × (span.to ≡ p.address + p.size)

pub record IsGround (layout : Layout) (ground : Ground) : Type 0 where
  pub end : ground.end ≡ text_end layout.segments
  pub header : ground.header ≡ header_in layout.segments
  pub stubs : ground.stubs ≡ option_map (λ (p : PlacedSection). p.address) (stubs_in layout.sections)
  pub code : IfSome ground.code (IsCodeSpan layout.sections)

-- A place is that of a target in `__TEXT`.
abbrev pub IsPlaceIn : Layout → BranchTarget → ℕ → Type 0
IsPlaceIn layout target place = ((spot_of layout [] target).inside ≡ true) × (place ≡ (spot_of layout [] target).place)

abbrev pub IsGoalIn : Layout → Goal → ℕ → Type 0
IsGoalIn layout goal place = ((goal_spot layout [] goal).inside ≡ true) × (place ≡ (goal_spot layout [] goal).place)

abbrev pub IsAtomIn : Layout → AtomKey → ℕ → ℕ → Type 0
IsAtomIn layout key offset place = (in_text layout key ≡ true) × (place ≡ place_in layout key + offset)

-- a branch that needs no island, whatever group it stands in
pub record IsQuick (layout : Layout) (reach : ℕ) (branch : Branch) : Type 0 where
  pub inside : (spot_of layout [] branch.target).inside ≡ true
  pub plain : is_plain branch.target.addend ≡ true
  pub near : in_reach reach (from_of layout branch) (to_of layout branch) ≡ true
