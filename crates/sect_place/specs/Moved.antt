-- What an image's islands move.
use Rattle.std.specs.Prelude.{ℕ, ◌≡◌, ◌≢◌, ◌+◌, ◌-◌, ◌≤◌, ◌⊎◌, Bool, true, List, [], ◌∷◌, map, length, codes, All, Contains, Option, Some, None, if◌then◌else◌}
use Rattle.std.specs.List.{AllPairs, filter}
use Rattle.std.specs.List.Sorted.{IsStrictlySortedBy}
use Rattle.std.specs.Ordering.{is_lt}
use Rattle.command_line.specs.declared.command.Command.{Command}
use Rattle.mo_types.specs.Keys.{compare_keys}
use Rattle.mo_types.specs.declared.atom.Atom.{Atom}
use Rattle.mo_types.specs.declared.key.AtomKey.{AtomKey}
use Rattle.mo_types.specs.declared.out_section.OutSection.{OutSection}
use Rattle.slot_plan.specs.declared.list.Slots.{Slots}
use Rattle.tlv_plan.specs.Template.{atoms_of, keys_of}
use Rattle.sect_place.specs.Arrangement.{groups_of, is_code, text_parts}
use Rattle.sect_list.specs.OutSections.{is_in}
use Rattle.sect_place.specs.Layout.{base_of, lead_of, made_bytes}
use Rattle.sect_place.specs.Places.{area_unit, islands_bytes, page_up, parts_end, spaced}
use Rattle.sect_place.specs.declared.island.IslandArea.{IslandArea}
use Rattle.sect_place.specs.declared.island.IslandPlan.{IslandPlan}
use Rattle.sect_place.specs.declared.size.PlaceSizes.{PlaceSizes}

-- an image without islands
abbrev pub no_islands : IslandPlan
no_islands = record { areas = []; ways = [] }

-- the atoms of `__text`
unfoldable pub code_keys : List OutSection → List AtomKey
code_keys sections = keys_of (filter is_code sections)

-- Sections that list no atom twice, each of them and all of `__text` in order, and no atom with a greater alignment than
-- the section.
pub record AreInOrder (kept : List Atom) (sections : List OutSection) : Type 0 where
  pub once : AllPairs (λ (a : AtomKey) (b : AtomKey). a ≢ b) (keys_of sections)
  pub each : All (λ (section : OutSection). IsStrictlySortedBy compare_keys section.atoms) sections
  pub code : IsStrictlySortedBy compare_keys (code_keys sections)
  pub aligned : All (λ (section : OutSection). All (λ (atom : Atom). atom.align ≤ section.align) (atoms_of kept section.atoms)) sections
  pub low : All (λ (section : OutSection). section.align ≤ 14) sections

-- areas behind atoms of `__text` that are kept
abbrev pub AreBehindCode : List Atom → List OutSection → List IslandArea → Type 0
AreBehindCode kept sections areas =
    All (λ (area : IslandArea). Contains (map (λ (atom : Atom). atom.key) (atoms_of kept (code_keys sections))) area.last) areas

-- areas each of which is one of others, with no fewer islands there
abbrev pub AreAmong : List IslandArea → List IslandArea → Type 0
AreAmong few more =
    All (λ (area : IslandArea). (other : IslandArea) × Contains more other × (other.last ≡ area.last) × (length area.targets ≤ length other.targets)) few

-- the areas that count: all, or those before an atom of `__text`
abbrev pub counts : Option AtomKey → IslandArea → Bool
counts None area = true
counts (Some key) area = is_lt (compare_keys area.last key)

-- the bytes of those areas
unfoldable pub areas_bytes : ℕ → Option AtomKey → List IslandArea → ℕ
areas_bytes unit limit [] = 0
areas_bytes unit limit (area ∷ areas) =
    (if counts limit area then islands_bytes unit (length area.targets) else 0) + areas_bytes unit limit areas

-- how far what is behind `__TEXT` moves, which ends at a place without areas of so many bytes
abbrev pub pages_moved : ℕ → ℕ → ℕ
pages_moved end bytes = page_up (end + bytes) - page_up end

-- where `__TEXT` ends without islands
unfoldable pub text_end : List Atom → List OutSection → Slots → PlaceSizes → Command → ℕ
text_end kept sections slots sizes command =
    let bytes = made_bytes slots sizes in
    parts_end (spaced kept [] (area_unit sections)) (base_of command + lead_of (groups_of sections bytes) sizes command) (text_parts sections bytes)

-- An atom's place without islands, and with them: an atom of `__text` moves by the bytes of the areas before it, another
-- one of `__TEXT` by those of all areas, and one behind `__TEXT`, which ends at `end` without islands, by whole pages.
abbrev pub IsMoved : List OutSection → List IslandArea → ℕ → AtomKey → ℕ → ℕ → Type 0
IsMoved sections areas end key before after =
    (Contains (code_keys sections) key × (after ≡ before + areas_bytes (area_unit sections) (Some key) areas))
    ⊎ ((Contains (keys_of (filter (is_in (codes "__TEXT")) sections)) key × (Contains (code_keys sections) key → ⊥) × (after ≡ before + areas_bytes (area_unit sections) None areas))
    ⊎ ((Contains (keys_of (filter (is_in (codes "__TEXT")) sections)) key → ⊥) × (after ≡ before + pages_moved end (areas_bytes (area_unit sections) None areas))))
