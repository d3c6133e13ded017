-- What there is to know of a branch to tell whether it takes an island.
use Rattle.std.specs.Prelude.{ℕ, ℤ, pos, negsuc, ◌+◌, ◌-◌, ◌*◌, ◌^◌, ◌==◌, ◌&&◌, Bool, true, false, List, length, map, codes, Option, Some, None, suc, if◌then◌else◌}
use Rattle.std.specs.List.{find}
use Rattle.std.specs.Option.{option_map_or}
use Rattle.std.specs.Str.{bytes_eq}
use Rattle.mo_format.specs.declared.loader.TheConstants.{S_SYMBOL_STUBS}
use Rattle.mo_types.specs.declared.goal.Goal.{Goal}
use Rattle.mo_types.specs.declared.goal.Goal.TheVariants.{Def, WeakSelf, Header, Import, Flat, Nobody}
use Rattle.mo_types.specs.declared.key.AtomKey.{AtomKey}
use Rattle.mo_types.specs.declared.out_section.OutSection.{OutSection}
use Rattle.sect_list.specs.OutSections.{is_in}
use Rattle.sect_place.specs.declared.island.BranchTarget.{BranchTarget}
use Rattle.sect_place.specs.declared.layout.Layout.{Layout}
use Rattle.sect_place.specs.declared.layout.PlacedSection.{PlacedSection}
use Rattle.sect_place.specs.declared.layout.Segment.{Segment}
use Rattle.island_core.specs.declared.row.Case.{Case}
use Rattle.island_core.specs.declared.row.Case.TheVariants.{Outside, Away, Plain, Added}
use Rattle.island_core.specs.declared.row.Row.{Row}
use Rattle.islands.specs.declared.branch.Branch.{Branch}
use Rattle.islands.specs.declared.spot.Spot.{Spot}
use Rattle.islands.specs.Targets.{number_of}
use Rattle.islands.specs.Text.{groups_before, in_code, in_text, place_in}

-- ---- where a target stands

-- the section of stubs that the linker makes, which has no atoms
abbrev pub is_stubs : OutSection → Bool
is_stubs section = (is_in (codes "__TEXT") section && bytes_eq section.name (codes "__stubs") && section.kind == S_SYMBOL_STUBS) && length section.atoms == 0

-- the first byte of `__TEXT`, where the header stands
abbrev pub header_in : List Segment → ℕ
header_in segments = option_map_or (λ (s : Segment). s.address) (find (λ (s : Segment). bytes_eq s.name (codes "__TEXT")) segments) 0

abbrev pub stubs_in : List PlacedSection → Option PlacedSection
stubs_in placed = find (λ (p : PlacedSection). is_stubs p.section) placed

-- not in `__TEXT`
abbrev pub nowhere : ℕ → Spot
nowhere groups = record { inside = false; place = 0; zone = groups }

-- A place in an atom. What isn't in `__text` stands behind all groups, where it is in `__TEXT`.
abbrev pub atom_spot : Layout → List AtomKey → AtomKey → ℕ → Spot
atom_spot layout lasts key offset = record {
  inside = in_text layout key;
  place = place_in layout key + offset;
  zone = if in_code layout key then groups_before lasts key else length lasts;
}

abbrev pub goal_spot : Layout → List AtomKey → Goal → Spot
goal_spot layout lasts (Def key offset) = atom_spot layout lasts key offset
goal_spot layout lasts (WeakSelf name key offset) = atom_spot layout lasts key offset
goal_spot layout lasts Header = record { inside = true; place = header_in layout.segments; zone = 0 }
goal_spot layout lasts (Import name ordinal by_weak optional) = nowhere (length lasts)
goal_spot layout lasts (Flat name) = nowhere (length lasts)
goal_spot layout lasts Nobody = nowhere (length lasts)

-- a stub of three instructions, by its number
abbrev pub stub_spot : Option PlacedSection → ℕ → ℕ → Spot
stub_spot None groups number = nowhere groups
stub_spot (Some stubs) groups number = record { inside = true; place = stubs.address + 12 * number; zone = groups }

-- a stub stands for its goal
abbrev pub spot_by : Layout → List AtomKey → Goal → Option ℕ → Spot
spot_by layout lasts goal None = goal_spot layout lasts goal
spot_by layout lasts goal (Some number) = stub_spot (stubs_in layout.sections) (length lasts) number

unfoldable pub spot_of : Layout → List AtomKey → BranchTarget → Spot
spot_of layout lasts target = spot_by layout lasts target.goal target.stub

-- ---- branches

-- whether an addend leads nowhere else
abbrev pub is_plain : ℤ → Bool
is_plain (pos n) = n == 0
is_plain (negsuc n) = false

-- by whether the branch stands in `__text`, its target in `__TEXT`, and whether it has no addend
abbrev pub case_of : Bool → Bool → Bool → Case
case_of false inside plain = Outside
case_of true false plain = Away
case_of true true true = Plain
case_of true true false = Added

-- Rows count places from 2^63 bytes below the first address on, so that no addend leads below 0.
abbrev pub raised : ℕ → ℤ → ℕ
raised place (pos n) = place + 2 ^ 63 + n
raised place (negsuc n) = place + 2 ^ 63 - suc n

-- a branch by numbers, where the last atoms of groups and the targets are these
unfoldable pub row_of : Layout → List AtomKey → List BranchTarget → Branch → Row
row_of layout lasts targets branch =
    let spot = spot_of layout lasts branch.target in record {
      case = case_of (in_code layout branch.atom) spot.inside (is_plain branch.target.addend);
      pair = record { group = groups_before lasts branch.atom; target = number_of targets branch.target };
      from = raised (place_in layout branch.atom + branch.place) (pos 0);
      to = raised spot.place branch.target.addend;
      zone = spot.zone;
    }

abbrev pub rows_of : Layout → List AtomKey → List BranchTarget → List Branch → List Row
rows_of layout lasts targets branches = map (row_of layout lasts targets) branches
