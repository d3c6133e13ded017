-- References that tell an address or a distance themselves, where another image has the goal (`mach-o/arm64/reloc.h`:
-- ARM64_RELOC_PAGE21, ARM64_RELOC_PAGEOFF12, ARM64_RELOC_SUBTRACTOR, ARM64_RELOC_ADDEND).
use Rattle.std.specs.Prelude.{ℕ, ◌≡◌, ◌≢◌, ◌&&◌, Bool, true, false, not, ℤ, List, [], map, fold, slice_get, Option, Some, None, MatchOption, Contains, if◌then◌else◌}
use Rattle.std.specs.List.{enumerate_from, filter, flat_map, list_any}
use Rattle.std.specs.Option.{option_map_or}
use Rattle.std.specs.Ordering.{is_lt, nat_cmp, on, then_cmp}
use Rattle.std.specs.declared.cmp.Ordering.{Ordering}
use Rattle.std.specs.declared.cmp.Ordering.TheVariants.{Greater}
use Rattle.image_read.specs.Reaches.{is_zero}
use Rattle.liveness.specs.Undefined.{targets_of}
use Rattle.mark_core.specs.Kept.{has}
use Rattle.mo_types.specs.Keys.{compare_keys}
use Rattle.mo_types.specs.declared.goal.Goal.{Goal}
use Rattle.mo_types.specs.declared.key.AtomKey.{AtomKey}
use Rattle.mo_types.specs.declared.loaded.LoadedFile.{LoadedFile}
use Rattle.mo_types.specs.declared.reference.Ref.{Ref}
use Rattle.mo_types.specs.declared.reference.RefKind.{RefKind}
use Rattle.mo_types.specs.declared.reference.RefKind.TheVariants.{Branch, Diff32, Diff64, Page, PageOff}
use Rattle.mo_types.specs.declared.reference.Target.{Target}
use Rattle.mo_types.specs.declared.reference.Target.TheVariants.{Name, Local}
use Rattle.resolve.specs.Table.{goals_of}
use Rattle.slot_needs.specs.Needs.{is_outer}
use Rattle.slot_needs.specs.declared.referring.Referring.{Referring}
use Rattle.slot_needs.specs.declared.unmet.Unmet.{Unmet}

-- a reference tells the address of its goal, or a distance from it, and goes by no slot and no fixup: a page, a place in a
-- page, a difference, and a branch to which something is added
abbrev pub tells_address : RefKind → ℤ → Bool
tells_address Branch addend = not (is_zero addend)
tells_address Page addend = true
tells_address PageOff addend = true
tells_address Diff32 addend = true
tells_address Diff64 addend = true
tells_address _ addend = false

-- a target leads to another image, by the goals of its file's symbols
abbrev pub leads_out : List Goal → Target → Bool
leads_out goals (Name index) = option_map_or is_outer (slice_get goals index) false
leads_out goals (Local atom offset) = false

-- a reference tells an address, and its goal or what is subtracted is in another image
unfoldable pub is_unmet : List Goal → Ref → Bool
is_unmet goals r = tells_address r.kind r.addend && list_any (leads_out goals) (targets_of r.target r.minus)

-- a reference does, and its atom is kept
abbrev pub is_kept_unmet : List AtomKey → List Goal → Ref → Bool
is_kept_unmet keys goals r = is_unmet goals r && has keys r.atom

abbrev pub unmet_by : ℕ → Ref → Unmet
unmet_by file r = record { file = file; reference = r }

-- those among some references of the file at a place
abbrev pub unmet_among : List AtomKey → List Goal → ℕ → List Ref → List Unmet
unmet_among keys goals file refs = map (unmet_by file) (filter (is_kept_unmet keys goals) refs)

-- those of a file, whose symbols have the goals at its place
unfoldable pub unmet_at : List AtomKey → List (List Goal) → ℕ × LoadedFile → List Unmet
unmet_at keys goals p = option_map_or (λ some. unmet_among keys some p.0 p.1.refs) (slice_get goals p.0) []

-- those of all files
unfoldable pub unmet : List AtomKey → List (List Goal) → List LoadedFile → List Unmet
unmet keys goals files = flat_map (unmet_at keys goals) (enumerate_from 0 files)

abbrev pub unmet_of : Referring → List Unmet
unmet_of r = unmet r.keys.now (goals_of r.goals.now) r.loaded.now.files

-- by atom, and then by the place in the atom
unfoldable pub compare_unmet : Unmet → Unmet → Ordering
compare_unmet = then_cmp (on (λ (u : Unmet). u.reference.atom) compare_keys) (on (λ (u : Unmet). u.reference.place) nat_cmp)

-- of two the lesser one, and the earlier where neither is
abbrev pub lesser : Option Unmet → Unmet → Option Unmet
lesser None next = Some next
lesser (Some least) next = if is_lt (compare_unmet next least) then Some next else Some least

-- the least of some
abbrev pub least_unmet : List Unmet → Option Unmet
least_unmet all = fold lesser None all

-- There is none, or this is one, and none is before it.
abbrev pub IsFirst : List Unmet → Option Unmet → Type 0
IsFirst all found =
    MatchOption found (all ≡ []) (λ first. Contains all first × ((other : Unmet) → Contains all other → compare_unmet first other ≢ Greater))
