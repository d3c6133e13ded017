-- Where pointers lead, and which of them can't be on a chain (`fixup-chains.h`: dyld_chained_ptr_64_rebase,
-- dyld_chained_starts_in_segment).
use Rattle.std.specs.Prelude.{ℕ, ◌≡◌, ◌≢◌, ◌+◌, ◌-◌, ◌%◌, ◌==◌, ◌&&◌, ◌||◌, Bool, true, not, nat_le, nat_lt, is_none, is_some, unwrap_or, ℤ, pos, ◌+ℤ◌, ◌-ℤ◌, List, Contains, codes, Option, Some, None, if◌then◌else◌}
use Rattle.std.specs.List.{find, list_any}
use Rattle.std.specs.Option.{option_cmp, option_map_or}
use Rattle.std.specs.Ordering.{nat_cmp, on, then_cmp}
use Rattle.std.specs.Str.{bytes_eq}
use Rattle.std.specs.declared.cmp.Ordering.{Ordering}
use Rattle.std.specs.declared.cmp.Ordering.TheVariants.{Greater}
use Rattle.mo_types.specs.Keys.{compare_keys}
use Rattle.mo_types.specs.declared.cause.RangeKind.{RangeKind}
use Rattle.mo_types.specs.declared.cause.RangeKind.TheVariants.{FixupPlace, RebaseTarget}
use Rattle.mo_types.specs.declared.goal.Goal.{Goal}
use Rattle.mo_types.specs.declared.goal.Goal.TheVariants as goal
use Rattle.sect_place.specs.Addresses.{address_in}
use Rattle.sect_place.specs.declared.layout.Layout.{Layout}
use Rattle.sect_place.specs.declared.layout.Segment.{Segment}
use Rattle.fixup_chain.specs.Imports.{is_bound}
use Rattle.fixup_chain.specs.Places.{PAGE, is_in, page_in}
use Rattle.fixup_chain.specs.Words.{in_rebase}
use Rattle.fixup_chain.specs.declared.chains.ChainFault.{ChainFault}
use Rattle.fixup_chain.specs.declared.chains.ChainFault.TheVariants as fault
use Rattle.fixup_chain.specs.declared.chains.Fixup.{Fixup}

abbrev pub is_text : Segment → Bool
is_text segment = bytes_eq segment.name (codes "__TEXT")

-- the address that an image's offsets count from: where `__TEXT` begins
unfoldable pub base_of : List Segment → ℕ
base_of segments = option_map_or (λ segment. segment.address) (find is_text segments) 0

-- the address of a place in an atom; all other goals count as the header
unfoldable pub goal_address : Layout → Goal → ℕ
goal_address layout (goal.Def key offset) = unwrap_or (address_in layout.placed key) 0 + offset
goal_address layout _ = base_of layout.segments

-- the offset of what a pointer leads to that is rebased
unfoldable pub target_of : Layout → Fixup → ℤ
target_of layout fixup = (pos (goal_address layout fixup.goal) +ℤ fixup.addend) -ℤ pos (base_of layout.segments)

-- no word has room for where it leads
abbrev pub is_far : Layout → Fixup → Bool
is_far layout fixup = not (is_bound fixup.goal) && is_none (in_rebase (target_of layout fixup))

-- an address of a segment at which no pointer may be: in `__TEXT`, or on a page that page_count has no number for
abbrev pub is_closed : ℕ → Segment → Bool
is_closed address segment = is_in segment address && (is_text segment || nat_le 0xffff (page_in segment address))

-- an address at which no pointer may be: in some segment, not at a multiple of 4, or on two pages
unfoldable pub is_misplaced : List Segment → ℕ → Bool
is_misplaced segments address =
    list_any (is_closed address) segments || not (address % 4 == 0) || nat_lt (PAGE - 8) (address % PAGE)

abbrev pub range_of : Fixup → RangeKind → ℤ → ChainFault
range_of fixup kind value = fault.Range fixup.atom fixup.place kind value

-- why a pointer can't be on a chain
unfoldable pub fault_of : Layout → Fixup → Option ChainFault
fault_of layout fixup =
    if is_far layout fixup then Some (range_of fixup RebaseTarget (target_of layout fixup))
    else if is_misplaced layout.segments fixup.address
    then Some (range_of fixup FixupPlace (pos fixup.address -ℤ pos (base_of layout.segments)))
    else None

-- Slots come before pointers of atoms, and these by atom and place. At a tie the lower address is first.
unfoldable pub compare_turns : Fixup → Fixup → Ordering
compare_turns =
    then_cmp (on (λ (f : Fixup). f.atom) (option_cmp compare_keys))
    (then_cmp (on (λ (f : Fixup). f.place) nat_cmp) (on (λ (f : Fixup). f.address) nat_cmp))

-- the fault of the first pointer that has one
pub record IsFirstFault (layout : Layout) (fixups : List Fixup) (why : ChainFault) : Type 0 where
  pub fixup : Fixup
  pub there : Contains fixups fixup
  pub is : fault_of layout fixup ≡ Some why
  pub first : (other : Fixup) → Contains fixups other → is_some (fault_of layout other) ≡ true → compare_turns fixup other ≢ Greater
