-- What the section `__unwind_info` of an image says of each kept entry.
use Rattle.std.proofs.Common.{◌≡◌, ℕ, ◌+◌, ◌-◌, ◌*◌, ◌/◌, ◌%◌, ◌^◌, ◌<◌, ◌≤◌, ◌==◌, ◌⊎◌, inl, inr, pos, bit_and, if◌then◌else◌, Bool, true, false, List, map, length, Option, Some, None, Contains, refl, sym, ap, ◌∙◌, arith, subst}
use Rattle.std.specs.Prelude.{All, IfSome, IsSome}
use Rattle.std.specs.Option.{option_map_or}
use Rattle.std.proofs.lemmas.Bool.{cases_lt, false≢true, ne_eqb}
use Rattle.std.proofs.lemmas.List.Sorted.{Contains-permutation, IsPermutation-sym}
use Rattle.std.proofs.lemmas.Nat.{and_block, and_le_r, and_mask, and_mod}
use Rattle.list_lemmas.proofs.Members.{Contains_from_in, In, all_from_in, from_map, in_from_Contains, in_map}
use Rattle.field_laws.specs.Pointers.{addresses_of}
use Rattle.image_read.specs.Fixups.{fixup_at}
use Rattle.image_read.specs.Held.{Held}
use Rattle.mo_types.specs.Loaded.{IsWholeFile}
use Rattle.mo_types.specs.declared.goal.Goal.{Goal}
use Rattle.mo_types.specs.declared.goal.Goal.TheVariants.{Def}
use Rattle.mo_types.specs.declared.key.AtomKey.{AtomKey}
use Rattle.mo_types.specs.declared.reference.Target.{Target}
use Rattle.ref_meet.specs.Addresses.{address_by, place_address}
use Rattle.ref_meet.specs.Scene.{Scene}
use Rattle.sect_place.specs.Layout.{base_of}
use Rattle.sect_place.specs.declared.layout.Layout.{Layout}
use Rattle.slot_place.specs.Places.{slot_address, starts_of}
use Rattle.slot_plan.specs.declared.need.Way.TheVariants.{Got}
use Rattle.unwind_link.specs.Goals.{goal_at}
use Rattle.unwind_link.specs.Rows.{AreRows, offset_of, place_offset, row_of, slot_offset}
use Rattle.unwind_link.specs.declared.kept.KeptUnwind.{KeptUnwind}
use Rattle.unwind_out.specs.Law.{IsQuiet, Outside}
use Rattle.unwind_out.specs.Lookup.{personality_at, unwind}
use Rattle.unwind_out.specs.Table.{lsda_bit, output_encoding, personalities, personality_number}
use Rattle.unwind_out.specs.declared.row.UnwindRow.{UnwindRow}
use Rattle.unwind_out.proofs.Law.{number_low}
use Rattle.image_make.specs.Made.{IsLaid, ImageInputs, scene_of}
use Rattle.image_make.proofs.RoomLemmas.{counts}
use Rattle.image_laws.specs.Means.{AreRising, Imaged, IsGoalAt}
use Rattle.image_laws.specs.References.{AreFillable}
use Rattle.image_laws.specs.Unwinding.{AreUnwindable, IsDataAt, IsEntryServed, IsHandlerAt, IsInNoFunction, TellsEntry, TellsUnwinding, data_flag}
use Rattle.image_laws.proofs.EntryPlaces.{data_stands, function_stands}
use Rattle.image_laws.proofs.Goals.{goal_same, place_behind, way_above}
use Rattle.image_laws.proofs.Layouts.{held_in_layout, is_plan, own_in}
use Rattle.image_laws.proofs.Stubbing.{slot_held}
use Rattle.image_laws.proofs.Units.{unit_found, unit_there}

-- ---- the encoding

-- all bits but 28 to 30
masked : (n : ℕ) → bit_and n 0x8fffffff ≡ bit_and (n / 2 ^ 28) 8 * 2 ^ 28 + n % 2 ^ 28
masked n =
    let split : n ≡ n / 2 ^ 28 * 2 ^ 28 + n % 2 ^ 28 = omega arith in
    let low : bit_and (n % 2 ^ 28) (2 ^ 28 - 1) ≡ n % 2 ^ 28 = and_mask (n % 2 ^ 28) 28 ∙ omega arith in
    ap (λ (k : ℕ). bit_and k 0x8fffffff) split
    ∙ and_block 28 (n / 2 ^ 28) 8 (n % 2 ^ 28) (2 ^ 28 - 1) (omega arith) (omega arith)
    ∙ ap (λ (k : ℕ). bit_and (n / 2 ^ 28) 8 * 2 ^ 28 + k) low

-- the bit 3 alone
one_bit : (n : ℕ) → (bit_and n 8 ≡ 0) ⊎ (bit_and n 8 ≡ 8)
one_bit n =
    let most = and_le_r n 8 in
    let low : bit_and n 8 % 2 ^ 3 ≡ bit_and (n % 2 ^ 3) 0 = and_mod n 8 3 in
    let none = and_le_r (n % 2 ^ 3) 0 in
    elim (cases_lt 0 (bit_and n 8)) [ inl some ↦ inr (omega (arith, most, low, none, some)) | inr zero ↦ inl (omega (arith, zero)) ]

-- it stays, whatever stands below it
stays : (bit more : ℕ) → (bit ≡ 0) ⊎ (bit ≡ 8) → more ≤ 7 → bit_and (bit + more) 8 ≡ bit
stays bit more (inl none) few =
    let here : bit + more ≡ 0 * 2 ^ 3 + more = omega arith in
    let clear = and_le_r more 0 in
    let same : bit_and 0 1 ≡ 0 = refl in
    let block : bit_and (0 * 2 ^ 3 + more) 8 ≡ bit_and 0 1 * 2 ^ 3 + bit_and more 0 = and_block 3 0 1 more 0 (omega arith) (omega arith) in
    ap (λ (k : ℕ). bit_and k 8) here ∙ block ∙ omega (arith, clear, same, none)
stays bit more (inr some) few =
    let here : bit + more ≡ 1 * 2 ^ 3 + more = omega arith in
    let clear = and_le_r more 0 in
    let same : bit_and 1 1 ≡ 1 = refl in
    let block : bit_and (1 * 2 ^ 3 + more) 8 ≡ bit_and 1 1 * 2 ^ 3 + bit_and more 0 = and_block 3 1 1 more 0 (omega arith) (omega arith) in
    ap (λ (k : ℕ). bit_and k 8) here ∙ block ∙ omega (arith, clear, same, some)

with_bits : (n more : ℕ) → more ≤ 7 → bit_and (bit_and n 0x8fffffff + 0x10000000 * more) 0x8fffffff ≡ bit_and n 0x8fffffff
with_bits n more few =
    let own = masked n in
    let high : (bit_and n 0x8fffffff + 0x10000000 * more) / 2 ^ 28 ≡ bit_and (n / 2 ^ 28) 8 + more = omega (arith, own) in
    let low : (bit_and n 0x8fffffff + 0x10000000 * more) % 2 ^ 28 ≡ n % 2 ^ 28 = omega (arith, own) in
    let bit : bit_and ((bit_and n 0x8fffffff + 0x10000000 * more) / 2 ^ 28) 8 ≡ bit_and (n / 2 ^ 28) 8 = ap (λ (k : ℕ). bit_and k 8) high ∙ stays (bit_and (n / 2 ^ 28) 8) more (one_bit (n / 2 ^ 28)) few in
    masked (bit_and n 0x8fffffff + 0x10000000 * more) ∙ omega (arith, own, bit, low)

bits_by : (n number lsda : ℕ) (none : Bool) → (lsda == 0) ≡ none → number ≤ 3 → bit_and (bit_and n 0x8fffffff + 0x10000000 * number + lsda_bit lsda) 0x8fffffff ≡ bit_and n 0x8fffffff
bits_by n number lsda true e few =
    let same : bit_and n 0x8fffffff + 0x10000000 * number + 0 ≡ bit_and n 0x8fffffff + 0x10000000 * number = omega arith in
    rw e (ap (λ (k : ℕ). bit_and k 0x8fffffff) same ∙ with_bits n number (omega arith))
bits_by n number lsda false e few =
    let same : bit_and n 0x8fffffff + 0x10000000 * number + 0x40000000 ≡ bit_and n 0x8fffffff + 0x10000000 * (number + 4) = omega arith in
    rw e (ap (λ (k : ℕ). bit_and k 0x8fffffff) same ∙ with_bits n (number + 4) (omega arith))

-- an encoding keeps all bits but those of UNWIND_HAS_LSDA and UNWIND_PERSONALITY_MASK
own_bits : (slots : List ℕ) (row : UnwindRow) → length slots ≤ 3 → bit_and (output_encoding slots row) 0x8fffffff ≡ bit_and row.encoding 0x8fffffff
unfolding output_encoding
own_bits slots row few =
    let low = number_low slots row.personality in
    bits_by row.encoding (personality_number slots row.personality) row.lsda (row.lsda == 0) refl (omega (arith, low, few))

flag_by : (n number lsda : ℕ) (none : Bool) → (lsda == 0) ≡ none → number ≤ 3 → data_flag (bit_and n 0x8fffffff + 0x10000000 * number + lsda_bit lsda) ≡ (if none then 0 else 1)
flag_by n number lsda true e few =
    let own = masked n in
    rw e (elim (one_bit (n / 2 ^ 28)) [ inl low ↦ omega (arith, own, low, few) | inr high ↦ omega (arith, own, high, few) ])
flag_by n number lsda false e few =
    let own = masked n in
    rw e (elim (one_bit (n / 2 ^ 28)) [ inl low ↦ omega (arith, own, low, few) | inr high ↦ omega (arith, own, high, few) ])

-- UNWIND_HAS_LSDA is set where there are data
flag_is : (slots : List ℕ) (row : UnwindRow) → length slots ≤ 3 → data_flag (output_encoding slots row) ≡ (if row.lsda == 0 then 0 else 1)
unfolding output_encoding
flag_is slots row few =
    let low = number_low slots row.personality in
    flag_by row.encoding (personality_number slots row.personality) row.lsda (row.lsda == 0) refl (omega (arith, low, few))

-- ---- places

place_far : (s : Scene) (key : AtomKey) (offset address : ℕ) → place_address s.layout.placed key offset ≡ Some address → place_offset s key offset ≡ address - s.base
unfolding place_offset
place_far s key offset address e = ap (λ (o : Option ℕ). offset_of s.base o) e

place_above : (m : ImageInputs) (layout : Layout) (key : AtomKey) (offset address : ℕ) → IsLaid m layout → place_address layout.placed key offset ≡ Some address → base_of m.command ≤ address
unfolding address_by
place_above m layout key offset address laid e = way_above m layout None (Def key offset) address laid e

-- a place in an atom is a goal, so far from the image's first address as it is told
place_goal : (m : ImageInputs) (image : List ℕ) (of : Imaged m image) (key : AtomKey) (offset : ℕ) → AreRising m → IsSome (place_address of.layout.placed key offset) → IsGoalAt image of.layout (Def key offset) (base_of m.command + place_offset (scene_of m of.layout) key offset)
place_goal m image of key offset rising some = by (place_address of.layout.placed key offset) refl some
  where
    by : (found : Option ℕ) → place_address of.layout.placed key offset ≡ found → IsSome found → IsGoalAt image of.layout (Def key offset) (base_of m.command + place_offset (scene_of m of.layout) key offset)
    by None e none = absurd (false≢true none)
    by (Some address) e has =
        let far : place_offset (scene_of m of.layout) key offset ≡ address - base_of m.command = place_far (scene_of m of.layout) key offset address e in
        let above = place_above m of.layout key offset address of.is_image.laid e in
        let here : address ≡ base_of m.command + place_offset (scene_of m of.layout) key offset = omega (arith, far, above) in
        subst (λ (n : ℕ). IsGoalAt image of.layout (Def key offset) n) here (sym (goal_same m image of (Def key offset) rising) ∙ e)

-- ---- slots

slot_far : (s : Scene) (file : ℕ) (target : Target) (address : ℕ) → slot_address (starts_of s.layout.sections) s.slots Got (goal_at s.literals s.goals file target) ≡ Some address → slot_offset s file target ≡ address - s.base
unfolding slot_offset
slot_far s file target address e = ap (λ (o : Option ℕ). offset_of s.base o) e

-- a slot stands behind the header
slot_above : (m : ImageInputs) (image : List ℕ) (of : Imaged m image) (goal : Goal) (address : ℕ) → slot_address (starts_of of.layout.sections) m.slots Got goal ≡ Some address → base_of m.command < address
slot_above m image of goal address e =
    let laid : IsLaid m of.layout = of.is_image.laid in
    let unit = unit_found m of.layout Got goal address e in
    let by = held_in_layout m of.layout unit.placed laid (own_in m of.layout Got unit.placed unit.section) in
    let behind = by.behind in
    let count = counts m of.layout of.fixups of.chains laid in
    let front = count.front in
    let room = count.room in
    let base = (is_plan m of.layout laid).base in
    let stands : address ≡ unit.placed.address + 8 * unit.number = unit.stands in
    omega (arith, behind, front, room, base, stands)

-- ---- an entry's row

row_personality : (s : Scene) (entry : KeptUnwind) → (row_of s entry).personality ≡ option_map_or (slot_offset s entry.file) entry.unwind.personality 0
unfolding row_of
row_personality s entry = refl

row_lsda : (s : Scene) (entry : KeptUnwind) → (row_of s entry).lsda ≡ option_map_or (λ (place : AtomKey × ℕ). place_offset s place.0 place.1) entry.unwind.lsda 0
unfolding row_of
row_lsda s entry = refl

row_start : (s : Scene) (entry : KeptUnwind) → (row_of s entry).function ≡ place_offset s entry.unwind.atom entry.unwind.offset
unfolding row_of
row_start s entry = refl

row_end : (s : Scene) (entry : KeptUnwind) → (row_of s entry).end ≡ (row_of s entry).function + entry.unwind.length
unfolding row_of
row_end s entry = refl

row_encoding : (s : Scene) (entry : KeptUnwind) → (row_of s entry).encoding ≡ entry.unwind.encoding
unfolding row_of
row_encoding s entry = refl

has_row : (s : Scene) (kept : List KeptUnwind) (rows : List UnwindRow) (entry : KeptUnwind) → AreRows s kept rows → Contains kept entry → Contains rows (row_of s entry)
has_row s kept rows entry are there =
    Contains-permutation (map (row_of s) kept) rows (row_of s entry) are.each (Contains_from_in (map (row_of s) kept) (row_of s entry) (in_map (row_of s) kept entry (in_from_Contains kept entry there)))

-- ---- its data and its personality

data_at : (m : ImageInputs) (image : List ℕ) (of : Imaged m image) (lsda : Option (AtomKey × ℕ)) → AreRising m → IfSome lsda (λ (place : AtomKey × ℕ). IsSome (place_address of.layout.placed place.0 place.1)) → IsDataAt m of.layout image lsda (option_map_or (λ (place : AtomKey × ℕ). place_offset (scene_of m of.layout) place.0 place.1) lsda 0)
data_at m image of None rising some = refl
data_at m image of (Some place) rising some = place_goal m image of place.0 place.1 rising some

-- language-specific data stand behind the header
flagged : (m : ImageInputs) (image : List ℕ) (of : Imaged m image) (lsda : Option (AtomKey × ℕ)) (offset : ℕ) → IfSome lsda (λ (place : AtomKey × ℕ). IsSome (place_address of.layout.placed place.0 place.1)) → offset ≡ option_map_or (λ (place : AtomKey × ℕ). place_offset (scene_of m of.layout) place.0 place.1) lsda 0
    → ◌≡◌ {A = ℕ} (if offset == 0 then 0 else 1) (option_map_or (λ (place : AtomKey × ℕ). 1) lsda 0)
flagged m image of None offset some e = rw e refl
flagged m image of (Some place) offset some e = by (place_address of.layout.placed place.0 place.1) refl some
  where
    by : (found : Option ℕ) → place_address of.layout.placed place.0 place.1 ≡ found → IsSome found → ◌≡◌ {A = ℕ} (if offset == 0 then 0 else 1) 1
    by None at none = absurd (false≢true none)
    by (Some address) at has =
        let far : place_offset (scene_of m of.layout) place.0 place.1 ≡ address - base_of m.command = place_far (scene_of m of.layout) place.0 place.1 address at in
        let behind = place_behind m of.layout place.0 place.1 address of.is_image.laid at in
        let same : offset ≡ place_offset (scene_of m of.layout) place.0 place.1 = e in
        let away : (offset == 0) ≡ false = ne_eqb offset 0 (λ none. omega (arith, none, same, far, behind)) in
        rw away refl

-- a number that isn't 0 is named
named_some : (slot : ℕ) (found : Option ℕ) → 0 < slot → found ≡ (if slot == 0 then None else Some slot) → found ≡ Some slot
named_some slot found some is =
    let away : (slot == 0) ≡ false = ne_eqb slot 0 (λ none. omega (arith, some, none)) in
    is ∙ ap (λ (b : Bool). if b then None else Some slot) away

handler_at : (m : ImageInputs) (image : List ℕ) (of : Imaged m image) (file : ℕ) (personality : Option Target) (found : Option ℕ) (slot : ℕ) → All IsWholeFile m.files → AreRising m → AreFillable (scene_of m of.layout) of.fixups → IfSome personality (λ (target : Target). Contains m.slots.got (goal_at m.literals m.goals file target))
    → slot ≡ option_map_or (slot_offset (scene_of m of.layout) file) personality 0 → found ≡ (if slot == 0 then None else Some slot) → IsHandlerAt m of.layout image file personality found
handler_at m image of file None found slot whole rising fillable has is named = named ∙ ap (λ (n : ℕ). if n == 0 then None else Some n) is
handler_at m image of file (Some target) found slot whole rising fillable has is named =
    let goal : Goal = goal_at m.literals m.goals file target in
    let unit = unit_there m of.layout Got goal of.is_image.laid has in
    let far : slot_offset (scene_of m of.layout) file target ≡ unit.0 - base_of m.command = slot_far (scene_of m of.layout) file target unit.0 unit.1 in
    let same : slot ≡ slot_offset (scene_of m of.layout) file target = is in
    let above = slot_above m image of goal unit.0 unit.1 in
    let here : unit.0 ≡ base_of m.command + slot = omega (arith, far, above, same) in
    let held = slot_held m image of Got goal unit.0 whole rising fillable tt unit.1 in (
      slot,
      named_some slot found (omega (arith, above, here)) named,
      subst (λ (n : ℕ). Held image (addresses_of of.layout.placed) (fixup_at image n) goal (pos 0)) here held,
    )

-- ---- the entry

pub told_entry : (m : ImageInputs) (image : List ℕ) (of : Imaged m image) (entry : KeptUnwind) → AreUnwindable m → AreFillable (scene_of m of.layout) of.fixups → TellsUnwinding m of.layout image → Contains m.unwinds entry → IsEntryServed m entry → TellsEntry m of.layout image entry
told_entry m image of entry able fillable told there served = record {
  start = row.function;
  function = subst (λ (n : ℕ). IsGoalAt image of.layout (Def entry.unwind.atom entry.unwind.offset) (base_of m.command + n)) (sym (row_start scene entry)) (place_goal m image of entry.unwind.atom entry.unwind.offset able.rising (function_stands m of.layout entry able of.is_image.laid there));
  encoding = output_encoding slots row;
  lsda = row.lsda;
  found = λ k low. (let end : row.end ≡ row.function + entry.unwind.length = row_end scene entry in told.finds row (row.function + k) listed (omega arith) (omega (arith, low, end)));
  own = own_bits slots row told.few ∙ ap (λ (n : ℕ). bit_and n 0x8fffffff) (row_encoding scene entry);
  flag = flag_is slots row told.few ∙ flagged m image of entry.unwind.lsda row.lsda (data_stands m of.layout entry able of.is_image.laid there served.lsda) (row_lsda scene entry);
  lsda_at = subst (IsDataAt m of.layout image entry.unwind.lsda) (sym (row_lsda scene entry)) (data_at m image of entry.unwind.lsda able.rising (data_stands m of.layout entry able of.is_image.laid there served.lsda));
  handler = handler_at m image of entry.file entry.unwind.personality (personality_at m.info (output_encoding slots row)) row.personality able.whole.files able.rising fillable served.handler (row_personality scene entry) (told.names row listed);
}
  where
    scene : Scene
    scene = scene_of m of.layout

    row : UnwindRow
    row = row_of scene entry

    slots : List ℕ
    slots = personalities told.rows

    listed : Contains told.rows row
    listed = has_row scene m.unwinds told.rows entry told.are_rows there

-- ---- other places

entry_of : (s : Scene) (kept : List KeptUnwind) (rows : List UnwindRow) (row : UnwindRow) → AreRows s kept rows → In row rows → (entry : KeptUnwind) × In entry kept × (row_of s entry ≡ row)
entry_of s kept rows row are h =
    let there = Contains-permutation rows (map (row_of s) kept) row (IsPermutation-sym (map (row_of s) kept) rows are.each) (Contains_from_in rows row h) in
    from_map (row_of s) kept row (in_from_Contains (map (row_of s) kept) row there)

pub told_nothing : (m : ImageInputs) (image : List ℕ) (of : Imaged m image) (offset : ℕ) → AreUnwindable m → TellsUnwinding m of.layout image → IsInNoFunction m of.layout image offset → IsQuiet (unwind m.info offset)
told_nothing m image of offset able told none = told.no_other offset (all_from_in (Outside offset) told.rows each)
  where
    scene : Scene
    scene = scene_of m of.layout

    clear : (entry : KeptUnwind) → In entry m.unwinds → Outside offset (row_of scene entry)
    clear entry h low high =
        let there = Contains_from_in m.unwinds entry h in
        let start = row_start scene entry in
        let end = row_end scene entry in
        none entry (place_offset scene entry.unwind.atom entry.unwind.offset) there
        (place_goal m image of entry.unwind.atom entry.unwind.offset able.rising (function_stands m of.layout entry able of.is_image.laid there))
        (omega (arith, low, start)) (omega (arith, high, start, end))

    each : (row : UnwindRow) → In row told.rows → Outside offset row
    each row h =
        let from = entry_of scene m.unwinds told.rows row told.are_rows h in
        subst (Outside offset) from.2 (clear from.0 from.1)
