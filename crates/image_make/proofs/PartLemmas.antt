-- The parts of an image rise and lie apart.
use Rattle.std.proofs.Common.{◌≡◌, ℕ, ◌+◌, ◌*◌, ◌<◌, ◌≤◌, ◌^◌, ◌++◌, List, [], ◌∷◌, length, Option, Some, None, refl, ◌∙◌, arith, length-append}
use Rattle.std.specs.Prelude.{unwrap_or}
use Rattle.std.specs.List.{enumerate_from, flat_map}
use Rattle.std.specs.Option.{option_map_or}
use Rattle.fixup_chain.specs.declared.chains.ChainWord.{ChainWord}
use Rattle.fixup_chain.specs.declared.chains.Chains.{Chains}
use Rattle.fixup_chain.specs.declared.chains.Fixup.{Fixup}
use Rattle.image_join.specs.Joined.{AreRising as Rise, LieApart}
use Rattle.image_join.specs.declared.parts.Part.{Part}
use Rattle.mo_bytes.specs.Number.{number_bytes}
use Rattle.mo_bytes.proofs.Numbers.{length-number_bytes}
use Rattle.mo_types.specs.declared.goal.Goal.{Goal}
use Rattle.ref_meet.specs.Mets.{word_at}
use Rattle.sect_place.specs.Layout.{base_of}
use Rattle.sect_place.specs.declared.layout.Layout.{Layout}
use Rattle.sect_place.specs.declared.layout.PlacedSection.{PlacedSection}
use Rattle.sect_place.specs.declared.part.Made.TheVariants as made
use Rattle.slot_plan.specs.declared.list.Slots.{Slots}
use Rattle.slot_plan.specs.declared.need.Way.{Way}
use Rattle.slot_plan.specs.declared.need.Way.TheVariants.{Got, Stub, Tlv}
use Rattle.slot_place.specs.Places.{goals_for, made_for, own_section, slot_address, start_in, starts_of, unit_at, unit_of}
use Rattle.arm64_insn.specs.Low12.{low12_word}
use Rattle.arm64_insn.specs.Page.{page_word}
use Rattle.image_read.specs.Reaches.{ADRP_X16, BR_X16, LDR_X16}
use Rattle.slot_place.specs.Stubs.{pages_between, stub_bytes, stub_of, stubs_bytes, stubs_from}
use Rattle.slot_place.specs.declared.places.SlotStarts.{SlotStarts}
use Rattle.image_make.specs.Atoms.{AreLow}
use Rattle.image_make.specs.Made.{IsLaid, ImageInputs, front_of, kept_of, plan_for, plan_with}
use Rattle.image_make.specs.Parts.{image_parts, info_part, info_section, linkedit_offset, own_bytes, own_part, slot_word, slot_words, whole_size}
use Rattle.sect_place.specs.Layout.{plan_of}
use Rattle.image_make.proofs.InfoLemmas.{IsInfoOf, info_found}
use Rattle.image_make.proofs.OwnLemmas.{laid_is}
use Rattle.image_make.proofs.RoomLemmas.{base_small, counts, front_room}
use Rattle.image_make.proofs.TurnLemmas.{made_turn, made_within, own_is, rank}

-- ---- how many bytes own sections have

slots_long : (words : List ChainWord) (at n : ℕ) (goals : List Goal) → length (flat_map (slot_word words at) (enumerate_from n goals)) ≡ 8 * length goals
slots_long words at n [] = refl
slots_long words at n (goal ∷ goals) =
    let first = length-number_bytes 8 (unwrap_or (word_at words (unit_at 8 at n)) 0) in
    let rest = slots_long words at (n + 1) goals in
    length-append (slot_word words at (n, goal)) (flat_map (slot_word words at) (enumerate_from (n + 1) goals)) ∙ omega (arith, first, rest)

stub_size : (at slot : ℕ) → length (stub_bytes at slot) ≡ 12
unfolding stub_bytes
stub_size at slot =
    let first : ℕ = page_word ADRP_X16 (pages_between at slot) in
    let second : ℕ = low12_word LDR_X16 slot in
    let a = length-number_bytes 4 first in
    let b = length-number_bytes 4 second in
    let c = length-number_bytes 4 BR_X16 in
    let rest = length-append (number_bytes 4 second) (number_bytes 4 BR_X16) in
    length-append (number_bytes 4 first) (number_bytes 4 second ++ number_bytes 4 BR_X16) ∙ omega (arith, a, b, c, rest)

stub_long : (at : ℕ) (o : Option ℕ) → length (option_map_or (λ (slot : ℕ). stub_bytes at slot) o []) ≤ 12
stub_long at None = omega arith
stub_long at (Some slot) = omega (arith, stub_size at slot)

stubs_long : (starts : SlotStarts) (slots : Slots) (start n : ℕ) (goals : List Goal) → length (flat_map (stub_of starts slots start) (enumerate_from n goals)) ≤ 12 * length goals
stubs_long starts slots start n [] = omega arith
stubs_long starts slots start n (goal ∷ goals) =
    let first = stub_long (unit_at 12 start n) (slot_address starts slots Got goal) in
    let rest = stubs_long starts slots start (n + 1) goals in
    let all = length-append (stub_of starts slots start (n, goal)) (flat_map (stub_of starts slots start) (enumerate_from (n + 1) goals)) in
    omega (arith, first, rest, all)

words_long : (words : List ChainWord) (start : Option ℕ) (goals : List Goal) → length (slot_words words start goals) ≤ 8 * length goals
unfolding slot_words
words_long words None goals = omega arith
words_long words (Some at) goals = omega (arith, slots_long words at 0 goals)

all_stubs_long : (starts : SlotStarts) (slots : Slots) → length (stubs_bytes starts slots) ≤ 12 * length slots.stubs
unfolding stubs_bytes stubs_from
all_stubs_long starts slots = by starts.stubs
  where
    by : (o : Option ℕ) → length (option_map_or (stubs_from starts slots) o []) ≤ 12 * length slots.stubs
    by None = omega arith
    by (Some start) = stubs_long starts slots start 0 slots.stubs

own_long : (layout : Layout) (slots : Slots) (words : List ChainWord) (way : Way) → length (own_bytes layout slots words way) ≤ unit_of way * length (goals_for slots way)
own_long layout slots words Got = words_long words (start_in layout.sections Got) slots.got
own_long layout slots words Stub = all_stubs_long (starts_of layout.sections) slots
own_long layout slots words Tlv = words_long words (start_in layout.sections Tlv) slots.tlv

-- ---- parts that rise

-- what follows may begin at a place: an own section, if there is one, stands behind it
abbrev StartsFrom : Layout → Way → ℕ → Type 0
StartsFrom layout way at = (p : PlacedSection) → own_section layout.sections way ≡ Some p → at ≤ p.file_offset

with_own : (layout : Layout) (slots : Slots) (words : List ChainWord) (way : Way) (at end : ℕ) (rest : List Part) → StartsFrom layout way at
    → (own_section layout.sections way ≡ None → Rise at end rest) → ((p : PlacedSection) → own_section layout.sections way ≡ Some p → Rise (p.file_offset + length (own_bytes layout slots words way)) end rest)
    → Rise at end (own_part layout slots words way ++ rest)
unfolding own_part
with_own layout slots words way at end rest starts none some = by (own_section layout.sections way) refl
  where
    by : (o : Option PlacedSection) → own_section layout.sections way ≡ o → Rise at end (option_map_or (λ (p : PlacedSection). record { from = p.file_offset; bytes = own_bytes layout slots words way } ∷ []) o [] ++ rest)
    by None e = none e
    by (Some p) e = (starts p e, some p e)

with_info : (layout : Layout) (info : List ℕ) (at end : ℕ) (rest : List Part) → ((p : PlacedSection) → info_section layout.sections ≡ Some p → at ≤ p.file_offset) → (info_section layout.sections ≡ None → Rise at end rest) → ((p : PlacedSection) → info_section layout.sections ≡ Some p → Rise (p.file_offset + length info) end rest)
    → Rise at end (info_part layout info ++ rest)
unfolding info_part
with_info layout info at end rest starts none some = by (info_section layout.sections) refl
  where
    by : (o : Option PlacedSection) → info_section layout.sections ≡ o → Rise at end (option_map_or (λ (p : PlacedSection). record { from = p.file_offset; bytes = info } ∷ []) o [] ++ rest)
    by None e = none e
    by (Some p) e = (starts p e, some p e)

-- an own section ends before another place
fits : (m : ImageInputs) (layout : Layout) (words : List ChainWord) (way : Way) (p : PlacedSection) (place : ℕ) → IsLaid m layout → own_section layout.sections way ≡ Some p → p.file_offset + p.size ≤ place → p.file_offset + length (own_bytes layout m.slots words way) ≤ place
fits m layout words way p place laid e ends =
    let is = laid_is m layout way p laid e in
    let long = own_long layout m.slots words way in
    omega (arith, ends, long, is.1)

pub parts_apart : (m : ImageInputs) (layout : Layout) (fixups : List Fixup) (chains : Chains) → AreLow (kept_of m) → IsLaid m layout → LieApart (record { size = linkedit_offset layout.segments + length chains.blob; parts = image_parts layout m.slots m.info chains (front_of m layout fixups chains) })
unfolding image_parts
parts_apart m layout fixups chains low laid =
    let room = front_room m layout laid in
    let count = counts m layout fixups chains laid in
    let front = count.room in
    let lead = room.lead in (
      omega arith,
      from_stubs (0 + length (front_of m layout fixups chains)) (omega (arith, front, lead))
          (λ way p e. let within = made_within m layout (made_for way) p low laid (own_is m layout way p laid e) in omega (arith, front, within.0))
          (λ p e. let within = made_within m layout made.UnwindInfo p low laid (info_found m layout p laid e).own in omega (arith, front, within.0)),
    )
  where
    words : List ChainWord
    words = chains.words

    end : ℕ
    end = linkedit_offset layout.segments

    size : ℕ
    size = end + length chains.blob

    last : List Part
    last = record { from = end; bytes = chains.blob } ∷ []

    got_on : List Part
    got_on = own_part layout m.slots words Got ++ (own_part layout m.slots words Tlv ++ last)

    InfoFrom : ℕ → Type 0
    InfoFrom at = (p : PlacedSection) → info_section layout.sections ≡ Some p → at ≤ p.file_offset

    ends : (way : Way) (p : PlacedSection) → own_section layout.sections way ≡ Some p → p.file_offset + length (own_bytes layout m.slots words way) ≤ end
    ends way p e = fits m layout words way p end laid e (made_within m layout (made_for way) p low laid (own_is m layout way p laid e)).1

    -- an own section ends where one that is later in their order begins, or before
    to_own : (first later : Way) (p q : PlacedSection) → rank (made_for first) < rank (made_for later) → own_section layout.sections first ≡ Some p → own_section layout.sections later ≡ Some q → p.file_offset + length (own_bytes layout m.slots words first) ≤ q.file_offset
    to_own first later p q order e f = fits m layout words first p q.file_offset laid e (made_turn m layout (made_for first) (made_for later) p q low laid order (own_is m layout first p laid e) (own_is m layout later q laid f))

    at_last : (at : ℕ) → at ≤ end → Rise at size last
    at_last at before = (before, omega arith)

    from_tlv : (at : ℕ) → at ≤ end → StartsFrom layout Tlv at → Rise at size (own_part layout m.slots words Tlv ++ last)
    from_tlv at before tlv =
        with_own layout m.slots words Tlv at size last tlv (λ none. at_last at before) (λ p e. at_last (p.file_offset + length (own_bytes layout m.slots words Tlv)) (ends Tlv p e))

    from_got : (at : ℕ) → at ≤ end → StartsFrom layout Got at → StartsFrom layout Tlv at → Rise at size got_on
    from_got at before got tlv =
        with_own layout m.slots words Got at size (own_part layout m.slots words Tlv ++ last) got (λ none. from_tlv at before tlv)
        (λ p e. from_tlv (p.file_offset + length (own_bytes layout m.slots words Got)) (ends Got p e) (λ q f. to_own Got Tlv p q (omega arith) e f))

    from_info : (at : ℕ) → at ≤ end → InfoFrom at → StartsFrom layout Got at → StartsFrom layout Tlv at → Rise at size (info_part layout m.info ++ got_on)
    from_info at before info got tlv = with_info layout m.info at size got_on info (λ none. from_got at before got tlv) there
      where
        there : (p : PlacedSection) → info_section layout.sections ≡ Some p → Rise (p.file_offset + length m.info) size got_on
        there p e =
            let is = info_found m layout p laid e in
            let long = is.sized in
            let within = (made_within m layout made.UnwindInfo p low laid is.own).1 in
            from_got (p.file_offset + length m.info) (omega (arith, long, within)) (λ q f. next Got q is long f (omega arith)) (λ q f. next Tlv q is long f (omega arith))
          where
            next : (way : Way) (q : PlacedSection) → IsInfoOf m layout p → p.size ≡ length m.info → own_section layout.sections way ≡ Some q → rank made.UnwindInfo < rank (made_for way) → p.file_offset + length m.info ≤ q.file_offset
            next way q is long f order = let turn = made_turn m layout made.UnwindInfo (made_for way) p q low laid order is.own (own_is m layout way q laid f) in omega (arith, turn, long)

    from_stubs : (at : ℕ) → at ≤ end → ((way : Way) → StartsFrom layout way at) → InfoFrom at → Rise at size (own_part layout m.slots words Stub ++ (info_part layout m.info ++ got_on))
    from_stubs at before own info =
        with_own layout m.slots words Stub at size (info_part layout m.info ++ got_on) (own Stub) (λ none. from_info at before info (own Got) (own Tlv))
        (λ p e. from_info (p.file_offset + length (own_bytes layout m.slots words Stub)) (ends Stub p e)
        (λ q f. fits m layout words Stub p q.file_offset laid e (made_turn m layout made.Stubs made.UnwindInfo p q low laid (omega arith) (own_is m layout Stub p laid e) (info_found m layout q laid f).own))
        (λ q f. to_own Stub Got p q (omega arith) e f) (λ q f. to_own Stub Tlv p q (omega arith) e f))

base_is : (m : ImageInputs) → (plan_for m).base ≡ base_of m.command
unfolding plan_with plan_of
base_is m = refl

pub base_low : (m : ImageInputs) → (plan_for m).base ≤ 2 ^ 32
base_low m = let small = base_small m.command.dylib in let is = base_is m in omega (arith, is, small)

-- the file has no more bytes than the image
pub file_few : (m : ImageInputs) (layout : Layout) (chains : Chains) → IsLaid m layout → whole_size (base_of m.command) layout chains < 2 ^ 32 → linkedit_offset layout.segments + length chains.blob < 2 ^ 32
file_few m layout chains laid few =
    let room = front_room m layout laid in
    let beside = room.beside in
    let base = base_is m in
    omega (arith, few, beside, base)
