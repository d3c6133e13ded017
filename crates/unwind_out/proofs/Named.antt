-- The personality that a written section names.
use Rattle.std.proofs.Common.{◌≡◌, ◌≢◌, ℕ, ◌+◌, ◌*◌, ◌-◌, ◌/◌, ◌%◌, ◌^◌, ◌<◌, ◌≤◌, ◌==◌, ◌&&◌, ltb, leb, cond, Bool, true, false, List, [], length, get_or, Some, None, refl, ap, subst, ◌∙◌, arith, bit_and}
use Rattle.std.specs.List.{AllByRecursion, position_or_len, flat_map}
use Rattle.std.proofs.lemmas.Nat.{and_shr, and_mod, and_le_r}
use Rattle.std.proofs.lemmas.Bool.{lt-ltb, ltb-true, ltb-false, le-ltb, le-leb}
use Rattle.std.proofs.lemmas.Bool.Decides.{nat_tests}
use Rattle.std.proofs.lemmas.List.Sums.{passes_at_first}
use Rattle.list_lemmas.proofs.Members.{In, in_from_Contains, Contains_from_in, all_in, all_from_in}
use Rattle.mo_bytes.specs.Number.{number_at, number_bytes}
use Rattle.image_format.specs.Unwind.{unwind_info_header_at, unwind_info_header_bytes}
use Rattle.image_format.specs.declared.unwind.UnwindInfoHeader.{UnwindInfoHeader}
use Rattle.unwind_out.specs.declared.row.UnwindRow.{UnwindRow}
use Rattle.unwind_out.specs.Lookup.{lies, named_number, personality_at}
use Rattle.unwind_out.specs.Table.{personalities, personality_number, lsda_bit, output_encoding, end_of, lsdas_of}
use Rattle.unwind_out.specs.Pages.{info_header, IsSection}
use Rattle.unwind_out.specs.Law.{AreFields, NamesEach}
use Rattle.unwind_out.proofs.Spelling.{length-info_header}
use Rattle.unwind_out.proofs.Reading.{Stands, stands_lies, Small, numbers_at}
use Rattle.unwind_out.proofs.Whole.{HasParts, parts_of, header_read}
use Rattle.unwind_out.proofs.Slots.{personalities_are}
use Rattle.unwind_out.proofs.Firsts.{in_by_place, place_by_in}
use Rattle.unwind_out.proofs.Law.{number_low}

-- ---- the bits of an encoding

-- those of a personality aren't taken over
own_high : (encoding : ℕ) → bit_and encoding 0x8fffffff / 2 ^ 28 % 2 ^ 3 ≡ 0
own_high encoding =
    let high : bit_and encoding 0x8fffffff / 2 ^ 28 ≡ bit_and (encoding / 2 ^ 28) 8 = and_shr encoding 0x8fffffff 28 in
    let low : bit_and (encoding / 2 ^ 28) 8 % 2 ^ 3 ≡ bit_and (encoding / 2 ^ 28 % 2 ^ 3) 0 = and_mod (encoding / 2 ^ 28) 8 3 in
    let none : bit_and (encoding / 2 ^ 28 % 2 ^ 3) 0 ≡ 0 = let le = and_le_r (encoding / 2 ^ 28 % 2 ^ 3) 0 in omega arith in
    ap (λ (n : ℕ). n % 2 ^ 3) high ∙ low ∙ none

bits_by : (own number lsda : ℕ) (none : Bool) → (lsda == 0) ≡ none → own / 2 ^ 28 % 2 ^ 3 ≡ 0 → number ≤ 3 → named_number (own + 0x10000000 * number + lsda_bit lsda) ≡ number
bits_by own number lsda true e high few = rw e (omega arith)
bits_by own number lsda false e high few = rw e (omega arith)

number_named : (slots : List ℕ) (row : UnwindRow) → length slots ≤ 3 → named_number (output_encoding slots row) ≡ personality_number slots row.personality
unfolding output_encoding
number_named slots row few =
    let low = number_low slots row.personality in
    bits_by (bit_and row.encoding 0x8fffffff) (personality_number slots row.personality) row.lsda (row.lsda == 0) refl (own_high row.encoding) (omega arith)

-- ---- the number of a personality

place : List ℕ → ℕ → ℕ
place slots slot = position_or_len (λ other. other == slot) slots

number_there : (slots : List ℕ) (slot : ℕ) → place slots slot < length slots → personality_number slots slot ≡ place slots slot + 1
unfolding personality_number place
number_there slots slot low = let e = lt-ltb (position_or_len (λ other. other == slot) slots) (length slots) low in rw e refl

number_away : (slots : List ℕ) (slot : ℕ) → length slots ≤ place slots slot → personality_number slots slot ≡ 0
unfolding personality_number place
number_away slots slot high = let e = le-ltb (position_or_len (λ other. other == slot) slots) (length slots) high in rw e refl

is_there : (slots : List ℕ) (slot : ℕ) → In slot slots → place slots slot < length slots
unfolding place
is_there slots slot there = place_by_in slots slot there

there_is : (slots : List ℕ) (slot : ℕ) → place slots slot < length slots → In slot slots
unfolding place
there_is slots slot low = in_by_place slots slot low

slot_at : (slots : List ℕ) (slot : ℕ) → place slots slot < length slots → get_or slots (place slots slot) 0 ≡ slot
unfolding place
slot_at slots slot low = let passes : (get_or slots (position_or_len (λ other. other == slot) slots) 0 == slot) ≡ true = passes_at_first (λ other. other == slot) slots 0 low in grind (arith, nat_tests)

-- ---- what a section names

read_by : (section : List ℕ) (header : UnwindInfoHeader) (encoding number : ℕ) → lies section 0 28 ≡ true → unwind_info_header_at section 0 ≡ header → named_number encoding ≡ number
    → personality_at section encoding ≡ cond (ltb 0 number && leb number header.personalities_count) (number_at 4 section (header.personalities_offset + 4 * (number - 1))) None
unfolding personality_at
read_by section header encoding number whole is named =
    ap (λ (n : ℕ). cond (lies section 0 28 && ltb 0 n && leb n (unwind_info_header_at section 0).personalities_count) (number_at 4 section ((unwind_info_header_at section 0).personalities_offset + 4 * (n - 1))) None) named
    ∙ ap (λ (h : UnwindInfoHeader). cond (lies section 0 28 && ltb 0 number && leb number h.personalities_count) (number_at 4 section (h.personalities_offset + 4 * (number - 1))) None) is
    ∙ ap (λ (b : Bool). cond (b && ltb 0 number && leb number header.personalities_count) (number_at 4 section (header.personalities_offset + 4 * (number - 1))) None) whole

names_none : (section : List ℕ) (count : ℕ) → cond (ltb 0 0 && leb 0 count) (number_at 4 section (28 + 4 * (0 - 1))) None ≡ None
names_none section count = refl

names_slot : (section front slots : List ℕ) (slot number : ℕ) → length front ≡ 28 → AllByRecursion Small slots → Stands section front (flat_map (number_bytes 4) slots) → place slots slot < length slots → number ≡ place slots slot + 1
    → cond (ltb 0 number && leb number (length slots)) (number_at 4 section (28 + 4 * (number - 1))) None ≡ Some slot
names_slot section front slots slot number long small stands low is =
    let some : ltb 0 number ≡ true = lt-ltb 0 number (omega arith) in
    let within : leb number (length slots) ≡ true = le-leb number (length slots) (omega arith) in
    let at : 28 + 4 * (number - 1) ≡ length front + 4 * place slots slot = omega arith in
    let read : number_at 4 section (length front + 4 * place slots slot) ≡ Some (get_or slots (place slots slot) 0) = numbers_at section front slots (place slots slot) small low stands in
    let test : (ltb 0 number && leb number (length slots)) ≡ true = ap (λ (b : Bool). b && leb number (length slots)) some ∙ within in
    ap (λ (b : Bool). cond b (number_at 4 section (28 + 4 * (number - 1))) None) test
    ∙ ap (number_at 4 section) at ∙ read ∙ ap Some (slot_at slots slot low)

slots_small : (rows : List UnwindRow) → AllByRecursion AreFields rows → AllByRecursion Small (personalities rows)
slots_small rows fields = all_from_in Small (personalities rows) (λ slot there.
    let from = (personalities_are rows).only slot (Contains_from_in (personalities rows) slot there) in
    let here : AreFields from.1 = all_in AreFields rows from.1 fields (in_from_Contains rows from.1 from.2) in
    let small : from.1.personality < 2 ^ 32 = here.personality in
    subst Small from.3 small)

named_by : (rows : List UnwindRow) (section : List ℕ) (pages : ℕ) (front : List ℕ) (row : UnwindRow) (none : Bool) → (row.personality == 0) ≡ none → In row rows → length front ≡ 28 → length (personalities rows) ≤ 3 → AllByRecursion AreFields rows
    → lies section 0 28 ≡ true → unwind_info_header_at section 0 ≡ info_header (length (personalities rows)) pages → Stands section front (flat_map (number_bytes 4) (personalities rows))
    → personality_at section (output_encoding (personalities rows) row) ≡ cond none None (Some row.personality)
named_by rows section pages front row true e there long few fields whole header stands =
    let slots = personalities rows in
    let zero' : row.personality ≡ 0 = grind (arith, nat_tests) in
    let away : length slots ≤ place slots row.personality = absent (ltb (place slots row.personality) (length slots)) refl in
    let number : named_number (output_encoding slots row) ≡ 0 = number_named slots row few ∙ number_away slots row.personality away in
    read_by section (info_header (length slots) pages) (output_encoding slots row) 0 whole header number ∙ names_none section (length slots)
  where
    absent : (low : Bool) → ltb (place (personalities rows) row.personality) (length (personalities rows)) ≡ low → length (personalities rows) ≤ place (personalities rows) row.personality
    absent true f =
        let is : In row.personality (personalities rows) = there_is (personalities rows) row.personality (ltb-true (place (personalities rows) row.personality) (length (personalities rows)) f) in
        let from = (personalities_are rows).only row.personality (Contains_from_in (personalities rows) row.personality is) in
        let zero' : row.personality ≡ 0 = grind (arith, nat_tests) in
        absurd (from.0 zero')
    absent false f = ltb-false (place (personalities rows) row.personality) (length (personalities rows)) f
named_by rows section pages front row false e there long few fields whole header stands =
    let slots = personalities rows in
    let some : row.personality ≢ 0 = λ none'. let test : (row.personality == 0) ≡ true = grind (arith, nat_tests) in cc in
    let low : place slots row.personality < length slots =
    is_there slots row.personality (in_from_Contains slots row.personality ((personalities_are rows).each row (Contains_from_in rows row there) some)) in
    let number : named_number (output_encoding slots row) ≡ place slots row.personality + 1 = number_named slots row few ∙ number_there slots row.personality low in
    read_by section (info_header (length slots) pages) (output_encoding slots row) (place slots row.personality + 1) whole header number
    ∙ names_slot section front slots row.personality (place slots row.personality + 1) long (slots_small rows fields) stands low refl

pub named_each : (rows : List UnwindRow) (section : List ℕ) → IsSection rows section → length (personalities rows) ≤ 3 → AllByRecursion AreFields rows → NamesEach rows section
named_each rows section is few fields = λ row there.
    let slots = personalities rows in
    let parts : HasParts section slots (lsdas_of rows) (end_of rows) is.pages = parts_of section slots (lsdas_of rows) (end_of rows) is.pages is.spelled in
    let header = info_header (length slots) (length is.pages) in
    let whole : lies section 0 28 ≡ true = stands_lies section [] (unwind_info_header_bytes header) 28 parts.header (let long = length-info_header header in omega arith) in
    named_by rows section (length is.pages) parts.slot_front row (row.personality == 0) refl (in_from_Contains rows row there) parts.slot_at few fields whole (header_read section slots (length is.pages) few parts.header) parts.slot
