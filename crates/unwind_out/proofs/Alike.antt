-- Functions that are alike have sections of one size.
use Rattle.std.proofs.Common.{◌≡◌, ◌≢◌, ℕ, ◌+◌, ◌<◌, ◌==◌, ◌*◌, ltb, not, Bool, true, false, inl, inr, List, [], ◌∷◌, ◌++◌, length, map, bit_and, refl, sym, ap, subst, ◌∙◌, arith, cond, length-append}
use Rattle.std.specs.List.{AllByRecursion, position_or_len}
use Rattle.std.proofs.lemmas.Bool.Decides.{nat_tests}
use Rattle.std.proofs.lemmas.List.{length-map}
use Rattle.list_lemmas.proofs.Members.{In, Contains_from_in, all_in, all_from_in}
use Rattle.image_format.specs.declared.unwind.RegularPageEntry.{RegularPageEntry}
use Rattle.unwind_out.specs.declared.row.UnwindRow.{UnwindRow}
use Rattle.unwind_out.specs.Table.{with_slot, with_personality, slots_with, personalities, personality_number, lsda_bit, output_encoding, gap, rows_of, row_of, end_of, lsda_of, lsdas_of}
use Rattle.unwind_out.specs.Pages.{ArePages, IsSection}
use Rattle.unwind_out.specs.Held.{section_size}
use Rattle.unwind_out.specs.Law.{AreAlike, IsAlike, KeepsOrder}
use Rattle.unwind_out.proofs.One.{pages_one}
use Rattle.unwind_out.proofs.Sizes.{length-section}
use Rattle.unwind_out.proofs.Slots.{Way, below, same, above, way, with_low, with_same, with_high, with_none, from_with, slots_own}

-- ---- slots that are moved in their order

-- among some numbers, with which nothing counts as well
record Moves (by : ℕ → ℕ) (among : List ℕ) : Type 0 where
  none : by 0 ≡ 0
  zero' : In 0 among
  order : (a b : ℕ) → In a among → In b among → a < b → by a < by b

moves_from : (by : ℕ → ℕ) (slots : List ℕ) → KeepsOrder by slots → Moves by (0 ∷ slots)
moves_from by slots keeps = record { none = keeps.none; zero' = inl refl; order = rises }
  where
    rises : (a b : ℕ) → In a (0 ∷ slots) → In b (0 ∷ slots) → a < b → by a < by b
    rises a b (inl e) (inl f) low = absurd (omega (arith, e, f, low))
    rises a b (inl e) (inr q) low =
        let first : by a ≡ 0 = ap by (sym e) ∙ keeps.none in
        let second : 0 < by b = keeps.some b (Contains_from_in slots b q) in
        omega (arith, first, second)
    rises a b (inr p) (inl f) low = absurd (omega (arith, f, low))
    rises a b (inr p) (inr q) low = keeps.order a b (Contains_from_in slots a p) (Contains_from_in slots b q) low

-- ---- the slots of others

slot_moved_by : (by : ℕ → ℕ) (among : List ℕ) (slot other : ℕ) (slots : List ℕ) → Moves by among → In slot among → In other among → Way slot other
    → with_slot (by slot) (map by slots) ≡ map by (with_slot slot slots) → with_slot (by slot) (map by (other ∷ slots)) ≡ map by (with_slot slot (other ∷ slots))
slot_moved_by by among slot other slots moves p q (below low) rest =
    with_low (by slot) (by other) (map by slots) (moves.order slot other p q low) ∙ ap (map by) (sym (with_low slot other slots low))
slot_moved_by by among slot other slots moves p q (same e) rest =
    with_same (by slot) (by other) (map by slots) (ap by e) ∙ ap (map by) (sym (with_same slot other slots e))
slot_moved_by by among slot other slots moves p q (above high) rest =
    with_high (by slot) (by other) (map by slots) (moves.order other slot q p high)
    ∙ ap (λ (numbers : List ℕ). by other ∷ numbers) rest
    ∙ ap (map by) (sym (with_high slot other slots high))

slot_moved : (by : ℕ → ℕ) (among : List ℕ) (slot : ℕ) (slots : List ℕ) → Moves by among → In slot among → AllByRecursion (λ (n : ℕ). In n among) slots → with_slot (by slot) (map by slots) ≡ map by (with_slot slot slots)
slot_moved by among slot [] moves p all = with_none (by slot) ∙ ap (map by) (sym (with_none slot))
slot_moved by among slot (other ∷ slots) moves p all = slot_moved_by by among slot other slots moves p all.0 (way slot other) (slot_moved by among slot slots moves p all.1)

personality_moved_by : (by : ℕ → ℕ) (among slots : List ℕ) (row other : UnwindRow) (none : Bool) → (row.personality == 0) ≡ none → Moves by among → In row.personality among → AllByRecursion (λ (n : ℕ). In n among) slots → other.personality ≡ by row.personality
    → with_personality other (map by slots) ≡ map by (with_personality row slots)
personality_moved_by by among slots row other true e moves p all is =
    let zero' : row.personality ≡ 0 = grind (arith, nat_tests) in
    let there : other.personality ≡ 0 = is ∙ ap by zero' ∙ moves.none in
    let f : (other.personality == 0) ≡ true = grind (arith, nat_tests) in
    rw (e, f) refl
personality_moved_by by among slots row other false e moves p all is =
    let some : 0 < row.personality = grind (arith, nat_tests) in
    let more : by 0 < by row.personality = moves.order 0 row.personality moves.zero' p some in
    let f : (other.personality == 0) ≡ false = grind (arith, nat_tests) in
    rw (e, f) (ap (λ (n : ℕ). with_slot n (map by slots)) is ∙ slot_moved by among row.personality slots moves p all)

with_among : (among slots : List ℕ) (row : UnwindRow) (none : Bool) → (row.personality == 0) ≡ none → In row.personality among → AllByRecursion (λ (n : ℕ). In n among) slots → AllByRecursion (λ (n : ℕ). In n among) (with_personality row slots)
with_among among slots row true e p all = rw e all
with_among among slots row false e p all = rw e (all_from_in (λ (n : ℕ). In n among) (with_slot row.personality slots) (λ x there. elim (from_with row.personality slots x there) [
  | inl own ↦ subst (λ (n : ℕ). In n among) own p
  | inr old ↦ all_in (λ (n : ℕ). In n among) slots x all old
]))

slots_moved : (by : ℕ → ℕ) (among slots : List ℕ) (rows others : List UnwindRow) → Moves by among → AllByRecursion (λ (n : ℕ). In n among) slots → AllByRecursion (λ (row : UnwindRow). In row.personality among) rows → AreAlike by rows others
    → slots_with (map by slots) others ≡ map by (slots_with slots rows)
unfolding slots_with
slots_moved by among slots [] [] moves all in_rows alike = refl
slots_moved by among slots [] (other ∷ others) moves all in_rows alike = absurd alike
slots_moved by among slots (row ∷ rows) [] moves all in_rows alike = absurd alike
slots_moved by among slots (row ∷ rows) (other ∷ others) moves all in_rows alike =
    ap (λ (now : List ℕ). slots_with now others) (personality_moved_by by among slots row other (row.personality == 0) refl moves in_rows.0 all alike.0.personality)
    ∙ slots_moved by among (with_personality row slots) rows others moves (with_among among slots row (row.personality == 0) refl in_rows.0 all) in_rows.1 alike.1

-- each function's slot is among those of all, or none
own_by : (rows : List UnwindRow) (row : UnwindRow) (none : Bool) → (row.personality == 0) ≡ none → In row rows → In row.personality (0 ∷ personalities rows)
own_by rows row true e there = let zero' : 0 ≡ row.personality = grind (arith, nat_tests) in inl zero'
own_by rows row false e there = let some : row.personality ≢ 0 = grind (arith, nat_tests) in inr (slots_own [] rows row there some)

all_own : (rows : List UnwindRow) → AllByRecursion (λ (row : UnwindRow). In row.personality (0 ∷ personalities rows)) rows
all_own rows = all_from_in (λ (row : UnwindRow). In row.personality (0 ∷ personalities rows)) rows (λ row there. own_by rows row (row.personality == 0) refl there)

-- ---- their numbers

test_moved_by : (by : ℕ → ℕ) (among : List ℕ) (slot other : ℕ) → Moves by among → In slot among → In other among → Way slot other → (by other == by slot) ≡ (other == slot)
test_moved_by by among slot other moves p q (below low) = let more = moves.order slot other p q low in grind (arith, nat_tests)
test_moved_by by among slot other moves p q (same e) = let is : by other ≡ by slot = ap by e in grind (arith, nat_tests)
test_moved_by by among slot other moves p q (above high) = let more = moves.order other slot q p high in grind (arith, nat_tests)

place_moved : (by : ℕ → ℕ) (among : List ℕ) (slot : ℕ) (slots : List ℕ) → Moves by among → In slot among → AllByRecursion (λ (n : ℕ). In n among) slots → position_or_len (λ other. other == by slot) (map by slots) ≡ position_or_len (λ other. other == slot) slots
place_moved by among slot [] moves p all = refl
place_moved by among slot (other ∷ slots) moves p all =
    let test = test_moved_by by among slot other moves p all.0 (way slot other) in
    rw test (ap (λ (n : ℕ). cond (not (other == slot)) (1 + n) 0) (place_moved by among slot slots moves p all.1))

number_moved : (by : ℕ → ℕ) (among : List ℕ) (slot : ℕ) (slots : List ℕ) → Moves by among → In slot among → AllByRecursion (λ (n : ℕ). In n among) slots → personality_number (map by slots) (by slot) ≡ personality_number slots slot
unfolding personality_number
number_moved by among slot slots moves p all = let place = place_moved by among slot slots moves p all in rw (place, length-map) refl

-- ---- the rows of the section

encoding_moved : (by : ℕ → ℕ) (among slots : List ℕ) (row other : UnwindRow) → Moves by among → In row.personality among → AllByRecursion (λ (n : ℕ). In n among) slots → IsAlike by row other → output_encoding (map by slots) other ≡ output_encoding slots row
unfolding output_encoding
encoding_moved by among slots row other moves p all alike =
    let number : personality_number (map by slots) other.personality ≡ personality_number slots row.personality =
    ap (personality_number (map by slots)) alike.personality ∙ number_moved by among row.personality slots moves p all in
    ap (λ (n : ℕ). bit_and n 0x8fffffff + 0x10000000 * personality_number (map by slots) other.personality + lsda_bit other.lsda) alike.encoding
    ∙ ap (λ (n : ℕ). bit_and row.encoding 0x8fffffff + 0x10000000 * n + lsda_bit other.lsda) number
    ∙ ap (λ (none : Bool). bit_and row.encoding 0x8fffffff + 0x10000000 * personality_number slots row.personality + cond none 0 0x40000000) alike.lsda

row_moved : (by : ℕ → ℕ) (among slots : List ℕ) (row other : UnwindRow) → Moves by among → In row.personality among → AllByRecursion (λ (n : ℕ). In n among) slots → IsAlike by row other → row_of (map by slots) other ≡ row_of slots row
row_moved by among slots row other moves p all alike =
    let made : ℕ → ℕ → RegularPageEntry = λ function encoding. record { function_offset = function; encoding = encoding } in
    ap (λ (n : ℕ). made n (output_encoding (map by slots) other)) alike.function ∙ ap (made row.function) (encoding_moved by among slots row other moves p all alike)

gap_moved : (by : ℕ → ℕ) (row other : UnwindRow) (rows others : List UnwindRow) → IsAlike by row other → AreAlike by rows others → gap other.end others ≡ gap row.end rows
gap_moved by row other [] [] here alike = refl
gap_moved by row other [] (b ∷ others) here alike = absurd alike
gap_moved by row other (a ∷ rows) [] here alike = absurd alike
gap_moved by row other (a ∷ rows) (b ∷ others) here alike =
    let made : ℕ → ℕ → List RegularPageEntry = λ end function. cond (ltb end function) (record { function_offset = end; encoding = 0 } ∷ []) [] in
    ap (λ (n : ℕ). made n b.function) here.end ∙ ap (made row.end) alike.0.function

rows_moved : (by : ℕ → ℕ) (among slots : List ℕ) (rows others : List UnwindRow) → Moves by among → AllByRecursion (λ (n : ℕ). In n among) slots → AllByRecursion (λ (row : UnwindRow). In row.personality among) rows → AreAlike by rows others
    → rows_of (map by slots) others ≡ rows_of slots rows
unfolding rows_of
rows_moved by among slots [] [] moves all in_rows alike = refl
rows_moved by among slots [] (other ∷ others) moves all in_rows alike = absurd alike
rows_moved by among slots (row ∷ rows) [] moves all in_rows alike = absurd alike
rows_moved by among slots (row ∷ rows) (other ∷ others) moves all in_rows alike =
    ap (λ (first : RegularPageEntry). first ∷ gap other.end others ++ rows_of (map by slots) others) (row_moved by among slots row other moves in_rows.0 all alike.0)
    ∙ ap (λ (closing : List RegularPageEntry). row_of slots row ∷ closing ++ rows_of (map by slots) others) (gap_moved by row other rows others alike.0 alike.1)
    ∙ ap (λ (rest : List RegularPageEntry). row_of slots row ∷ gap row.end rows ++ rest) (rows_moved by among slots rows others moves all in_rows.1 alike.1)

-- ---- those on language-specific data

lsda_count : (row : UnwindRow) → length (lsda_of row) ≡ cond (row.lsda == 0) 0 1
lsda_count row = by (row.lsda == 0) refl
  where
    by : (none : Bool) → (row.lsda == 0) ≡ none → length (lsda_of row) ≡ cond (row.lsda == 0) 0 1
    by true e = rw e refl
    by false e = rw e refl

lsdas_moved : (by : ℕ → ℕ) (rows others : List UnwindRow) → AreAlike by rows others → length (lsdas_of others) ≡ length (lsdas_of rows)
lsdas_moved by [] [] alike = refl
lsdas_moved by [] (other ∷ others) alike = absurd alike
lsdas_moved by (row ∷ rows) [] alike = absurd alike
lsdas_moved by (row ∷ rows) (other ∷ others) alike =
    length-append (lsda_of other) (lsdas_of others)
    ∙ ap (λ (n : ℕ). n + length (lsdas_of others)) (lsda_count other ∙ ap (λ (none : Bool). cond none 0 1) alike.0.lsda ∙ sym (lsda_count row))
    ∙ ap (λ (n : ℕ). length (lsda_of row) + n) (lsdas_moved by rows others alike.1)
    ∙ sym (length-append (lsda_of row) (lsdas_of rows))

-- ---- the section

pub one_size : (by : ℕ → ℕ) (rows others : List UnwindRow) (a b : List ℕ) → KeepsOrder by (personalities rows) → AreAlike by rows others → IsSection rows a → IsSection others b → length a ≡ length b
one_size by rows others a b keeps alike one other =
    let slots = personalities rows in
    let among = 0 ∷ slots in
    let moves : Moves by among = moves_from by slots keeps in
    let slots_in : AllByRecursion (λ (n : ℕ). In n among) slots = all_from_in (λ (n : ℕ). In n among) slots (λ x there. inr there) in
    let slots_are : personalities others ≡ map by slots = slots_moved by among [] rows others moves tt (all_own rows) alike in
    let table : rows_of (personalities others) others ≡ rows_of slots rows = ap (λ (s : List ℕ). rows_of s others) slots_are ∙ rows_moved by among slots rows others moves slots_in (all_own rows) alike in
    let pages : one.pages ≡ other.pages = pages_one (rows_of slots rows) one.pages other.pages one.cut (subst (λ (t : List RegularPageEntry). ArePages t other.pages) table other.cut) in
    let count : length slots ≡ length (personalities others) = sym (ap length slots_are ∙ length-map slots by) in
    ap length one.spelled ∙ length-section slots (lsdas_of rows) (end_of rows) one.pages
    ∙ ap (section_size (length slots) (length (lsdas_of rows))) pages
    ∙ ap (λ (n : ℕ). section_size n (length (lsdas_of rows)) other.pages) count
    ∙ ap (λ (n : ℕ). section_size (length (personalities others)) n other.pages) (sym (lsdas_moved by rows others alike))
    ∙ sym (ap length other.spelled ∙ length-section (personalities others) (lsdas_of others) (end_of others) other.pages)
