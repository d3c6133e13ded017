-- The rows of entries have sections of one size, however many bytes `__unwind_info` is placed with.
use Rattle.std.proofs.Common.{◌≡◌, ◌≢◌, ℕ, ◌+◌, ◌-◌, ◌*◌, ◌<◌, ◌≤◌, ◌==◌, Bool, true, false, List, [], ◌∷◌, length, map, codes, cond, Contains, Option, Some, None, refl, sym, ap, subst, ◌∙◌, inl, inr, arith}
use Rattle.std.specs.List.{AllByRecursion, filter, find}
use Rattle.std.specs.List.Sorted.{IsStrictlySortedBy}
use Rattle.std.specs.Option.{option_and_then, option_map, option_map_or}
use Rattle.std.specs.Ordering.{nat_cmp, on}
use Rattle.std.specs.declared.cmp.Ordering.TheVariants.{Less}
use Rattle.std.proofs.lemmas.Bool.Decides.{nat_tests}
use Rattle.std.proofs.lemmas.Cmp.{nat_cmp_total, on_total}
use Rattle.std.proofs.lemmas.List.Elements.{recursion_from_All}
use Rattle.std.proofs.lemmas.List.Sorted.{Contains-permutation, IsPermutation-sym}
use Rattle.list_lemmas.proofs.Members.{In, Contains_from_in, all_in, find_some, from_map, in_from_Contains, in_map}
use Rattle.list_lemmas.proofs.Rising.{rising_same}
use Rattle.command_line.specs.declared.command.Command.{Command}
use Rattle.mo_types.specs.declared.atom.Atom.{Atom}
use Rattle.mo_types.specs.declared.key.AtomKey.{AtomKey}
use Rattle.mo_types.specs.declared.out_section.OutSection.{OutSection}
use Rattle.mo_types.specs.declared.reference.Target.{Target}
use Rattle.ref_meet.specs.Scene.{Scene}
use Rattle.sect_list.specs.OutSections.{is_in}
use Rattle.sect_place.specs.Addresses.{address_in}
use Rattle.sect_place.specs.Arrangement.{section_of}
use Rattle.sect_place.specs.Layout.{Plan, base_of, image_sections, plan_of}
use Rattle.sect_place.specs.declared.island.IslandPlan.{IslandPlan}
use Rattle.sect_place.specs.declared.layout.Layout.{Layout}
use Rattle.sect_place.specs.declared.layout.PlacedSection.{PlacedSection}
use Rattle.sect_place.specs.declared.part.Made.TheVariants as made
use Rattle.slot_place.specs.Places.{address_from, is_made_as, number_of, own_section, start_in, starts_of, unit_at}
use Rattle.slot_plan.specs.declared.need.Way.TheVariants.{Got}
use Rattle.tlv_plan.specs.Template.{keys_of}
use Rattle.unwind_link.specs.Goals.{goal_at}
use Rattle.unwind_link.specs.Rows.{AreRows, offset_of, personality_slot, place_offset, row_of, slot_offset}
use Rattle.unwind_link.specs.Twice.{AreOfText, ArePlacedTwice, placed_as, with_unwind}
use Rattle.unwind_link.specs.declared.kept.KeptUnwind.{KeptUnwind}
use Rattle.unwind_out.specs.Law.{AreAlike, IsAlike, KeepsOrder}
use Rattle.unwind_out.specs.Pages.{IsSection}
use Rattle.unwind_out.specs.Table.{AreApart, BeginsAfter, personalities}
use Rattle.unwind_out.specs.declared.row.UnwindRow.{UnwindRow}
use Rattle.unwind_out.proofs.Alike.{one_size}
use Rattle.unwind_out.proofs.Slots.{less, personalities_are}
use Rattle.unwind_link.proofs.MovedLemmas.{Both, Found, both_places, found_both, nowhere, same_names, sections_above, somewhere, text_address}

-- ---- slots

-- where the slots begin, in one layout and in the other, if they do
data Starts (base start other_start : ℕ) (one other : Option ℕ) : Type 0 where
  missing : one ≡ None → other ≡ None → Starts base start other_start one other
  begin : one ≡ Some start → other ≡ Some other_start → Starts base start other_start one other

-- two starts behind the image's first address
record Moving (base : ℕ) (one other : Option ℕ) : Type 0 where
  start : ℕ
  other_start : ℕ
  low : base < start
  other_low : base < other_start
  starts : Starts base start other_start one other

moving_by : (base : ℕ) (t : OutSection → Bool) (xs ys : List PlacedSection) → AllByRecursion (λ (p : PlacedSection). base + 1 ≤ p.address) xs → AllByRecursion (λ (p : PlacedSection). base + 1 ≤ p.address) ys → Found t xs ys
    → Moving base (option_map (λ (p : PlacedSection). p.address) (find (λ (p : PlacedSection). t p.section) xs)) (option_map (λ (p : PlacedSection). p.address) (find (λ (p : PlacedSection). t p.section) ys))
moving_by base t xs ys above too (inl (e, f)) = record {
  start = base + 1;
  other_start = base + 1;
  low = omega arith;
  other_low = omega arith;
  starts = rw (e, f) (missing refl refl);
}
moving_by base t xs ys above too (inr (p, q, e, f)) =
    let first = all_in (λ (r : PlacedSection). base + 1 ≤ r.address) xs p above (find_some (λ (r : PlacedSection). t r.section) xs p e).0 in
    let second = all_in (λ (r : PlacedSection). base + 1 ≤ r.address) ys q too (find_some (λ (r : PlacedSection). t r.section) ys q f).0 in
    record { start = p.address; other_start = q.address; low = omega (arith, first); other_low = omega (arith, second); starts = rw (e, f) (begin refl refl) }

-- a slot's offset in both, or 0 in both
data Slots (base start other_start : ℕ) (one other : ℕ) : Type 0 where
  away : one ≡ 0 → other ≡ 0 → Slots base start other_start one other
  at : (n : ℕ) → one ≡ start + 8 * n - base → other ≡ other_start + 8 * n - base → Slots base start other_start one other

-- the offset of the slot with a number
abbrev numbered : ℕ → Option ℕ → Option ℕ → ℕ
numbered base start number = offset_of base (option_and_then (λ (n : ℕ). option_map (λ (at : ℕ). unit_at 8 at n) start) number)

slots_by : (base start other_start : ℕ) (one other number : Option ℕ) → Starts base start other_start one other → Slots base start other_start (numbered base one number) (numbered base other number)
slots_by base start other_start one other None starts = away refl refl
slots_by base start other_start one other (Some n) (missing e f) = rw (e, f) (away refl refl)
slots_by base start other_start one other (Some n) (begin e f) = rw (e, f) (at n refl refl)

slots_of : (s : Scene) (layout : Layout) (moving : Moving s.base (start_in s.layout.sections Got) (start_in layout.sections Got)) (file : ℕ) (target : Target) → Slots s.base moving.start moving.other_start (slot_offset s file target) (slot_offset (placed_as layout s) file target)
unfolding slot_offset starts_of address_from
slots_of s layout moving file target =
    slots_by s.base moving.start moving.other_start (start_in s.layout.sections Got) (start_in layout.sections Got) (number_of s.slots.got (goal_at s.literals s.goals file target)) moving.starts

-- where a slot is moved
moved : ℕ → ℕ → ℕ → ℕ
moved start other_start slot = cond (slot == 0) 0 (slot + other_start - start)

moved_some : (start other_start slot : ℕ) → 0 < slot → moved start other_start slot ≡ slot + other_start - start
unfolding moved
moved_some start other_start slot some = let e : (slot == 0) ≡ false = grind (arith, nat_tests) in rw e refl

moved_none : (start other_start : ℕ) → moved start other_start 0 ≡ 0
unfolding moved
moved_none start other_start = refl

moves : (base start other_start one other : ℕ) → base < start → base < other_start → Slots base start other_start one other → other ≡ moved start other_start one
moves base start other_start one other low other_low (away e f) = f ∙ sym (ap (moved start other_start) e ∙ moved_none start other_start)
moves base start other_start one other low other_low (at n e f) =
    let some : 0 < one = omega (arith, e, low) in
    let sum : one + other_start - start ≡ other = omega (arith, e, f, low, other_low) in
    sym (moved_some start other_start one some ∙ sum)

-- ---- an entry's rows

-- what is at no place in one is at none in the other
tests_by : (base offset : ℕ) (one other : Option ℕ) → Both base one other → (offset_of base (option_map (λ (at : ℕ). at + offset) other) == 0) ≡ (offset_of base (option_map (λ (at : ℕ). at + offset) one) == 0)
tests_by base offset one other (nowhere e f) = rw (e, f) refl
tests_by base offset one other (somewhere a b e f low high) =
    let first : (a + offset - base == 0) ≡ false = let some : 0 < a + offset - base = omega (arith, low) in grind (arith, nat_tests) in
    let second : (b + offset - base == 0) ≡ false = let some : 0 < b + offset - base = omega (arith, high) in grind (arith, nat_tests) in
    rw (e, f, first, second) refl

-- what two scenes have, whose layouts differ
record Twice (s : Scene) (layout : Layout) (listed : AtomKey → Type 0) : Type 0 where
  moving : Moving s.base (start_in s.layout.sections Got) (start_in layout.sections Got)
  places : (key : AtomKey) → Both s.base (address_in s.layout.placed key) (address_in layout.placed key)
  same : (key : AtomKey) → listed key → address_in s.layout.placed key ≡ address_in layout.placed key

abbrev shift : {s : Scene} {layout : Layout} {listed : AtomKey → Type 0} → Twice s layout listed → ℕ → ℕ
shift twice = moved twice.moving.start twice.moving.other_start

lsda_test : (s : Scene) (layout : Layout) (listed : AtomKey → Type 0) (twice : Twice s layout listed) (lsda : Option (AtomKey × ℕ))
    → (option_map_or (λ (l : AtomKey × ℕ). place_offset (placed_as layout s) l.0 l.1) lsda 0 == 0) ≡ (option_map_or (λ (l : AtomKey × ℕ). place_offset s l.0 l.1) lsda 0 == 0)
unfolding place_offset
lsda_test s layout listed twice None = refl
lsda_test s layout listed twice (Some lsda) = tests_by s.base lsda.1 (address_in s.layout.placed lsda.0) (address_in layout.placed lsda.0) (twice.places lsda.0)

slot_moved : (s : Scene) (layout : Layout) (listed : AtomKey → Type 0) (twice : Twice s layout listed) (file : ℕ) (target : Option Target)
    → option_map_or (slot_offset (placed_as layout s) file) target 0 ≡ shift twice (option_map_or (slot_offset s file) target 0)
slot_moved s layout listed twice file None = sym (moved_none twice.moving.start twice.moving.other_start)
slot_moved s layout listed twice file (Some target) =
    moves s.base twice.moving.start twice.moving.other_start (slot_offset s file target) (slot_offset (placed_as layout s) file target) twice.moving.low twice.moving.other_low (slots_of s layout twice.moving file target)

function_same : (s : Scene) (layout : Layout) (key : AtomKey) (offset : ℕ) → address_in s.layout.placed key ≡ address_in layout.placed key → place_offset (placed_as layout s) key offset ≡ place_offset s key offset
unfolding place_offset
function_same s layout key offset same = ap (λ (at : Option ℕ). offset_of s.base (option_map (λ (n : ℕ). n + offset) at)) (sym same)

entry_alike : (s : Scene) (layout : Layout) (listed : AtomKey → Type 0) (twice : Twice s layout listed) (entry : KeptUnwind) → listed entry.unwind.atom → IsAlike (shift twice) (row_of s entry) (row_of (placed_as layout s) entry)
unfolding row_of
entry_alike s layout listed twice entry text =
    let function = function_same s layout entry.unwind.atom entry.unwind.offset (twice.same entry.unwind.atom text) in
    record {
      function = function;
      end = ap (λ (n : ℕ). n + entry.unwind.length) function;
      encoding = refl;
      personality = slot_moved s layout listed twice entry.file entry.unwind.personality;
      lsda = lsda_test s layout listed twice entry.unwind.lsda;
    }

-- ---- all rows

-- 0 for none, and 1 for some
abbrev counted : Bool → ℕ
counted none = cond none 0 1

-- a row as one whose slot is moved: of its language-specific data only whether there are some
shown : (ℕ → ℕ) → UnwindRow → UnwindRow
shown by row = record { function = row.function; end = row.end; encoding = row.encoding; personality = by row.personality; lsda = counted (row.lsda == 0) }

itself : ℕ → ℕ
itself slot = slot

alike_shown : (by : ℕ → ℕ) (row other : UnwindRow) → IsAlike by row other → shown by row ≡ shown itself other
unfolding shown itself
alike_shown by row other alike =
    let made : ℕ → ℕ → ℕ → ℕ → Bool → UnwindRow = λ function end encoding slot none. record { function = function; end = end; encoding = encoding; personality = slot; lsda = counted none } in
    sym (ap (λ (n : ℕ). made n other.end other.encoding other.personality (other.lsda == 0)) alike.function
    ∙ ap (λ (n : ℕ). made row.function n other.encoding other.personality (other.lsda == 0)) alike.end
    ∙ ap (λ (n : ℕ). made row.function row.end n other.personality (other.lsda == 0)) alike.encoding
    ∙ ap (λ (n : ℕ). made row.function row.end row.encoding n (other.lsda == 0)) alike.personality
    ∙ ap (λ (none : Bool). made row.function row.end row.encoding (by row.personality) none) alike.lsda)

same_test : (a b : Bool) → counted a ≡ counted b → b ≡ a
same_test true true e = refl
same_test true false e = absurd (omega (arith, e))
same_test false true e = absurd (omega (arith, e))
same_test false false e = refl

shown_alike : (by : ℕ → ℕ) (row other : UnwindRow) → shown by row ≡ shown itself other → IsAlike by row other
unfolding shown itself
shown_alike by row other e = record {
  function = sym (ap (λ (r : UnwindRow). r.function) e);
  end = sym (ap (λ (r : UnwindRow). r.end) e);
  encoding = sym (ap (λ (r : UnwindRow). r.encoding) e);
  personality = sym (ap (λ (r : UnwindRow). r.personality) e);
  lsda = same_test (row.lsda == 0) (other.lsda == 0) (ap (λ (r : UnwindRow). r.lsda) e);
}

first_of : (a b : UnwindRow) (xs ys : List UnwindRow) → a ∷ xs ≡ b ∷ ys → a ≡ b
first_of a b xs ys e = cc

rest_of : (a b : UnwindRow) (xs ys : List UnwindRow) → a ∷ xs ≡ b ∷ ys → xs ≡ ys
rest_of a b xs ys e = cc

not_more : (a : UnwindRow) (xs : List UnwindRow) → [] ≡ a ∷ xs → ⊥
not_more a xs e = cc

all_alike : (by : ℕ → ℕ) (rows others : List UnwindRow) → map (shown by) rows ≡ map (shown itself) others → AreAlike by rows others
all_alike by [] [] e = tt
all_alike by [] (other ∷ others) e = absurd (not_more (shown itself other) (map (shown itself) others) e)
all_alike by (row ∷ rows) [] e = absurd (not_more (shown by row) (map (shown by) rows) (sym e))
all_alike by (row ∷ rows) (other ∷ others) e = (
  shown_alike by row other (first_of (shown by row) (shown itself other) (map (shown by) rows) (map (shown itself) others) e),
  all_alike by rows others (rest_of (shown by row) (shown itself other) (map (shown by) rows) (map (shown itself) others) e),
)

-- ---- rows in order

abbrev function_of : UnwindRow → ℕ
function_of row = row.function

later : (by : ℕ → ℕ) (low : ℕ) (rows : List UnwindRow) → AreApart rows → BeginsAfter (low + 1) rows → AllByRecursion (λ (row : UnwindRow). nat_cmp low row.function ≡ Less) (map (shown by) rows)
unfolding shown
later by low [] apart begins = tt
later by low (row ∷ rows) apart begins = (less low row.function (omega (arith, begins)), later by low rows apart.2 (after rows (omega (arith, begins, apart.0)) apart.1))
  where
    after : (next : List UnwindRow) → low + 1 ≤ row.end → BeginsAfter row.end next → BeginsAfter (low + 1) next
    after [] high behind = tt
    after (other ∷ next) high behind = omega (arith, high, behind)

rises : (by : ℕ → ℕ) (rows : List UnwindRow) → AreApart rows → IsStrictlySortedBy (on function_of nat_cmp) (map (shown by) rows)
unfolding shown IsStrictlySortedBy
rises by [] apart = tt
rises by (row ∷ rows) apart = (later by row.function rows apart.2 (after rows apart.0 apart.1), rises by rows apart.2)
  where
    after : (next : List UnwindRow) → row.function < row.end → BeginsAfter row.end next → BeginsAfter (row.function + 1) next
    after [] high behind = tt
    after (other ∷ next) high behind = omega (arith, high, behind)

-- each row is one of an entry, and each entry's is there
entry_of : (s : Scene) (entries : List KeptUnwind) (rows : List UnwindRow) (row : UnwindRow) → AreRows s entries rows → In row rows → (entry : KeptUnwind) × In entry entries × (row_of s entry ≡ row)
entry_of s entries rows row are there =
    from_map (row_of s) entries row (in_from_Contains (map (row_of s) entries) row (Contains-permutation rows (map (row_of s) entries) row (IsPermutation-sym (map (row_of s) entries) rows are.each) (Contains_from_in rows row there)))

row_there : (s : Scene) (entries : List KeptUnwind) (rows : List UnwindRow) (entry : KeptUnwind) → AreRows s entries rows → In entry entries → In (row_of s entry) rows
row_there s entries rows entry are there =
    in_from_Contains rows (row_of s entry) (Contains-permutation (map (row_of s) entries) rows (row_of s entry) are.each (Contains_from_in (map (row_of s) entries) (row_of s entry) (in_map (row_of s) entries entry there)))

-- what is shown of one's rows is shown of the other's
across : (f g : UnwindRow → UnwindRow) (s t : Scene) (entries : List KeptUnwind) (rows others : List UnwindRow) → ((entry : KeptUnwind) → In entry entries → f (row_of s entry) ≡ g (row_of t entry)) → AreRows s entries rows → AreRows t entries others → (x : UnwindRow) → In x (map f rows) → In x (map g others)
across f g s t entries rows others same are too x there =
    let from : (row : UnwindRow) × In row rows × (f row ≡ x) = from_map f rows x there in
    let entry = entry_of s entries rows from.0 are from.1 in
    let is : g (row_of t entry.0) ≡ x = sym (same entry.0 entry.1) ∙ ap f entry.2 ∙ from.2 in
    subst (λ (y : UnwindRow). In y (map g others)) is (in_map g others (row_of t entry.0) (row_there t entries others entry.0 too entry.1))

rows_alike : (s : Scene) (layout : Layout) (listed : AtomKey → Type 0) (twice : Twice s layout listed) (entries : List KeptUnwind) (rows others : List UnwindRow) → ((entry : KeptUnwind) → In entry entries → listed entry.unwind.atom)
    → AreRows s entries rows → AreRows (placed_as layout s) entries others → AreApart rows → AreApart others → AreAlike (shift twice) rows others
rows_alike s layout listed twice entries rows others text are too apart apart_too =
    let same : (entry : KeptUnwind) → In entry entries → shown (shift twice) (row_of s entry) ≡ shown itself (row_of (placed_as layout s) entry) =
    λ entry there. alike_shown (shift twice) (row_of s entry) (row_of (placed_as layout s) entry) (entry_alike s layout listed twice entry (text entry there)) in
    all_alike (shift twice) rows others (rising_same (on_total function_of nat_cmp_total) (map (shown (shift twice)) rows) (map (shown itself) others) (rises (shift twice) rows apart) (rises itself others apart_too)
    (across (shown (shift twice)) (shown itself) s (placed_as layout s) entries rows others same are too)
    (across (shown itself) (shown (shift twice)) (placed_as layout s) s entries others rows (λ entry there. sym (same entry there)) too are))

-- ---- their slots

slot_of : (s : Scene) (entry : KeptUnwind) → (row_of s entry).personality ≡ personality_slot s entry
unfolding row_of
slot_of s entry = refl

-- a slot of rows is numbered in both layouts
slot_pair : (s : Scene) (layout : Layout) (listed : AtomKey → Type 0) (twice : Twice s layout listed) (file : ℕ) (target : Option Target)
    → Slots s.base twice.moving.start twice.moving.other_start (option_map_or (slot_offset s file) target 0) (option_map_or (slot_offset (placed_as layout s) file) target 0)
slot_pair s layout listed twice file None = away refl refl
slot_pair s layout listed twice file (Some target) = slots_of s layout twice.moving file target

numbered_at : (base start other_start one other : ℕ) → one ≢ 0 → Slots base start other_start one other → (n : ℕ) × (one ≡ start + 8 * n - base)
numbered_at base start other_start one other some (away e f) = absurd (some e)
numbered_at base start other_start one other some (at n e f) = (n, e)

slot_number : (s : Scene) (layout : Layout) (listed : AtomKey → Type 0) (twice : Twice s layout listed) (entries : List KeptUnwind) (rows : List UnwindRow) (slot : ℕ) → AreRows s entries rows → Contains (personalities rows) slot → (n : ℕ) × (slot ≡ twice.moving.start + 8 * n - s.base)
slot_number s layout listed twice entries rows slot are there =
    let from = (personalities_are rows).only slot there in
    let entry = entry_of s entries rows from.1 are (in_from_Contains rows from.1 from.2) in
    let is : personality_slot s entry.0 ≡ slot = sym (slot_of s entry.0) ∙ ap (λ (row : UnwindRow). row.personality) entry.2 ∙ from.3 in
    let number = numbered_at s.base twice.moving.start twice.moving.other_start (personality_slot s entry.0) (personality_slot (placed_as layout s) entry.0) (λ none. from.0 (sym is ∙ none)) (slot_pair s layout listed twice entry.0.file entry.0.unwind.personality) in
    (number.0, sym is ∙ number.1)

keeps : (s : Scene) (layout : Layout) (listed : AtomKey → Type 0) (twice : Twice s layout listed) (entries : List KeptUnwind) (rows : List UnwindRow) → AreRows s entries rows → KeepsOrder (shift twice) (personalities rows)
keeps s layout listed twice entries rows are = record {
  none = moved_none start other_start;
  some = λ slot there.
      let at = slot_number s layout listed twice entries rows slot are there in
      let is = moved_some start other_start slot (omega (arith, at.1, low)) in
      omega (arith, is, at.1, low, high);
  order = λ a b here there less.
      let first = slot_number s layout listed twice entries rows a are here in
      let second = slot_number s layout listed twice entries rows b are there in
      let one = moved_some start other_start a (omega (arith, first.1, low)) in
      let two = moved_some start other_start b (omega (arith, second.1, low)) in
      omega (arith, one, two, first.1, second.1, low, high, less);
}
  where
    start : ℕ
    start = twice.moving.start

    other_start : ℕ
    other_start = twice.moving.other_start

    low : s.base < start
    low = twice.moving.low

    high : s.base < other_start
    high = twice.moving.other_low

-- ---- sections

abbrev Listed : List OutSection → AtomKey → Type 0
Listed sections key = Contains (keys_of (filter (is_in (codes "__TEXT")) sections)) key

twice_of : (kept : List Atom) (sections : List OutSection) (islands : IslandPlan) (command : Command) (commands few many : ℕ) (s : Scene) (other : Layout) → ArePlacedTwice kept sections islands command commands few many s other → Twice s other (Listed sections)
unfolding own_section
twice_of kept sections islands command commands few many s other given = record {
  moving = subst (λ (base : ℕ). Moving base (start_in s.layout.sections Got) (start_in other.sections Got)) (sym given.base)
      (subst (λ (xs : List PlacedSection). Moving (base_of command) (start_in xs Got) (start_in other.sections Got)) (sym given.first.sections)
      (subst (λ (ys : List PlacedSection). Moving (base_of command) (start_in (image_sections one) Got) (start_in ys Got)) (sym given.second.sections)
      (moving_by (base_of command) (is_made_as (section_of made.Got)) (image_sections one) (image_sections two)
      (sections_above kept sections s.slots islands (with_unwind commands few) command) (sections_above kept sections s.slots islands (with_unwind commands many) command)
      (found_both (is_made_as (section_of made.Got)) (image_sections one) (image_sections two) (same_names kept sections s.slots islands command commands few many given.some given.more)))));
  places = λ key. subst (λ (base : ℕ). Both base (address_in s.layout.placed key) (address_in other.placed key)) (sym given.base)
      (both_places kept sections s.slots islands command (with_unwind commands few) (with_unwind commands many) s.layout other key given.first given.second);
  same = λ key listed. text_address kept sections s.slots islands command commands few many s.layout other key given.once given.some given.more given.first given.second listed;
}
  where
    one : Plan
    one = plan_of kept sections s.slots islands (with_unwind commands few) command

    two : Plan
    two = plan_of kept sections s.slots islands (with_unwind commands many) command

pub sizes : (kept : List Atom) (sections : List OutSection) (islands : IslandPlan) (command : Command) (commands few many : ℕ) (s : Scene) (other : Layout) (entries : List KeptUnwind) (rows others : List UnwindRow) (a b : List ℕ)
    → ArePlacedTwice kept sections islands command commands few many s other → AreOfText sections entries → AreRows s entries rows → AreRows (placed_as other s) entries others → AreApart rows → AreApart others → IsSection rows a → IsSection others b → length a ≡ length b
sizes kept sections islands command commands few many s other entries rows others a b given text are too apart apart_too first second =
    let twice : Twice s other (Listed sections) = twice_of kept sections islands command commands few many s other given in
    one_size (shift twice) rows others a b (keeps s other (Listed sections) twice entries rows are)
    (rows_alike s other (Listed sections) twice entries rows others (λ entry there. all_in (λ (e : KeptUnwind). Listed sections e.unwind.atom) entries entry (recursion_from_All (λ (e : KeptUnwind). Listed sections e.unwind.atom) entries text) there) are too apart apart_too)
    first second
