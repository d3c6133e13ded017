-- Numbers of sections, with an atom more.
use Rattle.std.proofs.Common.{◌≡◌, ◌≢◌, ℕ, suc, ◌+◌, ◌<◌, ◌≤◌, ◌==◌, ◌||◌, Bool, true, false, List, [], ◌∷◌, ◌++◌, length, get_or, take, replicate, refl, sym, ap, ◌∙◌, arith, Option, Some, None, nat_lt, position, if◌then◌else◌}
use Rattle.std.specs.List.{All, position_or_len}
use Rattle.std.specs.Option.{option_map, option_map_or}
use Rattle.std.specs.Ordering.{is_eq}
use Rattle.std.proofs.Math.ListN.{set}
use Rattle.std.proofs.Math.Bool.{or-false}
use Rattle.std.proofs.lemmas.Bool.{eqb-true}
use Rattle.std.proofs.lemmas.Cmp.{tied_itself}
use Rattle.std.proofs.lemmas.List.{get_or-replicate, length-replicate, length-take-le, take_all, take_more}
use Rattle.std.proofs.lemmas.List.Folds.{list_any-append}
use Rattle.atom_index.specs.Stands.{StandsAt}
use Rattle.mark_core.specs.Kept.{has}
use Rattle.mo_types.proofs.KeyOrder.{compare_keys_total}
use Rattle.mo_types.specs.Keys.{compare_keys}
use Rattle.mo_types.specs.declared.key.AtomKey.{AtomKey}
use Rattle.sect_place.specs.Addresses.{AreOnce, address_in}
use Rattle.sect_place.specs.declared.layout.Layout.{Layout}
use Rattle.sect_place.specs.declared.layout.Placed.{Placed}
use Rattle.sect_place.specs.declared.layout.PlacedSection.{PlacedSection}
use Rattle.sym_out.specs.Sites.{Site, section_number, site_of}
use Rattle.sym_out.specs.inner.Numbers.{AreNumbers, IsSited, numbered, or_number}
use Rattle.sym_out.specs.inner.Tables.{atom_of}
use Rattle.sym_out.proofs.ByAtom.{no_address, stands_address, table_at, table_same, table_with, table_without}
use Rattle.sym_out.proofs.Naming.{not_same}

-- ---- a number, or another one

kept : (a b : ℕ) → (a == 0) ≡ false → or_number a b ≡ a
kept a b e = rw e refl

lent : (a b : ℕ) → (a == 0) ≡ true → or_number a b ≡ b
lent a b e = rw e refl

or_nothing : (a : ℕ) → or_number a 0 ≡ a
or_nothing a = by (a == 0) refl
  where
    by : (t : Bool) → (a == 0) ≡ t → or_number a 0 ≡ a
    by true e = lent a 0 e ∙ sym (eqb-true a 0 e)
    by false e = kept a 0 e

or_same : (a : ℕ) → or_number a a ≡ a
or_same a = by (a == 0) refl
  where
    by : (t : Bool) → (a == 0) ≡ t → or_number a a ≡ a
    by true e = lent a a e
    by false e = kept a a e

or_assoc : (a b c : ℕ) → or_number (or_number a b) c ≡ or_number a (or_number b c)
or_assoc a b c = by (a == 0) refl
  where
    by : (t : Bool) → (a == 0) ≡ t → or_number (or_number a b) c ≡ or_number a (or_number b c)
    by true e = ap (λ (x : ℕ). or_number x c) (lent a b e) ∙ sym (lent a (or_number b c) e)
    by false e = ap (λ (x : ℕ). or_number x c) (kept a b e) ∙ kept a c e ∙ sym (kept a (or_number b c) e)

abbrev given : Bool → ℕ → ℕ
given t n = if t then n else 0

given_or : (p q : Bool) (n : ℕ) → or_number (given p n) (given q n) ≡ given (p || q) n
given_or true true n = or_same n
given_or true false n = or_nothing n
given_or false q n = refl

-- ---- an atom more

only : (atom key : AtomKey) → has (atom ∷ []) key ≡ is_eq (compare_keys atom key)
only atom key = or-false (is_eq (compare_keys atom key))

pub number_here : (f : AtomKey → ℕ) (n : ℕ) (atom : AtomKey) → or_number (f atom) n ≡ numbered f n (atom ∷ []) atom
unfolding numbered
number_here f n atom = ap (λ (t : Bool). or_number (f atom) (given t n)) (sym (only atom atom ∙ ap is_eq (tied_itself compare_keys_total atom)))

pub number_other : (f : AtomKey → ℕ) (n : ℕ) (atom other : AtomKey) → other ≢ atom → f other ≡ numbered f n (atom ∷ []) other
unfolding numbered
number_other f n atom other differ =
    sym (ap (λ (t : Bool). or_number (f other) (given t n)) (only atom other ∙ not_same atom other differ) ∙ or_nothing (f other))

pub noted : (f : AtomKey → ℕ) (placed : List Placed) (numbers : List ℕ) (atom : AtomKey) (at n old new : ℕ) → AreOnce placed → StandsAt atom_of placed atom at → old ≡ get_or numbers at old → new ≡ or_number old n → AreNumbers f placed numbers → AreNumbers (numbered f n (atom ∷ [])) placed (set numbers at new)
noted f placed numbers atom at n old new once stands is value are =
    table_with (λ (x : ℕ). x) f (numbered f n (atom ∷ [])) placed numbers atom at new once stands are
    (value ∙ ap (λ (x : ℕ). or_number x n) (is ∙ first_value old) ∙ number_here f n atom)
    (number_other f n atom)
  where
    first_value : (d : ℕ) → get_or numbers at d ≡ f atom
    first_value d = let p : Placed = record { atom = atom; address = 0 } in are.each at d p stands.within ∙ ap f (stands.of_atom p)

pub absent : (f : AtomKey → ℕ) (placed : List Placed) (numbers : List ℕ) (atom : AtomKey) (n : ℕ) → All (λ (p : Placed). p.atom ≢ atom) placed → AreNumbers f placed numbers → AreNumbers (numbered f n (atom ∷ [])) placed numbers
absent f placed numbers atom n none are =
    table_without (λ (x : ℕ). x) f (numbered f n (atom ∷ [])) placed numbers atom none are (number_other f n atom)

-- ---- atoms one after the other

pub atoms_start : (f : AtomKey → ℕ) (placed : List Placed) (numbers : List ℕ) (n : ℕ) (atoms : List AtomKey) → AreNumbers f placed numbers → AreNumbers (numbered f n (take 0 atoms)) placed numbers
unfolding numbered
atoms_start f placed numbers n atoms are =
    table_same (λ (x : ℕ). x) f (numbered f n (take 0 atoms)) placed numbers are (λ key. sym (or_nothing (f key)))

numbered_more : (f : AtomKey → ℕ) (n : ℕ) (xs : List AtomKey) (x key : AtomKey) → numbered (numbered f n xs) n (x ∷ []) key ≡ numbered f n (xs ++ x ∷ []) key
unfolding numbered
numbered_more f n xs x key =
    or_assoc (f key) (given (has xs key) n) (given (has (x ∷ []) key) n)
    ∙ ap (or_number (f key)) (given_or (has xs key) (has (x ∷ []) key) n
    ∙ ap (λ (t : Bool). given t n) (sym (list_any-append (λ (other : AtomKey). is_eq (compare_keys other key)) xs (x ∷ []))))

pub atoms_go_on : (f : AtomKey → ℕ) (placed : List Placed) (numbers : List ℕ) (n i : ℕ) (atoms : List AtomKey) (d : AtomKey) → i < length atoms → AreNumbers (numbered (numbered f n (take i atoms)) n (get_or atoms i d ∷ [])) placed numbers → AreNumbers (numbered f n (take (i + 1) atoms)) placed numbers
atoms_go_on f placed numbers n i atoms d low are =
    table_same (λ (x : ℕ). x) (numbered (numbered f n (take i atoms)) n (get_or atoms i d ∷ [])) (numbered f n (take (i + 1) atoms)) placed numbers are
    (λ key. numbered_more f n (take i atoms) (get_or atoms i d) key ∙ ap (λ (xs : List AtomKey). numbered f n xs key) (sym (take_more atoms i d low)))

pub atoms_end : (f : AtomKey → ℕ) (placed : List Placed) (numbers : List ℕ) (n i : ℕ) (atoms : List AtomKey) → length atoms ≤ i → AreNumbers (numbered f n (take i atoms)) placed numbers → AreNumbers (numbered f n atoms) placed numbers
atoms_end f placed numbers n i atoms past are =
    table_same (λ (x : ℕ). x) (numbered f n (take i atoms)) (numbered f n atoms) placed numbers are
    (λ key. ap (λ (xs : List AtomKey). numbered f n xs key) (take_all i atoms past))

-- ---- sections one after the other

not_none : (n : ℕ) → ((n + 1) == 0) ≡ false
not_none n = by ((n + 1) == 0) refl
  where
    by : (t : Bool) → ((n + 1) == 0) ≡ t → ((n + 1) == 0) ≡ false
    by true e = let zeroed : n + 1 ≡ 0 = eqb-true (n + 1) 0 e in absurd (omega (arith, zeroed))
    by false e = e

-- the number of the first section that lists an atom, where the first of all has the number n
abbrev number_from : ℕ → List PlacedSection → AtomKey → ℕ
number_from n [] key = 0
number_from n (x ∷ xs) key = if has x.section.atoms key then n else number_from (n + 1) xs key

abbrev lists : AtomKey → PlacedSection → Bool
lists key s = has s.section.atoms key

-- where a section is counted that doesn't list the atom
abbrev place : ℕ → ℕ → ℕ → ℕ
place n at count = option_map_or (λ k. k + n) (if nat_lt at count then Some at else None) 0

moved : (n at count : ℕ) → place n (1 + at) (suc count) ≡ place (n + 1) at count
moved n at count = by (nat_lt at count) refl
  where
    by : (t : Bool) → nat_lt at count ≡ t → place n (1 + at) (suc count) ≡ place (n + 1) at count
    by true e =
        let low : nat_lt (1 + at) (suc count) ≡ true = grind arith in
        let same : 1 + at + n ≡ at + (n + 1) = omega arith in
        rw e (rw low same)
    by false e = let high : nat_lt (1 + at) (suc count) ≡ false = grind arith in rw e (rw high refl)

first : (n count : ℕ) → place n 0 (suc count) ≡ n
first n count =
    let low : nat_lt 0 (suc count) ≡ true = grind arith in
    let same : 0 + n ≡ n = omega arith in
    rw low same

numbered_from : (n : ℕ) (xs : List PlacedSection) (key : AtomKey) → option_map_or (λ at. at + n) (position (lists key) xs) 0 ≡ number_from n xs key
numbered_from n [] key = refl
numbered_from n (x ∷ xs) key = by (numbered_from (n + 1) xs key) (has x.section.atoms key) refl
  where
    by : option_map_or (λ at. at + (n + 1)) (position (lists key) xs) 0 ≡ number_from (n + 1) xs key → (t : Bool) → has x.section.atoms key ≡ t → option_map_or (λ at. at + n) (position (lists key) (x ∷ xs)) 0 ≡ number_from n (x ∷ xs) key
    by rest true e = rw e (first n (length xs))
    by rest false e = rw e (moved n (position_or_len (lists key) xs) (length xs) ∙ rest)

number_is : (xs : List PlacedSection) (key : AtomKey) → section_number xs key ≡ number_from 1 xs key
unfolding section_number
number_is xs key = numbered_from 1 xs key

from_more : (n : ℕ) (xs : List PlacedSection) (s : PlacedSection) (key : AtomKey) → (n == 0) ≡ false → number_from n (xs ++ s ∷ []) key ≡ or_number (number_from n xs key) (given (has s.section.atoms key) (n + length xs))
from_more n [] s key some = let e : n ≡ n + 0 = omega arith in ap (given (has s.section.atoms key)) e
from_more n (x ∷ xs) s key some = by (from_more (n + 1) xs s key (not_none n)) (has x.section.atoms key) refl
  where
    moved : n + 1 + length xs ≡ n + length (x ∷ xs)
    moved = omega arith

    by : number_from (n + 1) (xs ++ s ∷ []) key ≡ or_number (number_from (n + 1) xs key) (given (has s.section.atoms key) (n + 1 + length xs)) → (t : Bool) → has x.section.atoms key ≡ t → number_from n (x ∷ xs ++ s ∷ []) key ≡ or_number (number_from n (x ∷ xs) key) (given (has s.section.atoms key) (n + length (x ∷ xs)))
    by rest true e = rw e (sym (kept n (given (has s.section.atoms key) (n + length (x ∷ xs))) some))
    by rest false e =
        rw e (rest ∙ ap (λ (m : ℕ). or_number (number_from (n + 1) xs key) (given (has s.section.atoms key) m)) moved)

pub sections_start : (placed : List Placed) (numbers : List ℕ) (sections : List PlacedSection) (count : ℕ) → count ≡ length placed → numbers ≡ replicate count 0 → AreNumbers (section_number (take 0 sections)) placed numbers
unfolding section_number
sections_start placed numbers sections count same is = record {
  size = ap length is ∙ length-replicate count 0 ∙ same;
  each = λ at y p low. ap (λ (l : List ℕ). get_or l at y) is ∙ get_or-replicate count at 0 y (omega (arith, low, same));
}

pub sections_go_on : (placed : List Placed) (numbers : List ℕ) (sections : List PlacedSection) (i n : ℕ) (s : PlacedSection) (atoms : List AtomKey) → i < length sections → s ≡ get_or sections i s → atoms ≡ s.section.atoms → n ≡ i + 1 → AreNumbers (numbered (section_number (take i sections)) n atoms) placed numbers → AreNumbers (section_number (take (i + 1) sections)) placed numbers
unfolding numbered
sections_go_on placed numbers sections i n s atoms low is of number are =
    table_same (λ (x : ℕ). x) (numbered (section_number (take i sections)) n atoms) (section_number (take (i + 1) sections)) placed numbers are
    (λ key. ap (λ (m : ℕ). or_number m (given (has atoms key) n)) (number_is (take i sections) key)
    ∙ ap (λ (xs : List AtomKey). or_number (number_from 1 (take i sections) key) (given (has xs key) n)) of
    ∙ ap (λ (m : ℕ). or_number (number_from 1 (take i sections) key) (given (has s.section.atoms key) m)) (number ∙ counted)
    ∙ sym (from_more 1 (take i sections) s key refl)
    ∙ ap (λ (xs : List PlacedSection). number_from 1 xs key) (ap (λ (x : PlacedSection). take i sections ++ x ∷ []) is ∙ sym (take_more sections i s low))
    ∙ sym (number_is (take (i + 1) sections) key))
  where
    counted : i + 1 ≡ 1 + length (take i sections)
    counted =
        let size : length (take i sections) ≡ i = length-take-le i sections (omega (arith, low)) in
        omega (arith, size)

pub sections_end : (placed : List Placed) (numbers : List ℕ) (sections : List PlacedSection) (i : ℕ) → length sections ≤ i → AreNumbers (section_number (take i sections)) placed numbers → AreNumbers (section_number sections) placed numbers
sections_end placed numbers sections i past are =
    table_same (λ (x : ℕ). x) (section_number (take i sections)) (section_number sections) placed numbers are
    (λ key. ap (λ (xs : List PlacedSection). section_number xs key) (take_all i sections past))

-- ---- where an atom stands

pub site_there : (layout inner : Layout) (placed list : List Placed) (numbers : List ℕ) (atom : AtomKey) (at number : ℕ) (d : Placed) → AreOnce placed → StandsAt atom_of placed atom at → IsSited inner placed numbers → inner ≡ layout → list ≡ placed → number ≡ get_or numbers at number → Some (record { atom = (get_or list at d).atom; address = (get_or list at d).address; section = number }) ≡ site_of layout atom
unfolding site_of
site_there layout inner placed list numbers atom at number d once stands sited within same value =
    let site : AtomKey → ℕ → ℕ → Option Site = λ a x s. Some (record { atom = a; address = x; section = s }) in
    ap (λ (l : List Placed). site (get_or l at d).atom (get_or l at d).address number) same
    ∙ ap (λ (a : AtomKey). site a (get_or placed at d).address number) (stands.of_atom d)
    ∙ ap (λ (s : ℕ). site atom (get_or placed at d).address s) (value ∙ table_at (λ (x : ℕ). x) (section_number inner.sections) placed numbers atom at number stands sited.right d)
    ∙ ap (option_map (λ (address : ℕ). record { atom = atom; address = address; section = section_number inner.sections atom }))
    (stands_address placed atom at d once stands ∙ ap (λ (l : List Placed). address_in l atom) sited.same)
    ∙ ap (λ (l : Layout). option_map (λ (address : ℕ). record { atom = atom; address = address; section = section_number l.sections atom }) (address_in l.placed atom)) within

pub site_none : (layout inner : Layout) (placed : List Placed) (numbers : List ℕ) (atom : AtomKey) → AreOnce placed → All (λ (p : Placed). p.atom ≢ atom) placed → IsSited inner placed numbers → inner ≡ layout → None ≡ site_of layout atom
unfolding site_of
site_none layout inner placed numbers atom once none sited within =
    ap (option_map (λ (address : ℕ). record { atom = atom; address = address; section = section_number inner.sections atom }))
    (no_address placed atom once none ∙ ap (λ (l : List Placed). address_in l atom) sited.same)
    ∙ ap (λ (l : Layout). option_map (λ (address : ℕ). record { atom = atom; address = address; section = section_number l.sections atom }) (address_in l.placed atom)) within
