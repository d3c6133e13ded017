-- The atom to which an offset of a section belongs: where it begins and ends.
use Rattle.std.proofs.Common.{◌≡◌, ℕ, zero, suc, ◌+◌, ◌-◌, ◌<◌, ◌≤◌, ◌++◌, ◌∷◌, [], ◌⊎◌, inl, inr, List, length, get_or, slice_get, Bool, true, false, cond, eqb, ltb, filter, Some, None, refl, sym, ap, ◌∙◌, subst, arith, if◌then◌else◌}
use Rattle.std.specs.List.{AllByRecursion, AllPairs, range_with_len}
use Rattle.std.specs.List.Sorted.{IsPartitionPoint}
use Rattle.std.proofs.lemmas.Bool.{and_from, and_parts, cases_lt, cases_eq, eq-eqb, eqb-true, false_from_ne_true, false≢true, le-leb, ltb-true, or_cases, or_right}
use Rattle.std.proofs.lemmas.List.{get_or_append_left, get_or-append-add, length-append}
use Rattle.std.proofs.lemmas.List.Elements.{All-from_recursion}
use Rattle.std.proofs.lemmas.Option.{get_or_from_slice_get, slice_get_within}
use Rattle.mo_types.specs.declared.atom.Atom.{Atom}
use Rattle.mo_types.specs.declared.key.FileId.{FileId}
use Rattle.mo_types.specs.declared.object.Object.{Object}
use Rattle.mo_types.specs.declared.object.Section.{Section}
use Rattle.mo_types.specs.Atoms.{cuts, cut_of, is_cut, piece, pieces, section_atoms, atoms_from, atoms_of}
use Rattle.mo_types.specs.RelocationRules.{section_numbered}
use Rattle.mo_types.specs.Whole.{IsWhole, IsWholeSection, is_dropped}
use Rattle.atom_cut.specs.Laws.{IsBefore, IsGreatest}
use Rattle.atom_cut.proofs.KeyLemmas.{atoms_stand, sections_stand, StandsFrom, IsInOrAfter}
use Rattle.atom_cut.proofs.TileLemmas.{greatest_cut}
use Rattle.reloc_read.specs.CutObject.{is_up_to}
use Rattle.reloc_read.proofs.LookupLemmas.{finds, rising_atoms, Finds}
use Rattle.unwind_read.specs.Spots.{end_of, least_from}

-- the first number of some that passes

record IsLeast (test : ℕ → Bool) (at n e : ℕ) : Type 0 where
  low : at ≤ e
  high : e ≤ at + n
  none : (k : ℕ) → at ≤ k → k < e → test k ≡ false
  some : e < at + n → test e ≡ true

least_step : (test : ℕ → Bool) (at n : ℕ) (b : Bool) → test at ≡ b → IsLeast test (at + 1) n (least_from test (at + 1) n) → IsLeast test at (suc n) (if b then at else least_from test (at + 1) n)
least_step test at n true pass rest = record { low = omega arith; high = omega arith; none = λ k low high. absurd (omega arith); some = λ less. pass }
least_step test at n false fail rest =
    let low : at + 1 ≤ least_from test (at + 1) n = rest.low in
    let high : least_from test (at + 1) n ≤ at + 1 + n = rest.high in
    record {
      low = omega arith;
      high = omega arith;
      none = λ k from below. elim (cases_lt at k) [
        | inl more ↦ rest.none k (omega arith) below
        | inr here ↦ let same : at ≡ k = omega arith in subst (λ (m : ℕ). test m ≡ false) same fail
      ];
      some = λ less. rest.some (omega arith);
    }

least_is : (test : ℕ → Bool) (at n : ℕ) → IsLeast test at n (least_from test at n)
least_is test at zero = record { low = omega arith; high = omega arith; none = λ k low high. absurd (omega arith); some = λ less. absurd (omega arith) }
least_is test at (suc n) = least_step test at n (test at) refl (least_is test (at + 1) n)

least_is_one : (test : ℕ → Bool) (at n e f : ℕ) → IsLeast test at n e → IsLeast test at n f → e ≡ f
least_is_one test at n e f first second =
    elim (cases_lt e f) [
      | inl below ↦
          let high : f ≤ at + n = second.high in
          absurd (false≢true (sym (second.none e first.low below) ∙ first.some (omega arith)))
      | inr above ↦ elim (cases_lt f e) [
        | inl below ↦
            let high : e ≤ at + n = first.high in
            absurd (false≢true (sym (first.none f second.low below) ∙ second.some (omega arith)))
        | inr same ↦ omega arith
      ]
    ]

-- an end by what it is

pub cut_is_small : (object : Object) (number : ℕ) (section : Section) (y : ℕ) → is_cut object number section y ≡ true → (y ≡ 0) ⊎ (y < section.size)
unfolding is_cut
cut_is_small object number section y pass =
    elim (or_cases _ _ pass) [ inl start ↦ inl (eqb-true y 0 start) | inr more ↦ inr (ltb-true y section.size ((and_parts _ _ more).0)) ]

-- the next cut after an offset, or the section's end where there is none
pub record IsEnd (object : Object) (number : ℕ) (section : Section) (offset end : ℕ) : Type 0 where
  pub low : offset ≤ end
  pub high : end ≤ section.size
  pub none : (k : ℕ) → offset < k → k < end → is_cut object number section k ≡ false
  pub some : end < section.size → (offset < end) × (is_cut object number section end ≡ true)

pub end_is : (object : Object) (number : ℕ) (section : Section) (offset end : ℕ) → offset ≤ section.size → IsEnd object number section offset end → end ≡ end_of object number section offset
unfolding end_of
end_is object number section offset end within is =
    let p : ℕ → Bool = is_cut object number section in
    let low : offset ≤ end = is.low in
    let high : end ≤ section.size = is.high in
    elim (cases_lt end section.size) [
      | inl less ↦
          let more : offset < end = (is.some less).0 in
          let least : IsLeast p (offset + 1) (section.size - offset) end = record {
            low = omega arith;
            high = omega arith;
            none = λ k from below. is.none k (omega arith) below;
            some = λ before. (is.some less).1;
          } in
          let e : end ≡ least_from p (offset + 1) (section.size - offset) = least_is_one p (offset + 1) (section.size - offset) end _ least (least_is p (offset + 1) (section.size - offset)) in
          rw (← e) (omega arith)
      | inr past ↦
          let last : end ≡ section.size = omega arith in
          let least : IsLeast p (offset + 1) (section.size - offset) (section.size + 1) = record {
            low = omega arith;
            high = omega arith;
            none = λ k from below. elim (cases_lt k end) [
              | inl inside ↦ is.none k (omega arith) inside
              | inr outside ↦ false_from_ne_true (p k) (λ pass. elim (cut_is_small object number section k pass) [ inl start ↦ absurd (omega arith) | inr small ↦ absurd (omega arith) ])
            ];
            some = λ before. absurd (omega arith);
          } in
          let e : section.size + 1 ≡ least_from p (offset + 1) (section.size - offset) = least_is_one p (offset + 1) (section.size - offset) (section.size + 1) _ least (least_is p (offset + 1) (section.size - offset)) in
          rw (← e) (omega arith)
    ]

-- each atom ends there

-- the cut that comes next among those from a number on
abbrev cut_from : Object → ℕ → Section → ℕ → ℕ → List ℕ
cut_from object number section a n = filter (is_cut object number section) (range_with_len a n)

next_step : (object : Object) (number : ℕ) (section : Section) (from a n : ℕ) (b : Bool) → is_cut object number section a ≡ b → from < a → a + suc n ≤ section.size → ((k : ℕ) → from < k → k < a → is_cut object number section k ≡ false) → (is_cut object number section a ≡ false → IsEnd object number section from (get_or (cut_from object number section (a + 1) n) 0 section.size)) → IsEnd object number section from (get_or (cond b (a ∷ cut_from object number section (a + 1) n) (cut_from object number section (a + 1) n)) 0 section.size)
next_step object number section from a n true pass less inside none rest = record {
  low = omega arith;
  high = omega arith;
  none = λ k after below. none k after below;
  some = λ before. (less, pass);
}
next_step object number section from a n false fail less inside none rest = rest fail

not_further : (object : Object) (number : ℕ) (section : Section) (from a : ℕ) → ((k : ℕ) → from < k → k < a → is_cut object number section k ≡ false) → is_cut object number section a ≡ false → (k : ℕ) → from < k → k < a + 1 → is_cut object number section k ≡ false
not_further object number section from a none fail k after below = elim (cases_lt k a) [
  | inl before ↦ none k after before
  | inr here ↦ let same : a ≡ k = omega arith in subst (λ (m : ℕ). is_cut object number section m ≡ false) same fail
]

next_is : (object : Object) (number : ℕ) (section : Section) (from a n : ℕ) → from < a → from ≤ section.size → (0 < n → a + n ≤ section.size) → section.size ≤ a + n → ((k : ℕ) → from < k → k < a → is_cut object number section k ≡ false) → IsEnd object number section from (get_or (cut_from object number section a n) 0 section.size)
next_is object number section from a zero less within fits reach none = record {
  low = within;
  high = omega arith;
  none = λ k after below. none k after (omega arith);
  some = λ before. absurd (omega arith);
}
next_is object number section from a (suc n) less within fits reach none =
    let inside : a + suc n ≤ section.size = fits (omega arith) in
    next_step object number section from a n (is_cut object number section a) refl less inside none
    (λ fail. next_is object number section from (a + 1) n (omega arith) within (λ more. omega arith) (omega arith) (not_further object number section from a none fail))

-- where it stands in the section of a number it ends where the atom of its first offset does
pub record AtEnd (object : Object) (number : ℕ) (section : Section) (atom : Atom) : Type 0 where
  pub end : atom.key.section ≡ number → IsEnd object number section atom.key.offset (atom.key.offset + atom.size)

piece_at_end : (object : Object) (file : FileId) (number : ℕ) (section : Section) (from to : ℕ) → IsEnd object number section from to → AtEnd object number section (piece file number section from to)
unfolding piece
piece_at_end object file number section from to is =
    let low : from ≤ to = is.low in
    let same : to ≡ from + (to - from) = omega arith in
    record { end = λ here. subst (IsEnd object number section from) same is }

ends_step : (object : Object) (file : FileId) (number : ℕ) (section : Section) (a n : ℕ) (b : Bool) → a + suc n ≤ section.size → section.size ≤ a + 1 + n → AllByRecursion (AtEnd object number section) (pieces file number section (cut_from object number section (a + 1) n)) → AllByRecursion (AtEnd object number section) (pieces file number section (cond b (a ∷ cut_from object number section (a + 1) n) (cut_from object number section (a + 1) n)))
ends_step object file number section a n true inside reach rest = (
  piece_at_end object file number section a (get_or (cut_from object number section (a + 1) n) 0 section.size)
      (next_is object number section a (a + 1) n (omega arith) (omega arith) (λ more. omega arith) reach (λ k after below. absurd (omega arith))),
  rest,
)
ends_step object file number section a n false inside reach rest = rest

cuts_end : (object : Object) (file : FileId) (number : ℕ) (section : Section) (a n : ℕ) → (0 < n → a + n ≤ section.size) → section.size ≤ a + n → AllByRecursion (AtEnd object number section) (pieces file number section (cut_from object number section a n))
cuts_end object file number section a zero fits reach = tt
cuts_end object file number section a (suc n) fits reach =
    let inside : a + suc n ≤ section.size = fits (omega arith) in
    ends_step object file number section a n (is_cut object number section a) inside (omega arith) (cuts_end object file number section (a + 1) n (λ more. omega arith) (omega arith))

cuts_at_ends : (object : Object) (file : FileId) (number : ℕ) (section : Section) → AllByRecursion (AtEnd object number section) (pieces file number section (cuts object number section))
unfolding cuts
cuts_at_ends object file number section = (
  piece_at_end object file number section 0 (get_or (cut_from object number section 1 (section.size - 1)) 0 section.size) (next_is object number section 0 1 (section.size - 1) (omega arith) (omega arith) (λ more. omega arith) (omega arith) (λ k after below. absurd (omega arith))),
  cuts_end object file number section 1 (section.size - 1) (λ more. omega arith) (omega arith),
)

section_chosen : (object : Object) (file : FileId) (number : ℕ) (section : Section) (dropped : Bool) → AllByRecursion (AtEnd object number section) (if dropped then [] else pieces file number section (cuts object number section))
section_chosen object file number section true = tt
section_chosen object file number section false = cuts_at_ends object file number section

section_at_ends : (object : Object) (file : FileId) (number : ℕ) (section : Section) → AllByRecursion (AtEnd object number section) (section_atoms object file number section)
unfolding section_atoms
section_at_ends object file number section = section_chosen object file number section (is_dropped section)

weaker : (P Q : Atom → Type 0) → ((atom : Atom) → P atom → Q atom) → (atoms : List Atom) → AllByRecursion P atoms → AllByRecursion Q atoms
weaker P Q step [] all = tt
weaker P Q step (atom ∷ atoms) all = (step atom all.0, weaker P Q step atoms all.1)

joined : (P : Atom → Type 0) (xs ys : List Atom) → AllByRecursion P xs → AllByRecursion P ys → AllByRecursion P (xs ++ ys)
joined P [] ys first second = second
joined P (x ∷ xs) ys first second = (first.0, joined P xs ys first.1 second)

elsewhere : (object : Object) (number : ℕ) (section : Section) (atom : Atom) → (atom.key.section ≡ number → ⊥) → AtEnd object number section atom
elsewhere object number section atom other = record { end = λ here. absurd (other here) }

pub sections_at_ends : (object : Object) (file : FileId) (number : ℕ) (sections : List Section) (index : ℕ) (d : Section) → index < length sections → AllByRecursion (AtEnd object (number + index) (get_or sections index d)) (atoms_from object file number sections)
sections_at_ends object file number [] index d within = absurd (omega arith)
sections_at_ends object file number (section ∷ sections) zero d within =
    let same : number ≡ number + zero = omega arith in
    joined (AtEnd object (number + zero) section) (section_atoms object file number section) (atoms_from object file (number + 1) sections)
    (subst (λ (n : ℕ). AllByRecursion (AtEnd object n section) (section_atoms object file number section)) same (section_at_ends object file number section))
    (weaker (IsInOrAfter (number + 1)) (AtEnd object (number + zero) section)
    (λ atom after. elsewhere object (number + zero) section atom (λ is. let far : number + 1 ≤ atom.key.section = after in omega arith))
    (atoms_from object file (number + 1) sections) (sections_stand object file (number + 1) sections))
sections_at_ends object file number (section ∷ sections) (suc index) d within =
    let same : number + 1 + index ≡ number + suc index = omega arith in
    joined (AtEnd object (number + suc index) (get_or sections index d)) (section_atoms object file number section) (atoms_from object file (number + 1) sections)
    (weaker (StandsFrom number 0) (AtEnd object (number + suc index) (get_or sections index d))
    (λ atom stands. elsewhere object (number + suc index) (get_or sections index d) atom (λ is. let here : atom.key.section ≡ number = stands.section in omega arith))
    (section_atoms object file number section) (atoms_stand object file number section))
    (subst (λ (n : ℕ). AllByRecursion (AtEnd object n (get_or sections index d)) (atoms_from object file (number + 1) sections)) same
    (sections_at_ends object file (number + 1) sections index d (omega arith)))

-- the first atom of a linked section

record Start (number : ℕ) (atoms : List Atom) : Type 0 where
  at : ℕ
  within : at < length atoms
  section : (d : Atom) → (get_or atoms at d).key.section ≡ number
  offset : (d : Atom) → (get_or atoms at d).key.offset ≡ 0

section_start : (object : Object) (file : FileId) (number : ℕ) (section : Section) → is_dropped section ≡ false → Start number (section_atoms object file number section)
unfolding section_atoms cuts piece
section_start object file number section linked = rw linked (record { at = 0; within = omega arith; section = λ d. refl; offset = λ d. refl })

start_left : (number : ℕ) (xs ys : List Atom) → Start number xs → Start number (xs ++ ys)
start_left number xs ys start =
    let inside : start.at < length xs = start.within in
    let size : length (xs ++ ys) ≡ length xs + length ys = length-append xs ys in
    record {
      at = start.at;
      within = omega arith;
      section = λ d. ap (λ (a : Atom). a.key.section) (get_or_append_left xs ys d start.at inside) ∙ start.section d;
      offset = λ d. ap (λ (a : Atom). a.key.offset) (get_or_append_left xs ys d start.at inside) ∙ start.offset d;
    }

start_right : (number : ℕ) (xs ys : List Atom) → Start number ys → Start number (xs ++ ys)
start_right number xs ys start =
    let inside : start.at < length ys = start.within in
    let size : length (xs ++ ys) ≡ length xs + length ys = length-append xs ys in
    record {
      at = length xs + start.at;
      within = omega arith;
      section = λ d. ap (λ (a : Atom). a.key.section) (get_or-append-add xs ys start.at d) ∙ start.section d;
      offset = λ d. ap (λ (a : Atom). a.key.offset) (get_or-append-add xs ys start.at d) ∙ start.offset d;
    }

sections_start : (object : Object) (file : FileId) (number : ℕ) (sections : List Section) (index : ℕ) (d : Section) → index < length sections → is_dropped (get_or sections index d) ≡ false → Start (number + index) (atoms_from object file number sections)
sections_start object file number [] index d within linked = absurd (omega arith)
sections_start object file number (section ∷ sections) zero d within linked =
    let same : number ≡ number + zero = omega arith in
    start_left (number + zero) (section_atoms object file number section) (atoms_from object file (number + 1) sections)
    (subst (λ (n : ℕ). Start n (section_atoms object file number section)) same (section_start object file number section linked))
sections_start object file number (section ∷ sections) (suc index) d within linked =
    let same : number + 1 + index ≡ number + suc index = omega arith in
    start_right (number + suc index) (section_atoms object file number section) (atoms_from object file (number + 1) sections)
    (subst (λ (n : ℕ). Start n (atoms_from object file (number + 1) sections)) same (sections_start object file (number + 1) sections index d (omega arith) linked))

-- the atom that is found stands in the section

abbrev Parted : ℕ → ℕ → List Atom → ℕ → Type 0
Parted number offset atoms n = IsPartitionPoint (λ (atom : Atom). is_up_to number offset atom.key ≡ true) (λ (atom : Atom). is_up_to number offset atom.key ≡ false) atoms n

in_section : (number offset : ℕ) (atoms : List Atom) (n : ℕ) (x : Atom) → AllPairs (λ a b. IsBefore a.key b.key) atoms → n ≤ length atoms → Parted number offset atoms n → Start number atoms → (0 < n) × ((get_or atoms (n - 1) x).key.section ≡ number)
in_section number offset atoms n x rise bound point start =
    let inside : start.at < length atoms = start.within in
    let section : (get_or atoms start.at x).key.section ≡ number = start.section x in
    let begins : (get_or atoms start.at x).key.offset ≡ 0 = start.offset x in
    let up : is_up_to number offset (get_or atoms start.at x).key ≡ true =
    or_right (ltb (get_or atoms start.at x).key.section number) _ (and_from _ _ (eq-eqb _ number section) (le-leb _ offset (omega arith))) in
    let before : start.at < n = elim (cases_lt start.at n) [ inl below ↦ below | inr past ↦ absurd (false≢true (sym (point.1 start.at x past inside) ∙ up)) ] in
    let last : is_up_to number offset (get_or atoms (n - 1) x).key ≡ true = point.0 (n - 1) x (omega arith) (omega arith) in
    let high : (get_or atoms (n - 1) x).key.section ≤ number = elim (or_cases _ _ last) [
      | inl less ↦ let below : (get_or atoms (n - 1) x).key.section < number = ltb-true _ number less in omega arith
      | inr same ↦ let is : (get_or atoms (n - 1) x).key.section ≡ number = eqb-true _ number ((and_parts _ _ same).0) in omega arith
    ] in
    let low : number ≤ (get_or atoms (n - 1) x).key.section = elim (cases_lt start.at (n - 1)) [
      | inl below ↦ elim (rise start.at (n - 1) x below (omega arith)) [
        | inl less ↦ omega arith
        | inr same ↦ let is : (get_or atoms start.at x).key.section ≡ (get_or atoms (n - 1) x).key.section = same.0 in omega arith
      ]
      | inr here ↦ let is : start.at ≡ n - 1 = omega arith in
          let there : (get_or atoms (n - 1) x).key.section ≡ number = subst (λ (k : ℕ). (get_or atoms k x).key.section ≡ number) is section in omega arith
    ] in
    (omega arith, omega arith)

-- the end of an atom is that of each of its offsets
pub later_end : (object : Object) (number : ℕ) (section : Section) (start offset end : ℕ) → IsGreatest (is_cut object number section) offset start → offset ≤ section.size → IsEnd object number section start end → IsEnd object number section offset end
later_end object number section start offset end greatest within is =
    let below : start ≤ offset = greatest.within in
    let high : end ≤ section.size = is.high in
    let low : offset ≤ end = elim (cases_lt end offset) [
      | inl before ↦
          let pass : is_cut object number section end ≡ true = (is.some (omega arith)).1 in
          let more : start < end = (is.some (omega arith)).0 in
          let up : end ≤ start = greatest.above_all end pass (omega arith) in
          absurd (omega arith)
      | inr after ↦ after
    ] in
    record {
      low = low;
      high = high;
      none = λ k after before. is.none k (omega arith) before;
      some = λ less. (
        elim (cases_lt offset end) [
          | inl more ↦ more
          | inr same ↦
              let pass : is_cut object number section end ≡ true = (is.some less).1 in
              let more : start < end = (is.some less).0 in
              let up : end ≤ start = greatest.above_all end pass (omega arith) in
              absurd (omega arith)
        ],
        (is.some less).1,
      );
    }

-- where the atom begins and ends to which an offset belongs

pub record Bounds (object : Object) (number : ℕ) (section : Section) (offset : ℕ) (atom : Atom) : Type 0 where
  pub start : atom.key.offset ≡ cut_of object number section offset
  pub end : atom.key.offset + atom.size ≡ end_of object number section offset
  pub low : atom.key.offset ≤ offset
  pub high : offset ≤ atom.key.offset + atom.size
  pub room : atom.key.offset + atom.size ≤ section.size

are_atoms : (object : Object) (file : FileId) → atoms_of object file ≡ atoms_from object file 1 object.sections
unfolding atoms_of
are_atoms object file = refl

found_atom : (object : Object) (file : FileId) (index : ℕ) (d : Section) (offset n : ℕ) (atoms : List Atom) (number : ℕ) → number ≡ index + 1 → atoms ≡ atoms_of object file → index < length object.sections → is_dropped (get_or object.sections index d) ≡ false → offset ≤ (get_or object.sections index d).size → n ≤ length atoms → Parted number offset atoms n → (x : Atom) → (0 < n) × Bounds object number (get_or object.sections index d) offset (get_or atoms (n - 1) x)
found_atom object file index d offset n atoms number is_number is within linked inside bound point x =
    let section : Section = get_or object.sections index d in
    let from_1 : number ≡ 1 + index = omega arith in
    let e : atoms_from object file 1 object.sections ≡ atoms = sym (is ∙ are_atoms object file) in
    let point' : Parted (index + 1) offset atoms n = subst (λ (k : ℕ). Parted k offset atoms n) is_number point in
    let found : Finds object index d offset atoms n = finds object file index d offset n atoms is within linked bound point' in
    let start : (get_or atoms (n - 1) x).key.offset ≡ cut_of object number section offset =
    found.offset_is x ∙ ap (λ (k : ℕ). cut_of object k section offset) (sym is_number) in
    let first : Start number atoms = subst (λ (xs : List Atom). Start number xs) e (subst (λ (k : ℕ). Start k (atoms_from object file 1 object.sections)) (sym from_1) (sections_start object file 1 object.sections index d within linked)) in
    let stands : (0 < n) × ((get_or atoms (n - 1) x).key.section ≡ number) = in_section number offset atoms n x (rising_atoms object file atoms is) bound point first in
    let some : 0 < n = stands.0 in
    let all : AllByRecursion (AtEnd object number section) atoms =
    subst (λ (xs : List Atom). AllByRecursion (AtEnd object number section) xs) e
    (subst (λ (k : ℕ). AllByRecursion (AtEnd object k section) (atoms_from object file 1 object.sections)) (sym from_1) (sections_at_ends object file 1 object.sections index d within)) in
    let own : AtEnd object number section (get_or atoms (n - 1) x) = All-from_recursion (AtEnd object number section) atoms all (n - 1) x (omega arith) in
    let end : IsEnd object number section (get_or atoms (n - 1) x).key.offset ((get_or atoms (n - 1) x).key.offset + (get_or atoms (n - 1) x).size) = own.end stands.1 in
    let greatest : IsGreatest (is_cut object number section) offset (cut_of object number section offset) = greatest_cut object number section offset in
    let later : IsEnd object number section offset ((get_or atoms (n - 1) x).key.offset + (get_or atoms (n - 1) x).size) =
    later_end object number section (get_or atoms (n - 1) x).key.offset offset _ (subst (IsGreatest (is_cut object number section) offset) (sym start) greatest) inside end in
    let low : cut_of object number section offset ≤ offset = greatest.within in (
      some,
      record {
        start = start;
        end = end_is object number section offset _ inside later;
        low = subst (λ (k : ℕ). k ≤ offset) (sym start) low;
        high = later.low;
        room = later.high;
      },
    )

-- the section of a number from 1
pub record Numbered (sections : List Section) (number : ℕ) (section : Section) : Type 0 where
  pub some : 0 < number
  pub within : number - 1 < length sections
  pub is : (d : Section) → get_or sections (number - 1) d ≡ section

pub numbered : (sections : List Section) (number : ℕ) (section : Section) → section_numbered sections number ≡ Some section → Numbered sections number section
numbered sections number section e =
    elim (cases_eq number 0) [
      | inl start ↦ let none : None ≡ Some section = rw (eq-eqb number 0 start) at e in absurd (no_some section none)
      | inr more ↦
          let some : slice_get sections (number - 1) ≡ Some section = later (eqb number 0) (false_from_ne_true _ (λ t. more (eqb-true number 0 t))) e in
          let positive : 0 < number = above number more in
          record {
            some = positive;
            within = slice_get_within sections (number - 1) section some;
            is = λ d. get_or_from_slice_get sections (number - 1) section d some;
          }
    ]
  where
    no_some : (x : Section) → None ≡ Some x → ⊥
    no_some x e = cc

    later : (b : Bool) → b ≡ false → (if b then None else slice_get sections (number - 1)) ≡ Some section → slice_get sections (number - 1) ≡ Some section
    later true e is = absurd (false≢true (sym e))
    later false e is = is

    above : (n : ℕ) → (n ≡ 0 → ⊥) → 0 < n
    above zero more = absurd (more refl)
    above (suc n) more = omega arith

pub some_atom : (object : Object) (file : FileId) (atoms : List Atom) (number : ℕ) (section : Section) (offset n : ℕ) → atoms ≡ atoms_of object file → section_numbered object.sections number ≡ Some section → is_dropped section ≡ false → n ≤ length atoms → IsPartitionPoint (λ (atom : Atom). is_up_to number offset atom.key ≡ true) (λ (atom : Atom). is_up_to number offset atom.key ≡ false) atoms n → 0 < n
some_atom object file atoms number section offset n is has linked bound point =
    let at : Numbered object.sections number section = numbered object.sections number section has in
    let some : 0 < number = at.some in
    let index : number ≡ number - 1 + 1 = omega arith in
    let point' : Parted (number - 1 + 1) offset atoms n = subst (λ (k : ℕ). Parted k offset atoms n) index point in
    (finds object file (number - 1) section offset n atoms is at.within (ap is_dropped (at.is section) ∙ linked) bound point').some

pub bounds : (object : Object) (file : FileId) (atoms : List Atom) (number : ℕ) (section : Section) (offset n : ℕ) (atom : Atom) → atoms ≡ atoms_of object file → section_numbered object.sections number ≡ Some section → is_dropped section ≡ false → offset ≤ section.size → n ≤ length atoms → IsPartitionPoint (λ (atom : Atom). is_up_to number offset atom.key ≡ true) (λ (atom : Atom). is_up_to number offset atom.key ≡ false) atoms n → ((x : Atom) → atom ≡ get_or atoms (n - 1) x) → Bounds object number section offset atom
bounds object file atoms number section offset n atom is has linked inside bound point last =
    let at : Numbered object.sections number section = numbered object.sections number section has in
    let some : 0 < number = at.some in
    let same : get_or object.sections (number - 1) section ≡ section = at.is section in
    let found : (0 < n) × Bounds object number (get_or object.sections (number - 1) section) offset (get_or atoms (n - 1) atom) =
    found_atom object file (number - 1) section offset n atoms number (omega arith) is at.within (ap is_dropped same ∙ linked) (subst (λ (s : Section). offset ≤ s.size) (sym same) inside) bound point atom in
    subst (λ (s : Section). Bounds object number s offset atom) same (subst (λ (a : Atom). Bounds object number (get_or object.sections (number - 1) section) offset a) (sym (last atom)) found.1)

pub few_numbers : (object : Object) (number : ℕ) (section : Section) → IsWhole object → section_numbered object.sections number ≡ Some section → number ≤ 255
few_numbers object number section whole has =
    let at : Numbered object.sections number section = numbered object.sections number section has in
    let within : number - 1 < length object.sections = at.within in
    let few : length object.sections ≤ 255 = whole.few_sections in
    omega arith

pub whole_section : (object : Object) (number : ℕ) (section : Section) → IsWhole object → section_numbered object.sections number ≡ Some section → IsWholeSection section
whole_section object number section whole has =
    let at : Numbered object.sections number section = numbered object.sections number section has in
    subst IsWholeSection (at.is section) (whole.sections (number - 1) section at.within)
