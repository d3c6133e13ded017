-- How far islands move what is placed: what stands behind an area in `__TEXT` by the area's bytes, and what stands
-- behind `__TEXT` by whole pages.
use Rattle.std.proofs.Common.{◌≡◌, ℕ, ◌+◌, ◌-◌, ◌*◌, ◌^◌, ◌<◌, ◌≤◌, ◌⊎◌, ◌++◌, List, [], ◌∷◌, map, refl, sym, ap, subst, ◌∙◌, inl, inr, arith, append_assoc}
use Rattle.std.specs.List.{AllByRecursion, flat_map}
use Rattle.std.proofs.lemmas.Bool.{cases_lt}
use Rattle.std.proofs.lemmas.Nat.{pow_pos, pow-add}
use Rattle.std.proofs.Math.Nat.{mul-le-mul_right}
use Rattle.list_lemmas.proofs.Members.{In, in_either, in_left, in_right}
use Rattle.mo_bytes.specs.Rounding.{IsLeastMultiple}
use Rattle.mo_bytes.proofs.Multiples.{same_least}
use Rattle.mo_types.specs.declared.atom.Atom.{Atom}
use Rattle.mo_types.specs.declared.key.AtomKey.{AtomKey}
use Rattle.tlv_plan.specs.Template.{aligned, atoms_of, stand, end_of}
use Rattle.tlv_plan.proofs.Walk.{aligned_least}
use Rattle.sect_place.specs.Places.{bytes_behind, with_area, spaced, places, part_from, part_end, parts_end, parts_places, page_up, group_end, groups_places}
use Rattle.sect_place.specs.declared.island.IslandArea.{IslandArea}
use Rattle.sect_place.specs.declared.layout.Placed.{Placed}
use Rattle.sect_place.specs.declared.part.Group.{Group}
use Rattle.sect_place.specs.declared.part.Part.{Part}

-- ---- multiples

abbrev pub IsWhole : ℕ → ℕ → Type 0
IsWhole v n = (count : ℕ) × (n ≡ count * 2 ^ v)

pub whole_sum : (v a b : ℕ) → IsWhole v a → IsWhole v b → IsWhole v (a + b)
whole_sum v a b p q = (p.0 + q.0, omega (arith, p.1, q.1))

least_moved : (unit at least count : ℕ) → 0 < unit → IsLeastMultiple unit at least → IsLeastMultiple unit (at + count * unit) (least + count * unit)
least_moved unit at least count some is = record {
  whole = (is.whole.0 + count, omega (arith, is.whole.1));
  enough = omega (arith, is.enough);
  least = λ other enough. reach other enough (cases_lt other count);
}
  where
    reach : (other : ℕ) → at + count * unit ≤ other * unit → (other < count) ⊎ (count ≤ other) → least + count * unit ≤ other * unit
    reach other enough (inl less) =
        let far : (other + 1) * unit ≤ count * unit = mul-le-mul_right unit (omega (arith, less)) in
        absurd (omega (arith, far, enough, some))
    reach other enough (inr more) =
        let rest : other ≡ (other - count) + count = omega (arith, more) in
        let parts : other * unit ≡ (other - count) * unit + count * unit = subst (λ (n : ℕ). n * unit ≡ (other - count) * unit + count * unit) (sym rest) (omega arith) in
        let low : least ≤ (other - count) * unit = is.least (other - count) (omega (arith, parts, enough)) in
        omega (arith, low, parts)

power_split : (align v : ℕ) → align ≤ v → 2 ^ v ≡ 2 ^ (v - align) * 2 ^ align
power_split align v low =
    let same : v ≡ (v - align) + align = omega (arith, low) in
    ap (λ (n : ℕ). 2 ^ n) same ∙ pow-add 2 (v - align) align

finer : (align v n : ℕ) → align ≤ v → IsWhole v n → IsWhole align n
finer align v n low is = (is.0 * 2 ^ (v - align), is.1 ∙ (ap (λ p. is.0 * p) (power_split align v low) ∙ omega arith))

pub aligned_moved : (align v at s : ℕ) → align ≤ v → IsWhole v s → aligned align (at + s) ≡ aligned align at + s
aligned_moved align v at s low is =
    let here = finer align v s low is in
    let moved : IsLeastMultiple (2 ^ align) (at + s) (aligned align at + s) = subst (λ (n : ℕ). IsLeastMultiple (2 ^ align) (at + n) (aligned align at + n)) (sym here.1) (least_moved (2 ^ align) at (aligned align at) here.0 (pow_pos align) (aligned_least align at)) in
    same_least (2 ^ align) (at + s) (aligned align (at + s)) (aligned align at + s) (aligned_least align (at + s)) moved

-- ---- atoms

-- the bytes of the area behind an atom, and behind atoms
abbrev pub extra : List IslandArea → ℕ → Atom → ℕ
extra areas unit atom = bytes_behind areas unit atom.key

abbrev pub total : List IslandArea → ℕ → List Atom → ℕ
total areas unit [] = 0
total areas unit (atom ∷ atoms) = extra areas unit atom + total areas unit atoms

none_behind : (unit : ℕ) (key : AtomKey) → bytes_behind [] unit key ≡ 0
unfolding bytes_behind
none_behind unit key = refl

pub total_join : (areas : List IslandArea) (unit : ℕ) (xs ys : List Atom) → total areas unit (xs ++ ys) ≡ total areas unit xs + total areas unit ys
total_join areas unit [] ys = omega arith
total_join areas unit (x ∷ xs) ys = let rest = total_join areas unit xs ys in omega (arith, rest)

-- an atom whose place and whose area are no finer than 2^v
pub record Fits (areas : List IslandArea) (unit v : ℕ) (atom : Atom) : Type 0 where
  pub low : atom.align ≤ v
  pub whole : IsWhole v (extra areas unit atom)

abbrev pub AllFit : List IslandArea → ℕ → ℕ → List Atom → Type 0
AllFit areas unit v atoms = AllByRecursion (Fits areas unit v) atoms

pub total_whole : (areas : List IslandArea) (unit v : ℕ) (atoms : List Atom) → AllFit areas unit v atoms → IsWhole v (total areas unit atoms)
total_whole areas unit v [] fit = (0, omega arith)
total_whole areas unit v (atom ∷ atoms) fit = whole_sum v (extra areas unit atom) (total areas unit atoms) fit.0.whole (total_whole areas unit v atoms fit.1)

next_moved : (areas : List IslandArea) (unit v at s : ℕ) (atom : Atom) → Fits areas unit v atom → IsWhole v s → aligned atom.align (at + s) + (atom.size + bytes_behind areas unit atom.key) ≡ (aligned atom.align at + (atom.size + bytes_behind [] unit atom.key)) + (s + extra areas unit atom)
next_moved areas unit v at s atom fit is =
    let moved = aligned_moved atom.align v at s fit.low is in
    omega (arith, moved, none_behind unit atom.key)

pub end_moved : (areas : List IslandArea) (unit v at s : ℕ) (atoms : List Atom) → AllFit areas unit v atoms → IsWhole v s → end_of (at + s) (map (with_area areas unit) atoms) ≡ end_of at (map (with_area [] unit) atoms) + (s + total areas unit atoms)
unfolding end_of
end_moved areas unit v at s [] fit is = omega arith
end_moved areas unit v at s (atom ∷ atoms) fit is =
    let at' = aligned atom.align at + (atom.size + bytes_behind [] unit atom.key) in
    let s' = s + extra areas unit atom in
    let next = next_moved areas unit v at s atom fit.0 is in
    let rest : end_of (at' + s') (map (with_area areas unit) atoms) ≡ end_of at' (map (with_area [] unit) atoms) + (s' + total areas unit atoms) = end_moved areas unit v at' s' atoms fit.1 (whole_sum v s (extra areas unit atom) is fit.0.whole) in
    ap (λ (n : ℕ). end_of n (map (with_area areas unit) atoms)) next ∙ (rest ∙ omega arith)

-- Where an atom of some that is placed with islands would be placed without: so much before as the areas behind the
-- atoms before it have bytes.
pub record IsPushed (areas : List IslandArea) (unit s : ℕ) (atoms : List Atom) (before : List Placed) (p : Placed) : Type 0 where
  pub first : List Atom
  pub atom : Atom
  pub last : List Atom
  pub split : atoms ≡ first ++ atom ∷ last
  pub key : atom.key ≡ p.atom
  pub from : ℕ
  pub there : In (record { atom = p.atom; address = from }) before
  pub moved : p.address ≡ from + (s + total areas unit first)

one_placed : List IslandArea → ℕ → ℕ → Atom → Placed
one_placed areas unit at atom = record { atom = atom.key; address = aligned atom.align at }

pub atoms_pushed : (areas : List IslandArea) (unit v at s : ℕ) (atoms : List Atom) → AllFit areas unit v atoms → IsWhole v s → (p : Placed) → In p (places (stand (at + s) (map (with_area areas unit) atoms))) → IsPushed areas unit s atoms (places (stand at (map (with_area [] unit) atoms))) p
unfolding stand
atoms_pushed areas unit v at s [] fit is p h = absurd h
atoms_pushed areas unit v at s (atom ∷ atoms) fit is p (inl e) =
    let moved = aligned_moved atom.align v at s fit.0.low is in
    let key : atom.key ≡ p.atom = ap (λ (q : Placed). q.atom) e in
    let address : aligned atom.align (at + s) ≡ p.address = ap (λ (q : Placed). q.address) e in
    record {
      first = [];
      atom = atom;
      last = atoms;
      split = refl;
      key = key;
      from = aligned atom.align at;
      there = inl (ap (λ (k : AtomKey). let q : Placed = record { atom = k; address = aligned atom.align at } in q) key);
      moved = omega (arith, address, moved);
    }
atoms_pushed areas unit v at s (atom ∷ atoms) fit is p (inr h) =
    let at' = aligned atom.align at + (atom.size + bytes_behind [] unit atom.key) in
    let s' = s + extra areas unit atom in
    let next = next_moved areas unit v at s atom fit.0 is in
    let rest = atoms_pushed areas unit v at' s' atoms fit.1 (whole_sum v s (extra areas unit atom) is fit.0.whole) p (subst (λ (n : ℕ). In p (places (stand n (map (with_area areas unit) atoms)))) next h) in
    record {
      first = atom ∷ rest.first;
      atom = rest.atom;
      last = rest.last;
      split = ap (λ (xs : List Atom). atom ∷ xs) rest.split;
      key = rest.key;
      from = rest.from;
      there = inr rest.there;
      moved = omega (arith, rest.moved);
    }

-- ---- sections

abbrev pub part_atoms : List Atom → List Part → List Atom
part_atoms kept parts = flat_map (λ (part : Part). atoms_of kept part.section.atoms) parts

-- sections no finer than 2^v, with their atoms
abbrev pub FitsPart : List Atom → List IslandArea → ℕ → ℕ → Part → Type 0
FitsPart kept areas unit v part = (part.section.align ≤ v) × AllFit areas unit v (atoms_of kept part.section.atoms)

abbrev pub PartsFit : List Atom → List IslandArea → ℕ → ℕ → List Part → Type 0
PartsFit kept areas unit v parts = AllByRecursion (FitsPart kept areas unit v) parts

part_end_moved : (kept : List Atom) (areas : List IslandArea) (unit v at s : ℕ) (part : Part) → FitsPart kept areas unit v part → IsWhole v s → part_end (spaced kept areas unit) (at + s) part ≡ part_end (spaced kept [] unit) at part + (s + total areas unit (atoms_of kept part.section.atoms))
unfolding part_end spaced
part_end_moved kept areas unit v at s part fit is =
    let atoms = atoms_of kept part.section.atoms in
    let from = aligned_moved part.section.align v at s fit.0 is in
    let ends = end_moved areas unit v (part_from at part) s atoms fit.1 is in
    let begins : end_of (part_from (at + s) part) (map (with_area areas unit) atoms) ≡ end_of (part_from at part + s) (map (with_area areas unit) atoms) = ap (λ (n : ℕ). end_of n (map (with_area areas unit) atoms)) from in
    omega (arith, begins, ends)

pub parts_end_moved : (kept : List Atom) (areas : List IslandArea) (unit v at s : ℕ) (parts : List Part) → PartsFit kept areas unit v parts → IsWhole v s → parts_end (spaced kept areas unit) (at + s) parts ≡ parts_end (spaced kept [] unit) at parts + (s + total areas unit (part_atoms kept parts))
unfolding parts_end
parts_end_moved kept areas unit v at s [] fit is = omega arith
parts_end_moved kept areas unit v at s (part ∷ parts) fit is =
    let atoms = atoms_of kept part.section.atoms in
    let at' = part_end (spaced kept [] unit) at part in
    let s' = s + total areas unit atoms in
    let next = part_end_moved kept areas unit v at s part fit.0 is in
    let rest = parts_end_moved kept areas unit v at' s' parts fit.1 (whole_sum v s (total areas unit atoms) is (total_whole areas unit v atoms fit.0.1)) in
    let sums = total_join areas unit atoms (part_atoms kept parts) in
    ap (λ (n : ℕ). parts_end (spaced kept areas unit) n parts) next ∙ (rest ∙ omega (arith, sums))

here_pushed : (areas : List IslandArea) (unit s : ℕ) (here more : List Atom) (before later : List Placed) (p : Placed) → IsPushed areas unit s here before p → IsPushed areas unit s (here ++ more) (before ++ later) p
here_pushed areas unit s here more before later p is = record {
  first = is.first;
  atom = is.atom;
  last = is.last ++ more;
  split = ap (λ (xs : List Atom). xs ++ more) is.split ∙ append_assoc is.first (is.atom ∷ is.last) more;
  key = is.key;
  from = is.from;
  there = in_left before later _ is.there;
  moved = is.moved;
}

later_pushed : (areas : List IslandArea) (unit s : ℕ) (here more : List Atom) (before later : List Placed) (p : Placed) → IsPushed areas unit (s + total areas unit here) more later p → IsPushed areas unit s (here ++ more) (before ++ later) p
later_pushed areas unit s here more before later p is =
    let sums = total_join areas unit here is.first in
    record {
      first = here ++ is.first;
      atom = is.atom;
      last = is.last;
      split = ap (λ (xs : List Atom). here ++ xs) is.split ∙ sym (append_assoc here is.first (is.atom ∷ is.last));
      key = is.key;
      from = is.from;
      there = in_right before later _ is.there;
      moved = omega (arith, is.moved, sums);
    }

by : {A B C : Type 0} → (A → C) → (B → C) → A ⊎ B → C
by f g (inl a) = f a
by f g (inr b) = g b

pub parts_pushed : (kept : List Atom) (areas : List IslandArea) (unit v at s : ℕ) (parts : List Part) → PartsFit kept areas unit v parts → IsWhole v s → (p : Placed) → In p (parts_places (spaced kept areas unit) (at + s) parts) → IsPushed areas unit s (part_atoms kept parts) (parts_places (spaced kept [] unit) at parts) p
unfolding parts_places spaced
parts_pushed kept areas unit v at s [] fit is p h = absurd h
parts_pushed kept areas unit v at s (part ∷ parts) fit is p h =
    let atoms = atoms_of kept part.section.atoms in
    let before = places (stand (part_from at part) (map (with_area [] unit) atoms)) in
    let later = parts_places (spaced kept [] unit) (part_end (spaced kept [] unit) at part) parts in
    let from = aligned_moved part.section.align v at s fit.0.0 is in
    let next = part_end_moved kept areas unit v at s part fit.0 is in
    let whole = whole_sum v s (total areas unit atoms) is (total_whole areas unit v atoms fit.0.1) in
    by
    (λ first. here_pushed areas unit s atoms (part_atoms kept parts) before later p (atoms_pushed areas unit v (part_from at part) s atoms fit.0.1 is p (subst (λ (n : ℕ). In p (places (stand n (map (with_area areas unit) atoms)))) from first)))
    (λ second. later_pushed areas unit s atoms (part_atoms kept parts) before later p (parts_pushed kept areas unit v (part_end (spaced kept [] unit) at part) (s + total areas unit atoms) parts fit.1 whole p (subst (λ (n : ℕ). In p (parts_places (spaced kept areas unit) n parts)) next second)))
    (in_either (places (stand (part_from (at + s) part) (map (with_area areas unit) atoms))) (parts_places (spaced kept areas unit) (part_end (spaced kept areas unit) (at + s) part) parts) p h)

-- ---- segments behind `__TEXT`

-- sections of which no atom has an area
abbrev pub FitsGroup : List Atom → List IslandArea → ℕ → Group → Type 0
FitsGroup kept areas unit group = PartsFit kept areas unit 14 group.parts × (total areas unit (part_atoms kept group.parts) ≡ 0)

-- an atom that moves by so much
pub record HasMoved (s : ℕ) (before : List Placed) (p : Placed) : Type 0 where
  pub from : ℕ
  pub there : In (record { atom = p.atom; address = from }) before
  pub moved : p.address ≡ from + s

total_front : (areas : List IslandArea) (unit : ℕ) (xs ys : List Atom) → total areas unit (xs ++ ys) ≡ 0 → total areas unit xs ≡ 0
total_front areas unit xs ys none = let sums = total_join areas unit xs ys in omega (arith, sums, none)

first_moved : (kept : List Atom) (areas : List IslandArea) (unit s : ℕ) (group : Group) (before later : List Placed) (p : Placed) → total areas unit (part_atoms kept group.parts) ≡ 0 → IsPushed areas unit s (part_atoms kept group.parts) before p → HasMoved s (before ++ later) p
first_moved kept areas unit s group before later p none is =
    let front : total areas unit is.first ≡ 0 = total_front areas unit is.first (is.atom ∷ is.last) (ap (λ (xs : List Atom). total areas unit xs) (sym is.split) ∙ none) in
    record {
      from = is.from;
      there = in_left before later _ is.there;
      moved = omega (arith, is.moved, front);
    }

later_moved : (s : ℕ) (before later : List Placed) (p : Placed) → HasMoved s later p → HasMoved s (before ++ later) p
later_moved s before later p is = record { from = is.from; there = in_right before later _ is.there; moved = is.moved }

pub groups_moved : (kept : List Atom) (areas : List IslandArea) (unit at s : ℕ) (groups : List Group) → AllByRecursion (FitsGroup kept areas unit) groups → IsWhole 14 s → (p : Placed) → In p (groups_places (spaced kept areas unit) (at + s) 0 groups) → HasMoved s (groups_places (spaced kept [] unit) at 0 groups) p
unfolding groups_places
groups_moved kept areas unit at s [] fit is p h = absurd h
groups_moved kept areas unit at s (group ∷ groups) fit is p h =
    let turned : at + s + 0 ≡ (at + 0) + s = omega arith in
    let f1 = spaced kept areas unit in
    let f0 = spaced kept [] unit in
    let next0 = page_up (group_end f0 at 0 group) in
    let before = parts_places f0 (at + 0) group.parts in
    let later = groups_places f0 next0 0 groups in
    let ends : parts_end f1 ((at + 0) + s) group.parts ≡ parts_end f0 (at + 0) group.parts + (s + total areas unit (part_atoms kept group.parts)) = parts_end_moved kept areas unit 14 (at + 0) s group.parts fit.0.0 is in
    let same : parts_end f1 (at + s + 0) group.parts ≡ parts_end f0 (at + 0) group.parts + s = ap (λ (n : ℕ). parts_end f1 n group.parts) turned ∙ (ends ∙ omega (arith, fit.0.1)) in
    let next : page_up (parts_end f1 (at + s + 0) group.parts) ≡ next0 + s = ap page_up same ∙ aligned_moved 14 14 (parts_end f0 (at + 0) group.parts) s (omega arith) is in
    by
    (λ first. first_moved kept areas unit s group before later p fit.0.1 (parts_pushed kept areas unit 14 (at + 0) s group.parts fit.0.0 is p (subst (λ (n : ℕ). In p (parts_places f1 n group.parts)) turned first)))
    (λ second. later_moved s before later p (groups_moved kept areas unit next0 s groups fit.1 is p (subst (λ (n : ℕ). In p (groups_places f1 n 0 groups)) next second)))
    (in_either (parts_places f1 (at + s + 0) group.parts) (groups_places f1 (page_up (group_end f1 (at + s) 0 group)) 0 groups) p h)
