-- The place behind the atoms that aren't after an offset, by the atoms beside it.
use Rattle.std.proofs.Common.{◌≡◌, ℕ, ◌+◌, ◌-◌, ◌<◌, ◌≤◌, List, length, get_or, Bool, true, false, not, Some, None, slice_get, refl, sym, ap, ◌∙◌, subst, arith, inl, inr}
use Rattle.std.specs.List.{AllPairs}
use Rattle.std.specs.List.Sorted.{IsPartitionPoint}
use Rattle.std.proofs.lemmas.Option.{get_or_from_slice_get, slice_get_cases, slice_get_within}
use Rattle.mo_types.specs.declared.atom.Atom.{Atom}
use Rattle.mo_types.specs.declared.object.Object.{Object}
use Rattle.mo_types.specs.declared.object.Section.{Section}
use Rattle.mo_types.specs.declared.key.FileId.{FileId}
use Rattle.mo_types.specs.Atoms.{atoms_of, cut_of}
use Rattle.mo_types.specs.Whole.{is_dropped}
use Rattle.atom_cut.specs.Laws.{IsBefore}
use Rattle.reloc_read.specs.CutObject.{IsHigh, IsLow, is_up_to}
use Rattle.reloc_read.proofs.LookupLemmas.{keys_are_parted, element_at, finds, finds_some, finds_within}

pub low_at_start : (number offset : ℕ) (atoms : List Atom) (at : ℕ) → at ≡ 0 → IsLow number offset atoms at
low_at_start number offset atoms at is = record { within = omega arith; each = λ k d less. absurd (omega arith) }

pub low_by_last : (number offset : ℕ) (atoms : List Atom) (at : ℕ) (last : Atom) → AllPairs (λ a b. IsBefore a.key b.key) atoms → 0 < at → Some last ≡ slice_get atoms (at - 1) → is_up_to number offset last.key ≡ true → IsLow number offset atoms at
low_by_last number offset atoms at last rise some is pass =
    let there : (at - 1 < length atoms) × ((d : Atom) → get_or atoms (at - 1) d ≡ last) = (slice_get_within atoms (at - 1) last (sym is), (λ d. get_or_from_slice_get atoms (at - 1) last d (sym is))) in
    let inside : at - 1 < length atoms = there.0 in
    record {
      within = omega arith;
      each = λ k d less. keys_are_parted number offset atoms rise k (at - 1) d (omega arith) inside (ap (λ (a : Atom). is_up_to number offset a.key) (there.1 d) ∙ pass);
    }

pub high_by_first : (number offset : ℕ) (atoms : List Atom) (at : ℕ) (first : Atom) → AllPairs (λ a b. IsBefore a.key b.key) atoms → Some first ≡ slice_get atoms at → not (is_up_to number offset first.key) ≡ true → IsHigh number offset atoms at
high_by_first number offset atoms at first rise is fail =
    let there : (at < length atoms) × ((d : Atom) → get_or atoms at d ≡ first) = (slice_get_within atoms at first (sym is), (λ d. get_or_from_slice_get atoms at first d (sym is))) in
    record {
      each = λ k d after within. only_false (is_up_to number offset (get_or atoms k d).key) (is_up_to number offset first.key) fail (λ pass.
          sym (ap (λ (a : Atom). is_up_to number offset a.key) (there.1 d)) ∙ keys_are_parted number offset atoms rise at k d after within pass);
    }
  where
    only_false : (b first : Bool) → not first ≡ true → (b ≡ true → first ≡ true) → b ≡ false
    only_false false first fail known = refl
    only_false true false fail known = sym (known refl)
    only_false true true fail known = sym fail

some_none : {x : Atom} → Some x ≡ None → ⊥
some_none e = cc

pub high_at_end : (number offset : ℕ) (atoms : List Atom) (at : ℕ) → None ≡ slice_get atoms at → IsHigh number offset atoms at
high_at_end number offset atoms at none =
    let past : length atoms ≤ at = elim (slice_get_cases atoms at).1 [ inl there ↦ (let some : slice_get atoms at ≡ Some there.0 = there.2 in absurd (some_none (sym some ∙ sym none))) | inr past ↦ past.0 ] in
    record { each = λ k d after within. absurd (omega arith) }

pub ruleset points = (low_at_start, low_by_last, high_by_first, high_at_end)

pub point_between : (number offset : ℕ) (atoms : List Atom) (at : ℕ) → IsLow number offset atoms at → IsHigh number offset atoms at → IsPartitionPoint (λ atom. is_up_to number offset atom.key ≡ true) (λ atom. is_up_to number offset atom.key ≡ false) atoms at
point_between number offset atoms at low high = ((λ k d from below. low.each k d below), (λ k d from below. high.each k d from below))

pub bound_of : (number offset : ℕ) (atoms : List Atom) (at : ℕ) → IsLow number offset atoms at → at ≤ length atoms
bound_of number offset atoms at low = low.within

pub ruleset founds = (point_between, bound_of)

-- the start of the atom that was found

pub start_is_cut_of : (object : Object) (file : FileId) (index : ℕ) (d : Section) (offset n : ℕ) (atoms : List Atom) (start : ℕ) → atoms ≡ atoms_of object file → index < length object.sections → is_dropped (get_or object.sections index d) ≡ false → n ≤ length atoms → IsPartitionPoint (λ atom. is_up_to (index + 1) offset atom.key ≡ true) (λ atom. is_up_to (index + 1) offset atom.key ≡ false) atoms n → ((x : Atom) → start ≡ (get_or atoms (n - 1) x).key.offset) → start ≡ cut_of object (index + 1) (get_or object.sections index d) offset
start_is_cut_of object file index d offset n atoms start is within linked bound point begins =
    let found = finds object file index d offset n atoms is within linked bound point in
    let some : 0 < n = found.some in
    let x : Atom = element_at atoms (n - 1) (omega arith) in
    begins x ∙ found.offset_is x

pub start_is_within : (object : Object) (file : FileId) (index offset n : ℕ) (atoms : List Atom) (start : ℕ) → atoms ≡ atoms_of object file → index < length object.sections → ((d : Section) → is_dropped (get_or object.sections index d) ≡ false) → n ≤ length atoms → IsPartitionPoint (λ atom. is_up_to (index + 1) offset atom.key ≡ true) (λ atom. is_up_to (index + 1) offset atom.key ≡ false) atoms n → ((x : Atom) → start ≡ (get_or atoms (n - 1) x).key.offset) → start ≤ offset
start_is_within object file index offset n atoms start is within linked bound point begins =
    let some : 0 < n = finds_some object file index offset n atoms is within linked bound point in
    let x : Atom = element_at atoms (n - 1) (omega arith) in
    subst (λ (k : ℕ). k ≤ offset) (sym (begins x)) (finds_within object file index offset n atoms is within linked bound point x)
