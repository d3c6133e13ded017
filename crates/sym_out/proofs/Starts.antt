-- An address at which an atom begins stands at that atom's start.
use Rattle.std.proofs.Common.{◌≡◌, ℕ, ◌+◌, ◌-◌, ◌<◌, ◌≤◌, ◌==◌, IsTrue, eqb-true, nat_eq, List, length, get_or, true, false, nat_lt, nat_le, Some, slice_get, refl, sym, ap, ◌∙◌, subst, arith, inl, inr}
use Rattle.std.specs.List.{All, AllPairs}
use Rattle.std.proofs.lemmas.List.{get_or_default}
use Rattle.std.proofs.lemmas.Option.{get_or_from_slice_get, slice_get_within}
use Rattle.mo_types.specs.Atoms.{cut_of}
use Rattle.mo_types.specs.Loaded.{IsWholeFile}
use Rattle.mo_types.specs.RelocationRules.{section_numbered}
use Rattle.mo_types.specs.Whole.{is_dropped}
use Rattle.mo_types.specs.declared.atom.Atom.{Atom}
use Rattle.mo_types.specs.declared.key.AtomKey.{AtomKey}
use Rattle.mo_types.specs.declared.loaded.LoadedFile.{LoadedFile}
use Rattle.mo_types.specs.declared.object.Section.{Section}
use Rattle.atom_cut.specs.Laws.{HasItsBytes, IsBefore}
use Rattle.atom_cut.proofs.OwnBytes.{atoms_have_bytes}
use Rattle.reloc_read.specs.CutObject.{IsHigh, IsLow, is_up_to}
use Rattle.reloc_read.proofs.LookupLemmas.{element_at, keys_are_parted, rising_atoms}
use Rattle.reloc_read.proofs.PointLemmas.{point_between, start_is_cut_of}
use Rattle.symbol_winners.specs.Places.{place_at, place_in, place_of}
use Rattle.symbol_winners.specs.declared.places.Place.{Place}
use Rattle.sym_out.specs.inner.Standing.{Begins, IsPlaceOf}

up_to_itself : (number offset : ℕ) (key : AtomKey) → key.section ≡ number → key.offset ≡ offset → is_up_to number offset key ≡ true
up_to_itself number offset key section at =
    let less : nat_lt key.section number ≡ false = grind arith in
    let same : (key.section == number) ≡ true = grind arith in
    let low : nat_le key.offset offset ≡ true = grind arith in
    rw (less, same, low) refl

not_after : (number offset : ℕ) (a b : AtomKey) → a.section ≡ number → a.offset ≡ offset → IsBefore a b → is_up_to number offset b ≡ false
not_after number offset a b section at (inl less) =
    let high : number < b.section = omega arith in
    let before : nat_lt b.section number ≡ false = grind arith in
    let apart : (b.section == number) ≡ false = grind arith in
    rw (before, apart) refl
not_after number offset a b section at (inr more) =
    let same : b.section ≡ number = sym more.0 ∙ section in
    let high : offset < b.offset = omega (arith, more.1) in
    let before : nat_lt b.section number ≡ false = grind arith in
    let low : nat_le b.offset offset ≡ false = grind arith in
    let here : (b.section == number) ≡ true = grind arith in
    rw (before, here, low) refl

low_to : (number offset at : ℕ) (atoms : List Atom) → AllPairs (λ a b. IsBefore a.key b.key) atoms → Begins atoms number offset at → IsLow number offset atoms (at + 1)
low_to number offset at atoms rise begins =
    let inside : at < length atoms = begins.within in
    record {
      within = omega arith;
      each = λ k d less. keys_are_parted number offset atoms rise k at d (omega (arith, less)) inside (up_to_itself number offset (get_or atoms at d).key (begins.section d) (begins.start d));
    }

high_from : (number offset at : ℕ) (atoms : List Atom) → AllPairs (λ a b. IsBefore a.key b.key) atoms → Begins atoms number offset at → IsHigh number offset atoms (at + 1)
high_from number offset at atoms rise begins = record {
  each = λ k d after within. not_after number offset (get_or atoms at d).key (get_or atoms k d).key (begins.section d) (begins.start d) (rise at k d (omega (arith, after)) within);
}

own_cut : (file : LoadedFile) (index offset at : ℕ) (d : Section) → IsWholeFile file → index < length file.object.sections → is_dropped (get_or file.object.sections index d) ≡ false → Begins file.atoms (index + 1) offset at → offset ≡ cut_of file.object (index + 1) (get_or file.object.sections index d) offset
own_cut file index offset at d whole within linked begins =
    let rise : AllPairs (λ a b. IsBefore a.key b.key) file.atoms = rising_atoms file.object file.id file.atoms whole.atoms in
    let inside : at < length file.atoms = begins.within in
    let back : at + 1 - 1 ≡ at = omega arith in
    start_is_cut_of file.object file.id index d offset (at + 1) file.atoms offset whole.atoms within linked (omega (arith, inside))
    (point_between (index + 1) offset file.atoms (at + 1) (low_to (index + 1) offset at file.atoms rise begins) (high_from (index + 1) offset at file.atoms rise begins))
    (λ x. subst (λ (k : ℕ). offset ≡ (get_or file.atoms k x).key.offset) (sym back) (sym (begins.start x)))

-- the section in which it stands
section_here : (sections : List Section) (index number : ℕ) (section : Section) → number ≡ index + 1 → slice_get sections index ≡ Some section → section_numbered sections number ≡ Some section
section_here sections index number section is got =
    let not_zero : (number == 0) ≡ false = grind arith in
    let back : number - 1 ≡ index = omega (arith, is) in
    rw (not_zero, back) got

same_section : (a b : Section) → Some a ≡ Some b → a ≡ b
same_section a b e = cc

linked_there : (file : LoadedFile) (number offset at : ℕ) (section : Section) → IsWholeFile file → section_numbered file.object.sections number ≡ Some section → Begins file.atoms number offset at → is_dropped section ≡ false
linked_there file number offset at section whole here begins =
    let atom : Atom = element_at file.atoms at begins.within in
    let has : HasItsBytes file.object (get_or file.atoms at atom) =
    subst (All (HasItsBytes file.object)) (sym whole.atoms) (atoms_have_bytes file.object file.id whole.object) at atom begins.within in
    let there : section_numbered file.object.sections number ≡ Some has.section =
    subst (λ (n : ℕ). section_numbered file.object.sections n ≡ Some has.section) (begins.section atom) has.numbered in
    subst (λ (s : Section). is_dropped s ≡ false) (same_section has.section section (sym there ∙ here)) has.linked

place_there : (file : LoadedFile) (number value offset : ℕ) (section : Section) → section_numbered file.object.sections number ≡ Some section → is_dropped section ≡ false → offset ≡ value - section.address → cut_of file.object number section (value - section.address) ≡ offset → IsPlaceOf file number value (record { atom = record { file = file.id; section = number; offset = offset }; offset = 0 })
unfolding place_of place_in place_at
place_there file number value offset section here linked is cut = λ index.
    let at : ℕ → ℕ → Place = λ start over. record { atom = record { file = file.id; section = number; offset = start }; offset = over } in
    let none : value - section.address - offset ≡ 0 = omega (arith, is) in
    rw (here, linked) (ap (λ (n : ℕ). Some (at n (value - section.address - n))) cut ∙ ap (λ (n : ℕ). Some (at offset n)) none)

-- an address at which an atom begins stands at its start
place_is : (file : LoadedFile) (index number value offset at : ℕ) (section : Section) → IsWholeFile file → number ≡ index + 1 → slice_get file.object.sections index ≡ Some section → offset ≡ value - section.address → Begins file.atoms number offset at → IsPlaceOf file number value (record { atom = record { file = file.id; section = number; offset = offset }; offset = 0 })
place_is file index number value offset at section whole is got from begins =
    let within : index < length file.object.sections = slice_get_within file.object.sections index section got in
    let same : get_or file.object.sections index section ≡ section = get_or_from_slice_get file.object.sections index section section got in
    let here : section_numbered file.object.sections number ≡ Some section = section_here file.object.sections index number section is got in
    let linked : is_dropped section ≡ false = linked_there file number offset at section whole here begins in
    let cut : offset ≡ cut_of file.object (index + 1) (get_or file.object.sections index section) offset =
    own_cut file index offset at section whole within (subst (λ (s : Section). is_dropped s ≡ false) (sym same) linked)
    (subst (λ (n : ℕ). Begins file.atoms n offset at) is begins) in
    place_there file number value offset section here linked from
    (ap (cut_of file.object number section) (sym from)
    ∙ ap (λ (s : Section). cut_of file.object number s offset) (sym same)
    ∙ ap (λ (n : ℕ). cut_of file.object n (get_or file.object.sections index section) offset) is
    ∙ sym cut)

pub begins_there : (atoms : List Atom) (at number offset : ℕ) (d : Atom) → at < length atoms → (get_or atoms at d).key.section ≡ number → IsTrue (nat_eq (get_or atoms at d).key.offset offset) → Begins atoms number offset at
begins_there atoms at number offset d within section start = record {
  within = within;
  section = λ x. ap (λ (a : Atom). a.key.section) (get_or_default atoms at x d within) ∙ section;
  start = λ x. ap (λ (a : Atom). a.key.offset) (get_or_default atoms at x d within) ∙ eqb-true (get_or atoms at d).key.offset offset start;
}

pub one_less : (number from index : ℕ) → from ≡ number → (1 ≤ from) × (index ≡ from - 1) → number ≡ index + 1
one_less number from index is less =
    let some : 1 ≤ from = less.0 in
    let back : index ≡ from - 1 = less.1 in
    omega (arith, is, some, back)

-- the same where the number of the section is written in more bits
pub place_found : (file : LoadedFile) (index number wide value offset at : ℕ) (section : Section) → IsWholeFile file → wide ≡ number → number ≡ index + 1 → slice_get file.object.sections index ≡ Some section → offset ≡ value - section.address → Begins file.atoms wide offset at → IsPlaceOf file number value (record { atom = record { file = file.id; section = wide; offset = offset }; offset = 0 })
place_found file index number wide value offset at section whole same is got from begins =
    subst (λ (n : ℕ). IsPlaceOf file n value (record { atom = record { file = file.id; section = wide; offset = offset }; offset = 0 })) same
    (place_is file index wide value offset at section whole (same ∙ is) got from begins)
