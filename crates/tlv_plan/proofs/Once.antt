-- An atom that is listed once has one place.
use Rattle.std.proofs.Common.{◌≡◌, ◌≢◌, ℕ, suc, ◌+◌, ◌<◌, ◌⊎◌, true, List, [], ◌∷◌, ◌++◌, length, get_or, Option, Some, None, inl, inr, refl, sym, ap, subst, ◌∙◌, arith, Contains}
use Rattle.std.specs.List.{AllPairs, find}
use Rattle.std.specs.declared.cmp.Ordering.{Ordering}
use Rattle.std.specs.declared.cmp.Ordering.TheVariants.{Less, Equal, Greater}
use Rattle.std.specs.Ordering.{is_eq}
use Rattle.std.proofs.lemmas.List.{map-append}
use Rattle.list_lemmas.proofs.Members.{In, in_from_Contains, find_some, in_either, in_right}
use Rattle.mo_types.specs.declared.atom.Atom.{Atom}
use Rattle.mo_types.specs.declared.key.AtomKey.{AtomKey}
use Rattle.mo_types.specs.declared.out_section.OutSection.{OutSection}
use Rattle.mo_types.specs.Keys.{compare_keys}
use Rattle.tlv_plan.specs.declared.parts.Offset.{Offset}
use Rattle.tlv_plan.specs.Template.{aligned, atoms_of, end_of, keys_of, offsets, sections_stand, stand, template_stand, thread_local}
use Rattle.atom_index.proofs.Keys.{same_key}

-- no key is listed twice
abbrev AreOnce : List AtomKey → Type 0
AreOnce [] = Unit {0}
AreOnce (key ∷ keys) = (In key keys → ⊥) × AreOnce keys

contained : (keys : List AtomKey) (key : AtomKey) → In key keys → (i : ℕ) × (i < length keys) × (get_or keys i key ≡ key)
contained [] key h = absurd h
contained (k ∷ keys) key (inl e) = (0, omega arith, e)
contained (k ∷ keys) key (inr h) = let there = contained keys key h in (suc there.0, omega (arith, there.1), there.2)

are_once : (keys : List AtomKey) → AllPairs (λ a b. a ≢ b) keys → AreOnce keys
are_once [] pairs = tt
are_once (key ∷ keys) pairs = (
  λ h. let there = contained keys key h in pairs 0 (suc there.0) key (omega arith) (omega (arith, there.1)) (sym there.2),
  are_once keys (λ i j d low high. pairs (suc i) (suc j) d (omega arith) (omega arith)),
)

first_once : (xs ys : List AtomKey) → AreOnce (xs ++ ys) → AreOnce xs
first_once [] ys once = tt
first_once (x ∷ xs) ys once = (λ h. once.0 (in_first x xs ys h), first_once xs ys once.1)
  where
    in_first : (key : AtomKey) (xs ys : List AtomKey) → In key xs → In key (xs ++ ys)
    in_first key [] ys h = absurd h
    in_first key (x ∷ xs) ys (inl e) = inl e
    in_first key (x ∷ xs) ys (inr h) = inr (in_first key xs ys h)

second_once : (xs ys : List AtomKey) → AreOnce (xs ++ ys) → AreOnce ys
second_once [] ys once = once
second_once (x ∷ xs) ys once = second_once xs ys once.1

not_both : (xs ys : List AtomKey) (key : AtomKey) → AreOnce (xs ++ ys) → In key xs → In key ys → ⊥
not_both [] ys key once h i = absurd h
not_both (x ∷ xs) ys key once (inl e) i = once.0 (in_right xs ys x (subst (λ (k : AtomKey). In k ys) (sym e) i))
not_both (x ∷ xs) ys key once (inr h) i = not_both xs ys key once.1 h i

is_equal : (o : Ordering) → is_eq o ≡ true → o ≡ Equal
is_equal Less e = cc
is_equal Equal e = refl
is_equal Greater e = cc

-- ---- one section

-- what a key adds to the kept atoms
abbrev Adds : List Atom → List AtomKey → AtomKey → Type 0
Adds kept keys key = (atoms_of kept (key ∷ keys) ≡ atoms_of kept keys) ⊎ ((atom : Atom) × (atom.key ≡ key) × (atoms_of kept (key ∷ keys) ≡ atom ∷ atoms_of kept keys))

adds : (kept : List Atom) (keys : List AtomKey) (key : AtomKey) (found : Option Atom) → find (λ (atom : Atom). is_eq (compare_keys atom.key key)) kept ≡ found → Adds kept keys key
unfolding atoms_of
adds kept keys key None e = inl (rw e refl)
adds kept keys key (Some atom) e =
    let passes = find_some (λ (a : Atom). is_eq (compare_keys a.key key)) kept atom e in
    inr (atom, same_key atom.key key (is_equal (compare_keys atom.key key) passes.1), rw e refl)

adds_of : (kept : List Atom) (keys : List AtomKey) (key : AtomKey) → Adds kept keys key
adds_of kept keys key = adds kept keys key (find (λ (atom : Atom). is_eq (compare_keys atom.key key)) kept) refl

stand_more : (at : ℕ) (atom : Atom) (atoms : List Atom) → offsets (stand at (atom ∷ atoms)) ≡ record { atom = atom.key; offset = aligned atom.align at } ∷ offsets (stand (aligned atom.align at + atom.size) atoms)
unfolding stand
stand_more at atom atoms = refl

stand_none : (at : ℕ) → offsets (stand at []) ≡ []
unfolding stand
stand_none at = refl

none_kept : (kept : List Atom) → atoms_of kept [] ≡ []
unfolding atoms_of
none_kept kept = refl

listed : (kept : List Atom) (keys : List AtomKey) (at : ℕ) (o : Offset) → In o (offsets (stand at (atoms_of kept keys))) → In o.atom keys
listed kept [] at o h = absurd (subst (λ (os : List Offset). In o os) (ap (λ (atoms : List Atom). offsets (stand at atoms)) (none_kept kept) ∙ stand_none at) h)
listed kept (key ∷ keys) at o h = elim (adds_of kept keys key) [
  | inl same ↦ inr (listed kept keys at o (subst (λ (atoms : List Atom). In o (offsets (stand at atoms))) same h))
  | inr more ↦
      elim (subst (λ (os : List Offset). In o os) (ap (λ (atoms : List Atom). offsets (stand at atoms)) more.2 ∙ stand_more at more.0 (atoms_of kept keys)) h) [
        | inl e ↦ inl (sym more.1 ∙ ap (λ (p : Offset). p.atom) e)
        | inr there ↦ inr (listed kept keys (aligned more.0.align at + more.0.size) o there)
      ]
]

one_in_section : (kept : List Atom) (keys : List AtomKey) (at : ℕ) (o p : Offset) → AreOnce keys → o.atom ≡ p.atom → In o (offsets (stand at (atoms_of kept keys))) → In p (offsets (stand at (atoms_of kept keys))) → o.offset ≡ p.offset
one_in_section kept [] at o p once same h i = absurd (subst (λ (os : List Offset). In o os) (ap (λ (atoms : List Atom). offsets (stand at atoms)) (none_kept kept) ∙ stand_none at) h)
one_in_section kept (key ∷ keys) at o p once same h i = elim (adds_of kept keys key) [
  | inl none ↦ one_in_section kept keys at o p once.1 same (subst (λ (atoms : List Atom). In o (offsets (stand at atoms))) none h) (subst (λ (atoms : List Atom). In p (offsets (stand at atoms))) none i)
  | inr more ↦ which more.0 more.1 (λ from. one_in_section kept keys from o p once.1 same)
      (subst (λ (os : List Offset). In o os) (ap (λ (atoms : List Atom). offsets (stand at atoms)) more.2 ∙ stand_more at more.0 (atoms_of kept keys)) h)
      (subst (λ (os : List Offset). In p os) (ap (λ (atoms : List Atom). offsets (stand at atoms)) more.2 ∙ stand_more at more.0 (atoms_of kept keys)) i)
]
  where
    which : (atom : Atom) → atom.key ≡ key → ((from : ℕ) → In o (offsets (stand from (atoms_of kept keys))) → In p (offsets (stand from (atoms_of kept keys))) → o.offset ≡ p.offset) → In o (record { atom = atom.key; offset = aligned atom.align at } ∷ offsets (stand (aligned atom.align at + atom.size) (atoms_of kept keys))) → In p (record { atom = atom.key; offset = aligned atom.align at } ∷ offsets (stand (aligned atom.align at + atom.size) (atoms_of kept keys))) → o.offset ≡ p.offset
    which atom is rest (inl e) (inl f) = ap (λ (q : Offset). q.offset) (sym e) ∙ ap (λ (q : Offset). q.offset) f
    which atom is rest (inl e) (inr there) = absurd (once.0 (subst (λ (k : AtomKey). In k keys) (sym same ∙ sym (ap (λ (q : Offset). q.atom) e) ∙ is) (listed kept keys (aligned atom.align at + atom.size) p there)))
    which atom is rest (inr there) (inl f) = absurd (once.0 (subst (λ (k : AtomKey). In k keys) (same ∙ sym (ap (λ (q : Offset). q.atom) f) ∙ is) (listed kept keys (aligned atom.align at + atom.size) o there)))
    which atom is rest (inr there) (inr too) = rest (aligned atom.align at + atom.size) there too

-- ---- all sections

split : (kept : List Atom) (at : ℕ) (section : OutSection) (sections : List OutSection) → offsets (sections_stand kept at (section ∷ sections)) ≡ offsets (stand (aligned section.align at) (atoms_of kept section.atoms)) ++ offsets (sections_stand kept (end_of (aligned section.align at) (atoms_of kept section.atoms)) sections)
unfolding sections_stand
split kept at section sections = map-append (λ (p : Atom × ℕ). record { atom = p.0.key; offset = p.1 }) (stand (aligned section.align at) (atoms_of kept section.atoms)) (sections_stand kept (end_of (aligned section.align at) (atoms_of kept section.atoms)) sections)

no_sections : (kept : List Atom) (at : ℕ) → offsets (sections_stand kept at []) ≡ []
unfolding sections_stand
no_sections kept at = refl

listed_in : (kept : List Atom) (at : ℕ) (sections : List OutSection) (o : Offset) → In o (offsets (sections_stand kept at sections)) → In o.atom (keys_of sections)
listed_in kept at [] o h = absurd (subst (λ (os : List Offset). In o os) (no_sections kept at) h)
listed_in kept at (section ∷ sections) o h = elim (in_either _ _ o (subst (λ (os : List Offset). In o os) (split kept at section sections) h)) [
  | inl first ↦ in_front o.atom section.atoms (keys_of sections) (listed kept section.atoms (aligned section.align at) o first)
  | inr second ↦ in_right section.atoms (keys_of sections) o.atom (listed_in kept (end_of (aligned section.align at) (atoms_of kept section.atoms)) sections o second)
]
  where
    in_front : (key : AtomKey) (xs ys : List AtomKey) → In key xs → In key (xs ++ ys)
    in_front key [] ys h = absurd h
    in_front key (x ∷ xs) ys (inl e) = inl e
    in_front key (x ∷ xs) ys (inr h) = inr (in_front key xs ys h)

one_in_sections : (kept : List Atom) (at : ℕ) (sections : List OutSection) (o p : Offset) → AreOnce (keys_of sections) → o.atom ≡ p.atom → In o (offsets (sections_stand kept at sections)) → In p (offsets (sections_stand kept at sections)) → o.offset ≡ p.offset
one_in_sections kept at [] o p once same h i = absurd (subst (λ (os : List Offset). In o os) (no_sections kept at) h)
one_in_sections kept at (section ∷ sections) o p once same h i = which
    (λ a b. one_in_sections kept (end_of (aligned section.align at) (atoms_of kept section.atoms)) sections o p (second_once section.atoms (keys_of sections) once) same a b)
    (in_either _ _ o (subst (λ (os : List Offset). In o os) (split kept at section sections) h))
    (in_either _ _ p (subst (λ (os : List Offset). In p os) (split kept at section sections) i))
  where
    which : (In o (offsets (sections_stand kept (end_of (aligned section.align at) (atoms_of kept section.atoms)) sections)) → In p (offsets (sections_stand kept (end_of (aligned section.align at) (atoms_of kept section.atoms)) sections)) → o.offset ≡ p.offset) → In o (offsets (stand (aligned section.align at) (atoms_of kept section.atoms))) ⊎ In o (offsets (sections_stand kept (end_of (aligned section.align at) (atoms_of kept section.atoms)) sections)) → In p (offsets (stand (aligned section.align at) (atoms_of kept section.atoms))) ⊎ In p (offsets (sections_stand kept (end_of (aligned section.align at) (atoms_of kept section.atoms)) sections)) → o.offset ≡ p.offset
    which later (inl a) (inl b) = one_in_section kept section.atoms (aligned section.align at) o p (first_once section.atoms (keys_of sections) once) same a b
    which later (inl a) (inr b) = absurd (not_both section.atoms (keys_of sections) o.atom once (listed kept section.atoms (aligned section.align at) o a) (subst (λ (k : AtomKey). In k (keys_of sections)) (sym same) (listed_in kept (end_of (aligned section.align at) (atoms_of kept section.atoms)) sections p b)))
    which later (inr a) (inl b) = absurd (not_both section.atoms (keys_of sections) p.atom once (listed kept section.atoms (aligned section.align at) p b) (subst (λ (k : AtomKey). In k (keys_of sections)) same (listed_in kept (end_of (aligned section.align at) (atoms_of kept section.atoms)) sections o a)))
    which later (inr a) (inr b) = later a b

pub one_offset : (kept : List Atom) (sections : List OutSection) → AllPairs (λ a b. a ≢ b) (keys_of (thread_local sections)) → (atom : AtomKey) (a b : ℕ) → Contains (offsets (template_stand kept sections)) (record { atom = atom; offset = a }) → Contains (offsets (template_stand kept sections)) (record { atom = atom; offset = b }) → a ≡ b
unfolding template_stand
one_offset kept sections pairs atom a b h i =
    one_in_sections kept 0 (thread_local sections) (record { atom = atom; offset = a }) (record { atom = atom; offset = b }) (are_once (keys_of (thread_local sections)) pairs) refl
    (in_from_Contains _ _ h) (in_from_Contains _ _ i)
