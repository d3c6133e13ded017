-- An atom is placed with at least its own alignment.
use Rattle.std.proofs.Common.{◌≡◌, ℕ, ◌≤◌, Bool, true, false, if◌then◌else◌, List, [], ◌∷◌, max, map, Option, Some, None, inl, inr, refl, sym, ap, ◌∙◌, arith}
use Rattle.std.specs.List.{filter, fold}
use Rattle.std.specs.Option.{option_map_or}
use Rattle.std.specs.Ordering.{is_eq}
use Rattle.std.proofs.lemmas.Bool.{eq-eqb}
use Rattle.std.proofs.lemmas.Slice.Eq.{bytes_eq-Decides}
use Rattle.list_lemmas.proofs.Members.{In, find_some, from_flat, from_map, in_filter, in_map}
use Rattle.mark_core.specs.Kept.{same_atom}
use Rattle.mo_types.specs.Keys.{compare_keys}
use Rattle.mo_types.specs.declared.atom.Atom.{Atom}
use Rattle.mo_types.specs.declared.loaded.LoadedFile.{LoadedFile}
use Rattle.literal_merge.specs.Representatives.{Literal, greatest_align, is_same, literals, literals_in, representative_among, representative_of, representatives_of}
use Rattle.literal_merge.specs.Standing.{literal_at}
use Rattle.literal_merge.specs.declared.representative.Representative.{Representative}
use Rattle.literal_merge.proofs.RepresentativeLemmas.{literal_of}
use Rattle.image_make.specs.Atoms.{literal_align, raised}
use Rattle.loader_laws.proofs.Finding.{key_found}

-- ---- the greatest of some numbers

above : (n : ℕ) (xs : List ℕ) → n ≤ fold max n xs
above n [] = omega arith
above n (x ∷ xs) = let rest = above (max n x) xs in omega (arith, rest)

pub greatest : (n : ℕ) (xs : List ℕ) (x : ℕ) → In x xs → x ≤ fold max n xs
greatest n [] x h = absurd h
greatest n (y ∷ ys) x (inl e) = let rest = above (max n y) ys in omega (arith, rest, e)
greatest n (y ∷ ys) x (inr h) = greatest (max n y) ys x h

-- ---- literals

same_itself : (l : Literal) → is_same l l ≡ true
unfolding is_same
same_itself l =
    rw ((bytes_eq-Decides l.bytes l.bytes).1 refl, (bytes_eq-Decides l.destination.name l.destination.name).1 refl, (bytes_eq-Decides l.destination.segment l.destination.segment).1 refl, eq-eqb l.destination.kind l.destination.kind refl)
    refl

-- what stands for a literal has at least its alignment
representative_above : (all : List Literal) (l : Literal) → In l all → l.align ≤ (representative_of all l).align
unfolding representative_of representative_among greatest_align
representative_above all l h = by (filter (is_same l) all) (in_filter (is_same l) all l h (same_itself l))
  where
    by : (xs : List Literal) → In l xs → l.align ≤ (representative_among l xs).align
    by [] there = absurd there
    by (first ∷ rest) there = greatest 0 (map (λ (x : Literal). x.align) (first ∷ rest)) l.align (in_map (λ (x : Literal). x.align) (first ∷ rest) l there)

-- a literal of files is one of their atoms
pub record IsLiteralOf (files : List LoadedFile) (l : Literal) : Type 0 where
  pub file : LoadedFile
  pub among : In file files
  pub atom : Atom
  pub of_file : In atom file.atoms
  pub key : l.key ≡ atom.key
  pub align : l.align ≡ atom.align

pub literal_from : (files : List LoadedFile) (l : Literal) → In l (literals files) → IsLiteralOf files l
unfolding literals literals_in
literal_from files l h =
    let of = from_flat literals_in files l h in
    let one = literal_of of.0.object of.0.atoms l of.2 in
    record { file = of.0; among = of.1; atom = one.atom; of_file = one.among; key = one.key; align = one.align }

pub representative_key : (all : List Literal) (l : Literal) → (representative_of all l).literal ≡ l.key
unfolding representative_of representative_among
representative_key all l = by (filter (is_same l) all)
  where
    by : (xs : List Literal) → (representative_among l xs).literal ≡ l.key
    by [] = refl
    by (first ∷ rest) = refl

-- ---- an atom

-- a literal that is placed with its own alignment, or with a greater one
literal_above : (atom : Atom) (r : Representative) → atom.align ≤ r.align → atom.align ≤ literal_align atom r
literal_above atom r above = by (same_atom r.representative atom.key)
  where
    by : (b : Bool) → atom.align ≤ (if b then r.align else atom.align)
    by true = above
    by false = omega arith

pub raised_above : (files : List LoadedFile) (atom : Atom) → ((l : Literal) → In l (literals files) → l.key ≡ atom.key → l.align ≡ atom.align) → atom.align ≤ (raised (representatives_of files) atom).align
unfolding raised representatives_of
raised_above files atom own = by (literal_at (map (representative_of (literals files)) (literals files)) atom.key) refl
  where
    by : (o : Option Representative) → literal_at (map (representative_of (literals files)) (literals files)) atom.key ≡ o → atom.align ≤ option_map_or (literal_align atom) o atom.align
    by None e = omega arith
    by (Some r) e =
        let found = find_some (λ (s : Representative). is_eq (compare_keys s.literal atom.key)) (map (representative_of (literals files)) (literals files)) r e in
        let l = from_map (representative_of (literals files)) (literals files) r found.0 in
        let key : l.0.key ≡ atom.key = sym (representative_key (literals files) l.0) ∙ ap (λ (s : Representative). s.literal) l.2 ∙ key_found r.literal atom.key found.1 in
        let above = representative_above (literals files) l.0 l.1 in
        let align : (representative_of (literals files) l.0).align ≡ r.align = ap (λ (s : Representative). s.align) l.2 in
        let mine : l.0.align ≡ atom.align = own l.0 l.1 key in
        literal_above atom r (omega (arith, above, align, mine))
