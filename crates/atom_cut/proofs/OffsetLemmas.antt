-- The lists of offsets of the sections, as the symbols come.
use Rattle.std.proofs.Common.{◌≡◌, ◌≢◌, ℕ, ◌+◌, ◌<◌, ◌++◌, ◌∷◌, [], List, length, take, get_or, set, replicate, Bool, true, false, if◌then◌else◌, eqb, Option, Some, None, refl, sym, ap, ◌∙◌, append-nil, get_or-set_same, get_or-set_other}
use Rattle.std.specs.List.{filter_map}
use Rattle.std.specs.Option.{option_to_list}
use Rattle.std.proofs.lemmas.Bool.{eqb-true, eqb-false}
use Rattle.std.proofs.lemmas.List.{length-replicate, length-set, get_or-replicate, take_more, replicate_more}
use Rattle.std.proofs.lemmas.List.Elements.{filter_map-append}
use Rattle.mo_types.specs.declared.object.Section.{Section}
use Rattle.mo_types.specs.declared.object.Symbol.{Symbol}
use Rattle.atom_cut.specs.declared.offsets.CutPlace.{CutPlace}
use Rattle.atom_cut.specs.Offsets.{cut_offset, offset_at, offsets_in, IsCutPlace, AreOffsets}

pub one_more_empty : (n : ℕ) (lists : List (List ℕ)) → lists ≡ replicate n [] → lists ++ [] ∷ [] ≡ replicate (n + 1) []
one_more_empty n lists e = rw e (replicate_more n [])

pub ruleset empties = (one_more_empty)

no_symbols : (number : ℕ) (section : Section) → [] ≡ offsets_in [] number section
unfolding offsets_in
no_symbols number section = refl

pub offsets_begin : (sections : List Section) (lists : List (List ℕ)) → lists ≡ replicate (length sections) [] → AreOffsets sections [] lists
offsets_begin sections lists e = record {
  count = rw e (length-replicate (length sections) []);
  each = λ n d within. rw (e, get_or-replicate) (no_symbols (n + 1) (get_or sections n d));
}

one_mapped : (h : Symbol → Option ℕ) (symbol : Symbol) (offset : Option ℕ) → h symbol ≡ offset → filter_map h (symbol ∷ []) ≡ option_to_list offset
one_mapped h symbol None e = rw e refl
one_mapped h symbol (Some x) e = rw e refl

-- the offsets after one more symbol
with_symbol : (symbols : List Symbol) (symbol : Symbol) (number : ℕ) (section : Section) (offset : Option ℕ) → cut_offset number section symbol ≡ offset → offsets_in (symbols ++ symbol ∷ []) number section ≡ offsets_in symbols number section ++ option_to_list offset
unfolding offsets_in
with_symbol symbols symbol number section offset e =
    filter_map-append (cut_offset number section) symbols (symbol ∷ [])
    ∙ ap (λ more. filter_map (cut_offset number section) symbols ++ more) (one_mapped (cut_offset number section) symbol offset e)

grown : (sections : List Section) (symbols : List Symbol) (lists more : List (List ℕ)) (symbol : Symbol) (place : Option CutPlace) → AreOffsets sections symbols lists → IsCutPlace sections symbol place → length more ≡ length lists → ((n : ℕ) → n < length sections → get_or more n [] ≡ get_or lists n [] ++ option_to_list (offset_at n place)) → AreOffsets sections (symbols ++ symbol ∷ []) more
grown sections symbols lists more symbol place are is same_length pointwise = record {
  count = same_length ∙ are.count;
  each = λ n d within.
      pointwise n within
      ∙ ap (λ xs. xs ++ option_to_list (offset_at n place)) (are.each n d within)
      ∙ sym (with_symbol symbols symbol (n + 1) (get_or sections n d) (offset_at n place) (is.each n d within));
}

up_to : (symbols : List Symbol) (at : ℕ) (symbol : Symbol) → at < length symbols → symbol ≡ get_or symbols at symbol → take at symbols ++ symbol ∷ [] ≡ take (at + 1) symbols
up_to symbols at symbol within is = ap (λ x. take at symbols ++ x ∷ []) is ∙ sym (take_more symbols at symbol within)

pub offsets_stay : (sections : List Section) (symbols : List Symbol) (at : ℕ) (lists : List (List ℕ)) (symbol : Symbol) → AreOffsets sections (take at symbols) lists → at < length symbols → symbol ≡ get_or symbols at symbol → IsCutPlace sections symbol None → AreOffsets sections (take (at + 1) symbols) lists
offsets_stay sections symbols at lists symbol are within is place =
    rw (← up_to symbols at symbol within is)
    (grown sections (take at symbols) lists lists symbol None are place refl (λ n below. sym (append-nil (get_or lists n []))))

set_pointwise : (lists : List (List ℕ)) (at offset n : ℕ) (same : Bool) → eqb at n ≡ same → at < length lists → get_or (set lists at (get_or lists at [] ++ offset ∷ [])) n [] ≡ get_or lists n [] ++ option_to_list (if same then Some offset else None)
set_pointwise lists at offset n true e within =
    let is : at ≡ n = eqb-true at n e in
    rw (← is) (get_or-set_same lists at (get_or lists at [] ++ offset ∷ []) [] within)
set_pointwise lists at offset n false e within =
    let other : n ≢ at = λ same. eqb-false at n e (sym same) in
    get_or-set_other lists at n (get_or lists at [] ++ offset ∷ []) [] other ∙ sym (append-nil (get_or lists n []))

pub offsets_grow : (sections : List Section) (symbols : List Symbol) (at : ℕ) (lists more : List (List ℕ)) (symbol : Symbol) (place : CutPlace) → AreOffsets sections (take at symbols) lists → at < length symbols → symbol ≡ get_or symbols at symbol → IsCutPlace sections symbol (Some place) → more ≡ set lists place.section (get_or lists place.section [] ++ place.offset ∷ []) → AreOffsets sections (take (at + 1) symbols) more
offsets_grow sections symbols at lists more symbol place are within is here e =
    let inside : place.section < length lists = rw are.count here.within in
    rw (← up_to symbols at symbol within is)
    (grown sections (take at symbols) lists more symbol (Some place) are here
    (ap length e ∙ length-set lists place.section (get_or lists place.section [] ++ place.offset ∷ []))
    (λ n below.
    ap (λ xs. get_or xs n []) e
    ∙ set_pointwise lists place.section place.offset n (eqb place.section n) refl inside))

pub ruleset additions = (offsets_begin, offsets_stay, offsets_grow)
