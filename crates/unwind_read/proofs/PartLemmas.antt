-- Each entry stands for a part of an atom.
use Rattle.std.proofs.Common.{◌≡◌, ℕ, zero, suc, ◌+◌, ◌-◌, ◌<◌, ◌≤◌, ◌++◌, ◌∷◌, [], inl, inr, List, length, get_or, slice_get, Bool, true, false, ltb, Option, Some, None, refl, sym, ap, ◌∙◌, subst, arith, if◌then◌else◌}
use Rattle.std.specs.List.{range_with_len}
use Rattle.std.specs.Option.{option_and_then, option_map}
use Rattle.std.proofs.lemmas.Bool.{ltb-false, ltb-true}
use Rattle.std.proofs.lemmas.Option.{option_and_then_some}
use Rattle.list_lemmas.proofs.Members.{In, Contains_from_in, all_in, in_filter, in_left, in_right}
use Rattle.mo_types.specs.declared.atom.Atom.{Atom}
use Rattle.mo_types.specs.declared.key.AtomKey.{AtomKey}
use Rattle.mo_types.specs.declared.key.FileId.{FileId}
use Rattle.mo_types.specs.declared.object.Object.{Object}
use Rattle.mo_types.specs.declared.object.RawReloc.{RawReloc}
use Rattle.mo_types.specs.declared.object.Section.{Section}
use Rattle.mo_types.specs.declared.object.SymbolKind.{SymbolKind}
use Rattle.mo_types.specs.declared.object.SymbolKind.TheVariants.{Undefined, Common, Defined, Absolute, Passed}
use Rattle.mo_types.specs.declared.unwind.Unwind.{Unwind}
use Rattle.mo_types.specs.Atoms.{atoms_from, atoms_of, cut_of, cuts, is_cut, piece, pieces, section_atoms}
use Rattle.mo_types.specs.RelocationRules.{section_numbered}
use Rattle.mo_types.specs.Rows.{when}
use Rattle.mo_types.specs.Whole.{is_dropped}
use Rattle.atom_cut.specs.Laws.{IsGreatest}
use Rattle.atom_cut.proofs.TileLemmas.{greatest_cut}
use Rattle.unwind_read.specs.declared.entry.CompactUnwindEntry.{CompactUnwindEntry}
use Rattle.unwind_read.specs.declared.pointers.EntryRelocs.{EntryRelocs}
use Rattle.unwind_read.specs.declared.spots.Spot.{Spot}
use Rattle.unwind_read.specs.Laws.{IsInAtom}
use Rattle.unwind_read.specs.Rules.{entry_at, entry_relocs, fails_test}
use Rattle.unwind_read.specs.Spots.{definition_at, end_of, holds, moved, pointee, spot_at, spot_of}
use Rattle.unwind_read.specs.Unwinds.{function_of, kept_function, length_of, unwind_at, unwind_with}
use Rattle.unwind_read.proofs.EndLemmas.{AtEnd, IsEnd, Numbered, cut_is_small, end_is, later_end, numbered, sections_at_ends}
use Rattle.unwind_read.proofs.SpotLemmas.{held_linked, held_within}

pub some_is : {X : Type 0} (x y : X) → Some x ≡ Some y → x ≡ y
some_is x y e = cc

pub no_some : {X Y : Type 0} (x : X) → None ≡ Some x → Y
no_some x e = absurd cc

-- ---- the atom that begins at a cut

abbrev key_at : FileId → ℕ → ℕ → AtomKey
key_at file number offset = record { file = file; section = number; offset = offset }

record Begins (file : FileId) (number cut : ℕ) (atoms : List Atom) : Type 0 where
  atom : Atom
  among : In atom atoms
  key : atom.key ≡ key_at file number cut

begins_left : (file : FileId) (number cut : ℕ) (xs ys : List Atom) → Begins file number cut xs → Begins file number cut (xs ++ ys)
begins_left file number cut xs ys is = record { atom = is.atom; among = in_left xs ys is.atom is.among; key = is.key }

begins_right : (file : FileId) (number cut : ℕ) (xs ys : List Atom) → Begins file number cut ys → Begins file number cut (xs ++ ys)
begins_right file number cut xs ys is = record { atom = is.atom; among = in_right xs ys is.atom is.among; key = is.key }

piece_begins : (file : FileId) (number : ℕ) (section : Section) (cuts : List ℕ) (cut : ℕ) → In cut cuts → Begins file number cut (pieces file number section cuts)
unfolding piece
piece_begins file number section [] cut h = absurd h
piece_begins file number section (from ∷ cuts) cut (inl e) = record { atom = piece file number section from (get_or cuts 0 section.size); among = inl refl; key = ap (key_at file number) e }
piece_begins file number section (from ∷ cuts) cut (inr h) =
    let rest : Begins file number cut (pieces file number section cuts) = piece_begins file number section cuts cut h in record { atom = rest.atom; among = inr rest.among; key = rest.key }

pub in_range : (a n k : ℕ) → a ≤ k → k < a + n → In k (range_with_len a n)
in_range a zero k low high = absurd (omega arith)
in_range a (suc n) k low high = by (ltb a k) refl (λ less. in_range (a + 1) n k (omega (arith, less)) (omega (arith, high)))
  where
    by : (b : Bool) → ltb a k ≡ b → (a < k → In k (range_with_len (a + 1) n)) → In k (range_with_len a (suc n))
    by true less rest = inr (rest (ltb-true a k less))
    by false least rest = let from : k ≤ a = ltb-false a k least in inl (omega (arith, low, from))

cut_in : (object : Object) (number : ℕ) (section : Section) (cut : ℕ) → is_cut object number section cut ≡ true → In cut (cuts object number section)
unfolding cuts
cut_in object number section zero pass = inl refl
cut_in object number section (suc n) pass = elim (cut_is_small object number section (suc n) pass) [
  | inl start ↦ absurd (omega arith)
  | inr small ↦ inr (in_filter (is_cut object number section) (range_with_len 1 (section.size - 1)) (suc n) (in_range 1 (section.size - 1) (suc n) (omega arith) (omega arith)) pass)
]

section_begins : (object : Object) (file : FileId) (number : ℕ) (section : Section) (cut : ℕ) → is_dropped section ≡ false → is_cut object number section cut ≡ true → Begins file number cut (section_atoms object file number section)
unfolding section_atoms
section_begins object file number section cut linked pass = rw linked (piece_begins file number section (cuts object number section) cut (cut_in object number section cut pass))

sections_begin : (object : Object) (file : FileId) (number : ℕ) (sections : List Section) (index : ℕ) (d : Section) (cut : ℕ) → index < length sections → is_dropped (get_or sections index d) ≡ false → is_cut object (number + index) (get_or sections index d) cut ≡ true → Begins file (number + index) cut (atoms_from object file number sections)
sections_begin object file number [] index d cut within linked pass = absurd (omega arith)
sections_begin object file number (section ∷ sections) zero d cut within linked pass =
    let same : number ≡ number + zero = omega arith in
    begins_left file (number + zero) cut (section_atoms object file number section) (atoms_from object file (number + 1) sections)
    (subst (λ (n : ℕ). Begins file n cut (section_atoms object file number section)) same
    (section_begins object file number section cut linked (subst (λ (n : ℕ). is_cut object n section cut ≡ true) (sym same) pass)))
sections_begin object file number (section ∷ sections) (suc index) d cut within linked pass =
    let same : number + 1 + index ≡ number + suc index = omega arith in
    begins_right file (number + suc index) cut (section_atoms object file number section) (atoms_from object file (number + 1) sections)
    (subst (λ (n : ℕ). Begins file n cut (atoms_from object file (number + 1) sections)) same
    (sections_begin object file (number + 1) sections index d cut (omega arith) linked (subst (λ (n : ℕ). is_cut object n (get_or sections index d) cut ≡ true) (sym same) pass)))

-- ---- the atom in which a place stands

pub record Part (object : Object) (file : FileId) (spot : Spot) : Type 0 where
  pub atom : Atom
  pub among : In atom (atoms_of object file)
  pub key : atom.key ≡ key_at file spot.section spot.start
  pub size : spot.start + atom.size ≡ spot.end
  pub low : spot.start ≤ spot.offset
  pub high : spot.offset ≤ spot.end

are_atoms : (object : Object) (file : FileId) → atoms_from object file 1 object.sections ≡ atoms_of object file
unfolding atoms_of
are_atoms object file = refl

part_at : (object : Object) (file : FileId) (number address : ℕ) (section : Section) → section_numbered object.sections number ≡ Some section → holds section address ≡ true → Part object file (spot_of object number address section)
unfolding spot_of
part_at object file number address section has held =
    let offset : ℕ = address - section.address in
    let inside : offset ≤ section.size = held_within section address held in
    let at : Numbered object.sections number section = numbered object.sections number section has in
    let some : 0 < number = at.some in
    let count : 1 + (number - 1) ≡ number = omega arith in
    let same : get_or object.sections (number - 1) section ≡ section = at.is section in
    let greatest : IsGreatest (is_cut object number section) offset (cut_of object number section offset) = greatest_cut object number section offset in
    let pass : is_cut object (1 + (number - 1)) (get_or object.sections (number - 1) section) (cut_of object number section offset) ≡ true =
    subst (λ (n : ℕ). is_cut object n (get_or object.sections (number - 1) section) (cut_of object number section offset) ≡ true) (sym count)
    (subst (λ (s : Section). is_cut object number s (cut_of object number section offset) ≡ true) (sym same) greatest.passes) in
    let begins : Begins file number (cut_of object number section offset) (atoms_from object file 1 object.sections) =
    subst (λ (n : ℕ). Begins file n (cut_of object number section offset) (atoms_from object file 1 object.sections)) count
    (sections_begin object file 1 object.sections (number - 1) section (cut_of object number section offset) at.within (ap is_dropped same ∙ held_linked section address held) pass) in
    let atom : Atom = begins.atom in
    let ends : AtEnd object number section atom =
    subst (λ (s : Section). AtEnd object number s atom) same
    (subst (λ (n : ℕ). AtEnd object n (get_or object.sections (number - 1) section) atom) count
    (all_in (AtEnd object (1 + (number - 1)) (get_or object.sections (number - 1) section)) (atoms_from object file 1 object.sections) atom (sections_at_ends object file 1 object.sections (number - 1) section at.within) begins.among)) in
    let first : IsEnd object number section (cut_of object number section offset) (cut_of object number section offset + atom.size) =
    subst (λ (o : ℕ). IsEnd object number section o (o + atom.size)) (ap (λ (k : AtomKey). k.offset) begins.key) (ends.end (ap (λ (k : AtomKey). k.section) begins.key)) in
    let later : IsEnd object number section offset (cut_of object number section offset + atom.size) =
    later_end object number section (cut_of object number section offset) offset (cut_of object number section offset + atom.size) greatest inside first in
    let end : cut_of object number section offset + atom.size ≡ end_of object number section offset = end_is object number section offset (cut_of object number section offset + atom.size) inside later in
    record {
      atom = atom;
      among = subst (In atom) (are_atoms object file) begins.among;
      key = begins.key;
      size = end;
      low = greatest.within;
      high = subst (λ (e : ℕ). offset ≤ e) end later.low;
    }

at_address : (object : Object) (file : FileId) (number address : ℕ) (spot : Spot) → spot_at object number address ≡ Some spot → Part object file spot
at_address object file number address spot e =
    option_and_then_some (λ section. when (holds section address) (spot_of object number address section)) (section_numbered object.sections number) spot e (λ section has is. by section has (holds section address) refl is)
  where
    by : (section : Section) → section_numbered object.sections number ≡ Some section → (b : Bool) → holds section address ≡ b → when b (spot_of object number address section) ≡ Some spot → Part object file spot
    by section has true held is = subst (Part object file) (some_is (spot_of object number address section) spot is) (part_at object file number address section has held)
    by section has false held is = no_some spot is

at_definition : (object : Object) (file : FileId) (held : ℕ) (kind : SymbolKind) (spot : Spot) → definition_at object held kind ≡ Some spot → Part object file spot
at_definition object file held (Defined section value) spot e = option_and_then_some (spot_at object section) (moved value held) spot e (λ address has is. at_address object file section address spot is)
at_definition object file held Undefined spot e = no_some spot e
at_definition object file held (Common align size) spot e = no_some spot e
at_definition object file held Absolute spot e = no_some spot e
at_definition object file held Passed spot e = no_some spot e

pub led : (object : Object) (file : FileId) (held : ℕ) (reloc : RawReloc) (spot : Spot) → pointee object held reloc ≡ Some spot → Part object file spot
unfolding pointee
led object file held reloc spot e = by reloc.external e
  where
    by : (b : Bool) → (if b then option_and_then (λ symbol. definition_at object held symbol.kind) (slice_get object.symbols reloc.number) else spot_at object reloc.number held) ≡ Some spot → Part object file spot
    by true is = option_and_then_some (λ symbol. definition_at object held symbol.kind) (slice_get object.symbols reloc.number) spot is (λ symbol has there. at_definition object file held symbol.kind spot there)
    by false is = at_address object file reloc.number held spot is

-- ---- the function of an entry that is kept

pub kept_part : (object : Object) (file : FileId) (entry : CompactUnwindEntry) (relocs : EntryRelocs) (function : Spot) → kept_function object entry relocs ≡ Some function → Part object file function × (0 < length_of entry function)
unfolding kept_function
kept_part object file entry relocs function e = by (fails_test object entry relocs) e
  where
    sized : (x : Spot) (b : Bool) → ltb 0 (length_of entry x) ≡ b → when b x ≡ Some function → Part object file x → Part object file function × (0 < length_of entry function)
    sized x true more is part = subst (λ (s : Spot). Part object file s × (0 < length_of entry s)) (some_is x function is) (part, ltb-true 0 (length_of entry x) more)
    sized x false more is part = no_some function is

    by : (b : Bool) → (if b then None else option_and_then (λ f. when (ltb 0 (length_of entry f)) f) (function_of object entry relocs)) ≡ Some function → Part object file function × (0 < length_of entry function)
    by true is = no_some function is
    by false is = option_and_then_some (λ f. when (ltb 0 (length_of entry f)) f) (function_of object entry relocs) function is (λ x has there.
        sized x (ltb 0 (length_of entry x)) refl there (option_and_then_some (pointee object entry.function) relocs.function x has (λ reloc is_there to. led object file entry.function reloc x to)))

stands : (object : Object) (file : FileId) (entry : CompactUnwindEntry) (relocs : EntryRelocs) (spot : Spot) → Part object file spot × (0 < length_of entry spot) → IsInAtom object file (unwind_with object file entry relocs spot)
stands object file entry relocs spot is =
    let part : Part object file spot = is.0 in
    let size : spot.start + part.atom.size ≡ spot.end = part.size in
    let low : spot.start ≤ spot.offset = part.low in
    let high : spot.offset ≤ spot.end = part.high in
    record { atom = part.atom; among = Contains_from_in (atoms_of object file) part.atom part.among; key = part.key; some = is.1; within = omega arith }

pub entry_in_atom : (object : Object) (file : FileId) (section : Section) (i : ℕ) (entry : Unwind) → unwind_at object file section i ≡ Some entry → IsInAtom object file entry
unfolding unwind_at
entry_in_atom object file section i entry e = by (kept_function object (entry_at section i) (entry_relocs section i)) refl e
  where
    by : (o : Option Spot) → kept_function object (entry_at section i) (entry_relocs section i) ≡ o → option_map (unwind_with object file (entry_at section i) (entry_relocs section i)) o ≡ Some entry → IsInAtom object file entry
    by None none is = no_some entry is
    by (Some spot) has is =
        subst (IsInAtom object file) (some_is (unwind_with object file (entry_at section i) (entry_relocs section i) spot) entry is) (stands object file (entry_at section i) (entry_relocs section i) spot (kept_part object file (entry_at section i) (entry_relocs section i) spot has))
