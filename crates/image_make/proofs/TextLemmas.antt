-- Where the unwind entries of an object lead: their functions to sections of `__TEXT`, and their data to atoms.
use Rattle.std.proofs.Common.{◌≡◌, ℕ, ◌+◌, ◌-◌, ◌≤◌, inl, inr, Bool, true, false, not, codes, List, [], Option, Some, None, Result, Ok, Err, refl, sym, ap, ◌∙◌, subst, arith, if◌then◌else◌}
use Rattle.std.specs.Prelude.{nat_lt, slice_get}
use Rattle.std.specs.List.{filter_map, flat_map, range_with_len}
use Rattle.std.specs.Option.{option_and_then, option_map, option_map_or}
use Rattle.std.specs.Str.{bytes_eq}
use Rattle.std.proofs.lemmas.Slice.Eq.{bytes_eq-Decides}
use Rattle.list_lemmas.proofs.Members.{In, from_filter_map, from_flat}
use Rattle.mo_types.specs.Atoms.{atoms_of}
use Rattle.mo_types.specs.RelocationRules.{section_numbered}
use Rattle.mo_types.specs.Rows.{when}
use Rattle.mo_types.specs.declared.atom.Atom.{Atom}
use Rattle.mo_types.specs.declared.key.AtomKey.{AtomKey}
use Rattle.mo_types.specs.declared.key.FileId.{FileId}
use Rattle.mo_types.specs.declared.object.Object.{Object}
use Rattle.mo_types.specs.declared.object.RawReloc.{RawReloc}
use Rattle.mo_types.specs.declared.object.Section.{Section}
use Rattle.mo_types.specs.declared.object.Symbol.{Symbol}
use Rattle.mo_types.specs.declared.object.SymbolKind.{SymbolKind}
use Rattle.mo_types.specs.declared.object.SymbolKind.TheVariants.{Undefined, Common, Defined, Absolute, Passed}
use Rattle.mo_types.specs.declared.unwind.Unwind.{Unwind}
use Rattle.patch.proofs.ChosenLemmas.{from_mapped, from_then, from_when, no_some, none_passes, not_false}
use Rattle.unwind_read.specs.Rules.{EntryTest, entry_at, entry_count, entry_relocs, entry_tests, fails_test, has_bad_function, has_entries}
use Rattle.unwind_read.specs.Spots.{definition_at, holds, moved, pointee, spot_at, spot_of}
use Rattle.unwind_read.specs.Unwinds.{atom_of, first_fault, function_of, kept_function, length_of, lsda_of, offset_of, section_unwinds, unwind_at, unwind_with, unwinds_of}
use Rattle.unwind_read.specs.declared.entry.CompactUnwindEntry.{CompactUnwindEntry}
use Rattle.unwind_read.specs.declared.fault.UnwindFault.{UnwindFault}
use Rattle.unwind_read.specs.declared.fault.UnwindFault.TheVariants.{BadEntry}
use Rattle.unwind_read.specs.declared.pointers.EntryRelocs.{EntryRelocs}
use Rattle.unwind_read.specs.declared.spots.Spot.{Spot}
use Rattle.unwind_read.proofs.PartLemmas.{Part, led}

-- ---- the section of a place

-- the section in which a place stands, and whether it is one of `__TEXT`
record IsOfSection (object : Object) (spot : Spot) : Type 0 where
  section : Section
  numbered : section_numbered object.sections spot.section ≡ Some section
  text : spot.in_text ≡ bytes_eq section.segment (codes "__TEXT")

of_section : (object : Object) (number address : ℕ) (section : Section) → section_numbered object.sections number ≡ Some section → IsOfSection object (spot_of object number address section)
unfolding spot_of
of_section object number address section has = record { section = section; numbered = has; text = refl }

at_address : (object : Object) (number address : ℕ) (spot : Spot) → spot_at object number address ≡ Some spot → IsOfSection object spot
at_address object number address spot e =
    let found = from_then (λ (section : Section). when (holds section address) (spot_of object number address section)) (section_numbered object.sections number) spot e in
    subst (IsOfSection object) (from_when (holds found.0 address) (spot_of object number address found.0) spot found.2).1 (of_section object number address found.0 found.1)

at_definition : (object : Object) (held : ℕ) (kind : SymbolKind) (spot : Spot) → definition_at object held kind ≡ Some spot → IsOfSection object spot
at_definition object held (Defined section value) spot e = let found = from_then (spot_at object section) (moved value held) spot e in at_address object section found.0 spot found.2
at_definition object held Undefined spot e = no_some spot e
at_definition object held (Common align size) spot e = no_some spot e
at_definition object held Absolute spot e = no_some spot e
at_definition object held Passed spot e = no_some spot e

pointed : (object : Object) (held : ℕ) (reloc : RawReloc) (spot : Spot) → pointee object held reloc ≡ Some spot → IsOfSection object spot
unfolding pointee
pointed object held reloc spot e = by reloc.external e
  where
    by : (b : Bool) → (if b then option_and_then (λ symbol. definition_at object held symbol.kind) (slice_get object.symbols reloc.number) else spot_at object reloc.number held) ≡ Some spot → IsOfSection object spot
    by true is =
        let found = from_then (λ (symbol : Symbol). definition_at object held symbol.kind) (slice_get object.symbols reloc.number) spot is in
        at_definition object held found.0.kind spot found.2
    by false is = at_address object reloc.number held spot is

-- ---- the function of an entry

-- where the function of an entry stands that is kept
record IsFunction (object : Object) (function : Spot) : Type 0 where
  place : IsOfSection object function
  text : function.in_text ≡ true

tested : (object : Object) (entry : CompactUnwindEntry) (relocs : EntryRelocs) (reloc : RawReloc) (function : Spot) → fails_test object entry relocs ≡ false → relocs.function ≡ Some reloc → pointee object entry.function reloc ≡ Some function → function.in_text ≡ true
tested object entry relocs reloc function passes has to =
    let well : has_bad_function object entry relocs ≡ false = none_passes (λ (test : EntryTest). test object entry relocs) entry_tests has_bad_function passes (inr (inl refl)) in
    let here : not (option_map_or (λ (spot : Spot). spot.in_text) (pointee object entry.function reloc) false) ≡ false =
    sym (ap (λ (o : Option RawReloc). option_map_or (λ (r : RawReloc). not (option_map_or (λ (spot : Spot). spot.in_text) (pointee object entry.function r) false)) o false) has) ∙ well in
    not_false function.in_text (sym (ap (λ (o : Option Spot). not (option_map_or (λ (spot : Spot). spot.in_text) o false)) to) ∙ here)

kept_is : (object : Object) (entry : CompactUnwindEntry) (relocs : EntryRelocs) (function : Spot) → kept_function object entry relocs ≡ Some function → IsFunction object function
unfolding kept_function
kept_is object entry relocs function e = by (fails_test object entry relocs) refl e
  where
    by : (b : Bool) → fails_test object entry relocs ≡ b → (if b then None else option_and_then (λ f. when (nat_lt 0 (length_of entry f)) f) (function_of object entry relocs)) ≡ Some function → IsFunction object function
    by true fails is = no_some function is
    by false passes is =
        let kept = from_then (λ (f : Spot). when (nat_lt 0 (length_of entry f)) f) (function_of object entry relocs) function is in
        let same : kept.0 ≡ function = (from_when (nat_lt 0 (length_of entry kept.0)) kept.0 function kept.2).1 in
        let reloc = from_then (pointee object entry.function) relocs.function kept.0 kept.1 in
        subst (IsFunction object) same (record { place = pointed object entry.function reloc.0 kept.0 reloc.2; text = tested object entry relocs reloc.0 kept.0 passes reloc.1 reloc.2 })

-- ---- an entry

-- the section of an entry's function
pub record IsOfText (object : Object) (entry : Unwind) : Type 0 where
  pub section : Section
  pub numbered : section_numbered object.sections entry.atom.section ≡ Some section
  pub text : section.segment ≡ codes "__TEXT"

-- a place in an atom of the object, or at the atom's end
pub record IsPlaceIn (object : Object) (file : FileId) (place : AtomKey × ℕ) : Type 0 where
  pub atom : Atom
  pub among : In atom (atoms_of object file)
  pub named : atom.key ≡ place.0
  pub within : place.1 ≤ atom.size

-- an entry of an object: its function is in `__TEXT`, and its language-specific data are in an atom
pub record IsEntry (object : Object) (file : FileId) (entry : Unwind) : Type 0 where
  pub function : IsOfText object entry
  pub lsda : (place : AtomKey × ℕ) → entry.lsda ≡ Some place → IsPlaceIn object file place

data_in : (object : Object) (file : FileId) (entry : CompactUnwindEntry) (relocs : EntryRelocs) (place : AtomKey × ℕ) → lsda_of object file entry relocs ≡ Some place → IsPlaceIn object file place
data_in object file entry relocs place e =
    let reloc = from_then (λ (r : RawReloc). option_map (λ (spot : Spot). (atom_of file spot, offset_of spot)) (pointee object entry.lsda r)) relocs.lsda place e in
    let spot = from_mapped (λ (s : Spot). (atom_of file s, offset_of s)) (pointee object entry.lsda reloc.0) place reloc.2 in
    let part : Part object file spot.0 = led object file entry.lsda reloc.0 spot.0 spot.1 in
    let size : spot.0.start + part.atom.size ≡ spot.0.end = part.size in
    let high : spot.0.offset ≤ spot.0.end = part.high in
    let at : spot.0.offset - spot.0.start ≡ place.1 = ap (λ (p : AtomKey × ℕ). p.1) spot.2 in
    record { atom = part.atom; among = part.among; named = part.key ∙ ap (λ (p : AtomKey × ℕ). p.0) spot.2; within = omega (arith, size, high, at) }

made : (object : Object) (file : FileId) (entry : CompactUnwindEntry) (relocs : EntryRelocs) (function : Spot) → IsFunction object function → IsEntry object file (unwind_with object file entry relocs function)
made object file entry relocs function is = record {
  function = record {
    section = is.place.section;
    numbered = is.place.numbered;
    text = (bytes_eq-Decides is.place.section.segment (codes "__TEXT")).0 (sym is.place.text ∙ is.text);
  };
  lsda = λ place e. data_in object file entry relocs place e;
}

one_entry : (object : Object) (file : FileId) (section : Section) (i : ℕ) (entry : Unwind) → unwind_at object file section i ≡ Some entry → IsEntry object file entry
unfolding unwind_at
one_entry object file section i entry e =
    let found = from_mapped (unwind_with object file (entry_at section i) (entry_relocs section i)) (kept_function object (entry_at section i) (entry_relocs section i)) entry e in
    subst (IsEntry object file) found.2 (made object file (entry_at section i) (entry_relocs section i) found.0 (kept_is object (entry_at section i) (entry_relocs section i) found.0 found.1))

section_entry : (object : Object) (file : FileId) (section : Section) (entry : Unwind) → In entry (section_unwinds object file section) → IsEntry object file entry
unfolding section_unwinds
section_entry object file section entry h = by (has_entries section) h
  where
    by : (b : Bool) → In entry (if b then filter_map (unwind_at object file section) (range_with_len 0 (entry_count section)) else []) → IsEntry object file entry
    by true there = let it = from_filter_map (unwind_at object file section) (range_with_len 0 (entry_count section)) entry there in one_entry object file section it.0 entry it.2
    by false there = absurd there

-- ---- those of an object

abbrev given : List Unwind → Result (List Unwind) UnwindFault
given entries = Ok entries

same_entries : (x y : List Unwind) → given x ≡ given y → x ≡ y
same_entries x y e = cc

no_entries : {Y : Type 0} (place : ℕ) (x : List Unwind) → Err (BadEntry place) ≡ given x → Y
no_entries place x e = absurd cc

entries_are : (object : Object) (file : FileId) (entries : List Unwind) → unwinds_of object file ≡ Ok entries → flat_map (section_unwinds object file) object.sections ≡ entries
unfolding unwinds_of
entries_are object file entries e = by (first_fault object) e
  where
    by : (o : Option ℕ) → option_map_or (λ place. Err (BadEntry place)) o (given (flat_map (section_unwinds object file) object.sections)) ≡ given entries → flat_map (section_unwinds object file) object.sections ≡ entries
    by None is = same_entries (flat_map (section_unwinds object file) object.sections) entries is
    by (Some place) is = no_entries place entries is

pub is_entry : (object : Object) (file : FileId) (entries : List Unwind) (entry : Unwind) → unwinds_of object file ≡ Ok entries → In entry entries → IsEntry object file entry
is_entry object file entries entry e h =
    let of_section = from_flat (section_unwinds object file) object.sections entry (subst (In entry) (sym (entries_are object file entries e)) h) in
    section_entry object file of_section.0 entry of_section.2
