-- What a file is read as: a Mach-O file's object, with atoms of low alignment.
use Rattle.std.proofs.Common.{◌≡◌, ℕ, ◌+◌, ◌≤◌, ◌^◌, ◌==◌, ◌&&◌, ◌||◌, Bool, true, false, not, nat_lt, List, [], ◌∷◌, All, Option, Some, None, Result, Ok, Err, IfOk, length, min, inl, inr, refl, sym, ap, subst, ◌∙◌, arith, if◌then◌else◌}
use Rattle.std.specs.Int.{w64, trailing_zeros}
use Rattle.std.proofs.lemmas.Bool.{cases_Bool, false≢true, ltb-false}
use Rattle.std.proofs.lemmas.Result.{IfOk-at_ok}
use Rattle.list_lemmas.proofs.Members.{In, any_from_in, in_either}
use Rattle.mo_types.specs.Atoms.{align_at, atoms_from, atoms_of, cuts, piece, pieces, section_atoms}
use Rattle.mo_types.specs.Gives.{◌>>=◌, guarded}
use Rattle.mo_types.specs.Kind.{kind_of}
use Rattle.mo_types.specs.Whole.{is_dropped}
use Rattle.mo_types.specs.declared.atom.Atom.{Atom}
use Rattle.mo_types.specs.declared.cause.Feature.{Feature}
use Rattle.mo_types.specs.declared.cause.Feature.TheVariants as feature
use Rattle.mo_types.specs.declared.cause.Feature.TheVariants.{Bitcode}
use Rattle.mo_types.specs.declared.cause.Rule.TheVariants as rule
use Rattle.mo_types.specs.declared.cause.Which.TheVariants.{Symbols}
use Rattle.mo_types.specs.declared.key.FileId.{FileId}
use Rattle.mo_types.specs.declared.kind.Kind.{Kind}
use Rattle.mo_types.specs.declared.kind.Kind.TheVariants as kind
use Rattle.mo_types.specs.declared.loaded.LoadedFile.{LoadedFile}
use Rattle.mo_types.specs.declared.object.Object.{Object}
use Rattle.mo_types.specs.declared.object.Section.{Section}
use Rattle.mo_types.specs.declared.object_fault.ObjFault.{ObjFault}
use Rattle.mo_types.specs.declared.object_fault.ObjFault.TheVariants.{Limit, Unsupported}
use Rattle.mo_obj.specs.Features.{any_kept, any_overaligned, first_feature, is_overaligned, or_else}
use Rattle.mo_obj.specs.Commands.{commands_of, frame_of}
use Rattle.mo_obj.specs.Entries.{entries_of}
use Rattle.mo_obj.specs.Header.{header_of}
use Rattle.mo_obj.specs.Object.{accepted, checked_sections, described, lacks, object_of}
use Rattle.mo_obj.specs.Sections.{each_keeps, has_broken_literals, has_relocs_outside, headers_of, is_outside}
use Rattle.mo_obj.specs.Symbols.{symbols_of, symtab_of}
use Rattle.mo_obj.specs.declared.commands.Frame.{Frame}
use Rattle.mo_obj.proofs.ReadLemmas.{count_sections, few_sections}
use Rattle.lib_bind.proofs.TextLemmas.{then_holds}
use Rattle.mo_obj.specs.Relocations.{relocations_of}
use Rattle.input_files.specs.Files.{IsLow, content_of, fault_of, file_of, file_with, object_read, read_as, read_by}
use Rattle.input_files.specs.declared.input.Input.{Input}
use Rattle.input_files.proofs.FileLemmas.{read_by_kind}
use Rattle.input_files.proofs.EachLemmas.{all_from}
use Rattle.reader_laws.proofs.Commons.{low_commons}
use Rattle.reader_laws.proofs.Steps.{passed}

-- ---- an object's sections

none_on : (test : Bool) (feature : Feature) (others : Option Feature) → or_else test feature others ≡ None → (test ≡ false) × (others ≡ None)
none_on true feature others is = absurd (let s : Some feature ≡ None = is in cc)
none_on false feature others is = (refl, is)

left_false : (a b : Bool) → (a || b) ≡ false → a ≡ false
left_false true b is = is
left_false false b is = refl

not_over : (object : Object) (foreign : Bool) (relocs : Option Feature) → first_feature object foreign relocs ≡ None → any_kept is_overaligned object.sections ≡ false
unfolding first_feature
not_over object foreign relocs is = left_false (any_kept is_overaligned object.sections) _ (none_on (any_overaligned object) feature.Alignment _ (none_on _ feature.ObjcSection _ (none_on _ feature.SectionType _ is).1).1).0

accepted_low : (read object : Object) (foreign : Bool) → (accepted read foreign >>= λ done. Ok read) ≡ Ok object → any_kept is_overaligned object.sections ≡ false
unfolding accepted
accepted_low read object foreign is = by (relocations_of read) refl
  where
    guard : (b : Bool) → any_kept is_overaligned read.sections ≡ false → (guarded b (Limit Symbols) (tt {0}) >>= λ done. Ok read) ≡ Ok object → any_kept is_overaligned object.sections ≡ false
    guard true low h = let s : Ok read ≡ Ok object = h in let same : read ≡ object = cc in ap (λ (o : Object). any_kept is_overaligned o.sections) (sym same) ∙ low
    guard false low h = absurd (let s : Err (Limit Symbols) ≡ Ok object = h in cc)

    supported : (relocs f : Option Feature) → first_feature read foreign relocs ≡ f → ((lacks f >>= λ supported. guarded (nat_lt (length read.symbols) (2 ^ 24)) (Limit Symbols) (tt {0})) >>= λ done. Ok read) ≡ Ok object → any_kept is_overaligned object.sections ≡ false
    supported relocs None e h = guard (nat_lt (length read.symbols) (2 ^ 24)) (not_over read foreign relocs e) h
    supported relocs (Some f) e h = absurd (let s : Err (Unsupported f) ≡ Ok object = h in cc)

    kept : (relocs : Option Feature) (r : Result (Unit {0}) ObjFault) → entries_of read ≡ r → ((r >>= λ entries. lacks (first_feature read foreign relocs) >>= λ supported. guarded (nat_lt (length read.symbols) (2 ^ 24)) (Limit Symbols) (tt {0})) >>= λ done. Ok read) ≡ Ok object → any_kept is_overaligned object.sections ≡ false
    kept relocs (Err e) r h = absurd (let s : Err e ≡ Ok object = h in cc)
    kept relocs (Ok entries) r h = supported relocs (first_feature read foreign relocs) refl h

    by : (r : Result (Option Feature) ObjFault) → relocations_of read ≡ r → any_kept is_overaligned object.sections ≡ false
    by (Err e) r = absurd (let s : Err e ≡ Ok object = rw r at is in cc)
    by (Ok relocs) r = kept relocs (entries_of read) refl (rw r at is)

low_object : (bytes : List ℕ) (object : Object) → object_of bytes ≡ Ok object → any_kept is_overaligned object.sections ≡ false
unfolding object_of
low_object bytes object is = elim (described bytes) as (λ r. (r >>= λ read. accepted read.object read.foreign >>= λ done. Ok read.object) ≡ Ok object → any_kept is_overaligned object.sections ≡ false) [
  | Ok read ↦ λ h. accepted_low read.object object read.foreign h
  | Err e ↦ λ h. absurd (let s : Err e ≡ Ok object = h in cc)
] is

low_section : (sections : List Section) → any_kept is_overaligned sections ≡ false → (section : Section) → In section sections → is_dropped section ≡ false → section.align ≤ 14
low_section sections none section there kept = elim (cases_Bool (nat_lt 14 section.align)) [
  | inl over ↦ absurd (false≢true (sym none ∙ any_from_in (λ (s : Section). not (is_dropped s) && is_overaligned s) sections section there (rw (kept, over) refl)))
  | inr low ↦ ltb-false 14 section.align low
]

-- there are few of them

frame_few : (bytes commands : List ℕ) → IfOk (frame_of bytes commands) (λ frame. frame.count ≤ 255)
frame_few bytes commands = by (frame_of bytes commands) refl
  where
    by : (r : Result Frame ObjFault) → frame_of bytes commands ≡ r → IfOk r (λ frame. frame.count ≤ 255)
    by (Ok frame) is = few_sections bytes commands frame is
    by (Err e) is = tt

AreFew : List Section → Type 0
AreFew sections = length sections ≤ 255

checked_few : (bytes : List ℕ) (frame : Frame) → frame.count ≤ 255 → IfOk (checked_sections bytes frame) AreFew
unfolding checked_sections AreFew
checked_few bytes frame few =
    passed AreFew (each_keeps rule.Section frame (is_outside (length bytes)) (headers_of bytes frame)) _ λ section.
    passed AreFew (each_keeps rule.Relocations frame (has_relocs_outside (length bytes)) (headers_of bytes frame)) _ λ relocations.
    subst (λ (n : ℕ). n ≤ 255) (sym (count_sections bytes frame)) few

described_few : (bytes : List ℕ) → IfOk (described bytes) (λ read. AreFew read.object.sections)
unfolding described
described_few bytes =
    passed _ (header_of bytes) _ λ header.
    passed _ (commands_of bytes header) _ λ commands.
    then_holds (λ frame. frame.count ≤ 255) _ (frame_of bytes commands) _ (frame_few bytes commands) λ frame few.
    then_holds AreFew _ (checked_sections bytes frame) _ (checked_few bytes frame few) λ sections are.
    passed _ (symtab_of bytes frame) _ λ symtab.
    passed _ (symbols_of bytes symtab sections) _ λ symbols.
    passed _ (each_keeps rule.Literals frame has_broken_literals sections) _ λ literals. are

object_few : (bytes : List ℕ) → IfOk (object_of bytes) (λ object. AreFew object.sections)
unfolding object_of
object_few bytes =
    then_holds (λ read. AreFew read.object.sections) _ (described bytes) _ (described_few bytes) λ read are.
    passed _ (accepted read.object read.foreign) _ λ done. are

few_in : (bytes : List ℕ) (object : Object) → object_of bytes ≡ Ok object → length object.sections ≤ 255
unfolding AreFew
few_in bytes object is = IfOk-at_ok (λ (o : Object). AreFew o.sections) is (object_few bytes)

-- ---- their atoms

align_below : (align offset : ℕ) → align_at align offset ≤ align
unfolding align_at
align_below align offset = by (offset == 0)
  where
    by : (b : Bool) → (if b then align else min align (trailing_zeros w64 offset)) ≤ align
    by true = omega arith
    by false = omega arith

low_pieces : (file : FileId) (number : ℕ) (section : Section) (at : List ℕ) (atom : Atom) → In atom (pieces file number section at) → atom.align ≤ section.align
unfolding piece
low_pieces file number section [] atom there = absurd there
low_pieces file number section (from ∷ at) atom (inl e) = subst (λ (a : Atom). a.align ≤ section.align) e (align_below section.align from)
low_pieces file number section (from ∷ at) atom (inr later) = low_pieces file number section at atom later

low_in : (object : Object) (file : FileId) (number : ℕ) (section : Section) → (is_dropped section ≡ false → section.align ≤ 14) → (atom : Atom) → In atom (section_atoms object file number section) → atom.align ≤ 14
unfolding section_atoms
low_in object file number section low atom there = by (is_dropped section) refl there
  where
    by : (b : Bool) → is_dropped section ≡ b → In atom (if b then [] else pieces file number section (cuts object number section)) → atom.align ≤ 14
    by true e h = absurd h
    by false e h = let one : atom.align ≤ section.align = low_pieces file number section (cuts object number section) atom h in let two : section.align ≤ 14 = low e in omega (arith, one, two)

low_from : (object : Object) (file : FileId) (number : ℕ) (sections : List Section) → ((section : Section) → In section sections → is_dropped section ≡ false → section.align ≤ 14) → (atom : Atom) → In atom (atoms_from object file number sections) → atom.align ≤ 14
low_from object file number [] low atom there = absurd there
low_from object file number (section ∷ sections) low atom there = elim (in_either (section_atoms object file number section) (atoms_from object file (number + 1) sections) atom there) [
  | inl here ↦ low_in object file number section (low section (inl refl)) atom here
  | inr later ↦ low_from object file (number + 1) sections (λ s at. low s (inr at)) atom later
]

low_atoms : (bytes : List ℕ) (object : Object) (file : FileId) → object_of bytes ≡ Ok object → All (λ (atom : Atom). atom.align ≤ 14) (atoms_of object file)
unfolding atoms_of
low_atoms bytes object file is = all_from (λ (atom : Atom). atom.align ≤ 14) (atoms_from object file 1 object.sections) (low_from object file 1 object.sections (low_section object.sections (low_object bytes object is)))

-- ---- a file's object

-- the object that a file is read as
pub record IsObjectOf (id : FileId) (label bytes : List ℕ) (file : LoadedFile) : Type 0 where
  pub object : Object
  pub read : object_of bytes ≡ Ok object
  pub is : file ≡ file_with id label object

module _ (id : FileId) (label bytes : List ℕ) (file : LoadedFile) where
  from_object : (r : Result Object ObjFault) → object_of bytes ≡ r → object_read id label r ≡ Ok file → IsObjectOf id label bytes file
  from_object (Ok object) e is = record { object = object; read = e; is = (let s : Ok (file_with id label object) ≡ Ok file = is in let same : file_with id label object ≡ file = cc in sym same) }
  from_object (Err f) e is = absurd (let s : Err (fault_of label f) ≡ Ok file = is in cc)

  from_kind : (k : Kind) → read_by k id label bytes ≡ Ok file → IsObjectOf id label bytes file
  from_kind kind.MachO is = from_object (object_of bytes) refl is
  from_kind (kind.Refused Bitcode) is = absurd (cc)
  from_kind _ is = absurd (cc)

  pub from_read : read_as id label bytes ≡ Ok file → IsObjectOf id label bytes file
  from_read is = from_kind (kind_of bytes) (read_by_kind id label bytes file is)

  pub low_file : read_as id label bytes ≡ Ok file → IsLow file
  low_file is =
      let so = from_read is in
      subst IsLow (sym so.is) (record { sections = few_in bytes so.object so.read; atoms = low_atoms bytes so.object id so.read; commons = low_commons bytes so.object so.read })

pub low_at : (inputs : List Input) (id : FileId) (file : LoadedFile) → file_of inputs id ≡ Ok file → IsLow file
unfolding file_of
low_at inputs id file is = low_file id (content_of inputs id).label (content_of inputs id).bytes file is

pub object_at : (inputs : List Input) (id : FileId) (file : LoadedFile) → file_of inputs id ≡ Ok file → IsObjectOf id (content_of inputs id).label (content_of inputs id).bytes file
unfolding file_of
object_at inputs id file is = from_read id (content_of inputs id).label (content_of inputs id).bytes file is
