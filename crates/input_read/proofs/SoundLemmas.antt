-- What is read of an input is what holds of it.
use Rattle.std.proofs.Common.{◌≡◌, ℕ, ◌<◌, ◌^◌, nat_le, List, length, None, Some, Result, Ok, IfOk, false, refl, subst, arith, tests}
use Rattle.mo_types.specs.Kind.{kind_of}
use Rattle.mo_types.specs.Loaded.{IsWholeFile}
use Rattle.mo_types.specs.declared.kind.Kind.TheVariants as kind
use Rattle.mo_types.specs.declared.loaded.LoadedFile.{LoadedFile}
use Rattle.mo_types.specs.declared.object_fault.ObjFault.{ObjFault}
use Rattle.mo_ar.specs.Archive.{archive_of}
use Rattle.mo_ar.specs.declared.archive.Archive.{Archive}
use Rattle.tbd_doc.specs.declared.stub.StubFile.{StubFile}
use Rattle.lib_bind.specs.Reexported.{reexported, stub_text}
use Rattle.lib_bind.proofs.FewLemmas.{few_stubs}
use Rattle.lib_bind.proofs.TextLemmas.{HasDocument, reexported_has}
use Rattle.input_files.specs.Files.{archive_in, id_at, read_as}
use Rattle.input_files.specs.declared.input.Input.{Input}
use Rattle.input_read.specs.Sound.{AreDocuments, IsObjectOf}

pub no_archive : (input : Input) → kind_of input.bytes ≡ kind.MachO → archive_in input ≡ None
unfolding archive_in
no_archive input is = rw is refl

pub object_sound : (input : Input) (file : LoadedFile) → kind_of input.bytes ≡ kind.MachO → read_as (id_at input 0) input.label input.bytes ≡ Ok file → IsWholeFile file → IsObjectOf input file
object_sound input file is read whole = record { single = no_archive input is; read = read; whole = whole }

pub ruleset objects = (object_sound)

pub archive_sound : (input : Input) (archive : Archive) → kind_of input.bytes ≡ kind.Archive → archive_of input.bytes ≡ Ok archive → archive_in input ≡ Some archive
unfolding archive_in
archive_sound input archive is read = rw (is, read) refl

pub ruleset archives = (archive_sound)

few_bytes : (bytes : List ℕ) → length bytes < 2 ^ 30 → nat_le (2 ^ 30) (length bytes) ≡ false
few_bytes bytes few = grind (arith, tests)

text_is : (bytes : List ℕ) → length bytes < 2 ^ 30 → kind_of bytes ≡ kind.Stub → reexported bytes ≡ stub_text bytes
unfolding reexported
text_is bytes few is = rw (few_bytes bytes few, is) refl

pub stub_sound : (bytes : List ℕ) (file : StubFile) → length bytes < 2 ^ 30 → kind_of bytes ≡ kind.Stub → stub_text bytes ≡ Ok file → AreDocuments file.docs
stub_sound bytes file few is read =
    let has : IfOk (stub_text bytes) HasDocument = subst (λ (r : Result StubFile ObjFault). IfOk r HasDocument) (text_is bytes few is) (reexported_has bytes) in
    record { some = subst (λ (r : Result StubFile ObjFault). IfOk r HasDocument) read has; few = few_stubs bytes file read few }

pub ruleset stubs = (stub_sound)
