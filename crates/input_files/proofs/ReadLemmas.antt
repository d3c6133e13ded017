-- What is read of an object has fewer than 2^24 symbols, and its references.
use Rattle.std.proofs.Common.{◌≡◌, ℕ, ◌<◌, ◌^◌, Bool, true, false, List, [], length, nat_lt, Option, Some, None, Result, Ok, Err, refl}
use Rattle.std.proofs.lemmas.Bool.{ltb-true}
use Rattle.mo_types.specs.Atoms.{atoms_of}
use Rattle.mo_types.specs.Gives.{◌>>=◌, guarded}
use Rattle.mo_types.specs.Refs.{refs_of}
use Rattle.mo_types.specs.declared.atom.Atom.{Atom}
use Rattle.mo_types.specs.declared.cause.Feature.{Feature}
use Rattle.mo_types.specs.declared.cause.Which.TheVariants.{Symbols}
use Rattle.mo_types.specs.declared.key.FileId.{FileId}
use Rattle.mo_types.specs.declared.object.Object.{Object}
use Rattle.mo_types.specs.declared.object_fault.ObjFault.{ObjFault}
use Rattle.mo_types.specs.declared.object_fault.ObjFault.TheVariants.{Limit, Unsupported}
use Rattle.mo_types.specs.declared.reference.Ref.{Ref}
use Rattle.mo_types.specs.declared.unwind.Unwind.{Unwind}
use Rattle.unwind_read.specs.Unwinds.{unwinds_of}
use Rattle.mo_obj.specs.Entries.{entries_of}
use Rattle.mo_obj.specs.Features.{first_feature}
use Rattle.mo_obj.specs.Object.{accepted, described, lacks, object_of}
use Rattle.mo_obj.specs.Relocations.{relocations_of}
use Rattle.input_files.specs.Files.{object_read}

guard_few : (read object : Object) → (guarded (nat_lt (length read.symbols) (2 ^ 24)) (Limit Symbols) (tt {0}) >>= λ done. Ok read) ≡ Ok object → length object.symbols < 2 ^ 24
guard_few read object is = by (nat_lt (length read.symbols) (2 ^ 24)) refl
  where
    by : (b : Bool) → nat_lt (length read.symbols) (2 ^ 24) ≡ b → length object.symbols < 2 ^ 24
    by true low =
        let s : Ok read ≡ Ok object = rw low at is in
        let same : read ≡ object = cc in
        rw same at (ltb-true (length read.symbols) (2 ^ 24) low)
    by false high = absurd (let s : Err (Limit Symbols) ≡ Ok object = rw high at is in cc)

accepted_few : (read object : Object) (foreign : Bool) → (accepted read foreign >>= λ done. Ok read) ≡ Ok object → length object.symbols < 2 ^ 24
unfolding accepted
accepted_few read object foreign is = by (relocations_of read) refl
  where
    supported : (relocs : Option Feature) (f : Option Feature) → first_feature read foreign relocs ≡ f → ((lacks f >>= λ supported. guarded (nat_lt (length read.symbols) (2 ^ 24)) (Limit Symbols) (tt {0})) >>= λ done. Ok read) ≡ Ok object → length object.symbols < 2 ^ 24
    supported relocs None e h = guard_few read object h
    supported relocs (Some f) e h = absurd (let s : Err (Unsupported f) ≡ Ok object = h in cc)

    kept : (relocs : Option Feature) (r : Result (Unit {0}) ObjFault) → entries_of read ≡ r → ((r >>= λ entries. lacks (first_feature read foreign relocs) >>= λ supported. guarded (nat_lt (length read.symbols) (2 ^ 24)) (Limit Symbols) (tt {0})) >>= λ done. Ok read) ≡ Ok object → length object.symbols < 2 ^ 24
    kept relocs (Err e) r h = absurd (let s : Err e ≡ Ok object = h in cc)
    kept relocs (Ok entries) r h = supported relocs (first_feature read foreign relocs) refl h

    by : (r : Result (Option Feature) ObjFault) → relocations_of read ≡ r → length object.symbols < 2 ^ 24
    by (Err e) r = absurd (let s : Err e ≡ Ok object = rw r at is in cc)
    by (Ok relocs) r = kept relocs (entries_of read) refl (rw r at is)

pub few_symbols : (bytes : List ℕ) (object : Object) → object_of bytes ≡ Ok object → length object.symbols < 2 ^ 24
unfolding object_of
few_symbols bytes object is = elim (described bytes) as (λ r. (r >>= λ read. accepted read.object read.foreign >>= λ done. Ok read.object) ≡ Ok object → length object.symbols < 2 ^ 24) [
  | Ok read ↦ λ h. accepted_few read.object object read.foreign h
  | Err e ↦ λ h. absurd (let s : Err e ≡ Ok object = h in cc)
] is

pub file_is : (id : FileId) (label bytes : List ℕ) (object : Object) (atoms : List Atom) (refs : List Ref) (unwinds : List Unwind) → object_of bytes ≡ Ok object → atoms ≡ atoms_of object id → refs_of object id ≡ Ok refs → unwinds_of object id ≡ Ok unwinds → object_read id label (object_of bytes) ≡ Ok (record { id = id; label = label; object = object; atoms = atoms; refs = refs; unwinds = unwinds })
file_is id label bytes object atoms refs unwinds read cut have told = rw (read, cut, have, told) refl

pub ruleset reads = (few_symbols, file_is)
