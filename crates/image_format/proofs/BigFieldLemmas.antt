-- Each structure of a code signature is read from its bytes.
use Rattle.std.proofs.Common.{◌≡◌, ℕ, ◌+◌, ◌^◌, ◌<◌, List, [], ◌∷◌, ◌++◌, length, refl, sym, ap, append_assoc, append-nil, length-append, subst, add-zero, ◌∙◌}
use Rattle.std.proofs.Math.Seq.{drop-append_seam}
use Rattle.byteorder.specs.Numbers.{big_number-reads_back, length-bytes_high_first}
use Rattle.image_format.specs.BigFields.{BigField, BigNumber, big_number_at, big_number_bytes, big_spelled}
use Rattle.image_format.specs.Signature.{super_blob_at, super_blob_fields, super_blob_bytes, blob_index_at, blob_index_fields, blob_index_bytes, code_directory_at, code_directory_fields, code_directory_bytes}
use Rattle.image_format.specs.declared.signature.SuperBlob.{SuperBlob}
use Rattle.image_format.specs.declared.signature.BlobIndex.{BlobIndex}
use Rattle.image_format.specs.declared.signature.CodeDirectory.{CodeDirectory}

-- fields that their bytes can hold
abbrev pub AreBigFit : List BigField → Type 0
AreBigFit [] = Unit {0}
AreBigFit (BigNumber width value ∷ fs) = (value < 256 ^ width) × AreBigFit fs

-- the fields are read one after the other, the first one `passed` bytes after a place
abbrev pub AllBigRead : List ℕ → ℕ → ℕ → List BigField → Type 0
AllBigRead bytes at passed [] = Unit {0}
AllBigRead bytes at passed (BigNumber width value ∷ fs) = (big_number_at width bytes (at + passed) ≡ value) × AllBigRead bytes at (passed + width) fs

length-big_number_bytes : (w n : ℕ) → length (big_number_bytes w n) ≡ w
unfolding big_number_bytes
length-big_number_bytes w n = length-bytes_high_first w n

read_after : (front rest : List ℕ) (width value at : ℕ) → value < 256 ^ width → at ≡ length front → big_number_at width (front ++ (big_number_bytes width value ++ rest)) at ≡ value
unfolding big_number_at big_number_bytes
read_after front rest width value at fit e = rw e (rw drop-append_seam (big_number-reads_back width value rest fit))

pub all_big_read : (fs : List BigField) (passed : ℕ) (front mid rest : List ℕ) → AreBigFit fs → length mid ≡ passed → AllBigRead (front ++ (mid ++ (big_spelled fs ++ rest))) (length front) passed fs
all_big_read [] passed front mid rest fit e = tt
all_big_read (BigNumber width value ∷ fs) passed front mid rest fit e =
    let here : length front + passed ≡ length (front ++ mid) = rw length-append (ap (λ n. length front + n) (sym e)) in
    let first : (front ++ mid) ++ (big_number_bytes width value ++ (big_spelled fs ++ rest)) ≡ front ++ (mid ++ ((big_number_bytes width value ++ big_spelled fs) ++ rest)) = simp append_assoc in
    let others : front ++ ((mid ++ big_number_bytes width value) ++ (big_spelled fs ++ rest)) ≡ front ++ (mid ++ ((big_number_bytes width value ++ big_spelled fs) ++ rest)) = simp append_assoc in
    let passed_on : length (mid ++ big_number_bytes width value) ≡ passed + width = rw length-append (rw (e, length-big_number_bytes width value) refl) in (
      subst (λ (bytes : List ℕ). big_number_at width bytes (length front + passed) ≡ value) first (read_after (front ++ mid) (big_spelled fs ++ rest) width value (length front + passed) fit.0 here),
      subst (λ (bytes : List ℕ). AllBigRead bytes (length front) (passed + width) fs) others (all_big_read fs (passed + width) front (mid ++ big_number_bytes width value) rest fit.1 passed_on),
    )

-- bytes behind which the fields were put, one after the other
abbrev pub put_big_behind : List ℕ → List BigField → List ℕ
put_big_behind out [] = out
put_big_behind out (BigNumber width value ∷ fs) = put_big_behind (out ++ big_number_bytes width value) fs

pub put_big_spelled : (out : List ℕ) (fs : List BigField) → put_big_behind out fs ≡ out ++ big_spelled fs
put_big_spelled out [] = sym (append-nil out)
put_big_spelled out (BigNumber width value ∷ fs) = put_big_spelled (out ++ big_number_bytes width value) fs ∙ append_assoc out (big_number_bytes width value) (big_spelled fs)

pub super_blob_read : (s : SuperBlob) (front rest : List ℕ) → AreBigFit (super_blob_fields s) → super_blob_at ((front ++ super_blob_bytes s) ++ rest) (length front) ≡ s
super_blob_read s front rest fit =
    let read : AllBigRead (front ++ (super_blob_bytes s ++ rest)) (length front) 0 (super_blob_fields s) = all_big_read (super_blob_fields s) 0 front [] rest fit refl in
    let first : big_number_at 4 (front ++ (super_blob_bytes s ++ rest)) (length front) ≡ s.magic = rw add-zero at read.0 in
    let same : super_blob_at (front ++ (super_blob_bytes s ++ rest)) (length front) ≡ record { magic = s.magic; length = s.length; count = s.count } = cc in
    rw append_assoc same

pub blob_index_read : (s : BlobIndex) (front rest : List ℕ) → AreBigFit (blob_index_fields s) → blob_index_at ((front ++ blob_index_bytes s) ++ rest) (length front) ≡ s
blob_index_read s front rest fit =
    let read : AllBigRead (front ++ (blob_index_bytes s ++ rest)) (length front) 0 (blob_index_fields s) = all_big_read (blob_index_fields s) 0 front [] rest fit refl in
    let first : big_number_at 4 (front ++ (blob_index_bytes s ++ rest)) (length front) ≡ s.type_ = rw add-zero at read.0 in
    let same : blob_index_at (front ++ (blob_index_bytes s ++ rest)) (length front) ≡ record { type_ = s.type_; offset = s.offset } = cc in
    rw append_assoc same

pub code_directory_read : (s : CodeDirectory) (front rest : List ℕ) → AreBigFit (code_directory_fields s) → code_directory_at ((front ++ code_directory_bytes s) ++ rest) (length front) ≡ s
code_directory_read s front rest fit =
    let read : AllBigRead (front ++ (code_directory_bytes s ++ rest)) (length front) 0 (code_directory_fields s) = all_big_read (code_directory_fields s) 0 front [] rest fit refl in
    let first : big_number_at 4 (front ++ (code_directory_bytes s ++ rest)) (length front) ≡ s.magic = rw add-zero at read.0 in
    let same : code_directory_at (front ++ (code_directory_bytes s ++ rest)) (length front) ≡ record { magic = s.magic; length = s.length; version = s.version; flags = s.flags; hash_offset = s.hash_offset; ident_offset = s.ident_offset; n_special_slots = s.n_special_slots; n_code_slots = s.n_code_slots; code_limit = s.code_limit; hash_size = s.hash_size; hash_type = s.hash_type; platform = s.platform; page_size = s.page_size; spare2 = s.spare2; scatter_offset = s.scatter_offset; team_offset = s.team_offset; spare3 = s.spare3; code_limit64 = s.code_limit64; exec_seg_base = s.exec_seg_base; exec_seg_limit = s.exec_seg_limit; exec_seg_flags = s.exec_seg_flags } = cc in
    rw append_assoc same
