-- How many bytes a signature has.
use Rattle.std.proofs.Common.{◌≡◌, ℕ, zero, suc, ◌+◌, ◌*◌, List, [], ◌∷◌, length, Bool, refl, ◌∙◌, arith, map, length-append}
use Rattle.std.specs.List.{flat_map, range_with_len}
use Rattle.byteorder.specs.Numbers.{length-bytes_high_first}
use Rattle.image_format.specs.BigFields.{BigField, BigNumber, big_number_bytes, big_spelled}
use Rattle.image_format.specs.Signature.{super_blob_fields, blob_index_fields, code_directory_fields}
use Rattle.sha2.proofs.Facts256.{length-sha256}
use Rattle.sign_adhoc.specs.Pages.{page_count, page_hash, page_hashes, joined}
use Rattle.sign_adhoc.specs.Signature.{blob_size, directory, directory_entry, head, signature, super_blob, with_hashes}

-- how many bytes fields have
abbrev pub width_of : List BigField → ℕ
width_of [] = 0
width_of (BigNumber width value ∷ fs) = width + width_of fs

length-big_number_bytes : (w n : ℕ) → length (big_number_bytes w n) ≡ w
unfolding big_number_bytes
length-big_number_bytes w n = length-bytes_high_first w n

pub length-big_spelled : (fs : List BigField) → length (big_spelled fs) ≡ width_of fs
length-big_spelled [] = refl
length-big_spelled (BigNumber width value ∷ fs) =
    let here = length-big_number_bytes width value in
    let rest = length-big_spelled fs in
    length-append (big_number_bytes width value) (big_spelled fs) ∙ omega arith

pub length-head : (identifier limit text_size : ℕ) (main : Bool) → length (head identifier limit text_size main) ≡ 108
unfolding head
length-head identifier limit text_size main =
    let blob = length-big_spelled (super_blob_fields (super_blob identifier limit)) in
    let entry = length-big_spelled (blob_index_fields directory_entry) in
    let fields = length-big_spelled (code_directory_fields (directory identifier limit text_size main)) in
    rw (length-append, length-append, blob, entry, fields) refl

pub length-page_hash : (image : List ℕ) (k : ℕ) → length (page_hash image k) ≡ 32
unfolding page_hash
length-page_hash image k = length-sha256 _

length-hashes_from : (image : List ℕ) (from count : ℕ) → length (flat_map (λ hash. hash) (map (page_hash image) (range_with_len from count))) ≡ 32 * count
length-hashes_from image from zero = refl
length-hashes_from image from (suc count) =
    let here = length-page_hash image from in
    let rest = length-hashes_from image (from + 1) count in
    length-append (page_hash image from) (flat_map (λ hash. hash) (map (page_hash image) (range_with_len (from + 1) count))) ∙ omega arith

pub length-joined : (image : List ℕ) → length (joined (page_hashes image)) ≡ 32 * page_count (length image)
unfolding joined page_hashes
length-joined image = length-hashes_from image 0 (page_count (length image))

pub length-signature : (image identifier : List ℕ) (text_size : ℕ) (main : Bool) → length (signature image identifier text_size main) ≡ blob_size (length identifier) (length image)
unfolding with_hashes blob_size
length-signature image identifier text_size main =
    let first = length-head (length identifier) (length image) text_size main in
    let last = length-joined image in
    rw (length-append, length-append, length-append, first, last) (omega arith)
