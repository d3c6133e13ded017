-- The ad-hoc signature of an image (`cs_blobs.h`): a super blob with one entry, the code directory, the identifier with
-- its NUL, and the hashes of the pages before the signature.
use Rattle.std.specs.Prelude.{ℕ, ◌+◌, ◌-◌, ◌*◌, Bool, List, [], ◌∷◌, ◌++◌, length, replicate, if◌then◌else◌}
use Rattle.mo_bytes.specs.Rounding.{least_multiple}
use Rattle.image_format.specs.Signature.{super_blob_bytes, blob_index_bytes, code_directory_bytes}
use Rattle.image_format.specs.declared.cs_blobs.TheConstants.{CSMAGIC_EMBEDDED_SIGNATURE, CSMAGIC_CODEDIRECTORY, CSSLOT_CODEDIRECTORY, CS_SUPPORTSEXECSEG, CS_ADHOC, CS_LINKER_SIGNED, CS_HASHTYPE_SHA256, CS_SHA256_LEN, CS_EXECSEG_MAIN_BINARY}
use Rattle.image_format.specs.declared.signature.SuperBlob.{SuperBlob}
use Rattle.image_format.specs.declared.signature.BlobIndex.{BlobIndex}
use Rattle.image_format.specs.declared.signature.CodeDirectory.{CodeDirectory}
use Rattle.sign_adhoc.specs.Pages.{page_count, page_hashes, joined}

-- where the hashes stand in the code directory: behind its fields, an identifier of so many bytes and the NUL
abbrev pub hashes_begin : ℕ → ℕ
hashes_begin identifier = 88 + identifier + 1

-- how many bytes the code directory has, with the hashes of the pages of so many bytes
abbrev pub directory_size : ℕ → ℕ → ℕ
directory_size identifier limit = hashes_begin identifier + 32 * page_count limit

-- how many bytes the signature has: the code directory stands behind the super blob and its entry
unfoldable pub blob_size : ℕ → ℕ → ℕ
blob_size identifier limit = 20 + directory_size identifier limit

-- how many bytes its command names: those and zeros, up to a multiple of 16
unfoldable pub signature_size : ℕ → ℕ → ℕ
signature_size identifier limit = least_multiple 16 (blob_size identifier limit)

abbrev pub super_blob : ℕ → ℕ → SuperBlob
super_blob identifier limit = record {
  magic = CSMAGIC_EMBEDDED_SIGNATURE;
  length = blob_size identifier limit;
  count = 1;
}

abbrev pub directory_entry : BlobIndex
directory_entry = record { type_ = CSSLOT_CODEDIRECTORY; offset = 20 }

-- the code directory of the pages of so many bytes, with the segment of the code and whether the image is a program
abbrev pub directory : ℕ → ℕ → ℕ → Bool → CodeDirectory
directory identifier limit text_size main = record {
  magic = CSMAGIC_CODEDIRECTORY;
  length = directory_size identifier limit;
  version = CS_SUPPORTSEXECSEG;
  flags = CS_ADHOC + CS_LINKER_SIGNED;
  hash_offset = hashes_begin identifier;
  ident_offset = 88;
  n_special_slots = 0;
  n_code_slots = page_count limit;
  code_limit = limit;
  hash_size = CS_SHA256_LEN;
  hash_type = CS_HASHTYPE_SHA256;
  platform = 0;
  page_size = 12;
  spare2 = 0;
  scatter_offset = 0;
  team_offset = 0;
  spare3 = 0;
  code_limit64 = 0;
  exec_seg_base = 0;
  exec_seg_limit = text_size;
  exec_seg_flags = if main then CS_EXECSEG_MAIN_BINARY else 0;
}

-- what stands before the identifier
unfoldable pub head : ℕ → ℕ → ℕ → Bool → List ℕ
head identifier limit text_size main =
    super_blob_bytes (super_blob identifier limit) ++ blob_index_bytes directory_entry
    ++ code_directory_bytes (directory identifier limit text_size main)

-- a signature with these hashes
unfoldable pub with_hashes : ℕ → List (List ℕ) → List ℕ → ℕ → Bool → List ℕ
with_hashes limit hashes identifier text_size main =
    head (length identifier) limit text_size main ++ identifier ++ (0 ∷ []) ++ joined hashes

-- the signature of an image, which is what stands before the signature
abbrev pub signature : List ℕ → List ℕ → ℕ → Bool → List ℕ
signature image identifier text_size main = with_hashes (length image) (page_hashes image) identifier text_size main

-- the signature and its zeros
abbrev pub padded : List ℕ → List ℕ
padded bytes = bytes ++ replicate (least_multiple 16 (length bytes) - length bytes) 0
