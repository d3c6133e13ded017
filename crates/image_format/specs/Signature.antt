-- The structures of a code signature (`cs_blobs.h`), whose numbers have their highest byte first.
use Rattle.std.specs.Prelude.{ℕ, ◌+◌, List, [], ◌∷◌}
use Rattle.image_format.specs.BigFields.{BigField, BigNumber, big_number_at, big_spelled}
use Rattle.image_format.specs.declared.signature.SuperBlob.{SuperBlob}
use Rattle.image_format.specs.declared.signature.BlobIndex.{BlobIndex}
use Rattle.image_format.specs.declared.signature.CodeDirectory.{CodeDirectory}

-- cs_blobs.h: CS_SuperBlob, 12 bytes
abbrev pub super_blob_at : List ℕ → ℕ → SuperBlob
super_blob_at bytes at = record {
  magic = big_number_at 4 bytes at;
  length = big_number_at 4 bytes (at + 4);
  count = big_number_at 4 bytes (at + 8);
}

abbrev pub super_blob_fields : SuperBlob → List BigField
super_blob_fields s =
    BigNumber 4 s.magic
    ∷ BigNumber 4 s.length
    ∷ BigNumber 4 s.count
    ∷ []

abbrev pub super_blob_bytes : SuperBlob → List ℕ
super_blob_bytes s = big_spelled (super_blob_fields s)

-- cs_blobs.h: CS_BlobIndex, 8 bytes
abbrev pub blob_index_at : List ℕ → ℕ → BlobIndex
blob_index_at bytes at = record {
  type_ = big_number_at 4 bytes at;
  offset = big_number_at 4 bytes (at + 4);
}

abbrev pub blob_index_fields : BlobIndex → List BigField
blob_index_fields s =
    BigNumber 4 s.type_
    ∷ BigNumber 4 s.offset
    ∷ []

abbrev pub blob_index_bytes : BlobIndex → List ℕ
blob_index_bytes s = big_spelled (blob_index_fields s)

-- cs_blobs.h: CS_CodeDirectory, 88 bytes
abbrev pub code_directory_at : List ℕ → ℕ → CodeDirectory
code_directory_at bytes at = record {
  magic = big_number_at 4 bytes at;
  length = big_number_at 4 bytes (at + 4);
  version = big_number_at 4 bytes (at + 8);
  flags = big_number_at 4 bytes (at + 12);
  hash_offset = big_number_at 4 bytes (at + 16);
  ident_offset = big_number_at 4 bytes (at + 20);
  n_special_slots = big_number_at 4 bytes (at + 24);
  n_code_slots = big_number_at 4 bytes (at + 28);
  code_limit = big_number_at 4 bytes (at + 32);
  hash_size = big_number_at 1 bytes (at + 36);
  hash_type = big_number_at 1 bytes (at + 37);
  platform = big_number_at 1 bytes (at + 38);
  page_size = big_number_at 1 bytes (at + 39);
  spare2 = big_number_at 4 bytes (at + 40);
  scatter_offset = big_number_at 4 bytes (at + 44);
  team_offset = big_number_at 4 bytes (at + 48);
  spare3 = big_number_at 4 bytes (at + 52);
  code_limit64 = big_number_at 8 bytes (at + 56);
  exec_seg_base = big_number_at 8 bytes (at + 64);
  exec_seg_limit = big_number_at 8 bytes (at + 72);
  exec_seg_flags = big_number_at 8 bytes (at + 80);
}

abbrev pub code_directory_fields : CodeDirectory → List BigField
code_directory_fields s =
    BigNumber 4 s.magic
    ∷ BigNumber 4 s.length
    ∷ BigNumber 4 s.version
    ∷ BigNumber 4 s.flags
    ∷ BigNumber 4 s.hash_offset
    ∷ BigNumber 4 s.ident_offset
    ∷ BigNumber 4 s.n_special_slots
    ∷ BigNumber 4 s.n_code_slots
    ∷ BigNumber 4 s.code_limit
    ∷ BigNumber 1 s.hash_size
    ∷ BigNumber 1 s.hash_type
    ∷ BigNumber 1 s.platform
    ∷ BigNumber 1 s.page_size
    ∷ BigNumber 4 s.spare2
    ∷ BigNumber 4 s.scatter_offset
    ∷ BigNumber 4 s.team_offset
    ∷ BigNumber 4 s.spare3
    ∷ BigNumber 8 s.code_limit64
    ∷ BigNumber 8 s.exec_seg_base
    ∷ BigNumber 8 s.exec_seg_limit
    ∷ BigNumber 8 s.exec_seg_flags
    ∷ []

abbrev pub code_directory_bytes : CodeDirectory → List ℕ
code_directory_bytes s = big_spelled (code_directory_fields s)
