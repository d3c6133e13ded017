-- An image with its UUID and its signature at their places (`loader.h`: uuid_command, linkedit_data_command).
use Rattle.std.specs.Prelude.{ℕ, ◌+◌, ◌≡◌, ◌<◌, ◌≤◌, ◌^◌, List, length, take, drop}
use Rattle.image_join.specs.declared.parts.Seal.{Seal}
use Rattle.sign_adhoc.specs.Signature.{padded, signature, signature_size}
use Rattle.sign_adhoc.specs.Uuid.{IsBesideUuid, image_uuid}

-- the UUID lies before the signature, which ends with its zeros where the image ends
pub record HasPlaces (seal : Seal) (size : ℕ) : Type 0 where
  pub uuid : seal.uuid_at + 16 ≤ seal.signature_at
  pub signature : seal.signature_at + signature_size (length seal.identifier) seal.signature_at ≡ size
  pub few : size < 2 ^ 32

-- what stands before the signature
abbrev pub signed_part : Seal → List ℕ → List ℕ
signed_part seal image = take seal.signature_at image

-- the UUID stands at its place, and behind all else the signature of what then stands before it
pub record IsSealed (seal : Seal) (image : List ℕ) : Type 0 where
  pub uuid : take 16 (drop seal.uuid_at image) ≡ image_uuid seal.uuid_at (signed_part seal image)
  pub signature : drop seal.signature_at image ≡ padded (signature (signed_part seal image) seal.identifier seal.text_size seal.main)

-- a byte is none of the UUID's nor of the signature's
abbrev pub IsUnsealed : Seal → ℕ → Type 0
IsUnsealed seal k = (k < seal.signature_at) × IsBesideUuid seal.uuid_at k
