-- An image by its parts.
use Rattle.std.specs.Prelude.{ℕ, ◌+◌, ◌-◌, ◌≡◌, ◌≤◌, ◌<◌, ◌⊎◌, ◌&&◌, Bool, nat_le, nat_lt, List, [], ◌∷◌, length, map, slice_index, Option, Some, None, unwrap_or, if◌then◌else◌}
use Rattle.std.specs.List.{AllByRecursion, range_with_len}
use Rattle.mo_types.specs.Scan.{first_some}
use Rattle.image_join.specs.declared.parts.Part.{Part}
use Rattle.image_join.specs.declared.parts.Parts.{Parts}

-- a part covers a place
abbrev pub covers : ℕ → Part → Bool
covers place part = nat_le part.from place && nat_lt place (part.from + length part.bytes)

-- the byte of a part that covers a place
abbrev pub byte_in : ℕ → Part → Option ℕ
byte_in place part = if covers place part then Some (slice_index part.bytes (place - part.from)) else None

-- the byte at a place is that of the part that covers it, and 0 where none does
unfoldable pub byte_at : List Part → ℕ → ℕ
byte_at parts place = unwrap_or (first_some (byte_in place) parts) 0

-- the bytes at all places of the image
unfoldable pub joined : Parts → List ℕ
joined parts = map (byte_at parts.parts) (range_with_len 0 parts.size)

-- parts that begin at a place at the earliest, rise without overlapping, and end at another one at the latest
abbrev pub AreRising : ℕ → ℕ → List Part → Type 0
AreRising start end [] = start ≤ end
AreRising start end (part ∷ parts) = (start ≤ part.from) × AreRising (part.from + length part.bytes) end parts

abbrev pub LieApart : Parts → Type 0
LieApart parts = AreRising 0 parts.size parts.parts

-- no part covers a place
abbrev pub IsBare : List Part → ℕ → Type 0
IsBare parts place = AllByRecursion (λ part. (place < part.from) ⊎ (part.from + length part.bytes ≤ place)) parts

-- the bytes of a part stand in the image from its place on
abbrev pub StandsIn : List ℕ → Part → Type 0
StandsIn image part = (k : ℕ) → k < length part.bytes → slice_index image (part.from + k) ≡ slice_index part.bytes k

-- an image of its parts: its size, each part at its place, and zeros where no part is
pub record IsJoined (parts : Parts) (image : List ℕ) : Type 0 where
  pub size : length image ≡ parts.size
  pub each : AllByRecursion (StandsIn image) parts.parts
  pub zeros : (place : ℕ) → IsBare parts.parts place → slice_index image place ≡ 0
