-- Parts that are written over what stands at their places.
use Rattle.std.specs.Prelude.{ℕ, ◌+◌, List, [], ◌∷◌, ◌++◌, length, take, drop}
use Rattle.image_join.specs.declared.parts.Part.{Part}

-- the bytes with those of a part at its place
abbrev pub with_part : List ℕ → Part → List ℕ
with_part image part = take part.from image ++ (part.bytes ++ drop (part.from + length part.bytes) image)

-- the bytes with those of parts, one after the other
abbrev pub with_parts : List ℕ → List Part → List ℕ
with_parts image [] = image
with_parts image (part ∷ parts) = with_parts (with_part image part) parts
