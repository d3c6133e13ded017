-- The load commands of an image and its segments, as the loader goes through them (`loader.h`).
use Rattle.std.specs.Prelude.{ℕ, zero, suc, ◌+◌, ◌≡◌, ◌≤◌, ◌&&◌, Bool, true, nat_le, List, [], ◌∷◌, length, min}
use Rattle.mo_bytes.specs.Number.{number}

-- mach_header_64: ncmds and sizeofcmds
unfoldable pub ncmds : List ℕ → ℕ
ncmds image = number 4 image 16

unfoldable pub sizeofcmds : List ℕ → ℕ
sizeofcmds image = number 4 image 20

-- load_command: cmd and cmdsize
unfoldable pub cmd : List ℕ → ℕ → ℕ
cmd image at = number 4 image at

unfoldable pub cmdsize : List ℕ → ℕ → ℕ
cmdsize image at = number 4 image (at + 4)

-- where the commands end: as the header has it, or at the file's end
abbrev pub end_of : List ℕ → ℕ
end_of image = min (32 + sizeofcmds image) (length image)

-- a command stands before the end, with the 8 bytes that each has
abbrev pub is_command : List ℕ → ℕ → Bool
is_command image at =
    nat_le (at + 8) (end_of image) && nat_le 8 (cmdsize image at) && nat_le (at + cmdsize image at) (end_of image)

-- n commands stand one behind the other, the first one at a place
abbrev pub are_commands : List ℕ → ℕ → ℕ → Bool
are_commands image zero at = true
are_commands image (suc n) at = is_command image at && are_commands image n (at + cmdsize image at)

-- the header and the commands fit the file
unfoldable pub fits : List ℕ → Bool
fits image = nat_le 32 (length image) && are_commands image (ncmds image) 32

-- the places of n commands, the first one at a place
abbrev pub commands_from : List ℕ → ℕ → ℕ → List ℕ
commands_from image zero at = []
commands_from image (suc n) at = at ∷ commands_from image n (at + cmdsize image at)

-- the places of the commands of an image whose commands fit it
unfoldable pub commands_of : List ℕ → List ℕ
commands_of image = commands_from image (ncmds image) 32

-- an image whose header and commands fit it
pub record IsFitting (image : List ℕ) : Type 0 where
  pub header : 32 ≤ length image
  pub commands : are_commands image (ncmds image) 32 ≡ true
