-- What a reader sees of an image: its bytes in memory, its segments, where __TEXT begins, and the tables of its fixups.
use Rattle.std.specs.Prelude.{ℕ, ◌≡◌, List, length, drop, Ok}
use Rattle.image_read.specs.Fixups.{header_read, holding_of}
use Rattle.image_read.specs.Mapped.{mapped}
use Rattle.image_read.specs.Meaning.{base_of}
use Rattle.image_read.specs.declared.imports.FixupsHeader.{FixupsHeader}

-- two images that show a reader the same, whatever else stands in their bytes
pub record AreAlike (a b : List ℕ) : Type 0 where
  pub size : length a ≡ length b
  pub memory : (v : ℕ) → mapped a v ≡ mapped b v
  pub segments : (v : ℕ) → holding_of a v ≡ holding_of b v
  pub base : base_of a ≡ base_of b
  pub header : header_read a ≡ header_read b
  pub tables : (header : FixupsHeader) → header_read a ≡ Ok header → drop header.at a ≡ drop header.at b
