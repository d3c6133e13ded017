-- Branches that reach, in an image without islands or with some.
use Rattle.std.specs.Prelude.{ℕ, ℤ, pos, negsuc, ◌≡◌, ◌+◌, ◌<◌, ◌^◌, true, false, []}
use Rattle.sect_place.specs.declared.layout.Layout.{Layout}
use Rattle.island_core.specs.Far.{in_reach, in_reach_by}
use Rattle.island_core.specs.declared.row.Scale.{Scale}
use Rattle.islands.specs.declared.branch.Branch.{Branch}
use Rattle.islands.specs.Rows.{is_plain, raised, spot_of}
use Rattle.islands.specs.Text.{in_code, place_in}

-- where a branch stands, and where its target, which no group is asked for
abbrev pub from_of : Layout → Branch → ℕ
from_of layout branch = raised (place_in layout branch.atom + branch.place) (pos 0)

abbrev pub to_of : Layout → Branch → ℕ
to_of layout branch = raised (spot_of layout [] branch.target).place branch.target.addend

-- A branch of `__text` goes into `__TEXT`, and is in reach there. With an addend it stays so as far as anything can be moved.
pub record NeedsNone (layout : Layout) (scale : Scale) (branch : Branch) : Type 0 where
  pub inside : in_code layout branch.atom ≡ true → (spot_of layout [] branch.target).inside ≡ true
  pub plain : in_code layout branch.atom ≡ true → is_plain branch.target.addend ≡ true → in_reach scale.reach (from_of layout branch) (to_of layout branch) ≡ true
  pub added : in_code layout branch.atom ≡ true → is_plain branch.target.addend ≡ false → in_reach_by scale.reach scale.slack (from_of layout branch) (to_of layout branch) ≡ true

-- a number of 64 bits with a sign
abbrev pub IsWord : ℤ → Type 0
IsWord (pos n) = n < 2 ^ 63
IsWord (negsuc n) = n < 2 ^ 63

-- A branch goes into `__TEXT`, from a distance of at most the reach, less a word forward, and in whole words.
pub record Reaches (layout : Layout) (reach : ℕ) (branch : Branch) : Type 0 where
  pub inside : (spot_of layout [] branch.target).inside ≡ true
  pub near : in_reach reach (from_of layout branch) (to_of layout branch) ≡ true
