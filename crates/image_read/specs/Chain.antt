-- The places that the chain of a page goes through (`mach-o/fixup-chains.h`): its start, and from each place whose
-- pointer has a next one the place that lies 4 times as many bytes behind.
use Rattle.std.specs.Prelude.{ℕ, ◌+◌, ◌*◌, ◌≡◌, ◌≢◌, List, Some, None}
use Rattle.image_read.specs.Fixups.{next_of, pointer_at}

pub data OnChain (image : List ℕ) (base start : ℕ) : ℕ → Type 0 where
  begins : OnChain image base start start
  follows : {at to : ℕ} → OnChain image base start at → (word : ℕ) → pointer_at image base at ≡ Some word → next_of word ≢ 0 → to ≡ at + 4 * next_of word → OnChain image base start to

-- a place on the chain at which the page or the memory has no whole pointer
pub record IsGap (image : List ℕ) (base start : ℕ) : Type 0 where
  pub place : ℕ
  pub on : OnChain image base start place
  pub none : pointer_at image base place ≡ None
