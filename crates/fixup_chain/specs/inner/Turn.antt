-- The first fault of the first pointers of a list, by the pointer's index.
use Rattle.std.specs.Prelude.{ℕ, ◌≡◌, ◌≢◌, ◌<◌, true, is_some, List, slice_index_or, Option, Some, None}
use Rattle.std.specs.declared.cmp.Ordering.TheVariants.{Greater}
use Rattle.sect_place.specs.declared.layout.Layout.{Layout}
use Rattle.fixup_chain.specs.Faults.{compare_turns, fault_of}
use Rattle.fixup_chain.specs.declared.chains.Fixup.{Fixup}

-- of the first `count` pointers the one at an index has a fault, and is the first to have one
pub record IsFirstAt (layout : Layout) (fixups : List Fixup) (count at : ℕ) : Type 0 where
  pub within : at < count
  pub faulty : (d : Fixup) → is_some (fault_of layout (slice_index_or fixups at d)) ≡ true
  pub first : (k : ℕ) (d : Fixup) → k < count → is_some (fault_of layout (slice_index_or fixups k d)) ≡ true → compare_turns (slice_index_or fixups at d) (slice_index_or fixups k d) ≢ Greater

-- no one of the first pointers has a fault
pub record AreSound (layout : Layout) (fixups : List Fixup) (count : ℕ) : Type 0 where
  pub none : (k : ℕ) (d : Fixup) → k < count → fault_of layout (slice_index_or fixups k d) ≡ None

abbrev pub IsFirst : Layout → List Fixup → ℕ → Option ℕ → Type 0
IsFirst layout fixups count None = AreSound layout fixups count
IsFirst layout fixups count (Some at) = IsFirstAt layout fixups count at
