-- What calls leave of a machine.
use Rattle.std.specs.Prelude.{ℕ, ◌≡◌, ◌<◌, ◌≤◌, List, Option, Some, None, Result, Ok, Err}
use Rattle.image_read.specs.Meaning.{base_of}
use Rattle.dyld_ops.specs.Image.{addresses_of}
use Rattle.dyld_ops.specs.Machine.{IsFault}
use Rattle.dyld_ops.specs.declared.fixup.OpsFault.{OpsFault}
use Rattle.dyld_ops.specs.declared.info.Layout.{Layout}
use Rattle.dyld_ops.specs.declared.machine.Machine.{Machine}

-- the machine that a definition gives, or its fault
abbrev pub Leaves : Result (Unit {0}) OpsFault → Machine → Result Machine OpsFault → Type 0
Leaves (Ok done) new given = given ≡ Ok new
Leaves (Err e) new given = IsFault e → given ≡ Err e

-- the segments are those of the image
pub record IsLayout (image : List ℕ) (layout : Layout) : Type 0 where
  pub addresses : layout.addresses.items ≡ addresses_of image
  pub base : layout.base ≡ base_of image

-- the next place and the machine there, that the table ends and the machine stays, or a fault
abbrev pub Steps : Result (Option ℕ) OpsFault → Machine → Machine → Result (Option (ℕ × Machine)) OpsFault → Type 0
Steps (Ok None) old new given = (given ≡ Ok None) × (new ≡ old)
Steps (Ok (Some next)) old new given = given ≡ Ok (Some (next, new))
Steps (Err e) old new given = IsFault e → given ≡ Err e

-- the next place lies further on, and not behind the table's end
abbrev pub GoesOn : ℕ → ℕ → Option ℕ → Type 0
GoesOn at end None = Unit {0}
GoesOn at end (Some next) = (at < next) × (next ≤ end)
