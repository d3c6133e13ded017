-- The references of a file with their atoms, as they are put in order.
use Rattle.std.specs.Prelude.{ℕ, ◌==◌, Bool, List, map}
use Rattle.std.specs.List.{enumerate_from}
use Rattle.std.specs.Ordering.{nat_cmp}
use Rattle.std.specs.declared.cmp.Ordering.{Ordering}
use Rattle.mo_types.specs.declared.reference.Ref.{Ref}
use Rattle.liveness.specs.Order.{place_of}
use Rattle.liveness.specs.declared.order.Spot.{Spot}

-- a reference that a file lists at an index
abbrev pub spot_of : ℕ × Ref → Spot
spot_of p = record { section = p.1.atom.section; offset = p.1.atom.offset; index = p.0 }

-- all references of a file
unfoldable pub spots_of : List Ref → List Spot
spots_of refs = map spot_of (enumerate_from 0 refs)

-- the place of its atom
unfoldable pub place : Spot → ℕ
place spot = place_of spot.section spot.offset

-- by atom
abbrev pub compare_spots : Spot → Spot → Ordering
compare_spots a b = nat_cmp (place a) (place b)

-- a reference of the atom at an offset of the section of a number
abbrev pub is_of : ℕ → ℕ → Spot → Bool
is_of section offset spot = place spot == place_of section offset
