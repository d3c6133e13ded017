-- What opcodes do (`loader.h`: REBASE_OPCODE_, BIND_OPCODE_). The machine has a place, as a segment and an offset in it, an
-- ordinal, a name, whether the name may be missing, an addend, and what is fixed so far.
use Rattle.std.specs.Prelude.{ℕ, zero, suc, ◌+◌, ◌-◌, ◌*◌, ◌%◌, ◌^◌, ◌==◌, Bool, true, false, nat_lt, ℤ, pos, List, [], ◌∷◌, length, take, drop, slice_get, Option, Some, None, Result, Ok, Err, if◌then◌else◌}
use Rattle.std.specs.List.{list_any}
use Rattle.std.specs.Option.{option_and_then, option_map}
use Rattle.mo_types.specs.Gives.{◌>>=◌}
use Rattle.image_read.specs.Meaning.{base_of, long_in}
use Rattle.dyld_ops.specs.Image.{addresses_of}
use Rattle.dyld_ops.specs.declared.fixup.OpAct.{OpAct}
use Rattle.dyld_ops.specs.declared.fixup.OpAct.TheVariants as act
use Rattle.dyld_ops.specs.declared.fixup.OpFixup.{OpFixup}
use Rattle.dyld_ops.specs.declared.fixup.OpsFault.{OpsFault}
use Rattle.dyld_ops.specs.declared.fixup.OpsFault.TheVariants.{Broken, OutOfMemory}
use Rattle.dyld_ops.specs.declared.machine.Machine.{Machine}
use Rattle.dyld_ops.specs.declared.machine.Place.{Place}
use Rattle.dyld_ops.specs.declared.op.Op.{Op}
use Rattle.dyld_ops.specs.declared.op.Op.TheVariants.{Done, Pointers, Segment, Forward, Rebase, Ordinal, Name, Addend, Bind}

-- faults that the definitions give: all but want of memory
abbrev pub IsFault : OpsFault → Type 0
IsFault (Broken place) = Unit {0}
IsFault OutOfMemory = ⊥

-- the fault of the opcode at a place
abbrev pub broken_at : ℕ → OpsFault
broken_at at = Broken at

-- what the opcode at a place needs
abbrev pub known : {A : Type 0} → ℕ → Option A → Result A OpsFault
known at None = Err (broken_at at)
known at (Some x) = Ok x

-- a machine before the first opcode of a table
abbrev pub fresh : List OpFixup → Machine
fresh fixups = record { segment = None; offset = 0; ordinal = None; name = None; optional = false; addend = pos 0; fixups = fixups }

-- the address of the place
abbrev pub address_of : List ℕ → Machine → Option ℕ
address_of image m =
    option_and_then (λ index. option_map (λ address. (address + m.offset) % 2 ^ 64) (slice_get (addresses_of image) index)) m.segment

-- the place, so many bytes behind
abbrev pub forward : ℕ → Machine → Machine
forward count m = record m { offset = (m.offset + count) % 2 ^ 64 }

-- among fixups by address, one more
abbrev pub with_fixup : OpFixup → List OpFixup → List OpFixup
with_fixup new [] = new ∷ []
with_fixup new (old ∷ rest) = if nat_lt new.address old.address then new ∷ old ∷ rest else old ∷ with_fixup new rest

-- A pointer that is rebased: its offset is the word that stands there less the address of the image's header.
abbrev pub rebase_of : List ℕ → ℕ → Option OpAct
rebase_of image word = option_map (λ base. act.Rebase ((word + (2 ^ 64 - base)) % 2 ^ 64)) (base_of image)

-- a pointer that is bound
abbrev pub bind_of : Machine → Option OpAct
bind_of m =
    option_and_then (λ name. option_map (λ ordinal. act.Bind name ordinal m.addend m.optional) m.ordinal) m.name

-- the address of the place, whose 8 bytes lie in memory, and the word that they are
abbrev pub place_of : List ℕ → ℕ → Machine → Result Place OpsFault
place_of image at m = do
  address ← known at (address_of image m)
  word ← known at (long_in image address)
  Ok (record { address = address; word = word })

-- An address is fixed that isn't fixed yet, and the place goes on behind it.
abbrev pub fixed_with : ℕ → ℕ → Machine → OpAct → Result Machine OpsFault
fixed_with at address m act =
    if list_any (λ fixup. fixup.address == address) m.fixups then Err (broken_at at)
    else Ok (forward 8 (record m { fixups = with_fixup (record { address = address; act = act }) m.fixups }))

abbrev pub fixed : List ℕ → ℕ → Machine → (ℕ → Option OpAct) → Result Machine OpsFault
fixed image at m act_of =
    place_of image at m >>= λ place. known at (act_of place.word) >>= λ act. fixed_with at place.address m act

-- pointers one behind the other
unfoldable pub rebased : List ℕ → ℕ → ℕ → Machine → Result Machine OpsFault
rebased image at zero m = Ok m
rebased image at (suc count) m = fixed image at m (rebase_of image) >>= rebased image at count

-- a segment that is there, by the addresses of all
abbrev pub in_segment : List ℕ → ℕ → ℕ → ℕ → Machine → Result Machine OpsFault
in_segment addresses at index offset m =
    if nat_lt index (length addresses) then Ok (record m { segment = Some index; offset = offset }) else Err (broken_at at)

-- the machine after the opcode at a place, which is at fault where the opcode can't be followed
abbrev pub after : List ℕ → ℕ → Op → Machine → Result Machine OpsFault
after image at Done m = Ok m
after image at Pointers m = Ok m
after image at (Segment index offset) m = in_segment (addresses_of image) at index offset m
after image at (Forward count) m = Ok (forward count m)
after image at (Rebase count) m = rebased image at count m
after image at (Ordinal ordinal) m = Ok (record m { ordinal = Some ordinal })
after image at (Name from size optional) m = Ok (record m { name = Some (take size (drop from image)); optional = optional })
after image at (Addend addend) m = Ok (record m { addend = addend })
after image at Bind m = fixed image at m (λ word. bind_of m)
