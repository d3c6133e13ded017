-- What there is of the references at indices of a file's list.
use Rattle.std.specs.Prelude.{ℕ, ◌+◌, ◌<◌, ◌^◌, Bool, true, false, IfSome, List, Option, slice_get}
use Rattle.std.specs.Option.{option_and_then, option_to_list}
use Rattle.mo_types.specs.declared.reference.Ref.{Ref}
use Rattle.mo_types.specs.declared.reference.RefKind.{RefKind}
use Rattle.mo_types.specs.declared.reference.RefKind.TheVariants.{Pointer, GotPointer}

unfoldable pub found_at : {A : Type 0} → (Ref → Option A) → List Ref → ℕ → List A
found_at f refs index = option_to_list (option_and_then f (slice_get refs index))

-- the field of the reference at an index, in an atom at an address, has an address of 64 bits
abbrev pub IsLowAt : ℕ → List Ref → ℕ → Type 0
IsLowAt address refs index = IfSome (slice_get refs index) (λ r. address + r.place < 2 ^ 64)

-- the kinds of pointers
abbrev pub is_pointer : RefKind → Bool
is_pointer Pointer = true
is_pointer GotPointer = true
is_pointer _ = false
