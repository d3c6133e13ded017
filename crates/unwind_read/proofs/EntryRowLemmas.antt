-- The relocations of an entry's fields in a table.
use Rattle.std.proofs.Common.{◌≡◌, ℕ, ◌+◌, ◌*◌, ◌/◌, ◌%◌, length, Bool, true, false, Some, None, is_none, refl, ap, arith, if◌then◌else◌}
use Rattle.std.proofs.lemmas.Bool.{and_parts, eqb-true, false≢true, ne_eqb, not-true}
use Rattle.mo_format.specs.declared.reloc.TheConstants.{ARM64_RELOC_UNSIGNED}
use Rattle.mo_types.specs.declared.object.RawReloc.{RawReloc}
use Rattle.unwind_read.specs.declared.entry_rows.EntryRow.{EntryRow}
use Rattle.unwind_read.specs.declared.entry_rows.Named.{Named}
use Rattle.unwind_read.specs.declared.entry_rows.Named.TheVariants.{Nothing, BySection, BySymbol}
use Rattle.unwind_read.specs.declared.pointers.EntryRelocs.{EntryRelocs}
use Rattle.unwind_read.specs.EntryRows.{is_empty, is_nothing, named_of, pointer_of, relocs_in}
use Rattle.unwind_read.specs.Pointers.{is_pointer, row_with}

-- a pointer is what its number and what it names say

same_reloc : (reloc : RawReloc) (a l k : ℕ) (p x : Bool) → reloc.address ≡ a → reloc.pcrel ≡ p → reloc.length ≡ l → reloc.external ≡ x → reloc.kind ≡ k → record { address = a; number = reloc.number; pcrel = p; length = l; external = x; kind = k } ≡ reloc
same_reloc reloc a l k p x ea ep el ex ek = rw (← ea, ← ep, ← el, ← ex, ← ek) refl

pub pointer_is : (reloc : RawReloc) (a : ℕ) → is_pointer reloc ≡ true → reloc.address ≡ a → pointer_of a reloc.number (named_of reloc) ≡ Some reloc
pointer_is reloc a pointer address =
    let low = and_parts _ _ pointer in
    let whole = and_parts _ _ low.0 in
    let kind = and_parts _ _ whole.0 in
    by reloc.external refl (eqb-true reloc.kind ARM64_RELOC_UNSIGNED kind.0) (eqb-true reloc.length 3 kind.1) (not-true reloc.pcrel whole.1)
  where
    by : (b : Bool) → reloc.external ≡ b → reloc.kind ≡ ARM64_RELOC_UNSIGNED → reloc.length ≡ 3 → reloc.pcrel ≡ false → pointer_of a reloc.number (if b then BySymbol else BySection) ≡ Some reloc
    by true e kind length pcrel = ap Some (same_reloc reloc a 3 ARM64_RELOC_UNSIGNED false true address pcrel length e kind)
    by false e kind length pcrel = ap Some (same_reloc reloc a 3 ARM64_RELOC_UNSIGNED false false address pcrel length e kind)

none_is : (a number : ℕ) (named : Named) → is_none (pointer_of a number named) ≡ is_nothing named
none_is a number Nothing = refl
none_is a number BySection = refl
none_is a number BySymbol = refl

-- the row of an entry that has no relocation

nothing_is : (named : Named) → is_nothing named ≡ true → named ≡ Nothing
nothing_is Nothing e = refl
nothing_is BySection e = absurd (false≢true e)
nothing_is BySymbol e = absurd (false≢true e)

pub empty_row : (i : ℕ) (row : EntryRow) → is_empty row ≡ true → record { function = None; personality = None; lsda = None } ≡ relocs_in i row
unfolding relocs_in
empty_row i row e =
    let both = and_parts _ _ e in
    let first = and_parts _ _ both.0 in
    rw (nothing_is row.function_named first.0, nothing_is row.personality_named first.1, nothing_is row.lsda_named both.1) refl

pub ruleset reads = (empty_row)

-- a row with one more relocation

pub taken_function : (row : EntryRow) (reloc : RawReloc) → reloc.address % 32 ≡ 0 → is_nothing row.function_named ≡ false → None ≡ row_with (relocs_in (reloc.address / 32) row) reloc
unfolding relocs_in
taken_function row reloc field taken = rw (field, none_is (32 * (reloc.address / 32)) row.function row.function_named, taken) refl

pub put_function : (row : EntryRow) (reloc : RawReloc) (named : Named) → is_pointer reloc ≡ true → reloc.address % 32 ≡ 0 → is_nothing row.function_named ≡ true → named ≡ named_of reloc → Some (relocs_in (reloc.address / 32) (record row { function = reloc.number; function_named = named })) ≡ row_with (relocs_in (reloc.address / 32) row) reloc
unfolding relocs_in
put_function row reloc named pointer field free is =
    let address : reloc.address ≡ 32 * (reloc.address / 32) = omega arith in
    rw (field, none_is (32 * (reloc.address / 32)) row.function row.function_named, free, is, pointer_is reloc (32 * (reloc.address / 32)) pointer address) refl

pub ruleset functions = (taken_function, put_function)

pub taken_personality : (row : EntryRow) (reloc : RawReloc) → reloc.address % 32 ≡ 16 → is_nothing row.personality_named ≡ false → None ≡ row_with (relocs_in (reloc.address / 32) row) reloc
unfolding relocs_in
taken_personality row reloc field taken = rw (field, none_is (32 * (reloc.address / 32) + 16) row.personality row.personality_named, taken) refl

pub put_personality : (row : EntryRow) (reloc : RawReloc) (named : Named) → is_pointer reloc ≡ true → reloc.address % 32 ≡ 16 → is_nothing row.personality_named ≡ true → named ≡ named_of reloc → Some (relocs_in (reloc.address / 32) (record row { personality = reloc.number; personality_named = named })) ≡ row_with (relocs_in (reloc.address / 32) row) reloc
unfolding relocs_in
put_personality row reloc named pointer field free is =
    let address : reloc.address ≡ 32 * (reloc.address / 32) + 16 = omega arith in
    rw (field, none_is (32 * (reloc.address / 32) + 16) row.personality row.personality_named, free, is, pointer_is reloc (32 * (reloc.address / 32) + 16) pointer address) refl

pub ruleset personalities = (taken_personality, put_personality)

pub taken_lsda : (row : EntryRow) (reloc : RawReloc) → reloc.address % 32 ≡ 24 → is_nothing row.lsda_named ≡ false → None ≡ row_with (relocs_in (reloc.address / 32) row) reloc
unfolding relocs_in
taken_lsda row reloc field taken = rw (field, none_is (32 * (reloc.address / 32) + 24) row.lsda row.lsda_named, taken) refl

pub put_lsda : (row : EntryRow) (reloc : RawReloc) (named : Named) → is_pointer reloc ≡ true → reloc.address % 32 ≡ 24 → is_nothing row.lsda_named ≡ true → named ≡ named_of reloc → Some (relocs_in (reloc.address / 32) (record row { lsda = reloc.number; lsda_named = named })) ≡ row_with (relocs_in (reloc.address / 32) row) reloc
unfolding relocs_in
put_lsda row reloc named pointer field free is =
    let address : reloc.address ≡ 32 * (reloc.address / 32) + 24 = omega arith in
    rw (field, none_is (32 * (reloc.address / 32) + 24) row.lsda row.lsda_named, free, is, pointer_is reloc (32 * (reloc.address / 32) + 24) pointer address) refl

pub ruleset lsdas = (taken_lsda, put_lsda)

pub no_field : (row : EntryRelocs) (reloc : RawReloc) → (reloc.address % 32 ≡ 0 → ⊥) → (reloc.address % 32 ≡ 16 → ⊥) → (reloc.address % 32 ≡ 24 → ⊥) → None ≡ row_with row reloc
no_field row reloc not_0 not_16 not_24 = rw (ne_eqb (reloc.address % 32) 0 not_0, ne_eqb (reloc.address % 32) 16 not_16, ne_eqb (reloc.address % 32) 24 not_24) refl
