-- Fields of patched bytes in memory.
use Rattle.std.proofs.Common.{◌≡◌, ℕ, ◌+◌, ◌≤◌, ◌^◌, List, get_or, length, Some, arith}
use Rattle.std.specs.Prelude.{All}
use Rattle.mo_bytes.specs.Number.{number}
use Rattle.mo_types.specs.Rows.{field_size}
use Rattle.mo_types.specs.declared.reference.RefKind.{RefKind}
use Rattle.mo_types.specs.declared.reference.RefKind.TheVariants.{Diff64, GotPointer, Pointer}
use Rattle.patch.specs.Patched.{AreFields, ArePatched, size_of}
use Rattle.patch.specs.declared.met.Met.{Met}
use Rattle.patch.proofs.ReadingLemmas.{read_back}
use Rattle.field_laws.specs.Memory.{AreInMemory, Holds, number_in}
use Rattle.field_laws.proofs.Numbers.{long_there, word_there}

pub number_there : (kind : RefKind) (image bytes : List ℕ) (address place : ℕ) → AreInMemory image address bytes → place + field_size kind ≤ length bytes → address + place + field_size kind ≤ 2 ^ 64 → number_in kind image (address + place) ≡ Some (number (field_size kind) bytes place)
number_there Pointer image bytes address place there room low = long_there image bytes address place there room low
number_there GotPointer image bytes address place there room low = long_there image bytes address place there room low
number_there Diff64 image bytes address place there room low = long_there image bytes address place there room low
number_there _ image bytes address place there room low = word_there image bytes address place there room low

pub fields_hold : (image : List ℕ) (address : ℕ) (mets : List Met) (old new : List ℕ) → AreFields address (length old) mets → ArePatched address mets old new → AreInMemory image address new → All (λ met. Holds image (address + met.place) met) mets
fields_hold image address mets old new fields patched there k d low =
    let met : Met = get_or mets k d in
    let within : met.place + size_of met ≤ length old = fields.within k d low in
    let size = patched.size in
    let addresses = fields.addresses in
    record {
      number = number (size_of met) new met.place;
      there = number_there met.kind image new address met.place there (omega arith) (omega arith);
      tells = read_back address mets old new patched k d low;
    }
