-- A binary dynamic library (`loader.h`): what its load commands say of it, and the exports of its trie.
use Rattle.std.specs.Prelude.{ℕ, ◌≡◌, ◌+◌, ◌^◌, ◌<◌, ◌≤◌, List, [], length, take, drop, nat_lt, Option, Some, None, Result, Ok, Err, if◌then◌else◌}
use Rattle.mo_types.specs.declared.cause.Which.TheVariants.{Symbols}
use Rattle.dylib_read.specs.Faults.{IsDylibFault}
use Rattle.dylib_read.specs.Head.{head_of}
use Rattle.dylib_read.specs.Trie.{AreExports, IsFaultOf, IsWhole}
use Rattle.dylib_read.specs.declared.dylib.Dylib.{Dylib}
use Rattle.dylib_read.specs.declared.fault.DylibFault.{DylibFault}
use Rattle.dylib_read.specs.declared.fault.DylibFault.TheVariants.{Malformed, Limit}
use Rattle.dylib_read.specs.declared.fault.DylibFault.TheVariants as fault
use Rattle.dylib_read.specs.declared.fault.DylibRule.TheVariants.{Trie}
use Rattle.dylib_read.specs.declared.head.DylibHead.{DylibHead}
use Rattle.dylib_read.specs.declared.head.TrieRange.{TrieRange}
use Rattle.dylib_read.specs.declared.trie.DylibExport.{DylibExport}
use Rattle.dylib_read.specs.declared.trie_fault.TrieFault.{TrieFault}
use Rattle.dylib_read.specs.declared.trie_fault.TrieFault.TheVariants.{Broken, OutOfMemory}

-- the bytes of the trie, or None where it doesn't lie in the file; no command, no bytes
unfoldable pub trie_of : List ℕ → Option TrieRange → Option (List ℕ)
trie_of bytes None = Some []
trie_of bytes (Some range) =
    if nat_lt (length bytes) (range.offset + range.size) then None else Some (take range.size (drop range.offset bytes))

-- the trie's offset in the file
unfoldable pub place_of : Option TrieRange → ℕ
place_of None = 0
place_of (Some range) = range.offset

-- how a fault of the trie at a place is told of
abbrev pub fault_of : TrieFault → ℕ → DylibFault
fault_of Broken place = Malformed place Trie
fault_of OutOfMemory place = fault.OutOfMemory

-- The exports of the trie that a file has at a range; or that it lies outside, breaks a rule, or has too many exports.
pub data IsExporting (bytes : List ℕ) (range : Option TrieRange) (result : Result (List DylibExport) DylibFault) : Type 0 where
  outside : trie_of bytes range ≡ None → result ≡ Err (Malformed (place_of range) Trie) → IsExporting bytes range result
  broken : (trie : List ℕ) → (fault : TrieFault) → trie_of bytes range ≡ Some trie → IsFaultOf trie fault → result ≡ Err (fault_of fault (place_of range)) → IsExporting bytes range result
  many : (trie : List ℕ) → (exports : List DylibExport) → trie_of bytes range ≡ Some trie → IsWhole trie → AreExports trie exports → 2 ^ 24 ≤ length exports → result ≡ Err (Limit Symbols) → IsExporting bytes range result
  exported : (trie : List ℕ) → (exports : List DylibExport) → trie_of bytes range ≡ Some trie → IsWhole trie → AreExports trie exports → length exports < 2 ^ 24 → result ≡ Ok exports → IsExporting bytes range result

abbrev pub dylib_of : DylibHead → List DylibExport → Dylib
dylib_of head exports = record {
  install = head.install;
  current = head.current;
  compatible = head.compatible;
  reexports = head.reexports;
  exports = exports;
}

-- The library that a file is, or its first fault: one of the commands, and then one of the trie.
pub data IsDylib (bytes : List ℕ) (result : Result Dylib DylibFault) : Type 0 where
  refused : (fault : DylibFault) → head_of bytes ≡ Err fault → result ≡ Err fault → IsDylib bytes result
  faulty : (head : DylibHead) → (fault : DylibFault) → head_of bytes ≡ Ok head → IsExporting bytes head.trie (Err fault) → result ≡ Err fault → IsDylib bytes result
  read : (head : DylibHead) → (exports : List DylibExport) → head_of bytes ≡ Ok head → IsExporting bytes head.trie (Ok exports) → result ≡ Ok (dylib_of head exports) → IsDylib bytes result

-- What a call answered is what a relation has, but for want of memory.
abbrev pub Answers : {A : Type 0} → (Result A DylibFault → Type 0) → Result A DylibFault → Type 0
Answers has (Ok x) = has (Ok x)
Answers has (Err fault) = IsDylibFault fault → has (Err fault)
