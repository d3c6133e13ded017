-- The trie of a library, and what is read of it.
use Rattle.std.proofs.Common.{◌≡◌, ℕ, ◌+◌, ◌≤◌, List, length, take, drop, Some, Result, Ok, Err, refl, ap, subst}
use Rattle.std.proofs.lemmas.Bool.{le-ltb}
use Rattle.dylib_read.specs.declared.head.TrieRange.{TrieRange}
use Rattle.mo_types.specs.Gives.{Gives}
use Rattle.dylib_read.specs.declared.dylib.Dylib.{Dylib}
use Rattle.dylib_read.specs.declared.fault.DylibFault.{DylibFault}
use Rattle.dylib_read.specs.declared.head.DylibHead.{DylibHead}
use Rattle.dylib_read.specs.declared.trie.DylibExport.{DylibExport}
use Rattle.dylib_read.specs.Faults.{IsDylibFault}
use Rattle.dylib_read.specs.Head.{head_of}
use Rattle.dylib_read.specs.Dylib.{Answers, IsDylib, IsExporting, dylib_of, faulty, read, refused, trie_of}

pub trie_inside : (bytes trie : List ℕ) (range : TrieRange) (n : ℕ) → range.offset + range.size ≤ length bytes → n ≡ range.size → take n (drop range.offset bytes) ≡ trie → Some trie ≡ trie_of bytes (Some range)
unfolding trie_of
trie_inside bytes trie range n within size is = rw (le-ltb (length bytes) (range.offset + range.size) within, ← is, size) refl

pub ruleset tries = (trie_inside)

-- ---- the answers of the two calls

pub head_refused : (bytes : List ℕ) (fault : DylibFault) (result : Result Dylib DylibFault) → Gives IsDylibFault (Err fault) (head_of bytes) → result ≡ Err fault → Answers (IsDylib bytes) result
head_refused bytes fault result given is = rw is (λ real. refused fault (given real) refl)

pub exports_faulty : (bytes now : List ℕ) (head : DylibHead) (fault : DylibFault) (result : Result Dylib DylibFault) → Gives IsDylibFault (Ok head) (head_of bytes) → now ≡ bytes → Answers (IsExporting now head.trie) (Err fault) → result ≡ Err fault → Answers (IsDylib bytes) result
exports_faulty bytes now head fault result given same answers is =
    rw is (λ real. faulty head fault given (subst (λ (bs : List ℕ). IsExporting bs head.trie (Err fault)) same (answers real)) refl)

pub all_read : (bytes now : List ℕ) (head : DylibHead) (exports : List DylibExport) (result : Dylib) → Gives IsDylibFault (Ok head) (head_of bytes) → now ≡ bytes → IsExporting now head.trie (Ok exports) → result ≡ dylib_of head exports → IsDylib bytes (Ok result)
all_read bytes now head exports result given same are is =
    read head exports given (subst (λ (bs : List ℕ). IsExporting bs head.trie (Ok exports)) same are) (ap Ok is)
