-- The table of symbols.
use Rattle.std.proofs.Common.{◌≡◌, ℕ, zero, suc, ◌+◌, ◌≤◌, List, ◌∷◌, length, Result, Ok, Err, refl, ap, ◌∙◌}
use Rattle.std.specs.Result.{IsErrAnd}
use Rattle.std.proofs.lemmas.Result.{err_from_is_err_and}
use Rattle.mo_types.specs.Gives.{Gives, ◌>>=◌, each_from}
use Rattle.mo_types.proofs.Each.{IsReading, has_read, table_loop}
use Rattle.mo_types.specs.declared.object_fault.ObjFault.{ObjFault}
use Rattle.mo_obj.specs.Faults.{IsObjFault}
use Rattle.mo_obj.proofs.TableLemmas.{each}

gives_fault : {A : Type 0} (given : Result A ObjFault) (returned : Result A ObjFault) (e : ObjFault) → returned ≡ Err e → (IsObjFault e → given ≡ Err e) → Gives IsObjFault returned given
gives_fault given returned e is known = rw is known

pub fault_passed : {A : Type 0} (given returned : Result A ObjFault) (e : ObjFault) → IsErrAnd returned (λ y. y ≡ e) → (IsObjFault e → given ≡ Err e) → Gives IsObjFault returned given
fault_passed given returned e is known =
    let p = err_from_is_err_and returned is in
    gives_fault given returned e (p.1 ∙ ap Err p.2) known

-- what is read at n places has n elements
abbrev HasLength : {A E : Type 0} → ℕ → Result (List A) E → Type 0
HasLength n (Ok xs) = length xs ≡ n
HasLength n (Err e) = Unit {0}

one_longer : {A E : Type 0} (x : A) (n : ℕ) (read : Result (List A) E) → HasLength n read → HasLength (suc n) (read >>= λ xs. Ok (x ∷ xs))
one_longer x n (Ok xs) has = ap suc has
one_longer x n (Err e) has = tt

longer : {A E : Type 0} (n : ℕ) (first : Result A E) (read : Result (List A) E) → HasLength n read → HasLength (suc n) (first >>= λ x. read >>= λ xs. Ok (x ∷ xs))
longer n (Ok x) read has = one_longer x n read has
longer n (Err e) read has = tt

each_length : {A E : Type 0} (value : ℕ → Result A E) (at n : ℕ) → HasLength n (each_from value at n)
each_length value at zero = refl
each_length value at (suc n) = longer n (value at) (each_from value (at + 1) n) (each_length value (at + 1) n)

length_if_ok : {A E : Type 0} (n : ℕ) (read : Result (List A) E) (xs : List A) → HasLength n read → read ≡ Ok xs → length xs ≡ n
length_if_ok n (Ok ys) xs has e = cc
length_if_ok n (Err f) xs has e = cc

pub all_read : {A E : Type 0} (value : ℕ → Result A E) (n at : ℕ) (front : List A) → IsReading value n at front → n ≤ at → length front ≡ n
all_read value n at front reading past =
    length_if_ok n (each_from value 0 n) front (each_length value 0 n) (has_read value n at front reading past)

pub ruleset reads = (table_loop, each, all_read)
