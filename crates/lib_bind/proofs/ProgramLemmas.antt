-- Programs that are put together, and what holds of their ends.
use Rattle.std.proofs.Common.{◌≡◌, ℕ, List, Some, None, Result, Ok, Err, IfOk, refl, ap, subst}
use Rattle.mo_outside.specs.Answers.{Answer}
use Rattle.mo_types.specs.Gives.{Gives}
use Rattle.file_cache.specs.Kept.{FilesSeen}
use Rattle.file_cache.specs.Program.{File, There, Absent, Unread, Program, ◌>>=◌, and_then, ends, read_as}
use Rattle.file_cache.specs.Runs.{Runs}
use Rattle.file_cache.proofs.RunLemmas.{none_run, then_run}

module _ {A B E : Type 0} (first : Program A E) (next : A → Program B E) (look : List ℕ → File) where
  -- what holds of all that is made of a value holds of the end
  pub end_made : (Q : B → Type 0) → ((x : A) → (first look).end ≡ Ok x → IfOk (next x look).end Q) → IfOk ((first >>= next) look).end Q
  end_made Q made = by (first look).end refl
    where
      by : (r : Result A E) → (first look).end ≡ r → IfOk (and_then (first look).tried r (λ x. next x look)).end Q
      by (Ok x) is = made x is
      by (Err why) is = tt

  pub end_holds : (P : A → Type 0) (Q : B → Type 0) → IfOk (first look).end P → ((x : A) → P x → IfOk (next x look).end Q) → IfOk ((first >>= next) look).end Q
  end_holds P Q holds then = end_made Q (λ x is. then x (subst (λ (r : Result A E). IfOk r P) is holds))

-- what is returned holds what is given
pub gives_holds : {A E : Type 0} (real : E → Type 0) (P : A → Type 0) (result given : Result A E) → Gives real result given → IfOk given P → IfOk result P
gives_holds real P (Ok x) given is holds = subst (λ r. IfOk r P) is holds
gives_holds real P (Err why) given is holds = tt

-- after a run something is made of its value, without files
pub made_run : {S A B E : Type 0} (fetches : S → List ℕ → Answer → S → Type 0) (real : E → Type 0) (program : Program A E) (next : A → Result B E) (x : A) (result : Result B E) (old new : FilesSeen S)
    → Runs fetches real program (Ok x) old new → Gives real result (next x) → Runs fetches real (program >>= λ y. ends (next y)) result old new
made_run fetches real program next x result old new first gives =
    then_run fetches real program (λ y. ends (next y)) x result old new new first (none_run fetches real result (next x) new gives)

-- ---- what stands under a path

pub there_is : {E : Type 0} (why : E) (stands : File) (bytes : List ℕ) → read_as why stands ≡ Ok (Some bytes) → stands ≡ There bytes
there_is why (There other) bytes is = ap There (same other bytes is)
  where
    same : (a b : List ℕ) → read_as why (There a) ≡ Ok (Some b) → a ≡ b
    same a b h = cc
there_is why Absent bytes is = absurd cc
there_is why Unread bytes is = absurd cc

pub absent_is : {E : Type 0} (why : E) (stands : File) → read_as why stands ≡ Ok None → stands ≡ Absent
absent_is why (There other) is = absurd cc
absent_is why Absent is = refl
absent_is why Unread is = absurd cc
