-- How the code meets all requests.
use Rattle.std.specs.Prelude.{ℕ, ◌≤◌, List, length, Option, Result, IfOk}
use Rattle.file_cache.specs.Kept.{FilesSeen}
use Rattle.file_cache.specs.Runs.{Runs}
use Rattle.mo_outside.specs.Answers.{Answer}
use Rattle.lib_bind.specs.Closing.{IsBindFault}
use Rattle.lib_bind.specs.Closure.{after}
use Rattle.lib_bind.specs.declared.bind_fault.BindFault.{BindFault}
use Rattle.lib_bind.specs.declared.closing.Closing.{Closing}

-- after some number of requests there is a fault, or none is left
pub record IsClosing {S : Type 0} (fetches : S → List ℕ → Answer → S → Type 0) (root : Option (List ℕ)) (heads : List (List ℕ × ℕ))
    (start : Closing) (result : Result Closing BindFault) (old new : FilesSeen S) : Type 0 where
  pub count : ℕ
  pub runs : Runs fetches IsBindFault (after root heads count start) result old new
  pub done : IfOk result (λ closing. length closing.work ≤ count)
