-- The exit status of the program.
use Rattle.std.specs.Prelude.{ℕ, ◌≡◌, Result}
use Rattle.mo_types.specs.Answer.{code_of}
use Rattle.mo_types.specs.declared.answer.Status.{Status}
use Rattle.link_engine.specs.declared.plan.Plan.{Plan}
use Rattle.link_engine.specs.Settles.{OutputSeen, Settles}
use Rattle.link_engine.specs.declared.stop.Stop.{Stop}

-- the exit status is that of an answer that agrees with the verdict, as what was written and told does
pub record Exits (is : Result Plan Stop → Type 0) (code : ℕ) (old new : OutputSeen) : Type 0 where
  pub status : Status
  pub exits : code ≡ code_of status
  pub settles : Settles is status old new
