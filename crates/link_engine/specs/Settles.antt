-- How a link ends, against its verdict.
use Rattle.std.specs.Prelude.{ℕ, ◌≡◌, ◌⊎◌, List, [], slice_get, Option, Some, Result, Ok, Err}
use Rattle.mo_outside.specs.Faults.{Rises}
use Rattle.mo_outside.specs.Log.{OutCall}
use Rattle.mo_outside.specs.Tells.{Appends, AppendsSome, Stays, Tells}
use Rattle.mo_outside.specs.Written.{Written}
use Rattle.mo_types.specs.Message.{line_of}
use Rattle.mo_types.specs.declared.answer.Status.{Status}
use Rattle.mo_types.specs.declared.answer.Status.TheVariants.{Done, WriteFault, OutOfMemory}
use Rattle.link_engine.specs.declared.plan.Plan.{Plan}
use Rattle.link_engine.specs.declared.stop.Stop.{Stop}
use Rattle.link_engine.specs.Kept.{IsStop}
use Rattle.link_engine.specs.Stop.{status_of}
use Rattle.link_engine.specs.Writing.{AreCallsUpTo, AreFilesCalls, Hands, WritesAll, WritesUpTo}

-- The answer is given only where the cause stands. Where it stands the answer is given, unless memory ran out.
pub record ExactlyWhere (cause : Type 0) (answer status : Status) : Type 0 where
  pub only : status ≡ answer → cause
  pub always : cause → (status ≡ answer) ⊎ (status ≡ OutOfMemory)

-- What the output and the messages say of themselves before or after: what was written, by which calls, and which lines
-- were put, where they tell these, and how many faults there were of each.
pub record OutputSeen : Type 0 where
  pub files : Option (List Written)
  pub calls : Option (List OutCall)
  pub lines : Option (List ℕ)
  pub out_faults : ℕ
  pub diag_faults : ℕ

abbrev pub output_seen : {O D : Type 0} → (O → Option (List Written)) → (O → Option (List OutCall)) → (O → ℕ)
    → (D → Option (List ℕ)) → (D → ℕ) → O → D → OutputSeen
output_seen files calls out_faults lines diag_faults out diag = record {
  files = files out;
  calls = calls out;
  lines = lines diag;
  out_faults = out_faults out;
  diag_faults = diag_faults diag;
}

-- a line was put, or some first bytes of it, all of them where no fault of the messages was counted
pub record Says (line : List ℕ) (quiet : Type 0) (old new : Option (List ℕ)) : Type 0 where
  pub whole : quiet → Tells (Appends line) old new
  pub prefix : Tells (AppendsSome line) old new

abbrev pub SaysIn : List ℕ → OutputSeen → OutputSeen → Type 0
SaysIn line old new = Says line (¬ Rises old.diag_faults new.diag_faults) old.lines new.lines

-- nothing was written, and the line of an answer was put
pub record Stopped (status : Status) (old new : OutputSeen) : Type 0 where
  pub files : Tells Stays old.files new.files
  pub calls : Tells Stays old.calls new.calls
  pub says : SaysIn (line_of [] status) old new

-- all files of a plan were written, and its line was put
pub record Carries (plan : Plan) (old new : OutputSeen) : Type 0 where
  pub files : Tells (WritesAll plan.files) old.files new.files
  pub calls : Tells (Hands (AreFilesCalls plan.files)) old.calls new.calls
  pub says : SaysIn plan.line old new

-- the files of a plan were written up to one, of which a part was written perhaps, and whose path was told
pub record CarriesPart (plan : Plan) (old new : OutputSeen) : Type 0 where
  pub number : ℕ
  pub file : List ℕ × List ℕ
  pub there : slice_get plan.files number ≡ Some file
  pub files : Tells (WritesUpTo plan.files number) old.files new.files
  pub calls : Tells (Hands (AreCallsUpTo plan.files number)) old.calls new.calls
  pub says : SaysIn (line_of file.0 WriteFault) old new

-- An answer, and what was written, against the verdict: it is a stop exactly where the verdict is, but for want of memory;
-- all of the plan was written exactly where there is one, but for want of memory and a fault of the output that was counted;
-- and where the answer is a stop or want of memory, nothing was begun, and its own line was put.
pub record Settles (is : Result Plan Stop → Type 0) (status : Status) (old new : OutputSeen) : Type 0 where
  pub stops : (stop : Stop) → ExactlyWhere (is (Err stop)) (status_of stop) status
  pub plans : (plan : Plan) → is (Ok plan) → (status ≡ Done) ⊎ ((status ≡ OutOfMemory) ⊎ Rises old.out_faults new.out_faults)
  pub done : status ≡ Done → (plan : Plan) × is (Ok plan) × Carries plan old new
  pub part : status ≡ WriteFault → (plan : Plan) × is (Ok plan) × CarriesPart plan old new
  pub stopped : IsStop status → Stopped status old new

-- What an answer leaves open: where there is a plan and no fault of the output was counted, all of it was written, or memory
-- ran out; where there is a stop, that is the answer, or memory ran out.
pub record IsComplete (is : Result Plan Stop → Type 0) (status : Status) (old new : OutputSeen) : Type 0 where
  pub built : (plan : Plan) → is (Ok plan) → ¬ Rises old.out_faults new.out_faults → ((status ≡ Done) × Carries plan old new) ⊎ (status ≡ OutOfMemory)
  pub stopped : (stop : Stop) → is (Err stop) → ((status ≡ status_of stop) × Stopped status old new) ⊎ (status ≡ OutOfMemory)
