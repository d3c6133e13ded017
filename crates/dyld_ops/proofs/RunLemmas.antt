-- The run of a table, step by step.
use Rattle.std.proofs.Common.{◌≡◌, ℕ, suc, ◌+◌, ◌-◌, ◌<◌, ◌≤◌, List, [], length, Option, Some, None, Result, Ok, Err, refl, sym, ◌∙◌, arith}
use Rattle.dyld_ops.specs.Image.{info_of}
use Rattle.dyld_ops.specs.Machine.{IsFault, fresh}
use Rattle.dyld_ops.specs.Runs.{Answers, OpsAt, OpsBy, Runs, RunsBoth, RunsOn, RunsTable, step, stops, breaks, goes, outside, inside, broke, ran}
use Rattle.dyld_ops.specs.inner.Leaves.{Steps}
use Rattle.dyld_ops.specs.declared.fixup.OpFixup.{OpFixup}
use Rattle.dyld_ops.specs.declared.fixup.OpsFault.{OpsFault}
use Rattle.dyld_ops.specs.declared.fixup.OpsFault.TheVariants.{Broken}
use Rattle.dyld_ops.specs.declared.info.DyldInfo.{DyldInfo}
use Rattle.dyld_ops.specs.declared.info.Part.{Part}
use Rattle.dyld_ops.specs.declared.machine.Machine.{Machine}
use Rattle.dyld_ops.specs.declared.op.Table.{Table}
use Rattle.dyld_ops.specs.declared.op.Table.TheVariants.{Rebases, Binds}

-- what a machine comes to from here, the first one comes to
pub record IsRunning (image : List ℕ) (kind : Table) (end from : ℕ) (first : Machine) (at : ℕ) (m : Machine) : Type 0 where
  pub on : (result : Result (List OpFixup) OpsFault) → Runs image kind end at m result → Runs image kind end from first result

pub run_starts : (image : List ℕ) (kind : Table) (end at : ℕ) (m : Machine) → IsRunning image kind end at m at m
run_starts image kind end at m = record { on = λ result runs. runs }

pub run_goes_on : (image : List ℕ) (kind : Table) (end from : ℕ) (first : Machine) (at next : ℕ) (m new : Machine) → IsRunning image kind end from first at m → step image kind end at m ≡ Ok (Some (next, new)) → IsRunning image kind end from first next new
run_goes_on image kind end from first at next m new running is =
    record { on = λ result rest. running.on result (goes next new is rest) }

pub run_stops : (image : List ℕ) (kind : Table) (part : Part) (fixups : List OpFixup) (at : ℕ) (m : Machine) → part.at + part.size ≤ length image → IsRunning image kind (part.at + part.size) part.at (fresh fixups) at m → step image kind (part.at + part.size) at m ≡ Ok None → RunsTable image kind part fixups (Ok m.fixups)
run_stops image kind part fixups at m within running is = inside within (running.on (Ok m.fixups) (stops is refl))

-- a step that goes nowhere
pub no_step : (found : Option ℕ) (old new : Machine) (given : Result (Option (ℕ × Machine)) OpsFault) → Steps (Ok found) old new given → ((next : ℕ) → found ≡ Some next → ⊥) → (given ≡ Ok None) × (new ≡ old)
no_step None old new given steps not = steps
no_step (Some next) old new given steps not = absurd (not next refl)

pub run_breaks : (image : List ℕ) (kind : Table) (part : Part) (fixups : List OpFixup) (at : ℕ) (m : Machine) (fault : OpsFault) → part.at + part.size ≤ length image → IsRunning image kind (part.at + part.size) part.at (fresh fixups) at m → step image kind (part.at + part.size) at m ≡ Err fault → RunsTable image kind part fixups (Err fault)
run_breaks image kind part fixups at m fault within running is = inside within (running.on (Err fault) (breaks fault is refl))

pub run_outside : (image : List ℕ) (kind : Table) (part : Part) (fixups : List OpFixup) → length image < part.at + part.size → RunsTable image kind part fixups (Err (Broken 0))
run_outside image kind part fixups past = outside past refl

pub ruleset runs = (run_starts, run_goes_on, run_stops, run_breaks, run_outside)

-- both tables
pub both_ran : (image : List ℕ) (info : DyldInfo) (rebased fixups : List OpFixup) → info_of image ≡ Ok (Some info) → RunsTable image Rebases info.rebases [] (Ok rebased) → RunsTable image Binds info.binds rebased (Ok fixups) → OpsAt image (Ok fixups)
both_ran image info rebased fixups is rebases binds =
    rw is (record { rebased = Ok rebased; rebases = rebases; binds = ran rebased refl binds })

pub binds_broke : (image : List ℕ) (info : DyldInfo) (rebased : List OpFixup) (fault : OpsFault) → info_of image ≡ Ok (Some info) → RunsTable image Rebases info.rebases [] (Ok rebased) → RunsTable image Binds info.binds rebased (Err fault) → OpsAt image (Err fault)
binds_broke image info rebased fault is rebases binds =
    rw is (record { rebased = Ok rebased; rebases = rebases; binds = ran rebased refl binds })

pub rebases_broke : (image : List ℕ) (info : DyldInfo) (fault : OpsFault) → info_of image ≡ Ok (Some info) → RunsTable image Rebases info.rebases [] (Err fault) → OpsAt image (Err fault)
rebases_broke image info fault is rebases = rw is (record { rebased = Err fault; rebases = rebases; binds = broke fault refl refl })

pub ruleset boths = (both_ran, binds_broke, rebases_broke)
