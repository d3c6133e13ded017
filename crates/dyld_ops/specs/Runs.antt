-- The run of the tables of an image: from one opcode to the next, until a table ends or an opcode is at fault.
use Rattle.std.specs.Prelude.{ℕ, ◌+◌, ◌≡◌, Bool, true, false, ◌<◌, ◌≤◌, nat_le, List, [], length, take, Option, Some, None, Result, Ok, Err, if◌then◌else◌}
use Rattle.mo_types.specs.Gives.{◌>>=◌}
use Rattle.dyld_ops.specs.Image.{info_of}
use Rattle.dyld_ops.specs.Machine.{IsFault, after, fresh, known}
use Rattle.dyld_ops.specs.Opcodes.{op_at}
use Rattle.dyld_ops.specs.declared.fixup.OpFixup.{OpFixup}
use Rattle.dyld_ops.specs.declared.fixup.OpsFault.{OpsFault}
use Rattle.dyld_ops.specs.declared.fixup.OpsFault.TheVariants.{Broken}
use Rattle.dyld_ops.specs.declared.info.DyldInfo.{DyldInfo}
use Rattle.dyld_ops.specs.declared.info.Part.{Part}
use Rattle.dyld_ops.specs.declared.machine.Machine.{Machine}
use Rattle.dyld_ops.specs.declared.op.Decoded.{Decoded}
use Rattle.dyld_ops.specs.declared.op.Op.{Op}
use Rattle.dyld_ops.specs.declared.op.Op.TheVariants.{Done}
use Rattle.dyld_ops.specs.declared.op.Table.{Table}
use Rattle.dyld_ops.specs.declared.op.Table.TheVariants.{Rebases, Binds}

abbrev pub is_done : Op → Bool
is_done Done = true
is_done _ = false

-- where a machine goes on, and as what
abbrev pub gone_on : ℕ → Machine → Option (ℕ × Machine)
gone_on next m = Some (next, m)

-- what the opcode at a place does: nothing more where the table ends, and else it leaves a machine at the next place
abbrev pub obeyed : List ℕ → ℕ → Machine → Decoded → Result (Option (ℕ × Machine)) OpsFault
obeyed image at m found =
    if is_done found.op then Ok None else after image at found.op m >>= λ new. Ok (gone_on found.next new)

-- the step from a place of the table that ends at `end`
unfoldable pub step : List ℕ → Table → ℕ → ℕ → Machine → Result (Option (ℕ × Machine)) OpsFault
step image kind end at m =
    if nat_le end at then Ok None else known at (op_at kind (take end image) at) >>= obeyed image at m

-- A machine at a place of a table comes to fixups, or to the first opcode at fault.
pub data Runs (image : List ℕ) (kind : Table) (end : ℕ) : ℕ → Machine → Result (List OpFixup) OpsFault → Type 0 where
  stops : {at : ℕ} {m : Machine} {result : Result (List OpFixup) OpsFault} → step image kind end at m ≡ Ok None → result ≡ Ok m.fixups → Runs image kind end at m result
  breaks : {at : ℕ} {m : Machine} {result : Result (List OpFixup) OpsFault} → (fault : OpsFault) → step image kind end at m ≡ Err fault → result ≡ Err fault → Runs image kind end at m result
  goes : {at : ℕ} {m : Machine} {result : Result (List OpFixup) OpsFault} → (next : ℕ) → (new : Machine) → step image kind end at m ≡ Ok (Some (next, new)) → Runs image kind end next new result → Runs image kind end at m result

-- the run of a table over what is fixed already; a table that doesn't lie in the file is at fault, at place 0
pub data RunsTable (image : List ℕ) (kind : Table) (part : Part) (fixups : List OpFixup) (result : Result (List OpFixup) OpsFault) : Type 0 where
  outside : length image < part.at + part.size → result ≡ Err (Broken 0) → RunsTable image kind part fixups result
  inside : part.at + part.size ≤ length image → Runs image kind (part.at + part.size) part.at (fresh fixups) result → RunsTable image kind part fixups result

-- the run of the binds, after that of the rebases
pub data RunsOn (image : List ℕ) (info : DyldInfo) (result : Result (List OpFixup) OpsFault) : Result (List OpFixup) OpsFault → Type 0 where
  broke : {rebased : Result (List OpFixup) OpsFault} → (fault : OpsFault) → rebased ≡ Err fault → result ≡ Err fault → RunsOn image info result rebased
  ran : {rebased : Result (List OpFixup) OpsFault} → (fixups : List OpFixup) → rebased ≡ Ok fixups → RunsTable image Binds info.binds fixups result → RunsOn image info result rebased

pub record RunsBoth (image : List ℕ) (info : DyldInfo) (result : Result (List OpFixup) OpsFault) : Type 0 where
  pub rebased : Result (List OpFixup) OpsFault
  pub rebases : RunsTable image Rebases info.rebases [] rebased
  pub binds : RunsOn image info result rebased

-- what the opcodes of an image fix, by address, or the first fault: the place of an opcode, or 0 for that of a command
abbrev pub OpsBy : List ℕ → Result (Option DyldInfo) OpsFault → Result (List OpFixup) OpsFault → Type 0
OpsBy image (Err fault) result = result ≡ Err fault
OpsBy image (Ok None) result = result ≡ Ok []
OpsBy image (Ok (Some info)) result = RunsBoth image info result

abbrev pub OpsAt : List ℕ → Result (List OpFixup) OpsFault → Type 0
OpsAt image result = OpsBy image (info_of image) result

-- What a call answered is what a relation has, but for want of memory.
abbrev pub Answers : {A : Type 0} → (Result A OpsFault → Type 0) → Result A OpsFault → Type 0
Answers has (Ok x) = has (Ok x)
Answers has (Err e) = IsFault e → has (Err e)
