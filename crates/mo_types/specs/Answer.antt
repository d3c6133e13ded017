-- How a link ends, and what the program says of it.
use Rattle.std.specs.Prelude.{ℕ}
use Rattle.mo_types.specs.declared.answer.Status.{Status}
use Rattle.mo_types.specs.declared.answer.Status.TheVariants.{Done, Usage, ReadFault, Refused, WriteFault, OutOfMemory}

-- the exit status
abbrev pub code_of : Status → ℕ
code_of Done = 0
code_of (Refused _) = 1
code_of (Usage _ _) = 2
code_of (ReadFault _) = 3
code_of WriteFault = 3
code_of OutOfMemory = 4

-- an answer that the command line and the files determine
abbrev pub IsDetermined : Status → Type 0
IsDetermined (Usage _ _) = Unit {0}
IsDetermined (Refused _) = Unit {0}
IsDetermined Done = ⊥
IsDetermined (ReadFault _) = ⊥
IsDetermined WriteFault = ⊥
IsDetermined OutOfMemory = ⊥
