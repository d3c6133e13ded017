-- Which answers tell that all files could be read.
use Rattle.mo_types.specs.declared.answer.Status.{Status}
use Rattle.mo_types.specs.declared.answer.Status.TheVariants.{Done, ReadFault, WriteFault, OutOfMemory}
use Rattle.link_engine.specs.declared.stop.Stop.{Stop}
use Rattle.link_engine.specs.declared.stop.Stop.TheVariants as stop

-- an answer that is given before anything is written
abbrev pub IsStop : Status → Type 0
IsStop Done = ⊥
IsStop WriteFault = ⊥
IsStop _ = Unit {0}

-- no file that couldn't be read is behind the answer
abbrev pub IsReadWell : Status → Type 0
IsReadWell (ReadFault _) = ⊥
IsReadWell OutOfMemory = ⊥
IsReadWell _ = Unit {0}

-- no such file is behind a stop
abbrev pub IsNotUnread : Stop → Type 0
IsNotUnread (stop.Usage word rule) = Unit {0}
IsNotUnread (stop.ReadFault path) = ⊥
IsNotUnread (stop.Refused refusal) = Unit {0}
