-- Why the words and the files have no image, and the answer that tells it.
use Rattle.input_fetch.specs.declared.stop.FetchStop.{FetchStop}
use Rattle.input_fetch.specs.declared.stop.FetchStop.TheVariants as fetch
use Rattle.lib_bind.specs.declared.bind_fault.BindFault.{BindFault}
use Rattle.lib_bind.specs.declared.bind_fault.BindFault.TheVariants as bind
use Rattle.link_steps.specs.declared.fault.StepFault.{StepFault}
use Rattle.link_steps.specs.declared.fault.StepFault.TheVariants as fault
use Rattle.input_files.specs.declared.fault.LoadFault.{LoadFault}
use Rattle.input_files.specs.declared.fault.LoadFault.TheVariants as rounds
use Rattle.mo_cmd.specs.declared.usage_fault.UsageFault.{UsageFault}
use Rattle.mo_cmd.specs.declared.usage_fault.UsageFault.TheVariants as usage
use Rattle.mo_types.specs.declared.answer.Refusal.{Refusal}
use Rattle.mo_types.specs.declared.answer.Refusal.TheVariants as refusal
use Rattle.mo_types.specs.declared.answer.Status.{Status}
use Rattle.mo_types.specs.declared.answer.Status.TheVariants as answer
use Rattle.link_engine.specs.declared.stop.Stop.{Stop}
use Rattle.link_engine.specs.declared.stop.Stop.TheVariants.{Usage, ReadFault, Refused}

-- the answer that tells why there is no image
abbrev pub status_of : Stop → Status
status_of (Usage word rule) = answer.Usage word rule
status_of (ReadFault path) = answer.ReadFault path
status_of (Refused refusal) = answer.Refused refusal

-- the answer that tells a step's fault
abbrev pub status_for : StepFault Stop → Status
status_for (fault.Stop why) = status_of why
status_for fault.OutOfMemory = answer.OutOfMemory

-- ---- the faults of the layers below as the link's

-- of words that aren't a command
abbrev pub usage_fault_for : UsageFault → StepFault Stop
usage_fault_for (usage.At word rule) = fault.Stop (Usage word rule)
usage_fault_for usage.OutOfMemory = fault.OutOfMemory

-- of inputs that aren't fetched
abbrev pub fetch_fault_for : FetchStop → StepFault Stop
fetch_fault_for (fetch.ReadFault path) = fault.Stop (ReadFault path)
fetch_fault_for (fetch.Missing path) = fault.Stop (Refused (refusal.Missing path))
fetch_fault_for fetch.OutOfMemory = fault.OutOfMemory

-- of inputs that aren't read, and of files that aren't loaded
abbrev pub load_fault_for : LoadFault → StepFault Stop
load_fault_for (rounds.Refused why) = fault.Stop (Refused why)
load_fault_for rounds.OutOfMemory = fault.OutOfMemory

-- of libraries
abbrev pub bind_fault_for : BindFault → StepFault Stop
bind_fault_for (bind.ReadFault path) = fault.Stop (ReadFault path)
bind_fault_for (bind.Refused why) = fault.Stop (Refused why)
bind_fault_for bind.OutOfMemory = fault.OutOfMemory

-- of files that don't link
abbrev pub refused_for : StepFault Refusal → StepFault Stop
refused_for (fault.Stop why) = fault.Stop (Refused why)
refused_for fault.OutOfMemory = fault.OutOfMemory
