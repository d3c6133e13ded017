-- What the reader of unwind entries finds, as the rule of the object.
use Rattle.std.proofs.Common.{◌≡◌, ℕ, List, Option, Some, None, Result, Ok, Err, IfErr, refl, sym, ap, ◌∙◌}
use Rattle.std.specs.Option.{option_map_or}
use Rattle.mo_types.specs.declared.cause.Rule.TheVariants as rule
use Rattle.mo_types.specs.declared.key.FileId.{FileId}
use Rattle.mo_types.specs.declared.object.Object.{Object}
use Rattle.mo_types.specs.declared.object_fault.ObjFault.{ObjFault}
use Rattle.mo_types.specs.declared.object_fault.ObjFault.TheVariants as fault
use Rattle.mo_types.specs.declared.unwind.Unwind.{Unwind}
use Rattle.unwind_read.specs.Unwinds.{first_fault, section_unwinds, unwinds_of}
use Rattle.unwind_read.specs.declared.fault.UnwindFault.{UnwindFault}
use Rattle.unwind_read.specs.declared.fault.UnwindFault.TheVariants.{BadEntry, OutOfMemory}
use Rattle.mo_obj.specs.Entries.{entries_of}
use Rattle.mo_obj.specs.Faults.{keeps}

-- what was found, as an answer on the object
abbrev told : Result (List Unwind) UnwindFault → Result (Unit {0}) ObjFault
told (Ok unwinds) = Ok (tt {0})
told (Err (BadEntry place)) = Err (fault.Malformed place rule.Unwind)
told (Err OutOfMemory) = Err fault.OutOfMemory

rule_told : (found : Option ℕ) (unwinds : List Unwind) → told (option_map_or (λ place. Err (BadEntry place)) found (Ok unwinds)) ≡ keeps rule.Unwind found (tt {0})
rule_told None unwinds = refl
rule_told (Some place) unwinds = refl

as_told : (object : Object) (file : FileId) (answer : Result (List Unwind) UnwindFault) → unwinds_of object file ≡ answer → entries_of object ≡ told answer
unfolding unwinds_of
as_told object file answer is = sym (rule_told (first_fault object) _) ∙ ap told is

pub told_ok : (object : Object) (file : FileId) (unwinds : List Unwind) → unwinds_of object file ≡ Ok unwinds → entries_of object ≡ Ok tt
told_ok object file unwinds is = as_told object file (Ok unwinds) is

pub told_entry : (object : Object) (file : FileId) (place : ℕ) → unwinds_of object file ≡ Err (BadEntry place) → entries_of object ≡ Err (fault.Malformed place rule.Unwind)
told_entry object file place is = as_told object file (Err (BadEntry place)) is

pub ruleset answers = (told_ok, told_entry)

-- where the rule fails nowhere, the entries can be read, as those of each file
read_by : (found : Option ℕ) (unwinds : List Unwind) → keeps rule.Unwind found (tt {0}) ≡ Ok tt → option_map_or (λ place. Err (BadEntry place)) found (Ok unwinds) ≡ Ok unwinds
read_by None unwinds kept = refl
read_by (Some place) unwinds kept = cc

pub entries_read : (object : Object) (file : FileId) → entries_of object ≡ Ok (tt {0}) → IfErr (unwinds_of object file) (λ fault. ⊥)
unfolding unwinds_of
entries_read object file kept = rw (read_by (first_fault object) _ kept) tt
