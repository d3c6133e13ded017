-- Targets that can be put in order, and those that they stand for.
use Rattle.std.specs.Prelude.{Contains, List, map}
use Rattle.sect_place.specs.declared.island.BranchTarget.{BranchTarget}
use Rattle.islands.specs.declared.numbering.Keyed.{Keyed}
use Rattle.islands.specs.declared.target.Aim.{Aim}

abbrev pub aim_of : BranchTarget → Aim
aim_of target = record { goal = target.goal; addend = target.addend; stub = target.stub }

abbrev pub target_of : Aim → BranchTarget
target_of aim = record { goal = aim.goal; addend = aim.addend; stub = aim.stub }

-- the targets behind references with numbers
abbrev pub targets_behind : List Keyed → List BranchTarget
targets_behind keyed = map (λ (each : Keyed). each.target.now) keyed

-- the same targets as another list, maybe another number of times
pub record HasTheSame (goes few : List BranchTarget) : Type 0 where
  pub all : (target : BranchTarget) → Contains goes target → Contains few target
  pub only : (target : BranchTarget) → Contains few target → Contains goes target
