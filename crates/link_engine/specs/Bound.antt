-- The libraries of a link, by what stands under the paths of what they re-export.
use Rattle.std.specs.Prelude.{ℕ, ◌≡◌, ◌++◌, List, IfOk, Result}
use Rattle.file_cache.specs.Program.{File}
use Rattle.lib_bind.specs.Closure.{IsLast, Shows, bound_after}
use Rattle.lib_bind.specs.Graph.{IsWhole}
use Rattle.lib_bind.specs.declared.bind_fault.BindFault.{BindFault}
use Rattle.lib_bind.specs.declared.library.LibraryGraph.{LibraryGraph}
use Rattle.lib_bind.specs.declared.named.NamedStub.{NamedStub}
use Rattle.command_line.specs.declared.command.Command.{Command}
use Rattle.link_steps.specs.Steps.{IsToldBy, map_err}
use Rattle.link_engine.specs.declared.stop.Stop.{Stop}
use Rattle.link_engine.specs.Stop.{bind_fault_for}

-- The libraries of stub libraries and what these re-export, or why there are none: after so many requests none is left, or
-- there was a fault. Their paths are tried after those before.
pub record BoundBy (look : List ℕ → File) (command : Command) (stubs : List NamedStub)
    (old : List (List ℕ)) (given : Result LibraryGraph Stop) (new : List (List ℕ)) : Type 0 where
  pub count : ℕ
  pub last : IsLast count (bound_after command stubs count look).end
  pub bound : Result LibraryGraph BindFault
  pub is : Shows count bound (bound_after command stubs count look).end
  pub whole : IfOk bound IsWhole
  pub told : IsToldBy (map_err bind_fault_for bound) given
  pub tries : new ≡ old ++ (bound_after command stubs count look).tried
