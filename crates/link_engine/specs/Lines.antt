-- The steps of a link from some step on, each the rest of the whole line.
use Rattle.std.specs.Prelude.{ℕ, List, Ok}
use Rattle.file_cache.specs.Program.{File}
use Rattle.input_fetch.specs.declared.content.Content.{Content}
use Rattle.input_files.specs.declared.input.Input.{Input}
use Rattle.input_read.specs.Opened.{Contents}
use Rattle.lib_bind.specs.declared.library.LibraryGraph.{LibraryGraph}
use Rattle.link_steps.specs.Asking.{Reply, asks, last, tries, unless}
use Rattle.link_steps.specs.Steps.{IsToldBy}
use Rattle.command_line.specs.declared.command.Command.{Command}
use Rattle.link_engine.specs.Bound.{BoundBy}
use Rattle.link_engine.specs.Command.{crowd_stop}
use Rattle.link_engine.specs.Fetched.{FetchedBy}
use Rattle.link_engine.specs.Verdict.{IsImage, contents_with, files_for, plan_of}
use Rattle.link_engine.specs.declared.plan.Plan.{Plan}
use Rattle.link_engine.specs.declared.stop.Stop.{Stop}

-- after the libraries were bound
abbrev pub after_libraries : Command → List Input → LibraryGraph → Reply (List (List ℕ)) Stop Plan
after_libraries command inputs libs =
    tries (IsToldBy (files_for command inputs libs)) (λ loaded. tries (IsImage command libs loaded.files) (λ image. last (Ok (plan_of command image))))

-- from the libraries on
abbrev pub from_libraries : (List ℕ → File) → Command → Contents → Reply (List (List ℕ)) Stop Plan
from_libraries look command contents = asks (BoundBy look command contents.stubs) (after_libraries command contents.inputs)

-- after the inputs were fetched
abbrev pub after_inputs : (List ℕ → File) → Command → List Content → Reply (List (List ℕ)) Stop Plan
after_inputs look command found = tries (IsToldBy (contents_with command found)) (from_libraries look command)

-- after the inputs were counted
abbrev pub after_few : (List ℕ → File) → Command → Reply (List (List ℕ)) Stop Plan
after_few look command = asks (FetchedBy look command) (after_inputs look command)

-- after the command was read
abbrev pub after_command : (List ℕ → File) → Command → Reply (List (List ℕ)) Stop Plan
after_command look command = unless (crowd_stop command) (after_few look command)
