-- Which paths the later steps of a link try.
use Rattle.std.proofs.Common.{◌≡◌, ℕ, List, [], Result, Ok, sym, ◌∙◌}
use Rattle.std.proofs.lemmas.List.{append-nil}
use Rattle.file_cache.specs.Program.{File}
use Rattle.input_fetch.specs.declared.content.Content.{Content}
use Rattle.input_files.specs.declared.input.Input.{Input}
use Rattle.lib_bind.specs.Closure.{bound_after}
use Rattle.lib_bind.specs.declared.library.LibraryGraph.{LibraryGraph}
use Rattle.link_steps.proofs.AskLemmas.{asks_case, last_case, told_case, tries_case}
use Rattle.command_line.specs.declared.command.Command.{Command}
use Rattle.link_engine.proofs.RanLemmas.{Extends}
use Rattle.link_engine.specs.Bound.{BoundBy}
use Rattle.link_engine.specs.Lines.{after_inputs, after_libraries}
use Rattle.link_engine.specs.Verdict.{IsImage, contents_with, files_for, plan_of}
use Rattle.link_engine.specs.declared.plan.Plan.{Plan}
use Rattle.link_engine.specs.declared.stop.Stop.{Stop}

abbrev Paths : Type 0
Paths = List (List ℕ)

-- the steps after the libraries try no path
pub after_still : (command : Command) (inputs : List Input) (libs : LibraryGraph) (start : Paths) (given : Result Plan Stop) (end : Paths) → after_libraries command inputs libs start given end → end ≡ start
after_still command inputs libs start given end is =
    told_case (files_for command inputs libs) _ start given end (end ≡ start) is
    (λ why e stop same. same)
    (λ loaded e follows. tries_case (IsImage command libs loaded.files) _ start given end (end ≡ start) follows
    (λ why by stop same. same)
    (λ image by more. last_case (Ok (plan_of command image)) start given end (end ≡ start) more (λ answer same. same)))

pub after_extends : (look : List ℕ → File) (command : Command) (found : List Content) → Extends (after_inputs look command found)
after_extends look command found start given end is =
    told_case (contents_with command found) _ start given end _ is
    (λ why e stop same. ([], same ∙ sym (append-nil start)))
    (λ contents e follows. asks_case (BoundBy look command contents.stubs) _ start given end _ follows
    (λ why by stop. ((bound_after command contents.stubs by.count look).tried, by.tries))
    (λ libs then by more. ((bound_after command contents.stubs by.count look).tried, after_still command contents.inputs libs then given end more ∙ by.tries)))
