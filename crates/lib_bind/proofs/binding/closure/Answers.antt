use Rattle.std.proofs.Common.{All, List, ◌<◌, subst, sym}
use Rattle.lib_bind.specs.declared.library.Library.{Library}
use Rattle.lib_bind.specs.inner.Held.{total}
use Rattle.lib_bind.proofs.AnsweredLemmas.{all_within, held_itself, held_libraries, held_links}
use Rattle.lib_bind.proofs.BindingLemmas.{all_bound, from_start, no_memory, none_chosen, not_closed, not_held}
use Rattle.lib_bind.proofs.ChosenLemmas.{whole_chosen}
use Rattle.lib_bind.proofs.binding.closure.Goals as goal

pub returns-in_err-libraries-clause-closes : goal.returns-in_err-libraries-clause-closes
returns-in_err-libraries-clause-closes g c = none_chosen g.F.Files.answers c.args.command.now c.args.named _ c.in_err-libraries.field-0.0 _ c.in_err-libraries.ensures c.from_residual.ensures.1

pub returns-in_err-start-clause-closes : goal.returns-in_err-start-clause-closes
returns-in_err-start-clause-closes g c = no_memory g.F.Files.answers c.args.command.now c.args.named _ _ c.from_residual-in_err-start.ensures.1

pub begun-requires-clause-heads : goal.begun-requires-clause-heads
begun-requires-clause-heads g c = (whole_chosen _ c.args.command.now c.args.named c.in_ok-libraries.field-0 c.requires c.in_ok-libraries.ensures).0

pub begun-requires-clause-libraries : goal.begun-requires-clause-libraries
begun-requires-clause-libraries g c =
    subst (λ (libraries : List Library). All (λ (library : Library). library.document < total c.in_ok-libraries.field-0.files) libraries) (sym c.as_slice.ensures)
    (all_within (total c.in_ok-libraries.field-0.files) c.in_ok-libraries.field-0.libraries (whole_chosen _ c.args.command.now c.args.named c.in_ok-libraries.field-0 c.requires c.in_ok-libraries.ensures).1)

pub closed-requires : goal.closed-requires
closed-requires g c = held_itself _ _ _ c.in_ok-start.ensures.held

pub libraries_of-requires-clause-links : goal.libraries_of-requires-clause-links
libraries_of-requires-clause-links g c = held_links _ _ _ c.in_ok-closing.ensures.held

pub libraries_of-requires-clause-libraries : goal.libraries_of-requires-clause-libraries
libraries_of-requires-clause-libraries g c =
    held_libraries _ _ c.in_ok-closing.closing c.in_ok-libraries.field-0.libraries c.in_ok-closing.ensures.held
    (held_libraries _ _ c.in_ok-start.start c.in_ok-libraries.field-0.libraries c.in_ok-start.ensures.held
    (whole_chosen _ c.args.command.now c.args.named c.in_ok-libraries.field-0 c.requires c.in_ok-libraries.ensures).1)

pub returns-in_err-closing-clause-closes : goal.returns-in_err-closing-clause-closes
returns-in_err-closing-clause-closes g c =
    not_closed g.F.Files.answers c.args.command.now c.args.named _ _ c.in_ok-libraries.field-0 c.in_err-closing.field-0.0 _ c.in_ok-libraries.ensures
    (from_start g.F.Files.answers _ c.in_ok-libraries.field-0 _ _ _ _ _ c.in_ok-start.ensures.exact c.as_slice.ensures c.in_err-closing.ensures.closing) c.from_residual-in_err-closing.ensures.1

pub returns-in_err-libraries_of-clause-closes : goal.returns-in_err-libraries_of-clause-closes
returns-in_err-libraries_of-clause-closes g c =
    not_held g.F.Files.answers c.args.command.now c.args.named _ _ c.in_ok-libraries.field-0 c.in_ok-closing.closing _ c.in_ok-libraries.ensures
    (from_start g.F.Files.answers _ c.in_ok-libraries.field-0 _ _ _ _ _ c.in_ok-start.ensures.exact c.as_slice.ensures c.in_ok-closing.ensures.closing) c.from_residual-in_err-libraries_of.ensures.1

pub returns-clause-closes : goal.returns-clause-closes
returns-clause-closes g c =
    all_bound g.F.Files.answers c.args.command.now c.args.named _ _ c.in_ok-libraries.field-0 c.in_ok-closing.closing c.in_ok-libraries_of.field-0 c.in_ok-libraries.ensures
    (from_start g.F.Files.answers _ c.in_ok-libraries.field-0 _ _ _ _ _ c.in_ok-start.ensures.exact c.as_slice.ensures c.in_ok-closing.ensures.closing)
    c.in_ok-libraries_of.ensures.libraries c.in_ok-libraries_of.ensures.documents c.in_ok-libraries_of.ensures.links
