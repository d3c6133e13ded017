use Rattle.std.proofs.Common.{sym, true, false, ◌∙◌}
use Rattle.std.specs.Prelude.{slice_index_or}
use Rattle.liveness.proofs.StandingLemmas.{no_winner, winner_stands}
use Rattle.liveness.proofs.standing.won.Goals as goal

pub returns-then-wins : goal.returns-then-wins
returns-then-wins c = λ d.
    winner_stands c.args.symbols.now.winners c.args.file.now (c.args.index, slice_index_or c.args.file.now.object.symbols c.args.index d) c.in-Some.atom true
    (sym c.in-Some.is ∙ c.requires.atom d) (λ external. sym c.if-wins.true ∙ c.wins.ensures d external)

pub returns-else-wins : goal.returns-else-wins
returns-else-wins c = λ d.
    winner_stands c.args.symbols.now.winners c.args.file.now (c.args.index, slice_index_or c.args.file.now.object.symbols c.args.index d) c.in-Some.atom false
    (sym c.in-Some.is ∙ c.requires.atom d) (λ external. sym c.if-wins.false ∙ c.wins.ensures d external)

pub returns-in-None : goal.returns-in-None
returns-in-None c = λ d. no_winner c.args.symbols.now.winners c.args.file.now (c.args.index, slice_index_or c.args.file.now.object.symbols c.args.index d) (sym c.in-None.is ∙ c.requires.atom d)
