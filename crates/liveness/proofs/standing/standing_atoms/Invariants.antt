use Rattle.std.proofs.Common.{[]}
use Rattle.std.specs.List.{enumerate_from}
use Rattle.liveness.specs.Roots.{external_atom, winning_atom}
use Rattle.symbol_winners.proofs.PickLemmas.{IsPicking}
use Rattle.liveness.proofs.standing.standing_atoms.Given as goal

abbrev pub invariant-loop-at : goal.invariant-loop-at
invariant-loop-at l =
    IsPicking (external_atom l.file) [] l.external.items (enumerate_from 0 l.file.object.symbols) l.at
    × IsPicking (winning_atom l.symbols.winners l.file) [] l.winning.items (enumerate_from 0 l.file.object.symbols) l.at
