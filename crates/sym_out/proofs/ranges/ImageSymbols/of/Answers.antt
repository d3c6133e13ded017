use Rattle.std.proofs.Common.{ap, ◌∙◌}
use Rattle.std.specs.List.{filter_map}
use Rattle.sym_out.specs.Symbols.{undefined_entry}
use Rattle.sym_out.proofs.Ranging.{ranges_named}
use Rattle.sym_out.proofs.ranges.ImageSymbols.of.Goals as goal

pub invariant_of-result : goal.invariant_of-result
invariant_of-result c =
    ranges_named _ c.args.symbols.now c.winners.result.now c.args.bound.now _ _
    (record { of_goals = c.requires.bound; of_winners = c.requires.winners }) c.winners.ensures c.in_ok-exported.ensures
    (c.in_ok-undefined.ensures ∙ ap (filter_map undefined_entry) c.as_slice-2.ensures)
