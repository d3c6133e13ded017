use Rattle.std.proofs.Common.{drop, take}
use Rattle.name_ids.specs.Names.{external_of, number_of}
use Rattle.name_ids.specs.inner.Staying.{AllStay}
use Rattle.name_ids.proofs.Gathering.{IsAdding}
use Rattle.name_ids.proofs.numbering.add_symbols.Given as goal

abbrev pub invariant-loop-symbol : goal.invariant-loop-symbol
invariant-loop-symbol l =
    IsAdding l.fn.names.keys l.names.keys (external_of l.symbols) (external_of (drop l.symbol-index l.symbols))
    × AllStay number_of l.names.keys (take l.symbol-index l.symbols) l.numbers.items
