use Rattle.std.proofs.Common.{ap, rules}
use Rattle.resolve.specs.Table.{goals_of}
use Rattle.symbol_winners.specs.SymbolTable.{SymbolTable}
use Rattle.ref_meet.proofs.BindLemmas.{file_binds}
use Rattle.ref_meet.proofs.binds.add_file.Goals as goal

pub returns : goal.returns
returns c = search (
  rules,
  file_binds c.bound_at-bound.result c.args.referring.now.symbols.now.literals c.args.referring.now.keys.now (goals_of c.args.referring.now.goals.now) c.args.referring.now.loaded.now.files c.args.at c.args.file.now
      c.bound_at-bound.ensures.files (ap (λ (s : SymbolTable). s.literals) c.bound_at-bound.ensures.symbols) c.bound_at-bound.ensures.keys c.bound_at-bound.ensures.file c.bound_at-bound.ensures.goals,
)
