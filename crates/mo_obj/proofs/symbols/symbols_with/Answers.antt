use Rattle.std.proofs.Common.{rules}
use Rattle.mo_types.proofs.Each.{stops}
use Rattle.mo_obj.specs.Symbols.{symbol_at, symbols_of}
use Rattle.mo_obj.proofs.SymbolLemmas.{fault_passed}
use Rattle.mo_obj.proofs.symbols.symbols_with.Goals as goal

pub returns-in_err-symbol_at-clause-exact : goal.returns-in_err-symbol_at-clause-exact
unfolding symbols_of
returns-in_err-symbol_at-clause-exact c =
    fault_passed _ _ c.in_err-symbol_at.field-0.0 c.from_residual-in_err-symbol_at.ensures.1
    (λ is. stops (symbol_at c.args.bytes.now c.args.symtab.now c.args.sections.now) c.args.symtab.now.nsyms c.loop-i.i c.loop-i.list.items _ c.loop-i.invariant.reading (search rules) (c.in_err-symbol_at.ensures.exact is))
