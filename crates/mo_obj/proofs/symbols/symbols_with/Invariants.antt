use Rattle.mo_types.proofs.Each.{IsReading}
use Rattle.mo_obj.specs.Each.{Each}
use Rattle.mo_obj.specs.Symbols.{IsInPlace, symbol_at}
use Rattle.mo_obj.proofs.symbols.symbols_with.Given as goal

abbrev pub invariant-loop-i : goal.invariant-loop-i
invariant-loop-i l = record {
  reading : IsReading (symbol_at l.bytes l.symtab l.sections) l.symtab.nsyms l.i l.list.items;
  placed : Each (IsInPlace l.sections) l.list.items;
}
