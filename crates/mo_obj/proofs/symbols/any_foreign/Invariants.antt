use Rattle.mo_obj.specs.Symbols.{is_foreign_at}
use Rattle.mo_obj.proofs.TableLemmas.{IsSearching}
use Rattle.mo_obj.proofs.symbols.any_foreign.Given as goal

abbrev pub invariant-loop-i : goal.invariant-loop-i
invariant-loop-i l = IsSearching (is_foreign_at l.bytes l.symtab) l.symtab.nsyms l.i
