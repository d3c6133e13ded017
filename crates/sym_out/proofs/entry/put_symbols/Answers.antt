use Rattle.std.proofs.Common.{ℕ, ◌+◌, List, length, ap, subst, sym}
use Rattle.sym_out.specs.Entries.{Entry}
use Rattle.sym_out.proofs.Writing.{IsPlacing, placing_ends, placing_goes_on, placing_starts}
use Rattle.sym_out.proofs.entry.put_symbols.Goals as goal

pub loop-entry-init : goal.loop-entry-init
loop-entry-init c = placing_starts c.args.entries.now c.args.start c.args.symbols.now.items

pub loop-entry-preserved : goal.loop-entry-preserved
loop-entry-preserved c =
    subst (λ (name : List ℕ). IsPlacing c.args.entries.now c.args.start c.args.symbols.now.items (c.loop-entry.entry-index + 1) (c.loop-entry.at + (length name + 1)) c.put_symbol.new.symbols.items)
    (sym (ap (λ (entry : Entry). entry.name) c.entry.view_is))
    (placing_goes_on c.args.entries.now c.args.start c.args.symbols.now.items c.loop-entry.entry-index c.loop-entry.at c.loop-entry.symbols.items _ c.entry-item.result c.loop-entry.invariant c.loop-entry-test.true c.entry-item.is c.in_ok-put_symbol.ensures)

pub returns : goal.returns
returns c = placing_ends c.args.entries.now c.args.start c.args.symbols.now.items c.loop-entry.entry-index c.loop-entry.at c.loop-entry.symbols.items c.loop-entry.invariant c.loop-entry-test.false
