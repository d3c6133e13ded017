use Rattle.std.proofs.Common.{ap, not, sym, ◌∙◌}
use Rattle.fixup_chain.proofs.OpenLemmas.{open_at}
use Rattle.fixup_chain.proofs.TurnLemmas.{has_fault, turn_begins, turn_moves}
use Rattle.fixup_chain.proofs.faults.first_with.Goals as goal

pub fault_of-requires-clause-free : goal.fault_of-requires-clause-free
fault_of-requires-clause-free c =
    open_at c.args.layout.now.segments c.args.fixups.now c.args.at c.index-fixups-at.result c.args.free c.requires.free c.requires.within c.index-fixups-at.is

pub returns-in-Greater : goal.returns-in-Greater
returns-in-Greater c =
    turn_moves c.args.layout.now c.args.fixups.now c.args.at c.in-Some.other c.index-fixups-at.result c.index-fixups-other.result
    (rw c.in-Some.is at c.requires.first) c.requires.within c.index-fixups-at.is c.index-fixups-other.is
    (has_fault _ _ c.fault_of.ensures (c.is_none.ensures ∙ ap not c.if-is_none.false)) (sym c.in-Greater.ensures)

pub returns-in-None : goal.returns-in-None
returns-in-None c =
    turn_begins c.args.layout.now c.args.fixups.now c.args.at c.index-fixups-at.result
    (rw c.in-None.is at c.requires.first) c.requires.within c.index-fixups-at.is
    (has_fault _ _ c.fault_of.ensures (c.is_none.ensures ∙ ap not c.if-is_none.false))
