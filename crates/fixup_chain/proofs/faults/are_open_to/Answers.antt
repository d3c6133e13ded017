use Rattle.fixup_chain.proofs.OpenLemmas.{from_not, open_to}
use Rattle.fixup_chain.proofs.faults.are_open_to.Goals as goal

pub returns : goal.returns
returns c = λ holds. open_to c.args.segments.now c.args.fixups.now c.args.last _ _ c.may_any_close.result c.requires.apart c.requires.last c.place_of-begin.ensures c.place_of-end.ensures c.may_any_close.ensures (from_not c.may_any_close.result holds)
