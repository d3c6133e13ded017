-- The chain ends where no header stands.
use Rattle.std.proofs.Common.{sym, ◌∙◌}
use Rattle.mo_ar.proofs.ChainLemmas.{walk_ends}
use Rattle.mo_ar.proofs.chain.walk.Goals as goal

pub returns : goal.returns
returns c =
    walk_ends c.args.bytes.now c.args.from (record { places = c.loop-members.places; members = c.loop-members.members; end = c.loop-members.at }) c.loop-members.invariant
    (sym c.in_ok-member.ensures.exact ∙ c.in_default.is)
