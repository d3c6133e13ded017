use Rattle.std.proofs.Common.{◌+◌, arith}
use Rattle.fixup_chain.proofs.NearLemmas.{pages_are}
use Rattle.fixup_chain.proofs.places.pages_of.Goals as goal

pub returns-clause-value : goal.returns-clause-value
returns-clause-value c =
    pages_are c.args.fixups.now c.args.segment.now (c.from.result + c.from-2.result) c.below-count.result c.last_address-last.result c.pages_by.result
    c.requires (omega (arith, c.from.ensures, c.from-2.ensures)) c.below-count.ensures.point c.below-count.ensures.bound c.last_address-last.ensures c.pages_by.ensures.value
