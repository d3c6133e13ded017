use Rattle.std.proofs.Common.{ℕ, ◌+◌, ◌*◌, List, length, ap}
use Rattle.fixup_chain.specs.Places.{addresses_of}
use Rattle.fixup_chain.proofs.StartLemmas.{listing_goes_on}
use Rattle.fixup_chain.proofs.starts.listed.Goals as goal

pub loop-index-preserved : goal.loop-index-preserved
loop-index-preserved c =
    listing_goes_on (addresses_of c.args.fixups.now) c.args.base c.args.segments.now c.loop-index.index _ c.loop-index.offsets.items c.loop-index.parts.items c.put_u32.new.out.items c.put_part.new.out.items c.index-segments-index.result c.offset_of.result
    c.loop-index.invariant c.loop-index-test.true
    c.index-segments-index.is
    (ap (λ (xs : List ℕ). 4 + 4 * length c.args.segments.now + length xs) c.as_slice.ensures.value)
    c.offset_of.ensures c.in_ok-put_u32.ensures c.in_ok-put_part.ensures
