use Rattle.std.proofs.Common.{length, refl}
use Rattle.fixup_chain.specs.Places.{addresses_of}
use Rattle.fixup_chain.proofs.StartLemmas.{starts_are}
use Rattle.fixup_chain.proofs.starts.starts_of.Goals as goal

pub returns : goal.returns
returns c =
    starts_are (addresses_of c.args.fixups.now) c.args.base (length c.args.segments.now) c.args.segments.now c.new-made.result.items c.write.new.out.items
    c.extend_from_slice.new.self.items c.extend_from_slice-2.new.self.items c.in_ok-all.all.offsets.items c.in_ok-all.all.parts.items c.as_slice.result.now c.as_slice-2.result.now
    c.new-made.ensures.items refl c.in_ok-write.ensures.ok c.as_slice.ensures.value c.in_ok-extend_from_slice.ensures.items c.as_slice-2.ensures.value
    c.in_ok-extend_from_slice-2.ensures.items c.in_ok-all.ensures.offsets c.in_ok-all.ensures.parts
