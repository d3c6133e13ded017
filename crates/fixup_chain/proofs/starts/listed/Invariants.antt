use Rattle.fixup_chain.specs.Places.{addresses_of}
use Rattle.fixup_chain.proofs.StartLemmas.{IsListing}
use Rattle.fixup_chain.proofs.starts.listed.Given as goal

abbrev pub invariant-loop-index : goal.invariant-loop-index
invariant-loop-index l = IsListing (addresses_of l.fixups) l.base l.segments l.index l.offsets.items l.parts.items
