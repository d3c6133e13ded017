use Rattle.ref_meet.specs.Pointers.{slot_fixup}
use Rattle.ref_meet.proofs.GatherLemmas.{IsNumbered}
use Rattle.ref_meet.proofs.fixups.add_slots_from.Given as goal

abbrev pub invariant-loop-number : goal.invariant-loop-number
invariant-loop-number l = IsNumbered (slot_fixup l.start) l.fn.out.items l.out.items l.goals l.number
