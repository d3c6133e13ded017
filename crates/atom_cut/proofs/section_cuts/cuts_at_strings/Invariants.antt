use Rattle.atom_cut.proofs.StringLemmas.{AreStrings}
use Rattle.atom_cut.proofs.section_cuts.cuts_at_strings.Given as goal

abbrev pub invariant-loop-end : goal.invariant-loop-end
invariant-loop-end l =
    (goal.iterator-loop-end).can_next l.end-iterator × (goal.iterator-loop-end).is_finite l.end-iterator
    × AreStrings l.strings l.last l.cuts.items l.end-iterator
