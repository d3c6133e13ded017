use Rattle.std.proofs.Common.{◌≡◌, ◌++◌, drop}
use Rattle.sect_place.specs.Arrangement.{chosen}
use Rattle.sect_place.proofs.arrange.add_chosen.Given as goal

abbrev pub invariant-loop-section : goal.invariant-loop-section
invariant-loop-section l = l.parts.items ++ chosen l.choice (drop l.section-index l.sections) ≡ l.initial.parts.items ++ chosen l.choice l.sections
