use Rattle.std.specs.Option.{option_map}
use Rattle.sect_list.specs.inner.Gathered.{held_home}
use Rattle.sect_list.proofs.Gathering.{IsWalked}
use Rattle.sect_list.proofs.gather.gather.Given as goal

abbrev pub invariant-loop-atom : goal.invariant-loop-atom
invariant-loop-atom l = IsWalked l.files l.kept l.atom-index l.places.keys l.sections.items l.last (option_map held_home l.home)
