use Rattle.reloc_read.proofs.LookupLemmas.{finds_some, rising_atoms}
use Rattle.reloc_read.proofs.PointLemmas.{start_is_cut_of, start_is_within}
use Rattle.reloc_read.proofs.cut_object.cut_from.Goals as goal

pub count_from-after-requires : goal.count_from-after-requires
count_from-after-requires c = rising_atoms c.args.cut.now.object.now c.args.cut.now.file c.args.cut.now.atoms.now c.requires.cut.atoms

pub last_start-requires-clause-some : goal.last_start-requires-clause-some
last_start-requires-clause-some c =
    finds_some c.args.cut.now.object.now c.args.cut.now.file c.args.index c.args.offset c.count_from-after.result c.args.cut.now.atoms.now c.requires.cut.atoms c.requires.index c.requires.linked c.count_from-after.ensures.bound c.count_from-after.ensures.point

pub returns-clause-within : goal.returns-clause-within
returns-clause-within c =
    start_is_within c.args.cut.now.object.now c.args.cut.now.file c.args.index c.args.offset c.count_from-after.result c.args.cut.now.atoms.now _ c.requires.cut.atoms c.requires.index c.requires.linked c.count_from-after.ensures.bound c.count_from-after.ensures.point c.last_start.ensures

pub returns-clause-value : goal.returns-clause-value
returns-clause-value c = λ d.
    start_is_cut_of c.args.cut.now.object.now c.args.cut.now.file c.args.index d c.args.offset c.count_from-after.result c.args.cut.now.atoms.now _ c.requires.cut.atoms c.requires.index (c.requires.linked d) c.count_from-after.ensures.bound c.count_from-after.ensures.point c.last_start.ensures
