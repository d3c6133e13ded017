use Rattle.std.proofs.Common.{◌+◌, ◌<◌, ◌≤◌, ◌^◌, arith}
use Rattle.mo_types.specs.Whole.{IsWholeSection}
use Rattle.reloc_read.proofs.LookupLemmas.{rising_atoms}
use Rattle.unwind_read.proofs.EndLemmas.{bounds, some_atom, whole_section}
use Rattle.unwind_read.proofs.cut_object.bounds_of.Goals as goal

pub count_from-count-requires : goal.count_from-count-requires
count_from-count-requires c = rising_atoms c.args.cut.now.object.now c.args.cut.now.file c.args.cut.now.atoms.now c.requires.cut.atoms

pub last_of-atom-requires-clause-some : goal.last_of-atom-requires-clause-some
last_of-atom-requires-clause-some c =
    some_atom c.args.cut.now.object.now c.args.cut.now.file c.args.cut.now.atoms.now c.args.number c.args.section.now c.args.offset c.count_from-count.result c.requires.cut.atoms c.requires.numbered c.requires.linked c.count_from-count.ensures.bound c.count_from-count.ensures.point

pub overflow_add-result : goal.overflow_add-result
overflow_add-result c =
    let room : c.last_of-atom.result.key.offset + c.last_of-atom.result.size ≤ c.args.section.now.size = (bounds c.args.cut.now.object.now c.args.cut.now.file c.args.cut.now.atoms.now c.args.number c.args.section.now c.args.offset c.count_from-count.result c.last_of-atom.result c.requires.cut.atoms c.requires.numbered c.requires.linked c.requires.within c.count_from-count.ensures.bound c.count_from-count.ensures.point c.last_of-atom.ensures).room in
    let whole : IsWholeSection c.args.section.now = whole_section c.args.cut.now.object.now c.args.number c.args.section.now c.requires.cut.whole c.requires.numbered in
    let small : c.args.section.now.address + c.args.section.now.size < 2 ^ 63 = whole.addresses in
    omega arith

pub returns-clause-start : goal.returns-clause-start
returns-clause-start c = (bounds c.args.cut.now.object.now c.args.cut.now.file c.args.cut.now.atoms.now c.args.number c.args.section.now c.args.offset c.count_from-count.result c.last_of-atom.result c.requires.cut.atoms c.requires.numbered c.requires.linked c.requires.within c.count_from-count.ensures.bound c.count_from-count.ensures.point c.last_of-atom.ensures).start

pub returns-clause-end : goal.returns-clause-end
returns-clause-end c = (bounds c.args.cut.now.object.now c.args.cut.now.file c.args.cut.now.atoms.now c.args.number c.args.section.now c.args.offset c.count_from-count.result c.last_of-atom.result c.requires.cut.atoms c.requires.numbered c.requires.linked c.requires.within c.count_from-count.ensures.bound c.count_from-count.ensures.point c.last_of-atom.ensures).end

pub returns-clause-low : goal.returns-clause-low
returns-clause-low c = (bounds c.args.cut.now.object.now c.args.cut.now.file c.args.cut.now.atoms.now c.args.number c.args.section.now c.args.offset c.count_from-count.result c.last_of-atom.result c.requires.cut.atoms c.requires.numbered c.requires.linked c.requires.within c.count_from-count.ensures.bound c.count_from-count.ensures.point c.last_of-atom.ensures).low

pub returns-clause-high : goal.returns-clause-high
returns-clause-high c = (bounds c.args.cut.now.object.now c.args.cut.now.file c.args.cut.now.atoms.now c.args.number c.args.section.now c.args.offset c.count_from-count.result c.last_of-atom.result c.requires.cut.atoms c.requires.numbered c.requires.linked c.requires.within c.count_from-count.ensures.bound c.count_from-count.ensures.point c.last_of-atom.ensures).high

pub returns-clause-room : goal.returns-clause-room
returns-clause-room c = (bounds c.args.cut.now.object.now c.args.cut.now.file c.args.cut.now.atoms.now c.args.number c.args.section.now c.args.offset c.count_from-count.result c.last_of-atom.result c.requires.cut.atoms c.requires.numbered c.requires.linked c.requires.within c.count_from-count.ensures.bound c.count_from-count.ensures.point c.last_of-atom.ensures).room
