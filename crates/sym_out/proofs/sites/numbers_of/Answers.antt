use Rattle.std.proofs.Common.{refl, rules, take}
use Rattle.sym_out.specs.Sites.{section_number}
use Rattle.sym_out.proofs.Numbering.{sections_end, sections_go_on, sections_start}
use Rattle.sym_out.proofs.sites.numbers_of.Goals as goal

pub loop-i-init : goal.loop-i-init
loop-i-init c =
    sections_start c.args.placed.now c.in_ok-numbers.numbers.items c.args.sections.now c.len.result c.len.ensures
    (c.in_ok-numbers.ensures.items_if_clones_equal (λ y e. search rules))

pub loop-i-preserved : goal.loop-i-preserved
loop-i-preserved c =
    sections_go_on c.args.placed.now c.note_atoms.new.numbers.items c.args.sections.now c.loop-i.i _ c.index-sections-i.result c.as_slice.result.now
    c.loop-i-test.true c.index-sections-i.is c.as_slice.ensures refl
    (c.note_atoms.ensures.noted (section_number (take c.loop-i.i c.args.sections.now)) c.loop-i.invariant)

pub returns : goal.returns
returns c = sections_end c.args.placed.now c.loop-i.numbers.items c.args.sections.now c.loop-i.i c.loop-i-test.false c.loop-i.invariant
