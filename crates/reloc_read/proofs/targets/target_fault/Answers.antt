use Rattle.reloc_read.proofs.RowLemmas.{bad_minus, bad_target, good_target}
use Rattle.reloc_read.proofs.targets.target_fault.Goals as goal

pub returns-then-is_bad_minus-clause-value : goal.returns-then-is_bad_minus-clause-value
returns-then-is_bad_minus-clause-value c = λ number.
    bad_minus c.args.object.now number c.args.section.now c.args.at _ c.args.row.now c.is_bad_minus.result c.requires c.is_bad_minus.ensures c.if-is_bad_minus.true c.saturating_sub.ensures

pub returns-then-is_bad_target-clause-value : goal.returns-then-is_bad_target-clause-value
returns-then-is_bad_target-clause-value c = λ number.
    bad_target c.args.object.now number c.args.section.now c.args.at c.args.row.now c.is_bad_minus.result c.is_bad_target.result c.requires c.is_bad_minus.ensures c.if-is_bad_minus.false c.is_bad_target.ensures c.if-is_bad_target.true

pub returns-clause-value : goal.returns-clause-value
returns-clause-value c = λ number.
    good_target c.args.object.now number c.args.section.now c.args.at c.args.row.now c.is_bad_minus.result c.is_bad_target.result c.requires c.is_bad_minus.ensures c.if-is_bad_minus.false c.is_bad_target.ensures c.if-is_bad_target.false
