use Rattle.std.proofs.Common.{◌≡◌, ◌+◌, ◌++◌, ◌∙◌, ap, refl, length, arith}
use Rattle.mo_types.specs.Refs.{reference_at, section_refs}
use Rattle.reloc_read.proofs.FaultLemmas.{rows_go_on}
use Rattle.reloc_read.proofs.RefLemmas.{refs_go_on, refs_end}
use Rattle.reloc_read.proofs.reading.read_rows.Goals as goal

pub loop-at-preserved : goal.loop-at-preserved
loop-at-preserved c = record {
  faults = rows_go_on _ _ _ _ _ c.in_ok-read_at.field-0 _ c.loop-at.invariant.faults c.in_ok-read_at.ensures.faults c.merge-found.ensures;
  refs = λ clean.
      refs_go_on _ _ _ _ _ _ _ _ (reference_at c.args.linked.now.cut.object.now c.args.linked.now.cut.file (c.args.linked.now.index + 1) c.args.linked.now.section.now c.loop-at.at)
      (c.loop-at.invariant.refs clean) refl (c.in_ok-read_at.ensures.refs clean);
}

pub returns-clause-refs : goal.returns-clause-refs
returns-clause-refs c = λ clean.
    (let whole : c.loop-at.at ≡ length c.args.linked.now.section.now.relocs = omega arith in
    refs_end _ _ _ _ _ _ c.loop-at.at (c.loop-at.invariant.refs clean) c.requires.linked.kept whole
    ∙ ap (λ xs. xs ++ section_refs c.args.linked.now.cut.object.now c.args.linked.now.cut.file (c.args.linked.now.index + 1) c.args.linked.now.section.now) c.reserve.ensures)
