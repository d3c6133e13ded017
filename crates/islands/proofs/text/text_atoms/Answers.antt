use Rattle.std.proofs.Common.{sym, ap, ◌∙◌, ◌++◌, List}
use Rattle.mo_types.specs.declared.key.AtomKey.{AtomKey}
use Rattle.tlv_plan.specs.Template.{atoms_of}
use Rattle.islands.proofs.Walks.{sections_end, sections_more, sections_pass}
use Rattle.islands.proofs.text.text_atoms.Goals as goal
use Rattle.islands.proofs.text.text_atoms.Goals.{then-is_code+in_ok-add_atoms, else-is_code}

pub loop-placed-preserved : goal.loop-placed-preserved
loop-placed-preserved c =
    elim c.if-is_code.branch [
      | then-is_code+in_ok-add_atoms w ↦ rw w.atoms-is (sections_more c.args.kept.now c.args.sections.now c.loop-placed.placed-index c.placed-item.result c.loop-placed.atoms.items _ _ c.loop-placed.invariant c.loop-placed-test.true c.placed-item.is (sym c.is_code.ensures ∙ w.if-is_code.true) (w.in_ok-add_atoms.ensures ∙ ap (λ (keys : List AtomKey). c.loop-placed.atoms.items ++ atoms_of c.args.kept.now keys) w.as_slice.ensures))
      | else-is_code w ↦ rw w.atoms-is (sections_pass c.args.kept.now c.args.sections.now c.loop-placed.placed-index c.placed-item.result c.loop-placed.atoms.items _ c.loop-placed.invariant c.loop-placed-test.true c.placed-item.is (sym c.is_code.ensures ∙ w.if-is_code.false))
    ]

pub returns : goal.returns
returns c = sections_end c.args.kept.now c.args.sections.now c.loop-placed.placed-index c.loop-placed.atoms.items _ c.loop-placed.invariant c.loop-placed-test.false
