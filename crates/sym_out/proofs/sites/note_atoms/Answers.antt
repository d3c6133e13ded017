use Rattle.std.proofs.Common.{refl, take, ◌∙◌}
use Rattle.sym_out.specs.inner.Numbers.{numbered}
use Rattle.sym_out.proofs.Numbering.{atoms_end, atoms_go_on, atoms_start}
use Rattle.sym_out.proofs.sites.note_atoms.Goals as goal

pub loop-atom-init : goal.loop-atom-init
loop-atom-init c = record {
  size = refl;
  noted = λ f are. atoms_start f c.args.placed.now c.args.numbers.now.items c.args.number c.args.atoms.now are;
}

pub loop-atom-preserved : goal.loop-atom-preserved
loop-atom-preserved c = record {
  size = c.note-near.ensures.size ∙ c.loop-atom.invariant.size;
  noted = λ f are.
      atoms_go_on f c.args.placed.now c.note-near.new.numbers.items c.args.number c.loop-atom.atom-index c.args.atoms.now _ c.loop-atom-test.true
      (c.note-near.ensures.noted (numbered f c.args.number (take c.loop-atom.atom-index c.args.atoms.now)) (c.loop-atom.invariant.noted f are));
}

pub returns-clause-noted : goal.returns-clause-noted
returns-clause-noted c = λ f are.
    atoms_end f c.args.placed.now c.loop-atom.numbers.items c.args.number c.loop-atom.atom-index c.args.atoms.now c.loop-atom-test.false
    (c.loop-atom.invariant.noted f are)
