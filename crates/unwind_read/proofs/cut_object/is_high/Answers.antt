use Rattle.std.proofs.Common.{rules, not, ap, sym, ◌∙◌}
use Rattle.reloc_read.proofs.PointLemmas.{high_by_first}
use Rattle.unwind_read.proofs.cut_object.is_high.Goals as goal

pub returns-in-Some : goal.returns-in-Some
returns-in-Some c = λ fail.
    high_by_first c.args.number c.args.offset c.args.atoms.now c.args.at c.in-Some.atom.now c.requires (search rules) (ap not (sym c.is_up_to.ensures) ∙ fail)
