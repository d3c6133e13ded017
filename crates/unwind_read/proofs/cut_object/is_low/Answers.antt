use Rattle.std.proofs.Common.{rules, sym, ◌∙◌}
use Rattle.reloc_read.proofs.PointLemmas.{low_by_last}
use Rattle.unwind_read.proofs.cut_object.is_low.Goals as goal

pub returns-in-Some : goal.returns-in-Some
returns-in-Some c = λ pass.
    low_by_last c.args.number c.args.offset c.args.atoms.now c.args.at c.in-Some.atom.now c.requires (search rules) (search rules) (sym c.is_up_to.ensures ∙ pass)
