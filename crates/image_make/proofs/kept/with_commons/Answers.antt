use Rattle.std.proofs.Common.{[], ◌∷◌, ◌++◌, ap, ◌∙◌}
use Rattle.mo_types.specs.declared.atom.Atom.{Atom}
use Rattle.patch.proofs.LeastLemmas.{element_at}
use Rattle.image_make.proofs.GrowLemmas.{grow_each}
use Rattle.image_make.proofs.KeptLemmas.{commons_end, raised_one}
use Rattle.image_make.proofs.kept.with_commons.Goals as goal

pub loop-atom-preserved : goal.loop-atom-preserved
loop-atom-preserved c =
    grow_each (raised_one c.args.symbols.now.literals) c.args.before.items c.loop-atom.kept.items c.push.new.self.items c.args.commons.now c.loop-atom.atom-index _ c.loop-atom.invariant c.loop-atom-test.true
    (λ d. element_at c.args.commons.now c.loop-atom.atom-index _ d c.loop-atom-test.true)
    (c.in_ok-push.ensures.items ∙ ap (λ (atom : Atom). c.loop-atom.kept.items ++ atom ∷ []) c.raised.ensures)

pub returns : goal.returns
returns c = commons_end c.args.symbols.now.literals c.args.before.items c.loop-atom.kept.items c.args.commons.now c.loop-atom.atom-index c.loop-atom.invariant c.loop-atom-test.false
