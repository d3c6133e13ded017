use Rattle.std.proofs.Common.{ap, sym, refl, ◌∙◌}
use Rattle.std.specs.Str.{bytes_eq}
use Rattle.tbd_doc.proofs.SearchLemmas.{look_finds, look_goes_on}
use Rattle.tbd_doc.proofs.nodes.value.Goals as goal

pub returns-then-eq-clause-value : goal.returns-then-eq-clause-value
returns-then-eq-clause-value c =
    look_finds _ _ _ _ _ c.loop-place.invariant c.loop-place-test.true refl
    (ap (λ key. bytes_eq key c.args.key.now) (sym c.key_at.ensures) ∙ sym c.eq.ensures ∙ c.if-eq.true)

pub loop-place-preserved : goal.loop-place-preserved
loop-place-preserved c =
    look_goes_on _ _ _ _ _ c.loop-place.invariant c.loop-place-test.true refl
    (ap (λ key. bytes_eq key c.args.key.now) (sym c.key_at.ensures) ∙ sym c.eq.ensures ∙ c.if-eq.false)
