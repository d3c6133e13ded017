use Rattle.std.proofs.Common.{◌+◌, length, get_or, refl, sym, ap, ◌∙◌, subst}
use Rattle.std.proofs.lemmas.List.{take_rest}
use Rattle.yaml_text.specs.Scalars.{unit_of}
use Rattle.yaml_text.specs.inner.Units.{IsUnit}
use Rattle.yaml_text.proofs.QuotedLemmas.{span_goes_on, span_closes}
use Rattle.yaml_text.proofs.quoted.span_of.Goals as goal

pub loop-span-preserved : goal.loop-span-preserved
loop-span-preserved c =
    let rest = take_rest c.args.text.now (c.loop-span.span.size + 1) in
    span_goes_on c.args.quote (get_or c.args.text.now c.loop-span.span.size 0) c.args.text.now c.loop-span.span c.in-Some.longer c.unit_of-unit.result c.loop-span.invariant c.loop-span-test.true refl
    (c.unit_of-unit.ensures.exact ∙ ap (unit_of c.args.quote (get_or c.args.text.now c.loop-span.span.size 0)) rest)
    (subst (λ rest. IsUnit (1 + length rest) c.unit_of-unit.result) rest c.unit_of-unit.ensures.unit) (sym c.in-Some.is ∙ c.with_unit.ensures)

pub returns-in-None-clause-span : goal.returns-in-None-clause-span
returns-in-None-clause-span c =
    let rest = take_rest c.args.text.now (c.loop-span.span.size + 1) in
    span_closes c.args.quote (get_or c.args.text.now c.loop-span.span.size 0) c.args.text.now c.loop-span.span c.unit_of-unit.result c.loop-span.invariant c.loop-span-test.true refl
    (c.unit_of-unit.ensures.exact ∙ ap (unit_of c.args.quote (get_or c.args.text.now c.loop-span.span.size 0)) rest) (sym c.in-None.is ∙ c.with_unit.ensures)
