use Rattle.std.proofs.Common.{ℕ, ◌+◌, length, get_or, sym, ap, ◌∙◌, subst}
use Rattle.std.proofs.lemmas.List.{take_rest}
use Rattle.yaml_text.specs.Scalars.{unit_of}
use Rattle.yaml_text.specs.inner.Units.{IsUnit}
use Rattle.yaml_text.proofs.QuotedLemmas.{IsReadingText, text_goes_on, text_closes}
use Rattle.yaml_text.proofs.quoted.meant_text.Goals as goal

pub returns-then-is_closing : goal.returns-then-is_closing
returns-then-is_closing c =
    let rest = take_rest c.args.text.now (c.loop-at.at + 1) in
    text_closes c.args.quote c.loop-at.at c.args.text.now c.loop-at.bytes.items c.unit_of-unit.result c.loop-at.invariant c.loop-at-test.true
    (c.unit_of-unit.ensures.exact ∙ ap (unit_of c.args.quote (get_or c.args.text.now c.loop-at.at 0)) rest) (sym c.is_closing.ensures ∙ c.if-is_closing.true)

pub loop-at-preserved : goal.loop-at-preserved
loop-at-preserved c =
    let rest = take_rest c.args.text.now (c.loop-at.at + 1) in
    subst (λ (n : ℕ). IsReadingText c.args.quote c.args.text.now (c.loop-at.at + n) c.push_meant.new.bytes.items) (sym c.size_of-at.ensures)
    (text_goes_on c.args.quote c.loop-at.at c.args.text.now c.loop-at.bytes.items c.push_meant.new.bytes.items c.unit_of-unit.result c.loop-at.invariant c.loop-at-test.true
    (c.unit_of-unit.ensures.exact ∙ ap (unit_of c.args.quote (get_or c.args.text.now c.loop-at.at 0)) rest)
    (subst (λ rest. IsUnit (1 + length rest) c.unit_of-unit.result) rest c.unit_of-unit.ensures.unit) (sym c.is_closing.ensures ∙ c.if-is_closing.false) c.in_ok-push_meant.ensures)
