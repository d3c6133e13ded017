use Rattle.std.proofs.Common.{List, ℕ, ◌+◌, drop, get_or, sym, ap, ◌∙◌}
use Rattle.std.specs.Option.{option_map}
use Rattle.std.proofs.lemmas.List.{take_rest}
use Rattle.yaml_text.specs.Characters.{is_quote}
use Rattle.yaml_text.specs.Lines.{is_empty}
use Rattle.yaml_text.specs.Scalars.{quoted_of}
use Rattle.yaml_text.specs.inner.Units.{quoted_in}
use Rattle.yaml_text.proofs.PlainLemmas.{scalar_begins, scalar_quoted}
use Rattle.yaml_text.proofs.scalars.scalar_of.Goals as goal

pub returns-in_ok-quoted : goal.returns-in_ok-quoted
returns-in_ok-quoted c =
    let text = take_rest c.as_slice.result.now c.args.at ∙ ap (drop c.args.at) c.as_slice.ensures in
    scalar_begins c.args.number (drop c.args.at c.args.line.now) c.quoted_alone.result (sym (ap is_empty text) ∙ sym c.is_empty.ensures ∙ c.if-is_empty.false)
    (scalar_quoted c.args.number c.args.line.now c.args.at (get_or (drop c.args.at c.args.line.now) 0 0) c.quoted_alone.result (option_map (quoted_in c.args.line.now) c.in_ok-quoted.quoted)
    (sym (ap (λ (text : List ℕ). is_quote (get_or text 0 0)) text) ∙ sym c.is_quote.ensures ∙ c.if-is_quote.true)
    (c.in_ok-quoted.ensures.exact ∙ ap (λ (text : List ℕ). quoted_of (get_or text 0 0) (drop (c.args.at + 1) c.args.line.now)) text) c.quoted_alone.ensures)
