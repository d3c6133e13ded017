use Rattle.std.proofs.Common.{List, ℕ, ◌+◌, Some, drop, get_or, sym, ap, ◌∙◌}
use Rattle.std.specs.Option.{option_map}
use Rattle.std.proofs.lemmas.List.{take_rest}
use Rattle.yaml_text.specs.Characters.{is_quote}
use Rattle.yaml_text.specs.Lines.{is_empty}
use Rattle.yaml_text.specs.Scalars.{quoted_of}
use Rattle.yaml_text.specs.inner.Units.{quoted_in, keyed_in}
use Rattle.yaml_text.proofs.PlainLemmas.{key_begins, key_quoted}
use Rattle.yaml_text.proofs.scalars.key_of.Goals as goal

pub returns-in-Some-clause-exact : goal.returns-in-Some-clause-exact
returns-in-Some-clause-exact c =
    let text = take_rest c.as_slice.result.now c.args.at ∙ ap (drop c.args.at) c.as_slice.ensures in
    key_begins (drop c.args.at c.args.line.now) (option_map (keyed_in c.args.line.now) c.quoted_key.result) (sym (ap is_empty text) ∙ sym c.is_empty.ensures ∙ c.if-is_empty.false)
    (key_quoted c.args.line.now c.args.at (get_or (drop c.args.at c.args.line.now) 0 0) (option_map (keyed_in c.args.line.now) c.quoted_key.result) (Some (quoted_in c.args.line.now c.in-Some.quoted))
    (sym (ap (λ (text : List ℕ). is_quote (get_or text 0 0)) text) ∙ sym c.is_quote.ensures ∙ c.if-is_quote.true)
    (sym (ap (option_map (quoted_in c.args.line.now)) c.in-Some.is) ∙ c.in_ok-quoted_of.ensures.exact ∙ ap (λ (text : List ℕ). quoted_of (get_or text 0 0) (drop (c.args.at + 1) c.args.line.now)) text)
    c.quoted_key.ensures.exact)
