use Rattle.std.proofs.Common.{drop, sym, ap, ◌∙◌}
use Rattle.std.proofs.lemmas.List.{take_rest}
use Rattle.yaml_text.specs.Scalars.{is_key_end}
use Rattle.yaml_text.proofs.PlainLemmas.{keyed_behind}
use Rattle.yaml_text.proofs.scalars.quoted_key.Goals as goal

pub returns-then-is_key_end-clause-exact : goal.returns-then-is_key_end-clause-exact
returns-then-is_key_end-clause-exact c =
    let rest = take_rest c.as_slice.result.now c.args.quoted.rest ∙ ap (drop c.args.quoted.rest) c.as_slice.ensures in
    keyed_behind c.args.line.now c.args.quoted.text c.args.quoted.known c.args.quoted.rest c.if-known.true (sym (ap is_key_end rest) ∙ sym c.is_key_end.ensures ∙ c.if-is_key_end.true)
