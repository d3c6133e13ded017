use Rattle.std.proofs.Common.{List, ℕ, ◌+◌, ◌<◌, length, get_or, sym, ap, ◌∙◌, arith}
use Rattle.std.proofs.lemmas.List.{length-drop}
use Rattle.yaml_text.specs.Lines.{blanks}
use Rattle.yaml_text.proofs.FlowLemmas.{no_token, comment_token, first_token}
use Rattle.yaml_text.proofs.flow.next_token.Goals as goal

pub returns-then-place-len : goal.returns-then-place-len
returns-then-place-len c =
    no_token c.args.line.now c.args.at c.blanks-passed.result c.args.spaced (c.blanks-passed.ensures.exact ∙ ap blanks c.behind.ensures.exact) (c.if-place-len.true ∙ c.len.ensures)

pub returns-then-begins_comment : goal.returns-then-begins_comment
returns-then-begins_comment c =
    let more : c.args.at + c.blanks-passed.result < length c.args.line.now = omega (arith, c.blanks-passed.ensures.within, ap length c.behind.ensures.exact, length-drop c.args.at c.args.line.now, c.if-place-len.false) in
    comment_token c.args.line.now c.args.at c.blanks-passed.result (get_or c.as_slice.result.now (c.args.at + c.blanks-passed.result) 0) c.args.spaced (c.blanks-passed.ensures.exact ∙ ap blanks c.behind.ensures.exact) more
    (ap (λ (line : List ℕ). get_or line (c.args.at + c.blanks-passed.result) 0) c.as_slice.ensures) (sym c.begins_comment.ensures ∙ c.if-begins_comment.true)

pub returns : goal.returns
returns c =
    let more : c.args.at + c.blanks-passed.result < length c.args.line.now = omega (arith, c.blanks-passed.ensures.within, ap length c.behind.ensures.exact, length-drop c.args.at c.args.line.now, c.if-place-len.false) in
    first_token c.args.line.now c.args.at c.blanks-passed.result (get_or c.as_slice.result.now (c.args.at + c.blanks-passed.result) 0) c.args.spaced c.in_ok-lexed.field-0 (c.blanks-passed.ensures.exact ∙ ap blanks c.behind.ensures.exact) more
    (ap (λ (line : List ℕ). get_or line (c.args.at + c.blanks-passed.result) 0) c.as_slice.ensures) (sym c.begins_comment.ensures ∙ c.if-begins_comment.false) c.in_ok-lexed.ensures
