use Rattle.std.proofs.Common.{sym, ◌∙◌}
use Rattle.std.specs.Option.{option_map}
use Rattle.yaml_text.specs.inner.Units.{quoted_in}
use Rattle.yaml_text.proofs.FlowLemmas.{lex_comma, lex_close, lex_colon, lex_quoted, lex_forbidden, lex_plain, inside}
use Rattle.yaml_text.proofs.flow.lexed.Goals as goal

pub returns-then-byte-eq44 : goal.returns-then-byte-eq44
returns-then-byte-eq44 c = lex_comma c.args.line.now c.args.at c.args.byte c.mark.result c.requires.within c.if-byte-eq44.true c.mark.ensures

pub returns-then-byte-eq93 : goal.returns-then-byte-eq93
returns-then-byte-eq93 c =
    lex_close c.args.line.now c.behind-rest.result.now c.args.at c.args.byte c.is_ended.result c.mark-then-byte-eq93.result c.requires.within c.behind-rest.ensures.exact c.if-byte-eq44.false c.if-byte-eq93.true c.is_ended.ensures
    c.mark-then-byte-eq93.ensures

pub returns-then-is_key_end : goal.returns-then-is_key_end
returns-then-is_key_end c =
    lex_colon c.args.line.now c.behind-text.result.now c.args.at c.args.byte c.mark-then-is_key_end.result c.requires.within c.requires.first c.behind-text.ensures.exact c.if-byte-eq44.false c.if-byte-eq93.false
    (sym c.is_key_end.ensures ∙ c.if-is_key_end.true) c.mark-then-is_key_end.ensures

pub returns-in_ok-quoted : goal.returns-in_ok-quoted
returns-in_ok-quoted c =
    lex_quoted c.args.line.now c.args.at c.args.byte c.quoted_lexeme.result (option_map (quoted_in c.args.line.now) c.in_ok-quoted.quoted)
    (inside c.args.line.now c.behind-text.result.now c.args.at c.args.byte c.requires.within c.requires.first c.behind-text.ensures.exact c.if-byte-eq44.false c.if-byte-eq93.false (sym c.is_key_end.ensures ∙ c.if-is_key_end.false))
    (sym c.is_quote.ensures ∙ c.if-is_quote.true) c.in_ok-quoted.ensures.exact c.quoted_lexeme.ensures

pub returns-then-is_forbidden : goal.returns-then-is_forbidden
returns-then-is_forbidden c =
    lex_forbidden c.args.line.now c.behind-rest.result.now c.args.at c.args.byte c.plain_from-size.result c.forbidden_lexeme.result c.requires.within
    (inside c.args.line.now c.behind-text.result.now c.args.at c.args.byte c.requires.within c.requires.first c.behind-text.ensures.exact c.if-byte-eq44.false c.if-byte-eq93.false (sym c.is_key_end.ensures ∙ c.if-is_key_end.false))
    (sym c.is_quote.ensures ∙ c.if-is_quote.false) (sym c.is_forbidden.ensures ∙ c.if-is_forbidden.true) c.behind-rest.ensures.exact c.plain_from-size.ensures.exact c.plain_from-size.ensures.within c.forbidden_lexeme.ensures

pub returns-in_ok-scalar : goal.returns-in_ok-scalar
returns-in_ok-scalar c =
    lex_plain c.args.line.now c.behind-rest.result.now c.in_ok-scalar.scalar c.args.at c.args.byte c.plain_from-size-else-is_forbidden.result c.plain_lexeme.result c.requires.within c.requires.first
    (inside c.args.line.now c.behind-text.result.now c.args.at c.args.byte c.requires.within c.requires.first c.behind-text.ensures.exact c.if-byte-eq44.false c.if-byte-eq93.false (sym c.is_key_end.ensures ∙ c.if-is_key_end.false))
    (sym c.is_quote.ensures ∙ c.if-is_quote.false) (sym c.is_forbidden.ensures ∙ c.if-is_forbidden.false) c.behind-rest.ensures.exact c.plain_from-size-else-is_forbidden.ensures.exact c.plain_from-size-else-is_forbidden.ensures.within
    c.in_ok-scalar.ensures c.plain_lexeme.ensures
