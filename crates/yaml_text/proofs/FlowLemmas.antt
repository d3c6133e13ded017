-- Flow lists, token by token.
use Rattle.std.proofs.Common.{◌≡◌, ℕ, zero, suc, ◌+◌, ◌-◌, ◌<◌, ◌≤◌, ◌==◌, ◌&&◌, ◌||◌, List, [], ◌∷◌, length, take, drop, get_or, Bool, true, false, Option, Result, Ok, Err, refl, sym, ap, ◌∙◌, subst, add-one, arith, tests}
use Rattle.std.proofs.lemmas.Bool.{eq-eqb, ne_eqb}
use Rattle.std.proofs.lemmas.List.{at_drop_more, at_drop_all, drop-drop, length-drop, get_or-drop, drop_more}
use Rattle.mo_types.specs.Gives.{◌>>=◌, Gives}
use Rattle.std.specs.Prelude.{nat_lt, if◌then◌else◌}
use Rattle.yaml_text.specs.FaultText.{IsYamlFault}
use Rattle.yaml_text.specs.declared.fault.YamlFault.{YamlFault}
use Rattle.yaml_text.specs.declared.flow.FlowPlace.{FlowPlace}
use Rattle.yaml_text.specs.declared.flow.FlowState.{FlowState}
use Rattle.yaml_text.specs.declared.flow.Lexeme.{Lexeme}
use Rattle.yaml_text.specs.declared.token.Token.{Token}
use Rattle.yaml_text.specs.declared.token.Token.TheVariants as token
use Rattle.yaml_text.specs.declared.file.YamlEvent.{YamlEvent}
use Rattle.yaml_text.specs.Characters.{is_blank, is_quote, is_forbidden}
use Rattle.yaml_text.specs.Scalars.{Quoted, is_key_end, plain_from, quoted_of}
use Rattle.yaml_text.specs.Lines.{blanks, is_ended, trimmed}
use Rattle.yaml_text.specs.Flow.{Lexed, lexed, mark, quoted_token, plain_token, forbidden_token, tokens_from, with_token, with_tokens, settled, new_state, flow_of}
use Rattle.yaml_text.specs.inner.Tokens.{IsLexeme, IsFirst}

pub gives_same : {A : Type 0} (result given : Result A YamlFault) → result ≡ given → Gives IsYamlFault result given
gives_same (Ok x) given is = sym is
gives_same (Err e) given is = λ _. sym is

-- bytes that are passed over are dropped
pub passed_over : (skipped : ℕ) (spaced : Bool) (text : List ℕ) → tokens_from skipped spaced text ≡ tokens_from 0 spaced (drop skipped text)
passed_over zero spaced text = refl
passed_over (suc skipped) spaced [] = refl
passed_over (suc skipped) spaced (byte ∷ bytes) = passed_over skipped spaced bytes

-- after some blanks a `#` begins a comment
blanks_by : (test : Bool) (spaced : Bool) (byte : ℕ) (bytes : List ℕ) → is_blank byte ≡ test
    → tokens_from 0 true bytes ≡ tokens_from 0 (true || nat_lt 0 (blanks bytes)) (drop (blanks bytes) bytes)
    → tokens_from 0 spaced (byte ∷ bytes) ≡ tokens_from 0 (spaced || nat_lt 0 (blanks (byte ∷ bytes))) (drop (blanks (byte ∷ bytes)) (byte ∷ bytes))
blanks_by true spaced byte bytes is further =
    let n : blanks (byte ∷ bytes) ≡ suc (blanks bytes) = rw is (add-one (blanks bytes)) in
    let e : tokens_from 0 spaced (byte ∷ bytes) ≡ tokens_from 0 true bytes = rw is refl in
    let f : (spaced || nat_lt 0 (suc (blanks bytes))) ≡ true = or_some spaced (blanks bytes) in
    e ∙ further ∙ ap (λ b. tokens_from 0 b (drop (blanks bytes) bytes)) (sym f) ∙ ap (λ (n : ℕ). tokens_from 0 (spaced || nat_lt 0 n) (drop n (byte ∷ bytes))) (sym n)
  where
    or_some : (b : Bool) (n : ℕ) → (b || nat_lt 0 (suc n)) ≡ true
    or_some true n = refl
    or_some false n = grind (arith, tests)
blanks_by false spaced byte bytes is further =
    let n : blanks (byte ∷ bytes) ≡ 0 = rw is refl in
    ap (λ b. tokens_from 0 b (byte ∷ bytes)) (sym (or_none spaced)) ∙ ap (λ (n : ℕ). tokens_from 0 (spaced || nat_lt 0 n) (drop n (byte ∷ bytes))) (sym n)
  where
    or_none : (b : Bool) → (b || nat_lt 0 0) ≡ b
    or_none true = refl
    or_none false = refl

behind_blanks : (spaced : Bool) (text : List ℕ) → tokens_from 0 spaced text ≡ tokens_from 0 (spaced || nat_lt 0 (blanks text)) (drop (blanks text) text)
behind_blanks spaced [] = refl
behind_blanks spaced (byte ∷ bytes) = blanks_by (is_blank byte) spaced byte bytes refl (behind_blanks true bytes)

other_by : (test : Bool) (byte : ℕ) (bytes : List ℕ) → is_blank byte ≡ test → blanks (byte ∷ bytes) < length (byte ∷ bytes)
    → (blanks bytes < length bytes → is_blank (get_or bytes (blanks bytes) 0) ≡ false) → is_blank (get_or (byte ∷ bytes) (blanks (byte ∷ bytes)) 0) ≡ false
other_by true byte bytes is more further =
    let n : blanks (byte ∷ bytes) ≡ suc (blanks bytes) = rw is (add-one (blanks bytes)) in
    ap (λ (n : ℕ). is_blank (get_or (byte ∷ bytes) n 0)) n ∙ further (omega (arith, n, more))
other_by false byte bytes is more further =
    let n : blanks (byte ∷ bytes) ≡ 0 = rw is refl in
    ap (λ (n : ℕ). is_blank (get_or (byte ∷ bytes) n 0)) n ∙ is

-- behind the blanks at the front of a text stands none
other_behind : (text : List ℕ) → blanks text < length text → is_blank (get_or text (blanks text) 0) ≡ false
other_behind [] more = absurd (omega arith)
other_behind (byte ∷ bytes) more = other_by (is_blank byte) byte bytes refl more (other_behind bytes)

-- a `#` that begins a comment behind some blanks
abbrev begins : ℕ → Bool → ℕ → Bool
begins byte spaced passed = byte == 0x23 && (spaced || nat_lt 0 passed)

-- the tokens of a line from a place on, by what stands behind the blanks there
here : (line : List ℕ) (at passed : ℕ) (spaced : Bool) → passed ≡ blanks (drop at line) → tokens_from 0 spaced (drop at line) ≡ tokens_from 0 (spaced || nat_lt 0 passed) (drop (at + passed) line)
here line at passed spaced is =
    behind_blanks spaced (drop at line) ∙ ap (λ (n : ℕ). tokens_from 0 (spaced || nat_lt 0 n) (drop n (drop at line))) (sym is)
    ∙ ap (tokens_from 0 (spaced || nat_lt 0 passed)) (drop-drop passed at line)

not_blank : (line : List ℕ) (at passed : ℕ) → passed ≡ blanks (drop at line) → at + passed < length line → is_blank (get_or line (at + passed) 0) ≡ false
not_blank line at passed is more =
    let within : blanks (drop at line) < length (drop at line) = omega (arith, length-drop at line) in
    let g : get_or (drop at line) passed 0 ≡ get_or line (at + passed) 0 = get_or-drop at line passed 0 in
    sym (ap is_blank g) ∙ ap (λ (n : ℕ). is_blank (get_or (drop at line) n 0)) is ∙ other_behind (drop at line) within

pub no_token : (line : List ℕ) (at passed : ℕ) (spaced : Bool) → passed ≡ blanks (drop at line) → at + passed ≡ length line → tokens_from 0 spaced (drop at line) ≡ []
no_token line at passed spaced is past =
    here line at passed spaced is ∙ at_drop_all (tokens_from 0 (spaced || nat_lt 0 passed)) line (at + passed) (omega arith)

pub comment_token : (line : List ℕ) (at passed byte : ℕ) (spaced : Bool) → passed ≡ blanks (drop at line) → at + passed < length line → byte ≡ get_or line (at + passed) 0
    → (byte == 0x23 && (spaced || nat_lt 0 passed)) ≡ true → tokens_from 0 spaced (drop at line) ≡ []
comment_token line at passed byte spaced is more byte_is comment =
    let other : is_blank (get_or line (at + passed) 0) ≡ false = not_blank line at passed is more in
    let c : begins (get_or line (at + passed) 0) spaced passed ≡ true = ap (λ (b : ℕ). begins b spaced passed) (sym byte_is) ∙ comment in
    here line at passed spaced is ∙ at_drop_more (tokens_from 0 (spaced || nat_lt 0 passed)) line (at + passed) 0 more ∙ rw (other, c) refl

pub first_token : (line : List ℕ) (at passed byte : ℕ) (spaced : Bool) (lexeme : Lexeme) → passed ≡ blanks (drop at line) → at + passed < length line → byte ≡ get_or line (at + passed) 0
    → (byte == 0x23 && (spaced || nat_lt 0 passed)) ≡ false → IsLexeme line (at + passed) lexeme (lexed byte (drop (at + passed + 1) line)) → IsFirst line at spaced lexeme
first_token line at passed byte spaced lexeme is more byte_is plain lexeme_is =
    let other : is_blank (get_or line (at + passed) 0) ≡ false = not_blank line at passed is more in
    let c : begins (get_or line (at + passed) 0) spaced passed ≡ false = ap (λ (b : ℕ). begins b spaced passed) (sym byte_is) ∙ plain in
    let e : tokens_from 0 spaced (drop at line) ≡ (lexed (get_or line (at + passed) 0) (drop (at + passed + 1) line)).token
    ∷ tokens_from ((lexed (get_or line (at + passed) 0) (drop (at + passed + 1) line)).size - 1) (lexed (get_or line (at + passed) 0) (drop (at + passed + 1) line)).spaced (drop (at + passed + 1) line) =
    here line at passed spaced is ∙ at_drop_more (tokens_from 0 (spaced || nat_lt 0 passed)) line (at + passed) 0 more ∙ rw (other, c) refl in
    let f : tokens_from 0 spaced (drop at line) ≡ (lexed byte (drop (at + passed + 1) line)).token ∷ tokens_from ((lexed byte (drop (at + passed + 1) line)).size - 1) (lexed byte (drop (at + passed + 1) line)).spaced (drop (at + passed + 1) line) =
    e ∙ ap (λ (b : ℕ). (lexed b (drop (at + passed + 1) line)).token ∷ tokens_from ((lexed b (drop (at + passed + 1) line)).size - 1) (lexed b (drop (at + passed + 1) line)).spaced (drop (at + passed + 1) line)) (sym byte_is) in
    record {
      same = f ∙ joined line (at + passed) lexeme (lexed byte (drop (at + passed + 1) line)) lexeme_is;
      more = let s : 1 ≤ (lexed byte (drop (at + passed + 1) line)).size = lexeme_is.some in omega (arith, lexeme_is.next);
      within = lexeme_is.within;
    }
  where
    joined : (line : List ℕ) (at : ℕ) (lexeme : Lexeme) (lexed : Lexed) → IsLexeme line at lexeme lexed
        → lexed.token ∷ tokens_from (lexed.size - 1) lexed.spaced (drop (at + 1) line) ≡ lexeme.token ∷ tokens_from 0 lexeme.spaced (drop lexeme.next line)
    joined line at lexeme lexed is =
        let n : at + 1 + (lexed.size - 1) ≡ lexeme.next = let s : 1 ≤ lexed.size = is.some in omega (arith, is.next) in
        ap (λ tokens. lexed.token ∷ tokens) (passed_over (lexed.size - 1) lexed.spaced (drop (at + 1) line) ∙ ap (tokens_from 0 lexed.spaced) (drop-drop (lexed.size - 1) (at + 1) line ∙ ap (λ (n : ℕ). drop n line) n))
        ∙ ap (λ token. token ∷ tokens_from 0 lexed.spaced (drop lexeme.next line)) (sym is.token) ∙ ap (λ spaced. lexeme.token ∷ tokens_from 0 spaced (drop lexeme.next line)) (sym is.spaced)

pub ruleset nexts = (no_token, comment_token, first_token)

-- Tokens at a place

as_lexed : (line : List ℕ) (at : ℕ) (lexeme : Lexeme) (one other : Lexed) → one ≡ other → IsLexeme line at lexeme other → IsLexeme line at lexeme one
as_lexed line at lexeme one other is lexeme_is = subst (IsLexeme line at lexeme) (sym is) lexeme_is

as_mark : (line : List ℕ) (at : ℕ) (token : Token) (lexeme : Lexeme) → at < length line → lexeme ≡ record { token = token; next = at + 1; spaced = false } → IsLexeme line at lexeme (mark token)
as_mark line at token lexeme more is = record {
  token = ap (λ (l : Lexeme). l.token) is;
  next = ap (λ (l : Lexeme). l.next) is;
  spaced = ap (λ (l : Lexeme). l.spaced) is;
  some = omega arith;
  within = let n : lexeme.next ≡ at + 1 = ap (λ (l : Lexeme). l.next) is in omega arith;
}

pub lex_comma : (line : List ℕ) (at byte : ℕ) (lexeme : Lexeme) → at < length line → byte ≡ 0x2c → lexeme ≡ record { token = token.Comma; next = at + 1; spaced = false }
    → IsLexeme line at lexeme (lexed byte (drop (at + 1) line))
unfolding lexed
lex_comma line at byte lexeme more comma is =
    let t : (byte == 0x2c) ≡ true = eq-eqb byte 0x2c comma in
    as_lexed line at lexeme (lexed byte (drop (at + 1) line)) (mark token.Comma) (rw t refl) (as_mark line at token.Comma lexeme more is)

pub lex_close : (line rest : List ℕ) (at byte : ℕ) (ended : Bool) (lexeme : Lexeme) → at < length line → rest ≡ drop (at + 1) line → (byte ≡ 0x2c → ⊥) → byte ≡ 0x5d → ended ≡ is_ended rest
    → lexeme ≡ record { token = token.Close ended; next = at + 1; spaced = false } → IsLexeme line at lexeme (lexed byte (drop (at + 1) line))
unfolding lexed
lex_close line rest at byte ended lexeme more rest_is other close ended_is is =
    let t : (byte == 0x2c) ≡ false = ne_eqb byte 0x2c other in
    let u : (byte == 0x5d) ≡ true = eq-eqb byte 0x5d close in
    let e : is_ended (drop (at + 1) line) ≡ ended = ap is_ended (sym rest_is) ∙ sym ended_is in
    as_lexed line at lexeme (lexed byte (drop (at + 1) line)) (mark (token.Close ended)) (rw (t, u) (ap (λ ended. mark (token.Close ended)) e)) (as_mark line at (token.Close ended) lexeme more is)

-- the byte at a place and those behind it
whole : (line text : List ℕ) (at byte : ℕ) → at < length line → byte ≡ get_or line at 0 → text ≡ drop at line → byte ∷ drop (at + 1) line ≡ text
whole line text at byte more byte_is is = ap (λ (b : ℕ). b ∷ drop (at + 1) line) byte_is ∙ sym (drop_more line at 0 more) ∙ sym is

pub lex_colon : (line text : List ℕ) (at byte : ℕ) (lexeme : Lexeme) → at < length line → byte ≡ get_or line at 0 → text ≡ drop at line → (byte ≡ 0x2c → ⊥) → (byte ≡ 0x5d → ⊥) → is_key_end text ≡ true
    → lexeme ≡ record { token = token.Colon; next = at + 1; spaced = false } → IsLexeme line at lexeme (lexed byte (drop (at + 1) line))
unfolding lexed
lex_colon line text at byte lexeme more byte_is text_is other another end is =
    let t : (byte == 0x2c) ≡ false = ne_eqb byte 0x2c other in
    let u : (byte == 0x5d) ≡ false = ne_eqb byte 0x5d another in
    let e : is_key_end (byte ∷ drop (at + 1) line) ≡ true = ap is_key_end (whole line text at byte more byte_is text_is) ∙ end in
    as_lexed line at lexeme (lexed byte (drop (at + 1) line)) (mark token.Colon) (rw (t, u, e) refl) (as_mark line at token.Colon lexeme more is)

-- a byte that is no comma, bracket or colon
pub record IsInside (line : List ℕ) (at byte : ℕ) : Type 0 where
  pub comma : (byte == 0x2c) ≡ false
  pub close : (byte == 0x5d) ≡ false
  pub colon : is_key_end (byte ∷ drop (at + 1) line) ≡ false

pub inside : (line text : List ℕ) (at byte : ℕ) → at < length line → byte ≡ get_or line at 0 → text ≡ drop at line → (byte ≡ 0x2c → ⊥) → (byte ≡ 0x5d → ⊥) → is_key_end text ≡ false → IsInside line at byte
inside line text at byte more byte_is text_is other another end = record {
  comma = ne_eqb byte 0x2c other;
  close = ne_eqb byte 0x5d another;
  colon = ap is_key_end (whole line text at byte more byte_is text_is) ∙ end;
}

pub lex_quoted : (line : List ℕ) (at byte : ℕ) (lexeme : Lexeme) (quoted : Option Quoted) → IsInside line at byte → is_quote byte ≡ true → quoted ≡ quoted_of byte (drop (at + 1) line)
    → IsLexeme line at lexeme (quoted_token (drop (at + 1) line) quoted) → IsLexeme line at lexeme (lexed byte (drop (at + 1) line))
unfolding lexed
lex_quoted line at byte lexeme quoted inner quote is lexeme_is =
    as_lexed line at lexeme (lexed byte (drop (at + 1) line)) (quoted_token (drop (at + 1) line) quoted)
    (rw (inner.comma, inner.close, inner.colon, quote) (ap (quoted_token (drop (at + 1) line)) (sym is))) lexeme_is

pub lex_forbidden : (line rest : List ℕ) (at byte size : ℕ) (lexeme : Lexeme) → at < length line → IsInside line at byte → is_quote byte ≡ false → is_forbidden byte ≡ true → rest ≡ drop (at + 1) line
    → size ≡ plain_from true false rest → size ≤ length rest → lexeme ≡ record { token = token.Forbidden; next = at + (size + 1); spaced = true } → IsLexeme line at lexeme (lexed byte (drop (at + 1) line))
unfolding lexed
lex_forbidden line rest at byte size lexeme more inner other forbidden rest_is size_is small is =
    let n : plain_from true false (drop (at + 1) line) ≡ size = ap (plain_from true false) (sym rest_is) ∙ sym size_is in
    as_lexed line at lexeme (lexed byte (drop (at + 1) line)) (forbidden_token (size + 1))
    (rw (inner.comma, inner.close, inner.colon, other, forbidden) (ap (λ (n : ℕ). forbidden_token (n + 1)) n))
    (record {
      token = ap (λ (l : Lexeme). l.token) is;
      next = ap (λ (l : Lexeme). l.next) is;
      spaced = ap (λ (l : Lexeme). l.spaced) is;
      some = omega arith;
      within = let n : lexeme.next ≡ at + (size + 1) = ap (λ (l : Lexeme). l.next) is in omega (arith, ap length rest_is, length-drop (at + 1) line);
    })

pub lex_plain : (line rest text : List ℕ) (at byte size : ℕ) (lexeme : Lexeme) → at < length line → byte ≡ get_or line at 0 → IsInside line at byte → is_quote byte ≡ false → is_forbidden byte ≡ false
    → rest ≡ drop (at + 1) line → size ≡ plain_from true false rest → size ≤ length rest → text ≡ trimmed (take (size + 1) (drop at line))
    → lexeme ≡ record { token = token.Scalar text; next = at + (size + 1); spaced = true } → IsLexeme line at lexeme (lexed byte (drop (at + 1) line))
unfolding lexed
lex_plain line rest text at byte size lexeme more byte_is inner other free rest_is size_is small text_is is =
    let n : plain_from true false (drop (at + 1) line) ≡ size = ap (plain_from true false) (sym rest_is) ∙ sym size_is in
    let w : byte ∷ drop (at + 1) line ≡ drop at line = whole line (drop at line) at byte more byte_is refl in
    as_lexed line at lexeme (lexed byte (drop (at + 1) line)) (record { token = token.Scalar text; size = size + 1; spaced = true })
    (rw (inner.comma, inner.close, inner.colon, other, free)
    (ap (λ (n : ℕ). plain_token (n + 1) (byte ∷ drop (at + 1) line)) n ∙ ap (plain_token (size + 1)) w ∙ ap (λ text. record { token = token.Scalar text; size = size + 1; spaced = true }) (sym text_is)))
    (record {
      token = ap (λ (l : Lexeme). l.token) is;
      next = ap (λ (l : Lexeme). l.next) is;
      spaced = ap (λ (l : Lexeme). l.spaced) is;
      some = omega arith;
      within = let n : lexeme.next ≡ at + (size + 1) = ap (λ (l : Lexeme). l.next) is in omega (arith, ap length rest_is, length-drop (at + 1) line);
    })

-- Token by token

pub record IsFlowing (place : FlowPlace) (line : List ℕ) (at : ℕ) (spaced : Bool) (state : FlowState) (given : Result FlowState YamlFault) : Type 0 where
  pub same : with_tokens place state (tokens_from 0 spaced (drop at line)) ≡ given
  pub within : at ≤ length line

pub flow_starts : (place : FlowPlace) (line : List ℕ) (at : ℕ) (wants spaced : Bool) (events : List YamlEvent) (state : FlowState) → at ≤ length line → state ≡ new_state wants events
    → IsFlowing place line at spaced state (flow_of place wants spaced events (drop at line))
unfolding flow_of
flow_starts place line at wants spaced events state within is = record { same = ap (λ state. with_tokens place state (tokens_from 0 spaced (drop at line))) is; within = within }

step : (place : FlowPlace) (line : List ℕ) (at : ℕ) (spaced : Bool) (state : FlowState) (lexeme : Lexeme) (given : Result FlowState YamlFault) → IsFlowing place line at spaced state given
    → IsFirst line at spaced lexeme
    → (with_token place lexeme.token state >>= λ state. if state.closed then settled place state else with_tokens place state (tokens_from 0 lexeme.spaced (drop lexeme.next line))) ≡ given
step place line at spaced state lexeme given flowing first = sym (ap (with_tokens place state) first.same) ∙ flowing.same

pub flow_goes_on : (place : FlowPlace) (line : List ℕ) (at : ℕ) (spaced : Bool) (state next : FlowState) (lexeme : Lexeme) (given : Result FlowState YamlFault) → IsFlowing place line at spaced state given
    → IsFirst line at spaced lexeme → with_token place lexeme.token state ≡ Ok next → next.closed ≡ false → IsFlowing place line lexeme.next lexeme.spaced next given
flow_goes_on place line at spaced state next lexeme given flowing first is more = record {
  same = sym (rw is (rw more refl)) ∙ step place line at spaced state lexeme given flowing first;
  within = first.within;
}

pub flow_closes : (place : FlowPlace) (line : List ℕ) (at : ℕ) (spaced : Bool) (state next : FlowState) (lexeme : Lexeme) (given result : Result FlowState YamlFault) → IsFlowing place line at spaced state given
    → IsFirst line at spaced lexeme → with_token place lexeme.token state ≡ Ok next → next.closed ≡ true → result ≡ settled place next → Gives IsYamlFault result given
flow_closes place line at spaced state next lexeme given result flowing first is closed settles =
    gives_same result given (settles ∙ sym (rw is (rw closed refl)) ∙ step place line at spaced state lexeme given flowing first)

pub flow_fails : (place : FlowPlace) (line : List ℕ) (at : ℕ) (spaced : Bool) (state : FlowState) (lexeme : Lexeme) (given : Result FlowState YamlFault) (fault : YamlFault) → IsFlowing place line at spaced state given
    → IsFirst line at spaced lexeme → with_token place lexeme.token state ≡ Err fault → given ≡ Err fault
flow_fails place line at spaced state lexeme given fault flowing first is =
    sym (step place line at spaced state lexeme given flowing first) ∙ rw is refl

pub flow_ends : (place : FlowPlace) (line : List ℕ) (at : ℕ) (spaced : Bool) (state : FlowState) (given result : Result FlowState YamlFault) → IsFlowing place line at spaced state given
    → tokens_from 0 spaced (drop at line) ≡ [] → result ≡ settled place state → Gives IsYamlFault result given
flow_ends place line at spaced state given result flowing none settles =
    gives_same result given (settles ∙ sym (ap (with_tokens place state) none) ∙ flowing.same)

pub ruleset flows = (flow_starts, flow_goes_on, flow_closes, flow_fails, flow_ends)
