-- Flow lists (YAML 1.2, 7.4.1): `[`, scalars with commas between them and perhaps after the last, `]`, over any lines.
use Rattle.std.specs.Prelude.{ℕ, zero, suc, ◌+◌, ◌-◌, ◌==◌, ◌&&◌, Bool, true, false, List, [], ◌∷◌, ◌++◌, length, take, Option, Some, None, Result, Ok, Err, if◌then◌else◌}
use Rattle.mo_types.specs.Gives.{◌>>=◌}
use Rattle.mo_types.specs.declared.cause.Rule.TheVariants as rule
use Rattle.yaml_text.specs.declared.fault.YamlFault.{YamlFault}
use Rattle.yaml_text.specs.declared.fault.YamlFault.TheVariants.{At}
use Rattle.yaml_text.specs.declared.file.YamlEvent.{YamlEvent}
use Rattle.yaml_text.specs.declared.file.YamlEvent.TheVariants as event
use Rattle.yaml_text.specs.declared.token.Token.{Token}
use Rattle.yaml_text.specs.declared.token.Token.TheVariants as token
use Rattle.yaml_text.specs.declared.flow.FlowPlace.{FlowPlace}
use Rattle.yaml_text.specs.declared.flow.FlowState.{FlowState}
use Rattle.yaml_text.specs.Characters.{is_blank, is_quote, is_forbidden}
use Rattle.yaml_text.specs.Lines.{is_ended, trimmed}
use Rattle.yaml_text.specs.Scalars.{Quoted, is_key_end, plain_from, quoted_of}

-- a token at the front of a text: what it is, how many bytes it has, and whether a `#` right behind it is a comment
pub record Lexed : Type 0 where
  pub token : Token
  pub size : ℕ
  pub spaced : Bool

abbrev pub quoted_token : List ℕ → Option Quoted → Lexed
quoted_token bytes None = record { token = token.Unclosed; size = length bytes + 1; spaced = false }
quoted_token bytes (Some quoted) = record {
  token = if quoted.known then token.Scalar quoted.text else token.Escaped;
  size = length bytes + 1 - length quoted.rest;
  spaced = false;
}

-- a plain scalar ends before a comma, a bracket or a colon, or where a comment begins behind a blank
abbrev pub plain_token : ℕ → List ℕ → Lexed
plain_token size text = record { token = token.Scalar (trimmed (take size text)); size = size; spaced = true }

abbrev pub forbidden_token : ℕ → Lexed
forbidden_token size = record { token = token.Forbidden; size = size; spaced = true }

abbrev pub mark : Token → Lexed
mark token = record { token = token; size = 1; spaced = false }

-- the token that a byte begins
unfoldable pub lexed : ℕ → List ℕ → Lexed
lexed byte bytes =
    if byte == 0x2c then mark token.Comma
    else if byte == 0x5d then mark (token.Close (is_ended bytes))
    else if is_key_end (byte ∷ bytes) then mark token.Colon
    else if is_quote byte then quoted_token bytes (quoted_of byte bytes)
    else if is_forbidden byte then forbidden_token (plain_from true false bytes + 1)
    else plain_token (plain_from true false bytes + 1) (byte ∷ bytes)

-- The tokens of a line from a place on, behind some bytes that are passed over. A `#` begins a comment at the line's
-- start and behind a blank.
abbrev pub tokens_from : ℕ → Bool → List ℕ → List Token
tokens_from skipped spaced [] = []
tokens_from (suc skipped) spaced (byte ∷ bytes) = tokens_from skipped spaced bytes
tokens_from zero spaced (byte ∷ bytes) =
    if is_blank byte then tokens_from 0 true bytes
    else if byte == 0x23 && spaced then []
    else (lexed byte bytes).token ∷ tokens_from ((lexed byte bytes).size - 1) (lexed byte bytes).spaced bytes

-- What a line makes of an open flow list: scalars and commas take turns, and nothing but a comment follows the
-- bracket. A fault of this form is told at the line that opened the list, and comes before what is at fault in scalars.
abbrev pub with_token : FlowPlace → Token → FlowState → Result FlowState YamlFault
with_token place token.Comma state = if state.wants then Err (At place.opened rule.Flow) else Ok (record state { wants = true })
with_token place (token.Close ended) state =
    if ended then Ok (record state { events = state.events ++ event.End ∷ []; closed = true }) else Err (At place.opened rule.Flow)
with_token place token.Colon state = Err (At place.opened rule.Flow)
with_token place (token.Scalar text) state =
    if state.wants then Ok (record state { events = state.events ++ event.Scalar text ∷ []; wants = false }) else Err (At place.opened rule.Flow)
with_token place token.Escaped state =
    if state.wants then Ok (record state { escaped = true; wants = false }) else Err (At place.opened rule.Flow)
with_token place token.Forbidden state =
    if state.wants then Ok (record state { spoiled = true; wants = false }) else Err (At place.opened rule.Flow)
with_token place token.Unclosed state =
    if state.wants then Err (At place.line rule.Quote) else Err (At place.opened rule.Flow)

-- the fault of a line on which the list's form is right: an escape comes before a forbidden character
abbrev pub settled : FlowPlace → FlowState → Result FlowState YamlFault
settled place state =
    if state.escaped then Err (At place.line rule.Escape) else if state.spoiled then Err (At place.line rule.Scalar) else Ok state

abbrev pub with_tokens : FlowPlace → FlowState → List Token → Result FlowState YamlFault
with_tokens place state [] = settled place state
with_tokens place state (token ∷ tokens) =
    with_token place token state >>= λ state. if state.closed then settled place state else with_tokens place state tokens

-- a flow list at the start of a line's part
abbrev pub new_state : Bool → List YamlEvent → FlowState
new_state wants events = record { events = events; wants = wants; closed = false; escaped = false; spoiled = false }

-- what the rest of a line makes of a flow list
unfoldable pub flow_of : FlowPlace → Bool → Bool → List YamlEvent → List ℕ → Result FlowState YamlFault
flow_of place wants spaced events text = with_tokens place (new_state wants events) (tokens_from 0 spaced text)
