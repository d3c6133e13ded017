-- Scalars and keys on one line (YAML 1.2, 7.3 and 7.4).
use Rattle.std.specs.Prelude.{ℕ, zero, suc, ◌+◌, ◌-◌, ◌*◌, ◌==◌, ◌&&◌, ◌||◌, nat_lt, Bool, true, false, not, List, [], ◌∷◌, take, drop, slice_index, Option, Some, None, Result, Ok, Err, if◌then◌else◌}
use Rattle.mo_types.specs.declared.cause.Rule.TheVariants as rule
use Rattle.yaml_text.specs.declared.fault.YamlFault.{YamlFault}
use Rattle.yaml_text.specs.declared.fault.YamlFault.TheVariants.{At}
use Rattle.yaml_text.specs.declared.units.QuotedUnit.{QuotedUnit}
use Rattle.yaml_text.specs.declared.units.QuotedUnit.TheVariants.{Closing, Meant, Unknown}
use Rattle.yaml_text.specs.Characters.{is_blank, is_quote, is_forbidden}
use Rattle.yaml_text.specs.Lines.{is_empty, is_ended, trimmed, begins_with}

-- Plain scalars

-- after a `:` it ends a key: the line ends, or a space follows
abbrev pub is_separator : List ℕ → Bool
is_separator [] = true
is_separator (byte ∷ bytes) = byte == 0x20

abbrev pub is_key_end : List ℕ → Bool
is_key_end [] = false
is_key_end (byte ∷ bytes) = byte == 0x3a && is_separator bytes

-- A plain scalar ends before `: `, before a `#` that follows a blank, and in a flow list before `,` and `]`.
abbrev pub ends_plain : Bool → Bool → ℕ → List ℕ → Bool
ends_plain in_flow spaced byte bytes =
    is_key_end (byte ∷ bytes) || (byte == 0x23 && spaced) || (in_flow && (byte == 0x2c || byte == 0x5d))

-- how many bytes stand before the end of a plain scalar, the blanks before its end among them
abbrev pub plain_from : Bool → Bool → List ℕ → ℕ
plain_from in_flow spaced [] = 0
plain_from in_flow spaced (byte ∷ bytes) =
    if ends_plain in_flow spaced byte bytes then 0 else plain_from in_flow (is_blank byte) bytes + 1

unfoldable pub plain_size : Bool → List ℕ → ℕ
plain_size in_flow text = plain_from in_flow false text

-- Quoted scalars

-- the value of a hexadecimal digit, or 16
abbrev pub hex_value : ℕ → ℕ
hex_value byte =
    if nat_lt 0x2f byte && nat_lt byte 0x3a then byte - 0x30
    else if nat_lt 0x40 byte && nat_lt byte 0x47 then byte - 0x37
    else if nat_lt 0x60 byte && nat_lt byte 0x67 then byte - 0x57
    else 16

-- `\xHH`, below 80
abbrev pub hex_unit : List ℕ → QuotedUnit
hex_unit (high ∷ low ∷ bytes) =
    if nat_lt (hex_value high) 8 && nat_lt (hex_value low) 16 then Meant (16 * hex_value high + hex_value low) 4 else Unknown 2
hex_unit _ = Unknown 2

-- what a backslash and the bytes after it mean: `\\`, `\"`, `\n`, `\t`, `\0` and `\xHH`
unfoldable pub escape : List ℕ → QuotedUnit
escape [] = Unknown 1
escape (byte ∷ bytes) =
    if byte == 0x5c then Meant 0x5c 2
    else if byte == 0x22 then Meant 0x22 2
    else if byte == 0x6e then Meant 0x0a 2
    else if byte == 0x74 then Meant 0x09 2
    else if byte == 0x30 then Meant 0x00 2
    else if byte == 0x78 then hex_unit bytes
    else Unknown 2

-- what stands first in a quoted scalar: its closing quote, or some bytes that mean one. Between single quotes, two of
-- them mean one; between double quotes a backslash begins an escape.
unfoldable pub unit_of : ℕ → ℕ → List ℕ → QuotedUnit
unit_of quote byte bytes =
    if byte == quote then (if quote == 0x27 && begins_with 0x27 bytes then Meant 0x27 2 else Closing)
    else if quote == 0x22 && byte == 0x5c then escape bytes
    else Meant byte 1

-- a quoted scalar: its text, whether all its escapes are known, and what follows the closing quote
pub record Quoted : Type 0 where
  pub text : List ℕ
  pub known : Bool
  pub rest : List ℕ

abbrev pub after_meant : ℕ → Option Quoted → Option Quoted
after_meant byte None = None
after_meant byte (Some quoted) = Some (record quoted { text = byte ∷ quoted.text })

abbrev pub after_unknown : Option Quoted → Option Quoted
after_unknown None = None
after_unknown (Some quoted) = Some (record quoted { known = false })

-- the scalar that a unit begins, where the units behind it make the scalar that is given
abbrev pub quoted_by : QuotedUnit → (ℕ → Option Quoted) → List ℕ → Option Quoted
quoted_by Closing more bytes = Some (record { text = []; known = true; rest = bytes })
quoted_by (Meant byte size) more bytes = after_meant byte (more (size - 1))
quoted_by (Unknown size) more bytes = after_unknown (more (size - 1))

-- The quoted scalar whose text goes on here behind some bytes that are passed over. There is none where the line ends
-- before the closing quote.
abbrev pub quoted_from : ℕ → ℕ → List ℕ → Option Quoted
quoted_from quote skipped [] = None
quoted_from quote (suc skipped) (byte ∷ bytes) = quoted_from quote skipped bytes
quoted_from quote zero (byte ∷ bytes) = quoted_by (unit_of quote byte bytes) (λ skipped. quoted_from quote skipped bytes) bytes

-- the quoted scalar that stands behind its opening quote
unfoldable pub quoted_of : ℕ → List ℕ → Option Quoted
quoted_of quote text = quoted_from quote 0 text

-- Keys

-- a key, and what follows its colon
pub record Keyed : Type 0 where
  pub name : List ℕ
  pub rest : List ℕ

abbrev pub quoted_key : Option Quoted → Option Keyed
quoted_key None = None
quoted_key (Some quoted) =
    if quoted.known && is_key_end quoted.rest then Some (record { name = quoted.text; rest = drop 1 quoted.rest }) else None

-- the plain scalar before the first `: ` is the key, if there is anything before it
abbrev pub plain_key : ℕ → List ℕ → Option Keyed
plain_key size text =
    if nat_lt 0 size && is_key_end (drop size text) then Some (record { name = trimmed (take size text); rest = drop (size + 1) text }) else None

-- the key that a text begins with
abbrev pub key_begun : ℕ → List ℕ → Option Keyed
key_begun byte text =
    if is_quote byte then quoted_key (quoted_of byte (drop 1 text))
    else if is_forbidden byte then None
    else plain_key (plain_size false text) text

unfoldable pub key_of : List ℕ → Option Keyed
key_of text = if is_empty text then None else key_begun (slice_index text 0) text

-- Scalars

-- a quoted scalar alone on the rest of its line
abbrev pub quoted_alone : ℕ → Option Quoted → Result (List ℕ) YamlFault
quoted_alone line None = Err (At line rule.Quote)
quoted_alone line (Some quoted) =
    if not (is_ended quoted.rest) then Err (At line rule.Key)
    else if not quoted.known then Err (At line rule.Escape)
    else Ok quoted.text

abbrev pub plain_alone : ℕ → ℕ → List ℕ → Result (List ℕ) YamlFault
plain_alone line size text = if is_key_end (drop size text) then Err (At line rule.Key) else Ok (trimmed (take size text))

-- the scalar that a text is, which doesn't begin with a blank or `[`: alone on its line, but for a comment
abbrev pub scalar_begun : ℕ → ℕ → List ℕ → Result (List ℕ) YamlFault
scalar_begun line byte text =
    if is_quote byte then quoted_alone line (quoted_of byte (drop 1 text))
    else if is_forbidden byte then Err (At line rule.Scalar)
    else plain_alone line (plain_size false text) text

unfoldable pub scalar_of : ℕ → List ℕ → Result (List ℕ) YamlFault
scalar_of line text = if is_empty text then Ok [] else scalar_begun line (slice_index text 0) text
