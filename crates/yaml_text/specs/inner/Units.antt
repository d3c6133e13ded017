-- How far units reach.
use Rattle.std.specs.Prelude.{ℕ, ◌+◌, ◌==◌, ◌&&◌, ◌≡◌, ◌≤◌, Bool, true, false, List, [], ◌∷◌, take, drop, Option, Some, None}
use Rattle.yaml_text.specs.declared.quoted.QuotedText.{QuotedText}
use Rattle.yaml_text.specs.declared.quoted.Span.{Span}
use Rattle.yaml_text.specs.declared.scalars.KeyText.{KeyText}
use Rattle.yaml_text.specs.declared.units.QuotedUnit.{QuotedUnit}
use Rattle.yaml_text.specs.declared.units.QuotedUnit.TheVariants.{Closing, Meant, Unknown}
use Rattle.yaml_text.specs.Scalars.{Quoted, Keyed}

-- a unit has a byte or more, and no more than there are
abbrev pub IsUnit : ℕ → QuotedUnit → Type 0
IsUnit most Closing = 1 ≤ most
IsUnit most (Meant byte size) = (1 ≤ size) × (size ≤ most)
IsUnit most (Unknown size) = (1 ≤ size) × (size ≤ most)

-- how many bytes a unit has
abbrev pub size_of : QuotedUnit → ℕ
size_of Closing = 1
size_of (Meant byte size) = size
size_of (Unknown size) = size

abbrev pub meant_bytes : QuotedUnit → List ℕ
meant_bytes Closing = []
meant_bytes (Meant byte size) = byte ∷ []
meant_bytes (Unknown size) = []

abbrev pub is_closing : QuotedUnit → Bool
is_closing Closing = true
is_closing _ = false

-- a span with a unit more
abbrev pub with_unit : Span → ℕ → QuotedUnit → Option Span
with_unit span byte Closing = None
with_unit span byte (Meant meant size) =
    Some (record { size = span.size + size; known = span.known; plain = span.plain && size == 1 && meant == byte })
with_unit span byte (Unknown size) = Some (record { size = span.size + size; known = false; plain = false })

-- Quoted scalars by their places in a line

-- the quoted scalar whose rest begins at a place in a line
abbrev pub quoted_in : List ℕ → QuotedText → Quoted
quoted_in line quoted = record { text = quoted.text; known = quoted.known; rest = drop quoted.rest line }

-- the key behind whose colon a place in a line stands
abbrev pub keyed_in : List ℕ → KeyText → Keyed
keyed_in line key = record { name = key.name; rest = drop key.rest line }

-- a span ends where the quoted scalar of a text does
abbrev pub IsSpan : List ℕ → Option Span → Option Quoted → Type 0
IsSpan text None None = Unit {0}
IsSpan text None (Some quoted) = ⊥
IsSpan text (Some span) None = ⊥
IsSpan text (Some span) (Some quoted) =
    (quoted.known ≡ span.known) × (quoted.rest ≡ drop (span.size + 1) text) × (span.plain ≡ true → quoted.text ≡ take span.size text)
