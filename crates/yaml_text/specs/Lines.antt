-- The lines of a text, and what stands on a line beside scalars (YAML 1.2, 5.4, 6.1 to 6.6 and 9.1).
use Rattle.std.specs.Prelude.{ℕ, ◌+◌, ◌-◌, ◌==◌, ◌&&◌, ◌||◌, Bool, true, false, not, nat_eq, List, [], ◌∷◌, codes, length, take, drop, map, slice_index, Option, Some, None, if◌then◌else◌}
use Rattle.std.specs.List.{slice_split, starts_with}
use Rattle.yaml_text.specs.Characters.{is_blank}

-- Lines

abbrev pub is_empty : List ℕ → Bool
is_empty [] = true
is_empty (byte ∷ bytes) = false

-- pieces between newlines, but for an empty one at the end
abbrev pub whole_lines : List (List ℕ) → List (List ℕ)
whole_lines [] = []
whole_lines (line ∷ []) = if is_empty line then [] else line ∷ []
whole_lines (line ∷ next ∷ lines) = line ∷ whole_lines (next ∷ lines)

-- a line without the carriage return with which it may end
unfoldable pub without_return : List ℕ → List ℕ
without_return line = if slice_index line (length line - 1) == 0x0d then take (length line - 1) line else line

-- the lines of a text, which end with LF or CR LF
unfoldable pub lines_of : List ℕ → List (List ℕ)
lines_of text = map without_return (whole_lines (slice_split (λ byte. byte == 0x0a) text))

-- Blanks and comments

-- how many bytes that pass a test stand at the front of a text
abbrev pub front_size : (ℕ → Bool) → List ℕ → ℕ
front_size test [] = 0
front_size test (byte ∷ bytes) = if test byte then front_size test bytes + 1 else 0

abbrev pub spaces : List ℕ → ℕ
spaces text = front_size (λ byte. byte == 0x20) text

abbrev pub blanks : List ℕ → ℕ
blanks text = front_size is_blank text

-- a text without the blanks at its front
abbrev pub without_blanks : List ℕ → List ℕ
without_blanks text = drop (blanks text) text

-- how many bytes a text has without the blanks at its end
abbrev pub trimmed_size : List ℕ → ℕ
trimmed_size [] = 0
trimmed_size (byte ∷ bytes) = if is_blank byte && trimmed_size bytes == 0 then 0 else trimmed_size bytes + 1

-- a text without the blanks at its end
abbrev pub trimmed : List ℕ → List ℕ
trimmed text = take (trimmed_size text) text

abbrev pub begins_with : ℕ → List ℕ → Bool
begins_with wanted [] = false
begins_with wanted (byte ∷ bytes) = byte == wanted

-- nothing but blanks and a comment, where a `#` at the front begins one
abbrev pub is_bare : List ℕ → Bool
is_bare text = is_empty (without_blanks text) || begins_with 0x23 (without_blanks text)

-- what may follow a scalar, a list or a mark on its line: nothing, or a blank and then nothing but blanks and a comment
abbrev pub is_ended : List ℕ → Bool
is_ended [] = true
is_ended (byte ∷ bytes) = is_blank byte && is_bare bytes

-- Marks

-- how many bytes stand before the first blank
abbrev pub word_size : List ℕ → ℕ
word_size text = front_size (λ byte. not (is_blank byte)) text

-- the tag after `---`, which is one word or nothing
abbrev pub tag_in : List ℕ → Option (List ℕ)
tag_in text = if is_bare (drop (word_size text) text) then Some (take (word_size text) text) else None

abbrev pub tag_after : List ℕ → Option (List ℕ)
tag_after [] = Some []
tag_after (byte ∷ bytes) =
    if is_blank byte then (if is_bare bytes then Some [] else tag_in (without_blanks bytes)) else None

-- the tag of a line that opens a document
unfoldable pub tag_of : List ℕ → Option (List ℕ)
tag_of line = if starts_with nat_eq line (codes "---") then tag_after (drop 3 line) else None

-- the line `...`, after which nothing is read
unfoldable pub is_end : List ℕ → Bool
is_end line = starts_with nat_eq line (codes "...") && is_ended (drop 3 line)

-- `- ` begins an item of a block list
unfoldable pub is_item : List ℕ → Bool
is_item text = starts_with nat_eq text (codes "- ")
