-- What names have asked for, as the code keeps it.
use Rattle.std.specs.Prelude.{◌≡◌, ℕ, ◌==◌, ◌||◌, Bool, true, false, not, List, [], ◌∷◌, get_or, length, position, set, Option, Some, None}
use Rattle.std.specs.Str.{bytes_eq}
use Rattle.mo_types.specs.Candidates.{no_word}
use Rattle.mo_types.specs.declared.key.FileId.{FileId}
use Rattle.lib_bind.specs.declared.library.LibraryGraph.{LibraryGraph}
use Rattle.input_files.specs.declared.input.Input.{Input}
use Rattle.member_rounds.specs.declared.asking.Known.{Known}
use Rattle.member_rounds.specs.declared.asking.Requests.{Requests}
use Rattle.member_rounds.specs.inner.Working.{HaveAsked}

-- whether the name of a number needn't ask: it has a word, or has asked; a name without a number hasn't
abbrev pub settled_at : List ℕ → List Bool → Option ℕ → Bool
settled_at words asked None = false
settled_at words asked (Some id) = not (get_or words id no_word == no_word) || get_or asked id false

abbrev pub is_settled : List (List ℕ) → List ℕ → List Bool → List ℕ → Bool
is_settled names words asked name = settled_at words asked (position (bytes_eq name) names)

-- the marks after the name of a number has asked
abbrev pub marked : List Bool → Option ℕ → List Bool
marked asked None = asked
marked asked (Some id) = set asked id true

abbrev pub option_list : Option FileId → List FileId
option_list None = []
option_list (Some id) = id ∷ []

-- each name has a mark
abbrev pub HasMarks : Known → Requests → Type 0
HasMarks known requests = length requests.asked.items ≡ length known.names.now

-- what names have asked for after others
abbrev pub HaveThenAsked : List Input → LibraryGraph → Known → Requests → Requests → List (List ℕ) → Type 0
HaveThenAsked inputs libs known before after names =
    HaveAsked inputs libs before.ids.items (is_settled known.names.now known.words.now before.asked.items) after.ids.items (is_settled known.names.now known.words.now after.asked.items) names
