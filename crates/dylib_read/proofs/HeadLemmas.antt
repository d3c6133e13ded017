-- What is read of the commands.
use Rattle.std.proofs.Common.{◌≡◌, ℕ, ◌+◌, ◌-◌, ◌<◌, ◌≤◌, true, false, List, [], ◌∷◌, ◌++◌, length, take, drop, get_or, refl, sym, ap, ◌∙◌, Option, append-nil, append_assoc}
use Rattle.std.specs.Option.{option_map}
use Rattle.std.proofs.lemmas.List.{take_rest, drop_all, drop_more}
use Rattle.mo_strings.specs.Strings.{string_at, first_nul}
use Rattle.mo_strings.proofs.SearchLemmas.{string_past}
use Rattle.dylib_read.specs.Head.{is_reexport, name_at, reexports_of}
use Rattle.std.proofs.lemmas.Bool.{false_from_ne_true}
use Rattle.std.proofs.lemmas.Str.{is_utf8-from_IsUtf8, IsUtf8-from_is_utf8}
use Rattle.std.specs.Str.{IsUtf8, is_utf8}

pub utf8_so : (text : List ℕ) → IsUtf8 text → true ≡ is_utf8 text
utf8_so text is = sym (is_utf8-from_IsUtf8 text is)

pub utf8_not : (text : List ℕ) → (IsUtf8 text → ⊥) → false ≡ is_utf8 text
utf8_not text never = sym (false_from_ne_true (is_utf8 text) (λ holds. never (IsUtf8-from_is_utf8 text holds)))

pub ruleset utf8 = (utf8_so, utf8_not)

-- ---- strings that end in NUL

pub text_there : (bytes : List ℕ) (at : ℕ) (found : Option ℕ) → found ≡ first_nul (take (length bytes - at) (drop at bytes)) → option_map (λ size. take size (drop at bytes)) found ≡ string_at bytes at
unfolding string_at
text_there bytes at found is =
    let rest : take (length bytes - at) (drop at bytes) ≡ drop at bytes = take_rest bytes at in
    ap (option_map (λ size. take size (drop at bytes))) (is ∙ ap first_nul rest)

pub ruleset texts = (string_past, text_there)

-- ---- the libraries that are re-exported

-- `names` has the names of the re-exports among the first commands
pub record IsCollecting (bytes places : List ℕ) (i : ℕ) (names : List (List ℕ)) : Type 0 where
  pub same : names ++ reexports_of bytes (drop i places) ≡ reexports_of bytes places

pub collects_none : (bytes places : List ℕ) → IsCollecting bytes places 0 []
collects_none bytes places = record { same = refl }

from_place : (places : List ℕ) (i at : ℕ) → i < length places → at ≡ get_or places i at → drop i places ≡ at ∷ drop (i + 1) places
from_place places i at within is = drop_more places i at within ∙ ap (λ (x : ℕ). x ∷ drop (i + 1) places) (sym is)

pub collects_one : (bytes places : List ℕ) (i at : ℕ) (names : List (List ℕ)) → IsCollecting bytes places i names → i < length places → at ≡ get_or places i at → true ≡ is_reexport bytes at → IsCollecting bytes places (i + 1) (names ++ name_at bytes at ∷ [])
collects_one bytes places i at names collecting within is passes =
    let here : reexports_of bytes (at ∷ drop (i + 1) places) ≡ name_at bytes at ∷ reexports_of bytes (drop (i + 1) places) = rw (← passes) refl in
    record {
      same =
          append_assoc names (name_at bytes at ∷ []) (reexports_of bytes (drop (i + 1) places))
          ∙ (ap (λ (xs : List (List ℕ)). names ++ xs) (sym here)
          ∙ (ap (λ (xs : List ℕ). names ++ reexports_of bytes xs) (sym (from_place places i at within is)) ∙ collecting.same));
    }

pub collects_none_here : (bytes places : List ℕ) (i at : ℕ) (names : List (List ℕ)) → IsCollecting bytes places i names → i < length places → at ≡ get_or places i at → false ≡ is_reexport bytes at → IsCollecting bytes places (i + 1) names
collects_none_here bytes places i at names collecting within is fails =
    let here : reexports_of bytes (at ∷ drop (i + 1) places) ≡ reexports_of bytes (drop (i + 1) places) = rw (← fails) refl in
    record {
      same =
          ap (λ (xs : List (List ℕ)). names ++ xs) (sym here)
          ∙ (ap (λ (xs : List ℕ). names ++ reexports_of bytes xs) (sym (from_place places i at within is)) ∙ collecting.same);
    }

pub collects_all : (bytes places : List ℕ) (i : ℕ) (names : List (List ℕ)) → IsCollecting bytes places i names → length places ≤ i → names ≡ reexports_of bytes places
collects_all bytes places i names collecting past =
    let none : names ++ reexports_of bytes (drop i places) ≡ names =
    ap (λ (xs : List ℕ). names ++ reexports_of bytes xs) (drop_all i places past) ∙ append-nil names in
    sym none ∙ collecting.same

pub ruleset collects = (collects_none, collects_one, collects_none_here, collects_all)
