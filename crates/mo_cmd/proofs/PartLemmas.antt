-- The parts of a command line, word by word.
use Rattle.std.proofs.Common.{◌≡◌, ℕ, zero, suc, ◌+◌, ◌-◌, ◌<◌, ◌≤◌, ◌++◌, ◌∷◌, [], List, length, drop, get_or, refl, sym, ap, ◌∙◌, subst, arith, add-one, drop-cons, append_assoc, append-nil, All}
use Rattle.std.proofs.lemmas.List.{drop_all}
use Rattle.std.proofs.lemmas.List.Elements.{All-cons, All-nil}
use Rattle.mo_cmd.specs.declared.options.CommandOption.{CommandOption}
use Rattle.mo_cmd.specs.declared.parts.Part.{Part}
use Rattle.mo_cmd.specs.declared.parts.Rows.{Rows}
use Rattle.mo_cmd.specs.Options.{values_of}
use Rattle.mo_cmd.specs.Parts.{among, option_of, parts_from, parts_of}

-- the parts that were found, of the words before one, and those to come are all
pub record IsWalking (rows : Rows) (words : List (List ℕ)) (at skipped : ℕ) (found : List Part) : Type 0 where
  pub same : found ++ parts_from rows at skipped (drop at words) ≡ parts_of rows words

pub walk_starts : (rows : Rows) (words : List (List ℕ)) (found : List Part) → found ≡ [] → IsWalking rows words 0 0 found
unfolding parts_of
walk_starts rows words found empty = record { same = rw empty refl }

from_word : (words : List (List ℕ)) (at : ℕ) (word : List ℕ) → at < length words → word ≡ get_or words at word → drop at words ≡ word ∷ drop (at + 1) words
from_word words at word within is = rw (drop-cons words at word, ← is, add-one) refl

pub walk_skips : (rows : Rows) (words : List (List ℕ)) (at skipped : ℕ) (found : List Part) (word : List ℕ) → IsWalking rows words at skipped found → at < length words → word ≡ get_or words at word → 0 < skipped → IsWalking rows words (at + 1) (skipped - 1) found
walk_skips rows words at zero found word walking within is some = absurd (omega arith)
walk_skips rows words at (suc skipped) found word walking within is some =
    let one : suc skipped - 1 ≡ skipped = omega arith in
    record { same = rw one (sym (ap (λ rest. found ++ parts_from rows at (suc skipped) rest) (from_word words at word within is)) ∙ walking.same) }

pub walk_finds : (rows : Rows) (words : List (List ℕ)) (at skipped : ℕ) (found more : List Part) (word : List ℕ) (option : CommandOption) → IsWalking rows words at skipped found → at < length words → word ≡ get_or words at word → skipped ≤ 0 → option ≡ among rows (option_of word) → more ≡ found ++ record { option = option; at = at } ∷ [] → IsWalking rows words (at + 1) (values_of option) more
walk_finds rows words at (suc skipped) found more word option walking within is none means pushed = absurd (omega arith)
walk_finds rows words at zero found more word option walking within is none means pushed =
    let part : Part = record { option = option; at = at } in
    let e : found ++ parts_from rows at zero (drop at words) ≡ found ++ (part ∷ parts_from rows (at + 1) (values_of option) (drop (at + 1) words)) =
    rw means (ap (λ rest. found ++ parts_from rows at zero rest) (from_word words at word within is)) in
    record { same = ap (λ parts. parts ++ parts_from rows (at + 1) (values_of option) (drop (at + 1) words)) pushed ∙ append_assoc found (part ∷ []) (parts_from rows (at + 1) (values_of option) (drop (at + 1) words)) ∙ sym e ∙ walking.same }

pub walk_ends : (rows : Rows) (words : List (List ℕ)) (at skipped : ℕ) (found : List Part) → IsWalking rows words at skipped found → length words ≤ at → found ≡ parts_of rows words
walk_ends rows words at skipped found walking past =
    let e : found ++ parts_from rows at skipped (drop at words) ≡ found ++ [] = ap (λ rest. found ++ parts_from rows at skipped rest) (drop_all at words past) ∙ nothing rows at skipped in
    sym (append-nil found) ∙ sym e ∙ walking.same
  where
    nothing : (rows : Rows) (at skipped : ℕ) → found ++ parts_from rows at skipped [] ≡ found ++ []
    nothing rows at zero = refl
    nothing rows at (suc skipped) = refl

within_from : (rows : Rows) (words : List (List ℕ)) (at skipped bound : ℕ) → at + length words ≤ bound → All (λ part. part.at < bound) (parts_from rows at skipped words)
within_from rows [] at skipped bound fits = All-nil (λ (part : Part). part.at < bound)
within_from rows (word ∷ words) at (suc skipped) bound fits = within_from rows words (at + 1) skipped bound (omega arith)
within_from rows (word ∷ words) at zero bound fits =
    All-cons (λ (part : Part). part.at < bound) (record { option = among rows (option_of word); at = at }) (parts_from rows (at + 1) (values_of (among rows (option_of word))) words)
    (omega arith) (within_from rows words (at + 1) (values_of (among rows (option_of word))) bound (omega arith))

pub parts_within : (rows : Rows) (words : List (List ℕ)) → All (λ part. part.at < length words) (parts_of rows words)
unfolding parts_of
parts_within rows words = within_from rows words 0 0 (length words) (omega arith)

pub walk_within : (rows : Rows) (words : List (List ℕ)) (at skipped : ℕ) (found : List Part) → IsWalking rows words at skipped found → length words ≤ at → All (λ part. part.at < length words) found
walk_within rows words at skipped found walking past =
    subst (All (λ (part : Part). part.at < length words)) (sym (walk_ends rows words at skipped found walking past)) (parts_within rows words)

pub ruleset walking = (walk_starts, walk_skips, walk_finds, walk_ends, walk_within)
