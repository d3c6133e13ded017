-- The values of an option.
use Rattle.std.proofs.Common.{◌≡◌, ℕ, ◌+◌, ◌-◌, ◌≤◌, [], List, length, take, drop, sym, ap, ◌∙◌, arith}
use Rattle.std.proofs.Math.Seq.{take-nil}
use Rattle.std.proofs.lemmas.List.{drop_all, take_all, take_rest}
use Rattle.mo_cmd.specs.declared.parts.Part.{Part}
use Rattle.mo_cmd.specs.Options.{values_of}
use Rattle.mo_cmd.specs.Items as items

pub no_values : (words : List (List ℕ)) (part : Part) → length words ≤ part.at → [] ≡ items.following words part
no_values words part past =
    sym (ap (take (values_of part.option)) (drop_all (part.at + 1) words (omega arith)) ∙ take-nil (values_of part.option))

pub few_values : (words rest : List (List ℕ)) (part : Part) → rest ≡ take (length words - (part.at + 1)) (drop (part.at + 1) words) → length rest ≤ values_of part.option → rest ≡ items.following words part
few_values words rest part is few =
    let e : rest ≡ drop (part.at + 1) words = is ∙ take_rest words (part.at + 1) in
    sym (ap (take (values_of part.option)) (sym e) ∙ take_all (values_of part.option) rest few)

pub some_values : (words rest : List (List ℕ)) (part : Part) → rest ≡ take (length words - (part.at + 1)) (drop (part.at + 1) words) → take (values_of part.option) rest ≡ items.following words part
some_values words rest part is = ap (take (values_of part.option)) (is ∙ take_rest words (part.at + 1))

pub nothing_left : (word : List ℕ) (n : ℕ) → length word ≤ n → [] ≡ drop n word
nothing_left word n past = sym (drop_all n word past)

pub ruleset values = (no_values, few_values, some_values, nothing_left, take_rest)
