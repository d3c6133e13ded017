-- Names that lead nowhere.
use Rattle.std.proofs.Common.{◌≡◌, ℕ, ◌+◌, ◌<◌, ◌≤◌, Bool, true, false, List, [], ◌∷◌, ◌++◌, length, drop, get_or, Option, Some, None, refl, sym, ap, ◌∙◌, append_assoc}
use Rattle.std.specs.List.{filter}
use Rattle.std.specs.Option.{option_map}
use Rattle.std.proofs.lemmas.List.{append-nil, drop_all}
use Rattle.list_lemmas.proofs.Places.{from_here}
use Rattle.liveness.specs.Undefined.{undefined}
use Rattle.liveness.specs.declared.lost.Lost.{Lost}
use Rattle.liveness.specs.inner.Lost.{held}
use Rattle.lib_bind.specs.declared.library.LibraryGraph.{LibraryGraph}
use Rattle.command_line.specs.declared.command.Command.{Command}
use Rattle.mo_types.specs.declared.answer.Refusal.{Refusal}
use Rattle.mo_types.specs.declared.answer.Refusal.TheVariants.{Undefined}
use Rattle.mo_types.specs.declared.goal.Goal.{Goal}
use Rattle.mo_types.specs.declared.key.AtomKey.{AtomKey}
use Rattle.mo_types.specs.declared.loaded.LoadedFile.{LoadedFile}
use Rattle.link_files.specs.Lost.{is_lost, lost_wanted, undefined_refusal}
use Rattle.link_files.specs.Names.{wanted}

-- those that pass a test, of the elements before a place
pub record IsSifted {X : Type 0} (test : X → Bool) (kept xs : List X) (at : ℕ) : Type 0 where
  pub same : kept ++ filter test (drop at xs) ≡ filter test xs

pub sift_starts : {X : Type 0} (test : X → Bool) (xs : List X) → IsSifted test [] xs 0
sift_starts test xs = record { same = refl }

passing : {X : Type 0} (test : X → Bool) (x : X) (rest : List X) → test x ≡ true → filter test (x ∷ rest) ≡ x ∷ filter test rest
passing test x rest yes_ = rw yes_ refl

failing : {X : Type 0} (test : X → Bool) (x : X) (rest : List X) → test x ≡ false → filter test (x ∷ rest) ≡ filter test rest
failing test x rest no_ = rw no_ refl

pub sift_keeps : {X : Type 0} (test : X → Bool) (kept new xs : List X) (at : ℕ) (x : X) → IsSifted test kept xs at → at < length xs → x ≡ get_or xs at x → test x ≡ true → new ≡ kept ++ x ∷ [] → IsSifted test new xs (at + 1)
sift_keeps {X = X} test kept new xs at x sifted within is passes more = record {
  same =
      ap (λ (ys : List X). ys ++ filter test (drop (at + 1) xs)) more
      ∙ append_assoc kept (x ∷ []) (filter test (drop (at + 1) xs))
      ∙ ap (λ (ys : List X). kept ++ ys) (sym (ap (filter test) (from_here xs at x within is) ∙ passing test x (drop (at + 1) xs) passes))
      ∙ sifted.same;
}

pub sift_passes : {X : Type 0} (test : X → Bool) (kept xs : List X) (at : ℕ) (x : X) → IsSifted test kept xs at → at < length xs → x ≡ get_or xs at x → test x ≡ false → IsSifted test kept xs (at + 1)
sift_passes {X = X} test kept xs at x sifted within is fails = record {
  same =
      ap (λ (ys : List X). kept ++ ys) (sym (ap (filter test) (from_here xs at x within is) ∙ failing test x (drop (at + 1) xs) fails))
      ∙ sifted.same;
}

pub sift_ends : {X : Type 0} (test : X → Bool) (kept xs : List X) (at : ℕ) → IsSifted test kept xs at → length xs ≤ at → kept ≡ filter test xs
sift_ends {X = X} test kept xs at sifted past =
    sym (append-nil kept) ∙ ap (λ (ys : List X). kept ++ filter test ys) (sym (drop_all at xs past)) ∙ sifted.same

pub ruleset lost = (sift_starts, sift_ends)

-- ---- what the code found

pub lost_told : (command : Command) (libs : LibraryGraph) (files : List LoadedFile) (goals : List (List Goal)) (keys : List AtomKey) (wants names : List (List ℕ)) (found : Option Lost) (lost : Lost) (refusal : Refusal)
    → wants ≡ wanted command → names ≡ filter (is_lost command libs files) wants → option_map held found ≡ undefined keys files goals names
    → found ≡ Some lost → refusal ≡ Undefined lost.name.now lost.label.now → undefined_refusal command libs files goals keys ≡ Some refusal
unfolding undefined_refusal lost_wanted
lost_told command libs files goals keys wants names found lost refusal w n is some told =
    let all : option_map held found ≡ undefined keys files goals (lost_wanted command libs files) = rw (← w, ← n) is in
    sym (ap Some told ∙ ap (option_map (λ p. Undefined p.0 p.1)) (ap (option_map held) (sym some) ∙ all))

pub none_lost : (command : Command) (libs : LibraryGraph) (files : List LoadedFile) (goals : List (List Goal)) (keys : List AtomKey) (wants names : List (List ℕ)) (found : Option Lost)
    → wants ≡ wanted command → names ≡ filter (is_lost command libs files) wants → option_map held found ≡ undefined keys files goals names
    → found ≡ None → undefined_refusal command libs files goals keys ≡ None
unfolding undefined_refusal lost_wanted
none_lost command libs files goals keys wants names found w n is none =
    let all : option_map held found ≡ undefined keys files goals (lost_wanted command libs files) = rw (← w, ← n) is in
    sym (ap (option_map (λ p. Undefined p.0 p.1)) (ap (option_map held) (sym none) ∙ all))
