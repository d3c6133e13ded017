-- The loop that lists weak functions.
use Rattle.std.proofs.Common.{◌≡◌, ℕ, ◌+◌, ◌*◌, ◌<◌, ◌≤◌, List, [], ◌∷◌, ◌++◌, length, drop, get_or, refl, sym, ap, ◌∙◌, append_assoc, append-nil, arith}
use Rattle.std.proofs.lemmas.List.{at_drop_more, at_drop_all}
use Rattle.link_gen.specs.Symbols.{defined, weak_symbols}
use Rattle.link_gen.specs.declared.names.SymbolName.TheVariants.{Weak}
use Rattle.link_gen.specs.declared.symbols.MadeSymbol.{MadeSymbol}

pub record AreWeaks (start : ℕ) (ks : List ℕ) (old : List MadeSymbol) (at place : ℕ) (now : List MadeSymbol) : Type 0 where
  pub there : place ≡ start + 4 * at
  pub rest : now ++ weak_symbols place (drop at ks) ≡ old ++ weak_symbols start ks

pub weaks_start : (start : ℕ) (ks : List ℕ) (old : List MadeSymbol) → AreWeaks start ks old 0 start old
weaks_start start ks old = record { there = omega arith; rest = refl }

pub weaks_go_on : (start : ℕ) (ks : List ℕ) (old now new : List MadeSymbol) (at place further k : ℕ) → AreWeaks start ks old at place now → at < length ks → k ≡ get_or ks at k → new ≡ now ++ defined (Weak k) place ∷ [] → further ≡ place + 4 → AreWeaks start ks old (at + 1) further new
weaks_go_on start ks old now new at place further k weaks within is e step =
    let one : List MadeSymbol = defined (Weak k) place ∷ [] in
    let others : List MadeSymbol = weak_symbols (place + 4) (drop (at + 1) ks) in
    record {
      there = let p = weaks.there in omega arith;
      rest =
          ap (λ (q : ℕ). new ++ weak_symbols q (drop (at + 1) ks)) step
          ∙ ap (λ (z : List MadeSymbol). z ++ others) e
          ∙ append_assoc now one others
          ∙ ap (λ (j : ℕ). now ++ (defined (Weak j) place ∷ others)) is
          ∙ ap (λ (z : List MadeSymbol). now ++ z) (sym (at_drop_more (weak_symbols place) ks at k within))
          ∙ weaks.rest;
    }

pub weaks_end : (start : ℕ) (ks : List ℕ) (old now : List MadeSymbol) (at place : ℕ) → AreWeaks start ks old at place now → length ks ≤ at → now ≡ old ++ weak_symbols start ks
weaks_end start ks old now at place weaks past =
    sym (append-nil now) ∙ ap (λ (z : List MadeSymbol). now ++ z) (sym (at_drop_all (weak_symbols place) ks at past)) ∙ weaks.rest

pub ruleset weaks = (weaks_start, weaks_go_on, weaks_end)
