-- The winners among the external symbols of a file.
use Rattle.std.proofs.Common.{◌≡◌, ℕ, Bool, true, false, if◌then◌else◌, List, Some, None, refl, sym, ap, ◌∙◌}
use Rattle.std.specs.Option.{option_and_then}
use Rattle.mo_types.specs.Rows.{when}
use Rattle.mo_types.specs.declared.key.AtomKey.{AtomKey}
use Rattle.mo_types.specs.declared.loaded.LoadedFile.{LoadedFile}
use Rattle.mo_types.specs.declared.object.Symbol.{Symbol}
use Rattle.liveness.specs.Roots.{external_atom, winning_atom, wins}
use Rattle.symbol_winners.specs.declared.winner.Winner.{Winner}

not_external : (file : LoadedFile) (p : ℕ × Symbol) → p.1.external ≡ false → external_atom file p ≡ None
unfolding external_atom
not_external file p e = rw e refl

pub winner_stands : (winners : List Winner) (file : LoadedFile) (p : ℕ × Symbol) (atom : AtomKey) (b : Bool) → Some atom ≡ external_atom file p → (p.1.external ≡ true → b ≡ wins winners file p) → (if b then Some atom else None) ≡ winning_atom winners file p
unfolding winning_atom
winner_stands winners file p atom b stands won = by p.1.external refl
  where
    by : (e : Bool) → p.1.external ≡ e → (if b then Some atom else None) ≡ winning_atom winners file p
    by false e = absurd (let none : Some atom ≡ None = stands ∙ not_external file p e in cc)
    by true e = ap (λ (w : Bool). if w then Some atom else None) (won e) ∙ ap (option_and_then (when (wins winners file p))) stands

pub no_winner : (winners : List Winner) (file : LoadedFile) (p : ℕ × Symbol) → None ≡ external_atom file p → None ≡ winning_atom winners file p
unfolding winning_atom
no_winner winners file p none = ap (option_and_then (when (wins winners file p))) none
