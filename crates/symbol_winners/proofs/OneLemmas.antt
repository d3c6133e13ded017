-- No two winners have one name.
use Rattle.std.proofs.Common.{◌≡◌, ℕ, ◌<◌, ◌≤◌, ◌⊎◌, List, length, get_or, Contains, sym, ap, ◌∙◌, inl, inr, arith}
use Rattle.std.specs.Ordering.{nat_cmp}
use Rattle.std.specs.declared.cmp.Ordering.TheVariants.{Less, Equal}
use Rattle.std.specs.Cmp.Lexicographic.{slice_cmp}
use Rattle.std.proofs.lemmas.Bool.{cases_lt}
use Rattle.std.proofs.lemmas.Cmp.{nat_list_cmp_total, tied_itself}
use Rattle.std.proofs.lemmas.List.{get_or_default}
use Rattle.command_line.specs.declared.command.Command.{Command}
use Rattle.mo_types.specs.declared.loaded.LoadedFile.{LoadedFile}
use Rattle.symbol_winners.specs.Winners.{AreWinners}
use Rattle.symbol_winners.specs.declared.winner.Winner.{Winner}

not_before : (command : Command) (files : List LoadedFile) (winners : List Winner) → AreWinners command files winners → (a b : Winner) (i j : ℕ) → i < j → j < length winners → get_or winners i a ≡ a → get_or winners j b ≡ b → a.name ≡ b.name → ⊥
not_before command files winners are a b i j less within first second same =
    let rises : slice_cmp nat_cmp (get_or winners i a).name (get_or winners j a).name ≡ Less = are.rising i j a less within in
    let there : get_or winners j a ≡ b = get_or_default winners j a b within ∙ second in
    let apart : slice_cmp nat_cmp a.name b.name ≡ Less =
    ap (λ (w : Winner). slice_cmp nat_cmp w.name b.name) (sym first) ∙ (ap (λ (w : Winner). slice_cmp nat_cmp (get_or winners i a).name w.name) (sym there) ∙ rises) in
    let tied : slice_cmp nat_cmp a.name b.name ≡ Equal = ap (slice_cmp nat_cmp a.name) (sym same) ∙ tied_itself nat_list_cmp_total a.name in
    let e : Less ≡ Equal = sym apart ∙ tied in cc

pub one_winner : (command : Command) (files : List LoadedFile) (winners : List Winner) → AreWinners command files winners → (a b : Winner) → Contains winners a → Contains winners b → a.name ≡ b.name → a ≡ b
one_winner command files winners are a b x y same = by (cases_lt x.0 y.0) (cases_lt y.0 x.0)
  where
    by : (x.0 < y.0) ⊎ (y.0 ≤ x.0) → (y.0 < x.0) ⊎ (x.0 ≤ y.0) → a ≡ b
    by (inl less) other = absurd (not_before command files winners are a b x.0 y.0 less y.1 x.2 y.2 same)
    by (inr upto) (inl less) = absurd (not_before command files winners are b a y.0 x.0 less x.1 y.2 x.2 (sym same))
    by (inr upto) (inr down) =
        let here : x.0 ≡ y.0 = omega arith in
        sym x.2 ∙ get_or_default winners x.0 a b x.1 ∙ ap (λ (k : ℕ). get_or winners k b) here ∙ y.2
