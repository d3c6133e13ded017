-- Names that rise.
use Rattle.std.specs.Prelude.{◌≡◌, List}
use Rattle.std.specs.List.{AllPairs}
use Rattle.std.specs.Cmp.Lexicographic.{slice_cmp}
use Rattle.std.specs.Ordering.{nat_cmp}
use Rattle.std.specs.declared.cmp.Ordering.TheVariants.{Less}
use Rattle.mo_types.specs.Goals.{name_of}
use Rattle.mo_types.specs.declared.goal.Goal.{Goal}
use Rattle.symbol_winners.specs.declared.winner.Winner.{Winner}
use Rattle.sym_out.specs.Entries.{Entry}

-- the names of goals rise, and those of winners
pub record AreRising (bound : List Goal) (winners : List Winner) : Type 0 where
  pub of_goals : AllPairs (λ a b. slice_cmp nat_cmp (name_of a) (name_of b) ≡ Less) bound
  pub of_winners : AllPairs (λ a b. slice_cmp nat_cmp a.name b.name ≡ Less) winners

-- so do those of entries, in each of two ranges
pub record AreNamed (exported undefined : List Entry) : Type 0 where
  pub exported_ones : AllPairs (λ (a : Entry) (b : Entry). slice_cmp nat_cmp a.name b.name ≡ Less) exported
  pub undefined_ones : AllPairs (λ (a : Entry) (b : Entry). slice_cmp nat_cmp a.name b.name ≡ Less) undefined
