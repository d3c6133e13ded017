-- The rule of the claims' counter: the numbers below it are drawn, each by one drawer.
use Rattle.std.specs.Prelude.{◌≡◌, ℕ, ◌+◌, ◌-◌, [], ◌∷◌, ◌++◌, length, sum_by}
use Rattle.atomic_table.specs.Table.{State, Me, Step}
use Rattle.par_work.specs.declared.rule.Terms.{Terms}
use Rattle.par_work.specs.declared.rule.View.{View}
use Rattle.par_work.specs.Drawn.{times, once_below}

-- the drawer that the claims begin with
abbrev pub first_view : Terms → View
first_view terms = record { passes = terms.passes; draws = [] }

-- a drawer that was taken in
abbrev pub spent_view : View
spent_view = record { passes = 0; draws = [] }

-- a drawer that gave passes away
abbrev pub giver : View → ℕ → View
giver v count = record v { passes = v.passes - count }

-- and the one that has them
abbrev pub newcomer : ℕ → View
newcomer count = record { passes = count; draws = [] }

-- a drawer with another's passes and draws
abbrev pub union_of : View → View → View
union_of v w = record { passes = v.passes + w.passes; draws = v.draws ++ w.draws }

-- a drawer that spent a pass on a number
abbrev pub with_draw : View → ℕ → View
with_draw v found = record { passes = v.passes - 1; draws = v.draws ++ found ∷ [] }

-- what a drawer's passes were at first, and those that it took over
abbrev pub held : View → ℕ
held v = v.passes + length v.draws

-- each number below the counter is drawn by one drawer, once, and no other is drawn; no pass is lost or made
pub record IsDrawing (terms : Terms) (s : State (Unit {0}) View) : Type 0 where
  pub counter : ℕ
  pub word : s.words ≡ counter ∷ []
  pub each : (x : ℕ) → sum_by (λ v. times x v.draws) s.views ≡ once_below x counter
  pub count : sum_by (λ v. length v.draws) s.views ≡ counter
  pub passes : sum_by held s.views ≡ terms.passes

-- what a draw tells: the number is none of the drawer's earlier ones
abbrev pub Drawn : Step (Unit {0}) → Me (Unit {0}) View → ℕ → Me (Unit {0}) View → Type 0
Drawn s me found after = (times found me.0.draws ≡ 0) × (after ≡ (with_draw me.0 found, me.1))
