-- What one worker did.
use Rattle.std.specs.Prelude.{◌≡◌, ℕ, ◌+◌, ◌<◌, ◌≤◌, ◌⊎◌, List, length, map}
use Rattle.std.specs.List.{flat_map}
use Rattle.atomic_table.specs.Seated.{TableId}
use Rattle.par_work.specs.Drawn.{Holding, times}
use Rattle.par_work.specs.Fan.{Leads}
use Rattle.par_work.specs.declared.blocks.Blocks.{Blocks}
use Rattle.par_work.specs.inner.Blocks.{block_jobs}

-- no block is left to draw: more were drawn than there are, or one that isn't among them
abbrev pub IsThrough : ℕ → List ℕ → Type 0
IsThrough count draws = (count < length draws) ⊎ ((block : ℕ) × (count ≤ block) × (0 < times block draws))

-- a worker ran the jobs of the blocks that it drew, and nothing else
pub record IsWorking {Seat Piece : Type 0} (Step : Seat → ℕ → Piece → Seat → Type 0) (Fits : Seat → Type 0) (id : TableId) (blocks : Blocks) (before after : Seat) (done : List (ℕ × Piece)) (drawer : Holding) : Type 0 where
  pub claims : drawer.claims ≡ id
  pub held : drawer.passes + length drawer.draws ≡ blocks.count + 1
  pub jobs : map (λ run. run.0) done ≡ flat_map (block_jobs blocks) drawer.draws
  pub fits : Fits after
  pub leads : Leads Step before done after

-- and none is left
pub record HasWorked {Seat Piece : Type 0} (Step : Seat → ℕ → Piece → Seat → Type 0) (Fits : Seat → Type 0) (id : TableId) (blocks : Blocks) (before after : Seat) (done : List (ℕ × Piece)) (drawer : Holding) : Type 0 where
  pub worked : IsWorking Step Fits id blocks before after done drawer
  pub through : IsThrough blocks.count drawer.draws
