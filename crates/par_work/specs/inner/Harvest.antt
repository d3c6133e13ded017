-- Workers that are to start, and what some of them brought in.
use Rattle.std.specs.Prelude.{◌≡◌, ℕ, ◌+◌, ◌*◌, ◌^◌, ◌<◌, ◌≤◌, List, [], All, length, map}
use Rattle.std.specs.List.{flat_map}
use Rattle.atomic_table.specs.Seated.{TableId}
use Rattle.par_work.specs.Drawn.{Holding}
use Rattle.par_work.specs.Fan.{EachLeads}
use Rattle.par_work.specs.declared.blocks.Blocks.{Blocks}
use Rattle.par_work.specs.inner.Blocks.{block_jobs}
use Rattle.par_work.specs.inner.Worked.{IsThrough}

-- workers that are to start: seats whose numbers fit, and a drawer that has as many passes for each and drew nothing
pub record IsCrew {Seat : Type 0} (id : TableId) (each first : ℕ) (seats : List Seat) (drawer : Holding) : Type 0 where
  pub some : 0 < length seats
  pub room : first + length seats ≤ 2 ^ 32
  pub claims : drawer.claims ≡ id
  pub passes : drawer.passes ≡ length seats * each
  pub draws : drawer.draws ≡ []

-- from these seats, by the draws of this drawer, come these seats and these jobs with their pieces
pub record IsHarvest {Seat Piece : Type 0} (Step : Seat → ℕ → Piece → Seat → Type 0) (Fits : Seat → Type 0) (id : TableId) (blocks : Blocks) (seats : List Seat) (ends : List Seat) (done : List (ℕ × Piece)) (drawer : Holding) : Type 0 where
  pub claims : drawer.claims ≡ id
  pub held : drawer.passes + length drawer.draws ≡ length seats * (blocks.count + 1)
  pub through : IsThrough blocks.count drawer.draws
  pub jobs : map (λ run. run.0) done ≡ flat_map (block_jobs blocks) drawer.draws
  pub fit : All Fits ends
  pub logs : List (List (ℕ × Piece))
  pub all : flat_map (λ log. log) logs ≡ done
  pub leads : EachLeads Step seats logs ends
