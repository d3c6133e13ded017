-- What all workers together brought in.
use Rattle.std.proofs.Common.{◌≡◌, ℕ, List, length, map, sym, subst}
use Rattle.std.specs.List.{flat_map}
use Rattle.std.specs.List.Sorted.{IsPermutation}
use Rattle.atomic_table.specs.Seated.{TableId}
use Rattle.par_work.specs.Drawn.{Holding, AreBelow}
use Rattle.par_work.specs.Fan.{numbered, IsFanned}
use Rattle.par_work.specs.declared.blocks.Blocks.{Blocks}
use Rattle.par_work.specs.inner.Blocks.{AreBlocks, block_jobs}
use Rattle.par_work.specs.inner.Harvest.{IsHarvest}
use Rattle.par_work.proofs.Counts.{each_job, through_all}

module _ {Seat Piece : Type 0} (Step : Seat → ℕ → Piece → Seat → Type 0) (Fits : Seat → Type 0) (id : TableId) (blocks : Blocks) where
  pub harvest_jobs : (seats ends : List Seat) (done : List (ℕ × Piece)) (drawer : Holding) (jobs n : ℕ) → IsHarvest Step Fits id blocks seats ends done drawer → AreBlocks blocks → blocks.jobs ≡ jobs → AreBelow n drawer.draws → n ≡ length drawer.draws
      → AreBelow jobs (map (λ (run : ℕ × Piece). run.0) done)
  harvest_jobs seats ends done drawer jobs n h cut is below long =
      subst (AreBelow jobs) (sym h.jobs) (subst (λ m. AreBelow m (flat_map (block_jobs blocks) drawer.draws)) is (each_job blocks drawer.draws n cut below (through_all blocks.count n drawer.draws h.through below long)))

  pub fanned : (seats ends : List Seat) (done : List (ℕ × Piece)) (drawer : Holding) (jobs : ℕ) (pieces : List Piece) → IsHarvest Step Fits id blocks seats ends done drawer → length pieces ≡ jobs → IsPermutation done (numbered 0 pieces) → IsFanned Step seats jobs ends pieces
  fanned seats ends done drawer jobs pieces h count once = record {
    count = count;
    logs = h.logs;
    once = subst (λ runs. IsPermutation runs (numbered 0 pieces)) (sym h.all) once;
    leads = h.leads;
  }
