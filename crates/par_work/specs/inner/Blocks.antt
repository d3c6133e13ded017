-- The blocks in which jobs are drawn.
use Rattle.std.specs.Prelude.{ℕ, ◌-◌, ◌*◌, ◌<◌, ◌≤◌, List, min}
use Rattle.std.specs.List.{range_with_len}
use Rattle.par_work.specs.declared.blocks.Blocks.{Blocks}

-- the blocks have all jobs, and each has one
pub record AreBlocks (b : Blocks) : Type 0 where
  pub sized : 0 < b.size
  pub covered : b.jobs ≤ b.count * b.size
  pub begun : (block : ℕ) → block < b.count → block * b.size < b.jobs

-- the jobs of a block; those behind the last block have none
abbrev pub block_jobs : Blocks → ℕ → List ℕ
block_jobs b block = range_with_len (block * b.size) (min b.size (b.jobs - block * b.size))
