-- What contracts see of the adapters.
use Rattle.std.specs.Prelude.{ℕ, Option}

-- messages on a writer, and how many puts failed
pub record WriterMessages (W : Type 0) : Type 0 where
  pub to : W
  pub faults : ℕ

-- the files of a runtime, and how many fetches failed
pub record DiskReads (R : Type 0) : Type 0 where
  pub rt : R
  pub faults : ℕ

-- files that are written by a runtime: the one that was begun and isn't done, and how many calls failed
pub record DiskWrites (R File : Type 0) : Type 0 where
  pub rt : R
  pub file : Option File
  pub faults : ℕ
