-- Jobs that were run one after the other.
use Rattle.std.specs.Prelude.{ℕ, List}
use Rattle.std.specs.List.{flat_map}
use Rattle.par_work.specs.declared.worker.Run.{Run}
use Rattle.par_work.specs.Fan.{numbered}

-- the jobs of some runs, each with its piece
abbrev pub log_of : {Piece : Type 0} → List (Run Piece) → List (ℕ × Piece)
log_of runs = flat_map (λ run. numbered run.first run.pieces.items) runs
