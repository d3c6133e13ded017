-- What became of jobs that were shared out among seats.
use Rattle.std.specs.Prelude.{◌≡◌, ℕ, ◌+◌, List, [], ◌∷◌, length}
use Rattle.std.specs.List.{flat_map}
use Rattle.std.specs.List.Sorted.{IsPermutation}

-- a job that fitted the seat was run there: the seat before, the job, its piece, the seat afterwards
pub record WasRun {Seat Piece : Type 0} (Fits : Seat → Type 0) (Ran : Seat → ℕ → Piece → Seat → Type 0) (before : Seat) (job : ℕ) (piece : Piece) (after : Seat) : Type 0 where
  pub fits : Fits before
  pub ran : Ran before job piece after

-- jobs, each with its piece, run one after the other, lead a seat from one state to another
abbrev pub Leads : {Seat Piece : Type 0} → (Seat → ℕ → Piece → Seat → Type 0) → Seat → List (ℕ × Piece) → Seat → Type 0
Leads Step before [] after = before ≡ after
Leads {Seat} Step before (run ∷ runs) after = (next : Seat) × Step before run.0 run.1 next × Leads Step next runs after

-- each seat's own jobs lead it from its state at first to its state at the end
abbrev pub EachLeads : {Seat Piece : Type 0} → (Seat → ℕ → Piece → Seat → Type 0) → List Seat → List (List (ℕ × Piece)) → List Seat → Type 0
EachLeads Step [] [] [] = Unit {0}
EachLeads Step (seat ∷ seats) (log ∷ logs) (end ∷ ends) = Leads Step seat log end × EachLeads Step seats logs ends
EachLeads Step _ _ _ = ⊥

-- the pieces, each with the number of its job, counted from this one on
abbrev pub numbered : {Piece : Type 0} → ℕ → List Piece → List (ℕ × Piece)
numbered from [] = []
numbered from (piece ∷ pieces) = (from, piece) ∷ numbered (from + 1) pieces

-- each job was run once, by one seat, piece j is that of job j, and each seat is where its own jobs led it
pub record IsFanned {Seat Piece : Type 0} (Step : Seat → ℕ → Piece → Seat → Type 0) (seats : List Seat) (jobs : ℕ) (ends : List Seat) (pieces : List Piece) : Type 0 where
  pub count : length pieces ≡ jobs
  pub logs : List (List (ℕ × Piece))
  pub once : IsPermutation (flat_map (λ log. log) logs) (numbered 0 pieces)
  pub leads : EachLeads Step seats logs ends

-- a piece that a job gave at some seat
pub record IsPieceOf {Seat Piece : Type 0} (Step : Seat → ℕ → Piece → Seat → Type 0) (job : ℕ) (piece : Piece) : Type 0 where
  pub before : Seat
  pub after : Seat
  pub step : Step before job piece after
