-- Pieces in the order of their jobs.
use Rattle.std.proofs.Common.{◌≡◌, ℕ, zero, suc, ◌+◌, ◌<◌, ◌≤◌, List, [], ◌∷◌, length, map, get_or, cond, ⊎_elim, refl, sym, ◌∙◌, ap, subst, arith}
use Rattle.std.proofs.lemmas.Bool.{cases_lt}
use Rattle.std.specs.Prelude.{◌==◌}
use Rattle.std.specs.List.{All, flat_map}
use Rattle.std.specs.List.Sorted.{IsPermutation, IsNonDecreasingBy}
use Rattle.std.proofs.lemmas.Bool.Decides.{nat_tests}
use Rattle.std.proofs.lemmas.List.Elements.{All-nil, All-cons, All-append}
use Rattle.std.proofs.lemmas.List.Sorted.{All-permutation, IsPermutation-map, sum_by-IsPermutation}
use Rattle.par_work.specs.Drawn.{times, once_below, AreBelow}
use Rattle.par_work.specs.Fan.{Leads, EachLeads, numbered, IsFanned, IsPieceOf}
use Rattle.par_work.specs.declared.worker.Run.{Run}
use Rattle.par_work.specs.inner.Runs.{log_of}
use Rattle.par_work.proofs.Counts.{once_from, in_window, past_window, times_range}
use Rattle.par_work.proofs.Runs.{flat_map-IsPermutation, keys_numbered, runs_are}

-- windows of the same numbers are as long
same_window : (m n : ℕ) → ((x : ℕ) → once_from x 0 m ≡ once_from x 0 n) → m ≡ n
same_window m n same =
    ⊎_elim
    (λ (less : m < n). absurd (omega (arith, same m, past_window m 0 m (omega arith), in_window m 0 n (omega arith) (omega arith))))
    (λ (more : n ≤ m).
    ⊎_elim
    (λ (above : n < m). absurd (omega (arith, same n, past_window n 0 n (omega arith), in_window n 0 m (omega arith) (omega arith))))
    (λ (below : m ≤ n). omega arith)
    (cases_lt n m))
    (cases_lt m n)

-- what a sort by the first job gives
pub sorted_is : {Piece : Type 0} (jobs : ℕ) (done sorted : List (Run Piece)) (pieces : List Piece) → AreBelow jobs (map (λ (job : ℕ × Piece). job.0) (log_of done)) → IsPermutation done sorted → IsNonDecreasingBy (λ (run : Run Piece). run.first) sorted
    → pieces ≡ flat_map (λ (run : Run Piece). run.pieces.items) sorted → (length pieces ≡ jobs) × IsPermutation (log_of done) (numbered 0 pieces)
sorted_is {Piece} jobs done sorted pieces below moved up is =
    let whole : log_of sorted ≡ numbered 0 pieces = runs_are (λ (run : Run Piece). run.first) (λ (run : Run Piece). run.pieces.items) sorted jobs 0 up each ∙ ap (numbered 0) (sym is) in
    let keys : (x : ℕ) → once_from x 0 (length pieces) ≡ once_from x 0 jobs = λ x. sym (times_range x 0 (length pieces)) ∙ (ap (times x) (sym (keys_numbered 0 pieces) ∙ sym (ap (map (λ (job : ℕ × Piece). job.0)) whole)) ∙ each x) in (
      same_window (length pieces) jobs keys,
      subst (IsPermutation (log_of done)) whole (flat_map-IsPermutation (λ (run : Run Piece). numbered run.first run.pieces.items) done sorted moved),
    )
  where
    from_zero : (x jobs : ℕ) → once_below x jobs ≡ once_from x 0 jobs
    from_zero x jobs = grind (arith, nat_tests)

    counted : (x : ℕ) → times x (map (λ (job : ℕ × Piece). job.0) (log_of sorted)) ≡ times x (map (λ (job : ℕ × Piece). job.0) (log_of done))
    counted x =
        sum_by-IsPermutation (λ (y : ℕ). cond (y == x) 1 0) (map (λ (job : ℕ × Piece). job.0) (log_of done)) (map (λ (job : ℕ × Piece). job.0) (log_of sorted))
        (IsPermutation-map (λ (job : ℕ × Piece). job.0) (log_of done) (log_of sorted) (flat_map-IsPermutation (λ (run : Run Piece). numbered run.first run.pieces.items) done sorted moved))

    each : (x : ℕ) → times x (map (λ (job : ℕ × Piece). job.0) (log_of sorted)) ≡ once_from x 0 jobs
    each x = counted x ∙ (below.each x ∙ from_zero x jobs)

module _ {Seat Piece : Type 0} (Step : Seat → ℕ → Piece → Seat → Type 0) where
  -- what was run is a piece of its job
  abbrev pub IsPiece : ℕ × Piece → Type 0
  IsPiece run = IsPieceOf Step run.0 run.1

  log_pieces : (before after : Seat) (log : List (ℕ × Piece)) → Leads Step before log after → All IsPiece log
  log_pieces before after [] led = All-nil IsPiece
  log_pieces before after (run ∷ runs) led = All-cons IsPiece run runs record { before = before; after = led.0; step = led.1 } (log_pieces led.0 after runs led.2)

  logs_pieces : (seats ends : List Seat) (logs : List (List (ℕ × Piece))) → EachLeads Step seats logs ends → All IsPiece (flat_map (λ (log : List (ℕ × Piece)). log) logs)
  logs_pieces seats ends [] led = All-nil IsPiece
  logs_pieces [] ends (log ∷ logs) led = absurd (none ends led)
    where
      none : (ends : List Seat) → EachLeads Step [] (log ∷ logs) ends → ⊥
      none [] led = led
      none (end ∷ ends) led = led
  logs_pieces (seat ∷ seats) [] (log ∷ logs) led = absurd led
  logs_pieces (seat ∷ seats) (end ∷ ends) (log ∷ logs) led = All-append IsPiece log (flat_map (λ (log : List (ℕ × Piece)). log) logs) (log_pieces seat end log led.0) (logs_pieces seats ends logs led.1)

  numbered_at : (a : ℕ) (pieces : List Piece) (job x : ℕ) (other : Piece) → job < length pieces → get_or (numbered a pieces) job (x, other) ≡ (a + job, get_or pieces job other)
  numbered_at a [] job x other near = absurd (omega arith)
  numbered_at a (piece ∷ pieces) zero x other near = ap (λ n. (n, piece)) (start a)
    where
      start : (a : ℕ) → a ≡ a + 0
      start a = omega arith
  numbered_at a (piece ∷ pieces) (suc job) x other near = numbered_at (a + 1) pieces job x other (omega arith) ∙ ap (λ n. (n, get_or pieces job other)) (on a job)
    where
      on : (a job : ℕ) → (a + 1) + job ≡ a + suc job
      on a job = omega arith

  length_numbered : (a : ℕ) (pieces : List Piece) → length (numbered a pieces) ≡ length pieces
  length_numbered a [] = refl
  length_numbered a (piece ∷ pieces) = ap suc (length_numbered (a + 1) pieces)

  -- each piece is one that its job gave
  pub pieces_given : (seats ends : List Seat) (jobs : ℕ) (pieces : List Piece) → IsFanned Step seats jobs ends pieces → (job : ℕ) (other : Piece) → job < jobs → IsPieceOf Step job (get_or pieces job other)
  pieces_given seats ends jobs pieces fanned job other near =
      let all = All-permutation IsPiece (flat_map (λ (log : List (ℕ × Piece)). log) fanned.logs) (numbered 0 pieces) fanned.once (logs_pieces seats ends fanned.logs fanned.leads) in
      subst IsPiece (numbered_at 0 pieces job job other (omega (arith, fanned.count)) ∙ ap (λ n. (n, get_or pieces job other)) (front job)) (all job (job, other) (omega (arith, fanned.count, length_numbered 0 pieces)))
    where
      front : (job : ℕ) → 0 + job ≡ job
      front job = omega arith
