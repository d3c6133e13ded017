-- What workers mark, one atom after the other.
use Rattle.std.proofs.Common.{◌≡◌, ℕ, ◌+◌, ◌<◌, ◌≤◌, Bool, true, false, List, [], ◌∷◌, ◌++◌, All, length, get_or, take, map, cond, refl, sym, ◌∙◌, ap, ap₂, subst, arith}
use Rattle.std.specs.Prelude.{sum_by, is_err}
use Rattle.std.specs.List.{flat_map, range_with_len}
use Rattle.std.proofs.lemmas.List.{get_or-map, length-map, take_all, take_more}
use Rattle.std.proofs.lemmas.List.Concat.{flat_map-append}
use Rattle.std.proofs.lemmas.List.FromFn.{fill_by_all}
use Rattle.std.proofs.lemmas.List.Folds.{flat_map-map}
use Rattle.std.proofs.lemmas.List.Sorted.{sum_by-IsPermutation}
use Rattle.std.proofs.lemmas.List.Sums.{sum_by-cons}
use Rattle.par_work.specs.Fan.{EachLeads, IsFanned, Leads, WasRun, numbered}
use Rattle.par_work.proofs.Runs.{keys_numbered}
use Rattle.mark_race.specs.Ends.{ends_of, row_of}
use Rattle.mark_race.specs.Marks.{Holding, Race, times}
use Rattle.mark_race.specs.declared.level.Worker.{Worker}
use Rattle.mark_race.specs.inner.Working.{AllMarked, AreWorkable, HasMarked, lost, row_of_job}
use Rattle.mark_race.proofs.Steps.{times-append}

-- ---- one worker

pub nothing_marked : (worker : Worker) → HasMarked [] worker worker
nothing_marked worker = record {
  race = refl;
  passes = refl;
  marks = λ x. omega arith;
  new = [];
  gains = λ x. omega arith;
  few = λ x. omega arith;
  none_lost = λ e. e;
  noted = λ e x. omega arith;
}

pub marked_after : (a b : List ℕ) (first mid last : Worker) → HasMarked a first mid → HasMarked b mid last → HasMarked (a ++ b) first last
marked_after a b first mid last one two = record {
  race = two.race ∙ one.race;
  passes = two.passes ∙ one.passes;
  marks = λ x. omega (arith, one.marks x, two.marks x, times-append x a b);
  new = one.new ++ two.new;
  gains = λ x. omega (arith, one.gains x, two.gains x, times-append x one.new two.new);
  few = λ x. omega (arith, one.few x, two.few x, times-append x one.new two.new, times-append x a b);
  none_lost = λ e. one.none_lost (two.none_lost e);
  noted = λ e x. omega (arith, one.noted (two.none_lost e) x, two.noted e x, times-append x one.new two.new);
}

-- a mark of an atom that was marked before
pub marked_old : (atom : ℕ) (before after : Worker) (is_new : Bool) → is_new ≡ false → after.marker ≡ record before.marker { marks = before.marker.marks ++ atom ∷ []; gains = before.marker.gains ++ cond is_new (atom ∷ []) [] } → after.gained.items ≡ before.gained.items → is_err after.notes ≡ is_err before.notes
    → HasMarked (atom ∷ []) before after
marked_old atom before after is_new old is kept lost_is = record {
  race = ap (λ (m : Holding). m.race) is;
  passes = ap (λ (m : Holding). m.passes) is;
  marks = λ x. ap (λ (m : Holding). times x m.marks) is ∙ times-append x before.marker.marks (atom ∷ []);
  new = [];
  gains = λ x. ap (λ (m : Holding). times x m.gains) is ∙ (times-append x before.marker.gains (cond is_new (atom ∷ []) []) ∙ ap (λ b. times x before.marker.gains + times x (cond b (atom ∷ []) [])) old);
  few = λ x. omega arith;
  none_lost = λ e. sym lost_is ∙ e;
  noted = λ e x. omega (arith, ap (times x) kept);
}

-- a mark of a new atom, which is noted unless the note is lost
pub marked_new : (atom : ℕ) (before after : Worker) (is_new : Bool) → is_new ≡ true → after.marker ≡ record before.marker { marks = before.marker.marks ++ atom ∷ []; gains = before.marker.gains ++ cond is_new (atom ∷ []) [] } → (is_err after.notes ≡ false → (is_err before.notes ≡ false) × (after.gained.items ≡ before.gained.items ++ atom ∷ []))
    → HasMarked (atom ∷ []) before after
marked_new atom before after is_new new is kept = record {
  race = ap (λ (m : Holding). m.race) is;
  passes = ap (λ (m : Holding). m.passes) is;
  marks = λ x. ap (λ (m : Holding). times x m.marks) is ∙ times-append x before.marker.marks (atom ∷ []);
  new = atom ∷ [];
  gains = λ x. ap (λ (m : Holding). times x m.gains) is ∙ (times-append x before.marker.gains (cond is_new (atom ∷ []) []) ∙ ap (λ b. times x before.marker.gains + times x (cond b (atom ∷ []) [])) new);
  few = λ x. omega arith;
  none_lost = λ e. (kept e).0;
  noted = λ e x. ap (times x) (kept e).1 ∙ times-append x before.gained.items (atom ∷ []);
}

pub row_more : (row : List ℕ) (i atom : ℕ) (first now next : Worker) → HasMarked (take i row) first now → i < length row → atom ≡ get_or row i 0 → HasMarked (atom ∷ []) now next → HasMarked (take (i + 1) row) first next
row_more row i atom first now next so low is one =
    subst (λ (l : List ℕ). HasMarked l first next) (ap (λ (a : ℕ). take i row ++ a ∷ []) is ∙ sym (take_more row i 0 low)) (marked_after (take i row) (atom ∷ []) first now next so one)

pub row_end : (row : List ℕ) (i : ℕ) (first now : Worker) → HasMarked (take i row) first now → length row ≤ i → HasMarked row first now
row_end row i first now so past = subst (λ (l : List ℕ). HasMarked l first now) (take_all i row past) so

pub ruleset row_marks = (nothing_marked, row_more, row_end)

-- the row of a job
pub row_fits : (count : ℕ) (ends : List (List ℕ)) (work : List ℕ) (job atom : ℕ) → AreWorkable count ends work → job < length work → atom ≡ get_or work job 0 → atom < length ends
row_fits count ends work job atom are low is = subst (λ (a : ℕ). a < length ends) (sym is) (are.work_has_ends job 0 low)

pub row_all : (count : ℕ) (ends : List (List ℕ)) (work : List ℕ) (job atom : ℕ) (row : List ℕ) → AreWorkable count ends work → job < length work → atom ≡ get_or work job 0 → row ≡ get_or ends atom [] → All (λ a. a < count) row
row_all count ends work job atom row are low is at = subst (All (λ (a : ℕ). a < count)) (sym at) (are.ends_are atom [] (row_fits count ends work job atom are low is))

pub job_marked : (ends : List (List ℕ)) (work : List ℕ) (job atom : ℕ) (row : List ℕ) (before after : Worker) → HasMarked row before after → job < length work → atom ≡ get_or work job 0 → row ≡ get_or ends atom [] → HasMarked (row_of_job ends work job) before after
job_marked ends work job atom row before after so low is at = subst (λ (l : List ℕ). HasMarked l before after) (at ∙ (ap (row_of ends) is ∙ sym (get_or-map (row_of ends) work job 0 [] low))) so

pub ruleset jobs = (row_fits, row_all, job_marked)

-- ---- all workers

times_flat : {X : Type 0} (f : X → List ℕ) (x : ℕ) (xs : List X) → times x (flat_map f xs) ≡ sum_by (λ y. times x (f y)) xs
times_flat f x [] = refl
times_flat f x (y ∷ ys) = omega (arith, times-append x (f y) (flat_map f ys), times_flat f x ys, sum_by-cons (λ y. times x (f y)) y ys)

none_of : (b : Bool) (n : ℕ) → cond {A = ℕ} b 1 0 + n ≡ 0 → b ≡ false
none_of true n e = absurd (omega arith)
none_of false n e = refl

lost_cons : (w : Worker) (ws : List Worker) → lost (w ∷ ws) ≡ cond (is_err w.notes) 1 0 + lost ws
lost_cons w ws = sum_by-cons (λ (u : Worker). cond (is_err u.notes) 1 0) w ws

module _ {Piece : Type 0} (Step : Worker → ℕ → Piece → Worker → Type 0) (rows : ℕ → List ℕ) (has : (before : Worker) (job : ℕ) (piece : Piece) (after : Worker) → Step before job piece after → HasMarked (rows job) before after) where
  -- what some runs marked
  abbrev run_rows : List (ℕ × Piece) → List ℕ
  run_rows runs = flat_map (λ (run : ℕ × Piece). rows run.0) runs

  led : (before : Worker) (runs : List (ℕ × Piece)) (after : Worker) → Leads Step before runs after → HasMarked (run_rows runs) before after
  led before [] after same = subst (HasMarked [] before) same (nothing_marked before)
  led before (run ∷ runs) after (next, step, rest) = marked_after (rows run.0) (run_rows runs) before next after (has before run.0 run.1 next step) (led next runs after rest)

  all_led : (seats : List Worker) (logs : List (List (ℕ × Piece))) (ends : List Worker) → EachLeads Step seats logs ends → AllMarked (run_rows (flat_map (λ (log : List (ℕ × Piece)). log) logs)) seats ends
  all_led [] [] [] each = record {
    races = refl;
    passes = refl;
    marks = λ x. omega arith;
    new = [];
    gains = λ x. omega arith;
    few = λ x. omega arith;
    noted = λ e x. omega arith;
  }
  all_led [] [] (e ∷ ends) each = absurd each
  all_led [] (l ∷ logs) ends each = absurd each
  all_led (s ∷ seats) [] ends each = absurd each
  all_led (s ∷ seats) (l ∷ logs) [] each = absurd each
  all_led (s ∷ seats) (l ∷ logs) (e ∷ ends) (first, each) =
      let one : HasMarked (run_rows l) s e = led s l e first in
      let rest : AllMarked (run_rows (flat_map (λ (log : List (ℕ × Piece)). log) logs)) seats ends = all_led seats logs ends each in
      let more : List (ℕ × Piece) = flat_map (λ (log : List (ℕ × Piece)). log) logs in
      let both : (x : ℕ) → times x (run_rows (l ++ more)) ≡ times x (run_rows l) + times x (run_rows more) = λ x. ap (times x) (flat_map-append (λ (run : ℕ × Piece). rows run.0) l more) ∙ times-append x (run_rows l) (run_rows more) in
      record {
        races = ap₂ (λ (r : Race) (rs : List Race). r ∷ rs) one.race rest.races;
        passes = ap₂ (λ (r : ℕ) (rs : List ℕ). r ∷ rs) one.passes rest.passes;
        marks = λ x. omega (arith, one.marks x, rest.marks x, both x, sum_by-cons (λ (w : Worker). times x w.marker.marks) s seats, sum_by-cons (λ (w : Worker). times x w.marker.marks) e ends);
        new = one.new ++ rest.new;
        gains = λ x. omega (arith, one.gains x, rest.gains x, times-append x one.new rest.new, sum_by-cons (λ (w : Worker). times x w.marker.gains) s seats, sum_by-cons (λ (w : Worker). times x w.marker.gains) e ends);
        few = λ x. omega (arith, one.few x, rest.few x, both x, times-append x one.new rest.new);
        noted = λ none_lost x.
            let split : cond {A = ℕ} (is_err e.notes) 1 0 + lost ends ≡ 0 = sym (lost_cons e ends) ∙ none_lost in
            let mine : is_err e.notes ≡ false = none_of (is_err e.notes) (lost ends) split in
            omega (arith, one.noted mine x, rest.noted (omega (arith, split)) x, times-append x one.new rest.new, sum_by-cons (λ (w : Worker). times x w.gained.items) s seats, sum_by-cons (λ (w : Worker). times x w.gained.items) e ends);
      }

  numbered_rows : (pieces : List Piece) → run_rows (numbered 0 pieces) ≡ flat_map rows (range_with_len 0 (length pieces))
  numbered_rows pieces = sym (flat_map-map rows (λ (run : ℕ × Piece). run.0) (numbered 0 pieces)) ∙ ap (flat_map rows) (keys_numbered 0 pieces)

  fanned : (seats ends : List Worker) (jobs : ℕ) (pieces : List Piece) → IsFanned Step seats jobs ends pieces → AllMarked (flat_map rows (range_with_len 0 jobs)) seats ends
  fanned seats ends jobs pieces f =
      let runs : List (ℕ × Piece) = flat_map (λ (log : List (ℕ × Piece)). log) f.logs in
      let is : run_rows (numbered 0 pieces) ≡ flat_map rows (range_with_len 0 jobs) = numbered_rows pieces ∙ ap (λ (n : ℕ). flat_map rows (range_with_len 0 n)) f.count in
      let same : (x : ℕ) → times x (run_rows runs) ≡ times x (flat_map rows (range_with_len 0 jobs)) = λ x. times_flat (λ (run : ℕ × Piece). rows run.0) x runs ∙ (sym (sum_by-IsPermutation (λ (run : ℕ × Piece). times x (rows run.0)) runs (numbered 0 pieces) f.once) ∙ (sym (times_flat (λ (run : ℕ × Piece). rows run.0) x (numbered 0 pieces)) ∙ ap (times x) is)) in
      let all : AllMarked (run_rows runs) seats ends = all_led seats f.logs ends f.leads in
      record {
        races = all.races;
        passes = all.passes;
        marks = λ x. omega (arith, all.marks x, same x);
        new = all.new;
        gains = all.gains;
        few = λ x. omega (arith, all.few x, same x);
        noted = all.noted;
      }

-- the rows of all jobs are the ends of the work
job_rows : (ends : List (List ℕ)) (work : List ℕ) → flat_map (row_of_job ends work) (range_with_len 0 (length work)) ≡ ends_of ends work
job_rows ends work =
    let each : List (List ℕ) = map (row_of ends) work in
    sym (flat_map-map (λ (l : List ℕ). l) (row_of_job ends work) (range_with_len 0 (length work)))
    ∙ (ap (flat_map (λ (l : List ℕ). l)) (sym (fill_by_all (row_of_job ends work) each (length work) [] (length-map work (row_of ends)) (λ k low. refl)))
    ∙ flat_map-map (λ (l : List ℕ). l) (row_of ends) work)

pub level_marked : {Piece : Type 0} (race : Race) (count : ℕ) (ends : List (List ℕ)) (work : List ℕ) (seats after : List Worker) (pieces : List Piece)
    → IsFanned (WasRun (λ (worker : Worker). (worker.marker.race ≡ race) × AreWorkable count ends work) (λ (before : Worker) (job : ℕ) (piece : Piece) (after : Worker). HasMarked (row_of_job ends work job) before after)) seats (length work) after pieces
    → AllMarked (ends_of ends work) seats after
level_marked {Piece = Piece} race count ends work seats after pieces f =
    subst (λ (l : List ℕ). AllMarked l seats after) (job_rows ends work)
    (fanned (WasRun (λ (worker : Worker). (worker.marker.race ≡ race) × AreWorkable count ends work) (λ (before : Worker) (job : ℕ) (piece : Piece) (after : Worker). HasMarked (row_of_job ends work job) before after)) (row_of_job ends work) (λ before job piece after step. step.ran) seats after (length work) pieces f)
