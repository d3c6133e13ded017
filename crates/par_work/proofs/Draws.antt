-- What a worker has done after one block more.
use Rattle.std.proofs.Common.{◌≡◌, ℕ, ◌+◌, ◌-◌, ◌*◌, ◌<◌, ◌≤◌, min, List, [], ◌∷◌, ◌++◌, length, map, cond, inl, inr, refl, sym, ◌∙◌, ap, ap₂, subst, arith, length-append, append-nil, mul-le-mul_right}
use Rattle.std.specs.Prelude.{◌==◌}
use Rattle.std.specs.List.{flat_map, range_with_len}
use Rattle.std.proofs.lemmas.Bool.Decides.{nat_tests}
use Rattle.std.proofs.lemmas.List.{map-append}
use Rattle.std.proofs.lemmas.List.Concat.{flat_map-append}
use Rattle.atomic_table.specs.Seated.{TableId}
use Rattle.par_work.specs.Drawn.{Holding, times}
use Rattle.par_work.specs.Fan.{Leads, numbered}
use Rattle.par_work.specs.declared.worker.Run.{Run}
use Rattle.par_work.specs.inner.Runs.{log_of}
use Rattle.par_work.specs.declared.blocks.Blocks.{Blocks}
use Rattle.par_work.specs.inner.Blocks.{AreBlocks, block_jobs}
use Rattle.par_work.specs.inner.Worked.{IsWorking, HasWorked}
use Rattle.par_work.proofs.Steps.{times_push}
use Rattle.par_work.proofs.Runs.{keys_numbered}
use Rattle.par_work.proofs.Logs.{leads_append}

-- a drawer after a draw
abbrev pub drew : Holding → ℕ → Holding
drew h block = record h { passes = h.passes - 1; draws = h.draws ++ block ∷ [] }

-- a block that isn't among them has no jobs
pub no_jobs : (b : Blocks) (block : ℕ) → AreBlocks b → b.count ≤ block → block_jobs b block ≡ []
no_jobs b block cut past =
    let far : b.jobs ≤ block * b.size = omega (arith, cut.covered, mul-le-mul_right {m = b.count} {n = block} b.size past) in
    let none : min b.size (b.jobs - block * b.size) ≡ 0 = omega arith in ap (range_with_len (block * b.size)) none

pub at_itself : (block : ℕ) (draws : List ℕ) → 0 < times block (draws ++ block ∷ [])
at_itself block draws = omega (arith, times_push block draws block, one block)
  where
    one : (n : ℕ) → ◌≡◌ {A = ℕ} (cond (n == n) 1 0) 1
    one n = grind (arith, nat_tests)

-- the jobs from a block's first to its last
pub range_is : (b : Blocks) (block from to : ℕ) → from ≡ block * b.size → to ≡ block * b.size + min b.size (b.jobs - block * b.size) → range_with_len from (to - from) ≡ block_jobs b block
range_is b block from to f t = let n : to - from ≡ min b.size (b.jobs - block * b.size) = omega arith in ap₂ range_with_len f n

-- one run more
log_push : {Piece : Type 0} (done : List (Run Piece)) (run : Run Piece) → log_of (done ++ run ∷ []) ≡ log_of done ++ numbered run.first run.pieces.items
log_push {Piece} done run = flat_map-append (λ (r : Run Piece). numbered r.first r.pieces.items) done (run ∷ []) ∙ ap (λ l. log_of done ++ l) (append-nil (numbered run.first run.pieces.items))

pub jobs_push : {Piece : Type 0} (b : Blocks) (done now : List (Run Piece)) (run : Run Piece) (block from to : ℕ) → now ≡ done ++ run ∷ [] → run.first ≡ from → length run.pieces.items ≡ to - from → from ≡ block * b.size → to ≡ block * b.size + min b.size (b.jobs - block * b.size)
    → map (λ (job : ℕ × Piece). job.0) (log_of now) ≡ map (λ (job : ℕ × Piece). job.0) (log_of done) ++ block_jobs b block
jobs_push {Piece} b done now run block from to is first count start end =
    ap (map (λ (job : ℕ × Piece). job.0)) (ap log_of is ∙ log_push done run)
    ∙ (map-append (λ (job : ℕ × Piece). job.0) (log_of done) (numbered run.first run.pieces.items)
    ∙ ap (λ l. map (λ (job : ℕ × Piece). job.0) (log_of done) ++ l) (keys_numbered run.first run.pieces.items ∙ (ap₂ range_with_len first count ∙ range_is b block from to start end)))

pub leads_push : {Seat Piece : Type 0} (Step : Seat → ℕ → Piece → Seat → Type 0) (done now : List (Run Piece)) (run : Run Piece) (from : ℕ) (mid after : Seat) → now ≡ done ++ run ∷ [] → run.first ≡ from → Leads Step mid (numbered from run.pieces.items) after
    → (first : Seat) → Leads Step first (log_of done) mid → Leads Step first (log_of now) after
leads_push Step done now run from mid after is start led first so =
    subst (λ l. Leads Step first l after) (sym (ap log_of is ∙ (log_push done run ∙ ap (λ k. log_of done ++ numbered k run.pieces.items) start))) (leads_append Step (log_of done) (numbered from run.pieces.items) first mid after so led)

pub length_drew : (draws : List ℕ) (block n : ℕ) → length draws ≡ n → length (draws ++ block ∷ []) ≡ n + 1
length_drew draws block n is = omega (arith, length-append draws (block ∷ []))

module _ {Seat Piece : Type 0} (Step : Seat → ℕ → Piece → Seat → Type 0) (Fits : Seat → Type 0) (id : TableId) (blocks : Blocks) where
  -- nothing is done yet
  pub working_none : (seat : Seat) (done : List (ℕ × Piece)) (drawer : Holding) → drawer.claims ≡ id → drawer.passes ≡ blocks.count + 1 → drawer.draws ≡ [] → done ≡ [] → Fits seat → IsWorking Step Fits id blocks seat seat done drawer
  working_none seat done drawer of all none nothing fit = record {
    claims = of;
    held = omega (arith, all, ap length none);
    jobs = ap (map (λ (run : ℕ × Piece). run.0)) nothing ∙ ap (flat_map (block_jobs blocks)) (sym none);
    fits = fit;
    leads = subst (λ runs. Leads Step seat runs seat) (sym nothing) refl;
  }

  pub working_more : (before mid after : Seat) (done now : List (ℕ × Piece)) (drawer : Holding) (block : ℕ) → IsWorking Step Fits id blocks before mid done drawer → 0 < drawer.passes
      → map (λ (run : ℕ × Piece). run.0) now ≡ map (λ (run : ℕ × Piece). run.0) done ++ block_jobs blocks block → Fits after → ((first : Seat) → Leads Step first done mid → Leads Step first now after)
      → IsWorking Step Fits id blocks before after now (drew drawer block)
  working_more before mid after done now drawer block h some more fit led = record {
    claims = h.claims;
    held = omega (arith, h.held, length-append drawer.draws (block ∷ []));
    jobs = more ∙ (ap (λ xs. xs ++ block_jobs blocks block) h.jobs ∙ sym (flat_map-append (block_jobs blocks) drawer.draws (block ∷ []) ∙ ap (λ xs. flat_map (block_jobs blocks) drawer.draws ++ xs) (append-nil (block_jobs blocks block))));
    fits = fit;
    leads = led before h.leads;
  }

  -- the draw of a block that isn't there
  pub working_past : (before after : Seat) (done : List (ℕ × Piece)) (drawer : Holding) (block : ℕ) → AreBlocks blocks → IsWorking Step Fits id blocks before after done drawer → 0 < drawer.passes → blocks.count ≤ block
      → HasWorked Step Fits id blocks before after done (drew drawer block)
  working_past before after done drawer block cut h some past = record {
    worked = working_more before after after done done drawer block h some (sym (append-nil (map (λ (run : ℕ × Piece). run.0) done)) ∙ ap (λ xs. map (λ (run : ℕ × Piece). run.0) done ++ xs) (sym (no_jobs blocks block cut past))) h.fits (λ first led. led);
    through = inr (block, past, at_itself block drawer.draws);
  }

  -- as many draws as there may be
  pub working_out : (before after : Seat) (done : List (ℕ × Piece)) (drawer : Holding) → IsWorking Step Fits id blocks before after done drawer → blocks.count < length drawer.draws → HasWorked Step Fits id blocks before after done drawer
  working_out before after done drawer h all = record { worked = h; through = inl all }
