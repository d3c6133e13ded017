-- What one worker brings in, and what two groups do.
use Rattle.std.proofs.Common.{◌≡◌, ℕ, ◌+◌, ◌-◌, ◌*◌, ◌<◌, ◌≤◌, List, [], ◌∷◌, ◌++◌, length, get_or, inl, inr, ⊎_elim, refl, sym, ◌∙◌, ap, ap₂, subst, arith, length-append, append-nil, add-mul, one-mul}
use Rattle.std.specs.List.{All}
use Rattle.std.proofs.lemmas.List.{map-append, get_or_append_left}
use Rattle.std.proofs.Math.Seq.{get_or-append_right}
use Rattle.std.specs.Prelude.{Result, Ok, Err, IfOk}
use Rattle.mo_types.specs.declared.memory.OutOfMemory.{OutOfMemory}
use Rattle.par_work.specs.declared.crew.Harvest.{Harvest}
use Rattle.par_work.specs.declared.worker.Run.{Run}
use Rattle.par_work.specs.Fan.{numbered}
use Rattle.par_work.specs.inner.Runs.{log_of}
use Rattle.std.proofs.lemmas.List.Concat.{flat_map-append}
use Rattle.std.proofs.lemmas.List.Elements.{All-nil, All-cons, All-append}
use Rattle.atomic_table.specs.Seated.{TableId}
use Rattle.par_work.specs.Drawn.{Holding, times}
use Rattle.par_work.specs.declared.blocks.Blocks.{Blocks}
use Rattle.par_work.specs.inner.Blocks.{block_jobs}
use Rattle.par_work.specs.inner.Worked.{IsThrough, HasWorked}
use Rattle.par_work.specs.inner.Harvest.{IsCrew, IsHarvest}
use Rattle.par_work.proofs.Steps.{times-append}
use Rattle.par_work.proofs.Logs.{each_leads_append}

-- the drawer of two
abbrev pub union : Holding → Holding → Holding
union v w = record { claims = v.claims; passes = v.passes + w.passes; draws = v.draws ++ w.draws }

through_more : (count : ℕ) (draws more : List ℕ) → IsThrough count draws → IsThrough count (draws ++ more)
through_more count draws more h =
    ⊎_elim
    (λ (all : count < length draws). inl (omega (arith, length-append draws more)))
    (λ (one : (block : ℕ) × (count ≤ block) × (0 < times block draws)). inr (one.0, one.1, omega (arith, one.2, times-append one.0 draws more)))
    h

module _ {Seat Piece : Type 0} (Step : Seat → ℕ → Piece → Seat → Type 0) (Fits : Seat → Type 0) (id : TableId) (blocks : Blocks) where
  one : (seat end : Seat) (done : List (ℕ × Piece)) (drawer : Holding) → HasWorked Step Fits id blocks seat end done drawer → IsHarvest Step Fits id blocks (seat ∷ []) (end ∷ []) done drawer
  one seat end done drawer h = record {
    claims = h.worked.claims;
    held = omega (arith, h.worked.held, one-mul (blocks.count + 1));
    through = h.through;
    jobs = h.worked.jobs;
    fit = All-cons Fits end [] h.worked.fits (All-nil Fits);
    logs = done ∷ [];
    all = append-nil done;
    leads = (h.worked.leads, tt);
  }

  pub harvest_one : (seats rest ends : List Seat) (seat end : Seat) (done : List (ℕ × Piece)) (drawer : Holding) → seats ≡ rest ++ seat ∷ [] → rest ≡ [] → ends ≡ rest ++ end ∷ [] → HasWorked Step Fits id blocks seat end done drawer
      → IsHarvest Step Fits id blocks seats ends done drawer
  harvest_one seats rest ends seat end done drawer at none came h =
      subst (λ xs. IsHarvest Step Fits id blocks xs ends done drawer) (sym (at ∙ ap (λ r. r ++ seat ∷ []) none))
      (subst (λ xs. IsHarvest Step Fits id blocks (seat ∷ []) xs done drawer) (sym (came ∙ ap (λ r. r ++ end ∷ []) none)) (one seat end done drawer h))

  pub harvest_both : (seats others ends rest : List Seat) (done more : List (ℕ × Piece)) (v w : Holding) → IsHarvest Step Fits id blocks seats ends done v → IsHarvest Step Fits id blocks others rest more w
      → IsHarvest Step Fits id blocks (seats ++ others) (ends ++ rest) (done ++ more) (union v w)
  harvest_both seats others ends rest done more v w a b = record {
    claims = a.claims;
    held = omega (arith, a.held, b.held, length-append v.draws w.draws, length-append seats others, add-mul (length seats) (length others) (blocks.count + 1), ap (λ n. n * (blocks.count + 1)) (length-append seats others));
    through = through_more blocks.count v.draws w.draws a.through;
    jobs = map-append (λ (run : ℕ × Piece). run.0) done more ∙ (ap₂ (λ xs ys. xs ++ ys) a.jobs b.jobs ∙ sym (flat_map-append (block_jobs blocks) v.draws w.draws));
    fit = All-append Fits ends rest a.fit b.fit;
    logs = a.logs ++ b.logs;
    all = flat_map-append (λ (log : List (ℕ × Piece)). log) a.logs b.logs ∙ ap₂ (λ xs ys. xs ++ ys) a.all b.all;
    leads = each_leads_append Step seats others a.logs b.logs ends rest a.leads b.leads;
  }

-- the jobs of some runs and of others
pub log_append : {Piece : Type 0} (runs more : List (Run Piece)) → log_of (runs ++ more) ≡ log_of runs ++ log_of more
log_append {Piece} runs more = flat_map-append (λ (run : Run Piece). numbered run.first run.pieces.items) runs more

-- what both brought in, where there was memory to put it together
pub joined : {Seat Piece : Type 0} (Step : Seat → ℕ → Piece → Seat → Type 0) (Fits : Seat → Type 0) (id : TableId) (blocks : Blocks) (seats all ends : List Seat) (runs more : List (Run Piece)) (drawer : Holding) (r : Result (Harvest Seat Piece) OutOfMemory)
    → all ≡ seats → IfOk r (λ h. h.ends.items ≡ ends) → IfOk r (λ h. h.done.items ≡ runs ++ more) → IfOk r (λ h. h.drawer ≡ drawer) → IsHarvest Step Fits id blocks seats ends (log_of runs ++ log_of more) drawer
    → IfOk r (λ h. IsHarvest Step Fits id blocks all h.ends.items (log_of h.done.items) h.drawer)
joined Step Fits id blocks seats all ends runs more drawer (Ok h) whole e d v is =
    subst (λ xs. IsHarvest Step Fits id blocks xs h.ends.items (log_of h.done.items) h.drawer) (sym whole)
    (subst (λ xs. IsHarvest Step Fits id blocks seats xs (log_of h.done.items) h.drawer) (sym e)
    (subst (λ xs. IsHarvest Step Fits id blocks seats ends xs h.drawer) (sym (ap log_of d ∙ log_append runs more)) (subst (λ x. IsHarvest Step Fits id blocks seats ends (log_of runs ++ log_of more) x) (sym v) is)))
joined Step Fits id blocks seats all ends runs more drawer (Err error) whole e d v is = tt

-- the first half of a crew
pub crew_low : {Seat : Type 0} (id : TableId) (each first n : ℕ) (seats low high : List Seat) (v w : Holding) → IsCrew id each first seats v → seats ≡ low ++ high → 0 < length low → n ≡ length high → w ≡ record v { passes = v.passes - n * each } → IsCrew id each first low w
crew_low id each first n seats low high v w crew whole some count is =
    let long : length seats ≡ length low + length high = ap length whole ∙ length-append low high in record {
      some = some;
      room = omega (arith, crew.room);
      claims = ap (λ (h : Holding). h.claims) is ∙ crew.claims;
      passes = omega (arith, crew.passes, ap (λ (h : Holding). h.passes) is, ap (λ m. m * each) long, ap (λ m. m * each) count, add-mul (length low) (length high) each);
      draws = ap (λ (h : Holding). h.draws) is ∙ crew.draws;
    }

-- what all seats are, those of each half are
pub all_low : {Seat : Type 0} (Fits : Seat → Type 0) (low high : List Seat) → All Fits (low ++ high) → All Fits low
all_low Fits low high all k d near = subst Fits (get_or_append_left low high d k near) (all k d (omega (arith, length-append low high)))

pub all_high : {Seat : Type 0} (Fits : Seat → Type 0) (low high : List Seat) → All Fits (low ++ high) → All Fits high
all_high Fits low high all k d near = subst Fits (right (length low) k refl) (all (length low + k) d (omega (arith, length-append low high)))
  where
    right : (n k : ℕ) → n ≡ length low → get_or (low ++ high) (length low + k) d ≡ get_or high k d
    right n k e = get_or-append_right low high (length low + k) d (omega arith) ∙ ap (λ i. get_or high i d) (back (length low) k)
      where
        back : (n k : ℕ) → (n + k) - n ≡ k
        back n k = omega arith
