-- Jobs that were run at a seat, one after the other.
use Rattle.std.proofs.Common.{◌≡◌, ℕ, ◌+◌, ◌-◌, ◌≤◌, List, [], ◌∷◌, ◌++◌, length, refl, sym, ◌∙◌, ap, subst, arith, length-append}
use Rattle.par_work.specs.Fan.{Leads, EachLeads, numbered}
use Rattle.par_work.proofs.Runs.{numbered-append}

module _ {Seat Piece : Type 0} (Step : Seat → ℕ → Piece → Seat → Type 0) where
  -- one more job
  pub leads_more : (runs : List (ℕ × Piece)) (before mid after : Seat) (job : ℕ) (piece : Piece) → Leads Step before runs mid → Step mid job piece after → Leads Step before (runs ++ (job, piece) ∷ []) after
  leads_more [] before mid after job piece led step = (after, subst (λ s. Step s job piece after) (sym led) step, refl)
  leads_more (run ∷ runs) before mid after job piece led step = (led.0, led.1, leads_more runs led.0 mid after job piece led.2 step)

  -- some jobs and then others
  pub leads_append : (runs more : List (ℕ × Piece)) (before mid after : Seat) → Leads Step before runs mid → Leads Step mid more after → Leads Step before (runs ++ more) after
  leads_append [] more before mid after led also = subst (λ s. Leads Step s more after) (sym led) also
  leads_append (run ∷ runs) more before mid after led also = (led.0, led.1, leads_append runs more led.0 mid after led.2 also)

  -- one piece more of a run
  pub run_more : (from job : ℕ) (pieces now : List Piece) (before mid after : Seat) (piece : Piece) → from ≤ job → length pieces ≡ job - from → now ≡ pieces ++ piece ∷ [] → Leads Step before (numbered from pieces) mid → Step mid job piece after
      → (length now ≡ (job + 1) - from) × Leads Step before (numbered from now) after
  run_more from job pieces now before mid after piece near long is led step =
      let n : length now ≡ (job + 1) - from = omega (arith, ap length is, length-append pieces (piece ∷ [])) in
      let here : from + length pieces ≡ job = omega arith in
      let whole : numbered from now ≡ numbered from pieces ++ (job, piece) ∷ [] = ap (numbered from) is ∙ (numbered-append from pieces (piece ∷ []) ∙ ap (λ k. numbered from pieces ++ (k, piece) ∷ []) here) in (n, subst (λ l. Leads Step before l after) (sym whole) (leads_more (numbered from pieces) before mid after job piece led step))

  -- the seats of some workers and then of others
  pub each_leads_append : (seats more : List Seat) (logs others : List (List (ℕ × Piece))) (ends rest : List Seat) → EachLeads Step seats logs ends → EachLeads Step more others rest → EachLeads Step (seats ++ more) (logs ++ others) (ends ++ rest)
  each_leads_append [] more [] others [] rest led also = also
  each_leads_append (seat ∷ seats) more (log ∷ logs) others (end ∷ ends) rest led also = (led.0, each_leads_append seats more logs others ends rest led.1 also)
  each_leads_append [] more [] others (end ∷ ends) rest led also = absurd led
  each_leads_append [] more (log ∷ logs) others ends rest led also = absurd led
  each_leads_append (seat ∷ seats) more [] others ends rest led also = absurd led
  each_leads_append (seat ∷ seats) more (log ∷ logs) others [] rest led also = absurd led
