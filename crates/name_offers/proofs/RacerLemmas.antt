-- The offers of racers that ran jobs, together.
use Rattle.std.proofs.Common.{◌≡◌, ℕ, List, [], ◌∷◌, ◌++◌, length, refl, sym, ap, ap₂, ◌∙◌, subst, append_assoc, append-nil}
use Rattle.std.specs.List.{flat_map, range_with_len}
use Rattle.std.proofs.lemmas.List.{length-map}
use Rattle.std.specs.List.Sorted.{IsPermutation}
use Rattle.std.proofs.lemmas.List.Concat.{flat_map-append}
use Rattle.std.proofs.lemmas.List.Folds.{flat_map-map}
use Rattle.std.proofs.lemmas.List.Sorted.{IsPermutation-refl, IsPermutation-sym, IsPermutation-trans, IsPermutation-append_left, IsPermutation-append_right, IsPermutation-append_comm}
use Rattle.par_work.specs.Fan.{EachLeads, IsFanned, Leads, numbered}
use Rattle.par_work.proofs.Runs.{flat_map-IsPermutation, keys_numbered}
use Rattle.name_race.specs.Race.{Holding, Race}
use Rattle.name_offers.specs.Offers.{offers_of}
use Rattle.name_offers.specs.inner.Offering.{HasOffered, HaveOffered}

-- the middle parts change places
four : (a b c d : List (ℕ × ℕ)) → IsPermutation ((a ++ b) ++ (c ++ d)) ((a ++ c) ++ (b ++ d))
four a b c d =
    let inner : IsPermutation (b ++ (c ++ d)) (c ++ (b ++ d)) =
    subst (λ (l : List (ℕ × ℕ)). IsPermutation l (c ++ (b ++ d))) (append_assoc b c d)
    (subst (IsPermutation ((b ++ c) ++ d)) (append_assoc c b d) (IsPermutation-append_left d (b ++ c) (c ++ b) (IsPermutation-append_comm b c))) in
    subst (λ (l : List (ℕ × ℕ)). IsPermutation l ((a ++ c) ++ (b ++ d))) (sym (append_assoc a b (c ++ d)))
    (subst (IsPermutation (a ++ (b ++ (c ++ d)))) (sym (append_assoc a c (b ++ d))) (IsPermutation-append_right a (b ++ (c ++ d)) (c ++ (b ++ d)) inner))

module _ {Piece : Type 0} (Step : Holding → ℕ → Piece → Holding → Type 0) (bids : ℕ → List (ℕ × ℕ)) (has : (before : Holding) (job : ℕ) (piece : Piece) (after : Holding) → Step before job piece after → HasOffered (bids job) before after) where
  -- what some runs offered
  abbrev run_bids : List (ℕ × Piece) → List (ℕ × ℕ)
  run_bids runs = flat_map (λ (run : ℕ × Piece). bids run.0) runs

  led : (before : Holding) (runs : List (ℕ × Piece)) (after : Holding) → Leads Step before runs after → HasOffered (run_bids runs) before after
  led before [] after same = record { race = ap (λ (r : Holding). r.race) (sym same); passes = ap (λ (r : Holding). r.passes) (sym same); offers = ap (λ (r : Holding). r.offers) (sym same) ∙ sym (append-nil before.offers) }
  led before (run ∷ runs) after (next, step, rest) =
      let one : HasOffered (bids run.0) before next = has before run.0 run.1 next step in
      let more : HasOffered (run_bids runs) next after = led next runs after rest in
      record {
        race = more.race ∙ one.race;
        passes = more.passes ∙ one.passes;
        offers = more.offers ∙ ap (λ (l : List (ℕ × ℕ)). l ++ run_bids runs) one.offers ∙ append_assoc before.offers (bids run.0) (run_bids runs);
      }

  all_led : (seats : List Holding) (logs : List (List (ℕ × Piece))) (ends : List Holding) → EachLeads Step seats logs ends → HaveOffered (run_bids (flat_map (λ (log : List (ℕ × Piece)). log) logs)) seats ends
  all_led [] [] [] each = record { races = refl; passes = refl; offers = IsPermutation-refl [] }
  all_led [] [] (e ∷ ends) each = absurd each
  all_led [] (l ∷ logs) ends each = absurd each
  all_led (s ∷ seats) [] ends each = absurd each
  all_led (s ∷ seats) (l ∷ logs) [] each = absurd each
  all_led (s ∷ seats) (l ∷ logs) (e ∷ ends) (first, each) =
      let one : HasOffered (run_bids l) s e = led s l e first in
      let rest : HaveOffered (run_bids (flat_map (λ (log : List (ℕ × Piece)). log) logs)) seats ends = all_led seats logs ends each in
      let more : List (ℕ × ℕ) = run_bids (flat_map (λ (log : List (ℕ × Piece)). log) logs) in
      let moved : IsPermutation ((s.offers ++ offers_of seats) ++ (run_bids l ++ more)) ((s.offers ++ run_bids l) ++ offers_of ends) =
      IsPermutation-trans ((s.offers ++ offers_of seats) ++ (run_bids l ++ more)) ((s.offers ++ run_bids l) ++ (offers_of seats ++ more)) ((s.offers ++ run_bids l) ++ offers_of ends)
      (four s.offers (offers_of seats) (run_bids l) more) (IsPermutation-append_right (s.offers ++ run_bids l) (offers_of seats ++ more) (offers_of ends) rest.offers) in
      record {
        races = ap₂ (λ (r : Race) (rs : List Race). r ∷ rs) one.race rest.races;
        passes = ap₂ (λ (r : ℕ) (rs : List ℕ). r ∷ rs) one.passes rest.passes;
        offers =
            subst (λ (b : List (ℕ × ℕ)). IsPermutation ((s.offers ++ offers_of seats) ++ b) (e.offers ++ offers_of ends)) (sym (flat_map-append (λ (run : ℕ × Piece). bids run.0) l (flat_map (λ (log : List (ℕ × Piece)). log) logs)))
            (subst (λ (b : List (ℕ × ℕ)). IsPermutation ((s.offers ++ offers_of seats) ++ (run_bids l ++ more)) (b ++ offers_of ends)) (sym one.offers) moved);
      }

  numbered_bids : (pieces : List Piece) → run_bids (numbered 0 pieces) ≡ flat_map bids (range_with_len 0 (length pieces))
  numbered_bids pieces = sym (flat_map-map bids (λ (run : ℕ × Piece). run.0) (numbered 0 pieces)) ∙ ap (flat_map bids) (keys_numbered 0 pieces)

  pub fanned : (seats ends : List Holding) (jobs : ℕ) (pieces : List Piece) → IsFanned Step seats jobs ends pieces → HaveOffered (flat_map bids (range_with_len 0 jobs)) seats ends
  fanned seats ends jobs pieces f =
      let all : HaveOffered (run_bids (flat_map (λ (log : List (ℕ × Piece)). log) f.logs)) seats ends = all_led seats f.logs ends f.leads in
      let same : IsPermutation (run_bids (flat_map (λ (log : List (ℕ × Piece)). log) f.logs)) (run_bids (numbered 0 pieces)) = flat_map-IsPermutation (λ (run : ℕ × Piece). bids run.0) (flat_map (λ (log : List (ℕ × Piece)). log) f.logs) (numbered 0 pieces) f.once in
      let is : run_bids (numbered 0 pieces) ≡ flat_map bids (range_with_len 0 jobs) = numbered_bids pieces ∙ ap (λ (n : ℕ). flat_map bids (range_with_len 0 n)) f.count in
      record {
        races = all.races;
        passes = all.passes;
        offers =
            subst (λ (b : List (ℕ × ℕ)). IsPermutation (offers_of seats ++ b) (offers_of ends)) is
            (IsPermutation-trans (offers_of seats ++ run_bids (numbered 0 pieces)) (offers_of seats ++ run_bids (flat_map (λ (log : List (ℕ × Piece)). log) f.logs)) (offers_of ends)
            (IsPermutation-append_right (offers_of seats) (run_bids (numbered 0 pieces)) (run_bids (flat_map (λ (log : List (ℕ × Piece)). log) f.logs)) (IsPermutation-sym (run_bids (flat_map (λ (log : List (ℕ × Piece)). log) f.logs)) (run_bids (numbered 0 pieces)) same)) all.offers);
      }

-- ---- offers after offers

pub none_offered : (racers : List Holding) → HaveOffered [] racers racers
none_offered racers = record { races = refl; passes = refl; offers = subst (λ (l : List (ℕ × ℕ)). IsPermutation l (offers_of racers)) (sym (append-nil (offers_of racers))) (IsPermutation-refl (offers_of racers)) }

pub more_offered : (x y : List (ℕ × ℕ)) (a b c : List Holding) → HaveOffered x a b → HaveOffered y b c → HaveOffered (x ++ y) a c
more_offered x y a b c one two = record {
  races = two.races ∙ one.races;
  passes = two.passes ∙ one.passes;
  offers =
      subst (λ (l : List (ℕ × ℕ)). IsPermutation l (offers_of c)) (append_assoc (offers_of a) x y)
      (IsPermutation-trans ((offers_of a ++ x) ++ y) (offers_of b ++ y) (offers_of c) (IsPermutation-append_left y (offers_of a ++ x) (offers_of b) one.offers) two.offers);
}

pub as_many : (bids : List (ℕ × ℕ)) (a b : List Holding) → HaveOffered bids a b → length b ≡ length a
as_many bids a b h = sym (length-map b (λ (r : Holding). r.passes)) ∙ ap length h.passes ∙ length-map a (λ (r : Holding). r.passes)
