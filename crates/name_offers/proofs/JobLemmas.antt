-- The offers of all jobs, which are those of all files.
use Rattle.std.proofs.Common.{◌≡◌, ℕ, ◌+◌, ◌≤◌, List, [], ◌++◌, All, length, map, take, drop, take-add, refl, sym, ap, subst, ◌∙◌}
use Rattle.std.specs.List.{flat_map, range_with_len}
use Rattle.std.proofs.lemmas.List.{length-map, take_all}
use Rattle.std.proofs.lemmas.List.Concat.{flat_map-append}
use Rattle.std.proofs.lemmas.List.FromFn.{fill_by_all}
use Rattle.std.proofs.lemmas.List.Folds.{flat_map-map}
use Rattle.mo_types.specs.declared.loaded.LoadedFile.{LoadedFile}
use Rattle.par_work.specs.Fan.{IsFanned, WasRun}
use Rattle.name_race.specs.Race.{Holding, Race}
use Rattle.name_offers.specs.inner.Offering.{AreOffered, HasOffered, HaveOffered, offers_in, offers_of_job}
use Rattle.name_offers.specs.Offers.{bids_of}
use Rattle.symbol_winners.specs.Found.{AreNamed}
use Rattle.name_offers.proofs.OfferLemmas.{named_offers}
use Rattle.name_offers.proofs.RacerLemmas.{fanned, more_offered, none_offered}

pub job_bids : (names : List (List ℕ)) (files : List LoadedFile) → flat_map (offers_of_job names files) (range_with_len 0 (length files)) ≡ flat_map (offers_in names) files
job_bids names files =
    let each : List (List (ℕ × ℕ)) = map (offers_in names) files in
    sym (flat_map-map (λ (l : List (ℕ × ℕ)). l) (offers_of_job names files) (range_with_len 0 (length files)))
    ∙ ap (flat_map (λ (l : List (ℕ × ℕ)). l)) (sym (fill_by_all (offers_of_job names files) each (length files) [] (length-map files (offers_in names)) (λ k low. refl)))
    ∙ flat_map-map (λ (l : List (ℕ × ℕ)). l) (offers_in names) files

pub run_offered : {Piece : Type 0} (race : Race) (names lists : List (List ℕ)) (files : List LoadedFile) (seats ends : List Holding) (pieces : List Piece)
    → IsFanned (WasRun (λ (racer : Holding). (racer.race ≡ race) × AreOffered race names lists files) (λ (before : Holding) (job : ℕ) (piece : Piece) (after : Holding). HasOffered (offers_of_job names files job) before after)) seats (length files) ends pieces
    → HaveOffered (flat_map (offers_in names) files) seats ends
run_offered {Piece = Piece} race names lists files seats ends pieces f =
    subst (λ (bids : List (ℕ × ℕ)). HaveOffered bids seats ends) (job_bids names files)
    (fanned (WasRun (λ (racer : Holding). (racer.race ≡ race) × AreOffered race names lists files) (λ (before : Holding) (job : ℕ) (piece : Piece) (after : Holding). HasOffered (offers_of_job names files job) before after)) (offers_of_job names files) (λ before job piece after step. step.ran) seats ends (length files) pieces f)

-- ---- runs of files, one after the other

-- what was offered of the first n files
pub record IsOfferedTo (race : Race) (names : List (List ℕ)) (files : List LoadedFile) (n : ℕ) (first now : List Holding) : Type 0 where
  pub offered : HaveOffered (flat_map (offers_in names) (take n files)) first now
  pub races : All (λ (racer : Holding). racer.race ≡ race) now

pub runs_start : (race : Race) (names : List (List ℕ)) (files : List LoadedFile) (racers : List Holding) → All (λ (racer : Holding). racer.race ≡ race) racers → IsOfferedTo race names files 0 racers racers
runs_start race names files racers races = record { offered = none_offered racers; races = races }

pub runs_more : (race : Race) (names : List (List ℕ)) (files some : List LoadedFile) (n m : ℕ) (first now next : List Holding) → IsOfferedTo race names files n first now → some ≡ take m (drop n files) → HaveOffered (flat_map (offers_in names) some) now next → All (λ (racer : Holding). racer.race ≡ race) next → IsOfferedTo race names files (n + m) first next
runs_more race names files some n m first now next so is more races = record {
  offered =
      subst (λ (bids : List (ℕ × ℕ)). HaveOffered bids first next) (sym (flat_map-append (offers_in names) (take n files) some) ∙ ap (λ (l : List LoadedFile). flat_map (offers_in names) (take n files ++ l)) is ∙ ap (flat_map (offers_in names)) (sym (take-add n m files)))
      (more_offered (flat_map (offers_in names) (take n files)) (flat_map (offers_in names) some) first now next so.offered more);
  races = races;
}

pub runs_end : (race : Race) (names : List (List ℕ)) (files : List LoadedFile) (n : ℕ) (first now : List Holding) → IsOfferedTo race names files n first now → AreNamed names files → length files ≤ n → HaveOffered (bids_of names files) first now
runs_end race names files n first now so named past = subst (λ (bids : List (ℕ × ℕ)). HaveOffered bids first now) (ap (flat_map (offers_in names)) (take_all n files past) ∙ named_offers names files named) so.offered
