-- What the program has written where it answers success.
use Rattle.std.specs.Prelude.{ℕ, List}
use Rattle.file_cache.specs.Kept.{FilesSeen}
use Rattle.file_cache.specs.Runs.{FilesTold, file_told}
use Rattle.loader_laws.specs.Plans.{IsPlanOfLink}
use Rattle.mo_outside.specs.Answers.{Answer, Exchange}
use Rattle.link_engine.specs.Settles.{Carries, OutputSeen}
use Rattle.link_engine.specs.declared.plan.Plan.{Plan}

-- The files told a finite map from paths to answers. By it the words have a plan: the image that links the files which they
-- load. All of it was written, and nothing else was.
pub record Links {S : Type 0} (fetches : S → List ℕ → Answer → S → Type 0) (words : List (List ℕ)) (files_old files_new : FilesSeen S) (old new : OutputSeen) : Type 0 where
  pub told : List Exchange
  pub files : FilesTold fetches told files_old files_new
  pub plan : Plan
  pub link : IsPlanOfLink words (file_told told) plan
  pub writes : Carries plan old new
