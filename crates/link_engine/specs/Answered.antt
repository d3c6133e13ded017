-- For which paths a link asks files, and what they tell.
use Rattle.std.specs.Prelude.{ℕ, ◌≡◌, ◌++◌, List, [], take, Result}
use Rattle.file_cache.specs.Kept.{FilesSeen}
use Rattle.file_cache.specs.Program.{File}
use Rattle.file_cache.specs.Runs.{FilesTold, Gave, fresh, paths_in}
use Rattle.link_steps.specs.Asking.{Reply}
use Rattle.link_steps.specs.Steps.{Meets}
use Rattle.link_steps.specs.declared.fault.StepFault.{StepFault}
use Rattle.mo_outside.specs.Answers.{Answer, Exchange}
use Rattle.link_engine.specs.declared.plan.Plan.{Plan}
use Rattle.link_engine.specs.declared.stop.Stop.{Stop}
use Rattle.link_engine.specs.Verdict.{IsVerdict, IsVerdictAfter}

-- A line of steps was gone: files told something. By any look-up that gives this and what was kept before, the line has what
-- was returned, and tries just the paths for which files were asked or of which something was kept; where memory ran out,
-- the files were asked for the first ones of those that it tries.
pub record Ran {S A : Type 0} (fetches : S → List ℕ → Answer → S → Type 0) (line : (List ℕ → File) → Reply (List (List ℕ)) Stop A)
    (result : Result A (StepFault Stop)) (old new : FilesSeen S) : Type 0 where
  pub told : List Exchange
  pub files : FilesTold fetches told old new
  pub gives : (look : List ℕ → File) → Gave look (old.kept ++ told) → (start : List (List ℕ))
      → Meets (λ given. (tried : List (List ℕ)) × line look start given (start ++ tried) × (paths_in told ≡ fresh (paths_in old.kept) tried)) result
  pub some : (look : List ℕ → File) → Gave look (old.kept ++ told) → (start tried : List (List ℕ)) (given : Result A Stop)
      → line look start given (start ++ tried) → (count : ℕ) × (paths_in told ≡ fresh (paths_in old.kept) (take count tried))

-- Files told something, by which words have a verdict of which something holds. The paths for which they were asked are those
-- that the verdict tries, where the end isn't want of memory, and else the first ones of these. All this is so by each look-up
-- that gives the answers: one is that of the map alone, by which nothing stands under any other path.
pub record Answered {S : Type 0} (fetches : S → List ℕ → Answer → S → Type 0) (words : List (List ℕ)) (ends : Type 0)
    (settled : (Result Plan Stop → Type 0) → Type 0) (old new : FilesSeen S) : Type 0 where
  pub told : List Exchange
  pub files : FilesTold fetches told old new
  pub all : ends → (look : List ℕ → File) → Gave look told
      → (given : Result Plan Stop) × (tried : List (List ℕ)) × IsVerdictAfter words look given tried × (paths_in told ≡ fresh [] tried)
  pub some : (look : List ℕ → File) → Gave look told → (given : Result Plan Stop) (tried : List (List ℕ)) → IsVerdictAfter words look given tried
      → (count : ℕ) × (paths_in told ≡ fresh [] (take count tried))
  pub settles : (look : List ℕ → File) → Gave look told → settled (IsVerdict words look)
