-- Steps one after the other, some of which ask a source that changes, as files are asked. What was told so far is a value: an
-- answer relates the one before, the result and the one after.
use Rattle.std.specs.Prelude.{◌≡◌, ◌⊎◌, ◌↔◌, Option, Some, None, Result, Ok, Err}
use Rattle.link_steps.specs.declared.fault.StepFault.{StepFault}
use Rattle.link_steps.specs.Steps.{Answer, OnStop}

-- what may be answered, and what was told before and after
abbrev pub Reply : Type 0 → Type 0 → Type 0 → Type 1
Reply W S A = W → Result A S → W → Type 0

-- a step that asks for nothing, and gives this alone
unfoldable pub gives : {W S A B : Type 0} → Result A S → (A → Reply W S B) → Reply W S B
gives (Ok x) next old given new = next x old given new
gives (Err why) next old given new = (given ≡ Err why) × (new ≡ old)

-- a step that asks for nothing, and stops where there is a stop
unfoldable pub unless : {W S B : Type 0} → Option S → Reply W S B → Reply W S B
unless (Some why) next old given new = (given ≡ Err why) × (new ≡ old)
unless None next old given new = next old given new

-- a step that asks for nothing, and gives or stops in any way of which this holds
pub record tries {W S A B : Type 0} (Is : Answer S A) (next : A → Reply W S B) (old : W) (given : Result B S) (new : W) : Type 0 where
  pub gave : Result A S
  pub is : Is gave
  pub follows : gives gave next old given new

-- a step that asks, and gives or stops in any way of which this holds
pub record asks {W S A B : Type 0} (Is : Reply W S A) (next : A → Reply W S B) (old : W) (given : Result B S) (new : W) : Type 0 where
  pub gave : Result A S
  pub then : W
  pub is : Is old gave then
  pub follows : gives gave next then given new

-- an answer, and no more
unfoldable pub last : {W S B : Type 0} → Result B S → Reply W S B
last answer old given new = (given ≡ answer) × (new ≡ old)

-- ---- what holds of such lines

-- there is one answer at most, whatever was told before and after
abbrev pub IsOne : {W S B : Type 0} → Reply W S B → Type 0
IsOne {W = W} {S = S} {B = B} may = (a b : Result B S) (old new older newer : W) → may old a new → may older b newer → a ≡ b

-- there is an answer, whatever was told before
abbrev pub IsSome : {W S B : Type 0} → Reply W S B → Type 0
IsSome {W = W} {S = S} {B = B} may = (old : W) → (given : Result B S) × (new : W) × may old given new

-- ---- why there is a stop, in the same order

-- of each stop its cause, and what was told before and after
abbrev pub Cause : Type 0 → Type 0 → Type 1
Cause W S = W → S → W → Type 0

-- a cause stands, or a step gave a value and a later one does
abbrev pub stands : {W S A : Type 0} → (S → Type 0) → (A → Type 0) → (A → Cause W S) → Cause W S
stands {A = A} cause Gave next old why new = (cause why × (new ≡ old)) ⊎ ((x : A) × Gave x × next x old why new)

-- a cause stands, or for no stop it does and a later one does
abbrev pub refuses : {W S : Type 0} → (S → Type 0) → Cause W S → Cause W S
refuses {S = S} cause next old why new = (cause why × (new ≡ old)) ⊎ (((other : S) → cause other → ⊥) × next old why new)

-- a cause stands, or a step that asked gave a value and a later one does
abbrev pub asked : {W S A : Type 0} → Cause W S → (A → W → W → Type 0) → (A → Cause W S) → Cause W S
asked {W = W} {A = A} cause Gave next old why new = cause old why new ⊎ ((x : A) × (then : W) × Gave x old then × next x then why new)

-- no stop is left
abbrev pub never : {W S : Type 0} → Cause W S
never old why new = ⊥

-- what may be answered are just the stops that have a cause
abbrev pub Stops : {W S B : Type 0} → Reply W S B → Cause W S → Type 0
Stops {W = W} {S = S} may cause = (old : W) (why : S) (new : W) → may old (Err why) new ↔ cause old why new

-- there is one answer at most, and it is a stop exactly where that has its cause
pub record IsLawful {W S B : Type 0} (may : Reply W S B) (cause : Cause W S) : Type 0 where
  pub one : IsOne may
  pub stops : Stops may cause

-- ---- what calls return

-- What a call returned, and what was told before and after, is what may be answered. Want of memory is left to the code.
abbrev pub Acts : {W S A : Type 0} → Reply W S A → W → Result A (StepFault S) → W → Type 0
Acts may old (Ok x) new = may old (Ok x) new
Acts may old (Err end) new = OnStop end (λ why. may old (Err why) new)
