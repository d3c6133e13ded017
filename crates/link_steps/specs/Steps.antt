-- Steps one after the other, each of which gives a value or stops.
use Rattle.std.specs.Prelude.{◌≡◌, ◌⊎◌, ◌↔◌, Option, Some, None, Result, Ok, Err}
use Rattle.link_steps.specs.declared.fault.StepFault.{StepFault}
use Rattle.link_steps.specs.declared.fault.StepFault.TheVariants as fault

-- what may be answered: of each value and each stop whether it may
abbrev pub Answer : Type 0 → Type 0 → Type 1
Answer S A = Result A S → Type 0

-- in a do block a step takes what follows it
infixl 10 ◌>>=◌
abbrev pub ◌>>=◌ : {A : Type 0} {R : Type 1} → ((A → R) → R) → (A → R) → R
step >>= next = step next

infixl 10 ◌>>◌
abbrev pub ◌>>◌ : {R : Type 1} → (R → R) → R → R
step >> next = step next

-- a step that has this value and never stops
abbrev pub always : {A : Type 0} {R : Type 1} → A → (A → R) → R
always x next = next x

-- a step that gives this alone
unfoldable pub gives : {S A B : Type 0} → Result A S → (A → Answer S B) → Answer S B
gives (Ok x) next given = next x given
gives (Err why) next given = given ≡ Err why

-- a step that stops where there is a stop
unfoldable pub unless : {S B : Type 0} → Option S → Answer S B → Answer S B
unless (Some why) next given = given ≡ Err why
unless None next given = next given

-- a step that gives any value of which this holds
pub record some {S A B : Type 0} (Is : A → Type 0) (next : A → Answer S B) (given : Result B S) : Type 0 where
  pub value : A
  pub is : Is value
  pub follows : next value given

-- a step that gives or stops, in any way of which this holds
pub record tries {S A B : Type 0} (Is : Answer S A) (next : A → Answer S B) (given : Result B S) : Type 0 where
  pub gave : Result A S
  pub is : Is gave
  pub follows : gives gave next given

-- What the definition of a layer below answers, as a step's answer. No definition lacks memory: that tells nothing.
abbrev pub IsToldBy : {S A : Type 0} → Result A (StepFault S) → Answer S A
IsToldBy (Ok x) given = given ≡ Ok x
IsToldBy (Err (fault.Stop why)) given = given ≡ Err why
IsToldBy (Err fault.OutOfMemory) given = ⊥

-- an answer with its fault turned into another
abbrev pub map_err : {A E F : Type 0} → (E → F) → Result A E → Result A F
map_err turn (Ok x) = Ok x
map_err turn (Err why) = Err (turn why)

-- a step that stops or doesn't, in any way of which this holds
pub record checks {S B : Type 0} (Is : Option S → Type 0) (next : Answer S B) (given : Result B S) : Type 0 where
  pub found : Option S
  pub is : Is found
  pub follows : unless found next given

-- an answer, and no more
unfoldable pub last : {S B : Type 0} → Result B S → Answer S B
last answer given = given ≡ answer

-- ---- what holds of lines of steps

-- what may be answered by the one and by the other is the same
abbrev pub Agree : {S B : Type 0} → Answer S B → Answer S B → Type 0
Agree {S = S} {B = B} may also = (a b : Result B S) → may a → also b → a ≡ b

-- there is one answer at most
abbrev pub IsOne : {S B : Type 0} → Answer S B → Type 0
IsOne may = Agree may may

-- there is an answer
abbrev pub IsSome : {S B : Type 0} → Answer S B → Type 0
IsSome {S = S} {B = B} may = (given : Result B S) × may given

-- ---- why there is a stop, in the same order

-- of each stop its cause
abbrev pub Cause : Type 0 → Type 1
Cause S = S → Type 0

-- a cause stands, or a step gave a value and a later one does
abbrev pub stands : {S A : Type 0} → Cause S → (A → Type 0) → (A → Cause S) → Cause S
stands {A = A} cause Gave next why = cause why ⊎ ((x : A) × Gave x × next x why)

-- a cause stands, or for no stop it does and a later one does
abbrev pub refuses : {S : Type 0} → Cause S → Cause S → Cause S
refuses {S = S} cause next why = cause why ⊎ (((other : S) → cause other → ⊥) × next why)

-- a cause stands, or this holds, that none does, and a later cause stands
abbrev pub passes : {S : Type 0} → Cause S → Type 0 → Cause S → Cause S
passes cause none next why = cause why ⊎ (none × next why)

-- a value was taken, and a later cause stands
abbrev pub taken : {S A : Type 0} → (A → Type 0) → (A → Cause S) → Cause S
taken {A = A} Is next why = (x : A) × Is x × next x why

-- what may be answered are just the stops that have a cause
abbrev pub Stops : {S B : Type 0} → Answer S B → Cause S → Type 0
Stops {S = S} may cause = (why : S) → may (Err why) ↔ cause why

-- There is one answer at most, the same by both definitions, and it is a stop exactly where that has its cause. (Both are
-- one definition, but where a step may give several values.)
pub record IsLawful {S B : Type 0} (may also : Answer S B) (cause : Cause S) : Type 0 where
  pub one : Agree may also
  pub stops : Stops may cause

-- ---- what calls return

-- a step's fault is what a definition says of stops, or want of memory, which is left to the code
abbrev pub OnStop : {S : Type 0} → StepFault S → (S → Type 0) → Type 0
OnStop (fault.Stop why) is = is why
OnStop fault.OutOfMemory is = Unit {0}

-- what a call returned is what may be answered
abbrev pub Meets : {S A : Type 0} → Answer S A → Result A (StepFault S) → Type 0
Meets may (Ok x) = may (Ok x)
Meets may (Err end) = OnStop end (λ why. may (Err why))

-- what a call returned is this answer
abbrev pub Yields : {S A : Type 0} → Result A S → Result A (StepFault S) → Type 0
Yields answer (Ok x) = answer ≡ Ok x
Yields answer (Err end) = OnStop end (λ why. answer ≡ Err why)

-- what a call returned is, as definitions see it, this answer
abbrev pub Shows : {S A B : Type 0} → (A → B) → Result B S → Result A (StepFault S) → Type 0
Shows view answer (Ok x) = answer ≡ Ok (view x)
Shows view answer (Err end) = OnStop end (λ why. answer ≡ Err why)

-- what a call returned is what the definition of a layer below answers
abbrev pub Returns : {S A : Type 0} → Result A (StepFault S) → Result A (StepFault S) → Type 0
Returns answer (Ok x) = answer ≡ Ok x
Returns answer (Err end) = OnStop end (λ why. answer ≡ Err (fault.Stop why))

-- it is, as definitions see it
abbrev pub ReturnsAs : {S A B : Type 0} → (A → B) → Result B (StepFault S) → Result A (StepFault S) → Type 0
ReturnsAs view answer (Ok x) = answer ≡ Ok (view x)
ReturnsAs view answer (Err end) = OnStop end (λ why. answer ≡ Err (fault.Stop why))

-- a call found this stop, or that there is none
abbrev pub Finds : {S A : Type 0} → Option S → Result A (StepFault S) → Type 0
Finds found (Ok x) = found ≡ None
Finds found (Err end) = OnStop end (λ why. found ≡ Some why)

-- a call found a stop of which this holds, or it holds that there is none
abbrev pub FindsBy : {S A : Type 0} → (Option S → Type 0) → Result A (StepFault S) → Type 0
FindsBy Is (Ok x) = Is None
FindsBy Is (Err end) = OnStop end (λ why. Is (Some why))

-- a call returned a value of which this holds
abbrev pub Picks : {S A : Type 0} → (A → Type 0) → Result A (StepFault S) → Type 0
Picks Is (Ok x) = Is x
Picks Is (Err end) = OnStop end (λ why. ⊥)
