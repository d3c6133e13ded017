-- What holds of a line of steps some of which ask, from a fact for each step.
use Rattle.std.proofs.Common.{◌≡◌, ◌↔◌, inl, inr, Option, Some, None, Result, Ok, Err, IsErrAnd, refl, sym, ap, ◌∙◌, subst}
use Rattle.std.proofs.lemmas.Result.{err_from_is_err_and}
use Rattle.link_steps.specs.Asking.{Acts, Cause, IsLawful, IsOne, IsSome, Reply, Stops, asked, asks, gives, last, never, refuses, stands, tries, unless}
use Rattle.link_steps.specs.Steps.{Agree, Answer, IsToldBy, OnStop, Yields}
use Rattle.link_steps.specs.Steps.{IsSome as IsSomeAnswer}
use Rattle.link_steps.proofs.StepLemmas.{told_one, told_stop, told_there, told_value}
use Rattle.link_steps.specs.declared.fault.StepFault.{StepFault}
use Rattle.link_steps.specs.declared.fault.StepFault.TheVariants as fault

-- ---- a step that ended the line, or went on

pub gives_case : {W S A B : Type 0} (r : Result A S) (P : A → Reply W S B) (old : W) (given : Result B S) (new : W) (C : Type 0) → gives r P old given new
    → ((why : S) → r ≡ Err why → given ≡ Err why → new ≡ old → C) → ((x : A) → r ≡ Ok x → P x old given new → C) → C
unfolding gives
gives_case (Ok x) P old given new C is ends goes = goes x refl is
gives_case (Err why) P old given new C is ends goes = ends why refl is.0 is.1

pub unless_case : {W S B : Type 0} (r : Option S) (P : Reply W S B) (old : W) (given : Result B S) (new : W) (C : Type 0) → unless r P old given new
    → ((why : S) → r ≡ Some why → given ≡ Err why → new ≡ old → C) → (r ≡ None → P old given new → C) → C
unfolding unless
unless_case None P old given new C is ends goes = goes refl is
unless_case (Some why) P old given new C is ends goes = ends why refl is.0 is.1

pub tries_case : {W S A B : Type 0} (Is : Answer S A) (P : A → Reply W S B) (old : W) (given : Result B S) (new : W) (C : Type 0) → tries Is P old given new
    → ((why : S) → Is (Err why) → given ≡ Err why → new ≡ old → C) → ((x : A) → Is (Ok x) → P x old given new → C) → C
tries_case {S = S} {A = A} Is P old given new C is ends goes =
    gives_case is.gave P old given new C is.follows
    (λ why e. ends why (subst Is e is.is))
    (λ x e. goes x (subst Is e is.is))

pub told_case : {W S A B : Type 0} (r : Result A (StepFault S)) (P : A → Reply W S B) (old : W) (given : Result B S) (new : W) (C : Type 0) → tries (IsToldBy r) P old given new
    → ((why : S) → r ≡ Err (fault.Stop why) → given ≡ Err why → new ≡ old → C) → ((x : A) → r ≡ Ok x → P x old given new → C) → C
told_case r P old given new C is ends goes =
    tries_case (IsToldBy r) P old given new C is
    (λ why e. ends why ((told_stop r why).0 e))
    (λ x e. goes x ((told_value r x).0 e))

pub asks_case : {W S A B : Type 0} (Is : Reply W S A) (P : A → Reply W S B) (old : W) (given : Result B S) (new : W) (C : Type 0) → asks Is P old given new
    → ((why : S) → Is old (Err why) new → given ≡ Err why → C) → ((x : A) (then : W) → Is old (Ok x) then → P x then given new → C) → C
asks_case {W = W} {S = S} {A = A} Is P old given new C is ends goes =
    gives_case is.gave P is.then given new C is.follows
    (λ why e stop same. ends why (subst (λ (w : W). Is old (Err why) w) (sym same) (subst (λ (r : Result A S). Is old r is.then) e is.is)) stop)
    (λ x e. goes x is.then (subst (λ (r : Result A S). Is old r is.then) e is.is))

pub last_case : {W S B : Type 0} (answer : Result B S) (old : W) (given : Result B S) (new : W) (C : Type 0) → last answer old given new → (given ≡ answer → new ≡ old → C) → C
unfolding last
last_case answer old given new C is ends = ends is.0 is.1

-- ---- what such a step may answer

pub unless_on : {W S B : Type 0} (r : Option S) (P : Reply W S B) (old : W) (given : Result B S) (new : W) → r ≡ None → P old given new → unless r P old given new
unfolding unless
unless_on r P old given new e follows = rw e follows

pub unless_ends : {W S B : Type 0} (r : Option S) (P : Reply W S B) (why : S) (old : W) (given : Result B S) (new : W) → r ≡ Some why → given ≡ Err why → new ≡ old → unless r P old given new
unfolding unless
unless_ends r P why old given new e stop same = rw e (stop, same)

pub tries_on : {W S A B : Type 0} (Is : Answer S A) (P : A → Reply W S B) (x : A) (old : W) (given : Result B S) (new : W) → Is (Ok x) → P x old given new → tries Is P old given new
unfolding gives
tries_on Is P x old given new is follows = record { gave = Ok x; is = is; follows = follows }

pub tries_ends : {W S A B : Type 0} (Is : Answer S A) (P : A → Reply W S B) (why : S) (old : W) (given : Result B S) (new : W) → Is (Err why) → given ≡ Err why → new ≡ old → tries Is P old given new
unfolding gives
tries_ends Is P why old given new is stop same = record { gave = Err why; is = is; follows = (stop, same) }

pub told_on : {W S A B : Type 0} (r : Result A (StepFault S)) (P : A → Reply W S B) (x : A) (old : W) (given : Result B S) (new : W) → r ≡ Ok x → P x old given new → tries (IsToldBy r) P old given new
told_on r P x old given new e follows = tries_on (IsToldBy r) P x old given new ((told_value r x).1 e) follows

pub told_ends : {W S A B : Type 0} (r : Result A (StepFault S)) (P : A → Reply W S B) (why : S) (old : W) (given : Result B S) (new : W) → r ≡ Err (fault.Stop why) → given ≡ Err why → new ≡ old → tries (IsToldBy r) P old given new
told_ends r P why old given new e stop same = tries_ends (IsToldBy r) P why old given new ((told_stop r why).1 e) stop same

pub asks_on : {W S A B : Type 0} (Is : Reply W S A) (P : A → Reply W S B) (x : A) (old then : W) (given : Result B S) (new : W) → Is old (Ok x) then → P x then given new → asks Is P old given new
unfolding gives
asks_on Is P x old then given new is follows = record { gave = Ok x; then = then; is = is; follows = follows }

pub asks_ends : {W S A B : Type 0} (Is : Reply W S A) (P : A → Reply W S B) (why : S) (old : W) (given : Result B S) (new : W) → Is old (Err why) new → given ≡ Err why → asks Is P old given new
unfolding gives
asks_ends Is P why old given new is stop = record { gave = Err why; then = new; is = is; follows = (stop, refl) }

pub last_is : {W S B : Type 0} (answer : Result B S) (old : W) (given : Result B S) → given ≡ answer → last answer old given old
unfolding last
last_is answer old given same = (same, refl)

-- ---- the laws, a line for each step

same_stop : {S A : Type 0} {a b : S} → ◌≡◌ {A = Result A S} (Err a) (Err b) → a ≡ b
same_stop e = cc

same_value : {S A : Type 0} {x y : A} → ◌≡◌ {A = Result A S} (Ok x) (Ok y) → x ≡ y
same_value e = cc

no_stop : {S A : Type 0} {why : S} {x : A} → ◌≡◌ {A = Result A S} (Err why) (Ok x) → ⊥
no_stop e = absurd cc

pub unless_law : {W S B : Type 0} {r : Option S} (P : Reply W S B) {C : S → Type 0} (D : Cause W S) → ((why : S) → (r ≡ Some why) ↔ C why) → (r ≡ None → IsLawful P D) → IsLawful (unless r P) (refuses C D)
unless_law {W = W} {S = S} {B = B} {r = r} P {C = C} D ends next = record {
  one = λ a b old new older newer p q.
      unless_case r P old a new (a ≡ b) p
      (λ why e stop same. unless_case r P older b newer (a ≡ b) q
      (λ other f also still. stop ∙ ap Err (one_stop why other (sym e ∙ f)) ∙ sym also)
      (λ f follows. absurd (some_stop why (sym e ∙ f))))
      (λ e follows. unless_case r P older b newer (a ≡ b) q
      (λ other f also still. absurd (some_stop other (sym f ∙ e)))
      (λ f more. (next e).one a b old new older newer follows more));
  stops = λ old why new. (
    λ p. unless_case r P old (Err why) new (refuses C D old why new) p
        (λ other e stop same. inl ((ends why).0 (e ∙ ap Some (sym (same_stop stop))), same))
        (λ e follows. inr ((λ other c. some_stop other (sym ((ends other).1 c) ∙ e)), ((next e).stops old why new).0 follows)),
    λ d. from r refl old why new d,
  );
}
  where
    one_stop : (a b : S) → ◌≡◌ {A = Option S} (Some a) (Some b) → a ≡ b
    one_stop a b e = cc

    some_stop : (a : S) → ◌≡◌ {A = Option S} (Some a) None → ⊥
    some_stop a e = absurd cc

    from : (t : Option S) → r ≡ t → (old : W) (why : S) (new : W) → refuses C D old why new → unless r P old (Err why) new
    from t e old why new (inl c) = unless_ends r P why old (Err why) new ((ends why).1 c.0) refl c.1
    from None e old why new (inr d) = unless_on r P old (Err why) new e (((next e).stops old why new).1 d.1)
    from (Some other) e old why new (inr d) = absurd (d.0 other ((ends other).0 e))

pub tries_law : {W S A B : Type 0} {Is : Answer S A} (P : A → Reply W S B) {C : S → Type 0} (D : A → Cause W S) → Agree Is Is → ((why : S) → Is (Err why) ↔ C why)
    → ((x : A) → Is (Ok x) → IsLawful (P x) (D x)) → IsLawful (tries Is P) (stands C (λ x. Is (Ok x)) D)
tries_law {W = W} {S = S} {A = A} {B = B} {Is = Is} P {C = C} D one ends next = record {
  one = λ a b old new older newer p q.
      tries_case Is P old a new (a ≡ b) p
      (λ why is stop same. tries_case Is P older b newer (a ≡ b) q
      (λ other also stop_too still. stop ∙ ap Err (same_stop (one (Err why) (Err other) is also)) ∙ sym stop_too)
      (λ x also follows. absurd (no_stop (one (Err why) (Ok x) is also))))
      (λ x is follows. tries_case Is P older b newer (a ≡ b) q
      (λ other also stop_too still. absurd (no_stop (one (Err other) (Ok x) also is)))
      (λ y also more. (next x is).one a b old new older newer follows (subst (λ (z : A). P z older b newer) (same_value (one (Ok y) (Ok x) also is)) more)));
  stops = λ old why new. (
    λ p. tries_case Is P old (Err why) new (stands C (λ x. Is (Ok x)) D old why new) p
        (λ other is stop same. inl ((ends why).0 (subst (λ (s : S). Is (Err s)) (sym (same_stop stop)) is), same))
        (λ x is follows. inr (x, is, ((next x is).stops old why new).0 follows)),
    λ d. from old why new d,
  );
}
  where
    from : (old : W) (why : S) (new : W) → stands C (λ x. Is (Ok x)) D old why new → tries Is P old (Err why) new
    from old why new (inl c) = tries_ends Is P why old (Err why) new ((ends why).1 c.0) refl c.1
    from old why new (inr d) = tries_on Is P d.0 old (Err why) new d.1 (((next d.0 d.1).stops old why new).1 d.2)

pub told_law : {W S A B : Type 0} {r : Result A (StepFault S)} (P : A → Reply W S B) {C : S → Type 0} {Gave : A → Type 0} (D : A → Cause W S) → ((why : S) → (r ≡ Err (fault.Stop why)) ↔ C why) → ((x : A) → (r ≡ Ok x) ↔ Gave x)
    → ((x : A) → r ≡ Ok x → IsLawful (P x) (D x)) → IsLawful (tries (IsToldBy r) P) (stands C Gave D)
told_law {W = W} {S = S} {A = A} {B = B} {r = r} P {C = C} {Gave = Gave} D ends goes next = record {
  one = law.one;
  stops = λ old why new. (
    λ p. to old why new ((law.stops old why new).0 p),
    λ d. (law.stops old why new).1 (from old why new d),
  );
}
  where
    law : IsLawful (tries (IsToldBy r) P) (stands C (λ x. IsToldBy r (Ok x)) D)
    law =
        tries_law P D (told_one r)
        (λ why. (λ e. (ends why).0 ((told_stop r why).0 e), λ c. (told_stop r why).1 ((ends why).1 c)))
        (λ x e. next x ((told_value r x).0 e))

    to : (old : W) (why : S) (new : W) → stands C (λ x. IsToldBy r (Ok x)) D old why new → stands C Gave D old why new
    to old why new (inl c) = inl c
    to old why new (inr d) = inr (d.0, (goes d.0).0 ((told_value r d.0).0 d.1), d.2)

    from : (old : W) (why : S) (new : W) → stands C Gave D old why new → stands C (λ x. IsToldBy r (Ok x)) D old why new
    from old why new (inl c) = inl c
    from old why new (inr d) = inr (d.0, (told_value r d.0).1 ((goes d.0).1 d.1), d.2)

pub asks_law : {W S A B : Type 0} {Is : Reply W S A} (P : A → Reply W S B) {C : Cause W S} (D : A → Cause W S) → IsOne Is → Stops Is C
    → ((x : A) (old then : W) → Is old (Ok x) then → IsLawful (P x) (D x)) → IsLawful (asks Is P) (asked C (λ x old then. Is old (Ok x) then) D)
asks_law {W = W} {S = S} {A = A} {B = B} {Is = Is} P {C = C} D one ends next = record {
  one = λ a b old new older newer p q.
      asks_case Is P old a new (a ≡ b) p
      (λ why is stop. asks_case Is P older b newer (a ≡ b) q
      (λ other also stop_too. stop ∙ ap Err (same_stop (one (Err why) (Err other) old new older newer is also)) ∙ sym stop_too)
      (λ x then also follows. absurd (no_stop (one (Err why) (Ok x) old new older then is also))))
      (λ x then is follows. asks_case Is P older b newer (a ≡ b) q
      (λ other also stop_too. absurd (no_stop (one (Err other) (Ok x) older newer old then also is)))
      (λ y later also more. (next x old then is).one a b then new later newer follows (subst (λ (z : A). P z later b newer) (same_value (one (Ok y) (Ok x) older later old then also is)) more)));
  stops = λ old why new. (
    λ p. asks_case Is P old (Err why) new (asked C (λ x before then. Is before (Ok x) then) D old why new) p
        (λ other is stop. inl ((ends old why new).0 (subst (λ (s : S). Is old (Err s) new) (sym (same_stop stop)) is)))
        (λ x then is follows. inr (x, then, is, ((next x old then is).stops then why new).0 follows)),
    λ d. from old why new d,
  );
}
  where
    from : (old : W) (why : S) (new : W) → asked C (λ x before then. Is before (Ok x) then) D old why new → asks Is P old (Err why) new
    from old why new (inl c) = asks_ends Is P why old (Err why) new ((ends old why new).1 c) refl
    from old why new (inr d) = asks_on Is P d.0 old d.1 (Err why) new d.2 (((next d.0 old d.1 d.2).stops d.1 why new).1 d.3)

pub last_law : {W S B : Type 0} (x : B) → IsLawful {W = W} {S = S} (last (Ok x)) never
last_law {W = W} {S = S} {B = B} x = record {
  one = λ a b old new older newer p q. last_case (Ok x) old a new (a ≡ b) p (λ is same. last_case (Ok x) older b newer (a ≡ b) q (λ also still. is ∙ sym also));
  stops = λ old why new. (
    λ p. last_case (Ok x) old (Err why) new ⊥ p (λ is same. no_stop is),
    λ c. absurd c,
  );
}

-- ---- there is an answer

pub unless_some : {W S B : Type 0} (r : Option S) (P : Reply W S B) → (r ≡ None → IsSome P) → IsSome (unless r P)
unfolding unless
unless_some (Some why) P next old = (Err why, old, (refl, refl))
unless_some None P next old = next refl old

pub tries_some : {W S A B : Type 0} (Is : Answer S A) (P : A → Reply W S B) → IsSomeAnswer Is → ((x : A) → Is (Ok x) → IsSome (P x)) → IsSome (tries Is P)
unfolding gives
tries_some {W = W} {S = S} {A = A} {B = B} Is P one next old = by one.0 one.1
  where
    by : (t : Result A S) → Is t → (given : Result B S) × (new : W) × tries Is P old given new
    by (Ok x) is = let then = next x is old in (then.0, then.1, record { gave = Ok x; is = is; follows = then.2 })
    by (Err why) is = (Err why, old, record { gave = Err why; is = is; follows = (refl, refl) })

pub told_some : {W S A B : Type 0} (r : Result A (StepFault S)) (P : A → Reply W S B) → (r ≡ Err fault.OutOfMemory → ⊥) → ((x : A) → r ≡ Ok x → IsSome (P x)) → IsSome (tries (IsToldBy r) P)
told_some r P real next = tries_some (IsToldBy r) P (told_there r real) (λ x e. next x ((told_value r x).0 e))

pub asks_some : {W S A B : Type 0} (Is : Reply W S A) (P : A → Reply W S B) → IsSome Is → ((x : A) (before then : W) → Is before (Ok x) then → IsSome (P x)) → IsSome (asks Is P)
unfolding gives
asks_some {W = W} {S = S} {A = A} {B = B} Is P one next old = let is = one old in by is.0 is.1 is.2
  where
    by : (t : Result A S) (then : W) → Is old t then → (given : Result B S) × (new : W) × asks Is P old given new
    by (Ok x) then is = let more = next x old then is then in (more.0, more.1, record { gave = Ok x; then = then; is = is; follows = more.2 })
    by (Err why) then is = (Err why, then, record { gave = Err why; then = then; is = is; follows = (refl, refl) })

pub last_some : {W S B : Type 0} (r : Result B S) → IsSome {W = W} (last r)
unfolding last
last_some r old = (r, old, (refl, refl))

-- ---- what a call that ends here or goes on returns

-- what follows may be answered
leads : {W S B : Type 0} (P Q : Reply W S B) (then old : W) (returned : Result B (StepFault S)) (new : W) → ((given : Result B S) → P then given new → Q old given new) → Acts P then returned new → Acts Q old returned new
leads P Q then old (Ok x) new on p = on (Ok x) p
leads P Q then old (Err (fault.Stop why)) new on p = on (Err why) p
leads P Q then old (Err fault.OutOfMemory) new on p = tt

-- a fault is handed on
ends : {W S B : Type 0} (may : Reply W S B) (end : StepFault S) (old : W) (returned : Result B (StepFault S)) (new : W) → IsErrAnd returned (λ passed. passed ≡ end) → OnStop end (λ why. may old (Err why) new) → Acts may old returned new
ends {S = S} {B = B} may end old returned new passes is =
    let passed = err_from_is_err_and returned passes in
    subst (λ (r : Result B (StepFault S)). Acts may old r new) (sym (passed.1 ∙ ap Err passed.2)) is

on_stop : {S : Type 0} (end : StepFault S) (P Q : S → Type 0) → ((why : S) → P why → Q why) → OnStop end P → OnStop end Q
on_stop (fault.Stop why) P Q on p = on why p
on_stop fault.OutOfMemory P Q on p = tt

pub unless_goes : {W S B : Type 0} (r : Option S) (P : Reply W S B) (old : W) (returned : Result B (StepFault S)) (new : W) → r ≡ None → Acts P old returned new → Acts (unless r P) old returned new
unless_goes r P old returned new e acts = leads P (unless r P) old old returned new (λ given p. unless_on r P old given new e p) acts

pub unless_stops : {W S B : Type 0} (r : Option S) (P : Reply W S B) (end : StepFault S) (old : W) (returned : Result B (StepFault S)) → OnStop end (λ why. r ≡ Some why) → IsErrAnd returned (λ passed. passed ≡ end) → Acts (unless r P) old returned old
unless_stops r P end old returned is passes = ends (unless r P) end old returned old passes (on_stop end (λ why. r ≡ Some why) (λ why. unless r P old (Err why) old) (λ why e. unless_ends r P why old (Err why) old e refl refl) is)

pub asks_goes : {W S A B : Type 0} (Is : Reply W S A) (P : A → Reply W S B) (x : A) (old then : W) (returned : Result B (StepFault S)) (new : W) → Is old (Ok x) then → Acts (P x) then returned new → Acts (asks Is P) old returned new
asks_goes Is P x old then returned new is acts = leads (P x) (asks Is P) then old returned new (λ given p. asks_on Is P x old then given new is p) acts

pub asks_stops : {W S A B : Type 0} (Is : Reply W S A) (P : A → Reply W S B) (end : StepFault S) (old : W) (returned : Result B (StepFault S)) (new : W) → OnStop end (λ why. Is old (Err why) new) → IsErrAnd returned (λ passed. passed ≡ end) → Acts (asks Is P) old returned new
asks_stops Is P end old returned new is passes = ends (asks Is P) end old returned new passes (on_stop end (λ why. Is old (Err why) new) (λ why. asks Is P old (Err why) new) (λ why e. asks_ends Is P why old (Err why) new e refl) is)

pub tries_goes : {W S A B : Type 0} (Is : Answer S A) (P : A → Reply W S B) (x : A) (old : W) (returned : Result B (StepFault S)) (new : W) → Is (Ok x) → Acts (P x) old returned new → Acts (tries Is P) old returned new
tries_goes Is P x old returned new is acts = leads (P x) (tries Is P) old old returned new (λ given p. tries_on Is P x old given new is p) acts

pub tries_stops : {W S A B : Type 0} (Is : Answer S A) (P : A → Reply W S B) (end : StepFault S) (old : W) (returned : Result B (StepFault S)) → OnStop end (λ why. Is (Err why)) → IsErrAnd returned (λ passed. passed ≡ end) → Acts (tries Is P) old returned old
tries_stops Is P end old returned is passes = ends (tries Is P) end old returned old passes (on_stop end (λ why. Is (Err why)) (λ why. tries Is P old (Err why) old) (λ why e. tries_ends Is P why old (Err why) old e refl refl) is)

pub told_goes : {W S A B : Type 0} (r : Result A (StepFault S)) (P : A → Reply W S B) (x : A) (old : W) (returned : Result B (StepFault S)) (new : W) → r ≡ Ok x → Acts (P x) old returned new → Acts (tries (IsToldBy r) P) old returned new
told_goes r P x old returned new e acts = leads (P x) (tries (IsToldBy r) P) old old returned new (λ given p. told_on r P x old given new e p) acts

pub told_stops : {W S A B : Type 0} (r : Result A (StepFault S)) (P : A → Reply W S B) (end : StepFault S) (old : W) (returned : Result B (StepFault S)) → OnStop end (λ why. r ≡ Err (fault.Stop why)) → IsErrAnd returned (λ passed. passed ≡ end) → Acts (tries (IsToldBy r) P) old returned old
told_stops r P end old returned is passes = ends (tries (IsToldBy r) P) end old returned old passes (on_stop end (λ why. r ≡ Err (fault.Stop why)) (λ why. tries (IsToldBy r) P old (Err why) old) (λ why e. told_ends r P why old (Err why) old e refl refl) is)

pub last_goes : {W S B : Type 0} (answer : Result B S) (old : W) (returned : Result B (StepFault S)) → Yields answer returned → Acts (last answer) old returned old
last_goes answer old (Ok x) is = last_is answer old (Ok x) (sym is)
last_goes answer old (Err (fault.Stop why)) is = last_is answer old (Err why) (sym is)
last_goes answer old (Err fault.OutOfMemory) is = tt
