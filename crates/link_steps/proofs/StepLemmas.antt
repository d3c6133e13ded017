-- What holds of a line of steps, from a fact for each step.
use Rattle.std.proofs.Common.{◌≡◌, ◌↔◌, ◌⊎◌, inl, inr, Option, Some, None, Result, Ok, Err, IsErrAnd, refl, sym, ap, ◌∙◌, subst}
use Rattle.std.proofs.lemmas.Result.{err_from_is_err_and}
use Rattle.link_steps.specs.declared.fault.StepFault.{StepFault}
use Rattle.link_steps.specs.declared.fault.StepFault.TheVariants as fault
use Rattle.link_steps.specs.Steps.{Agree, Answer, Cause, IsLawful, IsSome, IsToldBy, Meets, OnStop, Stops, always, checks, gives, last, map_err, passes, refuses, some, stands, taken, tries, unless}

-- ---- what the definition of a layer below tells

pub told_one : {S A : Type 0} (r : Result A (StepFault S)) → Agree (IsToldBy r) (IsToldBy r)
told_one (Ok x) a b p q = p ∙ sym q
told_one (Err (fault.Stop why)) a b p q = p ∙ sym q
told_one (Err fault.OutOfMemory) a b p q = absurd p

pub told_value : {S A : Type 0} (r : Result A (StepFault S)) (x : A) → IsToldBy r (Ok x) ↔ (r ≡ Ok x)
told_value (Ok y) x = ((λ e. let same : y ≡ x = cc in ap Ok same), (λ e. let same : x ≡ y = cc in ap Ok same))
told_value (Err (fault.Stop why)) x = ((λ e. absurd cc), (λ e. absurd cc))
told_value (Err fault.OutOfMemory) x = ((λ e. absurd e), (λ e. absurd cc))

pub told_stop : {S A : Type 0} (r : Result A (StepFault S)) (why : S) → IsToldBy r (Err why) ↔ (r ≡ Err (fault.Stop why))
told_stop (Ok x) why = ((λ e. absurd cc), (λ e. absurd cc))
told_stop (Err (fault.Stop other)) why = ((λ e. let same : other ≡ why = cc in ap (λ w. Err (fault.Stop w)) same), (λ e. let same : why ≡ other = cc in ap Err same))
told_stop (Err fault.OutOfMemory) why = ((λ e. absurd e), (λ e. absurd cc))

-- there is one where the end isn't want of memory
pub told_there : {S A : Type 0} (r : Result A (StepFault S)) → (r ≡ Err fault.OutOfMemory → ⊥) → IsSome (IsToldBy r)
told_there (Ok x) real = (Ok x, refl)
told_there (Err (fault.Stop why)) real = (Err why, refl)
told_there (Err fault.OutOfMemory) real = absurd (real refl)

-- a fault that is turned into another is none of a value
pub mapped_value : {A E F : Type 0} (turn : E → F) (r : Result A E) (x : A) → (map_err turn r ≡ Ok x) ↔ (r ≡ Ok x)
mapped_value turn (Ok y) x = ((λ e. let same : y ≡ x = cc in ap Ok same), (λ e. let same : y ≡ x = cc in ap Ok same))
mapped_value turn (Err why) x = ((λ e. absurd cc), (λ e. absurd cc))

-- ---- one answer at most

pub gives_agree : {S A B : Type 0} (r s : Result A S) (P Q : A → Answer S B) → r ≡ s → ((x : A) → r ≡ Ok x → Agree (P x) (Q x)) → Agree (gives r P) (gives s Q)
unfolding gives
gives_agree {S = S} {A = A} {B = B} r s P Q same next a b p q = by r refl p (subst (λ (t : Result A S). gives t Q b) (sym same) q)
  where
    by : (t : Result A S) → r ≡ t → gives t P a → gives t Q b → a ≡ b
    by (Ok x) e p q = next x e a b p q
    by (Err why) e p q = p ∙ sym q

pub unless_agree : {S B : Type 0} (r s : Option S) (P Q : Answer S B) → r ≡ s → (r ≡ None → Agree P Q) → Agree (unless r P) (unless s Q)
unfolding unless
unless_agree {S = S} {B = B} r s P Q same next a b p q = by r refl p (subst (λ (t : Option S). unless t Q b) (sym same) q)
  where
    by : (t : Option S) → r ≡ t → unless t P a → unless t Q b → a ≡ b
    by (Some why) e p q = p ∙ sym q
    by None e p q = next e a b p q

pub some_agree : {S A B : Type 0} (Is Also : A → Type 0) (P Q : A → Answer S B) → ((x y : A) → Is x → Also y → Agree (P x) (Q y)) → Agree (some Is P) (some Also Q)
some_agree Is Also P Q next a b p q = next p.value q.value p.is q.is a b p.follows q.follows

pub tries_agree : {S A B : Type 0} (Is Also : Answer S A) (P Q : A → Answer S B) → Agree Is Also → ((x : A) → Is (Ok x) → Agree (P x) (Q x)) → Agree (tries Is P) (tries Also Q)
unfolding gives
tries_agree {S = S} {A = A} Is Also P Q one next a b p q =
    by p.gave p.is p.follows (subst (λ (t : Result A S). gives t Q b) (sym (one p.gave q.gave p.is q.is)) q.follows)
  where
    by : (t : Result A S) → Is t → gives t P a → gives t Q b → a ≡ b
    by (Ok x) is p q = next x is a b p q
    by (Err why) is p q = p ∙ sym q

pub checks_agree : {S B : Type 0} (Is Also : Option S → Type 0) (P Q : Answer S B) → ((a b : Option S) → Is a → Also b → a ≡ b) → (Is None → Agree P Q) → Agree (checks Is P) (checks Also Q)
unfolding unless
checks_agree {S = S} {B = B} Is Also P Q one next a b p q =
    by p.found p.is p.follows (subst (λ (t : Option S). unless t Q b) (sym (one p.found q.found p.is q.is)) q.follows)
  where
    by : (t : Option S) → Is t → unless t P a → unless t Q b → a ≡ b
    by (Some why) is p q = p ∙ sym q
    by None is p q = next is a b p q

pub last_agree : {S B : Type 0} (r s : Result B S) → r ≡ s → Agree (last r) (last s)
unfolding last
last_agree r s same a b p q = p ∙ same ∙ sym q

-- ---- an answer

pub gives_some : {S A B : Type 0} (r : Result A S) (P : A → Answer S B) → ((x : A) → r ≡ Ok x → IsSome (P x)) → IsSome (gives r P)
unfolding gives
gives_some {S = S} {A = A} {B = B} r P next = by r next
  where
    by : (t : Result A S) → ((x : A) → t ≡ Ok x → IsSome (P x)) → IsSome (gives t P)
    by (Ok x) next = next x refl
    by (Err why) next = (Err why, refl)

pub unless_some : {S B : Type 0} (r : Option S) (P : Answer S B) → (r ≡ None → IsSome P) → IsSome (unless r P)
unfolding unless
unless_some (Some why) P next = (Err why, refl)
unless_some None P next = next refl

pub some_some : {S A B : Type 0} (Is : A → Type 0) (P : A → Answer S B) → ((x : A) × Is x) → ((x : A) → Is x → IsSome (P x)) → IsSome (some Is P)
some_some Is P one next = let then = next one.0 one.1 in (then.0, record { value = one.0; is = one.1; follows = then.1 })

pub tries_some : {S A B : Type 0} (Is : Answer S A) (P : A → Answer S B) → IsSome Is → ((x : A) → Is (Ok x) → IsSome (P x)) → IsSome (tries Is P)
unfolding gives
tries_some {S = S} {A = A} {B = B} Is P one next = by one.0 one.1
  where
    by : (t : Result A S) → Is t → IsSome {B = B} (tries Is P)
    by (Ok x) is = let then = next x is in (then.0, record { gave = Ok x; is = is; follows = then.1 })
    by (Err why) is = (Err why, record { gave = Err why; is = is; follows = refl })

pub checks_some : {S B : Type 0} (Is : Option S → Type 0) (P : Answer S B) → ((found : Option S) × Is found) → (Is None → IsSome P) → IsSome (checks Is P)
unfolding unless
checks_some {S = S} {B = B} Is P one next = by one.0 one.1
  where
    by : (t : Option S) → Is t → IsSome {B = B} (checks Is P)
    by (Some why) is = (Err why, record { found = Some why; is = is; follows = refl })
    by None is = let then = next is in (then.0, record { found = None; is = is; follows = then.1 })

pub last_some : {S B : Type 0} (r : Result B S) → IsSome (last r)
unfolding last
last_some r = (r, refl)

-- ---- the causes of stops

pub gives_stops : {S A B : Type 0} (r : Result A S) (P : A → Answer S B) (C : Cause S) (Gave : A → Type 0) (D : A → Cause S) → ((why : S) → (r ≡ Err why) ↔ C why) → ((x : A) → (r ≡ Ok x) ↔ Gave x) → ((x : A) → r ≡ Ok x → Stops (P x) (D x)) → Stops (gives r P) (stands C Gave D)
unfolding gives
gives_stops {S = S} {A = A} r P C Gave D ends goes next why = (to r refl, from)
  where
    to : (t : Result A S) → r ≡ t → gives t P (Err why) → stands C Gave D why
    to (Ok x) e p = inr (x, (goes x).0 e, (next x e why).0 p)
    to (Err other) e p = let same : other ≡ why = cc in inl ((ends why).0 (e ∙ ap Err same))

    goes_on : (x : A) (t : Result A S) → t ≡ Ok x → P x (Err why) → gives t P (Err why)
    goes_on x (Ok y) e p = let same : x ≡ y = cc in subst (λ (z : A). P z (Err why)) same p
    goes_on x (Err other) e p = absurd (cc)

    stop : (t : Result A S) → t ≡ Err why → gives t P (Err why)
    stop (Ok x) e = absurd (cc)
    stop (Err other) e = let same : why ≡ other = cc in ap Err same

    from : stands C Gave D why → gives r P (Err why)
    from (inl c) = stop r ((ends why).1 c)
    from (inr d) = let e = (goes d.0).1 d.1 in goes_on d.0 r e ((next d.0 e why).1 d.2)

pub unless_stops : {S B : Type 0} (r : Option S) (P : Answer S B) (C D : Cause S) → ((why : S) → (r ≡ Some why) ↔ C why) → (r ≡ None → Stops P D) → Stops (unless r P) (refuses C D)
unfolding unless
unless_stops {S = S} r P C D ends next why = (to r refl, from r refl)
  where
    to : (t : Option S) → r ≡ t → unless t P (Err why) → refuses C D why
    to None e p = inr ((λ other c. let f : None ≡ Some other = sym e ∙ (ends other).1 c in absurd cc), (next e why).0 p)
    to (Some other) e p = let same : other ≡ why = cc in inl ((ends why).0 (e ∙ ap Some same))

    from : (t : Option S) → r ≡ t → refuses C D why → unless t P (Err why)
    from None e (inl c) = let f : None ≡ Some why = sym e ∙ (ends why).1 c in absurd cc
    from None e (inr d) = (next e why).1 d.1
    from (Some other) e (inl c) = let f : Some other ≡ Some why = sym e ∙ (ends why).1 c in let same : why ≡ other = cc in ap Err same
    from (Some other) e (inr d) = absurd (d.0 other ((ends other).0 e))

pub some_stops : {S A B : Type 0} (Is : A → Type 0) (P : A → Answer S B) (D : A → Cause S) → ((x : A) → Is x → Stops (P x) (D x)) → Stops (some Is P) (taken Is D)
some_stops Is P D next why = ((λ p. (p.value, p.is, (next p.value p.is why).0 p.follows)), (λ d. record { value = d.0; is = d.1; follows = (next d.0 d.1 why).1 d.2 }))

pub tries_stops : {S A B : Type 0} (Is : Answer S A) (P : A → Answer S B) (C : Cause S) (D : A → Cause S) → ((why : S) → Is (Err why) ↔ C why) → ((x : A) → Is (Ok x) → Stops (P x) (D x)) → Stops (tries Is P) (stands C (λ x. Is (Ok x)) D)
unfolding gives
tries_stops {S = S} {A = A} Is P C D ends next why = ((λ p. to p.gave p.is p.follows), from)
  where
    to : (t : Result A S) → Is t → gives t P (Err why) → stands C (λ x. Is (Ok x)) D why
    to (Ok x) is p = inr (x, is, (next x is why).0 p)
    to (Err other) is p = let same : other ≡ why = cc in inl ((ends why).0 (subst (λ (w : S). Is (Err w)) same is))

    from : stands C (λ x. Is (Ok x)) D why → tries Is P (Err why)
    from (inl c) = record { gave = Err why; is = (ends why).1 c; follows = refl }
    from (inr d) = record { gave = Ok d.0; is = d.1; follows = (next d.0 d.1 why).1 d.2 }

pub checks_stops : {S B : Type 0} (Is : Option S → Type 0) (P : Answer S B) (C D : Cause S) → ((why : S) → Is (Some why) ↔ C why) → (Is None → Stops P D) → Stops (checks Is P) (passes C (Is None) D)
unfolding unless
checks_stops {S = S} {B = B} Is P C D ends next why = (to, from)
  where
    to : checks Is P (Err why) → C why ⊎ (Is None × D why)
    to p = by p.found p.is p.follows
      where
        by : (t : Option S) → Is t → unless t P (Err why) → C why ⊎ (Is None × D why)
        by (Some other) is f = let same : other ≡ why = cc in inl ((ends why).0 (subst (λ (w : S). Is (Some w)) same is))
        by None is f = inr (is, (next is why).0 f)

    from : C why ⊎ (Is None × D why) → checks Is P (Err why)
    from (inl c) = record { found = Some why; is = (ends why).1 c; follows = refl }
    from (inr d) = record { found = None; is = d.0; follows = (next d.0 why).1 d.1 }

pub last_stops : {S B : Type 0} (r : Result B S) (C : Cause S) → ((why : S) → (r ≡ Err why) ↔ C why) → Stops (last r) C
unfolding last
last_stops r C ends why = ((λ e. (ends why).0 (sym e)), (λ c. sym ((ends why).1 c)))

-- ---- both at once, from one line a step

pub gives_law : {S A B : Type 0} {r s : Result A S} (P Q : A → Answer S B) {C : Cause S} {Gave : A → Type 0} (D : A → Cause S) → r ≡ s → ((why : S) → (r ≡ Err why) ↔ C why) → ((x : A) → (r ≡ Ok x) ↔ Gave x)
    → ((x : A) → r ≡ Ok x → IsLawful (P x) (Q x) (D x)) → IsLawful (gives r P) (gives s Q) (stands C Gave D)
gives_law {r = r} {s = s} P Q {C = C} {Gave = Gave} D same ends goes next = record {
  one = gives_agree r s P Q same (λ x e. (next x e).one);
  stops = gives_stops r P C Gave D ends goes (λ x e. (next x e).stops);
}

pub unless_law : {S B : Type 0} {r s : Option S} (P Q : Answer S B) {C : Cause S} (D : Cause S) → r ≡ s → ((why : S) → (r ≡ Some why) ↔ C why) → (r ≡ None → IsLawful P Q D) → IsLawful (unless r P) (unless s Q) (refuses C D)
unless_law {r = r} {s = s} P Q {C = C} D same ends next = record {
  one = unless_agree r s P Q same (λ e. (next e).one);
  stops = unless_stops r P C D ends (λ e. (next e).stops);
}

pub some_law : {S A B : Type 0} {Is Also : A → Type 0} (P Q : A → Answer S B) (D : A → Cause S) → ((x : A) → Is x → Also x) → ((x y : A) → Is x → Also y → IsLawful (P x) (Q y) (D x)) → IsLawful (some Is P) (some Also Q) (taken Is D)
some_law {Is = Is} {Also = Also} P Q D leads next = record {
  one = some_agree Is Also P Q (λ x y is also. (next x y is also).one);
  stops = some_stops Is P D (λ x is. (next x x is (leads x is)).stops);
}

pub tries_law : {S A B : Type 0} {Is Also : Answer S A} (P Q : A → Answer S B) {C : Cause S} (D : A → Cause S) → Agree Is Also → ((why : S) → Is (Err why) ↔ C why)
    → ((x : A) → Is (Ok x) → IsLawful (P x) (Q x) (D x)) → IsLawful (tries Is P) (tries Also Q) (stands C (λ x. Is (Ok x)) D)
tries_law {Is = Is} {Also = Also} P Q {C = C} D one ends next = record {
  one = tries_agree Is Also P Q one (λ x is. (next x is).one);
  stops = tries_stops Is P C D ends (λ x is. (next x is).stops);
}

pub checks_law : {S B : Type 0} {Is Also : Option S → Type 0} (P Q : Answer S B) {C : Cause S} (D : Cause S) → ((a b : Option S) → Is a → Also b → a ≡ b) → ((why : S) → Is (Some why) ↔ C why)
    → (Is None → IsLawful P Q D) → IsLawful (checks Is P) (checks Also Q) (passes C (Is None) D)
checks_law {Is = Is} {Also = Also} P Q {C = C} D one ends next = record {
  one = checks_agree Is Also P Q one (λ is. (next is).one);
  stops = checks_stops Is P C D ends (λ is. (next is).stops);
}

pub last_law : {S B : Type 0} {r s : Result B S} {C : Cause S} → r ≡ s → ((why : S) → (r ≡ Err why) ↔ C why) → IsLawful (last r) (last s) C
last_law {r = r} {s = s} {C = C} same ends = record { one = last_agree r s same; stops = last_stops r C ends }

-- ---- a line that gave a value went through all of its steps

pub gives_passed : {S A B : Type 0} (r : Result A S) (P : A → Answer S B) (y : B) → gives r P (Ok y) → (x : A) × (r ≡ Ok x) × P x (Ok y)
unfolding gives
gives_passed (Ok x) P y is = (x, refl, is)
gives_passed (Err why) P y is = absurd cc

pub unless_passed : {S B : Type 0} (r : Option S) (P : Answer S B) (y : B) → unless r P (Ok y) → (r ≡ None) × P (Ok y)
unfolding unless
unless_passed (Some why) P y is = absurd cc
unless_passed None P y is = (refl, is)

pub checks_passed : {S B : Type 0} (Is : Option S → Type 0) (P : Answer S B) (y : B) → checks Is P (Ok y) → Is None × P (Ok y)
unfolding unless
checks_passed {S = S} {B = B} Is P y passed = by passed.found passed.is passed.follows
  where
    by : (t : Option S) → Is t → unless t P (Ok y) → Is None × P (Ok y)
    by (Some why) is follows = absurd cc
    by None is follows = (is, follows)

-- ---- what a call that ends here or goes on returns

-- a fault that is handed on
ends : {S B : Type 0} (may : Answer S B) (end : StepFault S) (returned : Result B (StepFault S)) → IsErrAnd returned (λ passed. passed ≡ end) → OnStop end (λ why. may (Err why)) → Meets may returned
ends {S = S} {B = B} may end returned passes is =
    let passed = err_from_is_err_and returned passes in
    subst (λ (r : Result B (StepFault S)). Meets may r) (sym (passed.1 ∙ ap Err passed.2)) is

on_stop : {S : Type 0} (end : StepFault S) (P Q : S → Type 0) → ((why : S) → P why → Q why) → OnStop end P → OnStop end Q
on_stop (fault.Stop why) P Q leads p = leads why p
on_stop fault.OutOfMemory P Q leads p = tt

-- what follows may be answered
goes : {S B : Type 0} (P Q : Answer S B) (returned : Result B (StepFault S)) → ((given : Result B S) → P given → Q given) → Meets P returned → Meets Q returned
goes P Q (Ok x) leads p = leads (Ok x) p
goes P Q (Err end) leads p = on_stop end (λ why. P (Err why)) (λ why. Q (Err why)) (λ why q. leads (Err why) q) p

pub always_on : {S A B : Type 0} (y x : A) (P : A → Answer S B) (returned : Result B (StepFault S)) → y ≡ x → Meets (P x) returned → Meets (always y P) returned
always_on {A = A} y x P returned same meets = subst (λ (z : A). Meets (P z) returned) (sym same) meets

pub gives_on : {S A B : Type 0} (r : Result A S) (P : A → Answer S B) (x : A) (returned : Result B (StepFault S)) → r ≡ Ok x → Meets (P x) returned → Meets (gives r P) returned
unfolding gives
gives_on r P x returned is meets = goes (P x) (gives r P) returned (λ given p. rw is p) meets

pub gives_ends : {S A B : Type 0} (r : Result A S) (P : A → Answer S B) (end : StepFault S) (returned : Result B (StepFault S)) → OnStop end (λ why. r ≡ Err why) → IsErrAnd returned (λ passed. passed ≡ end) → Meets (gives r P) returned
unfolding gives
gives_ends r P end returned is passes = ends (gives r P) end returned passes (on_stop end (λ why. r ≡ Err why) (λ why. gives r P (Err why)) (λ why e. rw e refl) is)

pub unless_on : {S B : Type 0} (r : Option S) (P : Answer S B) (returned : Result B (StepFault S)) → r ≡ None → Meets P returned → Meets (unless r P) returned
unfolding unless
unless_on r P returned is meets = goes P (unless r P) returned (λ given p. rw is p) meets

pub unless_ends : {S B : Type 0} (r : Option S) (P : Answer S B) (end : StepFault S) (returned : Result B (StepFault S)) → OnStop end (λ why. r ≡ Some why) → IsErrAnd returned (λ passed. passed ≡ end) → Meets (unless r P) returned
unfolding unless
unless_ends r P end returned is passes = ends (unless r P) end returned passes (on_stop end (λ why. r ≡ Some why) (λ why. unless r P (Err why)) (λ why e. rw e refl) is)

pub some_on : {S A B : Type 0} (Is : A → Type 0) (P : A → Answer S B) (x : A) (returned : Result B (StepFault S)) → Is x → Meets (P x) returned → Meets (some Is P) returned
some_on Is P x returned is meets = goes (P x) (some Is P) returned (λ given p. record { value = x; is = is; follows = p }) meets

pub some_ends : {S A B : Type 0} (Is : A → Type 0) (P : A → Answer S B) (end : StepFault S) (returned : Result B (StepFault S)) → OnStop end (λ why. ⊥) → IsErrAnd returned (λ passed. passed ≡ end) → Meets (some Is P) returned
some_ends Is P end returned is passes = ends (some Is P) end returned passes (on_stop end (λ why. ⊥) (λ why. some Is P (Err why)) (λ why e. absurd e) is)

pub tries_on : {S A B : Type 0} (Is : Answer S A) (P : A → Answer S B) (x : A) (returned : Result B (StepFault S)) → Is (Ok x) → Meets (P x) returned → Meets (tries Is P) returned
unfolding gives
tries_on Is P x returned is meets = goes (P x) (tries Is P) returned (λ given p. record { gave = Ok x; is = is; follows = p }) meets

pub tries_ends : {S A B : Type 0} (Is : Answer S A) (P : A → Answer S B) (end : StepFault S) (returned : Result B (StepFault S)) → OnStop end (λ why. Is (Err why)) → IsErrAnd returned (λ passed. passed ≡ end) → Meets (tries Is P) returned
unfolding gives
tries_ends Is P end returned is passes = ends (tries Is P) end returned passes (on_stop end (λ why. Is (Err why)) (λ why. tries Is P (Err why)) (λ why e. record { gave = Err why; is = e; follows = refl }) is)

pub checks_on : {S B : Type 0} (Is : Option S → Type 0) (P : Answer S B) (returned : Result B (StepFault S)) → Is None → Meets P returned → Meets (checks Is P) returned
unfolding unless
checks_on Is P returned is meets = goes P (checks Is P) returned (λ given p. record { found = None; is = is; follows = p }) meets

pub checks_ends : {S B : Type 0} (Is : Option S → Type 0) (P : Answer S B) (end : StepFault S) (returned : Result B (StepFault S)) → OnStop end (λ why. Is (Some why)) → IsErrAnd returned (λ passed. passed ≡ end) → Meets (checks Is P) returned
unfolding unless
checks_ends Is P end returned is passes = ends (checks Is P) end returned passes (on_stop end (λ why. Is (Some why)) (λ why. checks Is P (Err why)) (λ why e. record { found = Some why; is = e; follows = refl }) is)
