-- The walk along a page's chain goes through the places of the chain, and through no others.
use Rattle.std.proofs.Common.{tests, ◌≡◌, ◌≢◌, ℕ, zero, suc, ◌+◌, ◌*◌, ◌<◌, ◌==◌, ◌⊎◌, inl, inr, Bool, true, false, List, [], ◌∷◌, Option, Some, None, Result, Ok, Err, if◌then◌else◌, nat_lt, refl, sym, ap, subst, ◌∙◌, arith}
use Rattle.mo_types.specs.Gives.{◌>>=◌}
use Rattle.image_read.specs.Chain.{IsGap, OnChain}
use Rattle.image_read.specs.Chain.OnChain.{begins, follows}
use Rattle.image_read.specs.Fixups.{PAGE, chain_from, held_at, held_on, known, next_of, pointer_at}
use Rattle.image_read.specs.declared.fixups.FixupRead.{FixupRead}
use Rattle.image_read.specs.declared.fixups.FixupRead.TheVariants.{Broken}

-- the pointers of a chain, whose first one is known
abbrev pub pointers_after : List ℕ → ℕ → ℕ → ℕ → ℕ → Bool → Result (List (ℕ × ℕ)) FixupRead
pointers_after image base n at word last =
    if last then Ok ((at, word) ∷ []) else chain_from image base n (at + 4 * next_of word) >>= λ rest. Ok ((at, word) ∷ rest)

-- a pointer at a place leads to another place
pub record IsStep (image : List ℕ) (base at to : ℕ) : Type 0 where
  pub word : ℕ
  pub there : pointer_at image base at ≡ Some word
  pub more : next_of word ≢ 0
  pub next : to ≡ at + 4 * next_of word

-- a place on the chain from the second place on is on the chain from the first
pub on_from_first : {image : List ℕ} {base at to q : ℕ} → IsStep image base at to → OnChain image base to q → OnChain image base at q
on_from_first step begins = follows begins step.word step.there step.more step.next
on_from_first step (follows on word there more next) = follows (on_from_first step on) word there more next

-- a place on a chain is its first one, or on the chain from the second place on
pub record IsOnward (image : List ℕ) (base at q : ℕ) : Type 0 where
  pub to : ℕ
  pub step : IsStep image base at to
  pub on : OnChain image base to q

pub first_or_onward : {image : List ℕ} {base at q : ℕ} → OnChain image base at q → (q ≡ at) ⊎ IsOnward image base at q
first_or_onward begins = inl refl
first_or_onward {image} {base} {at} {q} (follows {at = before} on word there more next) =
    elim (first_or_onward on) as (λ _. (q ≡ at) ⊎ IsOnward image base at q) [
      | inl e ↦ inr (record { to = q; step = record { word = word; there = rw (← e) there; more = more; next = rw (← e) next }; on = begins })
      | inr o ↦ inr (record { to = o.to; step = o.step; on = follows o.on word there more next })
    ]

more_than_none : (n : ℕ) → (n == 0) ≡ false → n ≢ 0
more_than_none n not is = grind (arith, tests)

-- what the walk gives: each place on the chain has a pointer, and the walk holds it there
pub record IsHeld (image : List ℕ) (base q : ℕ) (pointers : List (ℕ × ℕ)) : Type 0 where
  pub word : ℕ
  pub held : held_at q pointers ≡ Some word
  pub there : pointer_at image base q ≡ Some word

-- a list of pointers is a chain's from a place on
pub record IsChain (image : List ℕ) (base at : ℕ) (pointers : List (ℕ × ℕ)) : Type 0 where
  pub all : (q : ℕ) → OnChain image base at q → IsHeld image base q pointers
  pub only : (q word : ℕ) → held_at q pointers ≡ Some word → OnChain image base at q × (pointer_at image base q ≡ Some word)

held_first : (at word : ℕ) (rest : List (ℕ × ℕ)) → held_at at ((at, word) ∷ rest) ≡ Some word
held_first at word rest = let e : (at == at) ≡ true = grind (arith, tests) in rw e refl

held_rest : (b : Bool) (at q word : ℕ) (rest : List (ℕ × ℕ)) → (at == q) ≡ b → (q ≡ at → ⊥) → held_at q ((at, word) ∷ rest) ≡ held_at q rest
held_rest true at q word rest is apart = absurd (apart (grind (arith, tests)))
held_rest false at q word rest is apart = rw is refl

some_same : (x y : ℕ) → Some x ≡ Some y → x ≡ y
some_same x y e = cc

at_itself : (image : List ℕ) (base at q word other : ℕ) → at ≡ q → word ≡ other → pointer_at image base at ≡ Some word → OnChain image base at q × (pointer_at image base q ≡ Some other)
at_itself image base at q word other e same there = (subst (λ x. OnChain image base at x) e begins, ap (pointer_at image base) (sym e) ∙ there ∙ ap Some same)

only_cons : (image : List ℕ) (base at word q other : ℕ) (rest : Option ℕ) (b : Bool) → (at == q) ≡ b → pointer_at image base at ≡ Some word → (if b then Some word else rest) ≡ Some other → (rest ≡ Some other → OnChain image base at q × (pointer_at image base q ≡ Some other)) → OnChain image base at q × (pointer_at image base q ≡ Some other)
only_cons image base at word q other rest true is there held next =
    at_itself image base at q word other (let e : at ≡ q = grind (arith, tests) in e) (some_same word other held) there
only_cons image base at word q other rest false is there held next = next held

none_held : (other : ℕ) (P : Type 0) → None ≡ Some other → P
none_held other P e = absurd (let f : ⊥ = cc in f)

chain_last : (image : List ℕ) (base at word : ℕ) → pointer_at image base at ≡ Some word → (next_of word == 0) ≡ true → IsChain image base at ((at, word) ∷ [])
chain_last image base at word there last = record {
  all = λ q on. elim (first_or_onward on) as (λ _. IsHeld image base q ((at, word) ∷ [])) [
    | inl e ↦ record { word = word; held = rw e (held_first at word []); there = ap (pointer_at image base) e ∙ there }
    | inr o ↦ absurd (no_onward q o)
  ];
  only = λ q other held. only_cons image base at word q other None (at == q) refl there held (none_held other _);
} where
  no_onward : (q : ℕ) → IsOnward image base at q → ⊥
  no_onward q o =
      let same : o.step.word ≡ word = some_same o.step.word word (sym o.step.there ∙ there) in
      let more : next_of o.step.word ≡ 0 = ap next_of same ∙ none_next in
      o.step.more more
    where
      none_next : next_of word ≡ 0
      none_next = grind (arith, tests)

-- the walk has passed a place, or holds its pointer in the rest
held_cons : (image : List ℕ) (base at word q : ℕ) (rest : List (ℕ × ℕ)) (b : Bool) → (at == q) ≡ b → pointer_at image base at ≡ Some word → IsHeld image base q rest → IsHeld image base q ((at, word) ∷ rest)
held_cons image base at word q rest true is there held =
    let e : at ≡ q = grind (arith, tests) in
    record { word = word; held = rw is refl; there = ap (pointer_at image base) (sym e) ∙ there }
held_cons image base at word q rest false is there held = record { word = held.word; held = rw is held.held; there = held.there }

chain_more : (image : List ℕ) (base at word : ℕ) (rest : List (ℕ × ℕ)) → pointer_at image base at ≡ Some word → (next_of word == 0) ≡ false → IsChain image base (at + 4 * next_of word) rest → IsChain image base at ((at, word) ∷ rest)
chain_more image base at word rest there more chain = record {
  all = λ q on. elim (first_or_onward on) as (λ _. IsHeld image base q ((at, word) ∷ rest)) [
    | inl e ↦ record { word = word; held = subst (λ x. held_at x ((at, word) ∷ rest) ≡ Some word) (sym e) (held_first at word rest); there = ap (pointer_at image base) e ∙ there }
    | inr o ↦ held_cons image base at word q rest (at == q) refl there (chain.all q (onward q o))
  ];
  only = λ q other held. only_cons image base at word q other (held_at q rest) (at == q) refl there held (λ later. (on_from_first step (chain.only q other later).0, (chain.only q other later).1));
} where
  step : IsStep image base at (at + 4 * next_of word)
  step = record { word = word; there = there; more = more_than_none (next_of word) more; next = refl }

  onward : (q : ℕ) → IsOnward image base at q → OnChain image base (at + 4 * next_of word) q
  onward q o =
      let same : o.step.word ≡ word = some_same o.step.word word (sym o.step.there ∙ there) in
      subst (λ x. OnChain image base x q) (o.step.next ∙ ap (λ w. at + 4 * next_of w) same) o.on

-- a walk of at most n pointers gives chains
abbrev pub Walks : List ℕ → ℕ → ℕ → Type 0
Walks image base n = (at : ℕ) (pointers : List (ℕ × ℕ)) → chain_from image base n at ≡ Ok pointers → IsChain image base at pointers

walk_rest : (image : List ℕ) (base n at : ℕ) (pointers : List (ℕ × ℕ)) (word : ℕ) (rest : Result (List (ℕ × ℕ)) FixupRead) → Walks image base n → pointer_at image base at ≡ Some word → (next_of word == 0) ≡ false → chain_from image base n (at + 4 * next_of word) ≡ rest → (rest >>= λ others. Ok ((at, word) ∷ others)) ≡ Ok pointers → IsChain image base at pointers
walk_rest image base n at pointers word (Err e) walks there more goes is = absurd (let f : ⊥ = cc in f)
walk_rest image base n at pointers word (Ok others) walks there more goes is =
    let same : (at, word) ∷ others ≡ pointers = cc in
    subst (IsChain image base at) same (chain_more image base at word others there more (walks (at + 4 * next_of word) others goes))

walk_last : (image : List ℕ) (base n at : ℕ) (pointers : List (ℕ × ℕ)) (word : ℕ) (last : Bool) → Walks image base n → pointer_at image base at ≡ Some word → (next_of word == 0) ≡ last → pointers_after image base n at word last ≡ Ok pointers → IsChain image base at pointers
walk_last image base n at pointers word true walks there last is =
    let same : (at, word) ∷ [] ≡ pointers = cc in
    subst (IsChain image base at) same (chain_last image base at word there last)
walk_last image base n at pointers word false walks there last is = walk_rest image base n at pointers word (chain_from image base n (at + 4 * next_of word)) walks there last refl is

walk_on : (image : List ℕ) (base n at : ℕ) (pointers : List (ℕ × ℕ)) (pointer : Option ℕ) → Walks image base n → pointer_at image base at ≡ pointer → (known pointer >>= λ word. pointers_after image base n at word (next_of word == 0)) ≡ Ok pointers → IsChain image base at pointers
walk_on image base n at pointers None walks there is = absurd (let f : ⊥ = cc in f)
walk_on image base n at pointers (Some word) walks there is = walk_last image base n at pointers word (next_of word == 0) walks there refl is

pub walk_ok : (image : List ℕ) (base n : ℕ) → Walks image base n
unfolding chain_from
walk_ok image base zero at pointers is = absurd (let f : ⊥ = cc in f)
walk_ok image base (suc n) at pointers is = walk_on image base n at pointers (pointer_at image base at) (walk_ok image base n) refl is

-- a walk is broken at a gap
pub record IsBroken (image : List ℕ) (base at : ℕ) (e : FixupRead) : Type 0 where
  pub broken : e ≡ Broken
  pub gap : IsGap image base at

-- a walk with room for all pointers of a page fails at a gap
abbrev pub Fails : List ℕ → ℕ → ℕ → Type 0
Fails image base n = (at : ℕ) (e : FixupRead) → PAGE < at + 8 + 4 * n → chain_from image base n at ≡ Err e → IsBroken image base at e

gap_onward : (image : List ℕ) (base at to : ℕ) (e : FixupRead) → IsStep image base at to → IsBroken image base to e → IsBroken image base at e
gap_onward image base at to e step gap = record { broken = gap.broken; gap = record { place = gap.gap.place; on = on_from_first step gap.gap.on; none = gap.gap.none } }

fail_rest : (image : List ℕ) (base n at : ℕ) (e : FixupRead) (word : ℕ) (rest : Result (List (ℕ × ℕ)) FixupRead) → Fails image base n → PAGE < at + 8 + 4 * suc n → pointer_at image base at ≡ Some word → next_of word ≢ 0 → chain_from image base n (at + 4 * next_of word) ≡ rest → (rest >>= λ others. Ok ((at, word) ∷ others)) ≡ Err e → IsBroken image base at e
fail_rest image base n at e word (Ok others) fails room there more goes is = absurd (let f : ⊥ = cc in f)
fail_rest image base n at e word (Err f) fails room there more goes is =
    let same : f ≡ e = cc in
    let least : PAGE < (at + 4 * next_of word) + 8 + 4 * n = omega arith in
    gap_onward image base at (at + 4 * next_of word) e (record { word = word; there = there; more = more; next = refl })
    (fails (at + 4 * next_of word) e least (goes ∙ ap Err same))

fail_last : (image : List ℕ) (base n at : ℕ) (e : FixupRead) (word : ℕ) (last : Bool) → Fails image base n → PAGE < at + 8 + 4 * suc n → pointer_at image base at ≡ Some word → (next_of word == 0) ≡ last → pointers_after image base n at word last ≡ Err e → IsBroken image base at e
fail_last image base n at e word true fails room there last is = absurd (let f : ⊥ = cc in f)
fail_last image base n at e word false fails room there last is =
    fail_rest image base n at e word (chain_from image base n (at + 4 * next_of word)) fails room there (more_than_none (next_of word) last) refl is

fail_on : (image : List ℕ) (base n at : ℕ) (e : FixupRead) (pointer : Option ℕ) → Fails image base n → PAGE < at + 8 + 4 * suc n → pointer_at image base at ≡ pointer → (known pointer >>= λ word. pointers_after image base n at word (next_of word == 0)) ≡ Err e → IsBroken image base at e
fail_on image base n at e None fails room there is = record { broken = cc; gap = record { place = at; on = begins; none = there } }
fail_on image base n at e (Some word) fails room there is = fail_last image base n at e word (next_of word == 0) fails room there refl is

past_page : (image : List ℕ) (base at : ℕ) → PAGE < at + 8 → pointer_at image base at ≡ None
past_page image base at past = let e : nat_lt PAGE (at + 8) ≡ true = grind (arith, tests) in rw e refl

pub walk_fails : (image : List ℕ) (base n : ℕ) → Fails image base n
unfolding chain_from
walk_fails image base zero at e room is = record { broken = cc; gap = record { place = at; on = begins; none = past_page image base at (omega arith) } }
walk_fails image base (suc n) at e room is = fail_on image base n at e (pointer_at image base at) (walk_fails image base n) room refl is

-- what a page's chain holds at a place, by the walk
held_by : ℕ → Result (List (ℕ × ℕ)) FixupRead → Result (Option ℕ) FixupRead
held_by place walk = walk >>= λ pointers. Ok (held_at place pointers)

held_found : (image : List ℕ) (base start place word : ℕ) (walk : Result (List (ℕ × ℕ)) FixupRead) → chain_from image base 0x1001 start ≡ walk → held_by place walk ≡ Ok (Some word) → OnChain image base start place × (pointer_at image base place ≡ Some word)
unfolding held_by
held_found image base start place word (Err e) goes is = absurd (let f : ⊥ = cc in f)
held_found image base start place word (Ok pointers) goes is =
    (walk_ok image base 0x1001 start pointers goes).only place word (let same : held_at place pointers ≡ Some word = cc in same)

held_whole : (image : List ℕ) (base start place : ℕ) (held : Option ℕ) (walk : Result (List (ℕ × ℕ)) FixupRead) → chain_from image base 0x1001 start ≡ walk → held_by place walk ≡ Ok held → (at : ℕ) → OnChain image base start at → (word : ℕ) × (pointer_at image base at ≡ Some word)
unfolding held_by
held_whole image base start place held (Err e) goes is at on = absurd (let f : ⊥ = cc in f)
held_whole image base start place held (Ok pointers) goes is at on =
    let found = (walk_ok image base 0x1001 start pointers goes).all at on in
    (found.word, found.there)

held_passed : (image : List ℕ) (base start place : ℕ) (walk : Result (List (ℕ × ℕ)) FixupRead) → chain_from image base 0x1001 start ≡ walk → held_by place walk ≡ Ok None → OnChain image base start place → ⊥
unfolding held_by
held_passed image base start place (Err e) goes is on = let f : ⊥ = cc in f
held_passed image base start place (Ok pointers) goes is on =
    let found = (walk_ok image base 0x1001 start pointers goes).all place on in
    let none : held_at place pointers ≡ None = cc in
    let some : held_at place pointers ≡ Some found.word = found.held in
    let f : ⊥ = cc in f

held_broken : (image : List ℕ) (base start place : ℕ) (e : FixupRead) (walk : Result (List (ℕ × ℕ)) FixupRead) → chain_from image base 0x1001 start ≡ walk → held_by place walk ≡ Err e → IsBroken image base start e
unfolding held_by
held_broken image base start place e (Ok pointers) goes is = absurd (let f : ⊥ = cc in f)
held_broken image base start place e (Err other) goes is =
    let same : other ≡ e = cc in
    walk_fails image base 0x1001 start e (omega arith) (goes ∙ ap Err same)

pub on_chain : (image : List ℕ) (base start place word : ℕ) → held_on image base start place ≡ Ok (Some word) → OnChain image base start place × (pointer_at image base place ≡ Some word)
unfolding held_on held_by
on_chain image base start place word is = held_found image base start place word (chain_from image base 0x1001 start) refl is

pub off_chain : (image : List ℕ) (base start place : ℕ) → held_on image base start place ≡ Ok None → OnChain image base start place → ⊥
unfolding held_on held_by
off_chain image base start place is = held_passed image base start place (chain_from image base 0x1001 start) refl is

pub whole_chain : (image : List ℕ) (base start place : ℕ) (held : Option ℕ) → held_on image base start place ≡ Ok held → (at : ℕ) → OnChain image base start at → (word : ℕ) × (pointer_at image base at ≡ Some word)
unfolding held_on held_by
whole_chain image base start place held is = held_whole image base start place held (chain_from image base 0x1001 start) refl is

gap_of : (image : List ℕ) (base start place : ℕ) (e : FixupRead) → held_on image base start place ≡ Err e → IsBroken image base start e
unfolding held_on held_by
gap_of image base start place e is = held_broken image base start place e (chain_from image base 0x1001 start) refl is

pub broken_chain : (image : List ℕ) (base start place : ℕ) (e : FixupRead) → held_on image base start place ≡ Err e → IsGap image base start
broken_chain image base start place e is = (gap_of image base start place e is).gap

pub ruleset chains = (on_chain, off_chain, whole_chain, broken_chain)
