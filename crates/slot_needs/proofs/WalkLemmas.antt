-- What one reference needs.
use Rattle.std.proofs.Common.{◌≡◌, ℕ, ◌<◌, ◌⊎◌, inl, inr, Bool, true, false, List, [], ◌∷◌, ◌++◌, length, get_or, Option, Some, None, Contains, refl, sym, ap, ◌∙◌, subst, ℤ}
use Rattle.std.specs.Prelude.{IfSome, slice_get, unwrap_or}
use Rattle.std.specs.Option.{option_map}
use Rattle.std.proofs.lemmas.Option.{slice_get-get_or, slice_get-map}
use Rattle.list_lemmas.proofs.Members.{Contains_from_in, in_either, in_from_Contains, in_left, in_right, from_last}
use Rattle.literal_merge.specs.declared.representative.Representative.{Representative}
use Rattle.mark_core.specs.Kept.{has as keeps}
use Rattle.mo_types.specs.declared.goal.Goal.{Goal}
use Rattle.mo_types.specs.declared.goal.Goal.TheVariants.{Nobody}
use Rattle.mo_types.specs.declared.key.AtomKey.{AtomKey}
use Rattle.mo_types.specs.declared.reference.Ref.{Ref}
use Rattle.mo_types.specs.declared.reference.Target.TheVariants.{Name}
use Rattle.resolve.specs.Goals.{target_goal}
use Rattle.resolve.specs.Table.{goal_in, goals_in}
use Rattle.slot_plan.specs.declared.need.Need.{Need}
use Rattle.slot_plan.specs.declared.need.Way.{Way}
use Rattle.slot_needs.specs.Needs.{need_by, need_of, way_of}
use Rattle.slot_needs.specs.inner.Gathered.{Adds, kept_need, need, needs_among}

-- ---- needs, and more of them

none_in : (n : Need) → Contains [] n → ⊥
none_in n h = in_from_Contains [] n h

pub adds_none : (ns : List Need) → Adds ns [] ns
adds_none ns = record { kept = λ n h. h; all = λ n h. absurd (none_in n h); only = λ n h. inl h }

pub adds_more : (ns ms : List Need) → Adds ns ms (ns ++ ms)
adds_more ns ms = record {
  kept = λ n h. Contains_from_in (ns ++ ms) n (in_left ns ms n (in_from_Contains ns n h));
  all = λ n h. Contains_from_in (ns ++ ms) n (in_right ns ms n (in_from_Contains ms n h));
  only = λ n h. elim (in_either ns ms n (in_from_Contains (ns ++ ms) n h)) [
    | inl before ↦ inl (Contains_from_in ns n before)
    | inr more ↦ inr (Contains_from_in ms n more)
  ];
}

pub adds_known : (ns : List Need) (n : Need) → Contains ns n → Adds ns (n ∷ []) ns
adds_known ns n there = record { kept = λ m h. h; all = λ m h. by m (from_last [] n m (in_from_Contains (n ∷ []) m h)); only = λ m h. inl h }
  where
    by : (m : Need) → ⊥ ⊎ (n ≡ m) → Contains ns m
    by m (inl none) = absurd none
    by m (inr same) = subst (Contains ns) same there

pub adds_then : (a xs b ys c : List Need) → Adds a xs b → Adds b ys c → Adds a (xs ++ ys) c
adds_then a xs b ys c p q = record {
  kept = λ n h. q.kept n (p.kept n h);
  all = λ n h. elim (in_either xs ys n (in_from_Contains (xs ++ ys) n h)) [
    | inl first ↦ q.kept n (p.all n (Contains_from_in xs n first))
    | inr second ↦ q.all n (Contains_from_in ys n second)
  ];
  only = λ n h. elim (q.only n h) [
    | inl before ↦ first n (p.only n before)
    | inr second ↦ inr (Contains_from_in (xs ++ ys) n (in_right xs ys n (in_from_Contains ys n second)))
  ];
}
  where
    first : (n : Need) → Contains a n ⊎ Contains xs n → Contains a n ⊎ Contains (xs ++ ys) n
    first n (inl old) = inl old
    first n (inr new) = inr (Contains_from_in (xs ++ ys) n (in_left xs ys n (in_from_Contains xs n new)))

-- ---- a need, where its atom is kept

pub of_kept : (keys : List AtomKey) (r : Ref) (n : Need) (before after : List Need) → keeps keys r.atom ≡ true → after ≡ before ++ n ∷ [] → Adds before (kept_need keys r n) after
of_kept keys r n before after kept is = rw (kept, is) (adds_more before (n ∷ []))

pub of_dead : (keys : List AtomKey) (r : Ref) (n : Need) (before : List Need) → keeps keys r.atom ≡ false → Adds before (kept_need keys r n) before
of_dead keys r n before dead = rw dead (adds_none before)

pub of_known : (keys : List AtomKey) (r : Ref) (n : Need) (before : List Need) → Contains before n → Adds before (kept_need keys r n) before
of_known keys r n before there = by (keeps keys r.atom) refl
  where
    by : (b : Bool) → keeps keys r.atom ≡ b → Adds before (kept_need keys r n) before
    by true e = rw e (adds_known before n there)
    by false e = rw e (adds_none before)

pub there : (pool : List Goal) (place : ℕ) → place < length pool → slice_get pool place ≡ Some (goal_in pool place)
there pool place within =
    let is : slice_get pool place ≡ Some (get_or pool place Nobody) = slice_get-get_or pool place Nobody within in
    is ∙ ap Some (sym (ap (λ (o : Option Goal). unwrap_or o Nobody) is))

pub goal_there : (pool shown : List Goal) (place : ℕ) (goal : Goal) → shown ≡ pool → place < length pool → goal ≡ get_or shown place goal → goal_in pool place ≡ goal
goal_there pool shown place goal same within is =
    ap (λ (o : Option Goal). unwrap_or o Nobody) (slice_get-get_or pool place goal within) ∙ sym (is ∙ ap (λ (gs : List Goal). get_or gs place goal) same)

pub ruleset one = (of_kept, of_dead)

-- ---- the place of a symbol's goal

pub place_is : (literals : List Representative) (pool : List Goal) (places : List ℕ) (index : ℕ) (found : Option ℕ) → found ≡ slice_get places index → IfSome found (λ place. target_goal literals (goals_in pool places) (Name index) ≡ goal_in pool place)
unfolding goals_in
place_is literals pool places index None is = tt
place_is literals pool places index (Some place) is = ap (λ (o : Option Goal). unwrap_or o Nobody) (slice_get-map (goal_in pool) places index ∙ ap (λ (o : Option ℕ). option_map (goal_in pool) o) (sym is))

pub ruleset places = (place_is)

-- ---- what a reference needs

need_is : (literals : List Representative) (goals : List Goal) (r : Ref) (goal : Goal) (way : Option Way) → goal ≡ target_goal literals goals r.target → way_of r.kind r.addend goal ≡ way → need_of literals goals r ≡ need_by goal way
unfolding need_of
need_is literals goals r goal way is by = ap (λ g. need_by g (way_of r.kind r.addend g)) (sym is) ∙ ap (need_by goal) by

among_some : (literals : List Representative) (keys : List AtomKey) (goals : List Goal) (r : Ref) (n : Need) → need_of literals goals r ≡ Some n → needs_among literals keys goals (r ∷ []) ≡ kept_need keys r n
among_some literals keys goals r n e = by (keeps keys r.atom) refl
  where
    by : (b : Bool) → keeps keys r.atom ≡ b → needs_among literals keys goals (r ∷ []) ≡ kept_need keys r n
    by true kept = rw (kept, e) refl
    by false dead = rw dead refl

among_none : (literals : List Representative) (keys : List AtomKey) (goals : List Goal) (r : Ref) → need_of literals goals r ≡ None → needs_among literals keys goals (r ∷ []) ≡ []
among_none literals keys goals r e = by (keeps keys r.atom) refl
  where
    by : (b : Bool) → keeps keys r.atom ≡ b → needs_among literals keys goals (r ∷ []) ≡ []
    by true kept = rw (kept, e) refl
    by false dead = rw dead refl

pub adds_some : (literals : List Representative) (keys : List AtomKey) (goals : List Goal) (r : Ref) (goal : Goal) (way : Way) (before after : List Need) → goal ≡ target_goal literals goals r.target → way_of r.kind r.addend goal ≡ Some way → Adds before (kept_need keys r (need goal way)) after → Adds before (needs_among literals keys goals (r ∷ [])) after
adds_some literals keys goals r goal way before after is by adds =
    subst (λ ns. Adds before ns after) (sym (among_some literals keys goals r (need goal way) (need_is literals goals r goal (Some way) is by))) adds

pub adds_nothing : (literals : List Representative) (keys : List AtomKey) (goals : List Goal) (r : Ref) (goal : Goal) (before : List Need) → goal ≡ target_goal literals goals r.target → way_of r.kind r.addend goal ≡ None → Adds before (needs_among literals keys goals (r ∷ [])) before
adds_nothing literals keys goals r goal before is by =
    subst (λ ns. Adds before ns before) (sym (among_none literals keys goals r (need_is literals goals r goal None is by))) (adds_none before)

pub adds_never : (literals : List Representative) (keys : List AtomKey) (goals : List Goal) (r : Ref) (before : List Need) → ((addend : ℤ) (goal : Goal) → way_of r.kind addend goal ≡ None) → Adds before (needs_among literals keys goals (r ∷ [])) before
adds_never literals keys goals r before never = adds_nothing literals keys goals r (target_goal literals goals r.target) before refl (never r.addend (target_goal literals goals r.target))

pub ruleset refs = (adds_some, adds_nothing)

-- ---- the entry

pub ruleset entries = (adds_none, adds_more)
