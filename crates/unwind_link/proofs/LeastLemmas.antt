-- The first of some entries, entry by entry.
use Rattle.std.proofs.Common.{◌≡◌, ◌≢◌, ℕ, ◌+◌, ◌<◌, ◌≤◌, ◌⊎◌, inl, inr, Bool, true, false, List, [], ◌∷◌, ◌++◌, length, take, fold, get_or, Option, Some, None, refl, sym, ap, subst, ◌∙◌, if◌then◌else◌}
use Rattle.std.specs.Prelude.{MatchOption}
use Rattle.std.specs.Ordering.{is_lt, ordering_reverse}
use Rattle.std.specs.Cmp.{IsTotalOrder}
use Rattle.std.specs.declared.cmp.Ordering.{Ordering}
use Rattle.std.specs.declared.cmp.Ordering.TheVariants.{Less, Equal, Greater}
use Rattle.std.proofs.lemmas.Bool.{false≢true}
use Rattle.std.proofs.lemmas.Cmp.{alike_right, nat_cmp_total, on_total, then_total, tied_itself}
use Rattle.std.proofs.lemmas.Grind.{fold-append}
use Rattle.std.proofs.lemmas.List.{take_all, take_more}
use Rattle.std.proofs.lemmas.List.Elements.{filter-append}
use Rattle.list_lemmas.proofs.Members.{In, Contains_from_in, in_from_Contains}
use Rattle.mo_types.proofs.KeyOrder.{compare_keys_total}
use Rattle.unwind_link.specs.Dwarf.{IsFirst, compare_kept, dwarfs, is_dwarf}
use Rattle.unwind_link.specs.inner.Least.{lesser}
use Rattle.unwind_link.specs.declared.kept.KeptUnwind.{KeptUnwind}

-- ---- entry by entry

pub walk_starts : (kept : List KeptUnwind) → None ≡ fold lesser None (dwarfs (take 0 kept))
walk_starts kept = refl

pub walk_goes_on : (kept : List KeptUnwind) (at : ℕ) (one d : KeptUnwind) (now next : Option KeptUnwind) → now ≡ fold lesser None (dwarfs (take at kept)) → at < length kept → one ≡ get_or kept at d → next ≡ fold lesser now (dwarfs (one ∷ [])) → next ≡ fold lesser None (dwarfs (take (at + 1) kept))
walk_goes_on kept at one d now next so low is more =
    more
    ∙ ap (λ (o : Option KeptUnwind). fold lesser o (dwarfs (one ∷ []))) so
    ∙ sym (fold-append lesser None (dwarfs (take at kept)) (dwarfs (one ∷ [])))
    ∙ ap (λ (ks : List KeptUnwind). fold lesser None ks) (sym (filter-append is_dwarf (take at kept) (one ∷ [])))
    ∙ ap (λ (ks : List KeptUnwind). fold lesser None (dwarfs ks)) (ap (λ (k : KeptUnwind). take at kept ++ k ∷ []) is ∙ sym (take_more kept at d low))

pub walk_ends : (kept : List KeptUnwind) (at : ℕ) (now : Option KeptUnwind) → now ≡ fold lesser None (dwarfs (take at kept)) → length kept ≤ at → now ≡ fold lesser None (dwarfs kept)
walk_ends kept at now so past = so ∙ ap (λ (ks : List KeptUnwind). fold lesser None (dwarfs ks)) (take_all at kept past)

pub ruleset walks = (walk_starts, walk_ends)

-- ---- the first of all

kept_total : IsTotalOrder compare_kept
unfolding compare_kept
kept_total = then_total (on_total (λ (k : KeptUnwind). k.unwind.atom) compare_keys_total) (on_total (λ (k : KeptUnwind). k.unwind.offset) nat_cmp_total)

itself : (x : KeptUnwind) → compare_kept x x ≢ Greater
itself x = let e : compare_kept x x ≡ Equal = tied_itself kept_total x in λ f. cc

not_less : (a b : Ordering) → a ≡ ordering_reverse b → is_lt b ≡ false → a ≢ Greater
not_less a Less back e = absurd (false≢true (sym e))
not_less a Equal back e = λ f. cc
not_less a Greater back e = λ f. cc

is_less : (o : Ordering) → is_lt o ≡ true → o ≡ Less
is_less Less e = refl
is_less Equal e = absurd (false≢true e)
is_less Greater e = absurd (false≢true e)

less_still : (x y z : KeptUnwind) → compare_kept x y ≡ Less → compare_kept y z ≢ Greater → compare_kept x z ≢ Greater
less_still x y z first second = by (compare_kept y z) refl
  where
    by : (o : Ordering) → compare_kept y z ≡ o → compare_kept x z ≢ Greater
    by Greater e = absurd (second e)
    by Equal e = λ f. let g : Less ≡ Greater = sym first ∙ alike_right kept_total y z x e ∙ f in cc
    by Less e = let l : compare_kept x z ≡ Less = kept_total.trans x y z first e in λ f. cc

-- what was found so far is the first of those so far
abbrev IsSoFar : Option KeptUnwind → (KeptUnwind → Type 0) → Type 0
IsSoFar found Seen = MatchOption found ((other : KeptUnwind) → Seen other → ⊥) (λ first. Seen first × ((other : KeptUnwind) → Seen other → compare_kept first other ≢ Greater))

with_next : (found : Option KeptUnwind) (next : KeptUnwind) (Seen : KeptUnwind → Type 0) → IsSoFar found Seen → IsSoFar (lesser found next) (λ other. Seen other ⊎ (other ≡ next))
with_next None next Seen none = (inr refl, λ other h. elim h [ inl seen ↦ absurd (none other seen) | inr is ↦ subst (λ (u : KeptUnwind). compare_kept next u ≢ Greater) (sym is) (itself next) ])
with_next (Some first) next Seen so = by (is_lt (compare_kept next first)) refl
  where
    by : (b : Bool) → is_lt (compare_kept next first) ≡ b → IsSoFar (if b then Some next else Some first) (λ other. Seen other ⊎ (other ≡ next))
    by true e =
        let less = is_less (compare_kept next first) e in
        (inr refl, λ other h. elim h [ inl seen ↦ less_still next first other less (so.1 other seen) | inr is ↦ subst (λ (u : KeptUnwind). compare_kept next u ≢ Greater) (sym is) (itself next) ])
    by false e =
        (inl so.0, λ other h. elim h [ inl seen ↦ so.1 other seen | inr is ↦ subst (λ (u : KeptUnwind). compare_kept first u ≢ Greater) (sym is) (not_less (compare_kept first next) (compare_kept next first) (kept_total.antisymm first next) e) ])

same_seen : (found : Option KeptUnwind) (A B : KeptUnwind → Type 0) → ((u : KeptUnwind) → A u → B u) → ((u : KeptUnwind) → B u → A u) → IsSoFar found A → IsSoFar found B
same_seen None A B to from none = λ other h. none other (from other h)
same_seen (Some first) A B to from so = (to first so.0, λ other h. so.1 other (from other h))

so_far : (all : List KeptUnwind) (found : Option KeptUnwind) (Seen : KeptUnwind → Type 0) → IsSoFar found Seen → IsSoFar (fold lesser found all) (λ other. Seen other ⊎ In other all)
so_far [] found Seen so = same_seen found Seen (λ other. Seen other ⊎ In other []) (λ u h. inl h) (λ u h. elim h [ inl seen ↦ seen | inr none ↦ absurd none ]) so
so_far (next ∷ all) found Seen so =
    same_seen (fold lesser (lesser found next) all) (λ other. (Seen other ⊎ (other ≡ next)) ⊎ In other all) (λ other. Seen other ⊎ In other (next ∷ all))
    (λ u h. elim h [ inl first ↦ elim first [ inl seen ↦ inl seen | inr is ↦ inr (inl (sym is)) ] | inr rest ↦ inr (inr rest) ])
    (λ u h. elim h [ inl seen ↦ inl (inl seen) | inr there ↦ elim there [ inl is ↦ inl (inr (sym is)) | inr rest ↦ inr rest ] ])
    (so_far all (lesser found next) (λ other. Seen other ⊎ (other ≡ next)) (with_next found next Seen so))

none_in : (all : List KeptUnwind) → ((u : KeptUnwind) → In u all → ⊥) → all ≡ []
none_in [] none = refl
none_in (u ∷ all) none = absurd (none u (inl refl))

pub is_first : (all : List KeptUnwind) → IsFirst all (fold lesser None all)
is_first all = by (fold lesser None all) (so_far all None (λ other. ⊥) (λ other h. h))
  where
    by : (found : Option KeptUnwind) → IsSoFar found (λ other. ⊥ ⊎ In other all) → IsFirst all found
    by None none = none_in all (λ u h. none u (inr h))
    by (Some first) so = (
      elim so.0 [ inl none ↦ absurd none | inr there ↦ Contains_from_in all first there ],
      λ other h. so.1 other (inr (in_from_Contains all other h)),
    )
