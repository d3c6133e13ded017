-- References whose goals are in another image, file by file, and the least of them.
use Rattle.std.proofs.Common.{◌≡◌, ◌≢◌, ℕ, ◌+◌, ◌<◌, ◌≤◌, ◌⊎◌, inl, inr, Bool, true, false, All, List, [], ◌∷◌, ◌++◌, length, take, map, fold, get_or, Option, Some, None, refl, sym, ap, subst, ◌∙◌, arith, ◌&&◌, if◌then◌else◌}
use Rattle.std.specs.Prelude.{MatchOption, slice_get}
use Rattle.std.specs.List.{enumerate_from, filter, flat_map, list_any}
use Rattle.std.specs.Option.{option_map, option_map_or, option_to_list}
use Rattle.std.specs.Ordering.{is_lt, ordering_reverse}
use Rattle.std.specs.Cmp.{IsTotalOrder}
use Rattle.std.specs.declared.cmp.Ordering.{Ordering}
use Rattle.std.specs.declared.cmp.Ordering.TheVariants.{Less, Equal, Greater}
use Rattle.std.proofs.lemmas.Bool.{false≢true}
use Rattle.std.proofs.lemmas.Cmp.{alike_right, nat_cmp_total, on_total, then_total, tied_itself}
use Rattle.mo_types.proofs.KeyOrder.{compare_keys_total}
use Rattle.std.proofs.lemmas.Grind.{flat_map-append, fold-append}
use Rattle.std.proofs.lemmas.List.{append-nil, map-append, take_all, take_more}
use Rattle.std.proofs.lemmas.List.Elements.{filter-append}
use Rattle.std.proofs.lemmas.List.FromFn.{get_or-enumerate_from, length-enumerate_from}
use Rattle.std.proofs.lemmas.Option.{get_or_from_slice_get, slice_get-map, slice_get_within}
use Rattle.list_lemmas.proofs.Members.{In, Contains_from_in, in_from_Contains}
use Rattle.liveness.specs.Undefined.{targets_of}
use Rattle.liveness.proofs.GrowLemmas.{more_taken}
use Rattle.mo_types.specs.declared.goal.Goal.{Goal}
use Rattle.mo_types.specs.declared.key.AtomKey.{AtomKey}
use Rattle.mo_types.specs.declared.loaded.LoadedFile.{LoadedFile}
use Rattle.mo_types.specs.declared.reference.Ref.{Ref}
use Rattle.mo_types.specs.declared.reference.Target.{Target}
use Rattle.mo_types.specs.declared.reference.Target.TheVariants.{Name, Local}
use Rattle.resolve.specs.Table.{AreWithin, Tabled, goals_in, goals_of}
use Rattle.resolve.proofs.PlaceLemmas.{fails, none_passes}
use Rattle.slot_needs.specs.Needs.{is_outer}
use Rattle.slot_needs.specs.Unmet.{IsFirst, compare_unmet, is_kept_unmet, is_unmet, leads_out, lesser, tells_address, unmet, unmet_among, unmet_at, unmet_by}
use Rattle.slot_needs.specs.declared.unmet.Unmet.{Unmet}

-- ---- the references of a file

among-append : (keys : List AtomKey) (goals : List Goal) (file : ℕ) (rs qs : List Ref) → unmet_among keys goals file (rs ++ qs) ≡ unmet_among keys goals file rs ++ unmet_among keys goals file qs
among-append keys goals file rs qs =
    ap (map (unmet_by file)) (filter-append (is_kept_unmet keys goals) rs qs)
    ∙ map-append (unmet_by file) (filter (is_kept_unmet keys goals) rs) (filter (is_kept_unmet keys goals) qs)

pub refs_go_on : (keys : List AtomKey) (goals : List Goal) (file : ℕ) (refs : List Ref) (at : ℕ) (least now next : Option Unmet) → now ≡ fold lesser least (unmet_among keys goals file (take at refs)) → next ≡ fold lesser now (unmet_among keys goals file (option_to_list (slice_get refs at))) → next ≡ fold lesser least (unmet_among keys goals file (take (at + 1) refs))
refs_go_on keys goals file refs at least now next so one =
    let here = option_to_list (slice_get refs at) in
    one ∙ ap (λ (o : Option Unmet). fold lesser o (unmet_among keys goals file here)) so
    ∙ sym (fold-append lesser least (unmet_among keys goals file (take at refs)) (unmet_among keys goals file here))
    ∙ ap (fold lesser least) (sym (ap (unmet_among keys goals file) (more_taken refs at) ∙ among-append keys goals file (take at refs) here))

-- where the next one isn't such a one
pub refs_pass_over : (keys : List AtomKey) (goals : List Goal) (file : ℕ) (refs : List Ref) (at : ℕ) (least now : Option Unmet) → now ≡ fold lesser least (unmet_among keys goals file (take at refs)) → option_map_or (is_unmet goals) (slice_get refs at) false ≡ false → now ≡ fold lesser least (unmet_among keys goals file (take (at + 1) refs))
refs_pass_over keys goals file refs at least now so none = refs_go_on keys goals file refs at least now now so (by (slice_get refs at) none)
  where
    by : (o : Option Ref) → option_map_or (is_unmet goals) o false ≡ false → now ≡ fold lesser now (unmet_among keys goals file (option_to_list o))
    by None none = refl
    by (Some r) none = rw none refl

pub refs_end : (keys : List AtomKey) (goals : List Goal) (file : ℕ) (refs : List Ref) (at : ℕ) (least now : Option Unmet) → now ≡ fold lesser least (unmet_among keys goals file (take at refs)) → length refs ≤ at → now ≡ fold lesser least (unmet_among keys goals file refs)
refs_end keys goals file refs at least now so past = so ∙ ap (λ (rs : List Ref). fold lesser least (unmet_among keys goals file rs)) (take_all at refs past)

-- ---- the file at a place

pub at_goals : (keys : List AtomKey) (goals : List (List Goal)) (some : List Goal) (at : ℕ) (file : LoadedFile) (least now : Option Unmet) → slice_get goals at ≡ Some some → now ≡ fold lesser least (unmet_among keys some at file.refs) → now ≡ fold lesser least (unmet_at keys goals (at, file))
unfolding unmet_at
at_goals keys goals some at file least now is so = rw is so

pub at_nothing : (keys : List AtomKey) (goals : List (List Goal)) (at : ℕ) (file : LoadedFile) (least : Option Unmet) → slice_get goals at ≡ None → least ≡ fold lesser least (unmet_at keys goals (at, file))
unfolding unmet_at
at_nothing keys goals at file least is = rw is refl

pub ruleset place = (at_goals, at_nothing)

-- ---- all files

abbrev pub unmet_to : List AtomKey → List (List Goal) → List LoadedFile → ℕ → List Unmet
unmet_to keys goals files at = flat_map (unmet_at keys goals) (take at (enumerate_from 0 files))

pub files_go_on : (keys : List AtomKey) (goals : List (List Goal)) (files : List LoadedFile) (at : ℕ) (file : LoadedFile) (now next : Option Unmet) → now ≡ fold lesser None (unmet_to keys goals files at) → at < length files → get_or files at file ≡ file → next ≡ fold lesser now (unmet_at keys goals (at, file)) → next ≡ fold lesser None (unmet_to keys goals files (at + 1))
files_go_on keys goals files at file now next so low is one =
    one ∙ ap (λ (o : Option Unmet). fold lesser o (unmet_at keys goals (at, file))) so
    ∙ sym (fold-append lesser None (unmet_to keys goals files at) (unmet_at keys goals (at, file)))
    ∙ ap (fold lesser None) (sym more)
  where
    within : at < length (enumerate_from 0 files)
    within = subst (λ n. at < n) (sym (length-enumerate_from 0 files)) low

    there : get_or (enumerate_from 0 files) at (at, file) ≡ (at, file)
    there =
        let same : 0 + at ≡ at = omega arith in
        get_or-enumerate_from 0 files at (at, file) low ∙ ap {B = ℕ × LoadedFile} (λ k. (k, get_or files at file)) same ∙ ap {B = ℕ × LoadedFile} (λ f. (at, f)) is

    more : unmet_to keys goals files (at + 1) ≡ unmet_to keys goals files at ++ unmet_at keys goals (at, file)
    more =
        ap (flat_map (unmet_at keys goals)) (take_more (enumerate_from 0 files) at (at, file) within)
        ∙ flat_map-append (unmet_at keys goals) (take at (enumerate_from 0 files)) (get_or (enumerate_from 0 files) at (at, file) ∷ [])
        ∙ ap (λ z. unmet_to keys goals files at ++ z) (append-nil (unmet_at keys goals (get_or (enumerate_from 0 files) at (at, file))) ∙ ap (unmet_at keys goals) there)

pub files_end : (keys : List AtomKey) (goals : List (List Goal)) (files : List LoadedFile) (at : ℕ) (now : Option Unmet) → now ≡ fold lesser None (unmet_to keys goals files at) → length files ≤ at → now ≡ fold lesser None (unmet keys goals files)
unfolding unmet
files_end keys goals files at now so past =
    so ∙ ap (λ ps. fold lesser None (flat_map (unmet_at keys goals) ps)) (take_all at (enumerate_from 0 files) (subst (λ n. n ≤ at) (sym (length-enumerate_from 0 files)) past))

-- ---- where no goal is in another image, there is none

no_target : (goals : List Goal) (target : Target) → list_any is_outer goals ≡ false → leads_out goals target ≡ false
no_target goals (Local atom offset) none = refl
no_target goals (Name index) none = by (slice_get goals index) refl
  where
    by : (goal : Option Goal) → slice_get goals index ≡ goal → option_map_or is_outer (slice_get goals index) false ≡ false
    by None is = ap (λ goal. option_map_or is_outer goal false) is
    by (Some goal) is =
        ap (λ goal. option_map_or is_outer goal false) is
        ∙ ap is_outer (sym (get_or_from_slice_get goals index goal goal is))
        ∙ fails is_outer goals index goal (slice_get_within goals index goal is) none

no_ref : (keys : List AtomKey) (goals : List Goal) (r : Ref) → list_any is_outer goals ≡ false → is_kept_unmet keys goals r ≡ false
unfolding is_unmet
no_ref keys goals r none = by (tells_address r.kind r.addend)
  where
    all : (minus : Option Target) → list_any (leads_out goals) (targets_of r.target minus) ≡ false
    all None = rw (no_target goals r.target none) refl
    all (Some minus) = rw (no_target goals r.target none, no_target goals minus none) refl

    by : (tells : Bool) → (tells && list_any (leads_out goals) (targets_of r.target r.minus)) && Rattle.mark_core.specs.Kept.has keys r.atom ≡ false
    by false = refl
    by true = rw (all r.minus) refl

no_refs : (keys : List AtomKey) (goals : List Goal) (file : ℕ) (refs : List Ref) → list_any is_outer goals ≡ false → unmet_among keys goals file refs ≡ []
no_refs keys goals file [] none = refl
no_refs keys goals file (r ∷ refs) none = rw (no_ref keys goals r none) (no_refs keys goals file refs none)

none_at : (keys : List AtomKey) (table : Tabled) (p : ℕ × LoadedFile) → All (AreWithin table.pool) table.places → list_any is_outer table.pool ≡ false → unmet_at keys (goals_of table) p ≡ []
unfolding unmet_at goals_of
none_at keys table p within none = by (slice_get table.places p.0) refl
  where
    by : (places : Option (List ℕ)) → slice_get table.places p.0 ≡ places → option_map_or (λ some. unmet_among keys some p.0 p.1.refs) (slice_get (goals_of table) p.0) [] ≡ []
    by None is = ap (λ goals. option_map_or (λ some. unmet_among keys some p.0 p.1.refs) goals []) (slice_get-map (goals_in table.pool) table.places p.0 ∙ ap (option_map (goals_in table.pool)) is)
    by (Some places) is =
        let here : AreWithin table.pool places = rw (← get_or_from_slice_get table.places p.0 places places is) (within p.0 places (slice_get_within table.places p.0 places is)) in
        let no = none_passes is_outer table.pool places here none in
        ap (λ goals. option_map_or (λ some. unmet_among keys some p.0 p.1.refs) goals []) (slice_get-map (goals_in table.pool) table.places p.0 ∙ ap (option_map (goals_in table.pool)) is)
        ∙ no_refs keys (goals_in table.pool places) p.0 p.1.refs no

none_among : (keys : List AtomKey) (table : Tabled) (ps : List (ℕ × LoadedFile)) → All (AreWithin table.pool) table.places → list_any is_outer table.pool ≡ false → flat_map (unmet_at keys (goals_of table)) ps ≡ []
none_among keys table [] within none = refl
none_among keys table (p ∷ ps) within none = rw (none_at keys table p within none) (none_among keys table ps within none)

pub none_of : (keys : List AtomKey) (table : Tabled) (files : List LoadedFile) → All (AreWithin table.pool) table.places → list_any is_outer table.pool ≡ false → unmet keys (goals_of table) files ≡ []
unfolding unmet
none_of keys table files within none = none_among keys table (enumerate_from 0 files) within none

-- ---- the least of them

unmet_total : IsTotalOrder compare_unmet
unfolding compare_unmet
unmet_total = then_total (on_total (λ (u : Unmet). u.reference.atom) compare_keys_total) (on_total (λ (u : Unmet). u.reference.place) nat_cmp_total)

itself : (x : Unmet) → compare_unmet x x ≢ Greater
itself x = let e : compare_unmet x x ≡ Equal = tied_itself unmet_total x in λ f. cc

not_less : (a b : Ordering) → a ≡ ordering_reverse b → is_lt b ≡ false → a ≢ Greater
not_less a Less back e = absurd (false≢true (sym e))
not_less a Equal back e = λ f. cc
not_less a Greater back e = λ f. cc

is_less : (o : Ordering) → is_lt o ≡ true → o ≡ Less
is_less Less e = refl
is_less Equal e = absurd (false≢true e)
is_less Greater e = absurd (false≢true e)

less_still : (x y z : Unmet) → compare_unmet x y ≡ Less → compare_unmet y z ≢ Greater → compare_unmet x z ≢ Greater
less_still x y z first second = by (compare_unmet y z) refl
  where
    by : (o : Ordering) → compare_unmet y z ≡ o → compare_unmet x z ≢ Greater
    by Greater e = absurd (second e)
    by Equal e = λ f. let g : Less ≡ Greater = sym first ∙ alike_right unmet_total y z x e ∙ f in cc
    by Less e = let l : compare_unmet x z ≡ Less = unmet_total.trans x y z first e in λ f. cc

-- what was found so far is the first of those so far
abbrev IsSoFar : Option Unmet → (Unmet → Type 0) → Type 0
IsSoFar found Seen = MatchOption found ((other : Unmet) → Seen other → ⊥) (λ first. Seen first × ((other : Unmet) → Seen other → compare_unmet first other ≢ Greater))

with_next : (found : Option Unmet) (next : Unmet) (Seen : Unmet → Type 0) → IsSoFar found Seen → IsSoFar (lesser found next) (λ other. Seen other ⊎ (other ≡ next))
with_next None next Seen none = (inr refl, λ other h. elim h [ inl seen ↦ absurd (none other seen) | inr is ↦ subst (λ (u : Unmet). compare_unmet next u ≢ Greater) (sym is) (itself next) ])
with_next (Some first) next Seen so = by (is_lt (compare_unmet next first)) refl
  where
    by : (b : Bool) → is_lt (compare_unmet next first) ≡ b → IsSoFar (if b then Some next else Some first) (λ other. Seen other ⊎ (other ≡ next))
    by true e =
        let less = is_less (compare_unmet next first) e in
        (inr refl, λ other h. elim h [ inl seen ↦ less_still next first other less (so.1 other seen) | inr is ↦ subst (λ (u : Unmet). compare_unmet next u ≢ Greater) (sym is) (itself next) ])
    by false e =
        (inl so.0, λ other h. elim h [ inl seen ↦ so.1 other seen | inr is ↦ subst (λ (u : Unmet). compare_unmet first u ≢ Greater) (sym is) (not_less (compare_unmet first next) (compare_unmet next first) (unmet_total.antisymm first next) e) ])

same_seen : (found : Option Unmet) (A B : Unmet → Type 0) → ((u : Unmet) → A u → B u) → ((u : Unmet) → B u → A u) → IsSoFar found A → IsSoFar found B
same_seen None A B to from none = λ other h. none other (from other h)
same_seen (Some first) A B to from so = (to first so.0, λ other h. so.1 other (from other h))

so_far : (all : List Unmet) (found : Option Unmet) (Seen : Unmet → Type 0) → IsSoFar found Seen → IsSoFar (fold lesser found all) (λ other. Seen other ⊎ In other all)
so_far [] found Seen so = same_seen found Seen (λ other. Seen other ⊎ In other []) (λ u h. inl h) (λ u h. elim h [ inl seen ↦ seen | inr none ↦ absurd none ]) so
so_far (next ∷ all) found Seen so =
    same_seen (fold lesser (lesser found next) all) (λ other. (Seen other ⊎ (other ≡ next)) ⊎ In other all) (λ other. Seen other ⊎ In other (next ∷ all))
    (λ u h. elim h [ inl first ↦ elim first [ inl seen ↦ inl seen | inr is ↦ inr (inl (sym is)) ] | inr rest ↦ inr (inr rest) ])
    (λ u h. elim h [ inl seen ↦ inl (inl seen) | inr there ↦ elim there [ inl is ↦ inl (inr (sym is)) | inr rest ↦ inr rest ] ])
    (so_far all (lesser found next) (λ other. Seen other ⊎ (other ≡ next)) (with_next found next Seen so))

none_in : (all : List Unmet) → ((u : Unmet) → In u all → ⊥) → all ≡ []
none_in [] none = refl
none_in (u ∷ all) none = absurd (none u (inl refl))

pub is_first : (all : List Unmet) → IsFirst all (fold lesser None all)
is_first all = by (fold lesser None all) (so_far all None (λ other. ⊥) (λ other h. h))
  where
    by : (found : Option Unmet) → IsSoFar found (λ other. ⊥ ⊎ In other all) → IsFirst all found
    by None none = none_in all (λ u h. none u (inr h))
    by (Some first) so = (
      elim so.0 [ inl none ↦ absurd none | inr there ↦ Contains_from_in all first there ],
      λ other h. so.1 other (inr (in_from_Contains all other h)),
    )
