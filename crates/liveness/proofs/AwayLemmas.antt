-- The edges that lead away from some atoms are those of all edges that do.
use Rattle.std.proofs.Common.{◌≡◌, ◌++◌, ℕ, zero, suc, ◌==◌, Bool, true, false, List, [], ◌∷◌, length, map, slice_get, take, get_or, replicate, Some, None, inl, inr, refl, sym, ap, ap₂, arith, ◌+◌, ◌-◌, ◌<◌, ◌≤◌, ◌∙◌, if◌then◌else◌}
use Rattle.std.specs.Prelude.{IfOk, Option, Result, Ok, Err}
use Rattle.std.specs.List.{filter, flat_map, list_any}
use Rattle.std.specs.Option.{option_and_then, option_map, option_map_or}
use Rattle.std.proofs.lemmas.Bool.{cases_Bool, eqb-true, false≢true, or_parts}
use Rattle.std.proofs.lemmas.List.{append-nil, length-append, length-map, length-replicate, length-take-le, map-append, nil_from_length, take_all, take_more}
use Rattle.std.proofs.lemmas.List.Elements.{filter-append}
use Rattle.std.proofs.lemmas.Option.{get_or_from_slice_get, slice_get-map, slice_get_within}
use Rattle.resolve.specs.Table.{AreWithin, Tabled, goals_in, goals_of}
use Rattle.list_lemmas.proofs.Members.{any_from_in, in_from_Contains}
use Rattle.mark_core.specs.Kept.{begins_away, has, leads_away}
use Rattle.mo_types.specs.LocalEnds.{has_local, is_local}
use Rattle.mo_types.specs.RelocationRules.{section_numbered}
use Rattle.mo_types.specs.declared.edge.Edge.{Edge}
use Rattle.mo_types.specs.declared.goal.Goal.{Goal}
use Rattle.mo_types.specs.declared.key.AtomKey.{AtomKey}
use Rattle.mo_types.specs.declared.loaded.LoadedFile.{LoadedFile}
use Rattle.mo_types.specs.declared.memory.OutOfMemory.{OutOfMemory}
use Rattle.mo_types.specs.declared.object.Object.{Object}
use Rattle.mo_types.specs.declared.object.Section.{Section}
use Rattle.mo_types.specs.declared.reference.Ref.{Ref}
use Rattle.mo_types.specs.declared.reference.Target.{Target}
use Rattle.mo_types.specs.declared.reference.Target.TheVariants.{Local, Name}
use Rattle.mo_types.specs.declared.unwind.Unwind.{Unwind}
use Rattle.liveness.specs.Edges.{edge_from, edges_at, file_edges, file_supports, goal_atom, is_live_support, ref_edges, ref_supports, supports_at, supports_live, target_atom, unwind_edges}
use Rattle.literal_merge.specs.declared.representative.Representative.{Representative}
use Rattle.liveness.proofs.PlacedLemmas.{ends_told}
use Rattle.liveness.specs.inner.Away.{AreAway, AreNone, away, end_in, ended, ends_in, file_away, goal_away, ref_away, target_away, unwind_away}

-- ---- lists

pub filter_flat : {X Y : Type 0} (p : Y → Bool) (f : X → List Y) (xs : List X) → flat_map (λ x. filter p (f x)) xs ≡ filter p (flat_map f xs)
filter_flat p f [] = refl
filter_flat {Y = Y} p f (x ∷ xs) = ap (λ (ys : List Y). filter p (f x) ++ ys) (filter_flat p f xs) ∙ sym (filter-append p (f x) (flat_map f xs))

flat_same : {X Y : Type 0} (f g : X → List Y) → ((x : X) → f x ≡ g x) → (xs : List X) → flat_map f xs ≡ flat_map g xs
flat_same f g same [] = refl
flat_same {Y = Y} f g same (x ∷ xs) = ap (λ (ys : List Y). ys ++ flat_map f xs) (same x) ∙ ap (λ (ys : List Y). g x ++ ys) (flat_same f g same xs)

flat_none : {X Y : Type 0} (f : X → List Y) → ((x : X) → f x ≡ []) → (xs : List X) → flat_map f xs ≡ []
flat_none f none [] = refl
flat_none {Y = Y} f none (x ∷ xs) = ap (λ (ys : List Y). ys ++ flat_map f xs) (none x) ∙ flat_none f none xs

get_mapped : {X Y : Type 0} (f : X → Y) (xs : List X) (at : ℕ) → slice_get (map f xs) at ≡ option_map f (slice_get xs at)
get_mapped f [] at = refl
get_mapped f (x ∷ xs) zero = refl
get_mapped f (x ∷ xs) (suc at) = get_mapped f xs at

-- ---- edges

pub edge_filtered : (roots : List AtomKey) (from : AtomKey) (to : Option AtomKey) → edge_from from (option_and_then (away roots) to) ≡ filter (leads_away roots) (edge_from from to)
edge_filtered roots from None = refl
edge_filtered roots from (Some atom) = by (has roots atom) refl
  where
    by : (b : Bool) → has roots atom ≡ b → edge_from from (option_and_then (away roots) (Some atom)) ≡ filter (leads_away roots) (edge_from from (Some atom))
    by true e = rw e refl
    by false e = rw e refl

target_is : (literals : List Representative) (roots : List AtomKey) (goals : List Goal) (target : Target) → target_away literals roots (map (goal_away roots) goals) target ≡ option_and_then (away roots) (target_atom literals goals target)
target_is literals roots goals (Local atom offset) = refl
target_is literals roots goals (Name index) =
    ap (option_and_then (λ (end : Option AtomKey). end)) (get_mapped (goal_away roots) goals index) ∙ by (slice_get goals index)
  where
    by : (found : Option Goal) → option_and_then (λ (end : Option AtomKey). end) (option_map (goal_away roots) found) ≡ option_and_then (away roots) (option_and_then goal_atom found)
    by None = refl
    by (Some goal) = refl

optional_is : (literals : List Representative) (roots : List AtomKey) (goals : List Goal) (target : Option Target) → option_and_then (target_away literals roots (map (goal_away roots) goals)) target ≡ option_and_then (away roots) (option_and_then (target_atom literals goals) target)
optional_is literals roots goals None = refl
optional_is literals roots goals (Some target) = target_is literals roots goals target

two_filtered : (roots : List AtomKey) (from : AtomKey) (a b c d : Option AtomKey) → a ≡ option_and_then (away roots) c → b ≡ option_and_then (away roots) d → edge_from from a ++ edge_from from b ≡ filter (leads_away roots) (edge_from from c ++ edge_from from d)
two_filtered roots from a b c d e f =
    ap (λ (o : Option AtomKey). edge_from from o ++ edge_from from b) e
    ∙ ap (λ (o : Option AtomKey). edge_from from (option_and_then (away roots) c) ++ edge_from from o) f
    ∙ ap (λ (es : List Edge). es ++ edge_from from (option_and_then (away roots) d)) (edge_filtered roots from c)
    ∙ ap (λ (es : List Edge). filter (leads_away roots) (edge_from from c) ++ es) (edge_filtered roots from d)
    ∙ sym (filter-append (leads_away roots) (edge_from from c) (edge_from from d))

ref_filtered : (literals : List Representative) (roots : List AtomKey) (goals : List Goal) (ref : Ref) → ref_away literals roots (map (goal_away roots) goals) ref ≡ filter (leads_away roots) (ref_edges literals goals ref)
unfolding ref_away ref_edges
ref_filtered literals roots goals ref =
    two_filtered roots ref.atom (target_away literals roots (map (goal_away roots) goals) ref.target) (option_and_then (target_away literals roots (map (goal_away roots) goals)) ref.minus)
    (target_atom literals goals ref.target) (option_and_then (target_atom literals goals) ref.minus)
    (target_is literals roots goals ref.target) (optional_is literals roots goals ref.minus)

unwind_filtered : (literals : List Representative) (roots : List AtomKey) (goals : List Goal) (unwind : Unwind) → unwind_away literals roots (map (goal_away roots) goals) unwind ≡ filter (leads_away roots) (unwind_edges literals goals unwind)
unfolding unwind_away unwind_edges
unwind_filtered literals roots goals unwind =
    two_filtered roots unwind.atom (option_and_then (target_away literals roots (map (goal_away roots) goals)) unwind.personality) (option_and_then (away roots) (option_map (λ lsda. lsda.0) unwind.lsda))
    (option_and_then (target_atom literals goals) unwind.personality) (option_map (λ lsda. lsda.0) unwind.lsda)
    (optional_is literals roots goals unwind.personality) refl

pub file_filtered : (literals : List Representative) (roots : List AtomKey) (goals : List Goal) (ends : List (Option AtomKey)) (file : LoadedFile) → ends ≡ map (goal_away roots) goals → file_away literals roots ends file ≡ filter (leads_away roots) (file_edges literals goals file)
unfolding file_away file_edges
file_filtered literals roots goals ends file is =
    ap (λ (os : List (Option AtomKey)). flat_map (ref_away literals roots os) file.refs ++ flat_map (unwind_away literals roots os) file.unwinds) is
    ∙ ap (λ (es : List Edge). es ++ flat_map (unwind_away literals roots (map (goal_away roots) goals)) file.unwinds)
    (flat_same (ref_away literals roots (map (goal_away roots) goals)) (λ ref. filter (leads_away roots) (ref_edges literals goals ref)) (ref_filtered literals roots goals) file.refs
    ∙ filter_flat (leads_away roots) (ref_edges literals goals) file.refs)
    ∙ ap (λ (es : List Edge). filter (leads_away roots) (flat_map (ref_edges literals goals) file.refs) ++ es)
    (flat_same (unwind_away literals roots (map (goal_away roots) goals)) (λ unwind. filter (leads_away roots) (unwind_edges literals goals unwind)) (unwind_filtered literals roots goals) file.unwinds
    ∙ filter_flat (leads_away roots) (unwind_edges literals goals) file.unwinds)
    ∙ sym (filter-append (leads_away roots) (flat_map (ref_edges literals goals) file.refs) (flat_map (unwind_edges literals goals) file.unwinds))

-- ---- the ends of a pool's goals

-- a list with one more at its end, beside one that has the same ends and may be shorter
put_alike : (ends others : List (Option AtomKey)) (gap : ℕ) (end : Option AtomKey) → length ends + gap ≡ length others → ((place : ℕ) → end_in ends place ≡ end_in others place) → (place : ℕ) → end_in (ends ++ replicate gap None ++ end ∷ []) place ≡ end_in (others ++ end ∷ []) place
put_alike [] [] zero end long same place = refl
put_alike [] [] (suc gap) end long same place = absurd (omega (arith, long))
put_alike [] (other ∷ others) zero end long same place = absurd (omega (arith, long))
put_alike [] (other ∷ others) (suc gap) end long same zero = same zero
put_alike [] (other ∷ others) (suc gap) end long same (suc place) = let rest : 0 + gap ≡ length others = omega (arith, long) in put_alike [] others gap end rest (λ k. same (suc k)) place
put_alike (mine ∷ ends) [] gap end long same place = absurd (omega (arith, long))
put_alike (mine ∷ ends) (other ∷ others) gap end long same zero = same zero
put_alike (mine ∷ ends) (other ∷ others) gap end long same (suc place) = let rest : length ends + gap ≡ length others = omega (arith, long) in put_alike ends others gap end rest (λ k. same (suc k)) place

-- one that leads nowhere at the end of a list adds nothing
none_more : (others : List (Option AtomKey)) (place : ℕ) → end_in others place ≡ end_in (others ++ None ∷ []) place
none_more [] zero = refl
none_more [] (suc place) = refl
none_more (other ∷ others) zero = refl
none_more (other ∷ others) (suc place) = none_more others place

ended_alike : (ends others : List (Option AtomKey)) (at : ℕ) (end : Option AtomKey) → length ends ≤ at → length others ≡ at → ((place : ℕ) → end_in ends place ≡ end_in others place) → (place : ℕ) → end_in (ended ends at end) place ≡ end_in (others ++ end ∷ []) place
ended_alike ends others at None low long same place = same place ∙ none_more others place
ended_alike ends others at (Some atom) low long same place = let whole : length ends + (at - length ends) ≡ length others = omega (arith, low, long) in put_alike ends others (at - length ends) (Some atom) whole same place

ended_low : (ends : List (Option AtomKey)) (at : ℕ) (end : Option AtomKey) → length ends ≤ at → length (ended ends at end) ≤ at + 1
ended_low ends at None low = omega (arith, low)
ended_low ends at (Some atom) low =
    let long : length (ends ++ replicate (at - length ends) None ++ Some atom ∷ []) ≡ length ends + (at - length ends) + 1 =
    length-append (ends ++ replicate (at - length ends) None) (Some atom ∷ [])
    ∙ ap (λ (n : ℕ). n + 1) (length-append ends (replicate (at - length ends) None) ∙ ap (λ (n : ℕ). length ends + n) (length-replicate (at - length ends) None)) in
    rw long (omega (arith, low))

-- the ends of the goals of a pool before a place
pub record AreEndsTo (roots : List AtomKey) (pool : List Goal) (at : ℕ) (ends : List (Option AtomKey)) : Type 0 where
  pub low : length ends ≤ at
  pub each : (place : ℕ) → end_in ends place ≡ end_in (map (goal_away roots) (take at pool)) place

pub ends_start : (roots : List AtomKey) (pool : List Goal) → AreEndsTo roots pool 0 []
ends_start roots pool = record { low = omega arith; each = λ place. refl }

pub ends_more : (roots : List AtomKey) (pool : List Goal) (at : ℕ) (other : Goal) (end : Option AtomKey) (ends new : List (Option AtomKey)) → AreEndsTo roots pool at ends → at < length pool → end ≡ goal_away roots (get_or pool at other) → new ≡ ended ends at end → AreEndsTo roots pool (at + 1) new
ends_more roots pool at other end ends new are within is put = record {
  low = rw put (ended_low ends at end are.low);
  each = λ place.
      ap (λ (es : List (Option AtomKey)). end_in es place) put
      ∙ ended_alike ends (map (goal_away roots) (take at pool)) at end are.low long are.each place
      ∙ ap (λ (es : List (Option AtomKey)). end_in es place) (sym taken);
}
  where
    long : length (map (goal_away roots) (take at pool)) ≡ at
    long = let low : at ≤ length pool = omega (arith, within) in length-map (take at pool) (goal_away roots) ∙ length-take-le at pool low

    taken : map (goal_away roots) (take (at + 1) pool) ≡ map (goal_away roots) (take at pool) ++ end ∷ []
    taken =
        ap (map (goal_away roots)) (take_more pool at other within)
        ∙ map-append (goal_away roots) (take at pool) (get_or pool at other ∷ [])
        ∙ ap (λ (o : Option AtomKey). map (goal_away roots) (take at pool) ++ o ∷ []) (sym is)

pub ends_all : (roots : List AtomKey) (pool : List Goal) (at : ℕ) (ends : List (Option AtomKey)) → AreEndsTo roots pool at ends → length pool ≤ at → AreAway roots pool ends
ends_all roots pool at ends are past = record { each = λ place. are.each place ∙ ap (λ (goals : List Goal). end_in (map (goal_away roots) goals) place) (take_all at pool past) }

pub ruleset aways = (ends_start, ends_more, ends_all)

-- one that leads somewhere is put at its place
pub put_end : (before all new : List (Option AtomKey)) (at count : ℕ) (atom : AtomKey) → length before ≤ at → count ≡ length before → all ≡ take at before ++ replicate (at - count) None → new ≡ all ++ Some atom ∷ [] → new ≡ before ++ replicate (at - length before) None ++ Some atom ∷ []
put_end before all new at count atom low is resized pushed =
    pushed
    ∙ ap (λ (es : List (Option AtomKey)). es ++ Some atom ∷ [])
    (resized ∙ ap (λ (es : List (Option AtomKey)). es ++ replicate (at - count) None) (take_all at before low) ∙ ap (λ (n : ℕ). before ++ replicate (at - n) None) is)

pub ruleset puts = (put_end)

pub none_in : (pool ends : List (Option AtomKey)) (places : List ℕ) (empty : Bool) → empty ≡ (length pool == 0) → empty ≡ true → ends ≡ ends_in pool places → AreNone ends
unfolding ends_in
none_in pool ends places empty same told is =
    let none : length pool ≡ 0 = eqb-true (length pool) 0 (sym same ∙ told) in
    let nothing : pool ≡ [] = nil_from_length pool none in
    record { each = λ index. ap (λ (es : List (Option AtomKey)). option_and_then (λ (end : Option AtomKey). end) (slice_get es index)) (is ∙ ap (λ (os : List (Option AtomKey)). map (end_in os) places) nothing) ∙ by places index }
  where
    by : (there : List ℕ) (k : ℕ) → option_and_then (λ (end : Option AtomKey). end) (slice_get (map (end_in []) there) k) ≡ None
    by [] k = refl
    by (place ∷ there) zero = refl
    by (place ∷ there) (suc k) = by there k

-- references to symbols that lead nowhere give no edges
no_target : (literals : List Representative) (roots : List AtomKey) (ends : List (Option AtomKey)) (target : Target) → AreNone ends → is_local target ≡ false → target_away literals roots ends target ≡ None
no_target literals roots ends (Name index) none named = none.each index
no_target literals roots ends (Local atom offset) none named = absurd (false≢true (sym named))

no_optional : (literals : List Representative) (roots : List AtomKey) (ends : List (Option AtomKey)) (target : Option Target) → AreNone ends → option_map_or is_local target false ≡ false → option_and_then (target_away literals roots ends) target ≡ None
no_optional literals roots ends None none named = refl
no_optional literals roots ends (Some target) none named = no_target literals roots ends target none named

no_ref_away : (literals : List Representative) (roots : List AtomKey) (ends : List (Option AtomKey)) (ref : Ref) → AreNone ends → has_local ref ≡ false → ref_away literals roots ends ref ≡ []
unfolding ref_away
no_ref_away literals roots ends ref none named =
    let parts : (is_local ref.target ≡ false) × (option_map_or is_local ref.minus false ≡ false) = or_parts (is_local ref.target) (option_map_or is_local ref.minus false) named in
    ap (λ (o : Option AtomKey). edge_from ref.atom o ++ edge_from ref.atom (option_and_then (target_away literals roots ends) ref.minus)) (no_target literals roots ends ref.target none parts.0)
    ∙ ap (edge_from ref.atom) (no_optional literals roots ends ref.minus none parts.1)

pub no_refs_away : (literals : List Representative) (roots : List AtomKey) (ends : List (Option AtomKey)) (refs : List Ref) → AreNone ends → list_any has_local refs ≡ false → flat_map (ref_away literals roots ends) refs ≡ []
no_refs_away literals roots ends [] none named = refl
no_refs_away literals roots ends (ref ∷ refs) none named =
    let parts : (has_local ref ≡ false) × (list_any has_local refs ≡ false) = or_parts (has_local ref) (list_any has_local refs) named in
    ap (λ (es : List Edge). es ++ flat_map (ref_away literals roots ends) refs) (no_ref_away literals roots ends ref none parts.0)
    ∙ no_refs_away literals roots ends refs none parts.1

ends_alike : (ends others : List (Option AtomKey)) (places : List ℕ) → ((place : ℕ) → end_in ends place ≡ end_in others place) → ends_in ends places ≡ ends_in others places
unfolding ends_in
ends_alike ends others [] same = refl
ends_alike ends others (place ∷ places) same = ap₂ (λ (one : Option AtomKey) (more : List (Option AtomKey)). one ∷ more) (same place) (ends_alike ends others places same)

-- with the edges that lead away of a file, whose symbols' goals stand in a pool
pub edges_here : {V : Type 0} (items : V → List Edge) (result : Result V OutOfMemory) (literals : List Representative) (roots : List AtomKey) (pool : List Goal) (places read : List ℕ) (ends those : List (Option AtomKey)) (file : LoadedFile) (before : List Edge) → AreAway roots pool ends → AreWithin pool places → read ≡ places → those ≡ ends_in ends read
    → IfOk result (λ new. items new ≡ before ++ file_away literals roots those file) → IfOk result (λ new. items new ≡ before ++ filter (leads_away roots) (file_edges literals (goals_in pool places) file))
edges_here items (Ok new) literals roots pool places read ends those file before are within same of more =
    more ∙ ap (λ (es : List Edge). before ++ es)
    (file_filtered literals roots (goals_in pool places) those file
    (of ∙ ap (ends_in ends) same ∙ ends_alike ends (map (goal_away roots) pool) places are.each ∙ ends_told (goal_away roots) pool places within))
edges_here items (Err fault) literals roots pool places read ends those file before are within same of more = tt

-- the goals of the file at a place, where there is one
goals_there : (table : Tabled) (at : ℕ) (found : Option (List ℕ)) → found ≡ slice_get table.places at → slice_get (goals_of table) at ≡ option_map (goals_in table.pool) found
unfolding goals_of
goals_there table at found is = slice_get-map (goals_in table.pool) table.places at ∙ ap (option_map (goals_in table.pool)) (sym is)

pub edges_there : (literals : List Representative) (table : Tabled) (at : ℕ) (file : LoadedFile) (pool : List Goal) (places : List ℕ) → pool ≡ table.pool → Some places ≡ slice_get table.places at → edges_at literals (goals_of table) (at, file) ≡ file_edges literals (goals_in pool places) file
edges_there literals table at file pool places same is =
    ap (λ (o : Option (List Goal)). option_map_or (λ gs. file_edges literals gs file) o []) (goals_there table at (Some places) is)
    ∙ ap (λ (p : List Goal). file_edges literals (goals_in p places) file) (sym same)

pub no_edges_there : (literals : List Representative) (table : Tabled) (at : ℕ) (file : LoadedFile) → None ≡ slice_get table.places at → edges_at literals (goals_of table) (at, file) ≡ []
no_edges_there literals table at file is = ap (λ (o : Option (List Goal)). option_map_or (λ gs. file_edges literals gs file) o []) (goals_there table at None is)

pub supports_there : (literals : List Representative) (table : Tabled) (at : ℕ) (file : LoadedFile) (pool : List Goal) (places : List ℕ) → pool ≡ table.pool → Some places ≡ slice_get table.places at → supports_at literals (goals_of table) (at, file) ≡ file_supports literals (goals_in pool places) file
supports_there literals table at file pool places same is =
    ap (λ (o : Option (List Goal)). option_map_or (λ gs. file_supports literals gs file) o []) (goals_there table at (Some places) is)
    ∙ ap (λ (p : List Goal). file_supports literals (goals_in p places) file) (sym same)

pub no_supports_there : (literals : List Representative) (table : Tabled) (at : ℕ) (file : LoadedFile) → None ≡ slice_get table.places at → supports_at literals (goals_of table) (at, file) ≡ []
no_supports_there literals table at file is = ap (λ (o : Option (List Goal)). option_map_or (λ gs. file_supports literals gs file) o []) (goals_there table at None is)

-- ---- supports

-- all edges of a reference begin in its atom
begins : (roots : List AtomKey) (from : AtomKey) (to : Option AtomKey) (b : Bool) → has roots from ≡ b → filter (begins_away roots) (edge_from from to) ≡ (if b then [] else edge_from from to)
begins roots from None true e = refl
begins roots from None false e = refl
begins roots from (Some atom) true e = rw e refl
begins roots from (Some atom) false e = rw e refl

both_begin : (roots : List AtomKey) (from : AtomKey) (a b : Option AtomKey) (there : Bool) → has roots from ≡ there → filter (begins_away roots) (edge_from from a ++ edge_from from b) ≡ (if there then [] else edge_from from a ++ edge_from from b)
both_begin roots from a b there e =
    filter-append (begins_away roots) (edge_from from a) (edge_from from b)
    ∙ ap (λ (es : List Edge). es ++ filter (begins_away roots) (edge_from from b)) (begins roots from a there e)
    ∙ ap (λ (es : List Edge). (if there then [] else edge_from from a) ++ es) (begins roots from b there e)
    ∙ joined there
  where
    joined : (t : Bool) → (if t then [] else edge_from from a) ++ (if t then [] else edge_from from b) ≡ (if t then [] else edge_from from a ++ edge_from from b)
    joined true = refl
    joined false = refl

ref_begins : (literals : List Representative) (roots : List AtomKey) (goals : List Goal) (ref : Ref) (there : Bool) → has roots ref.atom ≡ there → filter (begins_away roots) (ref_edges literals goals ref) ≡ (if there then [] else ref_edges literals goals ref)
unfolding ref_edges
ref_begins literals roots goals ref there e = both_begin roots ref.atom (target_atom literals goals ref.target) (option_and_then (target_atom literals goals) ref.minus) there e

-- a reference of an atom that supports what is live and isn't one of some
pub some_supports : (literals : List Representative) (roots : List AtomKey) (goals : List Goal) (object : Object) (ref : Ref) (before new : List Edge) → supports_live object ref.atom ≡ true → has roots ref.atom ≡ false → new ≡ before ++ ref_edges literals goals ref → new ≡ before ++ filter (begins_away roots) (ref_supports literals goals object ref)
unfolding ref_supports
some_supports literals roots goals object ref before new live free more = rw live (more ∙ ap (λ (es : List Edge). before ++ es) (sym (ref_begins literals roots goals ref false free)))

pub root_supports : (literals : List Representative) (roots : List AtomKey) (goals : List Goal) (object : Object) (ref : Ref) (before : List Edge) → supports_live object ref.atom ≡ true → has roots ref.atom ≡ true → before ≡ before ++ filter (begins_away roots) (ref_supports literals goals object ref)
unfolding ref_supports
root_supports literals roots goals object ref before live root = rw live (sym (append-nil before) ∙ ap (λ (es : List Edge). before ++ es) (sym (ref_begins literals roots goals ref true root)))

pub dead_supports : (literals : List Representative) (roots : List AtomKey) (goals : List Goal) (object : Object) (ref : Ref) (before : List Edge) → supports_live object ref.atom ≡ false → before ≡ before ++ filter (begins_away roots) (ref_supports literals goals object ref)
unfolding ref_supports
dead_supports literals roots goals object ref before dead = rw dead (sym (append-nil before))

none_live : (sections : List Section) (number : ℕ) → list_any is_live_support sections ≡ false → option_map_or is_live_support (section_numbered sections number) false ≡ false
none_live sections number none = by (section_numbered sections number) (from number)
  where
    away_at : (at : ℕ) (section : Section) → slice_get sections at ≡ Some section → is_live_support section ≡ false
    away_at at section there = elim (cases_Bool (is_live_support section)) [
      | inl here ↦ absurd (false≢true (sym none ∙ any_from_in is_live_support sections section (in_from_Contains sections section (at, slice_get_within sections at section there, get_or_from_slice_get sections at section section there)) here))
      | inr e ↦ e
    ]

    no_section : (section : Section) → None ≡ Some section → is_live_support section ≡ false
    no_section section e = cc

    from_test : (n : ℕ) (section : Section) (b : Bool) → (n == 0) ≡ b → section_numbered sections n ≡ Some section → is_live_support section ≡ false
    from_test n section true is e = no_section section (rw is at e)
    from_test n section false is e = away_at (n - 1) section (rw is at e)

    from : (n : ℕ) (section : Section) → section_numbered sections n ≡ Some section → is_live_support section ≡ false
    from n section e = from_test n section (n == 0) refl e

    by : (found : Option Section) → ((section : Section) → found ≡ Some section → is_live_support section ≡ false) → option_map_or is_live_support found false ≡ false
    by None each = refl
    by (Some section) each = each section refl

no_support : (literals : List Representative) (goals : List Goal) (object : Object) (ref : Ref) → list_any is_live_support object.sections ≡ false → ref_supports literals goals object ref ≡ []
unfolding ref_supports supports_live
no_support literals goals object ref none = rw (none_live object.sections ref.atom.section none) refl

-- a file without a section that supports what is live
pub no_supports : (literals : List Representative) (roots : List AtomKey) (goals : List Goal) (file : LoadedFile) (before : List Edge) → list_any is_live_support file.object.sections ≡ false → before ≡ before ++ filter (begins_away roots) (file_supports literals goals file)
unfolding file_supports
no_supports literals roots goals file before none =
    sym (append-nil before)
    ∙ ap (λ (es : List Edge). before ++ filter (begins_away roots) es) (sym (flat_none (ref_supports literals goals file.object) (λ ref. no_support literals goals file.object ref none) file.refs))

pub supports_here : (literals : List Representative) (roots : List AtomKey) (goals : List Goal) (file : LoadedFile) (before new : List Edge) → new ≡ before ++ flat_map (λ ref. filter (begins_away roots) (ref_supports literals goals file.object ref)) file.refs → new ≡ before ++ filter (begins_away roots) (file_supports literals goals file)
unfolding file_supports
supports_here literals roots goals file before new more = more ∙ ap (λ (es : List Edge). before ++ es) (filter_flat (begins_away roots) (ref_supports literals goals file.object) file.refs)

pub ruleset supports = (some_supports, root_supports, dead_supports)
