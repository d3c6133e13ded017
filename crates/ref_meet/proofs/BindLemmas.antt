-- What kept references and slots are bound to, one after the other, and how many there are at most.
use Rattle.std.proofs.Common.{◌≡◌, ℕ, suc, ◌+◌, ◌<◌, ◌≤◌, ◌^◌, Bool, true, false, cond, List, [], ◌∷◌, ◌++◌, length, map, take, get_or, Option, Some, None, pos, refl, sym, ap, ◌∙◌, subst, arith, append_assoc, length-append}
use Rattle.std.specs.Prelude.{slice_get, sum_by}
use Rattle.std.specs.List.{cons_option, enumerate_from, filter, filter_map, flat_map}
use Rattle.std.proofs.lemmas.List.{append-nil, length-map, map-append, take_all, take_more}
use Rattle.std.proofs.lemmas.List.Elements.{filter-append, filter_map-append}
use Rattle.std.proofs.lemmas.List.FromFn.{get_or-enumerate_from, length-enumerate_from}
use Rattle.fixup_chain.specs.declared.chains.Fixup.{Fixup}
use Rattle.mark_core.specs.Kept.{has}
use Rattle.mo_types.specs.declared.goal.Goal.{Goal}
use Rattle.mo_types.specs.declared.key.AtomKey.{AtomKey}
use Rattle.mo_types.specs.declared.loaded.LoadedFile.{LoadedFile}
use Rattle.mo_types.specs.declared.reference.Ref.{Ref}
use Rattle.ref_meet.specs.Binds.{bind_of, binds, binds_at, slot_bind, unplaced}
use Rattle.ref_meet.specs.declared.binds.Bound.{Bound}
use Rattle.ref_meet.specs.inner.Bound.{binds_among, goals_by}
use Rattle.std.specs.Option.{option_to_list}
use Rattle.std.proofs.lemmas.List.Sums.{sum_by-cons, sum_by_more}
use Rattle.fixup_chain.specs.Chained.{AreMany}
use Rattle.fixup_chain.specs.Imports.{bound, is_bound}
use Rattle.fixup_chain.proofs.ManyLemmas.{few_bound}
use Rattle.literal_merge.specs.declared.representative.Representative.{Representative}
use Rattle.liveness.specs.Undefined.{kept_refs}
use Rattle.liveness.proofs.GrowLemmas.{IsGrowing, grow_end, grow_item}
use Rattle.ref_meet.specs.Scene.{goals_at}
use Rattle.slot_plan.specs.declared.list.Slots.{Slots}

-- ---- slots

pub slots_more : (goals : List Goal) (at : ℕ) (goal copied : Goal) (placed : Fixup) (before now new : List Fixup) → now ≡ before ++ map slot_bind (take at goals) → at < length goals → goal ≡ get_or goals at goal
    → copied ≡ goal → placed ≡ slot_bind copied → new ≡ now ++ placed ∷ [] → new ≡ before ++ map slot_bind (take (at + 1) goals)
slots_more goals at goal copied placed before now new so low is same made more =
    let next : take (at + 1) goals ≡ take at goals ++ goal ∷ [] = take_more goals at goal low ∙ ap (λ (g : Goal). take at goals ++ g ∷ []) (sym is) in
    more ∙ ap (λ (xs : List Fixup). xs ++ placed ∷ []) so
    ∙ append_assoc before (map slot_bind (take at goals)) (placed ∷ [])
    ∙ ap (λ (x : Fixup). before ++ (map slot_bind (take at goals) ++ x ∷ [])) (made ∙ ap slot_bind same)
    ∙ ap (λ (xs : List Fixup). before ++ xs) (sym (ap (map slot_bind) next ∙ map-append slot_bind (take at goals) (goal ∷ [])))

pub slots_end : (goals : List Goal) (at : ℕ) (before now : List Fixup) → now ≡ before ++ map slot_bind (take at goals) → length goals ≤ at → now ≡ before ++ map slot_bind goals
slots_end goals at before now so past = so ∙ ap (λ (gs : List Goal). before ++ map slot_bind gs) (take_all at goals past)

pub slot_bind_is : (goal : Goal) (placed : Fixup) → placed ≡ unplaced goal (pos 0) → placed ≡ slot_bind goal
unfolding slot_bind
slot_bind_is goal placed is = is

-- ---- a reference

-- what a reference of a file is bound to
abbrev pub bind_in : Bound → Ref → Option Fixup
bind_in b r = bind_of b.files.now b.symbols.now.literals (goals_by b.goals) b.file.now r

pub one_unkept : (b : Bound) (r : Ref) (before : List Fixup) → has b.keys.now r.atom ≡ false → before ≡ before ++ binds_among b (r ∷ [])
unfolding binds_among
one_unkept b r before out = rw out (sym (append-nil before))

pub one_none : (b : Bound) (r : Ref) (before : List Fixup) → has b.keys.now r.atom ≡ true → bind_in b r ≡ None → before ≡ before ++ binds_among b (r ∷ [])
unfolding binds_among
one_none b r before kept none = rw (kept, none) (sym (append-nil before))

pub one_some : (b : Bound) (r : Ref) (before new : List Fixup) (fixup : Fixup) → has b.keys.now r.atom ≡ true → bind_in b r ≡ Some fixup → new ≡ before ++ fixup ∷ [] → new ≡ before ++ binds_among b (r ∷ [])
unfolding binds_among
one_some b r before new fixup kept some more = rw (kept, some) more

pub ruleset one = (one_unkept, one_none, one_some)

-- ---- the references of a file

among-append : (b : Bound) (rs qs : List Ref) → binds_among b (rs ++ qs) ≡ binds_among b rs ++ binds_among b qs
unfolding binds_among
among-append b rs qs =
    ap (filter_map (bind_in b)) (filter-append (λ (r : Ref). has b.keys.now r.atom) rs qs)
    ∙ filter_map-append (bind_in b) (filter (λ (r : Ref). has b.keys.now r.atom) rs) (filter (λ (r : Ref). has b.keys.now r.atom) qs)

-- what one reference after the other is bound to
abbrev pub each_bind : Bound → Ref → List Fixup
each_bind b r = binds_among b (r ∷ [])

all_among : (b : Bound) (refs : List Ref) → flat_map (each_bind b) refs ≡ binds_among b refs
unfolding binds_among
all_among b [] = refl
all_among b (r ∷ rs) = ap (λ (xs : List Fixup). binds_among b (r ∷ []) ++ xs) (all_among b rs) ∙ sym (among-append b (r ∷ []) rs)

pub refs_end : (b : Bound) (refs : List Ref) (at : ℕ) (before now : List Fixup) → IsGrowing (each_bind b) before now refs at → length refs ≤ at → now ≡ before ++ binds_among b refs
refs_end b refs at before now grows past =
    grows.same ∙ ap (λ (xs : List Fixup). before ++ xs) (ap (flat_map (each_bind b)) (take_all at refs past) ∙ all_among b refs)

pub one_more : (b : Bound) (refs : List Ref) (at : ℕ) (r : Ref) (before new : List Fixup) → slice_get refs at ≡ Some r → new ≡ before ++ binds_among b (r ∷ []) → new ≡ before ++ flat_map (each_bind b) (option_to_list (slice_get refs at))
one_more b refs at r before new is more = more ∙ ap (λ (xs : List Fixup). before ++ xs) (sym (append-nil (binds_among b (r ∷ []))) ∙ ap (λ (o : Option Ref). flat_map (each_bind b) (option_to_list o)) (sym is))

pub none_more : (b : Bound) (refs : List Ref) (at : ℕ) (before : List Fixup) → slice_get refs at ≡ None → before ≡ before ++ flat_map (each_bind b) (option_to_list (slice_get refs at))
none_more b refs at before none = sym (append-nil before) ∙ ap (λ (o : Option Ref). before ++ flat_map (each_bind b) (option_to_list o)) (sym none)

-- ---- the file at a place

pub file_binds : (b : Bound) (literals : List Representative) (keys : List AtomKey) (goals : List (List Goal)) (files : List LoadedFile) (at : ℕ) (file : LoadedFile)
    → b.files.now ≡ files → b.symbols.now.literals ≡ literals → b.keys.now ≡ keys → b.file.now ≡ file → goals_by b.goals ≡ goals_at goals at → (before new : List Fixup) → new ≡ before ++ binds_among b file.refs → new ≡ before ++ binds_at files literals keys goals (at, file)
unfolding binds_among binds_at kept_refs
file_binds b literals keys goals files at file f l k x g before new is = is ∙ ap (λ (xs : List Fixup). before ++ xs) (rw (f, l, k, x, g) refl)

-- ---- all files

pub files_more : (f : ℕ × LoadedFile → List Fixup) (files : List LoadedFile) (at : ℕ) (file : LoadedFile) (before now new : List Fixup) → IsGrowing f before now (enumerate_from 0 files) at → at < length files → get_or files at file ≡ file → new ≡ now ++ f (at, file) → IsGrowing f before new (enumerate_from 0 files) (at + 1)
files_more f files at file before now new grows low is more = grow_item f before now new (enumerate_from 0 files) at (at, file) (at, file) grows within (sym there) more
  where
    within : at < length (enumerate_from 0 files)
    within = subst (λ n. at < n) (sym (length-enumerate_from 0 files)) low

    there : get_or (enumerate_from 0 files) at (at, file) ≡ (at, file)
    there =
        let same : 0 + at ≡ at = omega arith in
        get_or-enumerate_from 0 files at (at, file) low ∙ ap {B = ℕ × LoadedFile} (λ k. (k, get_or files at file)) same ∙ ap {B = ℕ × LoadedFile} (λ x. (at, x)) is

pub files_end : (f : ℕ × LoadedFile → List Fixup) (files : List LoadedFile) (at : ℕ) (before now : List Fixup) → IsGrowing f before now (enumerate_from 0 files) at → length files ≤ at → now ≡ before ++ flat_map f (enumerate_from 0 files)
files_end f files at before now grows past = grow_end f before now (enumerate_from 0 files) at grows (subst (λ n. n ≤ at) (sym (length-enumerate_from 0 files)) past)

-- ---- counts

-- no fewer than slots and the references of the files before a place, unless there are very many
pub record IsMost (slots : ℕ) (files : List LoadedFile) (at most : ℕ) : Type 0 where
  pub enough : most < 2 ^ 24 → slots + sum_by (λ (file : LoadedFile). length file.refs) (take at files) ≤ most

pub most_starts : (slots : ℕ) (files : List LoadedFile) → IsMost slots files 0 slots
most_starts slots files = record { enough = λ few. omega arith }

pub most_goes_on : (slots : ℕ) (files : List LoadedFile) (at most next : ℕ) (file : LoadedFile) → IsMost slots files at most → at < length files → file ≡ get_or files at file → (next ≡ most + length file.refs) → IsMost slots files (at + 1) next
most_goes_on slots files at most next file so low is more = record {
  enough = λ few. (
      let sum = sum_by_more (λ (f : LoadedFile). length f.refs) files at file low in
      let last : length (get_or files at file).refs ≡ length file.refs = ap (λ (f : LoadedFile). length f.refs) (sym is) in
      let before = so.enough (omega arith) in
      omega (arith, sum, last, before, more)
      );
}

pub most_ends : (slots : ℕ) (files : List LoadedFile) (at most : ℕ) → IsMost slots files at most → length files ≤ at → most < 2 ^ 24 → slots + sum_by (λ (file : LoadedFile). length file.refs) files ≤ most
most_ends slots files at most so past few = subst (λ (fs : List LoadedFile). slots + sum_by (λ (file : LoadedFile). length file.refs) fs ≤ most) (take_all at files past) (so.enough few)

pub ruleset counts = (most_starts, most_ends)

-- ---- how many pointers there are at most

found_more : {Y : Type 0} (o : Option Y) (ys : List Y) (count : ℕ) → length ys ≤ count → length (cons_option o ys) ≤ suc count
found_more None ys count few = omega (arith, few)
found_more (Some y) ys count few = omega (arith, few)

found_within : {X Y : Type 0} (f : X → Option Y) (xs : List X) → length (filter_map f xs) ≤ length xs
found_within f [] = omega arith
found_within f (x ∷ xs) = found_more (f x) (filter_map f xs) (length xs) (found_within f xs)

passed_more : {X : Type 0} (b : Bool) (x : X) (ys : List X) (count : ℕ) → length ys ≤ count → length (cond b (x ∷ ys) ys) ≤ suc count
passed_more true x ys count few = omega (arith, few)
passed_more false x ys count few = omega (arith, few)

passed_within : {X : Type 0} (p : X → Bool) (xs : List X) → length (filter p xs) ≤ length xs
passed_within p [] = omega arith
passed_within p (x ∷ xs) = passed_more (p x) x (filter p xs) (length xs) (passed_within p xs)

at_within : (files : List LoadedFile) (literals : List Representative) (keys : List AtomKey) (goals : List (List Goal)) (p : ℕ × LoadedFile) → length (binds_at files literals keys goals p) ≤ length p.1.refs
unfolding binds_at kept_refs
at_within files literals keys goals p =
    let found = found_within (bind_of files literals (goals_at goals p.0) p.1) (filter (λ (r : Ref). has keys r.atom) p.1.refs) in
    let passed = passed_within (λ (r : Ref). has keys r.atom) p.1.refs in
    omega (arith, found, passed)

files_within : (all : List LoadedFile) (literals : List Representative) (keys : List AtomKey) (goals : List (List Goal)) (n : ℕ) (files : List LoadedFile) → length (flat_map (binds_at all literals keys goals) (enumerate_from n files)) ≤ sum_by (λ (file : LoadedFile). length file.refs) files
files_within all literals keys goals n [] = omega arith
files_within all literals keys goals n (file ∷ files) =
    let here = at_within all literals keys goals (n, file) in
    let rest = files_within all literals keys goals (n + 1) files in
    let both = length-append (binds_at all literals keys goals (n, file)) (flat_map (binds_at all literals keys goals) (enumerate_from (n + 1) files)) in
    let sum = sum_by-cons (λ (f : LoadedFile). length f.refs) file files in
    omega (arith, here, rest, both, sum)

binds_within : (files : List LoadedFile) (literals : List Representative) (keys : List AtomKey) (goals : List (List Goal)) (slots : Slots) → length (binds files literals keys goals slots) ≤ (length slots.got + length slots.tlv) + sum_by (λ (file : LoadedFile). length file.refs) files
unfolding binds
binds_within files literals keys goals slots =
    let all = length-append (map slot_bind (slots.got ++ slots.tlv)) (flat_map (binds_at files literals keys goals) (enumerate_from 0 files)) in
    let own : length (map slot_bind (slots.got ++ slots.tlv)) ≡ length (slots.got ++ slots.tlv) = length-map (slots.got ++ slots.tlv) slot_bind in
    let both = length-append slots.got slots.tlv in
    let rest = files_within files literals keys goals 0 files in
    omega (arith, all, own, both, rest)

-- so few references and slots are bound to few imports
pub few_binds : (files : List LoadedFile) (literals : List Representative) (keys : List AtomKey) (goals : List (List Goal)) (slots : Slots) (count : ℕ) → (length slots.got + length slots.tlv) + sum_by (λ (file : LoadedFile). length file.refs) files ≤ count → count < 2 ^ 24 → AreMany (binds files literals keys goals slots) → ⊥
unfolding bound
few_binds files literals keys goals slots count most few many =
    let enough = few_bound (binds files literals keys goals slots) many in
    let passed = passed_within (λ (fixup : Fixup). is_bound fixup.goal) (binds files literals keys goals slots) in
    let all = binds_within files literals keys goals slots in
    omega (arith, enough, passed, all, most, few)

-- those of slots and of files are all
pub binds_are : (files : List LoadedFile) (literals : List Representative) (keys : List AtomKey) (goals : List (List Goal)) (slots : Slots) (a b c d : List Fixup) → a ≡ [] → b ≡ a ++ map slot_bind slots.got → c ≡ b ++ map slot_bind slots.tlv → d ≡ c ++ flat_map (binds_at files literals keys goals) (enumerate_from 0 files) → d ≡ binds files literals keys goals slots
unfolding binds
binds_are files literals keys goals slots a b c d is_a is_b is_c is_d =
    is_d ∙ ap (λ (xs : List Fixup). xs ++ flat_map (binds_at files literals keys goals) (enumerate_from 0 files))
    (is_c ∙ ap (λ (xs : List Fixup). xs ++ map slot_bind slots.tlv) (is_b ∙ ap (λ (xs : List Fixup). xs ++ map slot_bind slots.got) is_a) ∙ sym (map-append slot_bind slots.got slots.tlv))
