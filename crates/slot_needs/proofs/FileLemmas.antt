-- What files need, reference by reference and file by file.
use Rattle.std.proofs.Common.{◌≡◌, ℕ, ◌+◌, ◌<◌, ◌≤◌, inl, inr, List, [], ◌∷◌, ◌++◌, length, take, get_or, Option, Some, None, sym, ap, ◌∙◌, subst, arith}
use Rattle.std.specs.Prelude.{slice_get}
use Rattle.std.specs.List.{enumerate_from, filter, filter_map, flat_map}
use Rattle.std.specs.Option.{option_to_list}
use Rattle.std.proofs.lemmas.Grind.{flat_map-append}
use Rattle.std.proofs.lemmas.List.{append-nil, take_all, take_more}
use Rattle.std.proofs.lemmas.List.Elements.{filter-append, filter_map-append}
use Rattle.std.proofs.lemmas.List.FromFn.{get_or-enumerate_from, length-enumerate_from}
use Rattle.list_lemmas.proofs.Members.{in_from_Contains}
use Rattle.literal_merge.specs.declared.representative.Representative.{Representative}
use Rattle.mark_core.specs.Kept.{has as keeps}
use Rattle.mo_types.specs.declared.goal.Goal.{Goal}
use Rattle.mo_types.specs.declared.key.AtomKey.{AtomKey}
use Rattle.mo_types.specs.declared.loaded.LoadedFile.{LoadedFile}
use Rattle.mo_types.specs.declared.reference.Ref.{Ref}
use Rattle.liveness.specs.Undefined.{kept_refs}
use Rattle.liveness.proofs.GrowLemmas.{more_taken}
use Rattle.slot_plan.specs.declared.need.Need.{Need}
use Rattle.slot_needs.specs.Needs.{AreSame, entry_needs, need_of, needs, needs_at, needs_in}
use Rattle.slot_needs.specs.inner.Gathered.{Adds, needs_among}
use Rattle.slot_needs.proofs.WalkLemmas.{adds_none, adds_then}

-- ---- the references of a file

among-append : (literals : List Representative) (keys : List AtomKey) (goals : List Goal) (rs qs : List Ref) → needs_among literals keys goals (rs ++ qs) ≡ needs_among literals keys goals rs ++ needs_among literals keys goals qs
among-append literals keys goals rs qs =
    ap (filter_map (need_of literals goals)) (filter-append (λ (r : Ref). keeps keys r.atom) rs qs)
    ∙ filter_map-append (need_of literals goals) (filter (λ r. keeps keys r.atom) rs) (filter (λ r. keeps keys r.atom) qs)

pub file_starts : (literals : List Representative) (keys : List AtomKey) (goals : List Goal) (refs : List Ref) (before : List Need) → Adds before (needs_among literals keys goals (take 0 refs)) before
file_starts literals keys goals refs before = adds_none before

pub file_goes_on : (literals : List Representative) (keys : List AtomKey) (goals : List Goal) (refs : List Ref) (at : ℕ) (before now next : List Need) → Adds before (needs_among literals keys goals (take at refs)) now → Adds now (needs_among literals keys goals (option_to_list (slice_get refs at))) next → Adds before (needs_among literals keys goals (take (at + 1) refs)) next
file_goes_on literals keys goals refs at before now next so one =
    subst (λ ns. Adds before ns next) (sym (ap (needs_among literals keys goals) (more_taken refs at) ∙ among-append literals keys goals (take at refs) (option_to_list (slice_get refs at))))
    (adds_then before (needs_among literals keys goals (take at refs)) now (needs_among literals keys goals (option_to_list (slice_get refs at))) next so one)

pub file_ends : (literals : List Representative) (keys : List AtomKey) (goals : List Goal) (file : LoadedFile) (at : ℕ) (before now : List Need) → Adds before (needs_among literals keys goals (take at file.refs)) now → length file.refs ≤ at → Adds before (needs_in literals keys goals file) now
unfolding kept_refs
file_ends literals keys goals file at before now so past = subst (λ rs. Adds before (needs_among literals keys goals rs) now) (take_all at file.refs past) so

-- ---- the file at a place

pub at_goals : (literals : List Representative) (keys : List AtomKey) (goals : List (List Goal)) (some : List Goal) (at : ℕ) (file : LoadedFile) (before after : List Need) → slice_get goals at ≡ Some some → Adds before (needs_in literals keys some file) after → Adds before (needs_at literals keys goals (at, file)) after
unfolding needs_at
at_goals literals keys goals some at file before after is adds = rw is adds

pub at_nothing : (literals : List Representative) (keys : List AtomKey) (goals : List (List Goal)) (at : ℕ) (file : LoadedFile) (before : List Need) → slice_get goals at ≡ None → Adds before (needs_at literals keys goals (at, file)) before
unfolding needs_at
at_nothing literals keys goals at file before is = rw is (adds_none before)

pub ruleset place = (at_goals, at_nothing)

-- ---- all files

-- what the first of them need
abbrev pub needs_to : List Representative → List AtomKey → List (List Goal) → List LoadedFile → ℕ → List Need
needs_to literals keys goals files at = flat_map (needs_at literals keys goals) (take at (enumerate_from 0 files))

pub files_start : (literals : List Representative) (keys : List AtomKey) (goals : List (List Goal)) (files : List LoadedFile) (before : List Need) → Adds before (needs_to literals keys goals files 0) before
files_start literals keys goals files before = adds_none before

pub files_go_on : (literals : List Representative) (keys : List AtomKey) (goals : List (List Goal)) (files : List LoadedFile) (at : ℕ) (file : LoadedFile) (before now next : List Need) → Adds before (needs_to literals keys goals files at) now → at < length files → get_or files at file ≡ file → Adds now (needs_at literals keys goals (at, file)) next → Adds before (needs_to literals keys goals files (at + 1)) next
files_go_on literals keys goals files at file before now next so low is one =
    subst (λ ns. Adds before ns next) (sym more)
    (adds_then before (needs_to literals keys goals files at) now (needs_at literals keys goals (at, file)) next so one)
  where
    within : at < length (enumerate_from 0 files)
    within = subst (λ n. at < n) (sym (length-enumerate_from 0 files)) low

    there : get_or (enumerate_from 0 files) at (at, file) ≡ (at, file)
    there =
        let same : 0 + at ≡ at = omega arith in
        get_or-enumerate_from 0 files at (at, file) low ∙ ap {B = ℕ × LoadedFile} (λ k. (k, get_or files at file)) same ∙ ap {B = ℕ × LoadedFile} (λ f. (at, f)) is

    more : needs_to literals keys goals files (at + 1) ≡ needs_to literals keys goals files at ++ needs_at literals keys goals (at, file)
    more =
        ap (flat_map (needs_at literals keys goals)) (take_more (enumerate_from 0 files) at (at, file) within)
        ∙ flat_map-append (needs_at literals keys goals) (take at (enumerate_from 0 files)) (get_or (enumerate_from 0 files) at (at, file) ∷ [])
        ∙ ap (λ ns. needs_to literals keys goals files at ++ ns) (append-nil (needs_at literals keys goals (get_or (enumerate_from 0 files) at (at, file))) ∙ ap (needs_at literals keys goals) there)

pub files_end : (literals : List Representative) (keys : List AtomKey) (goals : List (List Goal)) (files : List LoadedFile) (at : ℕ) (before now : List Need) → Adds before (needs_to literals keys goals files at) now → length files ≤ at → Adds before (flat_map (needs_at literals keys goals) (enumerate_from 0 files)) now
files_end literals keys goals files at before now so past =
    subst (λ ps. Adds before (flat_map (needs_at literals keys goals) ps) now) (take_all at (enumerate_from 0 files) (subst (λ n. n ≤ at) (sym (length-enumerate_from 0 files)) past)) so

-- ---- what is gathered from nothing

pub same : (literals : List Representative) (keys : List AtomKey) (goals : List (List Goal)) (files : List LoadedFile) (entry : Option Goal) (found all : List Need) → Adds [] (flat_map (needs_at literals keys goals) (enumerate_from 0 files)) found → Adds found (entry_needs entry) all → AreSame (needs literals keys goals files entry) all
unfolding needs
same literals keys goals files entry found all first last = by (adds_then [] (flat_map (needs_at literals keys goals) (enumerate_from 0 files)) found (entry_needs entry) all first last)
  where
    by : Adds [] (flat_map (needs_at literals keys goals) (enumerate_from 0 files) ++ entry_needs entry) all → AreSame (flat_map (needs_at literals keys goals) (enumerate_from 0 files) ++ entry_needs entry) all
    by adds = record {
      all = adds.all;
      only = λ n h. elim (adds.only n h) [
        | inl none ↦ absurd (in_from_Contains [] n none)
        | inr there ↦ there
      ];
    }

pub ruleset file = (file_starts, file_ends)

pub ruleset files = (files_start, files_end)

pub ruleset all = (same)
