-- What is bound has whole libraries: what each of them reaches is there.
use Rattle.std.proofs.Common.{◌≡◌, ℕ, zero, suc, ◌+◌, ◌<◌, ◌≤◌, Bool, true, false, List, [], ◌∷◌, length, get_or, slice_get, Some, Ok, inl, inr, nat_eq, refl, sym, ap, subst, arith}
use Rattle.std.specs.Cmp.{nat_cmp_total, nat_eq_equiv}
use Rattle.std.specs.List.{IsDistinct, list_any}
use Rattle.std.proofs.lemmas.Map.Keys.{IsDistinct-push}
use Rattle.std.proofs.lemmas.Map.Lookups.{exact_unsigned}
use Rattle.indexmap.specs.IndexSet.{insert_all, insert_key}
use Rattle.command_line.specs.declared.command.Command.{Command}
use Rattle.file_cache.specs.Program.{File}
use Rattle.sort_lemmas.proofs.Sorting.{rising_exists}
use Rattle.lib_bind.specs.Closure.{Bound, IsGraphOf, bound_after}
use Rattle.lib_bind.specs.Graph.{AreLibraries, AreLinks, AreReached, AreReaches, IsWhole, linked}
use Rattle.lib_bind.specs.Named.{are_named}
use Rattle.lib_bind.specs.declared.growing.Growing.{Growing}
use Rattle.lib_bind.specs.declared.library.Library.{Library}
use Rattle.lib_bind.specs.declared.library.LibraryGraph.{LibraryGraph}
use Rattle.lib_bind.specs.declared.named.NamedStub.{NamedStub}
use Rattle.lib_bind.specs.inner.Held.{IsHeld, total}
use Rattle.lib_bind.proofs.AnsweredLemmas.{held_libraries, held_links}
use Rattle.lib_bind.proofs.ChosenLemmas.{whole_chosen}
use Rattle.lib_bind.proofs.EndLemmas.{IsMade, bound_of, made_of}
use Rattle.lib_bind.proofs.LinkLemmas.{bound_going}
use Rattle.lib_bind.proofs.ReachLemmas.{IsSearching, few, lists, next, starts}
use Rattle.lib_bind.proofs.WholeLemmas.{within_or_past}

-- ---- the documents that one reaches

distinct_key : (ks : List ℕ) (k : ℕ) → IsDistinct nat_eq ks → IsDistinct nat_eq (insert_key nat_eq ks k)
distinct_key ks k once = by (list_any (nat_eq k) ks) refl
  where
    by : (b : Bool) → list_any (nat_eq k) ks ≡ b → IsDistinct nat_eq (insert_key nat_eq ks k)
    by true is = rw is once
    by false is = rw is (IsDistinct-push nat_eq_equiv ks k once is)

distinct_all : (ks more : List ℕ) → IsDistinct nat_eq ks → IsDistinct nat_eq (insert_all nat_eq ks more)
distinct_all ks [] once = once
distinct_all ks (k ∷ more) once = distinct_all (insert_key nat_eq ks k) more (distinct_key ks k once)

distinct_none : IsDistinct nat_eq []
unfolding IsDistinct
distinct_none = tt

search : (links : List (List ℕ)) (from fuel : ℕ) (found : List ℕ) (at : ℕ) → AreLinks (length links) links → from < length links → IsSearching links from found at → IsDistinct nat_eq found → length links ≤ fuel + at
    → (all : List ℕ) × (last : ℕ) × IsSearching links from all last × (length all ≤ last)
search links from zero found at are within is once far =
    let most : length found ≤ length links = few links from found at is are within once in
    (found, at, is, omega (arith, most, far))
search links from (suc fuel) found at are within is once far = elim (within_or_past at (length found)) [
  | inl low ↦
      let more : List ℕ = linked links (get_or found at 0) in
      search links from fuel (insert_all nat_eq found more) (at + 1) are within
      (next links from found (insert_all nat_eq found more) at (get_or found at 0) is low refl refl) (distinct_all found more once) (omega (arith, far))
  | inr past ↦ (found, at, is, past)
]

reached_exist : (links : List (List ℕ)) (from : ℕ) → AreLinks (length links) links → from < length links → (documents : List ℕ) × AreReached links from documents
reached_exist links from are within =
    let start : List ℕ = insert_key nat_eq [] from in
    let found = search links from (length links) start 0 are within (starts links from [] start refl refl) (distinct_key [] from distinct_none) (omega arith) in
    let list = rising_exists nat_cmp_total exact_unsigned found.0 in
    (list.0, lists links from found.0 list.0 found.1 found.2 found.3 list.2 list.3 list.1)

-- ---- those that each library reaches

reaches_exist : (libraries : List Library) (links : List (List ℕ)) → AreLinks (length links) links → ((at : ℕ) (library : Library) → slice_get libraries at ≡ Some library → library.document < length links)
    → (reach : List (List ℕ)) × AreReaches libraries links reach
reaches_exist [] links are within = ([], record { each = refl; reached = λ at library is. absurd (cc) })
reaches_exist (library ∷ libraries) links are within =
    let first = reached_exist links library.document are (within 0 library refl) in
    let rest = reaches_exist libraries links are (λ at one is. within (suc at) one is) in
    (first.0 ∷ rest.0, record { each = ap suc rest.1.each; reached = each first.0 rest.0 first.1 rest.1 })
  where
    same : (one : Library) → Some library ≡ Some one → library ≡ one
    same one is = cc

    each : (first : List ℕ) (rest : List (List ℕ)) → AreReached links library.document first → AreReaches libraries links rest
        → (at : ℕ) (one : Library) → slice_get (library ∷ libraries) at ≡ Some one → AreReached links one.document (get_or (first ∷ rest) at [])
    each first rest here later zero one is = subst (λ (l : Library). AreReached links l.document first) (same one is) here
    each first rest here later (suc at) one is = later.reached at one is

-- ---- what is bound

pub libraries_exist : (look : List ℕ → File) (command : Command) (named : List NamedStub) (count : ℕ) (bound : Bound) → are_named (length command.inputs) 0 named ≡ true
    → (bound_after command named count look).end ≡ Ok bound → length bound.closing.work ≤ count → (graph : LibraryGraph) × IsGraphOf count graph bound × IsWhole graph
libraries_exist look command named count bound are is = subst (λ (b : Bound). length b.closing.work ≤ count → (graph : LibraryGraph) × IsGraphOf count graph b × IsWhole graph) made.is whole
  where
    made : IsMade command named count look bound
    made = made_of command named count look bound is

    held : IsHeld (total made.chosen.files) made.chosen.heads made.closing
    held = (bound_going look command named count bound are made).held

    growing : Growing
    growing = made.closing.growing

    links : AreLinks (length growing.documents) growing.links
    links = held_links (total made.chosen.files) made.chosen.heads made.closing held

    libraries : AreLibraries (length growing.documents) made.chosen.libraries
    libraries =
        held_libraries (total made.chosen.files) made.chosen.heads made.closing made.chosen.libraries held
        (whole_chosen (length command.inputs) command named made.chosen are made.chosen_is).1

    reach : (reach : List (List ℕ)) × AreReaches made.chosen.libraries growing.links reach
    reach =
        reaches_exist made.chosen.libraries growing.links (subst (λ (n : ℕ). AreLinks n growing.links) (sym links.each) links)
        (λ at library there. subst (λ (n : ℕ). library.document < n) (sym links.each) (libraries.within at library there))

    whole : length made.closing.work ≤ count → (graph : LibraryGraph) × IsGraphOf count graph (bound_of made.chosen made.closing) × IsWhole graph
    whole past = (
      record { libraries = made.chosen.libraries; documents = growing.documents; links = growing.links; reach = reach.0 },
      record { done = past; libraries = refl; documents = refl; links = refl },
      record { links = links; libraries = libraries; reach = reach.1 },
    )
