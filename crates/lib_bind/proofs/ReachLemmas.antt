-- Documents that are found by following links.
use Rattle.std.proofs.Common.{◌≡◌, ℕ, ◌+◌, ◌<◌, ◌≤◌, ◌⊎◌, true, nat_eq, List, [], ◌∷◌, ◌++◌, length, take, get_or, slice_get, Contains, Some, refl, sym, ap, subst, ◌∙◌, inl, inr, arith, length-append}
use Rattle.std.specs.List.{IsDistinct, list_any}
use Rattle.std.specs.List.Sorted.{IsPermutation, IsSorted, IsStrictlySortedBy}
use Rattle.std.specs.Ordering.{nat_cmp}
use Rattle.std.proofs.lemmas.List.{get_or_append_left, get_or_default, get_or_push, take_all, take_more}
use Rattle.std.proofs.lemmas.List.Sums.{fold-append}
use Rattle.std.proofs.lemmas.List.Sorted.{Contains-permutation, IsNonDecreasingBy-from_sort, IsPermutation-sym}
use Rattle.std.proofs.lemmas.Map.Keys.{IsDistinct-IsPermutation, IsStrictlyIncreasing-from_distinct, sorted_from_strictly_increasing}
use Rattle.std.proofs.lemmas.Map.Steps.{length-le_from_distinct_below}
use Rattle.std.proofs.lemmas.Option.{slice_get-get_or, slice_get_within}
use Rattle.indexmap.specs.IndexSet.{insert_all, insert_key}
use Rattle.list_lemmas.proofs.Inserted.{behind, from_inserted, in_inserted, kept_inserted}
use Rattle.list_lemmas.proofs.Members.{In, in_from_Contains, Contains_from_in, any_true}
use Rattle.lib_bind.specs.Graph.{AreLinks, AreReached, AreReaches, Leads, Reaches, linked}
use Rattle.lib_bind.specs.declared.library.Library.{Library}

same_number : (a b : ℕ) → nat_eq a b ≡ true → a ≡ b
same_number a b h = grind arith

-- ---- documents that are added, each once

pub add_one : (before now new more : List ℕ) (i item : ℕ) → i < length more → item ≡ get_or more i item → now ≡ insert_all nat_eq before (take i more) → new ≡ insert_key nat_eq now item → new ≡ insert_all nat_eq before (take (i + 1) more)
add_one before now new more i item within is all key =
    key ∙ ap (λ ks. insert_key nat_eq ks item) all
    ∙ sym (ap (insert_all nat_eq before) (take_more more i item within ∙ ap (λ y. take i more ++ y ∷ []) (sym is)) ∙ fold-append (insert_key nat_eq) before (take i more) (item ∷ []))

pub added_all : (before now more : List ℕ) (i : ℕ) → length more ≤ i → now ≡ insert_all nat_eq before (take i more) → now ≡ insert_all nat_eq before more
added_all before now more i past all = all ∙ ap (insert_all nat_eq before) (take_all i more past)

-- ---- paths

snoc : (links : List (List ℕ)) (from : ℕ) (path : List ℕ) (mid to : ℕ) → Leads links from path mid → Contains (linked links mid) to → Leads links from (path ++ to ∷ []) to
snoc links from [] mid to is there = (subst (λ (d : ℕ). Contains (linked links d) to) (sym is) there, refl)
snoc links from (next ∷ path) mid to leads there = (leads.0, snoc links next path mid to leads.1 there)

reaches_next : (links : List (List ℕ)) (from mid to : ℕ) → Reaches links from mid → Contains (linked links mid) to → Reaches links from to
reaches_next links from mid to reaches there = record { path = reaches.path ++ to ∷ []; leads = snoc links from reaches.path mid to reaches.leads there }

reaches_itself : (links : List (List ℕ)) (from : ℕ) → Reaches links from from
reaches_itself links from = record { path = []; leads = refl }

leads_below : (links : List (List ℕ)) (from : ℕ) (path : List ℕ) (to : ℕ) → AreLinks (length links) links → from < length links → Leads links from path to → to < length links
leads_below links from [] to are within is = subst (λ (d : ℕ). d < length links) is within
leads_below links from (next ∷ path) to are within leads = leads_below links next path to are (are.within from next leads.0) leads.1

pub reached_below : (links : List (List ℕ)) (from to : ℕ) → AreLinks (length links) links → from < length links → Reaches links from to → to < length links
reached_below links from to are within reaches = leads_below links from reaches.path to are within reaches.leads

leads_among : (links : List (List ℕ)) (found : List ℕ) → ((d to : ℕ) → Contains found d → Contains (linked links d) to → Contains found to) → (from : ℕ) (path : List ℕ) (to : ℕ) → Contains found from → Leads links from path to → Contains found to
leads_among links found closed from [] to start is = subst (λ (d : ℕ). Contains found d) is start
leads_among links found closed from (next ∷ path) to start leads = leads_among links found closed next path to (closed from next start leads.0) leads.1

-- ---- a search

-- what was found, and that the links of the first documents lead to what was found
pub record IsSearching (links : List (List ℕ)) (from : ℕ) (found : List ℕ) (at : ℕ) : Type 0 where
  pub only : (to : ℕ) → Contains found to → Reaches links from to
  pub start : Contains found from
  pub closed : (i : ℕ) → i < at → i < length found → (to : ℕ) → Contains (linked links (get_or found i 0)) to → Contains found to

only_start : (links : List (List ℕ)) (from to : ℕ) → Contains (from ∷ []) to → Reaches links from to
only_start links from to there = by (in_from_Contains (from ∷ []) to there)
  where
    by : In to (from ∷ []) → Reaches links from to
    by (inl e) = subst (λ (d : ℕ). Reaches links from d) e (reaches_itself links from)
    by (inr h) = absurd h

pub starts : (links : List (List ℕ)) (from : ℕ) (empty found : List ℕ) → empty ≡ [] → found ≡ insert_key nat_eq empty from → IsSearching links from found 0
starts links from empty found none is =
    let one : from ∷ [] ≡ found = sym (is ∙ ap (λ ks. insert_key nat_eq ks from) none) in
    subst (λ (ds : List ℕ). IsSearching links from ds 0) one (record {
      only = only_start links from;
      start = (0, omega arith, refl);
      closed = λ i low. absurd (omega (arith, low));
    })

only_next : (links : List (List ℕ)) (from : ℕ) (found : List ℕ) (document : ℕ) → ((to : ℕ) → Contains found to → Reaches links from to) → Reaches links from document → (to : ℕ) → In to found ⊎ In to (linked links document) → Reaches links from to
only_next links from found document only reaches to (inl h) = only to (Contains_from_in found to h)
only_next links from found document only reaches to (inr h) = reaches_next links from document to reaches (Contains_from_in (linked links document) to h)

closed_next : (links : List (List ℕ)) (found new : List ℕ) (at document : ℕ) → ((i : ℕ) → i < at → i < length found → (to : ℕ) → Contains (linked links (get_or found i 0)) to → Contains found to)
    → at < length found → get_or found at 0 ≡ document → new ≡ insert_all nat_eq found (linked links document)
    → (i : ℕ) → (i < at) ⊎ (i ≡ at) → (to : ℕ) → Contains (linked links (get_or new i 0)) to → Contains new to
closed_next links found new at document closed within is all i (inl low) to there =
    let front : (rest : List ℕ) × (insert_all nat_eq found (linked links document) ≡ found ++ rest) = behind nat_eq same_number found (linked links document) in
    let among : i < length found = omega (arith, low, within) in
    let same : get_or new i 0 ≡ get_or found i 0 = ap (λ (ds : List ℕ). get_or ds i 0) (all ∙ front.1) ∙ get_or_append_left found front.0 0 i among in
    let old : Contains found to = closed i low among to (subst (λ (d : ℕ). Contains (linked links d) to) same there) in
    subst (λ (ds : List ℕ). Contains ds to) (sym all) (Contains_from_in (insert_all nat_eq found (linked links document)) to (kept_inserted nat_eq same_number found (linked links document) to (in_from_Contains found to old)))
closed_next links found new at document closed within is all i (inr last) to there =
    let front : (rest : List ℕ) × (insert_all nat_eq found (linked links document) ≡ found ++ rest) = behind nat_eq same_number found (linked links document) in
    let same : get_or new i 0 ≡ document = ap (λ (k : ℕ). get_or new k 0) last ∙ ap (λ (ds : List ℕ). get_or ds at 0) (all ∙ front.1) ∙ get_or_append_left found front.0 0 at within ∙ is in
    subst (λ (ds : List ℕ). Contains ds to) (sym all) (Contains_from_in (insert_all nat_eq found (linked links document)) to (in_inserted nat_eq same_number found (linked links document) to (in_from_Contains (linked links document) to (subst (λ (d : ℕ). Contains (linked links d) to) same there))))

below_or_last : (i at : ℕ) → i < at + 1 → (i < at) ⊎ (i ≡ at)
below_or_last i at low = grind arith

pub among : (found : List ℕ) (at document : ℕ) → at < length found → get_or found at 0 ≡ document → Contains found document
among found at document within is = (at, within, get_or_default found at document 0 within ∙ is)

pub next : (links : List (List ℕ)) (from : ℕ) (found new : List ℕ) (at document : ℕ) → IsSearching links from found at → at < length found → get_or found at 0 ≡ document → new ≡ insert_all nat_eq found (linked links document) → IsSearching links from new (at + 1)
next links from found new at document searching within is all = record {
  only = λ to there. only_next links from found document searching.only (searching.only document (among found at document within is)) to (from_inserted nat_eq same_number found (linked links document) to (subst (λ (ds : List ℕ). In to ds) all (in_from_Contains new to there)));
  start = subst (λ (ds : List ℕ). Contains ds from) (sym all) (Contains_from_in (insert_all nat_eq found (linked links document)) from (kept_inserted nat_eq same_number found (linked links document) from (in_from_Contains found from searching.start)));
  closed = λ i low _ to there. closed_next links found new at document searching.closed within is all i (below_or_last i at low) to there;
}

closed_by_members : (links : List (List ℕ)) (from : ℕ) (found : List ℕ) (at : ℕ) → IsSearching links from found at → length found ≤ at → (d to : ℕ) → Contains found d → Contains (linked links d) to → Contains found to
closed_by_members links from found at searching past d to (k, low, is) there =
    let same : get_or found k 0 ≡ d = get_or_default found k 0 d low ∙ is in
    searching.closed k (omega (arith, low, past)) low to (subst (λ (e : ℕ). Contains (linked links e) to) (sym same) there)

flips : (a b : ℕ) → nat_eq a b ≡ nat_eq b a
flips a b = grind arith

pub rises : (documents ordered : List ℕ) → IsDistinct nat_eq documents → IsPermutation documents ordered → IsSorted nat_cmp ordered → IsStrictlySortedBy nat_cmp ordered
rises documents ordered once same sorted =
    sorted_from_strictly_increasing ordered (IsStrictlyIncreasing-from_distinct ordered (IsNonDecreasingBy-from_sort (λ (n : ℕ). n) ordered sorted) (IsDistinct-IsPermutation nat_eq flips documents ordered same once))

-- a list of just what was found
pub lists : (links : List (List ℕ)) (from : ℕ) (found list : List ℕ) (at : ℕ) → IsSearching links from found at → length found ≤ at → ((to : ℕ) → Contains found to → Contains list to) → ((to : ℕ) → Contains list to → Contains found to)
    → IsStrictlySortedBy nat_cmp list → AreReached links from list
lists links from found list at searching past all only rising = record {
  all = λ to reaches. all to (leads_among links found (closed_by_members links from found at searching past) from reaches.path to searching.start reaches.leads);
  only = λ to there. searching.only to (only to there);
  rising = rising;
}

pub ends : (links : List (List ℕ)) (from : ℕ) (found list : List ℕ) (at : ℕ) → IsSearching links from found at → length found ≤ at → IsPermutation found list → IsStrictlySortedBy nat_cmp list → AreReached links from list
ends links from found list at searching past same rising =
    lists links from found list at searching past (λ to. Contains-permutation found list to same) (λ to. Contains-permutation list found to (IsPermutation-sym found list same)) rising

-- there are no more documents than links
pub few : (links : List (List ℕ)) (from : ℕ) (found : List ℕ) (at : ℕ) → IsSearching links from found at → AreLinks (length links) links → from < length links → IsDistinct nat_eq found → length found ≤ length links
few links from found at searching are within once =
    length-le_from_distinct_below found (length links) once
    (λ q there. reached_below links from q are within (searching.only q (Contains_from_in found q (member q there))))
  where
    member : (q : ℕ) → list_any (nat_eq q) found ≡ true → In q found
    member q there =
        let it : (x : ℕ) × In x found × (nat_eq q x ≡ true) = any_true (nat_eq q) found there in
        subst (λ (n : ℕ). In n found) (sym (same_number q it.0 it.2)) it.1

-- ---- all libraries

pub record AreFirst (libraries : List Library) (links reach : List (List ℕ)) (at : ℕ) : Type 0 where
  pub each : length reach ≡ at
  pub reached : (k : ℕ) (library : Library) → k < at → slice_get libraries k ≡ Some library → AreReached links library.document (get_or reach k [])

first_next : (libraries : List Library) (links reach : List (List ℕ)) (at : ℕ) (item : Library) (found : List ℕ) → AreFirst libraries links reach at → slice_get libraries at ≡ Some item → AreReached links item.document found
    → (k : ℕ) (library : Library) → (k < at) ⊎ (k ≡ at) → slice_get libraries k ≡ Some library → AreReached links library.document (get_or (reach ++ found ∷ []) k [])
first_next libraries links reach at item found first there reached k library (inl low) is =
    let each : length reach ≡ at = first.each in
    subst (λ (ds : List ℕ). AreReached links library.document ds) (sym (get_or_append_left reach (found ∷ []) [] k (omega (arith, low, each)))) (first.reached k library low is)
first_next libraries links reach at item found first there reached k library (inr last) is =
    let same : item ≡ library = some_same item library (sym there ∙ ap (slice_get libraries) (sym last) ∙ is) in
    subst (λ (ds : List ℕ). AreReached links library.document ds) (sym (get_or_push reach found [] k (first.each ∙ sym last)))
    (subst (λ (l : Library). AreReached links l.document found) same reached)
  where
    some_same : (a b : Library) → Some a ≡ Some b → a ≡ b
    some_same a b e = cc

pub first_more : (libraries : List Library) (links reach new : List (List ℕ)) (at : ℕ) (item : Library) (found : List ℕ) → AreFirst libraries links reach at → at < length libraries → item ≡ get_or libraries at item → AreReached links item.document found → new ≡ reach ++ found ∷ [] → AreFirst libraries links new (at + 1)
first_more libraries links reach new at item found first within is reached all = record {
  each = ap length all ∙ (let each : length reach ≡ at = first.each in grind (arith, length-append));
  reached = λ k library low there. subst (λ (r : List (List ℕ)). AreReached links library.document (get_or r k [])) (sym all)
      (first_next libraries links reach at item found first (slice_get-get_or libraries at item within ∙ ap Some (sym is)) reached k library (below_or_last k at low) there);
}

pub first_all : (libraries : List Library) (links reach : List (List ℕ)) (at : ℕ) → AreFirst libraries links reach at → length libraries ≤ at → at ≤ length libraries → AreReaches libraries links reach
first_all libraries links reach at first past within =
    let each : length reach ≡ at = first.each in
    record {
      each = omega (arith, each, past, within);
      reached = λ k library is. (let low : k < length libraries = slice_get_within libraries k library is in first.reached k library (omega (arith, low, past)) is);
    }

pub links_at : (links : List (List ℕ)) (document : ℕ) (listed read : List ℕ) → document < length links → listed ≡ get_or links document listed → read ≡ listed → read ≡ linked links document
links_at links document listed read within is same = same ∙ is ∙ get_or_default links document listed [] within
