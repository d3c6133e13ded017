-- What pointers are bound to, each once in the order of the pointers, and the numbers that it has once it is in order.
use Rattle.std.proofs.Common.{◌≡◌, ◌≢◌, ℕ, zero, suc, ◌+◌, ◌<◌, ◌≤◌, ◌||◌, ◌⊎◌, if◌then◌else◌, Bool, true, false, List, [], ◌∷◌, ◌++◌, length, get_or, slice_get, nat_lt, map, take, drop, Option, Some, None, refl, sym, ap, subst, ◌∙◌, inl, inr, arith, length-append}
use Rattle.std.specs.Prelude.{IfSome, unwrap_or}
use Rattle.std.specs.List.{list_any, position_or_len}
use Rattle.std.proofs.lemmas.Bool.{cases_lt, ltb-true}
use Rattle.std.proofs.Math.ListN.{set, length-set}
use Rattle.std.proofs.lemmas.List.{drop_all, drop_more, get_or_append_left, get_or_default, get_or_push, get_or-set_other, get_or-set_same, map-append, take_all, take_more, take_more_set, take-set-le}
use Rattle.std.proofs.lemmas.List.Folds.{list_any_more}
use Rattle.std.proofs.lemmas.Option.{get_or_from_slice_get, slice_get_within}
use Rattle.indexmap.specs.IndexSet.{insert_all, insert_key}
use Rattle.fixup_chain.specs.ImportOrder.{Import}
use Rattle.fixup_chain.specs.Imports.{bound, import_of, is_bound}
use Rattle.sect_place.specs.declared.layout.Layout.{Layout}
use Rattle.fixup_chain.specs.Faults.{target_of}
use Rattle.fixup_chain.specs.inner.Held.{ArePlaces, HasOffset, HasPlace, HaveOffsets, AreReady, StandsAt, gathered, is_large, is_same, noted, noted_row, offset_by, rank_in}
use Rattle.fixup_chain.specs.inner.Rows.{same_row}
use Rattle.fixup_chain.specs.declared.chains.Fixup.{Fixup}
use Rattle.fixup_chain.specs.declared.import_row.ImportRow.{ImportRow}
use Rattle.fixup_chain.proofs.ImportLemmas.{same_import}
use Rattle.fixup_chain.proofs.RowLemmas.{same_rows}

clash : {P : Type 0} (b : Bool) → b ≡ false → b ≡ true → P
clash b e f = absurd (let g : true ≡ false = sym f ∙ e in cc)

first_of : {X : Type 0} (b : Bool) (x y : X) → b ≡ true → (if b then x else y) ≡ x
first_of b x y e = rw e refl

second_of : {X : Type 0} (b : Bool) (x y : X) → b ≡ false → (if b then x else y) ≡ y
second_of b x y e = rw e refl

-- ---- one more pointer

pub noted_bound : (keys new : List Import) (x : Fixup) → is_bound x.goal ≡ true → new ≡ insert_key is_same keys (import_of false x) → new ≡ noted is_same (import_of false) keys x
unfolding noted
noted_bound keys new x holds e = e ∙ sym (first_of (is_bound x.goal) (insert_key is_same keys (import_of false x)) keys holds)

pub noted_other : (keys : List Import) (x : Fixup) → is_bound x.goal ≡ false → keys ≡ noted is_same (import_of false) keys x
unfolding noted
noted_other keys x other = sym (second_of (is_bound x.goal) (insert_key is_same keys (import_of false x)) keys other)

pub place_there : (keys : List Import) (x : Fixup) (place : ℕ) → ((k : Import) × (slice_get keys place ≡ Some k) × (is_same (import_of false x) k ≡ true)) → HasPlace (import_of false) keys x place
place_there keys x place (k, at, same) = record {
  there = λ holds. record {
    within = slice_get_within keys place k at;
    is = λ d. get_or_from_slice_get keys place k d at ∙ sym (same_import (import_of false x) k same);
  };
}

pub place_none : (keys : List Import) (x : Fixup) (place : ℕ) → is_bound x.goal ≡ false → HasPlace (import_of false) keys x place
place_none keys x place other = record { there = λ holds. clash (is_bound x.goal) other holds }

pub offset_there : (layout : Layout) (x : Fixup) (held : ℕ) → held ≡ offset_by (target_of layout x) → HasOffset layout x held
offset_there layout x held e = record { is = λ other. e }

pub offset_none : (layout : Layout) (x : Fixup) (held : ℕ) → is_bound x.goal ≡ true → HasOffset layout x held
offset_none layout x held holds = record { is = λ other. clash (is_bound x.goal) other holds }

pub ruleset noting = (noted_bound, noted_other, place_there, place_none, offset_there, offset_none)

pub row_there : (keys : List ImportRow) (row : ImportRow) (place : ℕ) → ((k : ImportRow) × (slice_get keys place ≡ Some k) × (same_row row k ≡ true)) → StandsAt keys place row
row_there keys row place (k, at, same) = record {
  within = slice_get_within keys place k at;
  is = λ d. get_or_from_slice_get keys place k d at ∙ sym (same_rows row k same);
}

pub ruleset noting_row = (row_there)

-- ---- the loop that gathers

pub record IsGathering {K : Type 0} (same : K → K → Bool) (of : Fixup → K) (fixups : List Fixup) (at : ℕ) (now : List K) (places : List ℕ) : Type 0 where
  pub within : at ≤ length fixups
  pub same_all : insert_all same now (map of (bound (drop at fixups))) ≡ gathered same of fixups
  pub size : length places ≡ at
  pub each : (k : ℕ) (f : Fixup) (p : ℕ) → k < at → HasPlace of now (get_or fixups k f) (get_or places k p)

there : (fixups : List Fixup) (i : ℕ) (x : Fixup) → i < length fixups → x ≡ get_or fixups i x → drop i fixups ≡ x ∷ drop (i + 1) fixups
there xs i x low is = drop_more xs i x low ∙ ap (λ y. y ∷ drop (i + 1) xs) (sym is)

none_bound : bound [] ≡ []
unfolding bound
none_bound = refl

module _ {K : Type 0} (same : K → K → Bool) (of : Fixup → K) where
  first_is : (now : List K) (x : Fixup) (rest : List Fixup) → insert_all same now (map of (bound (x ∷ rest))) ≡ insert_all same (noted same of now x) (map of (bound rest))
  unfolding bound noted
  first_is now x rest = by (is_bound x.goal) refl
    where
      by : (b : Bool) → is_bound x.goal ≡ b → insert_all same now (map of (bound (x ∷ rest))) ≡ insert_all same (noted same of now x) (map of (bound rest))
      by true e = rw e refl
      by false e = rw e refl

  noted_more : (keys : List K) (x : Fixup) → (noted same of keys x ≡ keys) ⊎ (noted same of keys x ≡ keys ++ of x ∷ [])
  unfolding noted
  noted_more keys x = by (is_bound x.goal) (list_any (same (of x)) keys) refl refl
    where
      put : List K
      put = insert_key same keys (of x)

      by : (b c : Bool) → is_bound x.goal ≡ b → list_any (same (of x)) keys ≡ c → (noted same of keys x ≡ keys) ⊎ (noted same of keys x ≡ keys ++ of x ∷ [])
      by false c e f = inl (second_of (is_bound x.goal) put keys e)
      by true true e f = inl (first_of (is_bound x.goal) put keys e ∙ first_of (list_any (same (of x)) keys) keys (keys ++ of x ∷ []) f)
      by true false e f = inr (first_of (is_bound x.goal) put keys e ∙ second_of (list_any (same (of x)) keys) keys (keys ++ of x ∷ []) f)

  kept : (keys new : List K) (place : ℕ) (key : K) (more : List K) → new ≡ keys ++ more → StandsAt keys place key → StandsAt new place key
  kept keys new place key more e stands = record {
    within = (let size : length new ≡ length keys + length more = ap length e ∙ length-append keys more in let low = stands.within in omega (arith, size, low));
    is = λ d. ap (λ (xs : List K). get_or xs place d) e ∙ get_or_append_left keys more d place stands.within ∙ stands.is d;
  }

  still : (keys new : List K) (x f : Fixup) (place : ℕ) → new ≡ noted same of keys x → HasPlace of keys f place → HasPlace of new f place
  still keys new x f place e has = elim (noted_more keys x) [
    | inl stays ↦ subst (λ (ks : List K). HasPlace of ks f place) (sym (e ∙ stays)) has
    | inr more ↦ record { there = λ holds. kept keys new place (of f) (of x ∷ []) (e ∙ more) (has.there holds) }
  ]

  pub gathering_begins : (fixups : List Fixup) (none : List K) (places : List ℕ) → none ≡ [] → places ≡ [] → IsGathering same of fixups 0 none places
  unfolding gathered
  gathering_begins fixups none places e f = record {
    within = omega arith;
    same_all = rw e refl;
    size = ap length f;
    each = λ k g p low. absurd (omega (arith, low));
  }

  pub gathering_goes_on : (fixups : List Fixup) (at : ℕ) (now new : List K) (places more : List ℕ) (x : Fixup) (place : ℕ) → IsGathering same of fixups at now places → at < length fixups → x ≡ get_or fixups at x → new ≡ noted same of now x → HasPlace of new x place → more ≡ places ++ place ∷ [] → IsGathering same of fixups (at + 1) new more
  gathering_goes_on fixups at now new places more x place all within is new_is has more_is = record {
    within = omega (arith, within);
    same_all =
        ap (λ (ks : List K). insert_all same ks (map of (bound (drop (at + 1) fixups)))) new_is
        ∙ sym (ap (λ (fs : List Fixup). insert_all same now (map of (bound fs))) (there fixups at x within is) ∙ first_is now x (drop (at + 1) fixups))
        ∙ all.same_all;
    size = (let n : length more ≡ length places + 1 = ap length more_is ∙ length-append places (place ∷ []) in let m = all.size in omega (arith, n, m));
    each = each;
  }
    where
      each : (k : ℕ) (f : Fixup) (p : ℕ) → k < at + 1 → HasPlace of new (get_or fixups k f) (get_or more k p)
      each k f p low = elim (cases_lt k at) [
        | inl before ↦
            (let same_place : get_or more k p ≡ get_or places k p =
            ap (λ (ps : List ℕ). get_or ps k p) more_is ∙ get_or_append_left places (place ∷ []) p k (let m = all.size in omega (arith, before, m)) in
            subst (λ (n : ℕ). HasPlace of new (get_or fixups k f) n) (sym same_place) (still now new x (get_or fixups k f) (get_or places k p) new_is (all.each k f p before)))
        | inr past ↦
            (let here : k ≡ at = omega (arith, low, past) in
            let that : get_or fixups k f ≡ x = ap (λ (n : ℕ). get_or fixups n f) here ∙ sym (is ∙ get_or_default fixups at x f within) in
            let same_place : get_or more k p ≡ place = ap (λ (n : ℕ). get_or more n p) here ∙ ap (λ (ps : List ℕ). get_or ps at p) more_is ∙ get_or_push places place p at all.size in
            subst (λ (n : ℕ). HasPlace of new (get_or fixups k f) n) (sym same_place) (subst (λ (g : Fixup). HasPlace of new g place) (sym that) has))
      ]

  pub gathering_ends : (fixups : List Fixup) (at : ℕ) (now : List K) (places : List ℕ) → IsGathering same of fixups at now places → length fixups ≤ at → now ≡ gathered same of fixups
  gathering_ends fixups at now places all past =
      sym (ap (insert_all same now) (ap (map of) (ap bound (drop_all at fixups past) ∙ none_bound))) ∙ all.same_all

  pub places_end : (fixups : List Fixup) (at : ℕ) (now : List K) (places : List ℕ) → IsGathering same of fixups at now places → length fixups ≤ at → ArePlaces of fixups now places
  places_end fixups at now places all past = record {
    size = (let m = all.size in let n = all.within in omega (arith, m, n, past));
    each = λ k f p low. all.each k f p (omega (arith, low, past));
  }

-- those of the narrow form, and whether a word has no room for some addend
pub record IsHolding (fixups : List Fixup) (at : ℕ) (now : List Import) (places : List ℕ) (large : Bool) : Type 0 where
  pub gathers : IsGathering is_same (import_of false) fixups at now places
  pub some : large ≡ list_any is_large (take at fixups)

pub holding_starts : (fixups : List Fixup) (none : List Import) (places : List ℕ) → none ≡ [] → places ≡ [] → IsHolding fixups 0 none places false
holding_starts fixups none places e f = record { gathers = gathering_begins is_same (import_of false) fixups none places e f; some = refl }

pub holding_goes_on : (fixups : List Fixup) (at : ℕ) (now new : List Import) (places more : List ℕ) (large larger : Bool) (x : Fixup) (place : ℕ) → IsHolding fixups at now places large → at < length fixups → x ≡ get_or fixups at x → new ≡ noted is_same (import_of false) now x → HasPlace (import_of false) new x place → more ≡ places ++ place ∷ [] → larger ≡ (large || is_large x) → IsHolding fixups (at + 1) new more larger
holding_goes_on fixups at now new places more large larger x place all within is new_is has more_is larger_is = record {
  gathers = gathering_goes_on is_same (import_of false) fixups at now new places more x place all.gathers within is new_is has more_is;
  some = larger_is ∙ ap (λ (b : Bool). b || is_large x) all.some ∙ ap (λ (f : Fixup). list_any is_large (take at fixups) || is_large f) is ∙ sym (list_any_more is_large fixups at x within);
}

pub imports_end : (fixups : List Fixup) (at : ℕ) (now : List Import) (places : List ℕ) (large : Bool) → IsHolding fixups at now places large → length fixups ≤ at → now ≡ gathered is_same (import_of false) fixups
imports_end fixups at now places large all past = gathering_ends is_same (import_of false) fixups at now places all.gathers past

pub import_places_end : (fixups : List Fixup) (at : ℕ) (now : List Import) (places : List ℕ) (large : Bool) → IsHolding fixups at now places large → length fixups ≤ at → ArePlaces (import_of false) fixups now places
import_places_end fixups at now places large all past = places_end is_same (import_of false) fixups at now places all.gathers past

pub large_ends : (fixups : List Fixup) (at : ℕ) (now : List Import) (places : List ℕ) (large : Bool) → IsHolding fixups at now places large → length fixups ≤ at → large ≡ list_any is_large fixups
large_ends fixups at now places large all past = all.some ∙ ap (list_any is_large) (take_all at fixups past)

pub ruleset holding = (holding_starts, holding_goes_on, imports_end, import_places_end, large_ends)

-- ---- the same, where what is held tells offsets too

pub record IsCollecting (layout : Layout) (fixups : List Fixup) (at : ℕ) (now : List Import) (places : List ℕ) (large : Bool) : Type 0 where
  pub holds : IsHolding fixups at now places large
  pub offsets : (k : ℕ) (f : Fixup) (h : ℕ) → k < at → HasOffset layout (get_or fixups k f) (get_or places k h)

pub collecting_starts : (layout : Layout) (fixups : List Fixup) (none : List Import) (places : List ℕ) → none ≡ [] → places ≡ [] → IsCollecting layout fixups 0 none places false
collecting_starts layout fixups none places e f = record {
  holds = holding_starts fixups none places e f;
  offsets = λ k g h low. absurd (omega (arith, low));
}

pub collecting_goes_on : (layout : Layout) (fixups : List Fixup) (at : ℕ) (now new : List Import) (places more : List ℕ) (large larger : Bool) (x : Fixup) (place : ℕ) → IsCollecting layout fixups at now places large → at < length fixups → x ≡ get_or fixups at x → new ≡ noted is_same (import_of false) now x → HasPlace (import_of false) new x place → HasOffset layout x place → more ≡ places ++ place ∷ [] → larger ≡ (large || is_large x) → IsCollecting layout fixups (at + 1) new more larger
collecting_goes_on layout fixups at now new places more large larger x place all within is new_is has offset more_is larger_is = record {
  holds = holding_goes_on fixups at now new places more large larger x place all.holds within is new_is has more_is larger_is;
  offsets = λ k f h low. elim (cases_lt k at) [
    | inl before ↦
        (let same_one : get_or more k h ≡ get_or places k h =
        ap (λ (ps : List ℕ). get_or ps k h) more_is ∙ get_or_append_left places (place ∷ []) h k (let m = all.holds.gathers.size in omega (arith, before, m)) in
        subst (λ (n : ℕ). HasOffset layout (get_or fixups k f) n) (sym same_one) (all.offsets k f h before))
    | inr past ↦
        (let here : k ≡ at = omega (arith, low, past) in
        let that : get_or fixups k f ≡ x = ap (λ (n : ℕ). get_or fixups n f) here ∙ sym (is ∙ get_or_default fixups at x f within) in
        let same_one : get_or more k h ≡ place = ap (λ (n : ℕ). get_or more n h) here ∙ ap (λ (ps : List ℕ). get_or ps at h) more_is ∙ get_or_push places place h at all.holds.gathers.size in
        subst (λ (n : ℕ). HasOffset layout (get_or fixups k f) n) (sym same_one) (subst (λ (g : Fixup). HasOffset layout g place) (sym that) offset))
  ];
}

pub offsets_end : (layout : Layout) (fixups : List Fixup) (at : ℕ) (now : List Import) (places : List ℕ) (large : Bool) → IsCollecting layout fixups at now places large → length fixups ≤ at → HaveOffsets layout fixups places
offsets_end layout fixups at now places large all past = record { each = λ k f h low. all.offsets k f h (omega (arith, low, past)) }

-- ---- the same, where what is held for the next pointers tells their offsets already

pub record IsCollectingAhead (layout : Layout) (fixups : List Fixup) (at : ℕ) (now : List Import) (held : List ℕ) (large : Bool) (ready : ℕ) : Type 0 where
  pub long : length held ≡ length fixups
  pub done : IsCollecting layout fixups at now (take at held) large
  pub ahead : AreReady layout fixups held at ready

pub ahead_starts : (layout : Layout) (fixups : List Fixup) (none : List Import) (held : List ℕ) → none ≡ [] → length held ≡ length fixups → IsCollectingAhead layout fixups 0 none held false 0
ahead_starts layout fixups none held e long = record {
  long = long;
  done = collecting_starts layout fixups none (take 0 held) e refl;
  ahead = record { rises = omega arith; within = omega arith; each = λ k f h low high. absurd (omega (arith, low, high)) };
}

pub ahead_goes_on : (layout : Layout) (fixups : List Fixup) (at h : ℕ) (now new : List Import) (held next more : List ℕ) (large larger : Bool) (ready later : ℕ) (x : Fixup) (one : ℕ) → IsCollectingAhead layout fixups at now held large ready → at < length fixups → x ≡ get_or fixups at x → length next ≡ length held → take at next ≡ take at held → AreReady layout fixups next at later → at < later → new ≡ noted is_same (import_of false) now x → HasPlace (import_of false) new x one → ((other : Layout) → HasOffset other x (get_or next at h) → HasOffset other x one) → more ≡ set next at one → larger ≡ (large || is_large x) → IsCollectingAhead layout fixups (at + 1) new more larger later
ahead_goes_on layout fixups at h now new held next more large larger ready later x one all within is long_next before later_ready some new_is has offset more_is larger_is =
    let long : length next ≡ length fixups = long_next ∙ all.long in
    let inside : at < length next = omega (arith, within, long) in
    let taken : take (at + 1) more ≡ take at held ++ one ∷ [] =
    ap (take (at + 1)) more_is ∙ take_more_set next at one inside ∙ ap (λ (xs : List ℕ). xs ++ one ∷ []) before in
    let here : HasOffset layout x (get_or next at h) = subst (λ (f : Fixup). HasOffset layout f (get_or next at h)) (sym is) (later_ready.each at x h (omega arith) some) in
    record {
      long = ap length more_is ∙ length-set next at one ∙ long;
      done = collecting_goes_on layout fixups at now new (take at held) (take (at + 1) more) large larger x one all.done within is new_is has (offset layout here) taken larger_is;
      ahead = record {
        rises = omega (arith, some);
        within = later_ready.within;
        each = λ k f g low high.
            let other : k ≢ at = omega (arith, low) in
            let same : get_or more k g ≡ get_or next k g = ap (λ (xs : List ℕ). get_or xs k g) more_is ∙ get_or-set_other next at k one g other in
            subst (λ (n : ℕ). HasOffset layout (get_or fixups k f) n) (sym same) (later_ready.each k f g (omega (arith, low)) high);
      };
    }

whole : (layout : Layout) (fixups : List Fixup) (at : ℕ) (now : List Import) (held : List ℕ) (large : Bool) (ready : ℕ) → IsCollectingAhead layout fixups at now held large ready → length fixups ≤ at → IsCollecting layout fixups at now held large
whole layout fixups at now held large ready all past =
    let long = all.long in
    subst (λ (hs : List ℕ). IsCollecting layout fixups at now hs large) (take_all at held (omega (arith, long, past))) all.done

pub ahead_imports : (layout : Layout) (fixups : List Fixup) (at : ℕ) (now : List Import) (held : List ℕ) (large : Bool) (ready : ℕ) → IsCollectingAhead layout fixups at now held large ready → length fixups ≤ at → now ≡ gathered is_same (import_of false) fixups
ahead_imports layout fixups at now held large ready all past = imports_end fixups at now held large (whole layout fixups at now held large ready all past).holds past

pub ahead_places : (layout : Layout) (fixups : List Fixup) (at : ℕ) (now : List Import) (held : List ℕ) (large : Bool) (ready : ℕ) → IsCollectingAhead layout fixups at now held large ready → length fixups ≤ at → ArePlaces (import_of false) fixups now held
ahead_places layout fixups at now held large ready all past = import_places_end fixups at now held large (whole layout fixups at now held large ready all past).holds past

pub ahead_large : (layout : Layout) (fixups : List Fixup) (at : ℕ) (now : List Import) (held : List ℕ) (large : Bool) (ready : ℕ) → IsCollectingAhead layout fixups at now held large ready → length fixups ≤ at → large ≡ list_any is_large fixups
ahead_large layout fixups at now held large ready all past = large_ends fixups at now held large (whole layout fixups at now held large ready all past).holds past

pub ahead_offsets : (layout : Layout) (fixups : List Fixup) (at : ℕ) (now : List Import) (held : List ℕ) (large : Bool) (ready : ℕ) → IsCollectingAhead layout fixups at now held large ready → length fixups ≤ at → HaveOffsets layout fixups held
ahead_offsets layout fixups at now held large ready all past = offsets_end layout fixups at now held large (whole layout fixups at now held large ready all past) past

-- ---- the loop that looks ahead

pub record IsLookingUp (layout : Layout) (fixups : List Fixup) (first : List ℕ) (from at : ℕ) (held : List ℕ) : Type 0 where
  pub long : length held ≡ length fixups
  pub before : take from held ≡ take from first
  pub rises : from ≤ at
  pub each : (k : ℕ) (f : Fixup) (h : ℕ) → from ≤ k → k < at → HasOffset layout (get_or fixups k f) (get_or held k h)

pub looking_goes_on : (layout : Layout) (fixups : List Fixup) (first held more : List ℕ) (from at one : ℕ) (x : Fixup) → IsLookingUp layout fixups first from at held → at < length fixups → x ≡ get_or fixups at x → HasOffset layout x one → more ≡ set held at one → IsLookingUp layout fixups first from (at + 1) more
looking_goes_on layout fixups first held more from at one x all within is has more_is =
    let long = all.long in
    let rises = all.rises in
    record {
      long = ap length more_is ∙ length-set held at one ∙ all.long;
      before = ap (take from) more_is ∙ take-set-le from held at one all.rises ∙ all.before;
      rises = omega (arith, rises);
      each = λ k f h low high. elim (cases_lt k at) [
        | inl past ↦
            (let other : k ≢ at = omega (arith, past) in
            let same : get_or more k h ≡ get_or held k h = ap (λ (xs : List ℕ). get_or xs k h) more_is ∙ get_or-set_other held at k one h other in
            subst (λ (n : ℕ). HasOffset layout (get_or fixups k f) n) (sym same) (all.each k f h low past))
        | inr last ↦
            (let here : k ≡ at = omega (arith, high, last) in
            let that : get_or fixups k f ≡ x = ap (λ (n : ℕ). get_or fixups n f) here ∙ sym (is ∙ get_or_default fixups at x f within) in
            let same : get_or more k h ≡ one = ap (λ (n : ℕ). get_or more n h) here ∙ ap (λ (xs : List ℕ). get_or xs at h) more_is ∙ get_or-set_same held at one h (omega (arith, within, long)) in
            subst (λ (n : ℕ). HasOffset layout (get_or fixups k f) n) (sym same) (subst (λ (g : Fixup). HasOffset layout g one) (sym that) has))
      ];
    }

-- ---- one import of the wide form more

pub row_noted : (of : Fixup → ImportRow) (keys new : List ImportRow) (x : Fixup) (row : Option ImportRow) → row ≡ (if is_bound x.goal then Some (of x) else None) → new ≡ noted_row keys row → new ≡ noted same_row of keys x
unfolding noted
row_noted of keys new x row e n = n ∙ by (is_bound x.goal) row e
  where
    by : (b : Bool) (row : Option ImportRow) → row ≡ (if b then Some (of x) else None) → noted_row keys row ≡ (if b then insert_key same_row keys (of x) else keys)
    by true row e = ap (noted_row keys) e
    by false row e = ap (noted_row keys) e

pub row_placed : (of : Fixup → ImportRow) (keys : List ImportRow) (x : Fixup) (row : Option ImportRow) (place : ℕ) → row ≡ (if is_bound x.goal then Some (of x) else None) → IfSome row (StandsAt keys place) → HasPlace of keys x place
row_placed of keys x row place e stands = record {
  there = λ holds. subst (λ (r : Option ImportRow). IfSome r (StandsAt keys place)) (e ∙ first_of (is_bound x.goal) (Some (of x)) None holds) stands;
}

-- ---- the numbers

pub record IsNumbering (X : Type 0) (f : X → ℕ) (xs : List X) (at : ℕ) (made : List ℕ) : Type 0 where
  pub same : made ≡ map f (take at xs)

pub numbering_starts : (X : Type 0) (f : X → ℕ) (xs : List X) (made : List ℕ) → made ≡ [] → IsNumbering X f xs 0 made
numbering_starts X f xs made e = record { same = e }

pub numbering_goes_on : (X : Type 0) (f : X → ℕ) (xs : List X) (at : ℕ) (made new : List ℕ) (x : X) (n : ℕ) → IsNumbering X f xs at made → at < length xs → x ≡ get_or xs at x → n ≡ f x → new ≡ made ++ n ∷ [] → IsNumbering X f xs (at + 1) new
numbering_goes_on X f xs at made new x n all within is value grown = record {
  same =
      grown
      ∙ ap (λ (ns : List ℕ). ns ++ n ∷ []) all.same
      ∙ ap (λ (m : ℕ). map f (take at xs) ++ m ∷ []) (value ∙ ap f is)
      ∙ sym (ap (map f) (take_more xs at x within) ∙ map-append f (take at xs) (get_or xs at x ∷ []));
}

pub numbering_ends : (X : Type 0) (f : X → ℕ) (xs : List X) (at : ℕ) (made : List ℕ) → IsNumbering X f xs at made → length xs ≤ at → made ≡ map f xs
numbering_ends X f xs at made all past = all.same ∙ ap (map f) (take_all at xs past)

pub ruleset numbering = (numbering_starts, numbering_goes_on, numbering_ends)

pub mapped : {X Y : Type 0} (f : X → Y) (xs : List X) (i : ℕ) (d : Y) (e : X) → i < length xs → get_or (map f xs) i d ≡ f (get_or xs i e)
mapped f [] i d e low = absurd (omega (arith, low))
mapped f (x ∷ xs) zero d e low = refl
mapped f (x ∷ xs) (suc i) d e low = mapped f xs i d e (omega (arith, low))

pub same_size : {X Y : Type 0} (f : X → Y) (xs : List X) → length (map f xs) ≡ length xs
same_size f [] = refl
same_size f (x ∷ xs) = ap suc (same_size f xs)

at_most : {X : Type 0} (f : X → ℕ) (n : ℕ) → ((x : X) → f x ≤ n) → (xs : List X) (i : ℕ) → get_or (map f xs) i 0 ≤ n
at_most f n low [] i = omega arith
at_most f n low (x ∷ xs) zero = low x
at_most f n low (x ∷ xs) (suc i) = at_most f n low xs i

some_at_most : (o : Option ℕ) (n : ℕ) → ((k : ℕ) → o ≡ Some k → k ≤ n) → unwrap_or o 0 ≤ n
some_at_most None n low = omega arith
some_at_most (Some k) n low = low k refl

-- each pointer has the rank of what it is bound to
pub record AreRanks {K : Type 0} (same : K → K → Bool) (of : Fixup → K) (fixups : List Fixup) (keys : List K) (numbers : List ℕ) : Type 0 where
  pub size : length numbers ≡ length fixups
  pub is : (k : ℕ) (f : Fixup) (n : ℕ) → k < length fixups → is_bound (get_or fixups k f).goal ≡ true → get_or numbers k n ≡ rank_in same keys (of (get_or fixups k f))
  pub small : (k : ℕ) (n : ℕ) → k < length fixups → get_or numbers k n ≤ length keys

rank_low : {K : Type 0} (same : K → K → Bool) (keys : List K) (key : K) → rank_in same keys key ≤ length keys
unfolding rank_in
rank_low same keys key = by (position_or_len (same key) keys) (length keys) (nat_lt (position_or_len (same key) keys) (length keys)) refl
  where
    by : (m n : ℕ) (b : Bool) → nat_lt m n ≡ b → unwrap_or (if b then Some m else None) 0 ≤ n
    by m n true e = omega (arith, ltb-true m n e)
    by m n false e = omega arith

pub numbers_ranked : {K : Type 0} (same : K → K → Bool) (of : Fixup → K) (fixups : List Fixup) (keys used : List K) (places ranks : List ℕ) → ArePlaces of fixups used places → ranks ≡ map (rank_in same keys) used → AreRanks same of fixups keys (map (λ (place : ℕ). get_or ranks place 0) places)
numbers_ranked {K = K} same of fixups keys used places ranks are ranks_are = record {
  size = same_size (λ (place : ℕ). get_or ranks place 0) places ∙ are.size;
  is = λ k f n low holds.
      let stands = (are.each k f 0 low).there holds in
      at_rank k n low ∙ mapped (rank_in same keys) used (get_or places k 0) 0 (of (get_or fixups k f)) stands.within ∙ ap (rank_in same keys) (stands.is (of (get_or fixups k f)));
  small = λ k n low. subst (λ (m : ℕ). m ≤ length keys) (sym (at_rank k n low)) (at_most (rank_in same keys) (length keys) (rank_low same keys) used (get_or places k 0));
}
  where
    at_rank : (k n : ℕ) → k < length fixups → get_or (map (λ (place : ℕ). get_or ranks place 0) places) k n ≡ get_or (map (rank_in same keys) used) (get_or places k 0) 0
    at_rank k n low =
        mapped (λ (place : ℕ). get_or ranks place 0) places k n 0 (let m = are.size in omega (arith, m, low))
        ∙ ap (λ (ns : List ℕ). get_or ns (get_or places k 0) 0) ranks_are
