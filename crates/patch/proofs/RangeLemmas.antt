-- Atoms are placed one after the other, and the fault of the least key is kept.
use Rattle.std.proofs.Common.{◌≡◌, ℕ, ◌+◌, ◌-◌, ◌<◌, ◌≤◌, ◌⊎◌, inl, inr, List, ◌++◌, length, take, drop, get_or, slice_index, Bool, true, false, Option, Some, None, Result, Ok, Err, IfErr, OnOk, refl, sym, ap, ◌∙◌, subst, arith, length-drop}
use borrow.Author.Count.{below_more}
use borrow.Rule.Slice.PartMut.{put_mid, post_of}
use Rattle.std.specs.Prelude.{All, Contains}
use Rattle.std.specs.Ordering.{is_gt}
use Rattle.std.proofs.Math.Seq.{take-append_seam, drop-append_seam}
use Rattle.std.proofs.lemmas.List.{ext_get_or, get_or-drop, get_or-take, length-take, length-take-le, take_all}
use Rattle.std.proofs.lemmas.List.Elements.{All-more, All-nil, All-weaker, at_read}
use Rattle.mo_types.specs.Keys.{compare_keys}
use Rattle.mo_types.specs.declared.key.AtomKey.{AtomKey}
use Rattle.mo_types.specs.declared.loaded.LoadedFile.{LoadedFile}
use Rattle.patch.specs.declared.met.Met.{Met}
use Rattle.patch.specs.declared.met.RangeFault.{RangeFault}
use Rattle.patch.specs.declared.range.Fault.{Fault}
use Rattle.patch.specs.declared.range.Trouble.{Trouble}
use Rattle.patch.specs.declared.range.Trouble.TheVariants as trouble
use Rattle.patch.specs.declared.range.PlacedWork.{PlacedWork}
use Rattle.patch.specs.Patched.{AreFields, ArePatched, IsFirstFault}
use Rattle.patch.specs.Range.{AllFit, AreStanding, AreWork, HasFields, IsBeside, IsLeastFault, IsPlaced, IsSameBeside, IsStanding, IsUpTo, bytes_of, part_of}
use Rattle.patch.specs.inner.Found.{IsBesideOne, IsLeastSo, IsOnePatched, lesser}
use Rattle.patch.proofs.KeyLemmas.{itself, through, turned_round}

-- what is put into a part of a list
put_there : (at k : ℕ) (xs ys : List ℕ) → at ≤ length xs → length ys ≡ k → take k (drop at (put_mid at k xs ys)) ≡ ys
put_there at k xs ys room same =
    let front : length (take at xs) ≡ at = length-take-le at xs room in
    let behind : drop at (take at xs ++ (ys ++ post_of at k xs)) ≡ ys ++ post_of at k xs =
    ap (λ (m : ℕ). drop m (take at xs ++ (ys ++ post_of at k xs))) (sym front) ∙ drop-append_seam (take at xs) (ys ++ post_of at k xs) in
    ap (λ (zs : List ℕ). take k zs) behind ∙ ap (λ (m : ℕ). take m (ys ++ post_of at k xs)) (sym same) ∙ take-append_seam ys (post_of at k xs)

pub placed : (files : List LoadedFile) (mets : List Met) (from : ℕ) (item : PlacedWork) (piece contents patched : List ℕ) (at k : ℕ) (r : Result (Unit {0}) RangeFault)
    → IsStanding files from (length piece) item → at ≡ item.at - from → contents ≡ bytes_of files item → k ≡ length contents
    → OnOk r (ArePatched item.address mets contents patched) → OnOk r (IsPlaced files (λ _. mets) from (put_mid at k piece patched) item)
unfolding part_of
placed files mets from item piece contents patched at k (Ok x) work place is size patches =
    let long : length contents ≡ length (bytes_of files item) = ap length is in
    let there : take (length (bytes_of files item)) (drop (item.at - from) (put_mid at k piece patched)) ≡ patched =
    ap (λ (m : ℕ). take m (drop (item.at - from) (put_mid at k piece patched))) (sym long ∙ sym size)
    ∙ ap (λ (m : ℕ). take k (drop m (put_mid at k piece patched))) (sym place)
    ∙ put_there at k piece patched (omega (arith, work.begins, work.ends)) (patches.size ∙ sym size) in
    subst (λ (z : List ℕ). ArePatched item.address mets (bytes_of files item) z) (sym there)
    (subst (λ (z : List ℕ). ArePatched item.address mets z patched) is patches)
placed files mets from item piece contents patched at k (Err e) work place is size patches = tt

on_ok : {A E : Type 0} (r : Result A E) (x : A) (P : Type 0) → OnOk r P → r ≡ Ok x → P
on_ok (Ok y) x P h e = h
on_ok (Err y) x P h e = absurd cc

if_err : {A E : Type 0} (r : Result A E) (x : E) (P : E → Type 0) → IfErr r P → r ≡ Err x → P x
if_err (Ok y) x P h e = absurd cc
if_err (Err y) x P h e = let same : y ≡ x = cc in subst P same h

-- ---- one atom, whose references were met

pub fields_met : (files : List LoadedFile) (mets : PlacedWork → List Met) (item : PlacedWork) (met : List Met) → met ≡ mets item → HasFields files mets item → AreFields item.address (length (bytes_of files item)) met
fields_met files mets item met is fields = subst (λ (z : List Met). AreFields item.address (length (bytes_of files item)) z) (sym is) fields

pub one_patched : (files : List LoadedFile) (mets : PlacedWork → List Met) (from : ℕ) (item : PlacedWork) (new : List ℕ) (met : List Met) (r : Result (Unit {0}) RangeFault) → met ≡ mets item → OnOk r (IsPlaced files (λ _. met) from new item) → r ≡ Ok tt → IsOnePatched files mets from new item (Ok tt)
one_patched files mets from item new met r is ok e =
    subst (λ (z : List Met). ArePatched item.address z (bytes_of files item) (part_of files from item new)) is
    (on_ok r tt (IsPlaced files (λ _. met) from new item) ok e)

pub one_at_fault : (files : List LoadedFile) (mets : PlacedWork → List Met) (from : ℕ) (item : PlacedWork) (new : List ℕ) (met : List Met) (r : Result (Unit {0}) RangeFault) (fault : RangeFault) → met ≡ mets item → IfErr r (IsFirstFault item.address (bytes_of files item) met) → r ≡ Err fault → IsOnePatched files mets from new item (Err (trouble.Range fault))
one_at_fault files mets from item new met r fault is err e =
    subst (λ (z : List Met). IsFirstFault item.address (bytes_of files item) z fault) is
    (if_err r fault (IsFirstFault item.address (bytes_of files item) met) err e)

-- ---- the fault of the least key

contains_more : (work : List PlacedWork) (at : ℕ) (item : PlacedWork) → at < length work → Contains (take at work) item → Contains (take (at + 1) work) item
contains_more work at item within (k, low, is) =
    let a : length (take at work) ≡ at = length-take-le at work (omega arith) in
    let b : length (take (at + 1) work) ≡ at + 1 = length-take-le (at + 1) work (omega arith) in
    (k, omega arith, get_or-take (at + 1) work k item (omega arith) ∙ sym (get_or-take at work k item (omega arith)) ∙ is)

contains_last : (work : List PlacedWork) (at : ℕ) (item : PlacedWork) → at < length work → item ≡ get_or work at item → Contains (take (at + 1) work) item
contains_last work at item within is =
    let b : length (take (at + 1) work) ≡ at + 1 = length-take-le (at + 1) work (omega arith) in
    (at, omega arith, get_or-take (at + 1) work at item (omega arith) ∙ sym is)

all_more : (P : PlacedWork → Type 0) (work : List PlacedWork) (at : ℕ) (item : PlacedWork) → at < length work → item ≡ get_or work at item → All P (take at work) → P item → All P (take (at + 1) work)
all_more P work at item within is all holds = All-more P work at item within all (at_read work P at item within is holds item)

keeps : (files : List LoadedFile) (mets : PlacedWork → List Met) (work : List PlacedWork) (at : ℕ) (item : PlacedWork) → at < length work → item ≡ get_or work at item → AllFit files mets item → (least : Option Fault) → IsLeastSo files mets (take at work) least → IsLeastSo files mets (take (at + 1) work) least
keeps files mets work at item within is fit None all = all_more (AllFit files mets) work at item within is all fit
keeps files mets work at item within is fit (Some fault) (first, it) = (
  first,
  record {
    among = contains_more work at first within it.among;
    of_item = it.of_item;
    fails = it.fails;
    least = all_more (λ other. AllFit files mets other ⊎ IsUpTo fault.key other.atom.key) work at item within is it.least (inl fit);
  },
)

newest : (files : List LoadedFile) (mets : PlacedWork → List Met) (work : List PlacedWork) (at : ℕ) (item : PlacedWork) (fault : Fault) → at < length work → item ≡ get_or work at item → fault.key ≡ item.atom.key → IsFirstFault item.address (bytes_of files item) (mets item) fault.fault → All (λ other. AllFit files mets other ⊎ IsUpTo fault.key other.atom.key) (take at work) → IsLeastFault files mets (take (at + 1) work) fault.key fault.fault
newest files mets work at item fault within is key fails all = (
  item,
  record {
    among = contains_last work at item within is;
    of_item = key;
    fails = fails;
    least = all_more (λ other. AllFit files mets other ⊎ IsUpTo fault.key other.atom.key) work at item within is all
        (inr (subst (λ (k : AtomKey). IsUpTo fault.key k) key (itself fault.key)));
  },
)

lower : (files : List LoadedFile) (mets : PlacedWork → List Met) (low high : AtomKey) (other : PlacedWork) → IsUpTo low high → AllFit files mets other ⊎ IsUpTo high other.atom.key → AllFit files mets other ⊎ IsUpTo low other.atom.key
lower files mets low high other h (inl fit) = inl fit
lower files mets low high other h (inr above) = inr (through low high other.atom.key h above)

takes : (files : List LoadedFile) (mets : PlacedWork → List Met) (work : List PlacedWork) (at : ℕ) (item : PlacedWork) (fault : Fault) → at < length work → item ≡ get_or work at item → fault.key ≡ item.atom.key → IsFirstFault item.address (bytes_of files item) (mets item) fault.fault
    → (least : Option Fault) → IsLeastSo files mets (take at work) least → IsLeastSo files mets (take (at + 1) work) (lesser least fault)
takes files mets work at item fault within is key fails None all =
    newest files mets work at item fault within is key fails
    (All-weaker (AllFit files mets) (λ other. AllFit files mets other ⊎ IsUpTo fault.key other.atom.key) (λ other fit. inl fit) (take at work) all)
takes files mets work at item fault within is key fails (Some other) (first, it) = chosen (is_gt (compare_keys other.key fault.key)) refl
  where
    chosen : (b : Bool) → is_gt (compare_keys other.key fault.key) ≡ b → IsLeastSo files mets (take (at + 1) work) (lesser (Some other) fault)
    chosen true e = rw e (newest files mets work at item fault within is key fails
        (All-weaker (λ o. AllFit files mets o ⊎ IsUpTo other.key o.atom.key) (λ o. AllFit files mets o ⊎ IsUpTo fault.key o.atom.key)
        (λ o h. lower files mets fault.key other.key o (turned_round other.key fault.key e) h) (take at work) it.least))
    chosen false e = rw e (
      first,
      record {
        among = contains_more work at first within it.among;
        of_item = it.of_item;
        fails = it.fails;
        least = all_more (λ o. AllFit files mets o ⊎ IsUpTo other.key o.atom.key) work at item within is it.least
            (inr (subst (λ (k : AtomKey). IsUpTo other.key k) key e));
      },
    )

never_none : (least : Option Fault) (fault : Fault) → lesser least fault ≡ None → ⊥
never_none None fault e = cc
never_none (Some other) fault e = chosen (is_gt (compare_keys other.key fault.key)) refl
  where
    chosen : (b : Bool) → is_gt (compare_keys other.key fault.key) ≡ b → ⊥
    chosen true h = let some : lesser (Some other) fault ≡ Some fault = rw h refl in cc
    chosen false h = let some : lesser (Some other) fault ≡ Some other = rw h refl in cc

-- ---- atoms placed one after the other

-- the atoms before a place stand in the piece with their fields, or a value of theirs doesn't fit
pub record IsPlacing (files : List LoadedFile) (mets : PlacedWork → List Met) (from : ℕ) (old : List ℕ) (work : List PlacedWork) (at : ℕ) (now : List ℕ) (least : Option Fault) : Type 0 where
  pub size : length now ≡ length old
  pub within : at ≤ length work
  pub others : (k : ℕ) → ((j : ℕ) (d : PlacedWork) → j < at → IsBeside files from k (get_or work j d)) → slice_index now k ≡ slice_index old k
  pub placed : least ≡ None → (j : ℕ) (d : PlacedWork) → j < at → IsPlaced files mets from now (get_or work j d)
  pub faults : IsLeastSo files mets (take at work) least

pub placing_starts : (files : List LoadedFile) (mets : PlacedWork → List Met) (from : ℕ) (old : List ℕ) (work : List PlacedWork) → IsPlacing files mets from old work 0 old None
placing_starts files mets from old work = record {
  size = refl;
  within = omega arith;
  others = λ k beside. refl;
  placed = λ e j d low. absurd (omega arith);
  faults = All-nil (AllFit files mets);
}

pub work_there : (files : List LoadedFile) (mets : PlacedWork → List Met) (from size n : ℕ) (work : List PlacedWork) (at : ℕ) (item : PlacedWork) → AreWork files mets from size work → at < length work → item ≡ get_or work at item → n ≡ size → IsStanding files from n item
work_there files mets from size n work at item are within is e =
    subst (λ (m : ℕ). IsStanding files from m item) (sym e) (subst (λ (it : PlacedWork). IsStanding files from size it) (sym is) (are.stand.items at item within))

pub fields_there : (files : List LoadedFile) (mets : PlacedWork → List Met) (from size : ℕ) (work : List PlacedWork) (at : ℕ) (item : PlacedWork) → AreWork files mets from size work → at < length work → item ≡ get_or work at item → HasFields files mets item
fields_there files mets from size work at item are within is = subst (HasFields files mets) (sym is) (are.fields at item within)

-- the part of an atom that stands before another one stays
part_stays : (files : List LoadedFile) (mets : PlacedWork → List Met) (from size : ℕ) (a item : PlacedWork) (now new : List ℕ) → IsStanding files from size a → a.at + length (bytes_of files a) ≤ item.at → IsBesideOne files from item now new → part_of files from a new ≡ part_of files from a now
unfolding part_of
part_stays files mets from size a item now new work before beside =
    let k : ℕ = length (bytes_of files a) in
    let p : ℕ = a.at - from in
    let same : length (take k (drop p new)) ≡ length (take k (drop p now)) = rw (length-take, length-take, length-drop, length-drop, beside.size) refl in
    let few : length (take k (drop p new)) ≤ k = rw length-take (omega arith) in
    ext_get_or 0 (take k (drop p new)) (take k (drop p now)) same
    (λ i low. get_or-take k (drop p new) i 0 (omega arith) ∙ get_or-drop p new i 0
    ∙ beside.others (p + i) (inl (omega (arith, work.begins)))
    ∙ sym (get_or-take k (drop p now) i 0 (omega arith) ∙ get_or-drop p now i 0))

before_it : (files : List LoadedFile) (mets : PlacedWork → List Met) (from size : ℕ) (work : List PlacedWork) (j at : ℕ) (d item : PlacedWork) → AreStanding files from size work → j < at → at < length work → item ≡ get_or work at item → (get_or work j d).at + length (bytes_of files (get_or work j d)) ≤ item.at
before_it files mets from size work j at d item are low within is =
    let there : get_or work at d ≡ item = at_read work (λ it. it ≡ item) at item within is refl d in
    subst (λ (it : PlacedWork). (get_or work j d).at + length (bytes_of files (get_or work j d)) ≤ it.at) there (are.in_order j at d low within)

still_placed : (files : List LoadedFile) (mets : PlacedWork → List Met) (from : ℕ) (old : List ℕ) (work : List PlacedWork) (at : ℕ) (now new : List ℕ) (item : PlacedWork) → AreStanding files from (length old) work → at < length work → item ≡ get_or work at item → IsBesideOne files from item now new → (j : ℕ) (d : PlacedWork) → j < at → IsPlaced files mets from now (get_or work j d) → IsPlaced files mets from new (get_or work j d)
still_placed files mets from old work at now new item are within is beside j d low placed =
    subst (λ (z : List ℕ). ArePatched (get_or work j d).address (mets (get_or work j d)) (bytes_of files (get_or work j d)) z)
    (sym (part_stays files mets from (length old) (get_or work j d) item now new (are.items j d (omega arith)) (before_it files mets from (length old) work j at d item are low within is) beside))
    placed

others_stay : (files : List LoadedFile) (mets : PlacedWork → List Met) (from : ℕ) (old : List ℕ) (work : List PlacedWork) (at : ℕ) (now new : List ℕ) (least : Option Fault) (item : PlacedWork) → IsPlacing files mets from old work at now least → item ≡ get_or work at item → IsBesideOne files from item now new → (k : ℕ) → ((j : ℕ) (d : PlacedWork) → j < at + 1 → IsBeside files from k (get_or work j d)) → slice_index new k ≡ slice_index old k
others_stay files mets from old work at now new least item placing is beside k out =
    beside.others k (subst (λ (it : PlacedWork). IsBeside files from k it) (sym is) (out at item (omega arith)))
    ∙ placing.others k (λ j d low. out j d (omega arith))

fits_where_placed : (files : List LoadedFile) (mets : PlacedWork → List Met) (from : ℕ) (new : List ℕ) (item : PlacedWork) → IsPlaced files mets from new item → AllFit files mets item
fits_where_placed files mets from new item placed = λ k d low. (_, placed.fields k d low)

below_at : (P : PlacedWork → Type 0) (work : List PlacedWork) (at : ℕ) (item : PlacedWork) → at < length work → item ≡ get_or work at item → ((j : ℕ) (d : PlacedWork) → j < at → P (get_or work j d)) → P item → (j : ℕ) (d : PlacedWork) → j < at + 1 → P (get_or work j d)
below_at P work at item within is below here j d low = below_more (λ k. (e : PlacedWork) → P (get_or work k e)) at (λ k less e. below k e less) (λ e. at_read work P at item within is here e) j low d

pub placing_goes_on : (files : List LoadedFile) (mets : PlacedWork → List Met) (from : ℕ) (old : List ℕ) (work : List PlacedWork) (at : ℕ) (now new : List ℕ) (least : Option Fault) (item : PlacedWork) (r : Result (Unit {0}) Trouble) → IsPlacing files mets from old work at now least → AreWork files mets from (length old) work → at < length work → item ≡ get_or work at item → IsBesideOne files from item now new → IsOnePatched files mets from new item r → r ≡ Ok tt → IsPlacing files mets from old work (at + 1) new least
placing_goes_on files mets from old work at now new least item r placing are within is beside patched e = go (subst (IsOnePatched files mets from new item) e patched)
  where
    go : IsOnePatched files mets from new item (Ok tt) → IsPlacing files mets from old work (at + 1) new least
    go here = record {
      size = beside.size ∙ placing.size;
      within = omega arith;
      others = others_stay files mets from old work at now new least item placing is beside;
      placed = λ none. below_at (IsPlaced files mets from new) work at item within is
          (λ j d low. still_placed files mets from old work at now new item are.stand within is beside j d low (placing.placed none j d low)) here;
      faults = keeps files mets work at item within is (fits_where_placed files mets from new item here) least placing.faults;
    }

pub placing_fails : (files : List LoadedFile) (mets : PlacedWork → List Met) (from : ℕ) (old : List ℕ) (work : List PlacedWork) (at : ℕ) (now new : List ℕ) (least : Option Fault) (item : PlacedWork) (r : Result (Unit {0}) Trouble) (why : Trouble) (fault : RangeFault) (made : Fault) (chosen : Option Fault) → IsPlacing files mets from old work at now least → at < length work → item ≡ get_or work at item → IsBesideOne files from item now new → IsOnePatched files mets from new item r → r ≡ Err why → why ≡ trouble.Range fault → made ≡ record { key = item.atom.key; fault = fault } → chosen ≡ lesser least made → IsPlacing files mets from old work (at + 1) new chosen
placing_fails files mets from old work at now new least item r why fault made chosen placing within is beside patched e is_why is_made is_chosen = go (subst (IsOnePatched files mets from new item) (e ∙ ap Err is_why) patched)
  where
    go : IsOnePatched files mets from new item (Err (trouble.Range fault)) → IsPlacing files mets from old work (at + 1) new chosen
    go fails = record {
      size = beside.size ∙ placing.size;
      within = omega arith;
      others = others_stay files mets from old work at now new least item placing is beside;
      placed = λ none. absurd (never_none least made (sym is_chosen ∙ none));
      faults = subst (IsLeastSo files mets (take (at + 1) work)) (sym is_chosen)
          (takes files mets work at item made within is (ap (λ (f : Fault). f.key) is_made)
          (subst (λ (f : RangeFault). IsFirstFault item.address (bytes_of files item) (mets item) f) (ap (λ (f : Fault). f.fault) (sym is_made)) fails)
          least placing.faults);
    }

-- the piece is as it was beside all atoms, where placing stops at one
pub placing_stops : (files : List LoadedFile) (mets : PlacedWork → List Met) (from : ℕ) (old : List ℕ) (work : List PlacedWork) (at : ℕ) (now new : List ℕ) (least : Option Fault) (item : PlacedWork) → IsPlacing files mets from old work at now least → at < length work → item ≡ get_or work at item → IsBesideOne files from item now new → IsSameBeside files from work old new
placing_stops files mets from old work at now new least item placing within is beside = record {
  size = beside.size ∙ placing.size;
  others = λ k out. others_stay files mets from old work at now new least item placing is beside k (λ j d low. out j d (omega (arith, within)));
}

pub placing_is_beside : (files : List LoadedFile) (mets : PlacedWork → List Met) (from : ℕ) (old : List ℕ) (work : List PlacedWork) (at : ℕ) (now : List ℕ) (least : Option Fault) → IsPlacing files mets from old work at now least → length work ≤ at → IsSameBeside files from work old now
placing_is_beside files mets from old work at now least placing past = record {
  size = placing.size;
  others = λ k out. placing.others k (λ j d low. out j d (omega (arith, placing.within)));
}

pub all_placed : (files : List LoadedFile) (mets : PlacedWork → List Met) (from : ℕ) (old : List ℕ) (work : List PlacedWork) (at : ℕ) (now : List ℕ) (least : Option Fault) → IsPlacing files mets from old work at now least → length work ≤ at → least ≡ None → All (IsPlaced files mets from now) work
all_placed files mets from old work at now least placing past none = λ j d low. placing.placed none j d (omega arith)

pub one_fails : (files : List LoadedFile) (mets : PlacedWork → List Met) (from : ℕ) (old : List ℕ) (work : List PlacedWork) (at : ℕ) (now : List ℕ) (least : Option Fault) → IsPlacing files mets from old work at now least → length work ≤ at → IsLeastSo files mets work least
one_fails files mets from old work at now least placing past = subst (λ (z : List PlacedWork). IsLeastSo files mets z least) (take_all at work past) placing.faults

pub ruleset ranges = (placing_starts, work_there, fields_there, placing_is_beside, all_placed)

pub least_fault : (files : List LoadedFile) (mets : PlacedWork → List Met) (work : List PlacedWork) (least : Option Fault) (fault : Fault) → IsLeastSo files mets work least → least ≡ Some fault → IsLeastFault files mets work fault.key fault.fault
least_fault files mets work least fault so some = subst (IsLeastSo files mets work) some so

pub ruleset answers = (least_fault)

pub ruleset ones = (fields_met, one_patched, one_at_fault)
