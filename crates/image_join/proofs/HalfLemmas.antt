-- A piece of an image that is filled half by half is filled.
use Rattle.std.proofs.Common.{◌≡◌, ℕ, ◌+◌, ◌-◌, ◌<◌, ◌≤◌, ◌⊎◌, inl, inr, List, ◌++◌, length, take, drop, get_or, slice_index, Bool, true, false, Result, Ok, Err, refl, sym, ap, ◌∙◌, subst, add-zero, arith, length-append, length-drop}
use Rattle.std.specs.Prelude.{All, Contains}
use Rattle.std.specs.List.{AllPairs}
use Rattle.std.specs.Ordering.{is_gt}
use Rattle.std.proofs.Math.Seq.{drop-append-add}
use Rattle.std.proofs.lemmas.Bool.{cases_lt}
use Rattle.std.proofs.lemmas.List.{drop-append-le, get_or-append_right, get_or_append_left, get_or-drop, get_or-take, length-take-le, take-append-drop, take-append-le}
use Rattle.std.proofs.lemmas.List.Elements.{All-append, All-drop, All-take, All-weaker}
use Rattle.mo_types.specs.Keys.{compare_keys}
use Rattle.mo_types.specs.declared.key.AtomKey.{AtomKey}
use Rattle.mo_types.specs.declared.loaded.LoadedFile.{LoadedFile}
use Rattle.patch.specs.declared.met.Met.{Met}
use Rattle.patch.specs.declared.met.RangeFault.{RangeFault}
use Rattle.patch.specs.declared.range.PatchFault.{PatchFault}
use Rattle.patch.specs.declared.range.PatchFault.TheVariants.{Range, OutOfMemory}
use Rattle.patch.specs.declared.range.PlacedWork.{PlacedWork}
use Rattle.patch.specs.Patched.{ArePatched}
use Rattle.patch.specs.Range.{AllFit, AreWork, HasFields, IsBeside, IsLeastFault, IsPlaced, IsSameBeside, IsStanding, IsUpTo, bytes_of, part_of}
use Rattle.patch.proofs.KeyLemmas.{through, turned_round}
use Rattle.image_join.specs.inner.Halves.{IsFilled, least_of}
use Rattle.patch.proofs.LeastLemmas.{element_at}

-- ---- the atoms of each half

pairs_before : {X : Type 0} (R : X → X → Type 0) (n : ℕ) (xs : List X) → n ≤ length xs → AllPairs R xs → AllPairs R (take n xs)
pairs_before R n xs room all i j d low high =
    let long : length (take n xs) ≡ n = length-take-le n xs room in
    subst (λ x. R x (get_or (take n xs) j d)) (sym (get_or-take n xs i d (omega arith)))
    (subst (λ y. R (get_or xs i d) y) (sym (get_or-take n xs j d (omega arith))) (all i j d low (omega arith)))

pairs_behind : {X : Type 0} (R : X → X → Type 0) (n : ℕ) (xs : List X) → n ≤ length xs → AllPairs R xs → AllPairs R (drop n xs)
pairs_behind R n xs room all i j d low high =
    let long : length (drop n xs) ≡ length xs - n = length-drop n xs in
    subst (λ x. R x (get_or (drop n xs) j d)) (sym (get_or-drop n xs i d))
    (subst (λ y. R (get_or xs (n + i) d) y) (sym (get_or-drop n xs j d)) (all (n + i) (n + j) d (omega arith) (omega arith)))

-- the work is cut before the atom at a place, which begins at an offset of the file
pub record IsCut (files : List LoadedFile) (mets : PlacedWork → List Met) (from size : ℕ) (work : List PlacedWork) (at seam : ℕ) : Type 0 where
  pub some : PlacedWork
  pub work_is : AreWork files mets from size work
  pub within : at < length work
  pub begins : (d : PlacedWork) → (get_or work at d).at ≡ seam

seam_inside : (files : List LoadedFile) (mets : PlacedWork → List Met) (from size : ℕ) (work : List PlacedWork) (at seam : ℕ) (d : PlacedWork) → IsCut files mets from size work at seam → (from ≤ seam) × (seam ≤ from + size)
seam_inside files mets from size work at seam d cut =
    let it : IsStanding files from size (get_or work at d) = cut.work_is.stand.items at d cut.within in
    let here : (get_or work at d).at ≡ seam = cut.begins d in
    (omega (arith, it.begins), omega (arith, it.ends))

ends_before : (files : List LoadedFile) (mets : PlacedWork → List Met) (from size : ℕ) (work : List PlacedWork) (at seam : ℕ) (k : ℕ) (d : PlacedWork) → IsCut files mets from size work at seam → k < at → (get_or work k d).at + length (bytes_of files (get_or work k d)) ≤ seam
ends_before files mets from size work at seam k d cut low =
    subst (λ (n : ℕ). (get_or work k d).at + length (bytes_of files (get_or work k d)) ≤ n) (cut.begins d) (cut.work_is.stand.in_order k at d low cut.within)

begins_behind : (files : List LoadedFile) (mets : PlacedWork → List Met) (from size : ℕ) (work : List PlacedWork) (at seam : ℕ) (k : ℕ) (d : PlacedWork) → IsCut files mets from size work at seam → at + k < length work → seam ≤ (get_or work (at + k) d).at
begins_behind files mets from size work at seam k d cut high = elim (cases_lt 0 k) [
  | inl later ↦
      let ordered : (get_or work at d).at + length (bytes_of files (get_or work at d)) ≤ (get_or work (at + k) d).at = cut.work_is.stand.in_order at (at + k) d (omega arith) high in
      let here : (get_or work at d).at ≡ seam = cut.begins d in
      omega arith
  | inr none ↦
      let first : at + k ≡ at = omega arith in
      let here : (get_or work (at + k) d).at ≡ seam = ap (λ (n : ℕ). (get_or work n d).at) first ∙ cut.begins d in
      omega arith
]

pub low_work : (files : List LoadedFile) (mets : PlacedWork → List Met) (from size : ℕ) (work : List PlacedWork) (at seam n : ℕ) → IsCut files mets from size work at seam → n ≡ seam - from → AreWork files mets from n (take at work)
low_work files mets from size work at seam n cut e = record {
  stand = record {
    items = items;
    in_order = pairs_before (λ a b. a.at + length (bytes_of files a) ≤ b.at) at work (let w = cut.within in omega arith) cut.work_is.stand.in_order;
  };
  fields = All-take (HasFields files mets) at work cut.work_is.fields;
}
  where
    items : (k : ℕ) (d : PlacedWork) → k < length (take at work) → IsStanding files from n (get_or (take at work) k d)
    items k d low =
        let room : length (take at work) ≡ at = length-take-le at work (let w = cut.within in omega arith) in
        let below : k < at = omega arith in
        let it : IsStanding files from size (get_or work k d) = cut.work_is.stand.items k d (let w = cut.within in omega arith) in
        let last : (get_or work k d).at + length (bytes_of files (get_or work k d)) ≤ seam = ends_before files mets from size work at seam k d cut below in
        let start : from ≤ seam = (seam_inside files mets from size work at seam d cut).0 in
        subst (IsStanding files from n) (sym (get_or-take at work k d below)) (record {
          file = it.file;
          begins = it.begins;
          ends = omega arith;
        })

pub high_work : (files : List LoadedFile) (mets : PlacedWork → List Met) (from size : ℕ) (work : List PlacedWork) (at seam n : ℕ) → IsCut files mets from size work at seam → n + (seam - from) ≡ size → AreWork files mets seam n (drop at work)
high_work files mets from size work at seam n cut e = record {
  stand = record {
    items = items;
    in_order = pairs_behind (λ a b. a.at + length (bytes_of files a) ≤ b.at) at work (let w = cut.within in omega arith) cut.work_is.stand.in_order;
  };
  fields = All-drop (HasFields files mets) at work cut.work_is.fields;
}
  where
    items : (k : ℕ) (d : PlacedWork) → k < length (drop at work) → IsStanding files seam n (get_or (drop at work) k d)
    items k d low =
        let room : length (drop at work) ≡ length work - at = length-drop at work in
        let high : at + k < length work = omega arith in
        let it : IsStanding files from size (get_or work (at + k) d) = cut.work_is.stand.items (at + k) d high in
        let start : seam ≤ (get_or work (at + k) d).at = begins_behind files mets from size work at seam k d cut high in
        let low : from ≤ seam = (seam_inside files mets from size work at seam d cut).0 in
        let last : (get_or work (at + k) d).at + length (bytes_of files (get_or work (at + k) d)) ≤ from + size = it.ends in
        subst (IsStanding files seam n) (sym (get_or-drop at work k d)) (record {
          file = it.file;
          begins = start;
          ends = omega arith;
        })

-- ---- the bytes of both halves

-- an atom's part of the front, and of the back
part_in_front : (files : List LoadedFile) (from : ℕ) (item : PlacedWork) (front back : List ℕ) → (item.at - from) + length (bytes_of files item) ≤ length front → part_of files from item (front ++ back) ≡ part_of files from item front
unfolding part_of
part_in_front files from item front back room =
    let some : length (drop (item.at - from) front) ≡ length front - (item.at - from) = length-drop (item.at - from) front in
    ap (λ (z : List ℕ). take (length (bytes_of files item)) z) (drop-append-le (item.at - from) front back (omega arith))
    ∙ take-append-le (length (bytes_of files item)) (drop (item.at - from) front) back (omega arith)

part_in_back : (files : List LoadedFile) (from seam : ℕ) (item : PlacedWork) (front back : List ℕ) → length front + (item.at - seam) ≡ item.at - from → part_of files from item (front ++ back) ≡ part_of files seam item back
unfolding part_of
part_in_back files from seam item front back e =
    ap (λ (z : List ℕ). take (length (bytes_of files item)) z)
    (ap (λ (n : ℕ). drop n (front ++ back)) (sym e) ∙ drop-append-add front back (item.at - seam))

-- how the piece is cut, and its halves afterwards
pub record AreHalves (from seam : ℕ) (old front back new_front new_back : List ℕ) : Type 0 where
  pub whole : old ≡ front ++ back
  pub long : length front ≡ seam - from
  pub front_size : length new_front ≡ length front
  pub back_size : length new_back ≡ length back

both_beside : (files : List LoadedFile) (mets : PlacedWork → List Met) (from size : ℕ) (work : List PlacedWork) (at seam : ℕ) (old front back new_front new_back : List ℕ) (d : PlacedWork) → IsCut files mets from size work at seam → AreHalves from seam old front back new_front new_back
    → IsSameBeside files from (take at work) front new_front → IsSameBeside files seam (drop at work) back new_back → IsSameBeside files from work old (new_front ++ new_back)
both_beside files mets from size work at seam old front back new_front new_back d cut halves low high = record {
  size = rw (length-append, halves.front_size, halves.back_size) (sym (ap (λ (z : List ℕ). length z) halves.whole ∙ length-append front back));
  others = λ k out. elim (cases_lt k (length front)) [
    | inl before ↦
        get_or_append_left new_front new_back 0 k (let s = halves.front_size in omega arith)
        ∙ low.others k (All-take (IsBeside files from k) at work out)
        ∙ sym (get_or_append_left front back 0 k before)
        ∙ ap (λ (z : List ℕ). slice_index z k) (sym halves.whole)
    | inr behind ↦
        let start : from ≤ seam = (seam_inside files mets from size work at seam d cut).0 in
        let m : length front ≡ seam - from = halves.long in
        let there : seam + (k - length front) ≡ from + k = omega arith in
        get_or-append_right new_front new_back (length front) k 0 halves.front_size behind
        ∙ high.others (k - length front)
        (subst (λ (n : ℕ). All (λ item. (n < item.at) ⊎ (item.at + length (bytes_of files item) ≤ n)) (drop at work)) (sym there) (All-drop (IsBeside files from k) at work out))
        ∙ sym (get_or-append_right front back (length front) k 0 refl behind)
        ∙ ap (λ (z : List ℕ). slice_index z k) (sym halves.whole)
  ];
}

still : (files : List LoadedFile) (mets : PlacedWork → List Met) (from other : ℕ) (piece more : List ℕ) (item : PlacedWork) → part_of files other item more ≡ part_of files from item piece → IsPlaced files mets from piece item → IsPlaced files mets other more item
still files mets from other piece more item e placed = subst (λ (z : List ℕ). ArePatched item.address (mets item) (bytes_of files item) z) (sym e) placed

low_placed : (files : List LoadedFile) (mets : PlacedWork → List Met) (from size : ℕ) (work : List PlacedWork) (at seam : ℕ) (old front back new_front new_back : List ℕ) → IsCut files mets from size work at seam → AreHalves from seam old front back new_front new_back → All (IsPlaced files mets from new_front) (take at work) → All (IsPlaced files mets from (new_front ++ new_back)) (take at work)
low_placed files mets from size work at seam old front back new_front new_back cut halves all k d within =
    let room : length (take at work) ≡ at = length-take-le at work (let w = cut.within in omega arith) in
    let same : get_or (take at work) k d ≡ get_or work k d = get_or-take at work k d (omega arith) in
    let it : IsStanding files from size (get_or work k d) = cut.work_is.stand.items k d (let w = cut.within in omega arith) in
    let last : (get_or work k d).at + length (bytes_of files (get_or work k d)) ≤ seam = ends_before files mets from size work at seam k d cut (omega arith) in
    let start : from ≤ (get_or work k d).at = it.begins in
    let fits : ((get_or work k d).at - from) + length (bytes_of files (get_or work k d)) ≤ length new_front = (let m = halves.long in let s = halves.front_size in omega arith) in
    subst (IsPlaced files mets from (new_front ++ new_back)) (sym same)
    (still files mets from from new_front (new_front ++ new_back) (get_or work k d) (part_in_front files from (get_or work k d) new_front new_back fits)
    (subst (IsPlaced files mets from new_front) same (all k d within)))

high_placed : (files : List LoadedFile) (mets : PlacedWork → List Met) (from size : ℕ) (work : List PlacedWork) (at seam : ℕ) (old front back new_front new_back : List ℕ) → IsCut files mets from size work at seam → AreHalves from seam old front back new_front new_back → All (IsPlaced files mets seam new_back) (drop at work) → All (IsPlaced files mets from (new_front ++ new_back)) (drop at work)
high_placed files mets from size work at seam old front back new_front new_back cut halves all k d within =
    let room : length (drop at work) ≡ length work - at = length-drop at work in
    let same : get_or (drop at work) k d ≡ get_or work (at + k) d = get_or-drop at work k d in
    let start : seam ≤ (get_or work (at + k) d).at = begins_behind files mets from size work at seam k d cut (omega arith) in
    let low : from ≤ seam = (seam_inside files mets from size work at seam d cut).0 in
    let there : length new_front + ((get_or work (at + k) d).at - seam) ≡ (get_or work (at + k) d).at - from = (let m = halves.long in let s = halves.front_size in omega arith) in
    subst (IsPlaced files mets from (new_front ++ new_back)) (sym same)
    (still files mets seam from new_back (new_front ++ new_back) (get_or work (at + k) d) (part_in_back files from seam (get_or work (at + k) d) new_front new_back there)
    (subst (IsPlaced files mets seam new_back) same (all k d within)))

-- ---- the fault of both halves

fit_where_placed : (files : List LoadedFile) (mets : PlacedWork → List Met) (from : ℕ) (piece : List ℕ) (work : List PlacedWork) → All (IsPlaced files mets from piece) work → All (AllFit files mets) work
fit_where_placed files mets from piece work all = λ k d within j e low. (_, (all k d within).fields j e low)

contains_low : (at : ℕ) (work : List PlacedWork) (item : PlacedWork) → at ≤ length work → Contains (take at work) item → Contains work item
contains_low at work item room (k, low, is) =
    let long : length (take at work) ≡ at = length-take-le at work room in
    (k, omega arith, sym (get_or-take at work k item (omega arith)) ∙ is)

contains_high : (at : ℕ) (work : List PlacedWork) (item : PlacedWork) → at ≤ length work → Contains (drop at work) item → Contains work item
contains_high at work item room (k, low, is) =
    let long : length (drop at work) ≡ length work - at = length-drop at work in
    (at + k, omega arith, sym (get_or-drop at work k item) ∙ is)

both_halves : (P : PlacedWork → Type 0) (at : ℕ) (work : List PlacedWork) → All P (take at work) → All P (drop at work) → All P work
both_halves P at work low high = subst (All P) (take-append-drop at work) (All-append P (take at work) (drop at work) low high)

-- what is up to the greater of two keys is no less than the lesser
lower : (files : List LoadedFile) (mets : PlacedWork → List Met) (low high : AtomKey) (work : List PlacedWork) → IsUpTo low high → All (λ other. AllFit files mets other ⊎ IsUpTo high other.atom.key) work → All (λ other. AllFit files mets other ⊎ IsUpTo low other.atom.key) work
lower files mets low high work h all =
    All-weaker (λ other. AllFit files mets other ⊎ IsUpTo high other.atom.key) (λ other. AllFit files mets other ⊎ IsUpTo low other.atom.key) (λ other so. one other so) work all
  where
    one : (other : PlacedWork) → AllFit files mets other ⊎ IsUpTo high other.atom.key → AllFit files mets other ⊎ IsUpTo low other.atom.key
    one other (inl fit) = inl fit
    one other (inr above) = inr (through low high other.atom.key h above)

low_fault : (files : List LoadedFile) (mets : PlacedWork → List Met) (at : ℕ) (work : List PlacedWork) (key : AtomKey) (fault : RangeFault) → at ≤ length work → IsLeastFault files mets (take at work) key fault → All (λ other. AllFit files mets other ⊎ IsUpTo key other.atom.key) (drop at work) → IsLeastFault files mets work key fault
low_fault files mets at work key fault room (item, it) others = (
  item,
  record {
    among = contains_low at work item room it.among;
    of_item = it.of_item;
    fails = it.fails;
    least = both_halves (λ other. AllFit files mets other ⊎ IsUpTo key other.atom.key) at work it.least others;
  },
)

high_fault : (files : List LoadedFile) (mets : PlacedWork → List Met) (at : ℕ) (work : List PlacedWork) (key : AtomKey) (fault : RangeFault) → at ≤ length work → IsLeastFault files mets (drop at work) key fault → All (λ other. AllFit files mets other ⊎ IsUpTo key other.atom.key) (take at work) → IsLeastFault files mets work key fault
high_fault files mets at work key fault room (item, it) others = (
  item,
  record {
    among = contains_high at work item room it.among;
    of_item = it.of_item;
    fails = it.fails;
    least = both_halves (λ other. AllFit files mets other ⊎ IsUpTo key other.atom.key) at work others it.least;
  },
)

fitting : (files : List LoadedFile) (mets : PlacedWork → List Met) (key : AtomKey) (work : List PlacedWork) → All (AllFit files mets) work → All (λ other. AllFit files mets other ⊎ IsUpTo key other.atom.key) work
fitting files mets key work all = All-weaker (AllFit files mets) (λ other. AllFit files mets other ⊎ IsUpTo key other.atom.key) (λ other fit. inl fit) work all

-- ---- both halves together

pub filled_both : (files : List LoadedFile) (mets : PlacedWork → List Met) (from size : ℕ) (work : List PlacedWork) (at seam : ℕ) (old front back new_front new_back : List ℕ) (low high : Result (Unit {0}) (PatchFault)) → IsCut files mets from size work at seam → AreHalves from seam old front back new_front new_back
    → (d : PlacedWork) → IsFilled files mets from (take at work) front new_front low → IsFilled files mets seam (drop at work) back new_back high → IsFilled files mets from work old (new_front ++ new_back) (least_of low high)
filled_both files mets from size work at seam old front back new_front new_back low high cut halves d first second = by_answers low high first second
  where
    beside : (a b : Result (Unit {0}) (PatchFault)) → IsFilled files mets from (take at work) front new_front a → IsFilled files mets seam (drop at work) back new_back b → IsSameBeside files from work old (new_front ++ new_back)
    beside a b one other = both_beside files mets from size work at seam old front back new_front new_back d cut halves one.beside other.beside

    room : at ≤ length work
    room = let w = cut.within in omega arith

    chosen : (a b : AtomKey) (f g : RangeFault) (after : Bool) → is_gt (compare_keys a b) ≡ after → IsFilled files mets from (take at work) front new_front (Err (Range a f)) → IsFilled files mets seam (drop at work) back new_back (Err (Range b g)) → IsFilled files mets from work old (new_front ++ new_back) (least_of (Err (Range a f)) (Err (Range b g)))
    chosen a b f g true e one other = rw e (record {
      beside = beside (Err (Range a f)) (Err (Range b g)) one other;
      patched = high_fault files mets at work b g room other.patched (lower files mets b a (take at work) (turned_round a b e) one.patched.1.least);
    })
    chosen a b f g false e one other = rw e (record {
      beside = beside (Err (Range a f)) (Err (Range b g)) one other;
      patched = low_fault files mets at work a f room one.patched (lower files mets a b (drop at work) e other.patched.1.least);
    })

    by_answers : (a b : Result (Unit {0}) PatchFault) → IsFilled files mets from (take at work) front new_front a → IsFilled files mets seam (drop at work) back new_back b → IsFilled files mets from work old (new_front ++ new_back) (least_of a b)
    by_answers (Ok x) (Ok y) one other = record {
      beside = beside (Ok x) (Ok y) one other;
      patched = both_halves (IsPlaced files mets from (new_front ++ new_back)) at work
          (low_placed files mets from size work at seam old front back new_front new_back cut halves one.patched)
          (high_placed files mets from size work at seam old front back new_front new_back cut halves other.patched);
    }
    by_answers (Ok x) (Err (Range b g)) one other = record {
      beside = beside (Ok x) (Err (Range b g)) one other;
      patched = high_fault files mets at work b g room other.patched (fitting files mets b (take at work) (fit_where_placed files mets from new_front (take at work) one.patched));
    }
    by_answers (Ok x) (Err OutOfMemory) one other = record { beside = beside (Ok x) (Err OutOfMemory) one other; patched = tt }
    by_answers (Err OutOfMemory) high one other = record { beside = beside (Err OutOfMemory) high one other; patched = tt }
    by_answers (Err (Range a f)) (Ok y) one other = record {
      beside = beside (Err (Range a f)) (Ok y) one other;
      patched = low_fault files mets at work a f room one.patched (fitting files mets a (drop at work) (fit_where_placed files mets seam new_back (drop at work) other.patched));
    }
    by_answers (Err (Range a f)) (Err OutOfMemory) one other = record { beside = beside (Err (Range a f)) (Err OutOfMemory) one other; patched = tt }
    by_answers (Err (Range a f)) (Err (Range b g)) one other = chosen a b f g (is_gt (compare_keys a b)) refl one other

pub is_cut : (files : List LoadedFile) (mets : PlacedWork → List Met) (from size : ℕ) (work behind : List PlacedWork) (at : ℕ) (d : PlacedWork) → AreWork files mets from size work → at < length work → behind ≡ drop at work → IsCut files mets from size work at (get_or behind 0 d).at
is_cut files mets from size work behind at d are within is =
    let first : get_or behind 0 d ≡ get_or work at d = ap (λ (z : List PlacedWork). get_or z 0 d) is ∙ get_or-drop at work 0 d ∙ ap (λ (n : ℕ). get_or work n d) (add-zero at) in
    record {
      some = d;
      work_is = are;
      within = within;
      begins = λ e. ap (λ (item : PlacedWork). item.at) (element_at work at e d within ∙ sym first);
    }

pub halves_filled : (files : List LoadedFile) (mets : PlacedWork → List Met) (from size : ℕ) (work before behind : List PlacedWork) (at seam : ℕ) (old front back new_front new_back : List ℕ) (low high answer : Result (Unit {0}) (PatchFault))
    → IsCut files mets from size work at seam → before ≡ take at work → behind ≡ drop at work → old ≡ front ++ back → length front ≡ seam - from
    → IsFilled files mets from before front new_front low → IsFilled files mets seam behind back new_back high → answer ≡ least_of low high → IsFilled files mets from work old (new_front ++ new_back) answer
halves_filled files mets from size work before behind at seam old front back new_front new_back low high answer cut is_before is_behind whole long first second is =
    subst (IsFilled files mets from work old (new_front ++ new_back)) (sym is)
    (filled_both files mets from size work at seam old front back new_front new_back low high cut
    (record { whole = whole; long = long; front_size = first.beside.size; back_size = second.beside.size })
    cut.some
    (subst (λ (z : List PlacedWork). IsFilled files mets from z front new_front low) is_before first)
    (subst (λ (z : List PlacedWork). IsFilled files mets seam z back new_back high) is_behind second))
