-- The files of inputs: their ids, and what they are read as.
use Rattle.std.proofs.Common.{◌≡◌, ℕ, zero, suc, ◌+◌, ◌<◌, ◌≤◌, ◌^◌, ◌++◌, List, [], ◌∷◌, Option, Some, None, Result, Ok, Err, length, map, refl, sym, ap, ap₂, ◌∙◌, subst, inl, inr, arith, lit<}
use Rattle.std.specs.List.{AllByRecursion, flat_map, range_with_len}
use Rattle.std.specs.List.Sorted.{IsStrictlySortedBy}
use Rattle.std.specs.Ordering.{nat_cmp}
use Rattle.std.specs.declared.cmp.Ordering.TheVariants.{Less}
use Rattle.std.proofs.lemmas.Cmp.{nat_cmp_total, tied_itself}
use Rattle.list_lemmas.proofs.Members.{In, all_from_in, all_in, from_map, in_map, from_flat}
use Rattle.mo_types.specs.Keys.{compare_files}
use Rattle.mo_types.specs.Kind.{kind_of}
use Rattle.mo_types.specs.declared.cause.Feature.TheVariants.{Bitcode}
use Rattle.mo_types.specs.declared.key.FileId.{FileId}
use Rattle.mo_types.specs.declared.kind.Kind.{Kind}
use Rattle.mo_types.specs.declared.kind.Kind.TheVariants as kind
use Rattle.mo_types.specs.declared.loaded.LoadedFile.{LoadedFile}
use Rattle.mo_types.specs.declared.object.Object.{Object}
use Rattle.mo_types.specs.declared.object_fault.ObjFault.{ObjFault}
use Rattle.mo_ar.specs.Archive.{archive_of}
use Rattle.mo_ar.specs.declared.archive.Archive.{Archive}
use Rattle.mo_ar.proofs.LawLemmas.{archive_there}
use Rattle.mo_obj.specs.Object.{object_of}
use Rattle.input_files.specs.Files.{all_ids, archive_as, archive_in, content_of, fault_of, file_of, file_with, id_at, ids_as, ids_in, object_read, read_as, read_by}
use Rattle.input_files.specs.Sources.{AreInOrder}
use Rattle.input_files.specs.declared.input.Input.{Input}

-- ---- archives

few_of : (bytes : List ℕ) (archive : Archive) → archive_of bytes ≡ Ok archive → length archive.members < 2 ^ 20
few_of bytes archive is = (archive_there bytes archive is).3.few

few_as : (k : Kind) (bytes : List ℕ) (archive : Archive) → archive_as k bytes ≡ Some archive → length archive.members < 2 ^ 20
few_as kind.Archive bytes archive is = by (archive_of bytes) refl
  where
    by : (r : Result Archive ObjFault) → archive_of bytes ≡ r → length archive.members < 2 ^ 20
    by (Ok other) r = let s : Some other ≡ Some archive = rw r at is in let same : other ≡ archive = cc in few_of bytes archive (r ∙ ap Ok same)
    by (Err e) r = absurd (let s : None ≡ Some archive = rw r at is in cc)
few_as _ bytes archive is = absurd (let s : None ≡ Some archive = is in cc)

pub few_members : (input : Input) (archive : Archive) → archive_in input ≡ Some archive → length archive.members < 2 ^ 20
unfolding archive_in
few_members input archive is = few_as (kind_of input.bytes) input.bytes archive is

-- ---- what is read has the id

object_id : (id : FileId) (label : List ℕ) (r : Result Object ObjFault) (file : LoadedFile) → object_read id label r ≡ Ok file → file.id ≡ id
object_id id label (Ok object) file is = let s : Ok (file_with id label object) ≡ Ok file = is in let same : file_with id label object ≡ file = cc in sym (ap (λ (f : LoadedFile). f.id) same)
object_id id label (Err e) file is = absurd (let s : Err (fault_of label e) ≡ Ok file = is in cc)

read_id : (k : Kind) (id : FileId) (label bytes : List ℕ) (file : LoadedFile) → read_by k id label bytes ≡ Ok file → file.id ≡ id
read_id kind.MachO id label bytes file is = object_id id label (object_of bytes) file is
read_id (kind.Refused Bitcode) id label bytes file is = absurd (cc)
read_id _ id label bytes file is = absurd (cc)

-- what is read of a file's kind
pub read_by_kind : (id : FileId) (label bytes : List ℕ) (file : LoadedFile) → read_as id label bytes ≡ Ok file → read_by (kind_of bytes) id label bytes ≡ Ok file
unfolding read_as
read_by_kind id label bytes file is = is

pub id_kept : (inputs : List Input) (id : FileId) (file : LoadedFile) → file_of inputs id ≡ Ok file → file.id ≡ id
unfolding file_of
id_kept inputs id file is = read_id (kind_of (content_of inputs id).bytes) id (content_of inputs id).label (content_of inputs id).bytes file (read_by_kind id (content_of inputs id).label (content_of inputs id).bytes file is)

-- ---- ids

-- ids of one position from a member on
pub record AreOf (input : Input) (ids : List FileId) : Type 0 where
  pub position : (id : FileId) → In id ids → id.position ≡ input.position
  pub few : (id : FileId) → In id ids → id.member < 2 ^ 20
  pub rise : IsStrictlySortedBy compare_files ids

less_members : (input : Input) (m n : ℕ) → m < n → compare_files (id_at input m) (id_at input n) ≡ Less
less_members input m n low = rw (tied_itself nat_cmp_total input.position) (less_number m n low)
  where
    less_number : (m n : ℕ) → m < n → nat_cmp m n ≡ Less
    less_number m n low = grind arith

in_range : (n a k : ℕ) → In k (range_with_len a n) → (a ≤ k) × (k < a + n)
in_range zero a k there = absurd there
in_range (suc n) a k (inl e) = (omega (arith, e), omega (arith, e))
in_range (suc n) a k (inr later) = let r = in_range n (a + 1) k later in (omega (arith, r.0), omega (arith, r.1))

range_rises : (input : Input) (n a : ℕ) → IsStrictlySortedBy compare_files (map (id_at input) (range_with_len a n))
unfolding IsStrictlySortedBy
range_rises input zero a = tt
range_rises input (suc n) a = (
  all_from_in (λ (id : FileId). compare_files (id_at input a) id ≡ Less) (map (id_at input) (range_with_len (a + 1) n)) (λ id there.
      let from = from_map (id_at input) (range_with_len (a + 1) n) id there in
      let low : a < from.0 = (let r = in_range n (a + 1) from.0 from.1 in omega (arith, r.0)) in
      ap (compare_files (id_at input a)) (sym from.2) ∙ less_members input a from.0 low),
  range_rises input n (a + 1),
)

ids_by : (input : Input) (o : Option Archive) → archive_in input ≡ o → AreOf input (ids_as input o)
unfolding IsStrictlySortedBy
ids_by input None is = record {
  position = λ id there. elim there [
    | inl e ↦ ap (λ (i : FileId). i.position) (sym e)
    | inr never ↦ absurd never
  ];
  few = λ id there. elim there [
    | inl e ↦ subst (λ (i : FileId). i.member < 2 ^ 20) e (lit< tt)
    | inr never ↦ absurd never
  ];
  rise = (tt, tt);
}
ids_by input (Some archive) is = record {
  position = λ id there. let from = from_map (id_at input) (range_with_len 1 (length archive.members)) id there in ap (λ (i : FileId). i.position) (sym from.2);
  few = λ id there.
      let from = from_map (id_at input) (range_with_len 1 (length archive.members)) id there in
      let low : from.0 < 1 + length archive.members = (in_range (length archive.members) 1 from.0 from.1).1 in
      let h : length archive.members < 2 ^ 20 = few_members input archive is in
      subst (λ (i : FileId). i.member < 2 ^ 20) from.2 (omega (arith, low, h));
  rise = range_rises input (length archive.members) 1;
}

pub ids_are : (input : Input) → AreOf input (ids_in input)
unfolding ids_in
ids_are input = ids_by input (archive_in input) refl

pub few_ids : (inputs : List Input) (id : FileId) → In id (all_ids inputs) → id.member < 2 ^ 20
unfolding all_ids
few_ids inputs id there = let from = from_flat ids_in inputs id there in (ids_are from.0).few id from.2

append_rises : (xs ys : List FileId) → IsStrictlySortedBy compare_files xs → IsStrictlySortedBy compare_files ys → ((x y : FileId) → In x xs → In y ys → compare_files x y ≡ Less) → IsStrictlySortedBy compare_files (xs ++ ys)
unfolding IsStrictlySortedBy
append_rises [] ys one two across = two
append_rises (x ∷ xs) ys one two across = (all_append xs ys one.0 (all_from_in (λ (y : FileId). compare_files x y ≡ Less) ys (λ y there. across x y (inl refl) there)), append_rises xs ys one.1 two (λ a b there also. across a b (inr there) also))
  where
    all_append : (front back : List FileId) → AllByRecursion (λ y. compare_files x y ≡ Less) front → AllByRecursion (λ y. compare_files x y ≡ Less) back → AllByRecursion (λ y. compare_files x y ≡ Less) (front ++ back)
    all_append [] back h k = k
    all_append (a ∷ front) back h k = (h.0, all_append front back h.1 k)

flat_rises : (inputs : List Input) → IsStrictlySortedBy nat_cmp (map (λ input. input.position) inputs) → IsStrictlySortedBy compare_files (flat_map ids_in inputs)
unfolding IsStrictlySortedBy
flat_rises [] order = tt
flat_rises (input ∷ inputs) order = append_rises (ids_in input) (flat_map ids_in inputs) (ids_are input).rise (flat_rises inputs order.1) (λ x y there also.
    let from = from_flat ids_in inputs y also in
    let one : x.position ≡ input.position = (ids_are input).position x there in
    let two : y.position ≡ from.0.position = (ids_are from.0).position y from.2 in
    let less : nat_cmp input.position from.0.position ≡ Less = all_in (λ (p : ℕ). nat_cmp input.position p ≡ Less) (map (λ (i : Input). i.position) inputs) from.0.position order.0 (in_map (λ (i : Input). i.position) inputs from.0 from.1) in
    let first : nat_cmp x.position y.position ≡ Less = ap₂ nat_cmp one two ∙ less in
    rw first refl)

pub ids_rise : (inputs : List Input) → AreInOrder inputs → IsStrictlySortedBy compare_files (all_ids inputs)
unfolding all_ids
ids_rise inputs order = flat_rises inputs order
