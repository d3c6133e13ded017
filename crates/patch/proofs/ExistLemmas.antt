-- Atoms whose fields lie apart stand in a piece with their fields, or there is a first value that doesn't fit.
use Rattle.std.proofs.Common.{◌≡◌, ℕ, zero, suc, ◌+◌, ◌-◌, ◌<◌, ◌≤◌, ◌^◌, ◌/◌, ◌%◌, ◌⊎◌, inl, inr, Bool, true, false, nat_lt, ℤ, pos, negsuc, ◌-ℤ◌, List, [], ◌∷◌, ◌++◌, length, take, drop, get_or, slice_index, Option, Some, None, Result, Ok, Err, Contains, refl, sym, ap, ◌∙◌, subst, arith, lit≤, if◌then◌else◌, length-append, length-drop}
use Rattle.std.specs.Prelude.{All}
use Rattle.std.specs.Int.{byte_at, bytes_low_first}
use Rattle.std.specs.List.{AllPairs}
use Rattle.std.specs.Ordering.{is_gt}
use Rattle.std.proofs.Math.Seq.{drop-append_seam, take-append_seam}
use Rattle.std.proofs.lemmas.Bool.{cases_lt}
use Rattle.std.proofs.lemmas.List.{ext_get_or, get_or-append_right, get_or-drop, get_or-take, get_or_append_left, get_or_default, get_or_past, length-take, length-take-le}
use Rattle.std.proofs.lemmas.List.Elements.{All-cons, All-drop, All-head, All-nil, All-tail, All-take, All-weaker}
use Rattle.byteorder.specs.Numbers.{little_from-lt}
use Rattle.arm64_insn.specs.Branch.{branch_word, is_branch_delta, put_branch}
use Rattle.arm64_insn.specs.Field.{twos_complement}
use Rattle.arm64_insn.specs.Low12.{imm12_scale, low12_word, put_low12}
use Rattle.arm64_insn.specs.Page.{is_page_delta, page_word, put_page}
use Rattle.arm64_insn.proofs.BranchLemmas.{branch_word-lt}
use Rattle.arm64_insn.proofs.FieldLemmas.{twos_complement-lt}
use Rattle.arm64_insn.proofs.Low12Lemmas.{low12_word-lt}
use Rattle.arm64_insn.proofs.PageLemmas.{page_word-lt}
use Rattle.list_lemmas.proofs.Members.{Contains_from_in, in_from_Contains}
use Rattle.mo_bytes.specs.Number.{number, number_bytes}
use Rattle.mo_types.specs.Gives.{◌>>=◌}
use Rattle.mo_types.specs.Keys.{compare_keys}
use Rattle.mo_types.specs.Rows.{field_size}
use Rattle.mo_types.specs.declared.cause.RangeKind.{RangeKind}
use Rattle.mo_types.specs.declared.cause.RangeKind.TheVariants as range_kind
use Rattle.mo_types.specs.declared.key.AtomKey.{AtomKey}
use Rattle.mo_types.specs.declared.loaded.LoadedFile.{LoadedFile}
use Rattle.mo_types.specs.declared.reference.RefKind.{RefKind}
use Rattle.mo_types.specs.declared.reference.RefKind.TheVariants.{Pointer, Diff32, Diff64, Branch, Page, PageOff, GotPage, GotPageOff, GotDelta, GotPointer, TlvPage, TlvPageOff}
use Rattle.patch.specs.declared.met.Met.{Met}
use Rattle.patch.specs.declared.met.RangeFault.{RangeFault}
use Rattle.patch.specs.declared.range.PlacedWork.{PlacedWork}
use Rattle.patch.specs.Field.{address_of, branch_field, difference_of, field_by, field_of, is_signed_32, low12_field, or_range, page_field, pages_between, signed_32, signed_field, target_of, wrapped_target}
use Rattle.patch.specs.Patched.{AreFields, ArePatched, Fits, IsFirstFault, size_of}
use Rattle.patch.specs.Range.{AllFit, AreStanding, AreWork, HasBytes, HasFields, IsBeside, IsLeastAtFault, IsLeastFault, IsPlaced, IsSameBeside, IsUpTo, bytes_of, part_of}
use Rattle.patch.specs.inner.Writing.{with_number}
use Rattle.patch.proofs.KeyLemmas.{itself, through, turned_round}
use Rattle.patch.proofs.WriteLemmas.{IsWriting, unwritten, writing_ends, writing_goes_on, writing_starts}

-- ---- bytes

abbrev pub AreBytes : List ℕ → Type 0
AreBytes xs = (k : ℕ) → slice_index xs k < 256

pub bytes_from_all : (xs : List ℕ) → All (λ byte. byte < 256) xs → AreBytes xs
bytes_from_all xs all k = elim (cases_lt k (length xs)) [
  | inl within ↦ all k 0 within
  | inr past ↦ let none : slice_index xs k ≡ 0 = get_or_past xs k 0 past in omega arith
]

pub all_from_bytes : (xs : List ℕ) → AreBytes xs → All (λ byte. byte < 256) xs
all_from_bytes xs bytes = λ k d within. subst (λ (n : ℕ). n < 256) (get_or_default xs k 0 d within) (bytes k)

pub bytes_taken : (n : ℕ) (xs : List ℕ) → AreBytes xs → AreBytes (take n xs)
bytes_taken zero xs bytes k = omega arith
bytes_taken (suc n) [] bytes k = omega arith
bytes_taken (suc n) (x ∷ xs) bytes zero = bytes 0
bytes_taken (suc n) (x ∷ xs) bytes (suc k) = bytes_taken n xs (λ j. bytes (suc j)) k

pub bytes_left : (n : ℕ) (xs : List ℕ) → AreBytes xs → AreBytes (drop n xs)
bytes_left n xs bytes k = let same = get_or-drop n xs k 0 in let low = bytes (n + k) in omega arith

pub bytes_joined : (xs ys : List ℕ) → AreBytes xs → AreBytes ys → AreBytes (xs ++ ys)
bytes_joined [] ys first second k = second k
bytes_joined (x ∷ xs) ys first second zero = first 0
bytes_joined (x ∷ xs) ys first second (suc k) = bytes_joined xs ys (λ j. first (suc j)) second k

small_byte : (i x : ℕ) → byte_at i x < 256
small_byte zero x = omega arith
small_byte (suc i) x = omega arith

pub bytes_spelled : (i n x : ℕ) → AreBytes (bytes_low_first i n x)
bytes_spelled i zero x k = omega arith
bytes_spelled i (suc n) x zero = small_byte i x
bytes_spelled i (suc n) x (suc k) = bytes_spelled (suc i) n x k

bytes_numbered : (w at n : ℕ) (bytes : List ℕ) → AreBytes bytes → AreBytes (with_number w at n bytes)
unfolding with_number number_bytes
bytes_numbered w at n bytes low = bytes_joined (take at bytes) (number_bytes w n ++ drop w (drop at bytes)) (bytes_taken at bytes low) (bytes_joined (number_bytes w n) (drop w (drop at bytes)) (bytes_spelled 0 w n) (bytes_left w (drop at bytes) (bytes_left at bytes low)))

-- ---- a field's number has its size

small_word : (bytes : List ℕ) (at : ℕ) → AreBytes bytes → number 4 bytes at < 2 ^ 32
unfolding number
small_word bytes at low = let small = little_from-lt 0 4 (drop at bytes) (bytes_left at bytes low) in omega arith

then_ok : {A B : Type 0} (r : Result A RangeFault) (next : A → Result B RangeFault) (x : B) → (r >>= next) ≡ Ok x → (a : A) × (next a ≡ Ok x)
then_ok (Ok a) next x e = (a, e)
then_ok (Err fault) next x e = absurd cc

found : {A : Type 0} (met : Met) (kind : RangeKind) (value : ℤ) (o : Option A) (x : A) → or_range met kind value o ≡ Ok x → o ≡ Some x
found met kind value None x e = absurd cc
found met kind value (Some y) x e = let same : y ≡ x = cc in ap (λ z. Some z) same

if_some : (b : Bool) (x y : ℕ) → (if b then Some x else None) ≡ Some y → x ≡ y
if_some true x y e = cc
if_some false x y e = absurd cc

same_ok : (x y : ℕ) → ◌≡◌ {A = Result ℕ RangeFault} (Ok x) (Ok y) → x ≡ y
same_ok x y e = cc

wrapped_small : (met : Met) (value : ℕ) → ◌≡◌ {A = Result ℕ RangeFault} (Ok (wrapped_target met)) (Ok value) → value < 256 ^ 8
unfolding wrapped_target
wrapped_small met value e = let same = same_ok (twos_complement 64 (target_of met)) value e in let small = twos_complement-lt 64 (target_of met) in omega arith

difference_small : (met : Met) (value : ℕ) → ◌≡◌ {A = Result ℕ RangeFault} (Ok (twos_complement 64 (difference_of met))) (Ok value) → value < 256 ^ 8
difference_small met value e = let same = same_ok (twos_complement 64 (difference_of met)) value e in let small = twos_complement-lt 64 (difference_of met) in omega arith

signed_small : (kind : RangeKind) (difference : ℤ) (met : Met) (value : ℕ) → signed_field kind difference met ≡ Ok value → value < 256 ^ 4
unfolding signed_field signed_32
signed_small kind difference met value e =
    let is = found met kind difference (if is_signed_32 difference then Some (twos_complement 32 difference) else None) value e in
    let same = if_some (is_signed_32 difference) (twos_complement 32 difference) value is in
    let small = twos_complement-lt 32 difference in
    omega arith

branch_small : (at word : ℕ) (met : Met) (value : ℕ) → word < 2 ^ 32 → branch_field at word met ≡ Ok value → value < 256 ^ 4
unfolding branch_field
branch_small at word met value low e =
    let target = then_ok (or_range met range_kind.Branch (target_of met) (address_of (target_of met))) (λ target. or_range met range_kind.Branch (pos target -ℤ pos at) (put_branch word (pos target -ℤ pos at))) value e in
    let delta : ℤ = pos target.0 -ℤ pos at in
    let same = if_some (is_branch_delta delta) (branch_word word delta) value (found met range_kind.Branch delta (put_branch word delta) value target.1) in
    let small = branch_word-lt word delta low in
    omega arith

page_small : (at word : ℕ) (met : Met) (value : ℕ) → word < 2 ^ 32 → page_field at word met ≡ Ok value → value < 256 ^ 4
unfolding page_field
page_small at word met value low e =
    let target = then_ok (or_range met range_kind.Page (target_of met) (address_of (target_of met))) (λ target. or_range met range_kind.Page (pages_between at target) (put_page word (pages_between at target))) value e in
    let pages : ℤ = pages_between at target.0 in
    let same = if_some (is_page_delta pages) (page_word word pages) value (found met range_kind.Page pages (put_page word pages) value target.1) in
    let small = page_word-lt word pages low in
    omega arith

low12_small : (word : ℕ) (met : Met) (value : ℕ) → word < 2 ^ 32 → low12_field word met ≡ Ok value → value < 256 ^ 4
unfolding low12_field
low12_small word met value low e =
    let put = found met range_kind.LowBits (pos (wrapped_target met % 2 ^ 12)) (put_low12 word (wrapped_target met)) value e in
    let same = if_some _ (low12_word word (wrapped_target met)) value put in
    let small = low12_word-lt word (wrapped_target met) low in
    omega arith

kind_small : (kind : RefKind) (at word : ℕ) (met : Met) (value : ℕ) → word < 2 ^ 32 → field_by kind at word met ≡ Ok value → value < 256 ^ field_size kind
unfolding field_by
kind_small Pointer at word met value low e = wrapped_small met value e
kind_small GotPointer at word met value low e = wrapped_small met value e
kind_small Diff64 at word met value low e = difference_small met value e
kind_small Diff32 at word met value low e = signed_small range_kind.Diff32 (difference_of met) met value e
kind_small GotDelta at word met value low e = signed_small range_kind.GotDelta (target_of met -ℤ pos at) met value e
kind_small Branch at word met value low e = branch_small at word met value low e
kind_small Page at word met value low e = page_small at word met value low e
kind_small GotPage at word met value low e = page_small at word met value low e
kind_small TlvPage at word met value low e = page_small at word met value low e
kind_small PageOff at word met value low e = low12_small word met value low e
kind_small GotPageOff at word met value low e = low12_small word met value low e
kind_small TlvPageOff at word met value low e = low12_small word met value low e

field_small : (address : ℕ) (bytes : List ℕ) (met : Met) (value : ℕ) → AreBytes bytes → field_of address bytes met ≡ Ok value → value < 256 ^ size_of met
unfolding field_of
field_small address bytes met value low e = kind_small met.kind (address + met.place) (number 4 bytes met.place) met value (small_word bytes met.place low) e

-- ---- the bytes of an atom with its fields

-- the fields of the references before a place are written, in bytes
record IsWritten (address : ℕ) (old : List ℕ) (mets : List Met) (at : ℕ) : Type 0 where
  pub now : List ℕ
  pub is : IsWriting address old mets at now
  pub bytes : AreBytes now

element : {X : Type 0} (xs : List X) (at : ℕ) → at < length xs → (x : X) × (x ≡ get_or xs at x)
element [] at low = absurd (omega arith)
element (x ∷ xs) zero low = (x, refl)
element (x ∷ xs) (suc at) low = element xs at (omega arith)

written : (address : ℕ) (old : List ℕ) (mets : List Met) → AreFields address (length old) mets → All (Fits address old) mets → AreBytes old → (at : ℕ) → at ≤ length mets → IsWritten address old mets at
written address old mets fields fit bytes zero low = record { now = old; is = writing_starts address old mets; bytes = bytes }
written address old mets fields fit bytes (suc at) low =
    let before = written address old mets fields fit bytes at (omega arith) in
    let one = element mets at (omega arith) in
    let met : Met = one.0 in
    let fits : Fits address old met = subst (λ (m : Met). Fits address old m) (sym one.1) (fit at met (omega arith)) in
    let value : ℕ = fits.0 in
    let within : at < length mets = omega arith in
    let read : field_of address before.now met ≡ Ok value = unwritten address old mets at before.now met before.is fields within one.1 ∙ fits.1 in
    let small : value < 256 ^ size_of met = field_small address before.now met value before.bytes read in
    let new : List ℕ = with_number (size_of met) met.place value before.now in
    let is : IsWriting address old mets (at + 1) new = writing_goes_on address old mets at before.now new met (field_of address before.now met) value before.is fields within one.1 refl read small refl in
    let next : at + 1 ≡ suc at = omega arith in
    record { now = new; is = subst (λ (n : ℕ). IsWriting address old mets n new) next is; bytes = bytes_numbered (size_of met) met.place value before.now before.bytes }

-- bytes in which all fields are written
record IsPatchedWith (address : ℕ) (mets : List Met) (old : List ℕ) : Type 0 where
  pub new : List ℕ
  pub is : ArePatched address mets old new
  pub bytes : AreBytes new

patched : (address : ℕ) (old : List ℕ) (mets : List Met) → AreFields address (length old) mets → All (Fits address old) mets → AreBytes old → IsPatchedWith address mets old
patched address old mets fields fit bytes =
    let all = written address old mets fields fit bytes (length mets) (omega arith) in
    record { new = all.now; is = writing_ends address old mets (length mets) all.now all.is (omega arith); bytes = all.bytes }

-- ---- bytes that are put into others

put_bytes : ℕ → List ℕ → List ℕ → List ℕ
put_bytes at ys xs = take at xs ++ (ys ++ drop (length ys) (drop at xs))

length-put : (at : ℕ) (ys xs : List ℕ) → at + length ys ≤ length xs → length (put_bytes at ys xs) ≡ length xs
unfolding put_bytes
length-put at ys xs room = rw (length-append, length-append, length-take-le at xs (omega arith), length-drop, length-drop) (omega arith)

put_outside : (at k : ℕ) (ys xs : List ℕ) → at + length ys ≤ length xs → (k < at) ⊎ (at + length ys ≤ k) → slice_index (put_bytes at ys xs) k ≡ slice_index xs k
unfolding put_bytes
put_outside at k ys xs room (inl before) =
    let front : length (take at xs) ≡ at = length-take-le at xs (omega arith) in
    get_or_append_left (take at xs) (ys ++ drop (length ys) (drop at xs)) 0 k (omega arith) ∙ get_or-take at xs k 0 before
put_outside at k ys xs room (inr after) =
    let front : length (take at xs) ≡ at = length-take-le at xs (omega arith) in
    get_or-append_right (take at xs) (ys ++ drop (length ys) (drop at xs)) at k 0 front (omega arith)
    ∙ get_or-append_right ys (drop (length ys) (drop at xs)) (length ys) (k - at) 0 refl (omega arith)
    ∙ get_or-drop (length ys) (drop at xs) (k - at - length ys) 0
    ∙ get_or-drop at xs (length ys + (k - at - length ys)) 0
    ∙ ap (λ (j : ℕ). slice_index xs j) (omega arith)

put_there : (at : ℕ) (ys xs : List ℕ) → at ≤ length xs → take (length ys) (drop at (put_bytes at ys xs)) ≡ ys
unfolding put_bytes
put_there at ys xs room =
    let rest : List ℕ = ys ++ drop (length ys) (drop at xs) in
    let front : length (take at xs) ≡ at = length-take-le at xs room in
    let behind : drop at (take at xs ++ rest) ≡ rest = ap (λ (m : ℕ). drop m (take at xs ++ rest)) (sym front) ∙ drop-append_seam (take at xs) rest in
    ap (λ (zs : List ℕ). take (length ys) zs) behind ∙ take-append_seam ys (drop (length ys) (drop at xs))

-- a part of the same bytes
part_same : (n p : ℕ) (xs ys : List ℕ) → length ys ≡ length xs → ((i : ℕ) → i < n → slice_index ys (p + i) ≡ slice_index xs (p + i)) → take n (drop p ys) ≡ take n (drop p xs)
part_same n p xs ys long same =
    let size : length (take n (drop p ys)) ≡ length (take n (drop p xs)) = rw (length-take, length-take, length-drop, length-drop, long) refl in
    let few : length (take n (drop p ys)) ≤ n = rw length-take (omega arith) in
    ext_get_or 0 (take n (drop p ys)) (take n (drop p xs)) size
    (λ i low. get_or-take n (drop p ys) i 0 (omega arith) ∙ get_or-drop p ys i 0 ∙ same i (omega arith) ∙ sym (get_or-take n (drop p xs) i 0 (omega arith) ∙ get_or-drop p xs i 0))

-- ---- all atoms

-- where all of a piece are bytes, so is what each atom has in it
pub parts_bytes : (files : List LoadedFile) (from : ℕ) (work : List PlacedWork) (piece : List ℕ) → All (λ byte. byte < 256) piece → All (HasBytes files from piece) work
unfolding part_of
parts_bytes files from work piece all = λ k d low.
    All-take (λ (byte : ℕ). byte < 256) (length (bytes_of files (get_or work k d))) (drop ((get_or work k d).at - from) piece) (All-drop (λ (byte : ℕ). byte < 256) ((get_or work k d).at - from) piece all)

record IsFilledWith (files : List LoadedFile) (mets : PlacedWork → List Met) (from : ℕ) (work : List PlacedWork) (old : List ℕ) : Type 0 where
  pub new : List ℕ
  pub beside : IsSameBeside files from work old new
  pub placed : All (IsPlaced files mets from new) work
  pub bytes : All (HasBytes files from new) work

with_item : (files : List LoadedFile) (mets : PlacedWork → List Met) (from : ℕ) (item : PlacedWork) (work : List PlacedWork) (old : List ℕ) → AreStanding files from (length old) (item ∷ work) → HasFields files mets item → AllFit files mets item → AreBytes (bytes_of files item) → IsFilledWith files mets from work old → IsFilledWith files mets from (item ∷ work) old
unfolding part_of
with_item files mets from item work old stand fields fit bytes rest =
    let stands = stand.items 0 item (omega arith) in
    let begins = stands.begins in
    let ends = stands.ends in
    let at : ℕ = item.at - from in
    let made = patched item.address (bytes_of files item) (mets item) fields fit bytes in
    let size : length made.new ≡ length (bytes_of files item) = made.is.size in
    let long : length rest.new ≡ length old = rest.beside.size in
    let room : at + length made.new ≤ length rest.new = omega arith in
    let new : List ℕ = put_bytes at made.new rest.new in
    let same : length new ≡ length rest.new = length-put at made.new rest.new room in
    let here : take (length (bytes_of files item)) (drop at new) ≡ made.new = ap (λ (n : ℕ). take n (drop at new)) (sym size) ∙ put_there at made.new rest.new (omega arith) in
    let still : (k : ℕ) (d : PlacedWork) → k < length work → part_of files from (get_or work k d) rest.new ≡ part_of files from (get_or work k d) new =
    λ k d low.
    let other : PlacedWork = get_or work k d in
    let before : item.at + length (bytes_of files item) ≤ other.at = stand.in_order 0 (suc k) d (omega arith) (omega arith) in
    sym (part_same (length (bytes_of files other)) (other.at - from) rest.new new same (λ i less. put_outside at (other.at - from + i) made.new rest.new room (inr (omega arith)))) in
    record {
      new = new;
      beside = record {
        size = same ∙ long;
        others = λ k out. put_outside at k made.new rest.new room (apart k (All-head (IsBeside files from k) item work out) begins size) ∙ rest.beside.others k (All-tail (IsBeside files from k) item work out);
      };
      placed = All-cons (IsPlaced files mets from new) item work
          (subst (λ (z : List ℕ). ArePatched item.address (mets item) (bytes_of files item) z) (sym here) made.is)
          (λ k d low. subst (λ (z : List ℕ). ArePatched (get_or work k d).address (mets (get_or work k d)) (bytes_of files (get_or work k d)) z) (still k d low) (rest.placed k d low));
      bytes = All-cons (HasBytes files from new) item work
          (subst (λ (z : List ℕ). All (λ byte. byte < 256) z) (sym here) (all_from_bytes made.new made.bytes))
          (λ k d low. subst (λ (z : List ℕ). All (λ byte. byte < 256) z) (still k d low) (rest.bytes k d low));
    }
  where
    apart : (k : ℕ) → IsBeside files from k item → from ≤ item.at → {n : ℕ} → n ≡ length (bytes_of files item) → (k < item.at - from) ⊎ (item.at - from + n ≤ k)
    apart k (inl before) begins size = inl (omega arith)
    apart k (inr after) begins size = inr (omega arith)

stand_later : (files : List LoadedFile) (from size : ℕ) (item : PlacedWork) (work : List PlacedWork) → AreStanding files from size (item ∷ work) → AreStanding files from size work
stand_later files from size item work stand = record {
  items = λ k d low. stand.items (suc k) d (omega arith);
  in_order = λ i j d less low. stand.in_order (suc i) (suc j) d (omega arith) (omega arith);
}

filled : (files : List LoadedFile) (mets : PlacedWork → List Met) (from : ℕ) (old : List ℕ) (work : List PlacedWork) → AreStanding files from (length old) work → All (HasFields files mets) work → All (AllFit files mets) work → All (λ item. All (λ byte. byte < 256) (bytes_of files item)) work → IsFilledWith files mets from work old
filled files mets from old [] stand fields fit bytes = record {
  new = old;
  beside = record { size = refl; others = λ k out. refl };
  placed = All-nil (IsPlaced files mets from old);
  bytes = All-nil (HasBytes files from old);
}
filled files mets from old (item ∷ work) stand fields fit bytes =
    with_item files mets from item work old stand (All-head (HasFields files mets) item work fields) (All-head (AllFit files mets) item work fit)
    (bytes_from_all (bytes_of files item) (All-head (λ it. All (λ byte. byte < 256) (bytes_of files it)) item work bytes))
    (filled files mets from old work (stand_later files from (length old) item work stand) (All-tail (HasFields files mets) item work fields) (All-tail (AllFit files mets) item work fit)
    (All-tail (λ it. All (λ byte. byte < 256) (bytes_of files it)) item work bytes))

-- ---- the first value that doesn't fit

contains_later : {X : Type 0} (x y : X) (xs : List X) → Contains xs x → Contains (y ∷ xs) x
contains_later x y xs h = Contains_from_in (y ∷ xs) x (inr (in_from_Contains xs x h))

contains_first : {X : Type 0} (x : X) (xs : List X) → Contains (x ∷ xs) x
contains_first x xs = Contains_from_in (x ∷ xs) x (inl refl)

-- all values fit, or one is the first that doesn't
abbrev Verdict : ℕ → List ℕ → List Met → Type 0
Verdict address bytes mets = All (Fits address bytes) mets ⊎ ((fault : RangeFault) × IsFirstFault address bytes mets fault)

verdict : (address : ℕ) (bytes : List ℕ) (mets : List Met) → Verdict address bytes mets
verdict address bytes [] = inl (All-nil (Fits address bytes))
verdict address bytes (met ∷ mets) = by (verdict address bytes mets) (field_of address bytes met) refl
  where
    later : Fits address bytes met ⊎ ((first : Met) → (first.place ≤ met.place)) → (fault : RangeFault) → IsFirstFault address bytes mets fault → Verdict address bytes (met ∷ mets)
    later (inl fits) fault (first, is) = inr (
      fault,
      (
        first,
        record {
          among = contains_later first met mets is.among;
          fails = is.fails;
          least = All-cons (λ other. Fits address bytes other ⊎ (first.place ≤ other.place)) met mets (inl fits) is.least;
        },
      ),
    )
    later (inr low) fault (first, is) = inr (
      fault,
      (
        first,
        record {
          among = contains_later first met mets is.among;
          fails = is.fails;
          least = All-cons (λ other. Fits address bytes other ⊎ (first.place ≤ other.place)) met mets (inr (low first)) is.least;
        },
      ),
    )

    here : (fault : RangeFault) → field_of address bytes met ≡ Err fault → All (λ other. Fits address bytes other ⊎ (met.place ≤ other.place)) mets → Verdict address bytes (met ∷ mets)
    here fault fails least = inr (
      fault,
      (
        met,
        record {
          among = contains_first met mets;
          fails = fails;
          least = All-cons (λ other. Fits address bytes other ⊎ (met.place ≤ other.place)) met mets (inr (omega arith)) least;
        },
      ),
    )

    against : (fault other : RangeFault) → field_of address bytes met ≡ Err fault → (is : IsFirstFault address bytes mets other) → (met.place < is.0.place) ⊎ (is.0.place ≤ met.place) → Verdict address bytes (met ∷ mets)
    against fault other fails (first, is) (inl before) = here fault fails (All-weaker (λ (o : Met). Fits address bytes o ⊎ (first.place ≤ o.place)) (λ (o : Met). Fits address bytes o ⊎ (met.place ≤ o.place)) (λ o h. lower o h) mets is.least)
      where
        lower : (o : Met) → Fits address bytes o ⊎ (first.place ≤ o.place) → Fits address bytes o ⊎ (met.place ≤ o.place)
        lower o (inl fits) = inl fits
        lower o (inr above) = inr (omega arith)
    against fault other fails (first, is) (inr behind) = inr (
      other,
      (
        first,
        record {
          among = contains_later first met mets is.among;
          fails = is.fails;
          least = All-cons (λ o. Fits address bytes o ⊎ (first.place ≤ o.place)) met mets (inr behind) is.least;
        },
      ),
    )

    by : Verdict address bytes mets → (r : Result ℕ RangeFault) → field_of address bytes met ≡ r → Verdict address bytes (met ∷ mets)
    by (inl all) (Ok value) e = inl (All-cons (Fits address bytes) met mets (value, e) all)
    by (inr (fault, is)) (Ok value) e = later (inl (value, e)) fault is
    by (inl all) (Err fault) e = here fault e (All-weaker (Fits address bytes) (λ o. Fits address bytes o ⊎ (met.place ≤ o.place)) (λ o fits. inl fits) mets all)
    by (inr (other, is)) (Err fault) e = against fault other e is (cases_lt met.place is.0.place)

-- the same of atoms, by rising key
abbrev WorkVerdict : List LoadedFile → (PlacedWork → List Met) → List PlacedWork → Type 0
WorkVerdict files mets work = All (AllFit files mets) work ⊎ ((key : AtomKey) × (fault : RangeFault) × IsLeastFault files mets work key fault)

work_verdict : (files : List LoadedFile) (mets : PlacedWork → List Met) (work : List PlacedWork) → WorkVerdict files mets work
work_verdict files mets [] = inl (All-nil (AllFit files mets))
work_verdict files mets (item ∷ work) = by (work_verdict files mets work) (verdict item.address (bytes_of files item) (mets item))
  where
    -- the fault of an atom behind
    later : (key : AtomKey) (fault : RangeFault) → AllFit files mets item ⊎ IsUpTo key item.atom.key → IsLeastFault files mets work key fault → WorkVerdict files mets (item ∷ work)
    later key fault fits (first, is) = inr (
      key,
      fault,
      (
        first,
        record {
          among = contains_later first item work is.among;
          of_item = is.of_item;
          fails = is.fails;
          least = All-cons (λ other. AllFit files mets other ⊎ IsUpTo key other.atom.key) item work fits is.least;
        },
      ),
    )

    here : (fault : RangeFault) → IsFirstFault item.address (bytes_of files item) (mets item) fault → All (λ other. AllFit files mets other ⊎ IsUpTo item.atom.key other.atom.key) work → WorkVerdict files mets (item ∷ work)
    here fault fails least = inr (
      item.atom.key,
      fault,
      (
        item,
        record {
          among = contains_first item work;
          of_item = refl;
          fails = fails;
          least = All-cons (λ other. AllFit files mets other ⊎ IsUpTo item.atom.key other.atom.key) item work (inr (itself item.atom.key)) least;
        },
      ),
    )

    lower : (key : AtomKey) → IsUpTo item.atom.key key → (other : PlacedWork) → AllFit files mets other ⊎ IsUpTo key other.atom.key → AllFit files mets other ⊎ IsUpTo item.atom.key other.atom.key
    lower key up other (inl fits) = inl fits
    lower key up other (inr above) = inr (through item.atom.key key other.atom.key up above)

    against : (fault : RangeFault) → IsFirstFault item.address (bytes_of files item) (mets item) fault → (key : AtomKey) (other : RangeFault) → (is : IsLeastFault files mets work key other) → (b : Bool) → is_gt (compare_keys item.atom.key key) ≡ b → WorkVerdict files mets (item ∷ work)
    against fault fails key other is true e = later key other (inr (turned_round item.atom.key key e)) is
    against fault fails key other is false e = here fault fails (All-weaker (λ o. AllFit files mets o ⊎ IsUpTo key o.atom.key) (λ o. AllFit files mets o ⊎ IsUpTo item.atom.key o.atom.key) (lower key e) work is.1.least)

    by : WorkVerdict files mets work → Verdict item.address (bytes_of files item) (mets item) → WorkVerdict files mets (item ∷ work)
    by (inl all) (inl fits) = inl (All-cons (AllFit files mets) item work fits all)
    by (inr (key, fault, is)) (inl fits) = later key fault (inl fits) is
    by (inl all) (inr (fault, is)) = here fault is (All-weaker (AllFit files mets) (λ o. AllFit files mets o ⊎ IsUpTo item.atom.key o.atom.key) (λ o fits. inl fits) work all)
    by (inr (key, other, is)) (inr (fault, first)) = against fault first key other is (is_gt (compare_keys item.atom.key key)) refl

pub placed_or_fault : (files : List LoadedFile) (mets : PlacedWork → List Met) (from : ℕ) (work : List PlacedWork) (old : List ℕ) → AreWork files mets from (length old) work → All (λ item. All (λ byte. byte < 256) (bytes_of files item)) work
    → ((new : List ℕ) × IsSameBeside files from work old new × All (IsPlaced files mets from new) work × All (HasBytes files from new) work) ⊎ ((key : AtomKey) × (fault : RangeFault) × IsLeastFault files mets work key fault)
placed_or_fault files mets from work old is bytes = by (work_verdict files mets work)
  where
    by : WorkVerdict files mets work → ((new : List ℕ) × IsSameBeside files from work old new × All (IsPlaced files mets from new) work × All (HasBytes files from new) work) ⊎ ((key : AtomKey) × (fault : RangeFault) × IsLeastFault files mets work key fault)
    by (inl fit) = let all = filled files mets from old work is.stand is.fields fit bytes in inl (all.new, all.beside, all.placed, all.bytes)
    by (inr fault) = inr fault
