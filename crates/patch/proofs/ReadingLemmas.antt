-- What fields tell, once they are written.
use Rattle.std.proofs.Common.{◌≡◌, ℕ, ◌+◌, ◌/◌, ◌%◌, ◌^◌, ◌<◌, ◌≤◌, ◌⊎◌, inl, inr, List, get_or, length, Bool, true, false, Option, Some, None, Result, Ok, refl, sym, ap, ◌∙◌, subst, arith, ℤ, pos, negsuc, ◌+ℤ◌, ◌-ℤ◌, nat_lt, ◌==◌, w32}
use Rattle.std.specs.Int.{cast_signed}
use Rattle.std.specs.Prelude.{All}
use Rattle.std.specs.List.{AllPairs}
use Rattle.std.proofs.lemmas.Bool.{cases_lt, eqb-true}
use Rattle.std.proofs.lemmas.Bool.Decides.{nat_tests}
use Rattle.std.proofs.lemmas.Int.{ints}
use Rattle.arm64_insn.specs.Branch.{branch_of, branch_word, is_branch_delta, put_branch}
use Rattle.arm64_insn.specs.Field.{SameBits, twos_complement}
use Rattle.arm64_insn.specs.Low12.{imm12_scale, low12_of, low12_word, put_low12}
use Rattle.arm64_insn.specs.Page.{is_page_delta, page_of, page_word, put_page}
use Rattle.arm64_insn.proofs.BranchLemmas.{branch_of-branch_word, branch_word-same, tested_in_reach}
use Rattle.arm64_insn.proofs.Low12Lemmas.{low12_of-low12_word, low12_word-same}
use Rattle.arm64_insn.proofs.PageLemmas.{page_of-page_word, page_word-same, tested_in_pages}
use Rattle.mo_bytes.specs.Number.{number}
use Rattle.mo_types.specs.Gives.{◌>>=◌}
use Rattle.mo_types.specs.declared.cause.RangeKind.{RangeKind}
use Rattle.mo_types.specs.declared.cause.RangeKind.TheVariants as range_kind
use Rattle.mo_types.specs.declared.loaded.LoadedFile.{LoadedFile}
use Rattle.mo_types.specs.declared.reference.RefKind.{RefKind}
use Rattle.mo_types.specs.declared.reference.RefKind.TheVariants.{Pointer, Diff32, Diff64, Branch, Page, PageOff, GotPage, GotPageOff, GotDelta, GotPointer, TlvPage, TlvPageOff}
use Rattle.patch.specs.declared.met.Met.{Met}
use Rattle.patch.specs.declared.met.RangeFault.{RangeFault}
use Rattle.patch.specs.declared.range.PlacedWork.{PlacedWork}
use Rattle.patch.specs.Field.{address_of, branch_field, difference_of, field_by, field_of, is_signed_32, low12_field, or_range, page_field, pages_between, signed_32, signed_field, target_of, wrapped_target}
use Rattle.patch.specs.Patched.{AreApart, AreFields, ArePatched, IsOutside, size_of}
use Rattle.patch.specs.Range.{AreStanding, IsBeside, bytes_of}
use Rattle.patch.specs.Reading.{GivesPage, KeepsBits, LeadsTo, Tells}

found : {A : Type 0} (met : Met) (kind : RangeKind) (value : ℤ) (o : Option A) (x : A) → or_range met kind value o ≡ Ok x → o ≡ Some x
found met kind value None x e = absurd cc
found met kind value (Some y) x e = let same : y ≡ x = cc in ap (λ z. Some z) same

-- the target is an address, and the rest found the field
pub record IsFoundAt {B : Type 0} (target : ℤ) (next : ℕ → Result B RangeFault) (x : B) : Type 0 where
  pub address : ℕ
  pub is_target : pos address ≡ target
  pub is_address : address < 2 ^ 64
  pub rest : next address ≡ Ok x

is_address : (n a : ℕ) (b : Bool) → nat_lt n (2 ^ 64) ≡ b → address_of (pos n) ≡ Some a → (n ≡ a) × (n < 2 ^ 64)
is_address n a true e is = let same : address_of (pos n) ≡ Some n = rw e refl in (cc, grind (arith, nat_tests))
is_address n a false e is = let same : address_of (pos n) ≡ None = rw e refl in absurd cc

address_found : {B : Type 0} (target : ℤ) (next : ℕ → Result B RangeFault) (x : B) (a : ℕ) → address_of target ≡ Some a → next a ≡ Ok x → IsFoundAt target next x
address_found (pos n) next x a is rest =
    let it = is_address n a (nat_lt n (2 ^ 64)) refl is in
    record { address = a; is_target = ap pos (sym it.0); is_address = omega (arith, it.0, it.1); rest = rest }
address_found (negsuc n) next x a is rest = absurd cc

chained : {B : Type 0} (met : Met) (kind : RangeKind) (target : ℤ) (o : Option ℕ) (next : ℕ → Result B RangeFault) (x : B) → o ≡ address_of target → (or_range met kind target o >>= next) ≡ Ok x → IsFoundAt target next x
chained met kind target None next x is e = absurd cc
chained met kind target (Some a) next x is e = address_found target next x a (sym is) e

-- ---- branches

branch_put : (word n : ℕ) (delta : ℤ) (b : Bool) → is_branch_delta delta ≡ b → put_branch word delta ≡ Some n → (branch_of n ≡ delta) × SameBits 26 32 word n
branch_put word n delta true e put =
    let made : put_branch word delta ≡ Some (branch_word word delta) = rw e refl in
    let same : branch_word word delta ≡ n = cc in
    (subst (λ (w : ℕ). branch_of w ≡ delta) same (branch_of-branch_word word delta (tested_in_reach delta e)), subst (λ (w : ℕ). SameBits 26 32 word w) same (branch_word-same word delta))
branch_put word n delta false e put = let none : put_branch word delta ≡ None = rw e refl in absurd cc

branch_told : (at word n : ℕ) (met : Met) → branch_field at word met ≡ Ok n → LeadsTo at n met × SameBits 26 32 word n
unfolding branch_field
branch_told at word n met e =
    let it = chained met range_kind.Branch (target_of met) (address_of (target_of met)) (λ target. or_range met range_kind.Branch (pos target -ℤ pos at) (put_branch word (pos target -ℤ pos at))) n refl e in
    let delta : ℤ = pos it.address -ℤ pos at in
    let put = branch_put word n delta (is_branch_delta delta) refl (found met range_kind.Branch delta (put_branch word delta) n it.rest) in
    (record { target = it.address; is_target = it.is_target; is_address = it.is_address; reached = ap (λ (d : ℤ). pos at +ℤ d) put.0 ∙ omega (arith, ints) }, put.1)

-- ---- pages

abbrev pub PageBits : ℕ → ℕ → Type 0
PageBits old new = SameBits 0 5 old new × SameBits 24 29 old new × SameBits 31 32 old new

page_put : (word n : ℕ) (pages : ℤ) (b : Bool) → is_page_delta pages ≡ b → put_page word pages ≡ Some n → (page_of n ≡ pages) × PageBits word n
page_put word n pages true e put =
    let made : put_page word pages ≡ Some (page_word word pages) = rw e refl in
    let same : page_word word pages ≡ n = cc in
    (subst (λ (w : ℕ). page_of w ≡ pages) same (page_of-page_word word pages (tested_in_pages pages e)), subst (λ (w : ℕ). PageBits word w) same (page_word-same word pages))
page_put word n pages false e put = let none : put_page word pages ≡ None = rw e refl in absurd cc

over_pages : (at target : ℕ) → pos (at / 0x1000) +ℤ pages_between at target ≡ pos (target / 0x1000)
unfolding pages_between
over_pages at target = omega (arith, ints)

page_told : (at word n : ℕ) (met : Met) → page_field at word met ≡ Ok n → GivesPage at n met × PageBits word n
unfolding page_field
page_told at word n met e =
    let it = chained met range_kind.Page (target_of met) (address_of (target_of met)) (λ target. or_range met range_kind.Page (pages_between at target) (put_page word (pages_between at target))) n refl e in
    let pages : ℤ = pages_between at it.address in
    let put = page_put word n pages (is_page_delta pages) refl (found met range_kind.Page pages (put_page word pages) n it.rest) in
    (record { target = it.address; is_target = it.is_target; is_address = it.is_address; reached = ap (λ (d : ℤ). pos (at / 0x1000) +ℤ d) put.0 ∙ over_pages at it.address }, put.1)

-- ---- low bits

abbrev pub LowBits : ℕ → ℕ → Type 0
LowBits old new = SameBits 0 10 old new × SameBits 22 32 old new

low12_put : (word target n : ℕ) (b : Bool) → (target % 2 ^ 12 % 2 ^ imm12_scale word == 0) ≡ b → put_low12 word target ≡ Some n → (low12_of n ≡ target % 2 ^ 12) × LowBits word n
low12_put word target n true e put =
    let made : put_low12 word target ≡ Some (low12_word word target) = rw e refl in
    let same : low12_word word target ≡ n = cc in
    (subst (λ (w : ℕ). low12_of w ≡ target % 2 ^ 12) same (low12_of-low12_word word target (eqb-true (target % 2 ^ 12 % 2 ^ imm12_scale word) 0 e)), subst (λ (w : ℕ). LowBits word w) same (low12_word-same word target))
low12_put word target n false e put = let none : put_low12 word target ≡ None = rw e refl in absurd cc

low12_told : (word n : ℕ) (met : Met) → low12_field word met ≡ Ok n → (low12_of n ≡ twos_complement 64 (target_of met) % 2 ^ 12) × LowBits word n
unfolding low12_field wrapped_target
low12_told word n met e =
    let target : ℕ = twos_complement 64 (target_of met) in
    low12_put word target n (target % 2 ^ 12 % 2 ^ imm12_scale word == 0) refl (found met range_kind.LowBits (pos (target % 2 ^ 12)) (put_low12 word target) n e)

-- ---- differences

signed_back : (z : ℤ) → is_signed_32 z ≡ true → cast_signed w32 (twos_complement 32 z) ≡ z
unfolding is_signed_32 twos_complement
signed_back (pos n) h = grind (arith, ints, nat_tests)
signed_back (negsuc n) h = grind (arith, ints, nat_tests)

signed_put : (z : ℤ) (n : ℕ) (b : Bool) → is_signed_32 z ≡ b → signed_32 z ≡ Some n → cast_signed w32 n ≡ z
unfolding signed_32
signed_put z n true e put =
    let made : signed_32 z ≡ Some (twos_complement 32 z) = rw (signed_32, e) refl in
    let same : twos_complement 32 z ≡ n = cc in
    subst (λ (w : ℕ). cast_signed w32 w ≡ z) same (signed_back z e)
signed_put z n false e put = let none : signed_32 z ≡ None = rw (signed_32, e) refl in absurd cc

signed_told : (kind : RangeKind) (z : ℤ) (n : ℕ) (met : Met) → signed_field kind z met ≡ Ok n → cast_signed w32 n ≡ z
unfolding signed_field
signed_told kind z n met e = signed_put z n (is_signed_32 z) refl (found met kind z (signed_32 z) n e)

-- ---- all kinds

pub told : (kind : RefKind) (at word n : ℕ) (met : Met) → field_by kind at word met ≡ Ok n → Tells kind at n met
unfolding field_by wrapped_target
told Pointer at word n met e = cc
told GotPointer at word n met e = cc
told Diff64 at word n met e = cc
told Diff32 at word n met e = signed_told range_kind.Diff32 (difference_of met) n met e
told GotDelta at word n met e = ap (λ (d : ℤ). pos at +ℤ d) (signed_told range_kind.GotDelta (target_of met -ℤ pos at) n met e) ∙ omega (arith, ints)
told Branch at word n met e = (branch_told at word n met e).0
told Page at word n met e = (page_told at word n met e).0
told GotPage at word n met e = (page_told at word n met e).0
told TlvPage at word n met e = (page_told at word n met e).0
told PageOff at word n met e = (low12_told word n met e).0
told GotPageOff at word n met e = (low12_told word n met e).0
told TlvPageOff at word n met e = (low12_told word n met e).0

pub bits_kept : (kind : RefKind) (at word n : ℕ) (met : Met) → field_by kind at word met ≡ Ok n → KeepsBits kind word n
unfolding field_by
bits_kept Pointer at word n met e = tt
bits_kept GotPointer at word n met e = tt
bits_kept Diff64 at word n met e = tt
bits_kept Diff32 at word n met e = tt
bits_kept GotDelta at word n met e = tt
bits_kept Branch at word n met e = (branch_told at word n met e).1
bits_kept Page at word n met e = (page_told at word n met e).1
bits_kept GotPage at word n met e = (page_told at word n met e).1
bits_kept TlvPage at word n met e = (page_told at word n met e).1
bits_kept PageOff at word n met e = (low12_told word n met e).1
bits_kept GotPageOff at word n met e = (low12_told word n met e).1
bits_kept TlvPageOff at word n met e = (low12_told word n met e).1

pub read_back : (address : ℕ) (mets : List Met) (old new : List ℕ) → ArePatched address mets old new → All (λ met. Tells met.kind (address + met.place) (number (size_of met) new met.place) met) mets
unfolding field_of
read_back address mets old new patched k d low =
    told (get_or mets k d).kind (address + (get_or mets k d).place) (number 4 old (get_or mets k d).place) (number (size_of (get_or mets k d)) new (get_or mets k d).place) (get_or mets k d) (patched.fields k d low)

pub bits_stay : (address : ℕ) (mets : List Met) (old new : List ℕ) → ArePatched address mets old new → All (λ met. KeepsBits met.kind (number 4 old met.place) (number (size_of met) new met.place)) mets
unfolding field_of
bits_stay address mets old new patched k d low =
    bits_kept (get_or mets k d).kind (address + (get_or mets k d).place) (number 4 old (get_or mets k d).place) (number (size_of (get_or mets k d)) new (get_or mets k d).place) (get_or mets k d) (patched.fields k d low)

-- ---- no byte twice

in_one : (k : ℕ) (a b : Met) → AreApart a b → IsOutside k a ⊎ IsOutside k b
in_one k a b (inl before) = elim (cases_lt k b.place) [
  | inl low ↦ inr (inl low)
  | inr high ↦ inl (inr (omega arith))
]
in_one k a b (inr after) = elim (cases_lt k a.place) [
  | inl low ↦ inl (inl low)
  | inr high ↦ inr (inr (omega arith))
]

pub fields_apart : (address size : ℕ) (mets : List Met) → AreFields address size mets → AllPairs (λ a b. (k : ℕ) → IsOutside k a ⊎ IsOutside k b) mets
fields_apart address size mets fields i j d low high k = in_one k (get_or mets i d) (get_or mets j d) (fields.apart i j d low high)

in_one_atom : (files : List LoadedFile) (from k : ℕ) (a b : PlacedWork) → a.at + length (bytes_of files a) ≤ b.at → IsBeside files from k a ⊎ IsBeside files from k b
in_one_atom files from k a b before = elim (cases_lt (from + k) b.at) [
  | inl low ↦ inr (inl low)
  | inr high ↦ inl (inr (omega arith))
]

pub atoms_apart : (files : List LoadedFile) (from size : ℕ) (work : List PlacedWork) → AreStanding files from size work → AllPairs (λ a b. (k : ℕ) → IsBeside files from k a ⊎ IsBeside files from k b) work
atoms_apart files from size work are i j d low high k = in_one_atom files from k (get_or work i d) (get_or work j d) (are.in_order i j d low high)
