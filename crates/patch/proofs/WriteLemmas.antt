-- Fields are written one after the other.
use Rattle.std.proofs.Common.{◌≡◌, ℕ, ◌+◌, ◌^◌, ◌<◌, ◌≤◌, inl, inr, List, length, get_or, slice_index, Result, Ok, Err, refl, sym, ap, ◌∙◌, subst, arith, lit≤}
use borrow.Author.Count.{below_more}
use Rattle.std.specs.Prelude.{All}
use Rattle.std.proofs.lemmas.List.Elements.{at_read}
use Rattle.mo_bytes.specs.Number.{number}
use Rattle.mo_types.specs.Rows.{field_size}
use Rattle.mo_types.specs.declared.reference.RefKind.{RefKind}
use Rattle.mo_types.specs.declared.reference.RefKind.TheVariants.{Pointer, Diff32, Diff64, Branch, Page, PageOff, GotPage, GotPageOff, GotDelta, GotPointer, TlvPage, TlvPageOff}
use Rattle.patch.specs.declared.met.Met.{Met}
use Rattle.patch.specs.declared.met.RangeFault.{RangeFault}
use Rattle.patch.specs.Field.{field_by, field_of}
use Rattle.patch.specs.Patched.{AreApart, AreFields, ArePatched, Fits, IsOutside, size_of}
use Rattle.patch.specs.inner.Writing.{with_number}
use Rattle.patch.proofs.LeastLemmas.{field_within}
use Rattle.patch.proofs.NumberLemmas.{byte_outside, length-with_number, number_same, number_there}

pub four_at_least : (kind : RefKind) → 4 ≤ field_size kind
four_at_least Pointer = lit≤ tt
four_at_least Diff32 = lit≤ tt
four_at_least Diff64 = lit≤ tt
four_at_least Branch = lit≤ tt
four_at_least Page = lit≤ tt
four_at_least PageOff = lit≤ tt
four_at_least GotPage = lit≤ tt
four_at_least GotPageOff = lit≤ tt
four_at_least GotDelta = lit≤ tt
four_at_least GotPointer = lit≤ tt
four_at_least TlvPage = lit≤ tt
four_at_least TlvPageOff = lit≤ tt

-- the fields of the references before a place are written
pub record IsWriting (address : ℕ) (old : List ℕ) (mets : List Met) (at : ℕ) (now : List ℕ) : Type 0 where
  pub size : length now ≡ length old
  pub within : at ≤ length mets
  pub fields : (k : ℕ) (d : Met) → k < at → field_of address old (get_or mets k d) ≡ Ok (number (size_of (get_or mets k d)) now (get_or mets k d).place)
  pub others : (k : ℕ) → ((j : ℕ) (d : Met) → j < at → IsOutside k (get_or mets j d)) → slice_index now k ≡ slice_index old k

pub writing_starts : (address : ℕ) (old : List ℕ) (mets : List Met) → IsWriting address old mets 0 old
writing_starts address old mets = record {
  size = refl;
  within = omega arith;
  fields = λ k d low. absurd (omega arith);
  others = λ k outside. refl;
}

-- a byte of one of two fields that lie apart is outside the other one
byte_apart : (k : ℕ) (a b : Met) → AreApart a b → b.place ≤ k → k < b.place + size_of b → IsOutside k a
byte_apart k a b (inl before) low high = inr (omega arith)
byte_apart k a b (inr after) low high = inl (omega arith)

byte_apart_too : (k : ℕ) (a b : Met) → AreApart a b → a.place ≤ k → k < a.place + size_of a → IsOutside k b
byte_apart_too k a b (inl before) low high = inl (omega arith)
byte_apart_too k a b (inr after) low high = inr (omega arith)

apart_from : (address size : ℕ) (mets : List Met) (k at : ℕ) (d met : Met) → AreFields address size mets → k < at → at < length mets → met ≡ get_or mets at met → AreApart (get_or mets k d) met
apart_from address size mets k at d met fields before within is =
    let there : get_or mets at d ≡ met = at_read mets (λ m. m ≡ met) at met within is refl d in
    subst (λ (m : Met). AreApart (get_or mets k d) m) there (fields.apart k at d before within)

-- the field at a place is as it was
pub unwritten : (address : ℕ) (old : List ℕ) (mets : List Met) (at : ℕ) (now : List ℕ) (met : Met) → IsWriting address old mets at now → AreFields address (length old) mets → at < length mets → met ≡ get_or mets at met → field_of address now met ≡ field_of address old met
unfolding field_of
unwritten address old mets at now met writing fields within is =
    let room : 4 ≤ size_of met = four_at_least met.kind in
    ap (λ (word : ℕ). field_by met.kind (address + met.place) word met)
    (number_same 4 met.place now old
    (λ k low high. writing.others k (λ j d before. byte_apart k (get_or mets j d) met (apart_from address (length old) mets j at d met fields before within is) low (omega arith))))

pub writing_goes_on : (address : ℕ) (old : List ℕ) (mets : List Met) (at : ℕ) (now new : List ℕ) (met : Met) (read : Result ℕ RangeFault) (value : ℕ) → IsWriting address old mets at now → AreFields address (length old) mets → at < length mets → met ≡ get_or mets at met → read ≡ field_of address now met → read ≡ Ok value → value < 256 ^ size_of met → new ≡ with_number (size_of met) met.place value now → IsWriting address old mets (at + 1) new
writing_goes_on address old mets at now new met read value writing fields within is e ok small made =
    let room : met.place + size_of met ≤ length now = omega (arith, writing.size, field_within address (length old) mets at met fields within is) in
    let here : number (size_of met) new met.place ≡ value = ap (λ (xs : List ℕ). number (size_of met) xs met.place) made ∙ number_there (size_of met) met.place value now room small in
    let holds : field_of address old met ≡ Ok (number (size_of met) new met.place) =
    sym (unwritten address old mets at now met writing fields within is) ∙ sym e ∙ ok ∙ ap (λ (n : ℕ). Ok n) (sym here) in
    let outside : (k : ℕ) → IsOutside k met → slice_index new k ≡ slice_index now k =
    λ k out. ap (λ (xs : List ℕ). slice_index xs k) made ∙ byte_outside (size_of met) met.place value k now room out in
    record {
      size = ap length made ∙ length-with_number (size_of met) met.place value now room ∙ writing.size;
      within = omega arith;
      fields = below_more_at (λ k d. field_of address old (get_or mets k d) ≡ Ok (number (size_of (get_or mets k d)) new (get_or mets k d).place)) at
          (λ k d before. writing.fields k d before ∙ ap (λ (n : ℕ). Ok n) (sym (number_same (size_of (get_or mets k d)) (get_or mets k d).place new now
          (λ j low high. outside j (byte_apart_too j (get_or mets k d) met (apart_from address (length old) mets k at d met fields before within is) low high)))))
          (λ d. at_read mets (λ m. field_of address old m ≡ Ok (number (size_of m) new m.place)) at met within is holds d);
      others = λ k out. outside k (subst (IsOutside k) (sym is) (out at met (omega arith))) ∙ writing.others k (λ j d before. out j d (omega arith));
    }
  where
    below_more_at : (P : ℕ → Met → Type 0) (n : ℕ) → ((k : ℕ) (d : Met) → k < n → P k d) → ((d : Met) → P n d) → (k : ℕ) (d : Met) → k < n + 1 → P k d
    below_more_at P n below here k d low = below_more (λ k. (d : Met) → P k d) n (λ k low d. below k d low) here k low d

-- a value that doesn't fit while others are written doesn't fit before either
pub writing_stops : (address : ℕ) (old : List ℕ) (mets : List Met) (at : ℕ) (now : List ℕ) (met : Met) (read : Result ℕ RangeFault) (fault : RangeFault) → IsWriting address old mets at now → AreFields address (length old) mets → at < length mets → met ≡ get_or mets at met → read ≡ field_of address now met → read ≡ Err fault → ¬ All (Fits address old) mets
writing_stops address old mets at now met read fault writing fields within is e err fit =
    never (subst (Fits address old) (sym is) (fit at met within))
  where
    never : Fits address old met → ⊥
    never (value, ok) = let same : field_of address now met ≡ field_of address old met = unwritten address old mets at now met writing fields within is in cc

pub writing_ends : (address : ℕ) (old : List ℕ) (mets : List Met) (at : ℕ) (now : List ℕ) → IsWriting address old mets at now → length mets ≤ at → ArePatched address mets old now
writing_ends address old mets at now writing past = record {
  size = writing.size;
  fields = λ k d low. writing.fields k d (omega arith);
  others = λ k out. writing.others k (λ j d low. out j d (omega (arith, writing.within)));
}

pub ruleset writes = (writing_starts, writing_goes_on, writing_ends, field_within)
