-- The fault at the least place.
use Rattle.std.proofs.Common.{◌≡◌, ℕ, zero, suc, ◌+◌, ◌<◌, ◌≤◌, ◌⊎◌, inl, inr, ◌==◌, List, [], ◌∷◌, length, take, get_or, Bool, true, false, nat_le, Option, Some, None, Result, Ok, Err, refl, sym, ap, ◌∙◌, subst, arith}
use Rattle.std.specs.Prelude.{All, Contains}
use Rattle.std.proofs.lemmas.Bool.Decides.{nat_tests}
use Rattle.std.proofs.lemmas.List.{get_or-take, length-take-le, take_all}
use Rattle.std.proofs.lemmas.List.Elements.{All-more, All-nil, All-weaker, at_read}
use Rattle.patch.specs.declared.fault.PlacedFault.{PlacedFault}
use Rattle.patch.specs.declared.met.Met.{Met}
use Rattle.patch.specs.declared.met.RangeFault.{RangeFault}
use Rattle.mo_bytes.specs.Number.{number}
use Rattle.mo_types.specs.Rows.{field_size}
use Rattle.mo_types.specs.declared.reference.RefKind.{RefKind}
use Rattle.mo_types.specs.declared.reference.RefKind.TheVariants.{Pointer, Diff32, Diff64, Branch, Page, PageOff, GotPage, GotPageOff, GotDelta, GotPointer, TlvPage, TlvPageOff}
use Rattle.patch.specs.Field.{field_by, field_of}
use Rattle.patch.specs.Patched.{AreFields, Fits, IsFirstAtFault, size_of}
use Rattle.patch.specs.inner.Least.{IsLeast, earlier, fault_in}

-- an element, whatever stands for it past the end
pub element_at : {X : Type 0} (xs : List X) (at : ℕ) (d e : X) → at < length xs → get_or xs at d ≡ get_or xs at e
element_at [] at d e within = absurd (omega arith)
element_at (x ∷ xs) zero d e within = refl
element_at (x ∷ xs) (suc at) d e within = element_at xs at d e (omega arith)

-- the fault at the least place of the references before a place
pub record IsLeastBefore (address : ℕ) (bytes : List ℕ) (mets : List Met) (at : ℕ) (least : Option PlacedFault) : Type 0 where
  pub is : IsLeast address bytes (take at mets) least
  pub within : at ≤ length mets

pub least_starts : (address : ℕ) (bytes : List ℕ) (mets : List Met) → IsLeastBefore address bytes mets 0 None
least_starts address bytes mets = record { is = All-nil (Fits address bytes); within = omega arith }

contains_more : (mets : List Met) (at : ℕ) (met : Met) → at < length mets → Contains (take at mets) met → Contains (take (at + 1) mets) met
contains_more mets at met within (k, low, is) =
    let a : length (take at mets) ≡ at = length-take-le at mets (omega arith) in
    let b : length (take (at + 1) mets) ≡ at + 1 = length-take-le (at + 1) mets (omega arith) in
    (k, omega arith, get_or-take (at + 1) mets k met (omega arith) ∙ sym (get_or-take at mets k met (omega arith)) ∙ is)

contains_last : (mets : List Met) (at : ℕ) (met : Met) → at < length mets → met ≡ get_or mets at met → Contains (take (at + 1) mets) met
contains_last mets at met within is =
    let b : length (take (at + 1) mets) ≡ at + 1 = length-take-le (at + 1) mets (omega arith) in
    (at, omega arith, get_or-take (at + 1) mets at met (omega arith) ∙ sym is)

all_more : (P : Met → Type 0) (mets : List Met) (at : ℕ) (met : Met) → at < length mets → met ≡ get_or mets at met → All P (take at mets) → P met → All P (take (at + 1) mets)
all_more P mets at met within is all holds = All-more P mets at met within all (at_read mets P at met within is holds met)

keeps : (address : ℕ) (bytes : List ℕ) (mets : List Met) (at : ℕ) (least : Option PlacedFault) (met : Met) → IsLeast address bytes (take at mets) least → at < length mets → met ≡ get_or mets at met → Fits address bytes met → IsLeast address bytes (take (at + 1) mets) least
keeps address bytes mets at None met all within is fits = all_more (Fits address bytes) mets at met within is all fits
keeps address bytes mets at (Some found) met (first, it) within is fits = (
  first,
  record {
    first = record {
      among = contains_more mets at first within it.first.among;
      fails = it.first.fails;
      least = all_more (λ other. Fits address bytes other ⊎ (first.place ≤ other.place)) mets at met within is it.first.least (inl fits);
    };
    place = it.place;
  },
)

fits_from : (r : Result ℕ RangeFault) → fault_in r ≡ None → (value : ℕ) × (r ≡ Ok value)
fits_from (Ok n) e = (n, refl)
fits_from (Err f) e = absurd cc

fails_from : (r : Result ℕ RangeFault) (fault : RangeFault) → fault_in r ≡ Some fault → r ≡ Err fault
fails_from (Ok n) fault e = absurd cc
fails_from (Err f) fault e = cc

pub least_stays : (address : ℕ) (bytes : List ℕ) (mets : List Met) (at : ℕ) (least : Option PlacedFault) (met : Met) (asked : Option RangeFault) → IsLeastBefore address bytes mets at least → at < length mets → met ≡ get_or mets at met → asked ≡ fault_in (field_of address bytes met) → asked ≡ None → IsLeastBefore address bytes mets (at + 1) least
least_stays address bytes mets at least met asked before within is e none =
    record { is = keeps address bytes mets at least met before.is within is (fits_from (field_of address bytes met) (sym e ∙ none)); within = omega arith }

-- the new one, before all that are at fault
newest : (address : ℕ) (bytes : List ℕ) (mets : List Met) (at : ℕ) (met : Met) (fault : RangeFault) → at < length mets → met ≡ get_or mets at met → field_of address bytes met ≡ Err fault → All (λ other. Fits address bytes other ⊎ (met.place ≤ other.place)) (take at mets) → IsFirstAtFault address bytes (take (at + 1) mets) fault met
newest address bytes mets at met fault within is fails all = record {
  among = contains_last mets at met within is;
  fails = fails;
  least = all_more (λ other. Fits address bytes other ⊎ (met.place ≤ other.place)) mets at met within is all (inr (omega arith));
}

lower : (address : ℕ) (bytes : List ℕ) (low high : ℕ) (other : Met) → low ≤ high → Fits address bytes other ⊎ (high ≤ other.place) → Fits address bytes other ⊎ (low ≤ other.place)
lower address bytes low high other h (inl fits) = inl fits
lower address bytes low high other h (inr above) = inr (omega arith)

takes : (address : ℕ) (bytes : List ℕ) (mets : List Met) (at : ℕ) (met : Met) (found : PlacedFault) → at < length mets → met ≡ get_or mets at met → field_of address bytes met ≡ Err found.fault → found.place ≡ met.place
    → (least : Option PlacedFault) → IsLeast address bytes (take at mets) least → IsLeast address bytes (take (at + 1) mets) (earlier least found)
takes address bytes mets at met found within is fails place None all =
    (met, record { first = newest address bytes mets at met found.fault within is fails (All-weaker (Fits address bytes) (λ other. Fits address bytes other ⊎ (met.place ≤ other.place)) (λ other fits. inl fits) (take at mets) all); place = place })
takes address bytes mets at met found within is fails place (Some other) (first, it) = chosen (nat_le other.place found.place) refl
  where
    chosen : (b : Bool) → nat_le other.place found.place ≡ b → IsLeast address bytes (take (at + 1) mets) (earlier (Some other) found)
    chosen true e = rw e (
      first,
      record {
        first = record {
          among = contains_more mets at first within it.first.among;
          fails = it.first.fails;
          least = all_more (λ o. Fits address bytes o ⊎ (first.place ≤ o.place)) mets at met within is it.first.least (inr (grind (arith, nat_tests, it.place)));
        };
        place = it.place;
      },
    )
    chosen false e = rw e (
      met,
      record {
        first = newest address bytes mets at met found.fault within is fails (All-weaker (λ o. Fits address bytes o ⊎ (first.place ≤ o.place)) (λ o. Fits address bytes o ⊎ (met.place ≤ o.place)) (λ o h. lower address bytes met.place first.place o (grind (arith, nat_tests, it.place)) h) (take at mets) it.first.least);
        place = place;
      },
    )

pub least_takes : (address : ℕ) (bytes : List ℕ) (mets : List Met) (at : ℕ) (least : Option PlacedFault) (met : Met) (asked : Option RangeFault) (fault : RangeFault) (found : PlacedFault) (new : Option PlacedFault) → IsLeastBefore address bytes mets at least → at < length mets → met ≡ get_or mets at met → asked ≡ fault_in (field_of address bytes met) → asked ≡ Some fault → found ≡ record { place = met.place; fault = fault } → new ≡ earlier least found → IsLeastBefore address bytes mets (at + 1) new
least_takes address bytes mets at least met asked fault found new before within is e some made chosen = record {
  is = subst (λ (o : Option PlacedFault). IsLeast address bytes (take (at + 1) mets) o) (sym chosen)
      (takes address bytes mets at met found within is (fails_from (field_of address bytes met) fault (sym e ∙ some) ∙ ap (λ (f : PlacedFault). Err f.fault) (sym made)) (ap (λ (f : PlacedFault). f.place) made) least before.is);
  within = omega arith;
}

pub least_ends : (address : ℕ) (bytes : List ℕ) (mets : List Met) (at : ℕ) (least : Option PlacedFault) → IsLeastBefore address bytes mets at least → length mets ≤ at → IsLeast address bytes mets least
least_ends address bytes mets at least before past = subst (λ (xs : List Met). IsLeast address bytes xs least) (take_all at mets past) before.is

-- a field lies in the bytes
pub field_within : (address size : ℕ) (mets : List Met) (at : ℕ) (met : Met) → AreFields address size mets → at < length mets → met ≡ get_or mets at met → met.place + size_of met ≤ size
field_within address size mets at met fields within is = subst (λ (m : Met). m.place + size_of m ≤ size) (sym is) (fields.within at met within)

pub ruleset least = (least_starts, least_stays, least_takes, least_ends, field_within)

pub no_fault : (address : ℕ) (bytes : List ℕ) (mets : List Met) (least : Option PlacedFault) → IsLeast address bytes mets least → least ≡ None → All (Fits address bytes) mets
no_fault address bytes mets least is none = subst (λ (o : Option PlacedFault). IsLeast address bytes mets o) none is

first_fault : (address : ℕ) (bytes : List ℕ) (mets : List Met) (found : PlacedFault) → IsLeast address bytes mets (Some found) → (met : Met) × IsFirstAtFault address bytes mets found.fault met
first_fault address bytes mets found (met, it) = (met, it.first)

pub a_fault : (address : ℕ) (bytes : List ℕ) (mets : List Met) (least : Option PlacedFault) (found : PlacedFault) → IsLeast address bytes mets least → least ≡ Some found → (met : Met) × IsFirstAtFault address bytes mets found.fault met
a_fault address bytes mets least found is some = first_fault address bytes mets found (subst (λ (o : Option PlacedFault). IsLeast address bytes mets o) some is)

pub ruleset verdicts = (no_fault, a_fault)

-- ---- a field of 8 bytes holds every number

eight_by_kind : (kind : RefKind) (at word : ℕ) (met : Met) → (field_size kind == 8) ≡ true → None ≡ fault_in (field_by kind at word met)
unfolding field_by
eight_by_kind Pointer at word met e = refl
eight_by_kind GotPointer at word met e = refl
eight_by_kind Diff64 at word met e = refl
eight_by_kind Diff32 at word met e = absurd cc
eight_by_kind GotDelta at word met e = absurd cc
eight_by_kind Branch at word met e = absurd cc
eight_by_kind Page at word met e = absurd cc
eight_by_kind GotPage at word met e = absurd cc
eight_by_kind TlvPage at word met e = absurd cc
eight_by_kind PageOff at word met e = absurd cc
eight_by_kind GotPageOff at word met e = absurd cc
eight_by_kind TlvPageOff at word met e = absurd cc

pub eight_hold_all : (address : ℕ) (bytes : List ℕ) (met : Met) → (field_size met.kind == 8) ≡ true → None ≡ fault_in (field_of address bytes met)
unfolding field_of
eight_hold_all address bytes met e = eight_by_kind met.kind (address + met.place) (number 4 bytes met.place) met e

pub ruleset asked = (eight_hold_all)
