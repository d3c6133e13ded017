-- The least-numbered member that is offered for a name.
use Rattle.std.proofs.Common.{tests, ◌≡◌, ℕ, suc, ◌≤◌, List, [], ◌∷◌, min, All, Bool, true, false, Option, Some, None, IfSome, IfNone, if◌then◌else◌, refl, ap, ◌∙◌, arith, inl, inr, ◌⊎◌, nat_le}
use Rattle.std.proofs.lemmas.List.Elements.{All-cons, All-nil, All-weaker}
use Rattle.std.proofs.lemmas.Slice.Eq.{bytes_eq-Decides}
use Rattle.std.specs.Str.{bytes_eq}
use Rattle.mo_ar.specs.Offers.{IsLeastOffer, IsUnoffered, first_offer, lesser}
use Rattle.mo_ar.specs.declared.offers.Offer.{Offer}

abbrev IsOther : List ℕ → Offer → Type 0
IsOther name offer = offer.name ≡ name → ⊥

abbrev IsAbove : List ℕ → ℕ → Offer → Type 0
IsAbove name member offer = offer.name ≡ name → member ≤ offer.member

-- what the first offers of a list say of a name
abbrev Tells : List ℕ → List Offer → Option ℕ → Type 0
Tells name offers None = All (IsOther name) offers
Tells name offers (Some member) = IsLeastOffer name offers member

lowered : (name : List ℕ) (low member : ℕ) (offers : List Offer) → low ≤ member → All (IsAbove name member) offers → All (IsAbove name low) offers
lowered name low member offers below all =
    All-weaker (IsAbove name member) (IsAbove name low) (λ offer above same. let a : member ≤ offer.member = above same in omega arith) offers all

all_above : (name : List ℕ) (low : ℕ) (offers : List Offer) → All (IsOther name) offers → All (IsAbove name low) offers
all_above name low offers all = All-weaker (IsOther name) (IsAbove name low) (λ offer other same. absurd (other same)) offers all

same_offer : (offer : Offer) (name : List ℕ) (member : ℕ) → offer.name ≡ name → offer.member ≡ member → Some offer ≡ Some (record { name = name; member = member })
same_offer offer name member named numbered =
    ap (λ (n : List ℕ). Some (record { name = n; member = offer.member })) named ∙ ap (λ (m : ℕ). Some (record { name = name; member = m })) numbered

here_none : (name : List ℕ) (offer : Offer) (offers : List Offer) → offer.name ≡ name → All (IsOther name) offers → IsLeastOffer name (offer ∷ offers) offer.member
here_none name offer offers named others = record {
  offered = (0, same_offer offer name offer.member named refl);
  least = All-cons (IsAbove name offer.member) offer offers (λ _. omega arith) (all_above name offer.member offers others);
}

by_test : (a b : ℕ) (test : Bool) → nat_le a b ≡ test → (a ≤ b) ⊎ (b ≤ a)
by_test a b true is = inl (grind (arith, tests))
by_test a b false is = inr (grind (arith, tests))

either_way : (a b : ℕ) → (a ≤ b) ⊎ (b ≤ a)
either_way a b = by_test a b (nat_le a b) refl

kept_low : (name : List ℕ) (offer : Offer) (offers : List Offer) (other : ℕ) → offer.name ≡ name → IsLeastOffer name offers other → offer.member ≤ other → IsLeastOffer name (offer ∷ offers) (min offer.member other)
kept_low name offer offers other named is low =
    let e : min offer.member other ≡ offer.member = omega arith in
    let least : IsLeastOffer name (offer ∷ offers) offer.member = record {
      offered = (0, same_offer offer name offer.member named refl);
      least = All-cons (IsAbove name offer.member) offer offers (λ _. omega arith) (lowered name offer.member other offers low is.least);
    } in
    rw e least

kept_high : (name : List ℕ) (offer : Offer) (offers : List Offer) (other : ℕ) → offer.name ≡ name → IsLeastOffer name offers other → other ≤ offer.member → IsLeastOffer name (offer ∷ offers) (min offer.member other)
kept_high name offer offers other named is high =
    let e : min offer.member other ≡ other = omega arith in
    let least : IsLeastOffer name (offer ∷ offers) other = record {
      offered = (suc is.offered.0, is.offered.1);
      least = All-cons (IsAbove name other) offer offers (λ _. high) is.least;
    } in
    rw e least

here_some : (name : List ℕ) (offer : Offer) (offers : List Offer) (other : ℕ) → offer.name ≡ name → IsLeastOffer name offers other → IsLeastOffer name (offer ∷ offers) (min offer.member other)
here_some name offer offers other named is =
    elim (either_way offer.member other) [
      | inl low ↦ kept_low name offer offers other named is low
      | inr high ↦ kept_high name offer offers other named is high
    ]

there_some : (name : List ℕ) (offer : Offer) (offers : List Offer) (other : ℕ) → (offer.name ≡ name → ⊥) → IsLeastOffer name offers other → IsLeastOffer name (offer ∷ offers) other
there_some name offer offers other unlike is = record {
  offered = (suc is.offered.0, is.offered.1);
  least = All-cons (IsAbove name other) offer offers (λ same. absurd (unlike same)) is.least;
}

unlike : (a b : List ℕ) → bytes_eq a b ≡ false → a ≡ b → ⊥
unlike a b other same = let yes_ : bytes_eq a b ≡ true = (bytes_eq-Decides a b).1 same in cc

with_next : (name : List ℕ) (offer : Offer) (offers : List Offer) (same : Bool) (rest : Option ℕ) → bytes_eq offer.name name ≡ same → Tells name offers rest → Tells name (offer ∷ offers) (if same then Some (lesser offer.member rest) else rest)
with_next name offer offers true None is tells = here_none name offer offers ((bytes_eq-Decides offer.name name).0 is) tells
with_next name offer offers true (Some other) is tells = here_some name offer offers other ((bytes_eq-Decides offer.name name).0 is) tells
with_next name offer offers false None is tells = All-cons (IsOther name) offer offers (unlike offer.name name is) tells
with_next name offer offers false (Some other) is tells = there_some name offer offers other (unlike offer.name name is) tells

tells_all : (name : List ℕ) (offers : List Offer) → Tells name offers (first_offer name offers)
unfolding first_offer
tells_all name [] = All-nil (IsOther name)
tells_all name (offer ∷ offers) =
    with_next name offer offers (bytes_eq offer.name name) (first_offer name offers) refl (tells_all name offers)

some_told : (name : List ℕ) (offers : List Offer) (found : Option ℕ) → Tells name offers found → IfSome found (IsLeastOffer name offers)
some_told name offers None tells = tt
some_told name offers (Some member) tells = tells

none_told : (name : List ℕ) (offers : List Offer) (found : Option ℕ) → Tells name offers found → IfNone found (IsUnoffered name offers)
none_told name offers None tells = record { each = tells }
none_told name offers (Some member) tells = tt

pub is_least : (name : List ℕ) (offers : List Offer) (found : Option ℕ) → found ≡ first_offer name offers → IfSome found (IsLeastOffer name offers)
is_least name offers found is = some_told name offers found (rw is (tells_all name offers))

pub is_none : (name : List ℕ) (offers : List Offer) (found : Option ℕ) → found ≡ first_offer name offers → IfNone found (IsUnoffered name offers)
is_none name offers found is = none_told name offers found (rw is (tells_all name offers))

pub ruleset least = (is_least, is_none)
