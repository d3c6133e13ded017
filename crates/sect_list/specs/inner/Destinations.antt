-- Destinations that are the same.
use Rattle.std.proofs.Common.{◌≡◌, Bool, true, false, ◌&&◌, ◌==◌, refl, sym, ap, ◌∙◌}
use Rattle.std.specs.Cmp.{IsEquivalence}
use Rattle.std.specs.Str.{bytes_eq}
use Rattle.std.specs.Hash as fed
use Rattle.std.proofs.lemmas.Bool.{eqb-true, eq-eqb}
use Rattle.std.proofs.lemmas.Slice.Eq.{bytes_eq-Decides}
use Rattle.mo_types.specs.Destination.{Destination}
use Rattle.sect_list.specs.OutSections.{same_destination}

-- the fields of two destinations are the same
pub record SameFields (a b : Destination) : Type 0 where
  pub segment : a.segment ≡ b.segment
  pub name : a.name ≡ b.name
  pub kind : a.kind ≡ b.kind

all_three : (a b c : Bool) → (a && b && c) ≡ true → (a ≡ true) × (b ≡ true) × (c ≡ true)
all_three true true true e = (refl, refl, refl)
all_three true true false e = cc
all_three true false c e = cc
all_three false b c e = cc

pub fields_from : (a b : Destination) → same_destination a b ≡ true → SameFields a b
fields_from a b e =
    let p = all_three (bytes_eq a.segment b.segment) (bytes_eq a.name b.name) (a.kind == b.kind) e in
    record {
      segment = (bytes_eq-Decides a.segment b.segment).0 p.0;
      name = (bytes_eq-Decides a.name b.name).0 p.1;
      kind = eqb-true a.kind b.kind p.2;
    }

pub from_fields : (a b : Destination) → SameFields a b → same_destination a b ≡ true
from_fields a b h = rw ((bytes_eq-Decides a.segment b.segment).1 h.segment, (bytes_eq-Decides a.name b.name).1 h.name, eq-eqb a.kind b.kind h.kind) refl

turned : (a b : Destination) → SameFields a b → SameFields b a
turned a b h = record { segment = sym h.segment; name = sym h.name; kind = sym h.kind }

turned_round : (a b : Destination) (t : Bool) → same_destination a b ≡ t → same_destination b a ≡ t
turned_round a b true e = from_fields b a (turned a b (fields_from a b e))
turned_round a b false e = not_true (same_destination b a) (λ is. let f : same_destination a b ≡ true = from_fields a b (turned b a (fields_from b a is)) in let g : true ≡ false = sym f ∙ e in cc)
  where
    not_true : (t : Bool) → (t ≡ true → ⊥) → t ≡ false
    not_true true never = absurd (never refl)
    not_true false never = refl

same_others : (a b c : Destination) → SameFields a b → same_destination a c ≡ same_destination b c
same_others a b c h = rw (h.segment, h.name, h.kind) refl

pub destinations_equal : IsEquivalence same_destination
destinations_equal = record {
  refl = λ a. from_fields a a (record { segment = refl; name = refl; kind = refl });
  symm = λ a b. sym (turned_round a b (same_destination a b) refl);
  congr = λ a b c e. same_others a b c (fields_from a b e);
}

pub destinations_feed : (a b : Destination) → same_destination a b ≡ true → fed.slice fed.u8 a.name ≡ fed.slice fed.u8 b.name
destinations_feed a b e = ap (fed.slice fed.u8) (fields_from a b e).name
