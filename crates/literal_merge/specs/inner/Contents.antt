-- Contents that are the same.
use Rattle.std.proofs.Common.{◌≡◌, Bool, true, false, ◌&&◌, ◌==◌, refl, sym, ap, ◌∙◌}
use Rattle.std.specs.Cmp.{IsEquivalence}
use Rattle.std.specs.Str.{bytes_eq}
use Rattle.std.specs.Hash as fed
use Rattle.std.proofs.lemmas.Bool.{eqb-true, eq-eqb}
use Rattle.std.proofs.lemmas.Slice.Eq.{bytes_eq-Decides}
use Rattle.literal_merge.specs.declared.literal.Content.{Content}
use Rattle.literal_merge.specs.inner.Groups.{has_content, same_content}
use Rattle.literal_merge.specs.Representatives.{Literal}

-- the fields of two contents are the same
pub record SameFields (a b : Content) : Type 0 where
  pub bytes : a.bytes.now ≡ b.bytes.now
  pub name : a.name.now ≡ b.name.now
  pub segment : a.segment.now ≡ b.segment.now
  pub kind : a.kind ≡ b.kind

all_four : (a b c d : Bool) → (a && b && c && d) ≡ true → (a ≡ true) × (b ≡ true) × (c ≡ true) × (d ≡ true)
all_four true true true true e = (refl, refl, refl, refl)
all_four true true true false e = cc
all_four true true false d e = cc
all_four true false c d e = cc
all_four false b c d e = cc

pub fields_from : (a b : Content) → same_content a b ≡ true → SameFields a b
fields_from a b e =
    let p = all_four (bytes_eq a.bytes.now b.bytes.now) (bytes_eq a.name.now b.name.now) (bytes_eq a.segment.now b.segment.now) (a.kind == b.kind) e in
    record {
      bytes = (bytes_eq-Decides a.bytes.now b.bytes.now).0 p.0;
      name = (bytes_eq-Decides a.name.now b.name.now).0 p.1;
      segment = (bytes_eq-Decides a.segment.now b.segment.now).0 p.2;
      kind = eqb-true a.kind b.kind p.3;
    }

pub from_fields : (a b : Content) → SameFields a b → same_content a b ≡ true
from_fields a b h = rw ((bytes_eq-Decides a.bytes.now b.bytes.now).1 h.bytes, (bytes_eq-Decides a.name.now b.name.now).1 h.name, (bytes_eq-Decides a.segment.now b.segment.now).1 h.segment, eq-eqb a.kind b.kind h.kind) refl

turned : (a b : Content) → SameFields a b → SameFields b a
turned a b h = record { bytes = sym h.bytes; name = sym h.name; segment = sym h.segment; kind = sym h.kind }

pub turned_round : (a b : Content) (t : Bool) → same_content a b ≡ t → same_content b a ≡ t
turned_round a b true e = from_fields b a (turned a b (fields_from a b e))
turned_round a b false e = not_true (same_content b a) (λ is. let f : same_content a b ≡ true = from_fields a b (turned b a (fields_from b a is)) in let g : true ≡ false = sym f ∙ e in cc)
  where
    not_true : (t : Bool) → (t ≡ true → ⊥) → t ≡ false
    not_true true never = absurd (never refl)
    not_true false never = refl

-- contents that are the same are the same as the same others
pub same_others : (a b c : Content) → SameFields a b → same_content a c ≡ same_content b c
same_others a b c h = rw (h.bytes, h.name, h.segment, h.kind) refl

pub same_literals : (a b : Content) (literal : Literal) → SameFields a b → has_content a literal ≡ has_content b literal
same_literals a b literal h = rw (h.bytes, h.name, h.segment, h.kind) refl

pub contents_equal : IsEquivalence same_content
contents_equal = record {
  refl = λ a. from_fields a a (record { bytes = refl; name = refl; segment = refl; kind = refl });
  symm = λ a b. sym (turned_round a b (same_content a b) refl);
  congr = λ a b c e. same_others a b c (fields_from a b e);
}

pub contents_feed : (a b : Content) → same_content a b ≡ true → fed.slice fed.u8 a.bytes.now ≡ fed.slice fed.u8 b.bytes.now
contents_feed a b e = ap (fed.slice fed.u8) (fields_from a b e).bytes
