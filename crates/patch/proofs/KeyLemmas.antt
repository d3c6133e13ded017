-- Which of two atoms comes first by their keys.
use Rattle.std.proofs.Common.{◌≡◌, true, false, refl, ap, ◌∙◌}
use Rattle.std.specs.Ordering.{is_gt, ordering_reverse}
use Rattle.std.specs.declared.cmp.Ordering.{Ordering}
use Rattle.std.specs.declared.cmp.Ordering.TheVariants.{Less, Equal, Greater}
use Rattle.std.proofs.lemmas.Cmp.{tied_itself, upto}
use Rattle.mo_types.specs.declared.key.AtomKey.{AtomKey}
use Rattle.mo_types.specs.Keys.{compare_keys}
use Rattle.mo_types.proofs.KeyOrder.{compare_keys_total}
use Rattle.patch.specs.Range.{IsUpTo}

pub itself : (a : AtomKey) → IsUpTo a a
itself a = ap is_gt (tied_itself compare_keys_total a)

pub through : (a b c : AtomKey) → IsUpTo a b → IsUpTo b c → IsUpTo a c
through a b c = upto compare_keys_total a b c

turned : (o : Ordering) → is_gt (ordering_reverse o) ≡ true → is_gt o ≡ false
turned Less e = refl
turned Equal e = cc
turned Greater e = cc

pub turned_round : (a b : AtomKey) → is_gt (compare_keys a b) ≡ true → IsUpTo b a
turned_round a b after = turned (compare_keys b a) (ap is_gt (sym_order a b) ∙ after)
  where
    sym_order : (a b : AtomKey) → ordering_reverse (compare_keys b a) ≡ compare_keys a b
    sym_order a b = let e = compare_keys_total.antisymm a b in cc
