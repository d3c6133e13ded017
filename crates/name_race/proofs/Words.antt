-- The words of a table that has ended, written one after another.
use Rattle.std.proofs.Common.{◌≡◌, ℕ, zero, suc, ◌+◌, ◌<◌, ◌≤◌, List, [], ◌∷◌, ◌++◌, length, get_or, set, take, sym, ◌∙◌, ap, subst, take_all}
use mathlib.Core.Option.{some, some-injective, some-ne-none}
use lib.ListN.{get_elem?}
use Rattle.std.specs.Mem.Slots.{slots_counts}
use Rattle.std.proofs.lemmas.List.{take_more, take_more_set}

get_or_at : (xs : List ℕ) (i r d : ℕ) → get_elem? xs i ≡ some r → get_or xs i d ≡ r
get_or_at [] i r d at = absurd (some-ne-none r (sym at))
get_or_at (x ∷ xs) zero r d at = some-injective x r at
get_or_at (x ∷ xs) (suc i) r d at = get_or_at xs i r d at

pub written_more : (into items : List ℕ) (i r : ℕ) → i < length into → length into ≡ length items → get_elem? items i ≡ some r → take i into ≡ take i items → take (i + 1) (set into i r) ≡ take (i + 1) items
written_more into items i r near long at so =
    take_more_set into i r near ∙ (ap (λ l. l ++ r ∷ []) so ∙ (ap (λ (x : ℕ). take i items ++ x ∷ []) (sym (get_or_at items i r 0 at)) ∙ sym (take_more items i 0 (subst (λ n. i < n) long near))))

pub written_all : (into items : List ℕ) (n : ℕ) → length into ≤ n → length into ≡ length items → take n into ≡ take n items → into ≡ items
written_all into items n all long so = sym (take_all n into all) ∙ (so ∙ take_all n items (subst (λ k. k ≤ n) long all))

pub ruleset copying = (written_more, written_all, slots_counts)
