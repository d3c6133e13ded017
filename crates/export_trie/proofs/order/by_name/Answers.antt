use Rattle.std.proofs.Common.{◌≡◌, ℕ, zero, suc, [], ◌∷◌, ◌+◌, ◌<◌, List, length, get_or, refl, subst, ◌∙◌, arith, rules, IsPermutation}
use Rattle.std.specs.Borrow.{Bor}
use Rattle.std.specs.List.Sorted.{IsSortedBy}
use Rattle.std.specs.Ordering.{is_lt, nat_cmp}
use Rattle.std.specs.Cmp.Lexicographic.{slice_cmp, nat_list_cmp_total}
use Rattle.std.proofs.lemmas.List.{take_all, length-map}
use Rattle.std.proofs.lemmas.List.Sorted.{IsPermutation-map, ranks_by, answers_always}
use Rattle.export_trie.specs.declared.export.ExportAddress.{ExportAddress}
use Rattle.export_trie.specs.Held.{held}
use Rattle.export_trie.proofs.order.by_name.Goals as goal

-- an element of the list, read through its reference
held_read : (references : List (Bor ExportAddress)) (k : ℕ) (d : ExportAddress) (e : Bor ExportAddress) → k < length references → get_or (held references) k d ≡ (get_or references k e).now
held_read [] k d e h = absurd (omega arith)
held_read (r ∷ references) zero d e h = refl
held_read (r ∷ references) (suc k) d e h = held_read references k d e (omega arith)

-- a sorted list of references is a sorted list of what they point to
sorted_held : (references : List (Bor ExportAddress)) → IsSortedBy (λ (a : Bor ExportAddress) (b : Bor ExportAddress). is_lt (slice_cmp nat_cmp a.now.name b.now.name)) references → IsSortedBy (λ (a : ExportAddress) (b : ExportAddress). is_lt (slice_cmp nat_cmp a.name b.name)) (held references)
sorted_held [] up = λ k d low high. absurd (omega arith)
sorted_held (r ∷ references) up = λ k d low high.
    let within : k + 1 < length (r ∷ references) = omega (arith, length-map (r ∷ references) (λ (reference : Bor ExportAddress). reference.now)) in
    let here = held_read (r ∷ references) k d r (omega arith) in
    let next = held_read (r ∷ references) (k + 1) d r within in
    rw (here, next) (up k r low within)

pub returns-clause-permutation : goal.returns-clause-permutation
returns-clause-permutation c =
    subst (λ (exports : List ExportAddress). IsPermutation exports (held c.sort_unstable_by.new.self.items))
    (c.loop-export.invariant ∙ take_all c.loop-export.export-index c.args.exports.now c.loop-export-test.false)
    (IsPermutation-map (λ (reference : Bor ExportAddress). reference.now) _ _ c.sort_unstable_by.ensures.permutation)

pub returns-clause-sorted : goal.returns-clause-sorted
returns-clause-sorted c =
    sorted_held c.sort_unstable_by.new.self.items
    (c.sort_unstable_by.ensures.sorted (λ (a : Bor ExportAddress) (b : Bor ExportAddress). is_lt (slice_cmp nat_cmp a.now.name b.now.name))
    (ranks_by nat_list_cmp_total (λ (a : Bor ExportAddress). a.now.name))
    (answers_always _ _ _ (λ f a r f' k. search rules)))
