use Rattle.std.proofs.Common.{◌≡◌, ◌++◌, map}
use Rattle.std.specs.Vec.Iter.{into_iter_items}
use Rattle.member_rounds.specs.declared.in_order.NamedFile.{NamedFile}
use Rattle.member_rounds.proofs.in_order.parted.Given as goal

abbrev pub invariant-loop-pair : goal.invariant-loop-pair
invariant-loop-pair l =
    (l.files.items ++ map (λ (p : NamedFile). p.file) (into_iter_items l.pair-iterator) ≡ map (λ (p : NamedFile). p.file) l.fn.pairs.items)
    × (l.numbers.items ++ map (λ (p : NamedFile). p.numbers) (into_iter_items l.pair-iterator) ≡ map (λ (p : NamedFile). p.numbers) l.fn.pairs.items)
