use Rattle.std.proofs.Common.{◌≡◌, arith}
use Rattle.std.specs.declared.cmp.Ordering.TheVariants.{Less}
use Rattle.std.proofs.lemmas.List.Sorted.{all_adjacent_more}
use Rattle.mo_types.specs.Keys.{compare_keys}
use Rattle.sect_place.specs.declared.island.IslandArea.{IslandArea}
use Rattle.atom_index.proofs.Keys.{rises_from}
use Rattle.call_times.proofs.Rise.{apart}
use Rattle.call_times.proofs.order.areas_rise.Goals as goal

pub loop-i-preserved : goal.loop-i-preserved
loop-i-preserved c = all_adjacent_more c.args.areas.now (λ (a : IslandArea) (b : IslandArea). compare_keys a.last b.last ≡ Less) c.loop-i.i (omega arith) c.loop-i.invariant
    (λ d. apart (λ (x y : IslandArea). compare_keys x.last y.last) c.args.areas.now c.loop-i.i _ _ d (omega arith) c.loop-i-test.true c.in-Less.ensures)

pub returns : goal.returns
returns c = λ _. rises_from (λ (x : IslandArea). x.last) c.args.areas.now c.loop-i.i c.loop-i.invariant c.loop-i-test.false
