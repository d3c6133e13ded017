use Rattle.std.proofs.Common.{◌≡◌, get_or, arith}
use Rattle.std.specs.Ordering.{on}
use Rattle.std.specs.declared.cmp.Ordering.TheVariants.{Less}
use Rattle.std.proofs.lemmas.Cmp.{tied_itself}
use Rattle.std.proofs.lemmas.List.Sorted.{all_adjacent_more}
use Rattle.atom_index.proofs.Keys.{rises_from}
use Rattle.list_lemmas.proofs.Rising.{rising_at}
use Rattle.mo_types.proofs.KeyOrder.{compare_keys_total}
use Rattle.mo_types.specs.Keys.{compare_keys}
use Rattle.sect_place.specs.declared.layout.Placed.{Placed}
use Rattle.symbol_tests.proofs.Rise.{apart}
use Rattle.symbol_tests.proofs.given.is_once.Goals as goal

pub loop-i-preserved : goal.loop-i-preserved
loop-i-preserved c = all_adjacent_more c.args.placed.now (λ (a : Placed) (b : Placed). compare_keys a.atom b.atom ≡ Less) c.loop-i.i (omega arith) c.loop-i.invariant
    (λ d. apart (λ (x y : Placed). compare_keys x.atom y.atom) c.args.placed.now c.loop-i.i _ _ d (omega arith) c.loop-i-test.true c.in-Less.ensures)

pub returns : goal.returns
returns c = λ _ i j d low high same.
    let less : compare_keys (get_or c.args.placed.now i d).atom (get_or c.args.placed.now j d).atom ≡ Less =
    rising_at (on (λ (p : Placed). p.atom) compare_keys) c.args.placed.now i j d
    (rises_from (λ (p : Placed). p.atom) c.args.placed.now c.loop-i.i c.loop-i.invariant c.loop-i-test.false) low high in
    let tied = tied_itself compare_keys_total (get_or c.args.placed.now i d).atom in
    cc
