use Rattle.std.proofs.Common.{rules, ◌≡◌, get_or}
use Rattle.slot_place.specs.Stubs.{stubs_from}
use Rattle.slot_place.proofs.StubLemmas.{stubs_end, stubs_go_on}
use Rattle.slot_place.proofs.stubs.stubs_from.Goals as goal

pub loop-number-preserved : goal.loop-number-preserved
loop-number-preserved c =
    let found : get_or c.args.slots.now.stubs c.loop-number.number c.index-goals-number.result ≡ c.index-goals-number.result = search rules in
    stubs_go_on c.args.starts c.args.slots.now c.args.start c.loop-number.number c.index-goals-number.result c.loop-number.bytes.items c.put_numbered.new.out.items c.loop-number.invariant (search rules) found c.in_ok-put_numbered.ensures

pub returns : goal.returns
unfolding stubs_from
returns c = stubs_end c.args.starts c.args.slots.now c.args.start c.loop-number.number c.loop-number.bytes.items c.loop-number.invariant (search rules)
