use Rattle.link_gen.proofs.OutsideLemmas.{put_in_order_is}
use Rattle.link_gen.proofs.calls.outside_functions.Goals as goal

pub returns-clause-exact : goal.returns-clause-exact
returns-clause-exact c =
    put_in_order_is c.args.made c.args.drawn.now c.in_ok-outside.outside.items c.put_in_order.new.numbers.items c.requires.made c.requires.drawn
    c.in_ok-outside.ensures c.put_in_order.ensures.order
