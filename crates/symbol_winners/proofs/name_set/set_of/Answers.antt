use Rattle.std.proofs.Common.{ap, ◌∙◌, true}
use Rattle.std.specs.Prelude.{if◌then◌else◌}
use Rattle.std.specs.Str.{bytes_eq}
use Rattle.symbol_winners.specs.Winners.{lists}
use Rattle.symbol_winners.proofs.SetLemmas.{set_step}
use Rattle.symbol_winners.proofs.name_set.set_of.Goals as goal

pub loop-name-preserved : goal.loop-name-preserved
loop-name-preserved c = λ other.
    set_step c.args.names.now c.loop-name.set c.in_ok-set.set c.loop-name.name-index c.name-item.result c.loop-name-test.true c.name-item.is c.loop-name.invariant
    (λ o. c.in_ok-set.ensures o ∙ ap (λ n. if bytes_eq n o then true else lists c.loop-name.set o) c.as_slice.ensures) other
