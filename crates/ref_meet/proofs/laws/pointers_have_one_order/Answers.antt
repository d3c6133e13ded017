use Rattle.fixup_chain.specs.declared.chains.Fixup.{Fixup}
use Rattle.ref_meet.specs.Pointers.{all_fixups}
use Rattle.ref_meet.proofs.PairLemmas.{one_order, up_exists}
use Rattle.ref_meet.proofs.laws.pointers_have_one_order.Goals as goal

pub returns-clause-some : goal.returns-clause-some
returns-clause-some c = λ scene items spread.
    let is = up_exists (λ (fixup : Fixup). fixup.address) (all_fixups scene items) spread in
    (is.0, record { apart = is.2; all = is.1 })

pub returns-clause-one : goal.returns-clause-one
returns-clause-one c = λ scene items a b x y. one_order (λ (fixup : Fixup). fixup.address) (all_fixups scene items) a b x.apart y.apart x.all y.all
