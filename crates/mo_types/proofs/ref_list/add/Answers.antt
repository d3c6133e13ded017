use Rattle.std.proofs.Common.{length}
use Rattle.mo_types.proofs.RefRowLemmas.{push_within, push_other_within}
use Rattle.mo_types.proofs.ref_list.add.Goals as goal

pub returns-in_ok-push-in-Some-clause-within : goal.returns-in_ok-push-in-Some-clause-within
returns-in_ok-push-in-Some-clause-within c =
    push_within (length c.args.others.now.items) c.args.rows.now.items c.push.new.self.items c.in-Some.row c.requires c.in_ok-push-in-Some.ensures.items (c.in-Some.ensures.within (length c.args.others.now.items))

pub returns-in_ok-add_other-in-None-clause-within : goal.returns-in_ok-add_other-in-None-clause-within
returns-in_ok-add_other-in-None-clause-within c =
    push_other_within c.args.others.now.items c.add_other.new.others.items c.args.rows.now.items c.add_other.new.rows.items c.args.reference c.requires c.in_ok-add_other-in-None.ensures.row c.in_ok-add_other-in-None.ensures.other
