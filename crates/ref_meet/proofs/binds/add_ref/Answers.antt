use Rattle.std.proofs.Common.{◌≡◌, true, sym, ◌∙◌, rules}
use Rattle.mark_core.specs.Kept.{has}
use Rattle.ref_meet.proofs.BindLemmas.{one_some}
use Rattle.ref_meet.proofs.binds.add_ref.Goals as goal

pub returns-in_ok-push-in-Some : goal.returns-in_ok-push-in-Some
returns-in_ok-push-in-Some c =
    let kept : has c.args.bound.now.keys.now c.args.reference.now.atom ≡ true = search rules in
    one_some c.args.bound.now c.args.reference.now c.args.out.now.items c.push.new.self.items c.in-Some.fixup kept (sym c.in_ok-fixup.ensures ∙ c.in-Some.is) c.in_ok-push-in-Some.ensures.items
