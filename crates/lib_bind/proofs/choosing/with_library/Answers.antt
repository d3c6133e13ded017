use Rattle.std.proofs.Common.{Ok, [], ◌∷◌, ◌++◌, ◌+◌, ◌∙◌, ap, rules}
use Rattle.lib_bind.proofs.ChoosingLemmas.{library_more, sum_more}
use Rattle.lib_bind.proofs.choosing.with_library.Goals as goal

pub returns-clause-exact : goal.returns-clause-exact
returns-clause-exact c =
    ap Ok (library_more c.args.input.now c.args.named c.args.chosen c.push.new.self c.in_ok-heads.heads c.push-2.new.self (c.args.chosen.documents + c.len.result) _ c.in_ok-clone.field-0
    c.in_ok-push.ensures.ok (search rules) (c.in_ok-heads.ensures ∙ ap (λ pairs. pairs ++ (c.in_ok-clone.field-0, c.args.chosen.documents) ∷ []) c.heads.view_is) (search rules) c.in_ok-push-2.ensures.ok
    (ap (λ n. c.args.chosen.documents + n) c.len.ensures))

pub returns-clause-sum : goal.returns-clause-sum
returns-clause-sum c = sum_more c.args.chosen.libraries c.push.new.self _ c.args.chosen.documents c.len.result _ c.in_ok-push.ensures.ok c.len.ensures c.requires.limit c.requires.sum
