use Rattle.std.proofs.Common.{◌∙◌, ap, arith, sym}
use Rattle.std.proofs.lemmas.Result.{err_from_is_err_and}
use Rattle.member_rounds.specs.inner.Working.{read_each}
use Rattle.member_rounds.proofs.LinkLemmas.{link_read_fails, new_first, read_at}
use Rattle.member_rounds.proofs.loading.first_round.Goals as goal

pub read_first-requires-clause-ids : goal.read_first-requires-clause-ids
read_first-requires-clause-ids g c κs within = rw c.sources-sources.ensures (c.as_slice-ids.ensures.value ∙ new_first c.args.rules.now.offers c.args.rules.now.libs.now c.args.rules.now.wanted.now c.args.link c.requires.link c.requires.first)

pub returns-in_err-read-clause-fault : goal.returns-in_err-read-clause-fault
returns-in_err-read-clause-fault g c = let p = err_from_is_err_and c.from_residual.result c.from_residual.ensures.1 in rw (p.1, p.2) λ real.
    link_read_fails c.args.rules.now.offers c.args.rules.now.libs.now c.args.rules.now.wanted.now c.args.link c.in_err-read.field-0.0 c.requires.link (omega (arith, c.requires.first)) (ap (read_each c.args.rules.now.offers) (sym c.as_slice-ids.ensures.value) ∙ (rw c.sources-sources.ensures at c.in_err-read.ensures.exact real))

pub join_round-requires-clause-read : goal.join_round-requires-clause-read
join_round-requires-clause-read g c κs within =
    read_at c.args.rules.now.offers c.args.rules.now.libs.now c.args.rules.now.wanted.now c.args.link c.in_ok-read.read c.args.rules.now.order c.requires.link (omega (arith, c.requires.first)) (ap (read_each c.args.rules.now.offers) (sym c.as_slice-ids.ensures.value) ∙ (rw c.sources-sources.ensures at c.in_ok-read.ensures.exact)) c.in_ok-read.ensures.whole
