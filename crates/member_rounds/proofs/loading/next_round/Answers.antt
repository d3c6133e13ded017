use Rattle.std.proofs.Common.{◌∙◌, ap, sym}
use Rattle.std.proofs.lemmas.Result.{err_from_is_err_and}
use Rattle.member_rounds.specs.inner.Working.{read_each}
use Rattle.member_rounds.proofs.LinkLemmas.{link_read_fails, read_at, readable_over}
use Rattle.member_rounds.proofs.loading.next_round.Goals as goal

pub read_all-requires-clause-files : goal.read_all-requires-clause-files
read_all-requires-clause-files g c κs within =
    readable_over c.sources-sources.result.now c.args.rules.now.libs.now c.args.rules.now.wanted.now c.args.link c.as_slice.result.now (rw c.sources-sources.ensures c.args.rules.now.order) (rw c.sources-sources.ensures c.requires.link) c.as_slice.ensures.value

pub returns-in_err-read-clause-fault : goal.returns-in_err-read-clause-fault
returns-in_err-read-clause-fault g c = let p = err_from_is_err_and c.from_residual.result c.from_residual.ensures.1 in rw (p.1, p.2) λ real.
    link_read_fails c.args.rules.now.offers c.args.rules.now.libs.now c.args.rules.now.wanted.now c.args.link c.in_err-read.field-0.0 c.requires.link c.requires.rounds (ap (read_each c.args.rules.now.offers) (sym c.as_slice.ensures.value) ∙ (rw c.sources-sources.ensures at c.in_err-read.ensures.exact real))

pub join_round-requires-clause-read : goal.join_round-requires-clause-read
join_round-requires-clause-read g c κs within =
    read_at c.args.rules.now.offers c.args.rules.now.libs.now c.args.rules.now.wanted.now c.args.link c.in_ok-read.read c.args.rules.now.order c.requires.link c.requires.rounds (ap (read_each c.args.rules.now.offers) (sym c.as_slice.ensures.value) ∙ (rw c.sources-sources.ensures at c.in_ok-read.ensures.exact)) c.in_ok-read.ensures.whole
