use Rattle.std.proofs.Common.{◌≡◌, ◌+◌}
use Rattle.member_rounds.specs.inner.Linking.{IsLinkBy}
use Rattle.member_rounds.proofs.loading.all_rounds.Given as goal

abbrev pub invariant-loop-round : goal.invariant-loop-round
invariant-loop-round g l = IsLinkBy l.rules l.link × (l.link.rounds ≡ l.round + 1)
