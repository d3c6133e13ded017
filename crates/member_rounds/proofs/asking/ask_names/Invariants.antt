use Rattle.std.proofs.Common.{◌≡◌, length}
use Rattle.member_rounds.specs.inner.Asking.{is_settled}
use Rattle.member_rounds.proofs.SettledLemmas.{AreAsking, alone}
use Rattle.member_rounds.proofs.asking.ask_names.Given as goal

abbrev pub invariant-loop-name : goal.invariant-loop-name
invariant-loop-name l =
    AreAsking l.offers l.libs l.fn.before.ids.items (is_settled l.known.names.now l.known.words.now l.fn.before.asked.items) l.asked.ids.items (is_settled l.known.names.now l.known.words.now l.asked.asked.items) alone l.names l.name-index
    × (length l.asked.asked.items ≡ length l.known.names.now)
