use Rattle.std.proofs.Common.{◌≡◌, length}
use Rattle.member_rounds.specs.Rounds.{undefined_in}
use Rattle.member_rounds.specs.inner.Asking.{is_settled}
use Rattle.member_rounds.proofs.SettledLemmas.{AreAsking}
use Rattle.member_rounds.proofs.asking.ask_files.Given as goal

abbrev pub invariant-loop-i : goal.invariant-loop-i
invariant-loop-i l =
    AreAsking l.offers l.libs l.fn.before.ids.items (is_settled l.known.names.now l.known.words.now l.fn.before.asked.items) l.asked.ids.items (is_settled l.known.names.now l.known.words.now l.asked.asked.items) undefined_in l.files l.i
    × (length l.asked.asked.items ≡ length l.known.names.now)
