use Rattle.std.proofs.Common.{ℕ, ◌+◌, ◌<◌, ◌≤◌, get_or}
use Rattle.fixup_chain.specs.declared.chains.Fixup.{Fixup}
use Rattle.call_times.proofs.chains.are_apart.Given as goal

abbrev pub invariant-loop-fixup : goal.invariant-loop-fixup
invariant-loop-fixup l = record {
  apart : (i j : ℕ) (d : Fixup) → i < j → j < l.fixup-index → (get_or l.fixups i d).address + 8 ≤ (get_or l.fixups j d).address;
  ended : (k : ℕ) (d : Fixup) → k < l.fixup-index → (get_or l.fixups k d).address + 8 ≤ l.end;
}
