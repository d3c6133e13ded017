use Rattle.std.proofs.Common.{rules}
use Rattle.std.proofs.lemmas.List.Sorted.{IsNonDecreasingBy-from_sort_by}
use Rattle.fixup_chain.specs.declared.chains.Fixup.{Fixup}
use Rattle.ref_meet.proofs.PairLemmas.{sorted_up}
use Rattle.ref_meet.proofs.fixups.sorted.Goals as goal

pub returns-clause-apart : goal.returns-clause-apart
returns-clause-apart c =
    sorted_up (λ (fixup : Fixup). fixup.address) c.args.fixups.items c.sort_unstable_by.new.self.items c.sort_unstable_by.ensures.permutation
    (IsNonDecreasingBy-from_sort_by (λ (fixup : Fixup). fixup.address) c.sort_unstable_by.new.self.items c.sort_unstable_by.ensures.sorted (λ a r f called. search rules))
    c.requires
