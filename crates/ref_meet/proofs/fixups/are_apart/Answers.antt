use Rattle.std.proofs.Common.{rules}
use Rattle.std.proofs.lemmas.Fn.{always_returns_same}
use Rattle.fixup_chain.specs.declared.chains.Fixup.{Fixup}
use Rattle.ref_meet.specs.inner.Apart.{has_eight}
use Rattle.ref_meet.proofs.PairLemmas.{up_answer}
use Rattle.ref_meet.proofs.fixups.are_apart.Goals as goal

pub returns : goal.returns
returns c =
    up_answer (λ (fixup : Fixup). fixup.address) c.args.fixups.now c.is_sorted_by.result
    (c.is_sorted_by.ensures.cases (λ (a : Fixup) (b : Fixup). has_eight a.address b.address) (always_returns_same _ _ _ (λ a r g called. search rules)))
