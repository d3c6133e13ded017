use Rattle.std.proofs.Common.{rules}
use Rattle.std.specs.Ordering.{nat_cmp}
use Rattle.std.proofs.lemmas.Fn.{always_returns_same}
use Rattle.fixup_chain.specs.declared.chains.ChainWord.{ChainWord}
use Rattle.ref_meet.proofs.WordLemmas.{word_found, word_missing}
use Rattle.ref_meet.proofs.words.place_of.Goals as goal

pub returns-in-Ok : goal.returns-in-Ok
returns-in-Ok c =
    word_found c.args.words.now c.args.address c.in-Ok.at c.in-Ok.ensures.bound
    (c.in-Ok.ensures.position (λ (chained : ChainWord). nat_cmp chained.address c.args.address) (always_returns_same _ _ _ (λ a r g called. search rules)))

pub returns-in-Err : goal.returns-in-Err
returns-in-Err c =
    word_missing c.args.words.now c.args.address c.in-Err.field-0 c.requires
    (c.in-Err.ensures.position (λ (chained : ChainWord). nat_cmp chained.address c.args.address) (always_returns_same _ _ _ (λ a r g called. search rules)))
