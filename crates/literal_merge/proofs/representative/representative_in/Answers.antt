use Rattle.std.proofs.Common.{rules}
use Rattle.std.proofs.lemmas.Fn.{always_returns_same}
use Rattle.mo_types.specs.Keys.{compare_keys}
use Rattle.literal_merge.specs.declared.representative.Representative.{Representative}
use Rattle.literal_merge.proofs.StandsLemmas.{literal_found, literal_missing}
use Rattle.literal_merge.proofs.representative.representative_in.Goals as goal

pub returns-in-Ok : goal.returns-in-Ok
returns-in-Ok c =
    literal_found c.args.literals.now c.args.key c.in-Ok.at _ c.requires c.in-Ok.ensures.bound
    (c.in-Ok.ensures.position (λ (r : Representative). compare_keys r.literal c.args.key) (always_returns_same _ _ _ (λ a r g called. search rules)))

pub returns-in-Err : goal.returns-in-Err
returns-in-Err c =
    literal_missing c.args.literals.now c.args.key c.in-Err.field-0 c.requires
    (c.in-Err.ensures.position (λ (r : Representative). compare_keys r.literal c.args.key) (always_returns_same _ _ _ (λ a r g called. search rules)))
