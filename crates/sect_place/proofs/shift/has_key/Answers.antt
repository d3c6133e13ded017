use Rattle.std.proofs.Common.{rules}
use Rattle.std.proofs.lemmas.Cmp.{tied_itself}
use Rattle.std.proofs.lemmas.Fn.{always_returns_same}
use Rattle.mo_types.proofs.KeyOrder.{compare_keys_total}
use Rattle.mo_types.specs.Keys.{compare_keys}
use Rattle.mo_types.specs.declared.key.AtomKey.{AtomKey}
use Rattle.atom_index.proofs.Keys.{found_key, no_key, sorted_from_rising}
use Rattle.sect_place.proofs.shift.has_key.Goals as goal

pub returns-in-Ok-clause-found : goal.returns-in-Ok-clause-found
returns-in-Ok-clause-found c =
    let by_key = c.in-Ok.ensures.position (λ (k : AtomKey). compare_keys k c.args.key.now) (always_returns_same _ _ _ (λ a r g called. search rules)) in
    λ _. (c.in-Ok.field-0, c.in-Ok.ensures.bound, found_key (λ (k : AtomKey). k) c.args.keys.now c.args.key.now c.in-Ok.field-0 c.args.key.now by_key)

pub returns-in-Err-clause-missed : goal.returns-in-Err-clause-missed
returns-in-Err-clause-missed c =
    let by_key = c.in-Err.ensures.position (λ (k : AtomKey). compare_keys k c.args.key.now) (always_returns_same _ _ _ (λ a r g called. search rules)) in
    λ rising listed. absurd (no_key (λ (k : AtomKey). k) c.args.keys.now c.args.key.now c.in-Err.field-0 (sorted_from_rising compare_keys_total c.args.keys.now rising) by_key listed.0 c.args.key.now listed.1 (rw listed.2 (tied_itself compare_keys_total c.args.key.now)))
