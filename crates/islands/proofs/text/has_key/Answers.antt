use Rattle.std.proofs.Common.{Contains, rules, sym}
use Rattle.std.proofs.lemmas.Cmp.{tied_itself}
use Rattle.std.proofs.lemmas.Fn.{always_returns_same}
use Rattle.list_lemmas.proofs.Members.{Contains_from_in, in_from_Contains}
use Rattle.mo_types.proofs.KeyOrder.{compare_keys_total}
use Rattle.mo_types.specs.Keys.{compare_keys}
use Rattle.mo_types.specs.declared.key.AtomKey.{AtomKey}
use Rattle.atom_index.proofs.Keys.{found_key, no_key, sorted_from_rising}
use Rattle.islands.proofs.Keyed.{key_found, key_missing}
use Rattle.islands.proofs.text.has_key.Goals as goal

pub returns-in-Ok : goal.returns-in-Ok
returns-in-Ok c =
    let by_key = c.in-Ok.ensures.position (λ (k : AtomKey). compare_keys k c.args.key.now) (always_returns_same _ _ _ (λ a r g called. search rules)) in
    let is = found_key (λ (k : AtomKey). k) c.args.keys.now c.args.key.now c.in-Ok.field-0 c.args.key.now by_key in
    sym (key_found c.args.keys.now c.args.key.now (in_from_Contains c.args.keys.now c.args.key.now (c.in-Ok.field-0, c.in-Ok.ensures.bound, is)))

pub returns-in-Err : goal.returns-in-Err
returns-in-Err c =
    let by_key = c.in-Err.ensures.position (λ (k : AtomKey). compare_keys k c.args.key.now) (always_returns_same _ _ _ (λ a r g called. search rules)) in
    sym (key_missing c.args.keys.now c.args.key.now (λ h.
    let listed : Contains c.args.keys.now c.args.key.now = Contains_from_in c.args.keys.now c.args.key.now h in
    no_key (λ (k : AtomKey). k) c.args.keys.now c.args.key.now c.in-Err.field-0 (sorted_from_rising compare_keys_total c.args.keys.now c.requires) by_key listed.0 c.args.key.now listed.1 (rw listed.2 (tied_itself compare_keys_total c.args.key.now))))
