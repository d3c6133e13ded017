use Rattle.std.proofs.Common.{◌≡◌, ℕ, ◌<◌, List, length, get_or, Contains, ap, ◌∙◌, rules}
use Rattle.std.proofs.lemmas.List.{get_or_default}
use Rattle.mo_types.specs.declared.key.AtomKey.{AtomKey}
use Rattle.std.proofs.lemmas.Fn.{always_returns_same}
use Rattle.tlv_plan.specs.declared.parts.Offset.{Offset}
use Rattle.mo_types.specs.Keys.{compare_keys}
use Rattle.mo_types.proofs.KeyOrder.{compare_keys_total}
use Rattle.atom_index.proofs.Keys.{found_key, no_key}
use Rattle.std.proofs.lemmas.Cmp.{tied_itself}
use Rattle.tlv_plan.proofs.lookup.find.Goals as goal

holds_offset : (offsets : List Offset) (atom : AtomKey) (at : ℕ) (d : Offset) → at < length offsets → (get_or offsets at d).atom ≡ atom → Contains offsets (record { atom = atom; offset = (get_or offsets at d).offset })
holds_offset offsets atom at d within is =
    let same = get_or_default offsets at (record { atom = atom; offset = (get_or offsets at d).offset }) d within in
    (at, within, same ∙ ap (λ (key : AtomKey). record { atom = key; offset = (get_or offsets at d).offset }) is)

pub returns-in-Ok : goal.returns-in-Ok
returns-in-Ok c =
    let by_key = c.in-Ok.ensures.position (λ (o : Offset). compare_keys o.atom c.args.atom.now) (always_returns_same _ _ _ (λ a r g called. search rules)) in
    holds_offset c.args.offsets.now c.args.atom.now c.in-Ok.at _ c.in-Ok.ensures.bound (found_key (λ (o : Offset). o.atom) c.args.offsets.now c.args.atom.now c.in-Ok.at _ by_key)

pub returns-in-Err : goal.returns-in-Err
returns-in-Err c =
    let by_key = c.in-Err.ensures.position (λ (o : Offset). compare_keys o.atom c.args.atom.now) (always_returns_same _ _ _ (λ a r g called. search rules)) in
    λ offset h. no_key (λ (o : Offset). o.atom) c.args.offsets.now c.args.atom.now c.in-Err.field-0 c.requires by_key h.0 (record { atom = c.args.atom.now; offset = offset }) h.1
    (rw h.2 (tied_itself compare_keys_total c.args.atom.now))
