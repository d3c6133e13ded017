-- What a look-up of an atom answers.
use Rattle.std.proofs.Common.{◌≡◌, ℕ, ◌<◌, List, length, get_or, Contains, ap, ◌∙◌}
use Rattle.std.proofs.lemmas.List.{get_or_default}
use Rattle.mo_types.specs.declared.key.AtomKey.{AtomKey}
use Rattle.sect_place.specs.declared.layout.Placed.{Placed}

pub holds_placed : (placed : List Placed) (atom : AtomKey) (at : ℕ) (d : Placed) → at < length placed → (get_or placed at d).atom ≡ atom → Contains placed (record { atom = atom; address = (get_or placed at d).address })
holds_placed placed atom at d within is =
    let same = get_or_default placed at (record { atom = atom; address = (get_or placed at d).address }) d within in
    (at, within, same ∙ ap (λ (key : AtomKey). record { atom = key; address = (get_or placed at d).address }) is)
