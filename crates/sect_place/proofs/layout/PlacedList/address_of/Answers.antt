use Rattle.std.proofs.Common.{◌≡◌, ℕ, List, MatchOption, Contains, subst}
use Rattle.sect_place.specs.declared.layout.Placed.{Placed}
use Rattle.sect_place.proofs.layout.PlacedList.address_of.Goals as goal

pub returns : goal.returns
returns c =
    let same : c.as_slice.result.now ≡ c.args.self.now = cc in
    subst (λ (placed : List Placed). MatchOption c.find.result ((address : ℕ) → ¬ Contains placed (record { atom = c.args.atom.now; address = address })) (λ address. Contains placed (record { atom = c.args.atom.now; address = address })))
    same c.find.ensures
