use Rattle.std.proofs.Common.{Option, ℕ, List, ap, ◌∙◌, ◌&&◌}
use Rattle.std.specs.List.{list_any}
use Rattle.std.specs.Option.{is_some}
use Rattle.sect_place.specs.Arrangement.{is_code}
use Rattle.sect_place.specs.declared.layout.PlacedSection.{PlacedSection}
use Rattle.sect_place.proofs.AddressLemmas.{address_is}
use Rattle.islands.specs.Text.{has_key}
use Rattle.islands.proofs.Keyed.{and_true}
use Rattle.islands.proofs.text.in_code.Goals as goal

pub returns-then-lists : goal.returns-then-lists
returns-then-lists c =
    and_true _ _ _ (c.if-lists.ensures ∙ ap (λ (placed : List PlacedSection). list_any (λ (p : PlacedSection). is_code p.section && has_key p.section.atoms c.args.key.now) placed) c.as_slice.ensures)
    (c.is_some.ensures ∙ ap (λ (o : Option ℕ). is_some o) (address_is c.args.layout.now.placed c.args.key.now c.address.result c.requires.once c.address.ensures))
