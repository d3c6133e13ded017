use Rattle.std.proofs.Common.{◌≡◌, ◌&&◌, drop}
use Rattle.std.specs.List.{list_any}
use Rattle.sect_place.specs.declared.layout.PlacedSection.{PlacedSection}
use Rattle.islands.specs.Text.{has_key}
use Rattle.islands.specs.inner.Ordered.{test_of}
use Rattle.islands.proofs.text.lists.Given as goal

abbrev pub invariant-loop-placed : goal.invariant-loop-placed
invariant-loop-placed l =
    list_any (λ (p : PlacedSection). test_of l.region p.section && has_key p.section.atoms l.key) (drop l.placed-index l.sections) ≡ list_any (λ (p : PlacedSection). test_of l.region p.section && has_key p.section.atoms l.key) l.sections
