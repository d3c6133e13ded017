use Rattle.std.proofs.Common.{List, true, ap, ◌∙◌}
use Rattle.std.specs.Prelude.{if◌then◌else◌}
use Rattle.mo_types.specs.declared.key.AtomKey.{AtomKey}
use Rattle.mark_core.specs.Kept.{same_atom}
use Rattle.liveness.specs.Roots.{has_atom}
use Rattle.liveness.proofs.atom_set.AtomSet.with.Goals as goal

pub returns : goal.returns
returns c = λ other. c.in_ok-insert.ensures.updates.0 other ∙ ap (λ (ks : List AtomKey). if same_atom c.args.atom other then true else has_atom ks other) c.self.view_is
