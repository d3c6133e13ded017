-- Pointers of atoms without descriptors.
use Rattle.std.proofs.Common.{◌≡◌, Bool, false, List, ap}
use Rattle.std.specs.Prelude.{if◌then◌else◌}
use Rattle.std.specs.Option.{option_map}
use Rattle.fixup_chain.specs.declared.chains.ChainWord.{ChainWord}
use Rattle.mo_types.specs.declared.goal.Goal.{Goal}
use Rattle.mo_types.specs.declared.reference.Ref.{Ref}
use Rattle.ref_meet.specs.Mets.{chained_met, met_with, pointer_met}
use Rattle.ref_meet.specs.Scene.{Scene}
use Rattle.ref_meet.specs.Template.{template_offset}
use Rattle.ref_meet.specs.declared.row.Row.{Row}
use Rattle.ref_meet.specs.inner.Rows.{IsRow}
use Rattle.ref_meet.proofs.RowLemmas.{held_else}

pub plain : (scene : Scene) (pool : List Goal) (row : Row) (words : List ChainWord) (r : Ref) (goal : Goal) → IsRow scene pool row → row.descriptors ≡ false → chained_met words row.item.now r ≡ pointer_met scene words row.item.now r goal
plain scene pool row words r goal is none =
    ap (λ (b : Bool). if b then option_map (λ offset. met_with r offset 0 r.addend) (template_offset scene goal) else chained_met words row.item.now r)
    (held_else scene pool row goal is none)
