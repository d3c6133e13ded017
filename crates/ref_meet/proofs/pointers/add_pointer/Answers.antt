use Rattle.std.proofs.Common.{rules, ◌≡◌, false, sym, ◌∙◌}
use Rattle.ref_meet.specs.Ready.{scene_of}
use Rattle.ref_meet.proofs.PointerLemmas.{no_pointer}
use Rattle.ref_meet.proofs.pointers.add_pointer.Goals as goal

pub returns-then-not-is_pointer_at : goal.returns-then-not-is_pointer_at
returns-then-not-is_pointer_at c =
    let none : c.is_pointer_at.result ≡ false = search rules in
    no_pointer (scene_of c.args.scene.now) c.args.row.now.item.now c.args.row.now.refs.now c.args.index c.args.out.now.items (sym c.is_pointer_at.ensures ∙ none)
