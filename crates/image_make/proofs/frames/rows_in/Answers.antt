use Rattle.std.proofs.Common.{ℕ, sym, subst}
use Rattle.image_make.specs.Inputs.{inputs_of}
use Rattle.image_make.specs.Made.{scene_of}
use Rattle.unwind_link.specs.Rows.{AreSpread}
use Rattle.image_make.proofs.frames.rows_in.Goals as goal

pub unwind_rows-requires-clause-spread : goal.unwind_rows-requires-clause-spread
unwind_rows-requires-clause-spread c =
    let scene = scene_of (inputs_of c.args.inputs.now) c.args.layout.now in
    subst (λ (base : ℕ). AreSpread (record scene { base = base }) c.args.inputs.now.unwinds.now) (sym c.base_of.ensures) c.requires.spread
