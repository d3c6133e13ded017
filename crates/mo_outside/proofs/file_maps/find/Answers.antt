use Rattle.std.proofs.Common.{◌≡◌, ◌∙◌, ◌<◌, ap, sym, true, false, Some, length, nat_eq, arith}
use Rattle.std.specs.Cmp.Lexicographic.{pointwise}
use Rattle.mo_outside.proofs.Found.{file_at-files_of, first_of-drop}
use Rattle.mo_outside.proofs.file_maps.find.Goals as goal

pub loop-name-init : goal.loop-name-init
loop-name-init c = file_at-files_of _ _

pub returns-then-eq : goal.returns-then-eq
returns-then-eq c =
    let within : c.loop-name.name-index < length c.args.pairs.now = omega arith in
    let same : true ≡ pointwise nat_eq c.args.path.now c.loop-name-item.result.0 =
    sym c.if-eq.true ∙ c.eq.ensures ∙ ap (pointwise nat_eq c.args.path.now) c.as_slice.ensures in
    ap Some c.as_slice-then-eq.ensures
    ∙ sym (c.loop-name.invariant ∙ first_of-drop _ _ _ c.loop-name-item.result true within c.loop-name-item.is same)

pub loop-name-preserved : goal.loop-name-preserved
loop-name-preserved c =
    let within : c.loop-name.name-index < length c.args.pairs.now = omega arith in
    let other : false ≡ pointwise nat_eq c.args.path.now c.loop-name-item.result.0 =
    sym c.if-eq.false ∙ c.eq.ensures ∙ ap (pointwise nat_eq c.args.path.now) c.as_slice.ensures in
    c.loop-name.invariant ∙ first_of-drop _ _ _ c.loop-name-item.result false within c.loop-name-item.is other
