use Rattle.std.proofs.Common.{◌≡◌, map, ap, ◌∙◌}
use Rattle.fold_code.specs.declared.node.FoldNode.{FoldNode}
use Rattle.fold_code.specs.declared.shape.Shape.{Shape}
use Rattle.fold_code.specs.inner.Shapes.{same_shape}
use Rattle.fold_code.proofs.KeyLemmas.{held}
use Rattle.fold_code.proofs.RoundLemmas.{first_is_round}
use Rattle.fold_code.proofs.folding.first_round.Goals as goal

pub returns : goal.returns
returns c =
    let node : Shape → FoldNode = λ s. s.node.now in
    let keys : map node c.as_slice.result.now ≡ c.args.nodes.now = ap (map node) c.as_slice.ensures.value ∙ c.in_ok-shapes.ensures in
    first_is_round c.args.nodes.now c.in_ok-firsts.firsts.items (held node same_shape c.as_slice.result.now c.args.nodes.now c.in_ok-firsts.firsts.items keys c.in_ok-firsts.ensures)
