use Rattle.std.proofs.Common.{◌≡◌, fold, take}
use Rattle.std.specs.List.{flat_map}
use Rattle.fold_code.specs.inner.Shapes.{feed_link}
use Rattle.fold_code.proofs.shape.hash_links.Given as goal

abbrev pub invariant-loop-link : goal.invariant-loop-link
invariant-loop-link g l = l.state ≡ fold g.H.Hasher.write l.initial.state (flat_map feed_link (take l.link-index l.links))
