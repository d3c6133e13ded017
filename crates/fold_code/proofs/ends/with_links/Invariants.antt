use Rattle.std.proofs.Common.{◌≡◌, ◌++◌, take}
use Rattle.std.specs.List.{flat_map}
use Rattle.fold_code.specs.inner.Shapes.{ends_of_link}
use Rattle.fold_code.proofs.ends.with_links.Given as goal

abbrev pub invariant-loop-link : goal.invariant-loop-link
invariant-loop-link l = l.ends.items ≡ l.fn.before.items ++ flat_map ends_of_link (take l.link-index l.links)
