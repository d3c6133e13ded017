use Rattle.std.proofs.Common.{◌≡◌, ◌&&◌, ℕ, List, take}
use Rattle.std.specs.Prelude.{bytes_eq}
use Rattle.std.specs.List.{list_any}
use Rattle.lib_bind.specs.inner.Index.{known}
use Rattle.lib_bind.specs.inner.Filling.{merged}
use Rattle.lib_bind.proofs.fill.add_exports.Given as goal

abbrev pub invariant-loop-export : goal.invariant-loop-export
invariant-loop-export l = (name : List ℕ) → known l.index name ≡ merged l.library (known l.fn.before name) (list_any (λ export. bytes_eq name export.name) (take l.export-index l.exports)) (list_any (λ export. bytes_eq name export.name && export.weak) (take l.export-index l.exports))
