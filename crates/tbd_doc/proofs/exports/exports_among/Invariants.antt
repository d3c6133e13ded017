use Rattle.std.proofs.Common.{◌≡◌, map, take}
use Rattle.tbd_doc.specs.Exports.{export_among}
use Rattle.tbd_doc.proofs.exports.exports_among.Given as goal

abbrev pub invariant-loop-name : goal.invariant-loop-name
invariant-loop-name l = l.exports.items ≡ map (export_among l.weak) (take l.name-index l.names)
