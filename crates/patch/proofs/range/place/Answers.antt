use Rattle.std.proofs.Common.{◌≡◌, Ok, refl, ◌∙◌, arith, rules}
use Rattle.patch.proofs.RangeLemmas.{placed}
use Rattle.patch.proofs.range.place.Goals as goal

pub returns-then-write_fields-clause-placed : goal.returns-then-write_fields-clause-placed
returns-then-write_fields-clause-placed c =
    let copied : c.copy_from_slice.new.self ≡ c.contents_of-contents.result.now = search rules in
    placed c.args.files.now c.args.mets.now c.args.from c.args.item.now c.args.piece.now c.copy_from_slice.new.self c.write_fields.new.bytes
    _ _ (Ok tt) c.requires.standing refl (copied ∙ c.contents_of-contents.ensures) (omega arith) (c.write_fields.ensures.written c.if-write_fields.true)
