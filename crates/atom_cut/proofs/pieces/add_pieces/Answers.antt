use Rattle.std.proofs.Common.{rules}
use Rattle.atom_cut.proofs.PieceLemmas.{next_is_after}
use Rattle.atom_cut.proofs.pieces.add_pieces.Goals as goal

pub piece-requires : goal.piece-requires
piece-requires c = next_is_after c.args.section.now.size c.args.cuts.now c.loop-i.i c.unwrap_or-to.result c.requires (search rules) (search rules)
