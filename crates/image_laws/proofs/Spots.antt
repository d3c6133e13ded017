-- The atoms of a section stand in it.
pub use Rattle.image_make.proofs.Spots.{spot, stand_within, stands, HasAtoms, all_have, spaced_in, all_above}
