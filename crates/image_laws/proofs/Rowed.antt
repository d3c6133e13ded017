-- Each row of an image is an atom of one of its sections.
pub use Rattle.image_make.proofs.Rowed.{placed_once, find_mapped, kept_found, IsWithin, atom_within, IsRowIn, row_in}
