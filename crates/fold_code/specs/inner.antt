pub mod Firsts
pub mod Rounds
pub mod Shapes
pub mod ShapeLaws
