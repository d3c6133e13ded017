pub mod Contents
pub mod There
