pub mod AddingLemmas
pub mod GroupLemmas
pub mod LiteralLemmas
pub mod RepresentativeLemmas
pub mod StandsLemmas
