pub mod JobLemmas
pub mod LeastLemmas
pub mod OfferLemmas
pub mod PlainLemmas
pub mod RacerLemmas
pub mod TeamLemmas
