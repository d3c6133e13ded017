pub mod PairLemmas
pub mod MoveLemmas
pub mod CountLemmas
pub mod RoundLemmas
pub mod CutLemmas
pub mod LawLemmas
