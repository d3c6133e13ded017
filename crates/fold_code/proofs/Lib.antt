pub mod AlikeLemmas
pub mod ExistLemmas
pub mod FirstLemmas
pub mod KeyLemmas
pub mod LawLemmas
pub mod PairLemmas
pub mod RoundLemmas
