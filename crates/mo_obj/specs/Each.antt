-- Properties of each element of a list.
use Rattle.std.specs.Prelude.{List, All}

pub record Each {A : Type 0} (P : A → Type 0) (xs : List A) : Type 0 where
  pub all : All P xs
