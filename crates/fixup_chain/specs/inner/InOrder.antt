-- The members of a list in an order, each once.
use Rattle.std.specs.Prelude.{List, [], ◌∷◌}
use Rattle.std.specs.declared.cmp.Ordering.{Ordering}
use Rattle.std.specs.declared.cmp.Ordering.TheVariants.{Less, Equal, Greater}

module _ {K : Type 0} where
  -- an element with the first of others, by how they compare, and with those behind it
  abbrev pub put_by : Ordering → K → K → List K → List K → List K
  put_by Less x first rest behind = x ∷ first ∷ rest
  put_by Equal x first rest behind = first ∷ rest
  put_by Greater x first rest behind = first ∷ behind

module _ {K : Type 0} (compare : K → K → Ordering) where
  -- an element put among others that are in order, unless one ties with it
  unfoldable pub put : K → List K → List K
  put x [] = x ∷ []
  put x (first ∷ rest) = put_by (compare x first) x first rest (put x rest)

  unfoldable pub in_order : List K → List K
  in_order [] = []
  in_order (x ∷ xs) = put x (in_order xs)
