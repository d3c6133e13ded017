-- The first two strong ones among no candidates yet.
use Rattle.std.proofs.Common.{◌≡◌, ℕ, List, [], ◌∷◌, length, replicate, refl, sym, ap, ◌∙◌}
use Rattle.mo_types.specs.Candidates.{Candidate}
use Rattle.symbol_winners.specs.declared.firsts.Firsts.{Firsts}
use Rattle.symbol_winners.specs.inner.Tables.{AreFirsts, candidate_name, firsts_of, strong_among, table_of}
use Rattle.symbol_winners.specs.declared.firsts.Firsts.TheVariants.{Neither}
use Rattle.symbol_winners.proofs.TableLemmas.{table_length}

pub no_strong : strong_among [] ≡ []
unfolding strong_among
no_strong = refl

none_yet : (names : List (List ℕ)) → replicate (length names) Neither ≡ table_of firsts_of candidate_name names []
unfolding table_of firsts_of
none_yet [] = refl
none_yet (name ∷ names) = ap (λ ts. Neither ∷ ts) (none_yet names)

pub strong_start : (names : List (List ℕ)) (table : List Firsts) (n : ℕ) (cs : List Candidate) → n ≡ length names → table ≡ replicate n Neither → cs ≡ [] → AreFirsts names cs table
strong_start names table n cs count is none = record { are = is ∙ ap (λ k. replicate k Neither) count ∙ none_yet names ∙ ap (table_of firsts_of candidate_name names) (sym none) }

pub strong_length : (names : List (List ℕ)) (table : List Firsts) (cs : List Candidate) → AreFirsts names cs table → length table ≡ length names
strong_length names table cs are = ap length are.are ∙ table_length firsts_of candidate_name names cs
