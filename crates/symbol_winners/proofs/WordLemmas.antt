-- Which of two words is the lesser.
use Rattle.std.proofs.Common.{◌≡◌, ℕ, ◌+◌, ◌*◌, ◌^◌, ◌<◌, ◌⊎◌, refl, ap, inl, inr, arith}
use Rattle.std.specs.Ordering.{nat_cmp, ordering_then, MatchOrdering}
use Rattle.std.proofs.lemmas.Cmp.{ranked}
use Rattle.std.specs.declared.cmp.Ordering.{Ordering}
use Rattle.std.specs.declared.cmp.Ordering.TheVariants.{Less, Equal, Greater}
use Rattle.list_lemmas.proofs.Ties.{same_number}
use Rattle.mo_types.specs.Candidates.{Candidate, candidate_word, strength, word_of}
use Rattle.mo_types.specs.Keys.{compare_files}
use Rattle.mo_types.specs.declared.key.FileId.{FileId}
use Rattle.symbol_winners.specs.Laws.{HasRoom}

stronger : (s t p q m n i j : ℕ) → p < 2 ^ 16 → q < 2 ^ 16 → m < 2 ^ 20 → n < 2 ^ 20 → i < 2 ^ 24 → j < 2 ^ 24 → s < t → s * 2 ^ 60 + p * 2 ^ 44 + m * 2 ^ 24 + i < t * 2 ^ 60 + q * 2 ^ 44 + n * 2 ^ 24 + j
stronger s t p q m n i j hp hq hm hn hi hj less = omega arith

earlier : (s t p q m n i j : ℕ) → m < 2 ^ 20 → n < 2 ^ 20 → i < 2 ^ 24 → j < 2 ^ 24 → s ≡ t → (p < q) ⊎ ((p ≡ q) × (m < n)) → s * 2 ^ 60 + p * 2 ^ 44 + m * 2 ^ 24 + i < t * 2 ^ 60 + q * 2 ^ 44 + n * 2 ^ 24 + j
earlier s t p q m n i j hm hn hi hj same (inl less) = omega arith
earlier s t p q m n i j hm hn hi hj same (inr less) = let e : p ≡ q = less.0 in let f : m < n = less.1 in omega arith

less_is : (a b : ℕ) → nat_cmp a b ≡ Less → a < b
less_is a b e = less (nat_cmp a b) e (ranked a b (nat_cmp a b) refl)
  where
    less : (r : Ordering) → r ≡ Less → MatchOrdering r (a < b) (a ≡ b) (b < a) → a < b
    less Less e m = m
    less Equal e m = cc
    less Greater e m = cc

then_less : (o r : Ordering) → ordering_then o r ≡ Less → (o ≡ Less) ⊎ ((o ≡ Equal) × (r ≡ Less))
then_less Less r e = inl refl
then_less Equal r e = inr (refl, e)
then_less Greater r e = cc

files_less : (a b : FileId) → compare_files a b ≡ Less → (a.position < b.position) ⊎ ((a.position ≡ b.position) × (a.member < b.member))
files_less a b e = elim (then_less (nat_cmp a.position b.position) (nat_cmp a.member b.member) e) [
  | inl first ↦ inl (less_is a.position b.position first)
  | inr second ↦ inr (same_number a.position b.position second.0, less_is a.member b.member second.1)
]

pub by_strength : (a b : Candidate) → HasRoom a → HasRoom b → strength a.symbol < strength b.symbol → candidate_word a < candidate_word b
unfolding word_of
by_strength a b x y less = stronger (strength a.symbol) (strength b.symbol) a.file.position b.file.position a.file.member b.file.member a.index b.index x.position y.position x.member y.member x.index y.index less

pub before_file : (a b : Candidate) → a.file.member < 2 ^ 20 → b.file.member < 2 ^ 20 → a.index < 2 ^ 24 → b.index < 2 ^ 24 → strength a.symbol ≡ strength b.symbol → compare_files a.file b.file ≡ Less → candidate_word a < candidate_word b
unfolding word_of
before_file a b hm hn hi hj same less = earlier (strength a.symbol) (strength b.symbol) a.file.position b.file.position a.file.member b.file.member a.index b.index hm hn hi hj same (files_less a.file b.file less)

pub by_file : (a b : Candidate) → HasRoom a → HasRoom b → strength a.symbol ≡ strength b.symbol → compare_files a.file b.file ≡ Less → candidate_word a < candidate_word b
by_file a b x y same less = before_file a b x.member y.member x.index y.index same less

pub by_symbol : (a b : Candidate) → strength a.symbol ≡ strength b.symbol → a.file ≡ b.file → a.index < b.index → candidate_word a < candidate_word b
unfolding word_of
by_symbol a b same file less =
    let p : a.file.position ≡ b.file.position = ap (λ (f : FileId). f.position) file in
    let m : a.file.member ≡ b.file.member = ap (λ (f : FileId). f.member) file in
    last (strength a.symbol) (strength b.symbol) a.file.position b.file.position a.file.member b.file.member a.index b.index same p m less
  where
    last : (s t p q m n i j : ℕ) → s ≡ t → p ≡ q → m ≡ n → i < j → s * 2 ^ 60 + p * 2 ^ 44 + m * 2 ^ 24 + i < t * 2 ^ 60 + q * 2 ^ 44 + n * 2 ^ 24 + j
    last s t p q m n i j e f g less = omega arith

pub ruleset words = (by_strength, by_file, by_symbol)
