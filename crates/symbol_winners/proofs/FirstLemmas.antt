-- The first two of the candidates of a name.
use Rattle.std.proofs.Common.{◌≡◌, List, [], ◌∷◌, ◌++◌, refl, sym, ap}
use Rattle.mo_types.specs.Candidates.{Candidate}
use Rattle.mo_types.specs.declared.key.FileId.{FileId}
use Rattle.symbol_winners.specs.declared.firsts.Firsts.TheVariants.{Neither, One, Two}
use Rattle.symbol_winners.specs.inner.Tables.{firsts_of}

pub none_yet : (cs : List Candidate) (c : Candidate) (file : FileId) → Neither ≡ firsts_of cs → c.file ≡ file → One file ≡ firsts_of (cs ++ c ∷ [])
unfolding firsts_of
none_yet [] c file is named = ap One (sym named)
none_yet (a ∷ []) c file is named = cc
none_yet (a ∷ b ∷ cs) c file is named = cc

pub one_yet : (cs : List Candidate) (c : Candidate) (file one : FileId) → One one ≡ firsts_of cs → c.file ≡ file → Two one file ≡ firsts_of (cs ++ c ∷ [])
unfolding firsts_of
one_yet [] c file one is named = cc
one_yet (a ∷ []) c file one is named = let f : one ≡ a.file = cc in rw (f, named) refl
one_yet (a ∷ b ∷ cs) c file one is named = cc

pub both : (cs : List Candidate) (c : Candidate) (one two : FileId) → Two one two ≡ firsts_of cs → Two one two ≡ firsts_of (cs ++ c ∷ [])
unfolding firsts_of
both [] c one two is = cc
both (a ∷ []) c one two is = cc
both (a ∷ b ∷ cs) c one two is = is

pub ruleset firsts = (none_yet, one_yet, both)
