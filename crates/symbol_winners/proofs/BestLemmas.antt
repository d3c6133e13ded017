-- What is held of the candidates of a name, with one candidate more.
use Rattle.std.proofs.Common.{◌≡◌, ℕ, Bool, true, false, List, [], ◌∷◌, ◌++◌, map, max, fold, refl, sym, ap, ◌∙◌}
use Rattle.std.specs.Prelude.{Option}
use Rattle.std.specs.List.{find}
use Rattle.std.proofs.lemmas.List.{map-append}
use Rattle.std.proofs.lemmas.List.Sums.{fold-append}
use Rattle.mo_types.specs.declared.loaded.LoadedFile.{LoadedFile}
use Rattle.mo_types.specs.declared.object.SymbolKind.{SymbolKind}
use Rattle.symbol_winners.specs.Winners.{align_in, size_in}
use Rattle.symbol_winners.specs.declared.best.Best.{Best}
use Rattle.symbol_winners.specs.declared.found.FoundIn.{FoundIn}
use Rattle.symbol_winners.specs.inner.Best.{best_of, candidate_wins, greatest_of, nothing, or_this}

find_more : (p : FoundIn → Bool) (xs : List FoundIn) (x : FoundIn) → find p (xs ++ x ∷ []) ≡ or_this (find p xs) x (p x)
find_more p [] x = refl
find_more p (y ∷ ys) x = by (find_more p ys x) (p y) refl
  where
    by : find p (ys ++ x ∷ []) ≡ or_this (find p ys) x (p x) → (b : Bool) → p y ≡ b → find p ((y ∷ ys) ++ x ∷ []) ≡ or_this (find p (y ∷ ys)) x (p x)
    by rest true e = rw e refl
    by rest false e = rw e rest

greatest_more : (part : SymbolKind → ℕ) (fs : List FoundIn) (f : FoundIn) → greatest_of part (fs ++ f ∷ []) ≡ max (greatest_of part fs) (part f.symbol.now.kind)
greatest_more part fs f =
    ap (fold max 0) (map-append (λ (x : FoundIn). part x.symbol.now.kind) fs (f ∷ []))
    ∙ fold-append max 0 (map (λ (x : FoundIn). part x.symbol.now.kind) fs) (part f.symbol.now.kind ∷ [])

pub best_more : (files : List LoadedFile) (fs : List FoundIn) (f : FoundIn) (old : Best) (wins : Bool) (winner : Option FoundIn) (size align : ℕ) → old ≡ best_of files fs → wins ≡ candidate_wins files f → winner ≡ or_this old.winner f wins → size ≡ max old.size (size_in f.symbol.now.kind) → align ≡ max old.align (align_in f.symbol.now.kind) → record { winner = winner; size = size; align = align } ≡ best_of files (fs ++ f ∷ [])
unfolding best_of
best_more files fs f old wins winner size align before wins_is winner_is size_is align_is =
    let w : winner ≡ find (candidate_wins files) (fs ++ f ∷ []) =
    winner_is ∙ ap (λ b. or_this old.winner f b) wins_is ∙ ap (λ (b : Best). or_this b.winner f (candidate_wins files f)) before
    ∙ sym (find_more (candidate_wins files) fs f) in
    let s : size ≡ greatest_of size_in (fs ++ f ∷ []) = size_is ∙ ap (λ (b : Best). max b.size (size_in f.symbol.now.kind)) before ∙ sym (greatest_more size_in fs f) in
    let a : align ≡ greatest_of align_in (fs ++ f ∷ []) = align_is ∙ ap (λ (b : Best). max b.align (align_in f.symbol.now.kind)) before ∙ sym (greatest_more align_in fs f) in
    rw (w, s, a) refl

pub none_best : (files : List LoadedFile) → nothing ≡ best_of files []
unfolding best_of
none_best files = refl

pub ruleset bests = (best_more, none_best)
