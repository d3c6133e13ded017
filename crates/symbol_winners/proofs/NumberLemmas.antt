-- The numbers of the names of candidates.
use Rattle.std.proofs.Common.{◌≡◌, ℕ, zero, suc, ◌<◌, true, List, [], ◌∷◌, ◌++◌, length, get_or, sym, ap, subst, ◌∙◌, arith}
use Rattle.std.proofs.lemmas.List.{get_or-map}
use Rattle.mo_types.specs.Candidates.{is_candidate}
use Rattle.mo_types.specs.declared.loaded.LoadedFile.{LoadedFile}
use Rattle.mo_types.specs.declared.object.Symbol.{Symbol}
use Rattle.name_ids.specs.Names.{number_of, numbers_in, numbers_of}
use Rattle.symbol_winners.specs.declared.found.FoundIn.{FoundIn}
use Rattle.symbol_winners.specs.inner.Numbers.{AreNumbered, IsNumbered}
use Rattle.symbol_winners.proofs.CandidateLemmas.{all_join}
use Rattle.symbol_winners.proofs.NamedLemmas.{candidate_external}

pub number_there : (names : List (List ℕ)) (file : LoadedFile) (numbers : List ℕ) (i number none : ℕ) (symbol : Symbol) → numbers ≡ numbers_in names file → i < length file.object.symbols → symbol ≡ get_or file.object.symbols i symbol → number ≡ get_or numbers i none → number ≡ number_of names symbol
unfolding numbers_in
number_there names file numbers i number none symbol are low is at =
    at ∙ ap (λ (ns : List ℕ). get_or ns i none) are ∙ get_or-map (number_of names) file.object.symbols i symbol none low ∙ ap (number_of names) (sym is)

pub list_there : (names : List (List ℕ)) (files : List LoadedFile) (lists : List (List ℕ)) (i : ℕ) (file : LoadedFile) (numbers : List ℕ) → lists ≡ numbers_of names files → i < length files → file ≡ get_or files i file → numbers ≡ get_or lists i [] → numbers ≡ numbers_in names file
unfolding numbers_of
list_there names files lists i file numbers are low is at =
    at ∙ ap (λ (ns : List (List ℕ)). get_or ns i []) are ∙ get_or-map (numbers_in names) files i file [] low ∙ ap (numbers_in names) (sym is)

-- with a candidate more
pub numbered_more : (names : List (List ℕ)) (fs new : List FoundIn) (f : FoundIn) (file : LoadedFile) → AreNumbered names fs → new ≡ fs ++ f ∷ [] → is_candidate file.object.sections f.symbol.now ≡ true → f.number ≡ number_of names f.symbol.now → AreNumbered names new
numbered_more names fs new f file all added candidate is =
    subst (λ (gs : List FoundIn). AreNumbered names gs) (sym added)
    (all_join (IsNumbered names) fs (f ∷ []) all (record { external = candidate_external file f.symbol.now candidate; number_is = is }, tt))

pub numbered_at : (names : List (List ℕ)) (fs : List FoundIn) (i : ℕ) (f d : FoundIn) → AreNumbered names fs → i < length fs → f ≡ get_or fs i d → IsNumbered names f
numbered_at names fs i f d all low is = subst (λ (g : FoundIn). IsNumbered names g) (sym is) (at fs i all low)
  where
    at : (fs : List FoundIn) (i : ℕ) → AreNumbered names fs → i < length fs → IsNumbered names (get_or fs i d)
    at [] i all low = absurd (omega arith)
    at (g ∷ gs) zero all low = all.0
    at (g ∷ gs) (suc i) all low = at gs i all.1 (omega (arith, low))

pub external_there : (names : List (List ℕ)) (fs : List FoundIn) (i : ℕ) (f : FoundIn) → AreNumbered names fs → i < length fs → f ≡ get_or fs i f → f.symbol.now.external ≡ true
external_there names fs i f all low is = (numbered_at names fs i f f all low is).external

pub number_at : (names : List (List ℕ)) (fs : List FoundIn) (i : ℕ) (f : FoundIn) → AreNumbered names fs → i < length fs → f ≡ get_or fs i f → f.number ≡ number_of names f.symbol.now
number_at names fs i f all low is = (numbered_at names fs i f f all low is).number_is
