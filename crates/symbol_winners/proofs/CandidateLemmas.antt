-- The candidates of whole files stand at their indices in these.
use Rattle.std.proofs.Common.{◌≡◌, ℕ, zero, suc, ◌+◌, ◌-◌, ◌<◌, Bool, true, false, List, [], ◌∷◌, ◌++◌, length, drop, get_or, All, refl, sym, ap, subst, ◌∙◌, arith, Some, None}
use Rattle.std.specs.Prelude.{◌&&◌, not, Option, if◌then◌else◌}
use Rattle.std.specs.List.{AllByRecursion, enumerate_from, filter_map}
use Rattle.std.specs.Option.{option_map_or, option_and_then}
use Rattle.mo_types.specs.Candidates.{has_place, is_candidate}
use Rattle.mo_types.specs.RelocationRules.{section_numbered}
use Rattle.mo_types.specs.Whole.{is_dropped}
use Rattle.mo_types.specs.declared.object.Section.{Section}
use Rattle.mo_types.specs.declared.object.SymbolKind.{SymbolKind}
use Rattle.mo_types.specs.declared.object.SymbolKind.TheVariants.{Undefined, Common, Defined, Absolute, Passed}
use Rattle.mo_types.specs.Loaded.{IsWholeFile}
use Rattle.mo_types.specs.declared.loaded.LoadedFile.{LoadedFile}
use Rattle.mo_types.specs.declared.object.Symbol.{Symbol}
use Rattle.symbol_winners.specs.Found.{FileCandidate, found, found_at, found_in}
use Rattle.symbol_winners.specs.Places.{place_at, place_in, place_of}
use Rattle.symbol_winners.specs.declared.found.FoundIn.{FoundIn}
use Rattle.symbol_winners.specs.inner.Best.{AreCandidates, IsCandidateOf}
use Rattle.symbol_winners.specs.inner.Tables.{held}

pub all_join : {X : Type 0} (P : X → Type 0) (xs ys : List X) → AllByRecursion P xs → AllByRecursion P ys → AllByRecursion P (xs ++ ys)
all_join P [] ys all more = more
all_join P (x ∷ xs) ys all more = (all.0, all_join P xs ys all.1 more)

suffix_first : (symbols rest : List Symbol) (symbol : Symbol) (i : ℕ) → symbol ∷ rest ≡ drop i symbols → (i < length symbols) × ((d : Symbol) → get_or symbols i d ≡ symbol) × (rest ≡ drop (i + 1) symbols)
suffix_first [] rest symbol zero is = cc
suffix_first [] rest symbol (suc i) is = cc
suffix_first (s ∷ ss) rest symbol zero is = (omega arith, λ d. (let e : s ∷ ss ≡ symbol ∷ rest = sym is in cc), (let e : s ∷ ss ≡ symbol ∷ rest = sym is in cc))
suffix_first (s ∷ ss) rest symbol (suc i) is =
    let p : (i < length ss) × ((d : Symbol) → get_or ss i d ≡ symbol) × (rest ≡ drop (i + 1) ss) = suffix_first ss rest symbol i is in
    let low : i < length ss = p.0 in
    (omega (arith, low), p.1, let e : suc i + 1 ≡ suc (i + 1) = omega arith in rw e p.2)

from_here : (file : LoadedFile) (i : ℕ) (symbols : List Symbol) → IsWholeFile file → symbols ≡ drop i file.object.symbols → AllByRecursion IsCandidateOf (filter_map (found_at file) (enumerate_from i symbols))
unfolding found_at
from_here file i [] whole is = tt
from_here file i (symbol ∷ rest) whole is =
    let p = suffix_first file.object.symbols rest symbol i is in
    by p.0 p.1 (from_here file (i + 1) rest whole p.2) (is_candidate file.object.sections symbol) refl
  where
    by : i < length file.object.symbols → ((d : Symbol) → get_or file.object.symbols i d ≡ symbol) → AllByRecursion IsCandidateOf (filter_map (found_at file) (enumerate_from (i + 1) rest)) → (b : Bool) → is_candidate file.object.sections symbol ≡ b → AllByRecursion IsCandidateOf (filter_map (found_at file) (enumerate_from i (symbol ∷ rest)))
    by low there later true e = rw e (record { whole = whole; index = low; there = there; candidate = e }, later)
    by low there later false e = rw e later

pub each_found : (files : List LoadedFile) → All IsWholeFile files → AllByRecursion IsCandidateOf (found files)
unfolding found found_in
each_found [] all = tt
each_found (file ∷ files) all =
    all_join IsCandidateOf (found_in file) (found files)
    (from_here file 0 file.object.symbols (all 0 file (omega arith)) refl)
    (each_found files (λ k d low. all (suc k) d (omega (arith, low))))

all_held : (fs : List FoundIn) → AllByRecursion IsCandidateOf (held fs) → AreCandidates fs
all_held [] all = tt
all_held (f ∷ fs) all = (all.0, all_held fs all.1)

pub candidates_are : (files : List LoadedFile) (fs : List FoundIn) → All IsWholeFile files → held fs ≡ found files → AreCandidates fs
candidates_are files fs all is = all_held fs (subst (λ (xs : List FileCandidate). AllByRecursion IsCandidateOf xs) (sym is) (each_found files all))

-- ---- a candidate stands in an atom

both_true : (a b : Bool) → (a && b) ≡ true → b ≡ true
both_true true b e = e
both_true false b e = cc

linked_place : (file : LoadedFile) (number value : ℕ) (o : Option Section) → option_map_or (λ s. not (is_dropped s)) o false ≡ true → None ≡ option_and_then (place_in file number value) o → ⊥
unfolding place_in
linked_place file number value None linked none = cc
linked_place file number value (Some s) linked none = by (is_dropped s) refl linked none
  where
    by : (b : Bool) → is_dropped s ≡ b → not (is_dropped s) ≡ true → None ≡ (if is_dropped s then None else Some (place_at file number s (value - s.address))) → ⊥
    by true e l n = let f : not true ≡ true = rw e at l in cc
    by false e l n = let f : None ≡ Some (place_at file number s (value - s.address)) = rw e at n in cc

kind_place : (file : LoadedFile) (index : ℕ) (kind : SymbolKind) → has_place file.object.sections kind ≡ true → None ≡ place_of file index kind → ⊥
unfolding place_of
kind_place file index Undefined has none = cc
kind_place file index (Common align size) has none = cc
kind_place file index (Defined section value) has none = linked_place file section value (section_numbered file.object.sections section) has none
kind_place file index Absolute has none = cc
kind_place file index Passed has none = cc

pub stands_somewhere : (f : FileCandidate) → IsCandidateOf f → ((d : Symbol) → None ≡ place_of f.file f.index (get_or f.file.object.symbols f.index d).kind) → ⊥
unfolding is_candidate
stands_somewhere f one none =
    kind_place f.file f.index f.symbol.kind (both_true f.symbol.external (has_place f.file.object.sections f.symbol.kind) one.candidate)
    (none f.symbol ∙ ap (λ (s : Symbol). place_of f.file f.index s.kind) (one.there f.symbol))
