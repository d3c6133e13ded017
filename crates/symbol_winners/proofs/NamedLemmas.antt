-- The names of candidates are among those of external symbols.
use Rattle.std.proofs.Common.{◌≡◌, ℕ, ◌+◌, ◌⊎◌, Bool, true, false, ◌&&◌, List, [], ◌∷◌, ◌++◌, Contains, length, nat_lt, ◌^◌, Ok, Err, refl, ap, subst, inl, inr}
use Rattle.std.specs.List.{enumerate_from, filter_map}
use Rattle.std.proofs.lemmas.List.Elements.{All-from_recursion}
use Rattle.list_lemmas.proofs.Members.{In, Contains_from_in, all_from_in, in_either, in_left, in_right}
use Rattle.mo_types.specs.Candidates.{Candidate, candidate_at, candidates, candidates_of, is_candidate, has_place}
use Rattle.mo_types.specs.declared.loaded.LoadedFile.{LoadedFile}
use Rattle.mo_types.specs.declared.object.Symbol.{Symbol}
use Rattle.name_ids.specs.Names.{AreNames, external_names, external_of, gathered, limited, numbered}
use Rattle.name_ids.specs.declared.fault.GatherFault.TheVariants.{Names}
use Rattle.name_ids.proofs.Once.{all}
use Rattle.symbol_winners.specs.Found.{AreNamed}

both : (a b : Bool) → (a && b) ≡ true → a ≡ true
both true b e = refl
both false b e = cc

pub candidate_external : (file : LoadedFile) (symbol : Symbol) → is_candidate file.object.sections symbol ≡ true → symbol.external ≡ true
unfolding is_candidate
candidate_external file symbol e = both symbol.external (has_place file.object.sections symbol.kind) e

external_there : (symbol : Symbol) (symbols : List Symbol) → symbol.external ≡ true → external_of (symbol ∷ symbols) ≡ symbol.name ∷ external_of symbols
unfolding external_of
external_there symbol symbols e = rw e refl

external_more : (name : List ℕ) (symbol : Symbol) (symbols : List Symbol) → In name (external_of symbols) → In name (external_of (symbol ∷ symbols))
unfolding external_of
external_more name symbol symbols h = by symbol.external refl
  where
    by : (b : Bool) → symbol.external ≡ b → In name (external_of (symbol ∷ symbols))
    by true e = rw e (inr h)
    by false e = rw e h

in_file : (file : LoadedFile) (n : ℕ) (symbols : List Symbol) (c : Candidate) → In c (filter_map (candidate_at file) (enumerate_from n symbols)) → In c.symbol.name (external_of symbols)
unfolding candidate_at
in_file file n [] c h = absurd h
in_file file n (symbol ∷ symbols) c h = by (λ later. in_file file (n + 1) symbols c later) (is_candidate file.object.sections symbol) refl
  where
    by : (In c (filter_map (candidate_at file) (enumerate_from (n + 1) symbols)) → In c.symbol.name (external_of symbols)) → (b : Bool) → is_candidate file.object.sections symbol ≡ b → In c.symbol.name (external_of (symbol ∷ symbols))
    by later true e = rw (external_there symbol symbols (candidate_external file symbol e)) (split (rw e at h))
      where
        split : ((record { file = file.id; index = n; symbol = symbol }) ≡ c) ⊎ In c (filter_map (candidate_at file) (enumerate_from (n + 1) symbols)) → (symbol.name ≡ c.symbol.name) ⊎ In c.symbol.name (external_of symbols)
        split (inl same) = inl (ap (λ (d : Candidate). d.symbol.name) same)
        split (inr rest) = inr (later rest)
    by later false e = external_more c.symbol.name symbol symbols (later (rw e at h))

in_files : (files : List LoadedFile) (c : Candidate) → In c (candidates files) → In c.symbol.name (external_names files)
unfolding candidates external_names candidates_of
in_files [] c h = absurd h
in_files (file ∷ files) c h = elim (in_either (candidates_of file) (candidates files) c h) [
  | inl here ↦ in_left (external_of file.object.symbols) (external_names files) c.symbol.name (in_file file 0 file.object.symbols c here)
  | inr rest ↦ in_right (external_of file.object.symbols) (external_names files) c.symbol.name (in_files files c rest)
]

pub named_by : (files : List LoadedFile) (extra names : List (List ℕ)) → ((name : List ℕ) → Contains (external_names files ++ extra) name → Contains names name) → AreNamed names files
named_by files extra names all = All-from_recursion (λ (c : Candidate). Contains names c.symbol.name) (candidates files)
    (all_from_in (λ (c : Candidate). Contains names c.symbol.name) (candidates files)
    (λ c h. all c.symbol.name (Contains_from_in (external_names files ++ extra) c.symbol.name (in_left (external_names files) extra c.symbol.name (in_files files c h)))))

pub names_named : (files : List LoadedFile) (extra names : List (List ℕ)) → AreNames files extra names → AreNamed names files
names_named files extra names are = named_by files extra names (λ name. (are.same name).0)

limited_is : (all names : List (List ℕ)) → limited all ≡ Ok names → all ≡ names
limited_is all names is = by (nat_lt (length all) (2 ^ 24)) refl
  where
    by : (b : Bool) → nat_lt (length all) (2 ^ 24) ≡ b → all ≡ names
    by true low = let e : Ok all ≡ Ok names = rw low at is in cc
    by false high = let e : Err Names ≡ Ok names = rw high at is in cc

pub gathered_named : (files : List LoadedFile) (extra names : List (List ℕ)) → gathered files extra ≡ Ok names → AreNamed names files
unfolding gathered
gathered_named files extra names is = subst (λ (ns : List (List ℕ)). AreNamed ns files) (limited_is (numbered (external_names files ++ extra)) names is) (named_by files extra (numbered (external_names files ++ extra)) (all (external_names files ++ extra)))

pub ruleset names = (gathered_named, names_named)
