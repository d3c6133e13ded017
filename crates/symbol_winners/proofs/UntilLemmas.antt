-- The candidates of a file before a place, and what the tables by the numbers of names hold with those of a file more.
use Rattle.std.proofs.Common.{◌≡◌, ℕ, ◌+◌, ◌<◌, ◌≤◌, ◌==◌, ◌&&◌, Bool, true, false, if◌then◌else◌, List, [], ◌∷◌, ◌++◌, length, map, filter, take, get_or, refl, sym, ap, subst, ◌∙◌, append_assoc}
use Rattle.std.specs.List.{enumerate_from, filter_map}
use Rattle.std.specs.Option.{option_to_list}
use Rattle.std.proofs.lemmas.Grind.{flat_map-append}
use Rattle.std.proofs.lemmas.List.{get_or_default, map-append, take_all, take_more}
use Rattle.std.proofs.lemmas.List.Elements.{filter-append}
use Rattle.mo_types.specs.Candidates.{Candidate, is_candidate, strength}
use Rattle.mo_types.specs.declared.loaded.LoadedFile.{LoadedFile}
use Rattle.mo_types.specs.declared.object.Symbol.{Symbol}
use Rattle.symbol_winners.specs.Duplicates.{is_strong}
use Rattle.symbol_winners.specs.Found.{FileCandidate, candidate_of, found, found_at, found_in}
use Rattle.symbol_winners.specs.declared.best.Best.{Best}
use Rattle.symbol_winners.specs.declared.firsts.Firsts.{Firsts}
use Rattle.symbol_winners.specs.declared.found.FoundIn.{FoundIn}
use Rattle.symbol_winners.specs.inner.Best.{AreBests, HasBests}
use Rattle.symbol_winners.specs.inner.Numbers.{IsNumbered}
use Rattle.symbol_winners.specs.inner.Tables.{AreFirsts, found_of, strong_among}
use Rattle.symbol_winners.proofs.CandidateLemmas.{all_join}
use Rattle.literal_merge.proofs.AddingLemmas.{append_none}
use Rattle.symbol_winners.proofs.PickLemmas.{pick_symbol, pick_symbols_end}

-- those of a file before a place
unfoldable pub until : LoadedFile → ℕ → List FileCandidate
until file i = filter_map (found_at file) (take i (enumerate_from 0 file.object.symbols))

until_start : (file : LoadedFile) → until file 0 ≡ []
unfolding until
until_start file = refl

until_more : (file : LoadedFile) (i : ℕ) (symbol : Symbol) → i < length file.object.symbols → symbol ≡ get_or file.object.symbols i symbol → until file (i + 1) ≡ until file i ++ option_to_list (found_at file (i, symbol))
unfolding until
until_more file i symbol low is =
    sym (pick_symbol (found_at file) [] (until file i) (until file i ++ option_to_list (found_at file (i, symbol))) file.object.symbols i (found_at file (i, symbol)) (record { same = refl }) low
    (λ d. ap (λ (s : Symbol). found_at file (i, s)) (is ∙ get_or_default file.object.symbols i symbol d low)) refl).same

until_end : (file : LoadedFile) (i : ℕ) → length file.object.symbols ≤ i → until file i ≡ found_in file
unfolding until found_in
until_end file i past = pick_symbols_end (found_at file) [] (until file i) file.object.symbols i (record { same = refl }) past

-- those of files before a place
found_none : (files : List LoadedFile) → found (take 0 files) ≡ []
unfolding found
found_none files = refl

found_more : (files : List LoadedFile) (i : ℕ) (file : LoadedFile) → i < length files → file ≡ get_or files i file → found (take (i + 1) files) ≡ found (take i files) ++ found_in file
unfolding found
found_more files i file low is =
    ap found (take_more files i file low ∙ ap (λ (f : LoadedFile). take i files ++ f ∷ []) (sym is))
    ∙ flat_map-append found_in (take i files) (file ∷ [])
    ∙ ap (λ (fs : List FileCandidate). found (take i files) ++ fs) (append_none (found_in file))

-- ---- the strong ones among them

strong_join : (xs ys : List FileCandidate) → strong_among (xs ++ ys) ≡ strong_among xs ++ strong_among ys
unfolding strong_among
strong_join xs ys = ap (filter is_strong) (map-append candidate_of xs ys) ∙ filter-append is_strong (map candidate_of xs) (map candidate_of ys)

strong_one : (file : LoadedFile) (i : ℕ) (symbol : Symbol) (a b : Bool) → is_candidate file.object.sections symbol ≡ a → (strength symbol == 0) ≡ b → strong_among (option_to_list (found_at file (i, symbol))) ≡ (if a && b then (record { file = file.id; index = i; symbol = symbol }) ∷ [] else [])
unfolding found_at strong_among
strong_one file i symbol true true e f = rw (e, f) refl
strong_one file i symbol true false e f = rw (e, f) refl
strong_one file i symbol false b e f = rw e refl

strong_more : (all : List FileCandidate) (file : LoadedFile) (i : ℕ) (symbol : Symbol) → i < length file.object.symbols → symbol ≡ get_or file.object.symbols i symbol → strong_among (all ++ until file (i + 1)) ≡ strong_among (all ++ until file i) ++ (if is_candidate file.object.sections symbol && strength symbol == 0 then (record { file = file.id; index = i; symbol = symbol }) ∷ [] else [])
strong_more all file i symbol low is =
    ap (λ (fs : List FileCandidate). strong_among (all ++ fs)) (until_more file i symbol low is)
    ∙ ap strong_among (sym (append_assoc all (until file i) (option_to_list (found_at file (i, symbol)))))
    ∙ strong_join (all ++ until file i) (option_to_list (found_at file (i, symbol)))
    ∙ ap (λ (cs : List Candidate). strong_among (all ++ until file i) ++ cs) (strong_one file i symbol (is_candidate file.object.sections symbol) (strength symbol == 0) refl refl)

both_first : (a b : Bool) → (a && b) ≡ true → a ≡ true
both_first true b e = refl
both_first false b e = cc

pub strong_candidate : (file : LoadedFile) (symbol : Symbol) → (is_candidate file.object.sections symbol && strength symbol == 0) ≡ true → is_candidate file.object.sections symbol ≡ true
strong_candidate file symbol e = both_first (is_candidate file.object.sections symbol) (strength symbol == 0) e

pub firsts_start : (names : List (List ℕ)) (all : List FileCandidate) (file : LoadedFile) (table : List Firsts) → AreFirsts names (strong_among all) table → AreFirsts names (strong_among (all ++ until file 0)) table
firsts_start names all file table are = rw (until_start file, append_none all) are

pub firsts_add : (names : List (List ℕ)) (all : List FileCandidate) (file : LoadedFile) (i : ℕ) (symbol : Symbol) (table : List Firsts) → i < length file.object.symbols → symbol ≡ get_or file.object.symbols i symbol → (is_candidate file.object.sections symbol && strength symbol == 0) ≡ true → AreFirsts names (strong_among (all ++ until file i) ++ (record { file = file.id; index = i; symbol = symbol }) ∷ []) table → AreFirsts names (strong_among (all ++ until file (i + 1))) table
firsts_add names all file i symbol table low is strong are = rw (strong_more all file i symbol low is, strong) are

pub firsts_pass : (names : List (List ℕ)) (all : List FileCandidate) (file : LoadedFile) (i : ℕ) (symbol : Symbol) (table : List Firsts) → i < length file.object.symbols → symbol ≡ get_or file.object.symbols i symbol → (is_candidate file.object.sections symbol && strength symbol == 0) ≡ false → AreFirsts names (strong_among (all ++ until file i)) table → AreFirsts names (strong_among (all ++ until file (i + 1))) table
firsts_pass names all file i symbol table low is other are = rw (strong_more all file i symbol low is, other, append_none (strong_among (all ++ until file i))) are

pub firsts_end : (names : List (List ℕ)) (all : List FileCandidate) (file : LoadedFile) (i : ℕ) (table : List Firsts) → length file.object.symbols ≤ i → AreFirsts names (strong_among (all ++ until file i)) table → AreFirsts names (strong_among (all ++ found_in file)) table
firsts_end names all file i table past are = rw (sym (until_end file i past)) are

pub files_start : (names : List (List ℕ)) (files : List LoadedFile) (table : List Firsts) → AreFirsts names (strong_among []) table → AreFirsts names (strong_among (found (take 0 files))) table
files_start names files table are = rw (found_none files) are

pub files_add : (names : List (List ℕ)) (files : List LoadedFile) (i : ℕ) (file : LoadedFile) (table : List Firsts) → i < length files → file ≡ get_or files i file → AreFirsts names (strong_among (found (take i files) ++ found_in file)) table → AreFirsts names (strong_among (found (take (i + 1) files))) table
files_add names files i file table low is are = rw (found_more files i file low is) are

pub files_end : (names : List (List ℕ)) (files : List LoadedFile) (i : ℕ) (table : List Firsts) → length files ≤ i → AreFirsts names (strong_among (found (take i files))) table → AreFirsts names (strong_among (found files)) table
files_end names files i table past are = rw (take_all i files past) at are

pub ruleset firsts_noted = (firsts_start, firsts_add, firsts_pass, firsts_end, files_start, files_add, files_end)

-- ---- what is held of them

one_found : (file : LoadedFile) (i : ℕ) (symbol : Symbol) (b : Bool) → is_candidate file.object.sections symbol ≡ b → option_to_list (found_at file (i, symbol)) ≡ (if b then (record { file = file; index = i; symbol = symbol }) ∷ [] else [])
unfolding found_at
one_found file i symbol true e = rw e refl
one_found file i symbol false e = rw e refl

-- the same of a list that is made of the same
has_same : (files : List LoadedFile) (names : List (List ℕ)) (all others : List FileCandidate) (table : List Best) → all ≡ others → HasBests files names all table → HasBests files names others table
has_same files names all others table same has = subst (λ (fs : List FileCandidate). HasBests files names fs table) same has

pub bests_none : (files : List LoadedFile) (names : List (List ℕ)) (read : List LoadedFile) (table : List Best) → AreBests files names [] table → HasBests files names (found (take 0 read)) table
bests_none files names read table are = record { fs = []; held_is = sym (found_none read); numbered = tt; bests = are }

pub bests_begin : (files : List LoadedFile) (names : List (List ℕ)) (all : List FileCandidate) (file : LoadedFile) (table : List Best) → HasBests files names all table → HasBests files names (all ++ until file 0) table
bests_begin files names all file table has = has_same files names all (all ++ until file 0) table (sym (append_none all) ∙ ap (λ (fs : List FileCandidate). all ++ fs) (sym (until_start file))) has

pub bests_add : (files : List LoadedFile) (names : List (List ℕ)) (all : List FileCandidate) (file : LoadedFile) (i : ℕ) (symbol : Symbol) (f : FoundIn) (old new : List Best) → i < length file.object.symbols → symbol ≡ get_or file.object.symbols i symbol → is_candidate file.object.sections symbol ≡ true → found_of f ≡ record { file = file; index = i; symbol = symbol } → IsNumbered names f → ((fs : List FoundIn) → AreBests files names fs old → AreBests files names (fs ++ f ∷ []) new) → HasBests files names (all ++ until file i) old → HasBests files names (all ++ until file (i + 1)) new
bests_add files names all file i symbol f old new low is candidate same number noted has = record {
  fs = has.fs ++ f ∷ [];
  held_is =
      map-append found_of has.fs (f ∷ [])
      ∙ ap (λ (fs : List FileCandidate). fs ++ found_of f ∷ []) has.held_is
      ∙ ap (λ (g : FileCandidate). (all ++ until file i) ++ g ∷ []) same
      ∙ append_assoc all (until file i) ((record { file = file; index = i; symbol = symbol }) ∷ [])
      ∙ ap (λ (fs : List FileCandidate). all ++ (until file i ++ fs)) (sym (one_found file i symbol true candidate))
      ∙ ap (λ (fs : List FileCandidate). all ++ fs) (sym (until_more file i symbol low is));
  numbered = all_join (IsNumbered names) has.fs (f ∷ []) has.numbered (number, tt);
  bests = noted has.fs has.bests;
}

pub bests_pass : (files : List LoadedFile) (names : List (List ℕ)) (all : List FileCandidate) (file : LoadedFile) (i : ℕ) (symbol : Symbol) (table : List Best) → i < length file.object.symbols → symbol ≡ get_or file.object.symbols i symbol → is_candidate file.object.sections symbol ≡ false → HasBests files names (all ++ until file i) table → HasBests files names (all ++ until file (i + 1)) table
bests_pass files names all file i symbol table low is other has =
    has_same files names (all ++ until file i) (all ++ until file (i + 1)) table
    (ap (λ (fs : List FileCandidate). all ++ fs) (sym (append_none (until file i)) ∙ ap (λ (fs : List FileCandidate). until file i ++ fs) (sym (one_found file i symbol false other)) ∙ sym (until_more file i symbol low is)))
    has

pub bests_past : (files : List LoadedFile) (names : List (List ℕ)) (all : List FileCandidate) (file : LoadedFile) (i : ℕ) (table : List Best) → length file.object.symbols ≤ i → HasBests files names (all ++ until file i) table → HasBests files names (all ++ found_in file) table
bests_past files names all file i table past has = has_same files names (all ++ until file i) (all ++ found_in file) table (ap (λ (fs : List FileCandidate). all ++ fs) (until_end file i past)) has

pub bests_file : (files : List LoadedFile) (names : List (List ℕ)) (read : List LoadedFile) (i : ℕ) (file : LoadedFile) (table : List Best) → i < length read → file ≡ get_or read i file → HasBests files names (found (take i read) ++ found_in file) table → HasBests files names (found (take (i + 1) read)) table
bests_file files names read i file table low is has = has_same files names (found (take i read) ++ found_in file) (found (take (i + 1) read)) table (sym (found_more read i file low is)) has

pub bests_all : (files : List LoadedFile) (names : List (List ℕ)) (read : List LoadedFile) (i : ℕ) (table : List Best) → length read ≤ i → HasBests files names (found (take i read)) table → HasBests files names (found read) table
bests_all files names read i table past has = has_same files names (found (take i read)) (found read) table (ap found (take_all i read past)) has

pub ruleset bests_noted = (bests_begin, bests_past, bests_file, bests_all)
