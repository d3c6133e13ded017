-- The goals of symbols by their places in a pool that grows.
use Rattle.std.proofs.Common.{◌≡◌, ℕ, zero, suc, ◌+◌, ◌<◌, ◌≤◌, ◌^◌, Bool, true, false, List, [], ◌∷◌, ◌++◌, length, map, take, get_or, slice_get, position, Some, None, if◌then◌else◌, refl, sym, ap, subst, ◌∙◌, arith}
use Rattle.std.specs.Prelude.{All, Option, unwrap_or}
use Rattle.std.specs.List.{AllByRecursion, enumerate_from}
use Rattle.std.specs.Option.{option_map}
use Rattle.std.specs.Str.{bytes_eq}
use Rattle.std.proofs.lemmas.List.{get_or-map, length-map, map-append, take_all, take_more}
use Rattle.std.proofs.lemmas.List.Elements.{All-from_recursion}
use Rattle.std.proofs.lemmas.List.FromFn.{get_or-enumerate_from, length-enumerate_from}
use Rattle.std.proofs.lemmas.List.Quantifiers.{position-Some}
use Rattle.std.proofs.lemmas.Option.{slice_get-get_or, slice_get-map, slice_get_within}
use Rattle.std.proofs.lemmas.Slice.Eq.{bytes_eq-Decides}
use Rattle.resolve.specs.Table.{AreWithin, Tabled, goal_in, goals_in, goals_of}
use Rattle.lib_bind.specs.declared.library.LibraryGraph.{LibraryGraph}
use Rattle.command_line.specs.declared.command.Command.{Command}
use Rattle.mo_types.specs.declared.goal.Goal.{Goal}
use Rattle.mo_types.specs.declared.loaded.LoadedFile.{LoadedFile}
use Rattle.mo_types.specs.declared.object.Symbol.{Symbol}
use Rattle.name_ids.specs.Names.{number_of, numbers_in, numbers_of}
use Rattle.name_ids.specs.declared.numbered.TheConstants.{NO_NUMBER}
use Rattle.resolve.specs.Goals.{goal_of_name, goal_of_symbol, goal_table, goals_of_symbols, local_goal}
use Rattle.symbol_winners.specs.Places.{place_of}
use Rattle.literal_merge.specs.Representatives.{representatives_of}
use Rattle.symbol_winners.proofs.NumberedLemmas.{named_at}
use Rattle.resolve.specs.inner.Pools.{ArePlaces, AreTables, Extends, IsAt}

-- ---- pools

pub extends_further : (pool new last : List Goal) → Extends pool new → Extends new last → Extends pool last
extends_further pool new last e f = record { still = λ place goal there. f.still place goal (e.still place goal there) }

still_there : (pool more : List Goal) (place : ℕ) (goal : Goal) → slice_get pool place ≡ Some goal → slice_get (pool ++ more) place ≡ Some goal
still_there [] more place goal there = cc
still_there (x ∷ pool) more zero goal there = there
still_there (x ∷ pool) more (suc place) goal there = still_there pool more place goal there

last_there : (pool : List Goal) (goal : Goal) → slice_get (pool ++ goal ∷ []) (length pool) ≡ Some goal
last_there [] goal = refl
last_there (x ∷ pool) goal = last_there pool goal

pub extends_more : (pool new : List Goal) (goal : Goal) → new ≡ pool ++ goal ∷ [] → Extends pool new
extends_more pool new goal more = record { still = λ place g there. ap (λ (p : List Goal). slice_get p place) more ∙ still_there pool (goal ∷ []) place g there }

pub at_end : (pool new : List Goal) (place : ℕ) (goal : Goal) → new ≡ pool ++ goal ∷ [] → place ≡ length pool → IsAt new place goal
at_end pool new place goal more is = record { there = ap (λ (p : List Goal). slice_get p place) more ∙ ap (slice_get (pool ++ goal ∷ [])) is ∙ last_there pool goal }

-- ---- places

places_still : (pool new : List Goal) (places : List ℕ) (goals : List Goal) → Extends pool new → map (slice_get pool) places ≡ map (λ goal. Some goal) goals → map (slice_get new) places ≡ map (λ goal. Some goal) goals
places_still pool new [] goals extends are = are
places_still pool new (place ∷ places) [] extends are = cc
places_still pool new (place ∷ places) (goal ∷ goals) extends are =
    let here : slice_get pool place ≡ Some goal = cc in
    let later : map (slice_get pool) places ≡ map (λ goal. Some goal) goals = cc in
    let first : slice_get new place ≡ Some goal = extends.still place goal here in
    let rest : map (slice_get new) places ≡ map (λ goal. Some goal) goals = places_still pool new places goals extends later in
    ap (λ (o : Option Goal). o ∷ map (slice_get new) places) first ∙ ap (λ (os : List (Option Goal)). Some goal ∷ os) rest

tables_still : (pool new : List Goal) (places : List (List ℕ)) (goals : List (List Goal)) → Extends pool new → map (map (slice_get pool)) places ≡ map (map (λ goal. Some goal)) goals → map (map (slice_get new)) places ≡ map (map (λ goal. Some goal)) goals
tables_still pool new [] goals extends are = are
tables_still pool new (list ∷ places) [] extends are = cc
tables_still pool new (list ∷ places) (gs ∷ goals) extends are =
    let here : map (slice_get pool) list ≡ map (λ goal. Some goal) gs = cc in
    let later : map (map (slice_get pool)) places ≡ map (map (λ goal. Some goal)) goals = cc in
    let first : map (slice_get new) list ≡ map (λ goal. Some goal) gs = places_still pool new list gs extends here in
    let rest : map (map (slice_get new)) places ≡ map (map (λ goal. Some goal)) goals = tables_still pool new places goals extends later in
    ap (λ (os : List (Option Goal)). os ∷ map (map (slice_get new)) places) first ∙ ap (λ (ls : List (List (Option Goal))). map (λ goal. Some goal) gs ∷ ls) rest

-- one place more, in a pool that has grown
pub one_more : (pool new : List Goal) (places more : List ℕ) (goals : List Goal) (place : ℕ) (goal : Goal) → ArePlaces pool places goals → Extends pool new → IsAt new place goal → more ≡ places ++ place ∷ [] → ArePlaces new more (goals ++ goal ∷ [])
one_more pool new places more goals place goal are extends there is = record {
  are =
      ap (map (slice_get new)) is ∙ map-append (slice_get new) places (place ∷ [])
      ∙ ap (λ (os : List (Option Goal)). os ++ slice_get new place ∷ []) (places_still pool new places goals extends are.are)
      ∙ ap (λ (o : Option Goal). map (λ goal. Some goal) goals ++ o ∷ []) there.there
      ∙ sym (map-append (λ goal. Some goal) goals (goal ∷ []));
}

pub one_list_more : (pool new : List Goal) (places more : List (List ℕ)) (goals : List (List Goal)) (list : List ℕ) (gs : List Goal) → AreTables pool places goals → Extends pool new → ArePlaces new list gs → more ≡ places ++ list ∷ [] → AreTables new more (goals ++ gs ∷ [])
one_list_more pool new places more goals list gs are extends there is = record {
  are =
      ap (map (map (slice_get new))) is ∙ map-append (map (slice_get new)) places (list ∷ [])
      ∙ ap (λ (ls : List (List (Option Goal))). ls ++ map (slice_get new) list ∷ []) (tables_still pool new places goals extends are.are)
      ∙ ap (λ (os : List (Option Goal)). map (map (λ goal. Some goal)) goals ++ os ∷ []) there.are
      ∙ sym (map-append (map (λ goal. Some goal)) goals (gs ∷ []));
}

-- the goals at places
pub read_back : (pool : List Goal) (places : List ℕ) (goals : List Goal) → map (slice_get pool) places ≡ map (λ goal. Some goal) goals → map (goal_in pool) places ≡ goals
read_back pool [] [] are = refl
read_back pool [] (goal ∷ goals) are = cc
read_back pool (place ∷ places) [] are = cc
read_back pool (place ∷ places) (goal ∷ goals) are =
    let here : slice_get pool place ≡ Some goal = cc in
    let later : map (slice_get pool) places ≡ map (λ goal. Some goal) goals = cc in
    let first : goal_in pool place ≡ goal = rw here refl in
    let rest : map (goal_in pool) places ≡ goals = read_back pool places goals later in
    ap (λ (g : Goal). g ∷ map (goal_in pool) places) first ∙ ap (λ (gs : List Goal). goal ∷ gs) rest

each_within : (pool : List Goal) (places : List ℕ) (goals : List Goal) → map (slice_get pool) places ≡ map (λ goal. Some goal) goals → AllByRecursion (λ place. place < length pool) places
each_within pool [] goals are = tt
each_within pool (place ∷ places) [] are = cc
each_within pool (place ∷ places) (goal ∷ goals) are =
    let here : slice_get pool place ≡ Some goal = cc in
    let later : map (slice_get pool) places ≡ map (λ goal. Some goal) goals = cc in
    (slice_get_within pool place goal here, each_within pool places goals later)

all_within : (pool : List Goal) (places : List (List ℕ)) (goals : List (List Goal)) → map (map (slice_get pool)) places ≡ map (map (λ goal. Some goal)) goals → AllByRecursion (AreWithin pool) places
all_within pool [] goals are = tt
all_within pool (list ∷ places) [] are = cc
all_within pool (list ∷ places) (gs ∷ goals) are =
    let here : map (slice_get pool) list ≡ map (λ goal. Some goal) gs = cc in
    let later : map (map (slice_get pool)) places ≡ map (map (λ goal. Some goal)) goals = cc in
    (All-from_recursion (λ place. place < length pool) list (each_within pool list gs here), all_within pool places goals later)

pub tables_within : (pool : List Goal) (places : List (List ℕ)) (goals : List (List Goal)) → AreTables pool places goals → All (AreWithin pool) places
tables_within pool places goals are = All-from_recursion (AreWithin pool) places (all_within pool places goals are.are)

all_read : (pool : List Goal) (places : List (List ℕ)) (goals : List (List Goal)) → map (map (slice_get pool)) places ≡ map (map (λ goal. Some goal)) goals → map (goals_in pool) places ≡ goals
unfolding goals_in
all_read pool [] [] are = refl
all_read pool [] (gs ∷ goals) are = cc
all_read pool (list ∷ places) [] are = cc
all_read pool (list ∷ places) (gs ∷ goals) are =
    let here : map (slice_get pool) list ≡ map (λ goal. Some goal) gs = cc in
    let later : map (map (slice_get pool)) places ≡ map (map (λ goal. Some goal)) goals = cc in
    let first : map (goal_in pool) list ≡ gs = read_back pool list gs here in
    let rest : map (goals_in pool) places ≡ goals = all_read pool places goals later in
    ap (λ (g : List Goal). g ∷ map (map (goal_in pool)) places) first ∙ ap (λ (ls : List (List Goal)). gs ∷ ls) rest

pub tables_read : (table : Tabled) (pool : List Goal) (places : List (List ℕ)) (goals : List (List Goal)) → table ≡ record { pool = pool; places = places } → AreTables pool places goals → goals_of table ≡ goals
unfolding goals_of
tables_read table pool places goals is are = rw is (all_read pool places goals are.are)

-- ---- the goals of names

-- the goal of a symbol whose number is that of a name stands at that number
pub at_number : (files : List LoadedFile) (graph : LibraryGraph) (command : Command) (names : List (List ℕ)) (pool : List Goal) (file : LoadedFile) (index number : ℕ) (symbol : Symbol) → length names < 2 ^ 24 → Extends (map (goal_of_name files graph command) names) pool → number ≡ number_of names symbol → number < length names → IsAt pool number (goal_of_symbol files graph command file (index, symbol))
unfolding goal_of_symbol
at_number files graph command names pool file index number symbol few extends is low =
    let named = named_at names symbol number few is low in
    let external : symbol.external ≡ true = named.0 in
    record {
      there = extends.still number (if symbol.external then goal_of_name files graph command symbol.name else local_goal (representatives_of files) (place_of file index symbol.kind))
          (slice_get-map (goal_of_name files graph command) names number ∙ ap (option_map (goal_of_name files graph command)) named.1 ∙ ap (λ (g : Goal). Some g) (rw external refl));
    }

-- ---- symbol by symbol

symbol_numbered : (symbols : List Symbol) (i : ℕ) (d : Symbol) → i < length symbols → get_or (enumerate_from 0 symbols) i (0, d) ≡ (i, get_or symbols i d)
symbol_numbered symbols i d low = let e : 0 + i ≡ i = omega arith in get_or-enumerate_from 0 symbols i (0, d) low ∙ ap (λ (n : ℕ). (n, get_or symbols i d)) e

-- the goals of the symbols before a place stand at places
pub record ArePut (files : List LoadedFile) (graph : LibraryGraph) (command : Command) (file : LoadedFile) (first pool : List Goal) (i : ℕ) (places : List ℕ) : Type 0 where
  pub extends : Extends first pool
  pub placed : ArePlaces pool places (map (goal_of_symbol files graph command file) (take i (enumerate_from 0 file.object.symbols)))

pub put_more : (files : List LoadedFile) (graph : LibraryGraph) (command : Command) (file : LoadedFile) (first pool new : List Goal) (i : ℕ) (places more : List ℕ) (place : ℕ) → ArePut files graph command file first pool i places → i < length file.object.symbols → Extends pool new → ((d : Symbol) → IsAt new place (goal_of_symbol files graph command file (i, get_or file.object.symbols i d))) → more ≡ places ++ place ∷ [] → ArePut files graph command file first new (i + 1) more
put_more files graph command file first pool new i places more place put low extends there is = with_some (some_symbol file.object.symbols low)
  where
    some_symbol : (symbols : List Symbol) → i < length symbols → Symbol
    some_symbol [] l = absurd (omega (arith, l))
    some_symbol (s ∷ ss) l = s

    with_some : (d : Symbol) → ArePut files graph command file first new (i + 1) more
    with_some d =
        let under : i < length (enumerate_from 0 file.object.symbols) = omega (arith, low, length-enumerate_from 0 file.object.symbols) in
        let f : ℕ × Symbol → Goal = goal_of_symbol files graph command file in
        let goals : map f (take (i + 1) (enumerate_from 0 file.object.symbols)) ≡ map f (take i (enumerate_from 0 file.object.symbols)) ++ f (i, get_or file.object.symbols i d) ∷ [] =
        ap (map f) (take_more (enumerate_from 0 file.object.symbols) i (0, d) under) ∙ map-append f (take i (enumerate_from 0 file.object.symbols)) (get_or (enumerate_from 0 file.object.symbols) i (0, d) ∷ [])
        ∙ ap (λ (p : ℕ × Symbol). map f (take i (enumerate_from 0 file.object.symbols)) ++ f p ∷ []) (symbol_numbered file.object.symbols i d low) in
        record {
          extends = extends_further first pool new put.extends extends;
          placed = subst (λ (gs : List Goal). ArePlaces new more gs) (sym goals) (one_more pool new places more (map f (take i (enumerate_from 0 file.object.symbols))) place (f (i, get_or file.object.symbols i d)) put.placed extends (there d) is);
        }

pub put_all : (files : List LoadedFile) (graph : LibraryGraph) (command : Command) (file : LoadedFile) (first pool : List Goal) (i : ℕ) (places list : List ℕ) → ArePut files graph command file first pool i places → length file.object.symbols ≤ i → list ≡ places → ArePlaces pool list (goals_of_symbols files graph command file)
unfolding goals_of_symbols
put_all files graph command file first pool i places list put past is =
    subst (λ (xs : List (ℕ × Symbol)). ArePlaces pool list (map (goal_of_symbol files graph command file) xs)) (take_all i (enumerate_from 0 file.object.symbols) (omega (arith, past, length-enumerate_from 0 file.object.symbols)))
    (subst (λ (ps : List ℕ). ArePlaces pool ps (map (goal_of_symbol files graph command file) (take i (enumerate_from 0 file.object.symbols)))) (sym is) put.placed)

-- ---- file by file

-- the goals of the symbols of the files before a place stand at places
pub record AreListed (files : List LoadedFile) (graph : LibraryGraph) (command : Command) (first pool : List Goal) (read : List LoadedFile) (at : ℕ) (places : List (List ℕ)) : Type 0 where
  pub extends : Extends first pool
  pub tables : AreTables pool places (map (goals_of_symbols files graph command) (take at read))

pub listed_more : (files : List LoadedFile) (graph : LibraryGraph) (command : Command) (first pool new : List Goal) (read : List LoadedFile) (at : ℕ) (file d : LoadedFile) (places more : List (List ℕ)) (list : List ℕ) → AreListed files graph command first pool read at places → at < length read → file ≡ get_or read at d → Extends pool new → ArePlaces new list (goals_of_symbols files graph command file) → more ≡ places ++ list ∷ [] → AreListed files graph command first new read (at + 1) more
listed_more files graph command first pool new read at file d places more list listed low same extends there is =
    let f : LoadedFile → List Goal = goals_of_symbols files graph command in
    let goals : map f (take (at + 1) read) ≡ map f (take at read) ++ f file ∷ [] =
    ap (map f) (take_more read at d low ∙ ap (λ (x : LoadedFile). take at read ++ x ∷ []) (sym same)) ∙ map-append f (take at read) (file ∷ []) in
    record {
      extends = extends_further first pool new listed.extends extends;
      tables = subst (λ (gs : List (List Goal)). AreTables new more gs) (sym goals) (one_list_more pool new places more (map f (take at read)) list (f file) listed.tables extends there is);
    }

pub listed_all : (files : List LoadedFile) (graph : LibraryGraph) (command : Command) (first pool : List Goal) (read : List LoadedFile) (at : ℕ) (places lists : List (List ℕ)) → AreListed files graph command first pool read at places → length read ≤ at → read ≡ files → lists ≡ places → AreTables pool lists (goal_table files graph command)
listed_all files graph command first pool read at places lists listed past same is =
    subst (λ (fs : List LoadedFile). AreTables pool lists (map (goals_of_symbols files graph command) fs)) (take_all at read past ∙ same)
    (subst (λ (ps : List (List ℕ)). AreTables pool ps (map (goals_of_symbols files graph command) (take at read))) (sym is) listed.tables)
