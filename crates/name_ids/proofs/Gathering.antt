-- Names of symbols and of files, added one by one.
use Rattle.std.proofs.Common.{◌≡◌, ℕ, ◌+◌, ◌<◌, ◌≤◌, ◌^◌, Bool, true, false, List, [], ◌∷◌, ◌++◌, length, nat_lt, Result, Ok, Err, drop, get_or, refl, sym, ap, ◌∙◌, arith}
use Rattle.std.proofs.lemmas.Bool.{le-ltb, lt-ltb, ltb-false, ltb-true}
use Rattle.std.proofs.lemmas.List.{drop_all, drop_more, length-append}
use Rattle.std.proofs.lemmas.List.Sums.{fold-append}
use Rattle.std.specs.Str.{bytes_eq}
use Rattle.indexmap.specs.IndexSet.{insert_all, insert_key}
use Rattle.mo_types.specs.declared.loaded.LoadedFile.{LoadedFile}
use Rattle.mo_types.specs.declared.object.Symbol.{Symbol}
use Rattle.list_lemmas.proofs.Inserted.{behind}
use Rattle.name_ids.specs.Names.{added, external_names, external_of, gathered, limited, numbered}
use Rattle.name_ids.specs.declared.fault.GatherFault.{GatherFault}
use Rattle.name_ids.specs.declared.fault.GatherFault.TheVariants.{Names}
use Rattle.name_ids.proofs.Once.{same_name}

same_ok : {A E : Type 0} {x y : A} → ◌≡◌ {A = Result A E} (Ok x) (Ok y) → x ≡ y
same_ok e = cc

same_fault : {A E : Type 0} {x y : E} → ◌≡◌ {A = Result A E} (Err x) (Err y) → x ≡ y
same_fault e = cc

-- with the rest of the names added to those of now, there are those that all make of those before
pub record IsAdding (before now all rest : List (List ℕ)) : Type 0 where
  pub same : insert_all bytes_eq now rest ≡ insert_all bytes_eq before all

there : {X : Type 0} (xs : List X) (i : ℕ) (x : X) → i < length xs → x ≡ get_or xs i x → drop i xs ≡ x ∷ drop (i + 1) xs
there xs i x low is = drop_more xs i x low ∙ ap (λ y. y ∷ drop (i + 1) xs) (sym is)

adds : (before now new all rest more : List (List ℕ)) (name : List ℕ) → IsAdding before now all rest → rest ≡ name ∷ more → new ≡ insert_key bytes_eq now name → IsAdding before new all more
adds before now new all rest more name adding is key = record { same = ap (λ ks. insert_all bytes_eq ks more) key ∙ sym (ap (insert_all bytes_eq now) is) ∙ adding.same }

ends : (before now all rest : List (List ℕ)) → IsAdding before now all rest → rest ≡ [] → now ≡ insert_all bytes_eq before all
ends before now all rest adding is = sym (ap (insert_all bytes_eq now) is) ∙ adding.same

-- ---- symbols

external_first : (symbol : Symbol) (rest : List Symbol) → symbol.external ≡ true → external_of (symbol ∷ rest) ≡ symbol.name ∷ external_of rest
unfolding external_of
external_first symbol rest is = rw is refl

local_first : (symbol : Symbol) (rest : List Symbol) → symbol.external ≡ false → external_of (symbol ∷ rest) ≡ external_of rest
unfolding external_of
local_first symbol rest is = rw is refl

no_symbols : external_of [] ≡ []
unfolding external_of
no_symbols = refl

pub symbols_start : (before : List (List ℕ)) (symbols : List Symbol) → IsAdding before before (external_of symbols) (external_of (drop 0 symbols))
symbols_start before symbols = record { same = refl }

one_first : (symbol : Symbol) (rest : List Symbol) (external : Bool) → symbol.external ≡ external → external_of (symbol ∷ rest) ≡ external_of (symbol ∷ []) ++ external_of rest
one_first symbol rest true is = external_first symbol rest is ∙ ap (λ (ks : List (List ℕ)). ks ++ external_of rest) (sym (external_first symbol [] is ∙ ap (λ (ks : List (List ℕ)). symbol.name ∷ ks) no_symbols))
one_first symbol rest false is = local_first symbol rest is ∙ ap (λ (ks : List (List ℕ)). ks ++ external_of rest) (sym (local_first symbol [] is ∙ no_symbols))

pub symbols_add : (before now new : List (List ℕ)) (symbols : List Symbol) (i : ℕ) (symbol : Symbol) → IsAdding before now (external_of symbols) (external_of (drop i symbols)) → i < length symbols → symbol ≡ get_or symbols i symbol → new ≡ insert_all bytes_eq now (external_of (symbol ∷ [])) → IsAdding before new (external_of symbols) (external_of (drop (i + 1) symbols))
symbols_add before now new symbols i symbol adding low is added = record {
  same =
      ap (λ ks. insert_all bytes_eq ks (external_of (drop (i + 1) symbols))) added
      ∙ sym (fold-append (insert_key bytes_eq) now (external_of (symbol ∷ [])) (external_of (drop (i + 1) symbols)))
      ∙ sym (ap (insert_all bytes_eq now) (ap external_of (there symbols i symbol low is) ∙ one_first symbol (drop (i + 1) symbols) symbol.external refl))
      ∙ adding.same;
}

pub symbols_end : (before now : List (List ℕ)) (symbols : List Symbol) (i : ℕ) → IsAdding before now (external_of symbols) (external_of (drop i symbols)) → length symbols ≤ i → now ≡ insert_all bytes_eq before (external_of symbols)
symbols_end before now symbols i adding past =
    ends before now (external_of symbols) (external_of (drop i symbols)) adding (ap external_of (drop_all i symbols past) ∙ no_symbols)

-- ---- files

file_first : (file : LoadedFile) (rest : List LoadedFile) → external_names (file ∷ rest) ≡ external_of file.object.symbols ++ external_names rest
unfolding external_names
file_first file rest = refl

no_files : external_names [] ≡ []
unfolding external_names
no_files = refl

pub files_start : (before : List (List ℕ)) (files : List LoadedFile) → IsAdding before before (external_names files) (external_names (drop 0 files))
files_start before files = record { same = refl }

pub files_add : (before now new : List (List ℕ)) (files : List LoadedFile) (i : ℕ) (file : LoadedFile) → IsAdding before now (external_names files) (external_names (drop i files)) → i < length files → file ≡ get_or files i file → new ≡ insert_all bytes_eq now (external_of file.object.symbols) → IsAdding before new (external_names files) (external_names (drop (i + 1) files))
files_add before now new files i file adding low is added = record {
  same =
      ap (λ ks. insert_all bytes_eq ks (external_names (drop (i + 1) files))) added
      ∙ sym (fold-append (insert_key bytes_eq) now (external_of file.object.symbols) (external_names (drop (i + 1) files)))
      ∙ sym (ap (insert_all bytes_eq now) (ap external_names (there files i file low is) ∙ file_first file (drop (i + 1) files)))
      ∙ adding.same;
}

pub files_end : (before now : List (List ℕ)) (files : List LoadedFile) (i : ℕ) → IsAdding before now (external_names files) (external_names (drop i files)) → length files ≤ i → now ≡ insert_all bytes_eq before (external_names files)
files_end before now files i adding past =
    ends before now (external_names files) (external_names (drop i files)) adding (ap external_names (drop_all i files past) ∙ no_files)

-- ---- names

pub names_start : (before names : List (List ℕ)) → IsAdding before before names (drop 0 names)
names_start before names = record { same = refl }

pub names_add : (before now new names : List (List ℕ)) (i : ℕ) (name : List ℕ) → IsAdding before now names (drop i names) → i < length names → name ≡ get_or names i name → new ≡ insert_key bytes_eq now name → IsAdding before new names (drop (i + 1) names)
names_add before now new names i name adding low is key = adds before now new names (drop i names) (drop (i + 1) names) name adding (there names i name low is) key

pub names_end : (before now names : List (List ℕ)) (i : ℕ) → IsAdding before now names (drop i names) → length names ≤ i → now ≡ insert_all bytes_eq before names
names_end before now names i adding past = ends before now names (drop i names) adding (drop_all i names past)

pub ruleset names = (names_start, names_add, names_end)

-- ---- all of them

too_long : (all : List (List ℕ)) → 2 ^ 24 ≤ length all → limited all ≡ Err Names
too_long all past = let e : nat_lt (length all) (2 ^ 24) ≡ false = le-ltb (length all) (2 ^ 24) past in rw e refl

short : (all : List (List ℕ)) → length all < 2 ^ 24 → limited all ≡ Ok all
short all few = let e : nat_lt (length all) (2 ^ 24) ≡ true = lt-ltb (length all) (2 ^ 24) few in rw e refl

pub limited_is : (all names : List (List ℕ)) → limited all ≡ Ok names → (length all < 2 ^ 24) × (all ≡ names)
limited_is all names is = by (nat_lt (length all) (2 ^ 24)) refl
  where
    by : (b : Bool) → nat_lt (length all) (2 ^ 24) ≡ b → (length all < 2 ^ 24) × (all ≡ names)
    by true low = let few : length all < 2 ^ 24 = ltb-true (length all) (2 ^ 24) low in (few, same_ok (sym (short all few) ∙ is))
    by false high = absurd (let e : Err Names ≡ Ok names = sym (too_long all (ltb-false (length all) (2 ^ 24) high)) ∙ is in cc)

pub limited_fault : (all : List (List ℕ)) (fault : GatherFault) → limited all ≡ Err fault → (2 ^ 24 ≤ length all) × (fault ≡ Names)
limited_fault all fault is = by (nat_lt (length all) (2 ^ 24)) refl
  where
    by : (b : Bool) → nat_lt (length all) (2 ^ 24) ≡ b → (2 ^ 24 ≤ length all) × (fault ≡ Names)
    by true low = absurd (let e : Ok all ≡ Err fault = sym (short all (ltb-true (length all) (2 ^ 24) low)) ∙ is in cc)
    by false high = let many : 2 ^ 24 ≤ length all = ltb-false (length all) (2 ^ 24) high in (many, same_fault (sym is ∙ too_long all many))

-- further names, and then more, are all of these
added_twice : (files : List LoadedFile) (extra : List (List ℕ)) → numbered (external_names files ++ extra) ≡ added (added [] (external_names files)) extra
unfolding numbered
added_twice files extra = fold-append (insert_key bytes_eq) [] (external_names files) extra

no_fewer : (names more : List (List ℕ)) → length names ≤ length (added names more)
no_fewer names more =
    let b : (rest : List (List ℕ)) × (added names more ≡ names ++ rest) = behind bytes_eq same_name names more in
    let long : length (added names more) ≡ length names + length b.0 = ap length b.1 ∙ length-append names b.0 in
    omega (arith, long)

pub gathered_ok : (files : List LoadedFile) (extra first all : List (List ℕ)) → limited (added [] (external_names files)) ≡ Ok first → limited (added first extra) ≡ Ok all → gathered files extra ≡ Ok all
unfolding gathered
gathered_ok files extra first all one two =
    ap limited (added_twice files extra ∙ ap (λ (ks : List (List ℕ)). added ks extra) (limited_is (added [] (external_names files)) first one).1) ∙ two

pub gathered_first : (files : List LoadedFile) (extra : List (List ℕ)) (fault : GatherFault) → limited (added [] (external_names files)) ≡ Err fault → gathered files extra ≡ Err fault
unfolding gathered
gathered_first files extra fault is =
    let f : (2 ^ 24 ≤ length (added [] (external_names files))) × (fault ≡ Names) = limited_fault (added [] (external_names files)) fault is in
    let more = no_fewer (added [] (external_names files)) extra in
    ap limited (added_twice files extra) ∙ too_long (added (added [] (external_names files)) extra) (omega (arith, f.0, more)) ∙ ap Err (sym f.1)

pub gathered_then : (files : List LoadedFile) (extra first : List (List ℕ)) (fault : GatherFault) → limited (added [] (external_names files)) ≡ Ok first → limited (added first extra) ≡ Err fault → gathered files extra ≡ Err fault
unfolding gathered
gathered_then files extra first fault one two =
    ap limited (added_twice files extra ∙ ap (λ (ks : List (List ℕ)). added ks extra) (limited_is (added [] (external_names files)) first one).1) ∙ two
