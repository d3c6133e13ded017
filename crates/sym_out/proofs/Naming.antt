-- Names of atoms, with a symbol more.
use Rattle.std.proofs.Common.{◌≡◌, ◌≢◌, ℕ, ◌+◌, ◌<◌, ◌≤◌, Bool, true, false, List, [], ◌∷◌, ◌++◌, length, get_or, take, replicate, refl, sym, ap, subst, ◌∙◌, arith, Option, Some, None}
use Rattle.std.specs.Borrow.{Bor}
use Rattle.std.specs.List.{All, find, flat_map}
use Rattle.std.specs.List.Sorted.{IsPermutation, IsSorted}
use Rattle.std.specs.Option.{option_map, option_map_or, option_or}
use Rattle.std.specs.Ordering.{is_eq}
use Rattle.std.proofs.Math.ListN.{set}
use Rattle.std.proofs.lemmas.Cmp.{tied_itself}
use Rattle.std.proofs.lemmas.List.{get_or-replicate, length-replicate}
use Rattle.std.proofs.lemmas.List.Folds.{find-append}
use Rattle.atom_index.specs.Stands.{StandsAt}
use Rattle.atom_index.proofs.Keys.{is_equal, same_key}
use Rattle.mo_types.proofs.KeyOrder.{compare_keys_total}
use Rattle.mo_types.specs.Keys.{compare_keys}
use Rattle.mo_types.specs.declared.atom.Atom.{Atom}
use Rattle.mo_types.specs.declared.key.AtomKey.{AtomKey}
use Rattle.mo_types.specs.declared.loaded.LoadedFile.{LoadedFile}
use Rattle.mo_types.specs.declared.object.Symbol.{Symbol}
use Rattle.sect_place.specs.Addresses.{AreOnce}
use Rattle.sect_place.specs.declared.layout.Placed.{Placed}
use Rattle.sym_out.specs.Files.{FileSymbol, symbols_in, symbols_of}
use Rattle.sym_out.specs.Map.{IsMap, MapRow, compare_rows, first_name, is_name_of, line_of, named_by, row_of, rows_of}
use Rattle.sym_out.specs.inner.Tables.{AreNames, atom_of, filled, name_held}
use Rattle.sym_out.proofs.ByAtom.{no_address, stands_address, table_at, table_same, table_with, table_without}
use Rattle.sym_out.proofs.Filed.{files_all, files_more, files_none, until, until_all, until_more, until_none}

-- ---- what a symbol changes

pub not_same : (a b : AtomKey) → b ≢ a → is_eq (compare_keys a b) ≡ false
not_same a b differ = by (is_eq (compare_keys a b)) refl
  where
    by : (t : Bool) → is_eq (compare_keys a b) ≡ t → is_eq (compare_keys a b) ≡ false
    by true e = absurd (differ (sym (same_key a b (is_equal (compare_keys a b) e))))
    by false e = e

or_none : {T : Type 0} (o : Option T) → option_or o None ≡ o
or_none None = refl
or_none (Some x) = refl

only_true : (s : FileSymbol) (key : AtomKey) → is_name_of key s ≡ true → find (is_name_of key) (s ∷ []) ≡ Some s
only_true s key e = rw e refl

only_false : (s : FileSymbol) (key : AtomKey) → is_name_of key s ≡ false → find (is_name_of key) (s ∷ []) ≡ None
only_false s key e = rw e refl

name_if : (f : AtomKey → Option (List ℕ)) (s : FileSymbol) (key : AtomKey) (t : Bool) → is_name_of key s ≡ t → filled f (s ∷ []) key ≡ option_or (f key) (elim t [ true ↦ Some s.symbol.name | false ↦ None ])
unfolding filled first_name
name_if f s key true e = ap (λ (o : Option FileSymbol). option_or (f key) (option_map (λ (x : FileSymbol). x.symbol.name) o)) (only_true s key e)
name_if f s key false e = ap (λ (o : Option FileSymbol). option_or (f key) (option_map (λ (x : FileSymbol). x.symbol.name) o)) (only_false s key e)

by_none : (s : FileSymbol) (key : AtomKey) → named_by s ≡ None → is_name_of key s ≡ false
by_none s key e = ap (λ (o : Option AtomKey). option_map_or (λ (atom : AtomKey). is_eq (compare_keys atom key)) o false) e

by_some : (s : FileSymbol) (key atom : AtomKey) → named_by s ≡ Some atom → is_name_of key s ≡ is_eq (compare_keys atom key)
by_some s key atom e = ap (λ (o : Option AtomKey). option_map_or (λ (a : AtomKey). is_eq (compare_keys a key)) o false) e

pub names_none : (f : AtomKey → Option (List ℕ)) (s : FileSymbol) → named_by s ≡ None → (key : AtomKey) → f key ≡ filled f (s ∷ []) key
names_none f s e key = sym (name_if f s key false (by_none s key e) ∙ or_none (f key))

pub names_other : (f : AtomKey → Option (List ℕ)) (s : FileSymbol) (atom : AtomKey) → named_by s ≡ Some atom → (key : AtomKey) → key ≢ atom → f key ≡ filled f (s ∷ []) key
names_other f s atom e key differ = sym (name_if f s key false (by_some s key atom e ∙ not_same atom key differ) ∙ or_none (f key))

pub names_here : (f : AtomKey → Option (List ℕ)) (s : FileSymbol) (atom : AtomKey) → named_by s ≡ Some atom → option_or (f atom) (Some s.symbol.name) ≡ filled f (s ∷ []) atom
names_here f s atom e = sym (name_if f s atom true (by_some s atom atom e ∙ ap is_eq (tied_itself compare_keys_total atom)))

-- ---- the table with a symbol more

held_or : (o : Option (Bor Symbol)) (s : Bor Symbol) → name_held (option_or o (Some s)) ≡ option_or (name_held o) (Some s.now.name)
held_or None s = refl
held_or (Some t) s = refl

pub noted : (f : AtomKey → Option (List ℕ)) (placed : List Placed) (names : List (Option (Bor Symbol))) (s : FileSymbol) (atom : AtomKey) (at : ℕ) (old new : Option (Bor Symbol)) (symbol : Bor Symbol) → AreOnce placed → StandsAt atom_of placed atom at → named_by s ≡ Some atom → old ≡ get_or names at old → new ≡ option_or old (Some symbol) → symbol.now ≡ s.symbol → AreNames f placed names → AreNames (filled f (s ∷ [])) placed (set names at new)
noted f placed names s atom at old new symbol once stands by is value same are =
    table_with name_held f (filled f (s ∷ [])) placed names atom at new once stands are
    (ap name_held value
    ∙ held_or old symbol
    ∙ ap (λ (o : Option (Bor Symbol)). option_or (name_held o) (Some symbol.now.name)) is
    ∙ ap (λ (o : Option (List ℕ)). option_or o (Some symbol.now.name)) (first_value old)
    ∙ ap (λ (n : Symbol). option_or (f atom) (Some n.name)) same
    ∙ names_here f s atom by)
    (names_other f s atom by)
  where
    first_value : (d : Option (Bor Symbol)) → name_held (get_or names at d) ≡ f atom
    first_value d = let p : Placed = record { atom = atom; address = 0 } in are.each at d p stands.within ∙ ap f (stands.of_atom p)

pub passed : (f : AtomKey → Option (List ℕ)) (placed : List Placed) (names : List (Option (Bor Symbol))) (s : FileSymbol) → named_by s ≡ None → AreNames f placed names → AreNames (filled f (s ∷ [])) placed names
passed f placed names s none are = table_same name_held f (filled f (s ∷ [])) placed names are (names_none f s none)

pub absent : (f : AtomKey → Option (List ℕ)) (placed : List Placed) (names : List (Option (Bor Symbol))) (s : FileSymbol) (atom : AtomKey) → All (λ (p : Placed). p.atom ≢ atom) placed → named_by s ≡ Some atom → AreNames f placed names → AreNames (filled f (s ∷ [])) placed names
absent f placed names s atom none by are = table_without name_held f (filled f (s ∷ [])) placed names atom none are (names_other f s atom by)

-- ---- symbols one after the other

or_assoc : {T : Type 0} (a b c : Option T) → option_or (option_or a b) c ≡ option_or a (option_or b c)
or_assoc None b c = refl
or_assoc (Some x) b c = refl

map_or : (a b : Option FileSymbol) → option_map (λ (s : FileSymbol). s.symbol.name) (option_or a b) ≡ option_or (option_map (λ (s : FileSymbol). s.symbol.name) a) (option_map (λ (s : FileSymbol). s.symbol.name) b)
map_or None b = refl
map_or (Some x) b = refl

first_append : (xs ys : List FileSymbol) (key : AtomKey) → first_name (xs ++ ys) key ≡ option_or (first_name xs key) (first_name ys key)
unfolding first_name
first_append xs ys key = ap (option_map (λ (s : FileSymbol). s.symbol.name)) (find-append (is_name_of key) xs ys) ∙ map_or (find (is_name_of key) xs) (find (is_name_of key) ys)

pub filled_more : (f : AtomKey → Option (List ℕ)) (xs ys : List FileSymbol) (key : AtomKey) → filled (filled f xs) ys key ≡ filled f (xs ++ ys) key
unfolding filled
filled_more f xs ys key =
    or_assoc (f key) (first_name xs key) (first_name ys key) ∙ ap (option_or (f key)) (sym (first_append xs ys key))

pub filled_none : (f : AtomKey → Option (List ℕ)) (key : AtomKey) → f key ≡ filled f [] key
unfolding filled first_name
filled_none f key = sym (or_none (f key))

pub filled_start : (symbols : List FileSymbol) (key : AtomKey) → filled (λ (k : AtomKey). None) symbols key ≡ first_name symbols key
unfolding filled
filled_start symbols key = refl

-- ---- files one after the other

pub file_starts : (f : AtomKey → Option (List ℕ)) (placed : List Placed) (names : List (Option (Bor Symbol))) (file : LoadedFile) → AreNames f placed names → AreNames (filled f (until file 0)) placed names
file_starts f placed names file are =
    table_same name_held f (filled f (until file 0)) placed names are (λ key. filled_none f key ∙ ap (λ (s : List FileSymbol). filled f s key) (sym (until_none file)))

pub file_goes_on : (f : AtomKey → Option (List ℕ)) (placed : List Placed) (names : List (Option (Bor Symbol))) (file : LoadedFile) (i : ℕ) (d : Symbol) → i < length file.object.symbols → AreNames (filled (filled f (until file i)) ((record { file = file; index = i; symbol = get_or file.object.symbols i d }) ∷ [])) placed names → AreNames (filled f (until file (i + 1))) placed names
file_goes_on f placed names file i d low are =
    let one : List FileSymbol = (record { file = file; index = i; symbol = get_or file.object.symbols i d }) ∷ [] in
    table_same name_held (filled (filled f (until file i)) one) (filled f (until file (i + 1))) placed names are
    (λ key. filled_more f (until file i) one key ∙ ap (λ (s : List FileSymbol). filled f s key) (sym (until_more file i d low)))

pub file_ends : (f : AtomKey → Option (List ℕ)) (placed : List Placed) (names : List (Option (Bor Symbol))) (file : LoadedFile) (i : ℕ) → length file.object.symbols ≤ i → AreNames (filled f (until file i)) placed names → AreNames (filled f (symbols_in file)) placed names
file_ends f placed names file i past are =
    table_same name_held (filled f (until file i)) (filled f (symbols_in file)) placed names are (λ key. ap (λ (s : List FileSymbol). filled f s key) (until_all file i past))

pub files_start : (placed : List Placed) (names : List (Option (Bor Symbol))) (files : List LoadedFile) (count : ℕ) → count ≡ length placed → names ≡ replicate count None → AreNames (first_name (symbols_of (take 0 files))) placed names
unfolding first_name
files_start placed names files count same is = record {
  size = ap length is ∙ length-replicate count None ∙ same;
  each = λ at y p low.
      ap (λ (l : List (Option (Bor Symbol))). name_held (get_or l at y)) is
      ∙ ap name_held (get_or-replicate count at None y (omega (arith, low, same)))
      ∙ ap (λ (l : List FileSymbol). option_map (λ (s : FileSymbol). s.symbol.name) (find (is_name_of (get_or placed at p).atom) l)) (sym (files_none files));
}

pub files_go_on : (placed : List Placed) (names : List (Option (Bor Symbol))) (files : List LoadedFile) (i : ℕ) (file : LoadedFile) → i < length files → file ≡ get_or files i file → AreNames (filled (first_name (symbols_of (take i files))) (symbols_in file)) placed names → AreNames (first_name (symbols_of (take (i + 1) files))) placed names
unfolding filled
files_go_on placed names files i file low is are =
    table_same name_held (filled (first_name (symbols_of (take i files))) (symbols_in file)) (first_name (symbols_of (take (i + 1) files))) placed names are
    (λ key. sym (first_append (symbols_of (take i files)) (symbols_in file) key) ∙ ap (λ (s : List FileSymbol). first_name s key) (sym (files_more files i file low is)))

pub files_end : (placed : List Placed) (names : List (Option (Bor Symbol))) (files : List LoadedFile) (i : ℕ) → length files ≤ i → AreNames (first_name (symbols_of (take i files))) placed names → AreNames (first_name (symbols_of files)) placed names
files_end placed names files i past are =
    table_same name_held (first_name (symbols_of (take i files))) (first_name (symbols_of files)) placed names are (λ key. ap (λ (s : List FileSymbol). first_name s key) (files_all files i past))

-- ---- rows

pub row_there : (placed : List Placed) (names : List (Option (Bor Symbol))) (symbols : List FileSymbol) (atom : Atom) (at : ℕ) (list : List Placed) (p : Placed) (name : Option (Bor Symbol)) → AreOnce placed → StandsAt atom_of placed atom.key at → list ≡ placed → name ≡ get_or names at name → AreNames (first_name symbols) placed names → Some (record { atom = atom; address = (get_or list at p).address; name = name_held name }) ≡ row_of placed symbols atom
unfolding row_of
row_there placed names symbols atom at list p name once stands same is are =
    let row : ℕ → Option (List ℕ) → MapRow = λ a n. record { atom = atom; address = a; name = n } in
    ap (λ (l : List Placed). Some (row (get_or l at p).address (name_held name))) same
    ∙ ap (λ (n : Option (Bor Symbol)). Some (row (get_or placed at p).address (name_held n))) is
    ∙ ap (λ (n : Option (List ℕ)). Some (row (get_or placed at p).address n)) (table_at name_held (first_name symbols) placed names atom.key at name stands are p)
    ∙ ap (option_map (λ (a : ℕ). row a (first_name symbols atom.key))) (stands_address placed atom.key at p once stands)

pub row_none : (placed : List Placed) (symbols : List FileSymbol) (atom : Atom) → AreOnce placed → All (λ (p : Placed). p.atom ≢ atom.key) placed → None ≡ row_of placed symbols atom
unfolding row_of
row_none placed symbols atom once none =
    ap (option_map (λ (a : ℕ). record { atom = atom; address = a; name = first_name symbols atom.key })) (no_address placed atom.key once none)

-- ---- the map

pub map_is : (read placed : List Placed) (listed atoms : List Atom) (loaded files : List LoadedFile) (names : List (Option (Bor Symbol))) (gathered rows lent : List MapRow) (text bytes : List ℕ) → read ≡ placed → loaded ≡ files → listed ≡ atoms → AreNames (first_name (symbols_of loaded)) read names → ((symbols : List FileSymbol) → AreNames (first_name symbols) read names → gathered ≡ rows_of read symbols listed) → IsPermutation gathered rows → IsSorted compare_rows rows → lent ≡ rows → text ≡ flat_map (line_of loaded) lent → bytes ≡ text → IsMap placed atoms files bytes
map_is read placed listed atoms loaded files names gathered rows lent text bytes same_placed same_files same_atoms are gives moved sorted lends spells ends = record {
  rows = rows;
  same = subst (λ (g : List MapRow). IsPermutation g rows)
      (gives (symbols_of loaded) are
      ∙ ap (λ (p : List Placed). rows_of p (symbols_of loaded) listed) same_placed
      ∙ ap (λ (l : List LoadedFile). rows_of placed (symbols_of l) listed) same_files
      ∙ ap (rows_of placed (symbols_of files)) same_atoms)
      moved;
  sorted = sorted;
  lines = ends ∙ spells ∙ ap (λ (l : List LoadedFile). flat_map (line_of l) lent) same_files ∙ ap (flat_map (line_of files)) lends;
}
