-- The numbers of symbols stay right, as names are only added behind.
use Rattle.std.proofs.Common.{◌≡◌, ℕ, ◌+◌, ◌<◌, ◌≤◌, ◌^◌, Bool, true, false, eqb, nat_lt, not, min, List, [], ◌∷◌, ◌++◌, length, filter, map, take, get_or, slice_get, position, Some, Ok, refl, sym, ap, ap₂, subst, ◌∙◌, inl, inr, append_assoc, arith}
use Rattle.std.specs.List.{IsDistinct, position_or_len}
use Rattle.std.specs.Str.{bytes_eq}
use Rattle.std.proofs.lemmas.Bool.{lt-ltb, ne_eqb}
use Rattle.std.proofs.lemmas.List.{length-append, map-append, take_all, take_more}
use Rattle.std.proofs.lemmas.List.Folds.{prefix_len-append}
use Rattle.std.proofs.lemmas.Slice.Eq.{bytes_eq-Decides}
use Rattle.indexmap.specs.IndexSet.{insert_all, insert_key}
use Rattle.list_lemmas.proofs.Inserted.{behind, in_inserted}
use Rattle.list_lemmas.proofs.Members.{In, in_filter, in_flat, in_map}
use Rattle.mo_types.specs.declared.loaded.LoadedFile.{LoadedFile}
use Rattle.mo_types.specs.declared.object.Symbol.{Symbol}
use Rattle.name_ids.specs.Names.{added, external_names, external_of, limited, number_of, numbers_in, numbers_of}
use Rattle.name_ids.specs.inner.Staying.{AllStay, Stays}
use Rattle.name_ids.proofs.Gathering.{gathered_first, gathered_ok, gathered_then, limited_is, symbols_start, symbols_add, symbols_end, files_start, files_add, files_end}
use Rattle.name_ids.proofs.Once.{same_name, stands}

-- ---- a symbol

place_stays : (name : List ℕ) (names more : List (List ℕ)) (at : ℕ) → position_or_len (bytes_eq name) names ≡ at → at < length names → position_or_len (bytes_eq name) (names ++ more) ≡ at
place_stays name names more at is low =
    let apart : eqb (position_or_len (bytes_eq name) names) (length names) ≡ false = ne_eqb _ _ (λ e. omega (arith, e, is, low)) in
    prefix_len-append (λ x. not (bytes_eq name x)) names more ∙ (rw apart is)

number_external : (names : List (List ℕ)) (symbol : Symbol) (at : ℕ) → symbol.external ≡ true → position (bytes_eq symbol.name) names ≡ Some at → number_of names symbol ≡ at
unfolding number_of
number_external names symbol at external is = rw (external, is) refl

number_local : (names : List (List ℕ)) (symbol : Symbol) → symbol.external ≡ false → number_of names symbol ≡ 4294967295
unfolding number_of
number_local names symbol local = rw local refl

pub external_keys : (old new : List (List ℕ)) (symbol : Symbol) → symbol.external ≡ true → new ≡ insert_key bytes_eq old symbol.name → new ≡ insert_all bytes_eq old (external_of (symbol ∷ []))
unfolding external_of
external_keys old new symbol external is = rw external is

pub local_keys : (old new : List (List ℕ)) (symbol : Symbol) → symbol.external ≡ false → new ≡ old → new ≡ insert_all bytes_eq old (external_of (symbol ∷ []))
unfolding external_of
local_keys old new symbol local is = rw local is

pub external_stays : (names : List (List ℕ)) (symbol : Symbol) (at number : ℕ) (key : List ℕ) → symbol.external ≡ true → IsDistinct bytes_eq names → slice_get names at ≡ Some key → bytes_eq symbol.name key ≡ true → number ≡ min at 4294967295 → Stays number_of names symbol number
external_stays names symbol at number key external distinct stored same is = record {
  stays = λ more few.
      let there : (position_or_len (bytes_eq symbol.name) names ≡ at) × (at < length names) = stands names at symbol.name distinct (stored ∙ ap Some (sym (same_name symbol.name key same))) in
      let long : length (names ++ more) ≡ length names + length more = length-append names more in
      let low : at < length (names ++ more) = omega (arith, there.1, long) in
      let place : position_or_len (bytes_eq symbol.name) (names ++ more) ≡ at = place_stays symbol.name names more at there.0 there.1 in
      let within : nat_lt at (length (names ++ more)) ≡ true = lt-ltb at (length (names ++ more)) low in
      let found : position (bytes_eq symbol.name) (names ++ more) ≡ Some at = rw (place, within) refl in
      let small : number ≡ at = omega (arith, is, low, few) in
      small ∙ sym (number_external (names ++ more) symbol at external found);
}

pub local_stays : (names : List (List ℕ)) (symbol : Symbol) → symbol.external ≡ false → Stays number_of names symbol 4294967295
local_stays names symbol local = record { stays = λ more few. sym (number_local (names ++ more) symbol local) }

pub ruleset symbol = (external_keys, local_keys, external_stays, local_stays)

-- ---- the elements of a list, one by one

module _ {X Y : Type 0} (value : List (List ℕ) → X → Y) where
  still : (now new added : List (List ℕ)) (xs : List X) (ys : List Y) → AllStay value now xs ys → new ≡ insert_all bytes_eq now added → AllStay value new xs ys
  still now new added xs ys right is = record {
    stay = λ more few.
        let b : (rest : List (List ℕ)) × (insert_all bytes_eq now added ≡ now ++ rest) = behind bytes_eq same_name now added in
        let e : new ++ more ≡ now ++ (b.0 ++ more) = ap (λ (ks : List (List ℕ)). ks ++ more) (is ∙ b.1) ∙ append_assoc now b.0 more in
        right.stay (b.0 ++ more) (subst (λ (ks : List (List ℕ)). length ks < 2 ^ 24) e few) ∙ ap (λ (ks : List (List ℕ)). map (value ks) xs) (sym e);
  }

  joined : (names : List (List ℕ)) (xs : List X) (ys : List Y) (x : X) (y : Y) → AllStay value names xs ys → Stays value names x y → AllStay value names (xs ++ x ∷ []) (ys ++ y ∷ [])
  joined names xs ys x y right last = record {
    stay = λ more few.
        ap (λ (zs : List Y). zs ++ y ∷ []) (right.stay more few)
        ∙ ap (λ (z : Y). map (value (names ++ more)) xs ++ z ∷ []) (last.stays more few)
        ∙ sym (map-append (value (names ++ more)) xs (x ∷ []));
  }

  pub none_stay : (names : List (List ℕ)) (xs : List X) → AllStay value names (take 0 xs) []
  none_stay names xs = record { stay = λ more few. refl }

  pub one_more_stays : (now new added : List (List ℕ)) (xs : List X) (i : ℕ) (x : X) (ys : List Y) (y : Y) → AllStay value now (take i xs) ys → i < length xs → x ≡ get_or xs i x → new ≡ insert_all bytes_eq now added → Stays value new x y → AllStay value new (take (i + 1) xs) (ys ++ y ∷ [])
  one_more_stays now new added xs i x ys y right low is key last =
      let e : take (i + 1) xs ≡ take i xs ++ x ∷ [] = take_more xs i x low ∙ ap (λ (z : X). take i xs ++ z ∷ []) (sym is) in
      subst (λ (zs : List X). AllStay value new zs (ys ++ y ∷ [])) (sym e) (joined new (take i xs) ys x y (still now new added (take i xs) ys right key) last)

  pub all_stay : (names : List (List ℕ)) (xs : List X) (i : ℕ) (ys : List Y) → AllStay value names (take i xs) ys → length xs ≤ i → AllStay value names xs ys
  all_stay names xs i ys right past = subst (λ (zs : List X). AllStay value names zs ys) (take_all i xs past) right

-- ---- files

pub file_stays : (names : List (List ℕ)) (file : LoadedFile) (numbers : List ℕ) → AllStay number_of names file.object.symbols numbers → Stays numbers_in names file numbers
unfolding numbers_in
file_stays names file numbers right = record { stays = right.stay }

pub ruleset symbols = (symbols_start, symbols_add, symbols_end, none_stay, one_more_stays, all_stay)

pub ruleset files = (files_start, files_add, files_end, none_stay, one_more_stays, all_stay, file_stays)

pub files_are : (names all more : List (List ℕ)) (files : List LoadedFile) (lists : List (List ℕ)) → AllStay numbers_in names files lists → all ≡ insert_all bytes_eq names more → length all < 2 ^ 24 → lists ≡ numbers_of all files
unfolding numbers_of
files_are names all more files lists right is few =
    let b : (rest : List (List ℕ)) × (insert_all bytes_eq names more ≡ names ++ rest) = behind bytes_eq same_name names more in
    let e : all ≡ names ++ b.0 = is ∙ b.1 in
    right.stay b.0 (subst (λ (ks : List (List ℕ)). length ks < 2 ^ 24) e few) ∙ ap (λ (ks : List (List ℕ)). map (numbers_in ks) files) (sym e)

-- what a table that isn't too long holds is what it was made of
pub numbers_now : (keys names : List (List ℕ)) (files : List LoadedFile) (lists : List (List ℕ)) → AllStay numbers_in keys files lists → limited keys ≡ Ok names → lists ≡ numbers_of names files
numbers_now keys names files lists right is =
    let fits : (length keys < 2 ^ 24) × (keys ≡ names) = limited_is keys names is in
    files_are keys names [] files lists right (sym fits.1) (subst (λ (ks : List (List ℕ)). length ks < 2 ^ 24) fits.1 fits.0)

pub ruleset given = numbers_now

-- ---- files whose names are all there

found_low : (name : List ℕ) (names : List (List ℕ)) → In name names → position_or_len (bytes_eq name) names < length names
found_low name [] there = absurd there
found_low name (x ∷ xs) there = by (bytes_eq name x) refl (λ later. found_low name xs later)
  where
    by : (b : Bool) → bytes_eq name x ≡ b → (In name xs → position_or_len (bytes_eq name) xs < length xs) → position_or_len (bytes_eq name) (x ∷ xs) < length (x ∷ xs)
    by true e low = rw e (omega arith)
    by false e low = rw e (elim there [
      | inl same ↦ absurd (let t : true ≡ false = sym ((bytes_eq-Decides name x).1 (sym same)) ∙ e in cc)
      | inr later ↦ let rest : position_or_len (bytes_eq name) xs < length xs = low later in omega (arith, rest)
    ])

number_stays : (names more : List (List ℕ)) (symbol : Symbol) → (symbol.external ≡ true → In symbol.name names) → number_of (names ++ more) symbol ≡ number_of names symbol
number_stays names more symbol there = by symbol.external refl
  where
    by : (b : Bool) → symbol.external ≡ b → number_of (names ++ more) symbol ≡ number_of names symbol
    by false e = number_local (names ++ more) symbol e ∙ sym (number_local names symbol e)
    by true e =
        let at : ℕ = position_or_len (bytes_eq symbol.name) names in
        let low : at < length names = found_low symbol.name names (there e) in
        let place : position_or_len (bytes_eq symbol.name) (names ++ more) ≡ at = place_stays symbol.name names more at refl low in
        let here : position (bytes_eq symbol.name) names ≡ Some at = rw (lt-ltb at (length names) low) refl in
        let within : nat_lt at (length (names ++ more)) ≡ true = lt-ltb at (length (names ++ more)) (let n : length (names ++ more) ≡ length names + length more = length-append names more in omega (arith, low, n)) in
        let later : position (bytes_eq symbol.name) (names ++ more) ≡ Some at = rw (place, within) refl in
        number_external (names ++ more) symbol at e later ∙ sym (number_external names symbol at e here)

map_same : {X Y : Type 0} (f g : X → Y) (xs : List X) → ((x : X) → In x xs → f x ≡ g x) → map f xs ≡ map g xs
map_same f g [] same = refl
map_same f g (x ∷ xs) same = ap₂ (λ y ys. y ∷ ys) (same x (inl refl)) (map_same f g xs (λ y there. same y (inr there)))

-- an external symbol of a file among some has its name among theirs
pub name_there : (files : List LoadedFile) (file : LoadedFile) (symbol : Symbol) → In file files → In symbol file.object.symbols → symbol.external ≡ true → In symbol.name (external_names files)
unfolding external_names external_of
name_there files file symbol there its external =
    in_flat (λ (f : LoadedFile). external_of f.object.symbols) files file symbol.name there
    (in_map (λ (s : Symbol). s.name) (filter (λ (s : Symbol). s.external) file.object.symbols) symbol (in_filter (λ (s : Symbol). s.external) file.object.symbols symbol its external))

pub numbers_stay : (names more : List (List ℕ)) (files : List LoadedFile) → ((name : List ℕ) → In name (external_names files) → In name names) → numbers_of (names ++ more) files ≡ numbers_of names files
unfolding numbers_of numbers_in
numbers_stay names more files there =
    map_same (numbers_in (names ++ more)) (numbers_in names) files (λ file in_files.
    map_same (number_of (names ++ more)) (number_of names) file.object.symbols (λ symbol in_file.
    number_stays names more symbol (λ external. there symbol.name (name_there files file symbol in_files in_file external))))

pub all_stay_numbered : (files : List LoadedFile) (extra first all : List (List ℕ)) (lists : List (List ℕ)) → lists ≡ numbers_of first files → limited (added [] (external_names files)) ≡ Ok first → limited (added first extra) ≡ Ok all → lists ≡ numbers_of all files
all_stay_numbered files extra first all lists right one two =
    let b : (rest : List (List ℕ)) × (insert_all bytes_eq first extra ≡ first ++ rest) = behind bytes_eq same_name first extra in
    let whole : all ≡ first ++ b.0 = sym (limited_is (added first extra) all two).1 ∙ b.1 in
    right ∙ sym (numbers_stay first b.0 files (λ name there. all_inserted files first one name there)) ∙ ap (λ (ks : List (List ℕ)). numbers_of ks files) (sym whole)
  where
    all_inserted : (files : List LoadedFile) (first : List (List ℕ)) → limited (added [] (external_names files)) ≡ Ok first → (name : List ℕ) → In name (external_names files) → In name first
    all_inserted files first one name there = subst (λ (ks : List (List ℕ)). In name ks) (limited_is (added [] (external_names files)) first one).1 (in_inserted bytes_eq same_name [] (external_names files) name there)

pub ruleset gather = (gathered_ok, gathered_first, gathered_then, all_stay_numbered)
