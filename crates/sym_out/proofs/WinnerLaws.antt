-- A winner is the symbol of its file that its word tells.
use Rattle.std.proofs.Common.{◌≡◌, ℕ, ◌%◌, ◌^◌, ◌<◌, ◌==◌, Bool, true, false, List, length, get_or, refl, sym, ap, subst, ◌∙◌, arith, Option, Some, None, slice_get}
use Rattle.std.specs.List.{AllPairs, Contains, enumerate_from}
use Rattle.std.specs.Option.{option_and_then, option_map}
use Rattle.std.specs.Ordering.{is_eq, nat_cmp, ordering_reverse}
use Rattle.std.specs.Cmp.Lexicographic.{slice_cmp}
use Rattle.std.specs.Str.{bytes_eq}
use Rattle.std.specs.declared.cmp.Ordering.TheVariants.{Less}
use Rattle.std.proofs.lemmas.Cmp.{nat_list_cmp_total, tied_itself}
use Rattle.std.proofs.lemmas.List.{get_or_default}
use Rattle.std.proofs.lemmas.Map.Text.{is_eq-slice_cmp}
use Rattle.std.proofs.lemmas.Option.{slice_get-get_or}
use Rattle.std.proofs.lemmas.Slice.Eq.{bytes_eq-Decides}
use Rattle.command_line.specs.declared.command.Command.{Command}
use Rattle.list_lemmas.proofs.Members.{Contains_from_in, In, all_in, find_some, from_filter, from_filter_map, from_flat}
use Rattle.mo_types.proofs.KeyOrder.{compare_files_total}
use Rattle.mo_types.specs.Candidates.{is_candidate, least, word_of}
use Rattle.mo_types.specs.Keys.{compare_files}
use Rattle.mo_types.specs.Loaded.{IsBefore, IsWholeLoaded}
use Rattle.mo_types.specs.Rows.{when}
use Rattle.mo_types.specs.declared.loaded.Loaded.{Loaded}
use Rattle.mo_types.specs.declared.loaded.LoadedFile.{LoadedFile}
use Rattle.mo_types.specs.declared.object.Symbol.{Symbol}
use Rattle.symbol_winners.proofs.CandidateLemmas.{each_found}
use Rattle.symbol_winners.proofs.NamedLemmas.{candidate_external}
use Rattle.symbol_winners.specs.Found.{FileCandidate, found, found_at, found_for, found_in}
use Rattle.symbol_winners.specs.Places.{place_of}
use Rattle.symbol_winners.specs.SymbolTable.{IsSymbolTable, SymbolTable}
use Rattle.symbol_winners.specs.Winners.{found_word, winner_from, winner_named, winner_of, winning}
use Rattle.symbol_winners.specs.declared.winner.Winner.{Winner}
use Rattle.symbol_winners.specs.inner.Best.{IsCandidateOf}
use Rattle.sym_out.specs.Files.{FileSymbol, file_of}
use Rattle.sym_out.specs.Laws.{IsItsSymbol}
use Rattle.sym_out.specs.Symbols.{winning_symbol}
use Rattle.sym_out.proofs.Filed.{nothing}
use Rattle.sym_out.proofs.Sought.{file_found, find_first}

-- ---- the winner of its own name

itself : (winners : List Winner) (i : ℕ) (d : Winner) → AllPairs (λ a b. slice_cmp nat_cmp a.name b.name ≡ Less) winners → i < length winners → winner_named winners (get_or winners i d).name ≡ Some (get_or winners i d)
itself winners i d rising low = find_first (λ w. bytes_eq (get_or winners i d).name w.name) winners i d low hit before
  where
    name : List ℕ
    name = (get_or winners i d).name

    hit : bytes_eq name name ≡ true
    hit = sym (is_eq-slice_cmp name name) ∙ ap is_eq (tied_itself nat_list_cmp_total name)

    before : (j : ℕ) → j < i → bytes_eq name (get_or winners j d).name ≡ false
    before j less =
        sym (is_eq-slice_cmp name (get_or winners j d).name)
        ∙ ap is_eq (nat_list_cmp_total.antisymm name (get_or winners j d).name ∙ ap ordering_reverse (rising j i d less low))

-- ---- what an answer comes from

then_from : {X Y : Type 0} (f : X → Option Y) (o : Option X) (y : Y) → option_and_then f o ≡ Some y → (x : X) × (o ≡ Some x) × (f x ≡ Some y)
then_from f None y e = absurd cc
then_from f (Some x) y e = (x, refl, e)

map_from : {X Y : Type 0} (f : X → Y) (o : Option X) (y : Y) → option_map f o ≡ Some y → (x : X) × (o ≡ Some x) × (f x ≡ y)
map_from f None y e = absurd cc
map_from f (Some x) y e = (x, refl, cc)

when_from : {X : Type 0} (b : Bool) (x y : X) → when b x ≡ Some y → x ≡ y
when_from true x y e = cc
when_from false x y e = absurd cc

-- ---- a candidate of a file

index_told : (file : LoadedFile) (index : ℕ) (symbol : Symbol) → index < 2 ^ 24 → word_of file.id index symbol % 2 ^ 24 ≡ index
unfolding word_of
index_told file index symbol low = omega (arith, low)

file_there : (files : List LoadedFile) (file : LoadedFile) → AllPairs (λ a b. IsBefore a.id b.id) files → In file files → file_of files file.id ≡ Some file
unfolding file_of
file_there files file rises among =
    let stands : Contains files file = Contains_from_in files file among in
    let at : ℕ = stands.0 in
    let same : (d : LoadedFile) → get_or files at d ≡ file = λ d. get_or_default files at d file stands.1 ∙ stands.2 in
    sym (file_found files file.id at file rises stands.1 (λ d. ap (λ (f : LoadedFile). compare_files f.id file.id) (same d) ∙ tied_itself compare_files_total file.id))
    ∙ ap Some (same file)

symbol_told : (files : List LoadedFile) (f : FileCandidate) (winner : Winner) → AllPairs (λ a b. IsBefore a.id b.id) files → In f.file files → IsCandidateOf f → winner.file ≡ f.file.id → winner.word ≡ found_word f → winning_symbol files winner ≡ Some (record { file = f.file; index = f.index; symbol = f.symbol })
unfolding winning_symbol
symbol_told files f winner rises among is of_file of_word =
    let low : f.index < 2 ^ 24 = omega (arith, is.index, is.whole.few_symbols) in
    let told : winner.word % 2 ^ 24 ≡ f.index = ap (λ (w : ℕ). w % 2 ^ 24) of_word ∙ index_told f.file f.index f.symbol low in
    let there : slice_get f.file.object.symbols f.index ≡ Some f.symbol = slice_get-get_or f.file.object.symbols f.index nothing is.index ∙ ap Some (is.there nothing) in
    let answer : ℕ → Option LoadedFile → Option FileSymbol = λ i o. option_and_then (λ file. option_map (λ symbol. record { file = file; index = i; symbol = symbol }) (slice_get file.object.symbols i)) o in
    ap (λ (i : ℕ). answer i (file_of files winner.file)) told
    ∙ ap (answer f.index) (ap (file_of files) of_file ∙ file_there files f.file rises among)
    ∙ ap (option_map (λ (symbol : Symbol). record { file = f.file; index = f.index; symbol = symbol })) there

-- ---- a winner

winner_is : (command : Command) (loaded : Loaded) (name : List ℕ) (winner : Winner) → IsWholeLoaded loaded → winner_of command loaded.files name ≡ Some winner → IsItsSymbol loaded.files winner
unfolding winner_of winning found_for found found_in found_at
winner_is command loaded name winner whole e =
    let files = loaded.files in
    let one = then_from (winner_from command (found_for files name)) (winning files name) winner e in
    let f : FileCandidate = one.0 in
    let among = (find_some (λ (g : FileCandidate). found_word g == least files name) (found_for files name) f one.1).0 in
    let chosen = from_filter (λ (g : FileCandidate). bytes_eq name g.symbol.name) (found files) f among in
    let of = from_flat found_in files f chosen.0 in
    let p = from_filter_map (found_at of.0) (enumerate_from 0 of.0.object.symbols) f of.2 in
    let same = when_from (is_candidate of.0.object.sections p.0.1) _ f p.2 in
    let file : of.0 ≡ f.file = ap (λ (g : FileCandidate). g.file) same in
    let is : IsCandidateOf f = all_in IsCandidateOf (found files) f (each_found files whole.files) chosen.0 in
    let place = map_from _ (place_of f.file f.index f.symbol.kind) winner one.2 in
    let in_file : In f.file files = subst (λ (g : LoadedFile). In g files) file of.1 in
    let of_name : name ≡ f.symbol.name = (bytes_eq-Decides name f.symbol.name).0 chosen.1 in
    record {
      symbol = record { file = f.file; index = f.index; symbol = f.symbol };
      told = symbol_told files f winner whole.rises in_file is (sym (ap (λ (w : Winner). w.file) place.2)) (sym (ap (λ (w : Winner). w.word) place.2));
      named = ap (λ (w : Winner). w.name) place.2;
      external = candidate_external f.file f.symbol is.candidate;
      word = ap (λ (w : Winner). w.word) place.2;
      stands_there = place.1 ∙ ap (λ (w : Winner). Some (record { atom = w.atom; offset = w.offset })) place.2;
    }

pub is_its_symbol : (command : Command) (loaded : Loaded) (symbols : SymbolTable) (i : ℕ) (d : Winner) → IsWholeLoaded loaded → IsSymbolTable command loaded.files symbols → i < length symbols.winners → IsItsSymbol loaded.files (get_or symbols.winners i d)
is_its_symbol command loaded symbols i d whole is low =
    let winner : Winner = get_or symbols.winners i d in
    winner_is command loaded winner.name winner whole
    (sym (is.winners.each winner.name) ∙ itself symbols.winners i d is.winners.rising low)
