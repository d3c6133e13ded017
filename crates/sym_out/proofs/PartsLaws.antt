-- The parts of an image that have its symbols are one.
use Rattle.std.proofs.Common.{◌≡◌, ℕ, ◌+◌, ◌%◌, ◌^◌, ◌<◌, ◌++◌, Bool, true, false, List, length, map, get_or, refl, sym, ap, subst, ◌∙◌, inl, inr, arith, Option, Some, None, slice_get, if◌then◌else◌}
use Rattle.std.specs.List.{AllPairs, Contains, enumerate_from, filter_map}
use Rattle.std.specs.Option.{option_and_then, option_map}
use Rattle.std.specs.Ordering.{is_eq, nat_cmp}
use Rattle.std.specs.declared.cmp.Ordering.TheVariants.{Equal}
use Rattle.std.proofs.lemmas.Cmp.{tied_itself}
use Rattle.std.proofs.lemmas.List.{get_or_default}
use Rattle.std.proofs.lemmas.List.FromFn.{get_or-enumerate_from, length-enumerate_from}
use Rattle.std.proofs.lemmas.Option.{slice_get-get_or}
use Rattle.atom_index.proofs.Keys.{same_key}
use Rattle.command_line.specs.declared.command.Command.{Command}
use Rattle.list_lemmas.proofs.Members.{Contains_from_in, In, find_some, from_filter_map, from_flat, from_map, in_either, in_from_Contains}
use Rattle.list_lemmas.proofs.Ties.{same_number, tied_first, tied_second}
use Rattle.mo_types.proofs.KeyOrder.{compare_files_total}
use Rattle.mo_types.specs.Keys.{compare_files, compare_keys}
use Rattle.mo_types.specs.Loaded.{IsBefore, IsWholeLoaded}
use Rattle.mo_types.specs.declared.goal.Goal.{Goal}
use Rattle.mo_types.specs.declared.key.AtomKey.{AtomKey}
use Rattle.mo_types.specs.declared.key.FileId.{FileId}
use Rattle.mo_types.specs.declared.loaded.Loaded.{Loaded}
use Rattle.mo_types.specs.declared.loaded.LoadedFile.{LoadedFile}
use Rattle.mo_types.specs.declared.object.Symbol.{Symbol}
use Rattle.sect_place.specs.Addresses.{address_in}
use Rattle.sect_place.specs.declared.layout.Layout.{Layout}
use Rattle.slot_plan.specs.declared.list.Slots.{Slots}
use Rattle.symbol_winners.specs.SymbolTable.{IsSymbolTable, SymbolTable}
use Rattle.symbol_winners.specs.Winners.{is_own}
use Rattle.symbol_winners.specs.declared.places.Place.{Place}
use Rattle.symbol_winners.specs.declared.winner.Winner.{Winner}
use Rattle.sym_out.specs.Entries.{Entry}
use Rattle.sym_out.specs.Files.{FileSymbol, file_of, stands, symbol_of, symbols_in, symbols_of}
use Rattle.sym_out.specs.Laws.{IsItsSymbol}
use Rattle.sym_out.specs.Sites.{Site, section_number, site_of}
use Rattle.sym_out.specs.Symbols.{AreRanges, AreSymbolParts, Local, Ranges, compare_locals, compare_symbols, compare_there, hidden_local, local_at, local_entry, locals_of, own_local, parts_of, winner_place, winning_symbol}
use Rattle.sym_out.specs.declared.parts.SymbolParts.{SymbolParts}
use Rattle.sym_out.proofs.OneOrder.{one_order}
use Rattle.sym_out.proofs.Orders.{compare_locals_total}
use Rattle.sym_out.proofs.Sought.{file_found}
use Rattle.sym_out.proofs.WinnerLaws.{is_its_symbol}

-- a symbol of one of some files
record IsOf (files : List LoadedFile) (s : FileSymbol) : Type 0 where
  of_file : In s.file files
  there : slice_get s.file.object.symbols s.index ≡ Some s.symbol

-- a local symbol stands where its symbol does, in an atom that is placed
record IsStanding (layout : Layout) (files : List LoadedFile) (l : Local) : Type 0 where
  of : IsOf files l.symbol
  place : Place
  stands_there : stands l.symbol ≡ Some place
  offset : l.offset ≡ place.offset
  sited : site_of layout l.site.atom ≡ Some l.site

-- ---- symbols of files

symbol_there : (symbols : List Symbol) (p : ℕ × Symbol) → In p (enumerate_from 0 symbols) → slice_get symbols p.0 ≡ Some p.1
symbol_there symbols p among =
    let stands : Contains (enumerate_from 0 symbols) p = Contains_from_in (enumerate_from 0 symbols) p among in
    let at : ℕ = stands.0 in
    let low : at < length symbols = (let size = length-enumerate_from 0 symbols in omega (arith, stands.1, size)) in
    let is : (0 + at, get_or symbols at p.1) ≡ p = sym (get_or-enumerate_from 0 symbols at p low) ∙ stands.2 in
    let index : at ≡ p.0 = (let zero_more : 0 + at ≡ at = omega arith in sym zero_more ∙ ap (λ (q : ℕ × Symbol). q.0) is) in
    let symbol : get_or symbols at p.1 ≡ p.1 = ap (λ (q : ℕ × Symbol). q.1) is in
    ap (slice_get symbols) (sym index) ∙ slice_get-get_or symbols at p.1 low ∙ ap Some symbol

is_of : (files : List LoadedFile) (s : FileSymbol) → In s (symbols_of files) → IsOf files s
unfolding symbols_of symbols_in
is_of files s among =
    let file = from_flat symbols_in files s among in
    let p = from_map (symbol_of file.0) (enumerate_from 0 file.0.object.symbols) s file.2 in
    subst (IsOf files) p.2 (record { of_file = file.1; there = symbol_there file.0.object.symbols p.0 p.1 })

-- ---- files are told by their ids

found : (files : List LoadedFile) (file : LoadedFile) (id : FileId) → AllPairs (λ a b. IsBefore a.id b.id) files → In file files → compare_files file.id id ≡ Equal → file_of files id ≡ Some file
unfolding file_of
found files file id rises among tied =
    let stands_at : Contains files file = Contains_from_in files file among in
    let same : (d : LoadedFile) → get_or files stands_at.0 d ≡ file = λ d. get_or_default files stands_at.0 d file stands_at.1 ∙ stands_at.2 in
    sym (file_found files id stands_at.0 file rises stands_at.1 (λ d. ap (λ (f : LoadedFile). compare_files f.id id) (same d) ∙ tied))
    ∙ ap Some (same file)

same_file : (files : List LoadedFile) (a b : LoadedFile) → AllPairs (λ a b. IsBefore a.id b.id) files → In a files → In b files → compare_files a.id b.id ≡ Equal → a ≡ b
same_file files a b rises among_a among_b tied =
    let one : file_of files b.id ≡ Some a = found files a b.id rises among_a tied in
    let two : file_of files b.id ≡ Some b = found files b b.id rises among_b (tied_itself compare_files_total b.id) in
    let both : Some a ≡ Some b = sym one ∙ two in cc

same_symbol : (files : List LoadedFile) (s t : FileSymbol) → AllPairs (λ a b. IsBefore a.id b.id) files → IsOf files s → IsOf files t → compare_symbols s t ≡ Equal → s ≡ t
same_symbol files s t rises one two tied =
    let file : s.file ≡ t.file = same_file files s.file t.file rises one.of_file two.of_file (tied_first (compare_files s.file.id t.file.id) (nat_cmp s.index t.index) tied) in
    let index : s.index ≡ t.index = same_number s.index t.index (tied_second (compare_files s.file.id t.file.id) (nat_cmp s.index t.index) tied) in
    let both : Some s.symbol ≡ Some t.symbol = sym one.there ∙ ap (λ (f : LoadedFile). slice_get f.object.symbols s.index) file ∙ ap (slice_get t.file.object.symbols) index ∙ two.there in
    let symbol : s.symbol ≡ t.symbol = cc in
    ap (λ (f : LoadedFile). let r : FileSymbol = record { file = f; index = s.index; symbol = s.symbol } in r) file
    ∙ ap (λ (n : ℕ). let r : FileSymbol = record { file = t.file; index = n; symbol = s.symbol } in r) index
    ∙ ap (λ (x : Symbol). let r : FileSymbol = record { file = t.file; index = t.index; symbol = x } in r) symbol

-- ---- local symbols stand where their symbols do

and_then_from : {X Y : Type 0} (f : X → Option Y) (o : Option X) (y : Y) → option_and_then f o ≡ Some y → (x : X) × (o ≡ Some x) × (f x ≡ Some y)
and_then_from f None y e = absurd cc
and_then_from f (Some x) y e = (x, refl, e)

mapped_from : {X Y : Type 0} (f : X → Y) (o : Option X) (y : Y) → option_map f o ≡ Some y → (x : X) × (o ≡ Some x) × (f x ≡ y)
mapped_from f None y e = absurd cc
mapped_from f (Some x) y e = (x, refl, cc)

unless_from : {Y : Type 0} (b : Bool) (o : Option Y) (y : Y) → (if b then None else o) ≡ Some y → o ≡ Some y
unless_from true o y e = absurd cc
unless_from false o y e = e

atom_told : (layout : Layout) (atom : AtomKey) (site : Site) → site_of layout atom ≡ Some site → site.atom ≡ atom
unfolding site_of
atom_told layout atom site e =
    let p = mapped_from (λ (address : ℕ). let s : Site = record { atom = atom; address = address; section = section_number layout.sections atom } in s) (address_in layout.placed atom) site e in
    ap (λ (s : Site). s.atom) (sym p.2)

sited_itself : (layout : Layout) (atom : AtomKey) (site : Site) → site_of layout atom ≡ Some site → site_of layout site.atom ≡ Some site
sited_itself layout atom site e = ap (site_of layout) (atom_told layout atom site e) ∙ e

-- what is made of a symbol at a place
record IsMadeAt (layout : Layout) (s : FileSymbol) (place : Place) (l : Local) : Type 0 where
  symbol : s ≡ l.symbol
  offset : l.offset ≡ place.offset
  sited : site_of layout l.site.atom ≡ Some l.site

made_at : (layout : Layout) (s : FileSymbol) (place : Place) (l : Local) → local_at layout s place ≡ Some l → IsMadeAt layout s place l
unfolding local_at
made_at layout s place l e =
    let make : Site → Local = λ site. record { symbol = s; site = site; offset = place.offset } in
    let placed : option_map make (site_of layout place.atom) ≡ Some l = unless_from (is_own s.symbol.name) (option_map make (site_of layout place.atom)) l e in
    let p = mapped_from make (site_of layout place.atom) l placed in
    record {
      symbol = ap (λ (m : Local). m.symbol) p.2;
      offset = ap (λ (m : Local). m.offset) (sym p.2);
      sited =
          ap (λ (m : Local). site_of layout m.site.atom) (sym p.2)
          ∙ sited_itself layout place.atom p.0 p.1
          ∙ ap (λ (m : Local). Some m.site) p.2;
    }

own_stands : (layout : Layout) (files : List LoadedFile) (s : FileSymbol) (l : Local) → In s (symbols_of files) → own_local layout s ≡ Some l → IsStanding layout files l
unfolding own_local
own_stands layout files s l among e =
    let there : option_and_then (local_at layout s) (stands s) ≡ Some l = unless_from s.symbol.external (option_and_then (local_at layout s) (stands s)) l e in
    let p = and_then_from (local_at layout s) (stands s) l there in
    let made = made_at layout s p.0 l p.2 in
    record {
      of = subst (IsOf files) made.symbol (is_of files s among);
      place = p.0;
      stands_there = ap stands (sym made.symbol) ∙ p.1;
      offset = made.offset;
      sited = made.sited;
    }

winning_is_of : (files : List LoadedFile) (winner : Winner) (s : FileSymbol) → winning_symbol files winner ≡ Some s → IsOf files s
unfolding winning_symbol file_of
winning_is_of files winner s e =
    let index : ℕ = winner.word % 2 ^ 24 in
    let p = and_then_from _ (file_of files winner.file) s e in
    let q = mapped_from _ (slice_get p.0.object.symbols index) s p.2 in
    subst (IsOf files) q.2 (record {
      of_file = (find_some (λ (file : LoadedFile). is_eq (compare_files file.id winner.file)) files p.0 p.1).0;
      there = q.1;
    })

hidden_stands : (layout : Layout) (symbols : SymbolTable) (files : List LoadedFile) (winner : Winner) (l : Local) → IsItsSymbol files winner → hidden_local layout symbols files winner ≡ Some l → IsStanding layout files l
unfolding hidden_local
hidden_stands layout symbols files winner l its e =
    let place : Place = winner_place symbols.literals winner in
    let at : FileSymbol → Option Local = λ s. local_at layout s place in
    let there : option_and_then at (winning_symbol files winner) ≡ Some l = unless_from winner.exported (option_and_then at (winning_symbol files winner)) l e in
    let p = and_then_from at (winning_symbol files winner) l there in
    let made = made_at layout p.0 place l p.2 in
    let both : Some p.0 ≡ Some its.symbol = sym p.1 ∙ its.told in
    let same : l.symbol ≡ its.symbol = (let first : p.0 ≡ its.symbol = cc in sym made.symbol ∙ first) in
    record {
      of = subst (IsOf files) made.symbol (winning_is_of files winner p.0 p.1);
      place = record { atom = winner.atom; offset = winner.offset };
      stands_there = ap stands same ∙ its.stands_there;
      offset = made.offset;
      sited = made.sited;
    }

local_stands : (command : Command) (loaded : Loaded) (layout : Layout) (symbols : SymbolTable) (l : Local) → IsWholeLoaded loaded → IsSymbolTable command loaded.files symbols → Contains (locals_of layout symbols loaded.files) l → IsStanding layout loaded.files l
unfolding locals_of
local_stands command loaded layout symbols l whole is there =
    let files : List LoadedFile = loaded.files in
    let own : List Local = filter_map (own_local layout) (symbols_of files) in
    let hidden : List Local = filter_map (hidden_local layout symbols files) symbols.winners in
    elim (in_either own hidden l (in_from_Contains (own ++ hidden) l there)) [
      | inl one ↦ (let p = from_filter_map (own_local layout) (symbols_of files) l one in own_stands layout files p.0 l p.1 p.2)
      | inr one ↦
          (let p = from_filter_map (hidden_local layout symbols files) symbols.winners l one in
          let stands_at : Contains symbols.winners p.0 = Contains_from_in symbols.winners p.0 p.1 in
          let its : IsItsSymbol files p.0 = subst (IsItsSymbol files) stands_at.2 (is_its_symbol command loaded symbols stands_at.0 p.0 whole is stands_at.1) in
          hidden_stands layout symbols files p.0 l its p.2)
    ]

-- ---- local symbols that tie are one

local_one : (layout : Layout) (files : List LoadedFile) (a b : Local) → AllPairs (λ a b. IsBefore a.id b.id) files → IsStanding layout files a → IsStanding layout files b → compare_locals a b ≡ Equal → a ≡ b
local_one layout files a b rises one two tied =
    let there : compare_there a b ≡ Equal = tied_second (nat_cmp a.site.address b.site.address) (compare_there a b) tied in
    let atom : a.site.atom ≡ b.site.atom = same_key a.site.atom b.site.atom (tied_first (compare_keys a.site.atom b.site.atom) (compare_symbols a.symbol b.symbol) there) in
    let symbol : a.symbol ≡ b.symbol = same_symbol files a.symbol b.symbol rises one.of two.of (tied_second (compare_keys a.site.atom b.site.atom) (compare_symbols a.symbol b.symbol) there) in
    let sites : Some a.site ≡ Some b.site = sym one.sited ∙ ap (site_of layout) atom ∙ two.sited in
    let site : a.site ≡ b.site = cc in
    let places : Some one.place ≡ Some two.place = sym one.stands_there ∙ ap stands symbol ∙ two.stands_there in
    let place : one.place ≡ two.place = cc in
    let offset : a.offset ≡ b.offset = one.offset ∙ ap (λ (p : Place). p.offset) place ∙ sym two.offset in
    ap (λ (s : FileSymbol). let l : Local = record { symbol = s; site = a.site; offset = a.offset } in l) symbol
    ∙ ap (λ (s : Site). let l : Local = record { symbol = b.symbol; site = s; offset = a.offset } in l) site
    ∙ ap (λ (n : ℕ). let l : Local = record { symbol = b.symbol; site = b.site; offset = n } in l) offset

-- ---- the parts

ranges_one : (command : Command) (loaded : Loaded) (layout : Layout) (bound : List Goal) (symbols : SymbolTable) (ranges other : Ranges) → IsWholeLoaded loaded → IsSymbolTable command loaded.files symbols → AreRanges layout bound symbols loaded.files ranges → AreRanges layout bound symbols loaded.files other → ranges ≡ other
ranges_one command loaded layout bound symbols ranges other whole is one two =
    let all : List Local = locals_of layout symbols loaded.files in
    let same : one.locals ≡ two.locals =
    one_order compare_locals_total all one.locals two.locals one.same two.same one.sorted two.sorted
    (λ x y p q tied. local_one layout loaded.files x y whole.rises (local_stands command loaded layout symbols x whole is p) (local_stands command loaded layout symbols y whole is q) tied) in
    let locals : ranges.locals ≡ other.locals = one.local_ones ∙ ap (map local_entry) same ∙ sym two.local_ones in
    let exported : ranges.exported ≡ other.exported = one.seen ∙ sym two.seen in
    let undefined : ranges.undefined ≡ other.undefined = one.wanted ∙ sym two.wanted in
    ap (λ (es : List Entry). let r : Ranges = record { locals = es; exported = ranges.exported; undefined = ranges.undefined } in r) locals
    ∙ ap (λ (es : List Entry). let r : Ranges = record { locals = other.locals; exported = es; undefined = ranges.undefined } in r) exported
    ∙ ap (λ (es : List Entry). let r : Ranges = record { locals = other.locals; exported = other.exported; undefined = es } in r) undefined

pub parts_one : (command : Command) (loaded : Loaded) (layout : Layout) (slots : Slots) (bound : List Goal) (symbols : SymbolTable) (parts other : SymbolParts) → IsWholeLoaded loaded → IsSymbolTable command loaded.files symbols → AreSymbolParts layout slots bound symbols loaded.files parts → AreSymbolParts layout slots bound symbols loaded.files other → parts ≡ other
parts_one command loaded layout slots bound symbols parts other whole is one two =
    one.written ∙ ap (parts_of slots) (ranges_one command loaded layout bound symbols one.ranges two.ranges whole is one.ranged two.ranged) ∙ sym two.written
