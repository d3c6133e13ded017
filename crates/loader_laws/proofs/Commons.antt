-- The atom of a common symbol is that of one winner, and is kept as such.
use Rattle.std.proofs.Common.{◌≡◌, ℕ, ◌+◌, ◌==◌, ◌&&◌, Bool, true, false, List, find, Option, Some, None, refl, sym, ap, ◌∙◌, arith}
use Rattle.std.specs.Prelude.{slice_get}
use Rattle.std.specs.List.{filter}
use Rattle.std.specs.Option.{option_map}
use Rattle.std.specs.Ordering.{is_eq}
use Rattle.std.specs.Str.{bytes_eq}
use Rattle.std.proofs.lemmas.Bool.{eq-eqb, false≢true}
use Rattle.std.proofs.lemmas.Cmp.{tied_itself}
use Rattle.std.proofs.lemmas.Option.{slice_get_within}
use Rattle.std.proofs.lemmas.Slice.Eq.{bytes_eq-Decides}
use Rattle.list_lemmas.proofs.Members.{In, find_none, find_some, in_filter, in_filter_map}
use Rattle.mo_types.specs.Candidates.{is_common}
use Rattle.mo_types.specs.Keys.{compare_files, compare_keys}
use Rattle.mo_types.specs.Loaded.{IsWholeFile}
use Rattle.mo_types.specs.RelocationRules.{section_numbered}
use Rattle.mo_types.specs.Whole.{IsWhole, is_dropped}
use Rattle.mo_types.proofs.KeyOrder.{compare_files_total}
use Rattle.mo_types.specs.declared.atom.Atom.{Atom}
use Rattle.mo_types.specs.declared.key.AtomKey.{AtomKey}
use Rattle.mo_types.specs.declared.key.FileId.{FileId}
use Rattle.mo_types.specs.declared.key.TheConstants.{COMMON_SECTION}
use Rattle.mo_types.specs.declared.loaded.LoadedFile.{LoadedFile}
use Rattle.mo_types.specs.declared.object.Section.{Section}
use Rattle.mo_types.specs.declared.object.Symbol.{Symbol}
use Rattle.mo_types.specs.declared.object.SymbolKind.{SymbolKind}
use Rattle.mo_types.specs.declared.object.SymbolKind.TheVariants.{Defined, Common}
use Rattle.command_line.specs.declared.command.Command.{Command}
use Rattle.symbol_winners.specs.Places.{place_at, place_in, place_of}
use Rattle.symbol_winners.specs.Winners.{AreWinners, winner_of}
use Rattle.symbol_winners.specs.declared.places.Place.{Place}
use Rattle.symbol_winners.specs.declared.winner.Winner.{Winner}
use Rattle.image_make.specs.Atoms.{common_at, common_of, commons_in, is_common_of}
use Rattle.image_laws.proofs.Loading.{from_all}
use Rattle.link_files.specs.Linked.{AreOrdered}
use Rattle.link_files.proofs.Cuts.{at_place, key_at}
use Rattle.link_files.proofs.Lists.{from_then, no_some, not_none, some_is}
use Rattle.link_files.proofs.WinnerPlaces.{IsWinnerIn, own_winner, winner_there}
use Rattle.loader_laws.specs.LinkOf.{IsCommon}
use Rattle.loader_laws.specs.Tellings.{AreWhole}
use Rattle.loader_laws.proofs.Finding.{key_found, key_itself, one_file}

-- ---- no section has the number of common symbols

pub no_section : (file : LoadedFile) (number : ℕ) → IsWhole file.object → number ≡ COMMON_SECTION → section_numbered file.object.sections number ≡ None
no_section file number whole is = by (section_numbered file.object.sections number) refl
  where
    by : (o : Option Section) → section_numbered file.object.sections number ≡ o → o ≡ None
    by None e = refl
    by (Some section) e =
        let place = at_place file.object.sections number section e in
        let within = slice_get_within file.object.sections place.0 section place.2 in
        let few = whole.few_sections in
        let at : 1 + place.0 ≡ number = place.1 in
        absurd (omega (arith, at, within, few, is))

-- a symbol whose place has this number is a common one, whose index is the place's offset
pub record IsCommonAt (file : LoadedFile) (index : ℕ) (kind : SymbolKind) (place : Place) : Type 0 where
  pub common : is_common kind ≡ true
  pub atom : place.atom ≡ key_at file.id COMMON_SECTION index

pub common_place : (file : LoadedFile) (index : ℕ) (kind : SymbolKind) (place : Place) → IsWhole file.object → place_of file index kind ≡ Some place → place.atom.section ≡ COMMON_SECTION → IsCommonAt file index kind place
unfolding place_of place_in place_at
common_place file index (Defined number value) place whole is common =
    by (from_then (place_in file number value) (section_numbered file.object.sections number) place is)
  where
    by : (section : Section) × (section_numbered file.object.sections number ≡ Some section) × (place_in file number value section ≡ Some place) → IsCommonAt file index (Defined number value) place
    by (section, numbered, there) = linked (is_dropped section) refl
      where
        linked : (b : Bool) → is_dropped section ≡ b → IsCommonAt file index (Defined number value) place
        linked true e = no_some place (rw e at there)
        linked false e =
            let same = some_is _ place (rw e at there) in
            let here : number ≡ COMMON_SECTION = ap (λ (p : Place). p.atom.section) same ∙ common in
            not_none section (sym numbered ∙ no_section file number whole here)
common_place file index (Common align size) place whole is common = record { common = refl; atom = sym (ap (λ (p : Place). p.atom) (some_is _ place is)) }
common_place file index _ place whole is common = no_some place is

-- ---- the winners

-- a name's winner has the name
pub winner_name : (command : Command) (files : List LoadedFile) (winners : List Winner) (name : List ℕ) (winner : Winner) → AreWinners command files winners → winner_of command files name ≡ Some winner → In winner winners × (name ≡ winner.name)
winner_name command files winners name winner are e =
    let found = find_some (λ (w : Winner). bytes_eq name w.name) winners winner (are.each name ∙ e) in
    (found.0, (bytes_eq-Decides name winner.name).0 found.1)

-- winners that stand in the atom of one common symbol are one
record IsOwnWinner (command : Command) (files : List LoadedFile) (winner : Winner) : Type 0 where
  pub is : IsWinnerIn files winner.name winner
  pub wins : winner_of command files winner.name ≡ Some winner

own_one : (command : Command) (files : List LoadedFile) (winners : List Winner) (winner : Winner) → AreWinners command files winners → In winner winners → IsOwnWinner command files winner
own_one command files winners winner are h =
    let wins = own_winner command files winners winner are h in
    record { is = winner_there command files winner.name winner wins; wins = wins }

common_of_winner : (files : List LoadedFile) (name : List ℕ) (winner : Winner) → AreWhole files → winner.atom.section ≡ COMMON_SECTION → (is : IsWinnerIn files name winner) → IsCommonAt is.file is.index is.symbol.kind is.place
common_of_winner files name winner whole common is =
    common_place is.file is.index is.symbol.kind is.place (from_all IsWholeFile files is.file whole is.among).object is.stands (ap (λ (k : AtomKey). k.section) is.atom ∙ common)

pub one_winner : (command : Command) (files : List LoadedFile) (winners : List Winner) (a b : Winner) → AreWinners command files winners → AreOrdered files → AreWhole files → In a winners → In b winners → a.atom.section ≡ COMMON_SECTION → a.atom ≡ b.atom → a ≡ b
one_winner command files winners a b are ordered whole p q common same =
    some_is a b (sym first.wins ∙ ap (winner_of command files) name ∙ second.wins)
  where
    first : IsOwnWinner command files a
    first = own_one command files winners a are p

    second : IsOwnWinner command files b
    second = own_one command files winners b are q

    here : IsCommonAt first.is.file first.is.index first.is.symbol.kind first.is.place
    here = common_of_winner files a.name a whole common first.is

    there : IsCommonAt second.is.file second.is.index second.is.symbol.kind second.is.place
    there = common_of_winner files b.name b whole (sym (ap (λ (k : AtomKey). k.section) same) ∙ common) second.is

    key : key_at first.is.file.id COMMON_SECTION first.is.index ≡ key_at second.is.file.id COMMON_SECTION second.is.index
    key = sym here.atom ∙ first.is.atom ∙ same ∙ sym second.is.atom ∙ there.atom

    file : first.is.file ≡ second.is.file
    file = one_file files first.is.file second.is.file ordered first.is.among second.is.among (ap (λ (k : AtomKey). k.file) key)

    index : first.is.index ≡ second.is.index
    index = ap (λ (k : AtomKey). k.offset) key

    symbol : first.is.symbol ≡ second.is.symbol
    symbol =
        some_is first.is.symbol second.is.symbol
        (sym first.is.numbered ∙ ap (λ (f : LoadedFile). slice_get f.object.symbols first.is.index) file ∙ ap (slice_get second.is.file.object.symbols) index ∙ second.is.numbered)

    name : a.name ≡ b.name
    name = first.is.named ∙ ap (λ (s : Symbol). s.name) symbol ∙ sym second.is.named

-- ---- its atom is kept

-- a winner's atom, by its key
common_found : (command : Command) (files : List LoadedFile) (winners : List Winner) (winner : Winner) → AreWinners command files winners → AreOrdered files → AreWhole files → In winner winners → winner.atom.section ≡ COMMON_SECTION → common_at winners winner.atom ≡ Some (common_of winner)
unfolding common_at
common_found command files winners winner are ordered whole h common = ap (option_map common_of) (by (find test winners) refl)
  where
    test : Winner → Bool
    test other = is_eq (compare_keys other.atom winner.atom)

    by : (o : Option Winner) → find test winners ≡ o → find test winners ≡ Some winner
    by None e = absurd (false≢true (sym (find_none test winners winner e h) ∙ key_itself winner.atom))
    by (Some other) e =
        let found = find_some test winners other e in
        e ∙ ap Some (sym (one_winner command files winners winner other are ordered whole h found.0 common (sym (key_found other.atom winner.atom found.1))))

both : (a b : Bool) → a ≡ true → b ≡ true → (a && b) ≡ true
both a b p q = rw (p, q) refl

pub common_kept : (command : Command) (files : List LoadedFile) (winners : List Winner) (keys : List AtomKey) (file : LoadedFile) (atom : Atom) → AreWinners command files winners → AreOrdered files → AreWhole files → IsCommon command files file atom → In atom.key keys → In atom (commons_in winners keys file.id)
unfolding commons_in
common_kept command files winners keys file atom are ordered whole is kept =
    in_filter_map (common_at winners) (filter (is_common_of file.id) keys) atom.key atom
    (in_filter (is_common_of file.id) keys atom.key kept
    (both (atom.key.section == COMMON_SECTION) (is_eq (compare_files atom.key.file file.id)) (eq-eqb atom.key.section COMMON_SECTION (ap (λ (k : AtomKey). k.section) key ∙ is.common))
    (ap (λ (f : FileId). is_eq (compare_files f file.id)) (ap (λ (k : AtomKey). k.file) key ∙ is.of_file) ∙ ap is_eq (tied_itself compare_files_total file.id))))
    (ap (common_at winners) key ∙ common_found command files winners is.winner are ordered whole won.0 is.common ∙ ap Some (sym is.is))
  where
    key : atom.key ≡ is.winner.atom
    key = ap (λ (a : Atom). a.key) is.is

    won : In is.winner winners × (is.name ≡ is.winner.name)
    won = winner_name command files winners is.name is.winner are is.wins
