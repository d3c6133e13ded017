-- A map is one, and there is one.
use Rattle.std.proofs.Common.{◌≡◌, ◌≢◌, ℕ, List, refl, sym, ap, ◌∙◌, Option, Some, None}
use Rattle.std.specs.List.{AllPairs, flat_map}
use Rattle.std.specs.Option.{option_map}
use Rattle.std.specs.Ordering.{nat_cmp}
use Rattle.atom_index.proofs.Keys.{same_key}
use Rattle.list_lemmas.proofs.Ties.{tied_second}
use Rattle.mo_types.specs.Keys.{compare_keys}
use Rattle.mo_types.specs.declared.atom.Atom.{Atom}
use Rattle.mo_types.specs.declared.loaded.LoadedFile.{LoadedFile}
use Rattle.sect_place.specs.Addresses.{address_in}
use Rattle.sect_place.specs.declared.layout.Placed.{Placed}
use Rattle.sort_lemmas.proofs.Sorting.{sorted_exists}
use Rattle.sym_out.specs.Files.{FileSymbol, symbols_of}
use Rattle.sym_out.specs.Laws.{HasMap}
use Rattle.sym_out.specs.Map.{IsMap, MapRow, first_name, line_of, row_of, rows_of}
use Rattle.sym_out.proofs.Drawn.{drawn_one}
use Rattle.sym_out.proofs.OneOrder.{one_order}
use Rattle.sym_out.proofs.Orders.{compare_rows_total}

row_made : (atom : Atom) (name : Option (List ℕ)) (address : Option ℕ) (row : MapRow) → option_map (λ x. record { atom = atom; address = x; name = name }) address ≡ Some row → row.atom.key ≡ atom.key
row_made atom name None row e = absurd cc
row_made atom name (Some address) row e =
    let made : MapRow = record { atom = atom; address = address; name = name } in
    let same : made ≡ row = cc in
    sym (ap (λ (r : MapRow). r.atom.key) same)

row_told : (placed : List Placed) (symbols : List FileSymbol) (atom : Atom) (row : MapRow) → row_of placed symbols atom ≡ Some row → row.atom.key ≡ atom.key
unfolding row_of
row_told placed symbols atom row e = row_made atom (first_name symbols atom.key) (address_in placed atom.key) row e

pub map_is_one : (placed : List Placed) (atoms : List Atom) (files : List LoadedFile) (map other : List ℕ) → AllPairs (λ (a : Atom) (b : Atom). a.key ≢ b.key) atoms → IsMap placed atoms files map → IsMap placed atoms files other → map ≡ other
map_is_one placed atoms files map other apart is is_too =
    let same : is.rows ≡ is_too.rows =
    one_order compare_rows_total (rows_of placed (symbols_of files) atoms) is.rows is_too.rows is.same is_too.same is.sorted is_too.sorted
    (λ x y p q tied. drawn_one (row_of placed (symbols_of files)) (λ (a : Atom). a.key) (λ (r : MapRow). r.atom.key) (row_told placed (symbols_of files)) atoms apart x y p q
    (same_key x.atom.key y.atom.key (tied_second (nat_cmp x.address y.address) (compare_keys x.atom.key y.atom.key) tied))) in
    is.lines ∙ ap (flat_map (line_of files)) same ∙ sym is_too.lines

pub has_map : (placed : List Placed) (atoms : List Atom) (files : List LoadedFile) → HasMap placed atoms files
has_map placed atoms files =
    let sorted = sorted_exists compare_rows_total (rows_of placed (symbols_of files) atoms) in
    (flat_map (line_of files) sorted.0, record { rows = sorted.0; same = sorted.1; sorted = sorted.2; lines = refl })
