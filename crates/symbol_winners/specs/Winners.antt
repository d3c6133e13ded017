-- Winners: of the candidates of a name the one with the least word (`nlist.h`: N_PEXT, N_WEAK_DEF, common symbols).
use Rattle.std.specs.Prelude.{ℕ, ◌≡◌, ◌==◌, ◌&&◌, ◌||◌, nat_eq, Bool, not, max, List, map, fold, codes, Option, if◌then◌else◌}
use Rattle.std.specs.List.{AllPairs, find, list_any, starts_with}
use Rattle.std.specs.Option.{option_map, option_and_then}
use Rattle.std.specs.Ordering.{nat_cmp}
use Rattle.std.specs.declared.cmp.Ordering.TheVariants.{Less}
use Rattle.std.specs.Cmp.Lexicographic.{slice_cmp}
use Rattle.std.specs.Str.{bytes_eq}
use Rattle.command_line.specs.declared.command.Command.{Command}
use Rattle.mo_types.specs.Candidates.{is_common, least, strength, word_of}
use Rattle.mo_types.specs.declared.loaded.LoadedFile.{LoadedFile}
use Rattle.mo_types.specs.declared.object.Symbol.{Symbol}
use Rattle.mo_types.specs.declared.object.SymbolKind.{SymbolKind}
use Rattle.mo_types.specs.declared.object.SymbolKind.TheVariants.{Common}
use Rattle.symbol_winners.specs.Found.{FileCandidate, found_for}
use Rattle.symbol_winners.specs.Places.{place_of}
use Rattle.symbol_winners.specs.declared.places.Place.{Place}
use Rattle.symbol_winners.specs.declared.winner.Winner.{Winner}

abbrev pub found_word : FileCandidate → ℕ
found_word f = word_of f.file.id f.index f.symbol

-- the candidate of a name that has the least word of them
unfoldable pub winning : List LoadedFile → List ℕ → Option FileCandidate
winning files name = find (λ f. found_word f == least files name) (found_for files name)

-- a name is in a list
abbrev pub lists : List (List ℕ) → List ℕ → Bool
lists names name = list_any (bytes_eq name) names

-- a name that an assembler or a compiler gives for its own use
abbrev pub is_own : List ℕ → Bool
is_own name = starts_with nat_eq name (codes "l") || starts_with nat_eq name (codes "L")

-- whether other images see the definition of a name: neither the object hides it nor its name, it is in the list of
-- exported names where there is one, and not in the list of names that aren't exported (ld(1))
unfoldable pub is_exported : Command → Symbol → Bool
is_exported command symbol =
    not symbol.hidden && not (is_own symbol.name) && (not command.export_given || lists command.exports symbol.name)
    && not (lists command.unexports symbol.name)

-- the size and the alignment of a common symbol; a definition in a section has those of its atom, and none of its own
abbrev pub size_in : SymbolKind → ℕ
size_in (Common align size) = size
size_in _ = 0

abbrev pub align_in : SymbolKind → ℕ
align_in (Common align size) = align
align_in _ = 0

-- the greatest size, and the greatest alignment, of the common symbols among some candidates
unfoldable pub greatest_size : List FileCandidate → ℕ
greatest_size fs = fold max 0 (map (λ f. size_in f.symbol.kind) fs)

unfoldable pub greatest_align : List FileCandidate → ℕ
greatest_align fs = fold max 0 (map (λ f. align_in f.symbol.kind) fs)

-- a candidate as the winner, of the greatest size and alignment of the common symbols of its name where it is one
abbrev pub winner_at : Bool → ℕ → ℕ → FileCandidate → Place → Winner
winner_at exported size align f place = record {
  name = f.symbol.name;
  word = found_word f;
  file = f.file.id;
  atom = place.atom;
  offset = place.offset;
  size = if is_common f.symbol.kind then size else 0;
  align = if is_common f.symbol.kind then align else 0;
  weak = strength f.symbol == 1;
  exported = exported;
}

abbrev pub winner_by : Bool → ℕ → ℕ → FileCandidate → Option Winner
winner_by exported size align f = option_map (winner_at exported size align f) (place_of f.file f.index f.symbol.kind)

abbrev pub winner_from : Command → List FileCandidate → FileCandidate → Option Winner
winner_from command all f = winner_by (is_exported command f.symbol) (greatest_size all) (greatest_align all) f

-- the winner of a name, or none where no file has a candidate
unfoldable pub winner_of : Command → List LoadedFile → List ℕ → Option Winner
winner_of command files name = option_and_then (winner_from command (found_for files name)) (winning files name)

-- the winner of a name among some
abbrev pub winner_named : List Winner → List ℕ → Option Winner
winner_named winners name = find (λ winner. bytes_eq name winner.name) winners

-- the winners of all names, in the byte order of these, each once
pub record AreWinners (command : Command) (files : List LoadedFile) (winners : List Winner) : Type 0 where
  pub rising : AllPairs (λ a b. slice_cmp nat_cmp a.name b.name ≡ Less) winners
  pub each : (name : List ℕ) → winner_named winners name ≡ winner_of command files name

-- the words of a race are the least ones of the candidates of each name
abbrev pub AreLeast : List LoadedFile → List (List ℕ) → List ℕ → Type 0
AreLeast files names words = words ≡ map (least files) names
