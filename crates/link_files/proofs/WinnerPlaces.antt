-- Where the winner of a name stands.
use Rattle.std.proofs.Common.{◌≡◌, ℕ, ◌+◌, ◌==◌, Bool, true, false, List, [], ◌∷◌, Some, inl, inr, refl, ap, sym, ◌∙◌, arith}
use Rattle.std.specs.Prelude.{slice_get}
use Rattle.std.specs.Cmp.Lexicographic.{slice_cmp}
use Rattle.std.specs.List.{AllPairs, enumerate_from}
use Rattle.std.specs.Ordering.{nat_cmp}
use Rattle.std.specs.Str.{bytes_eq}
use Rattle.std.specs.declared.cmp.Ordering.TheVariants.{Less, Equal}
use Rattle.std.proofs.lemmas.Bool.{and_parts}
use Rattle.std.proofs.lemmas.Cmp.{nat_list_cmp_total, tied_itself}
use Rattle.std.proofs.lemmas.Slice.Eq.{bytes_eq-Decides}
use Rattle.list_lemmas.proofs.Members.{In, find_some, from_filter, from_filter_map, from_flat}
use Rattle.literal_merge.proofs.RepresentativeLemmas.{pairs_head, pairs_tail}
use Rattle.mo_types.specs.Candidates.{has_place, is_candidate, least, word_of}
use Rattle.mo_types.specs.declared.loaded.LoadedFile.{LoadedFile}
use Rattle.mo_types.specs.declared.object.Symbol.{Symbol}
use Rattle.command_line.specs.declared.command.Command.{Command}
use Rattle.symbol_winners.specs.Found.{FileCandidate, found, found_at, found_for, found_in}
use Rattle.symbol_winners.specs.Places.{place_of}
use Rattle.symbol_winners.specs.Winners.{AreWinners, found_word, winner_from, winner_named, winner_of, winning}
use Rattle.symbol_winners.specs.declared.places.Place.{Place}
use Rattle.symbol_winners.specs.declared.winner.Winner.{Winner}
use Rattle.link_files.proofs.Lists.{from_mapped, from_numbered, from_then, from_when}

-- the winner of a name is an external symbol of a file
pub record IsWinnerIn (files : List LoadedFile) (name : List ℕ) (winner : Winner) : Type 0 where
  pub file : LoadedFile
  pub among : In file files
  pub index : ℕ
  pub symbol : Symbol
  pub numbered : slice_get file.object.symbols index ≡ Some symbol
  pub external : symbol.external ≡ true
  pub named : name ≡ symbol.name
  pub place : Place
  pub stands : place_of file index symbol.kind ≡ Some place
  pub atom : place.atom ≡ winner.atom
  pub offset : place.offset ≡ winner.offset
  pub word : word_of file.id index symbol ≡ winner.word

pub winner_there : (command : Command) (files : List LoadedFile) (name : List ℕ) (winner : Winner) → winner_of command files name ≡ Some winner → IsWinnerIn files name winner
unfolding winner_of winning found_for found found_in found_at is_candidate
winner_there command files name winner e =
    let one = from_then (winner_from command (found_for files name)) (winning files name) winner e in
    let f : FileCandidate = one.0 in
    let among = (find_some (λ (g : FileCandidate). found_word g == least files name) (found_for files name) f one.1).0 in
    let chosen = from_filter (λ (g : FileCandidate). bytes_eq name g.symbol.name) (found files) f among in
    let of = from_flat found_in files f chosen.0 in
    let p = from_filter_map (found_at of.0) (enumerate_from 0 of.0.object.symbols) f of.2 in
    let candidate = from_when (is_candidate of.0.object.sections p.0.1) _ f p.2 in
    let numbered = from_numbered 0 of.0.object.symbols p.0 p.1 in
    let first : numbered.0 ≡ 0 + numbered.0 = omega arith in
    let index : numbered.0 ≡ p.0.0 = first ∙ numbered.1 in
    let place = from_mapped _ (place_of f.file f.index f.symbol.kind) winner one.2 in
    record {
      file = of.0;
      among = of.1;
      index = numbered.0;
      symbol = p.0.1;
      numbered = numbered.2;
      external = (and_parts p.0.1.external (has_place of.0.object.sections p.0.1.kind) candidate.0).0;
      named = (bytes_eq-Decides name f.symbol.name).0 chosen.1 ∙ sym (ap (λ (g : FileCandidate). g.symbol.name) candidate.1);
      place = place.0;
      stands = ap (λ (i : ℕ). place_of of.0 i p.0.1.kind) index ∙ ap (λ (g : FileCandidate). place_of g.file g.index g.symbol.kind) candidate.1 ∙ place.1;
      atom = ap (λ (w : Winner). w.atom) place.2;
      offset = ap (λ (w : Winner). w.offset) place.2;
      word = ap (λ (i : ℕ). word_of of.0.id i p.0.1) index ∙ ap (λ (g : FileCandidate). found_word g) candidate.1 ∙ ap (λ (w : Winner). w.word) place.2;
    }

-- ---- a winner is that of its own name

abbrev Precedes : Winner → Winner → Type 0
Precedes a b = slice_cmp nat_cmp a.name b.name ≡ Less

named_itself : (winners : List Winner) (winner : Winner) → AllPairs Precedes winners → In winner winners → winner_named winners winner.name ≡ Some winner
named_itself [] winner pairs h = absurd h
named_itself (first ∷ winners) winner pairs (inl e) =
    let here : bytes_eq winner.name first.name ≡ true = (bytes_eq-Decides winner.name first.name).1 (ap (λ (w : Winner). w.name) (sym e)) in
    rw here (ap Some e)
named_itself (first ∷ winners) winner pairs (inr h) = by (bytes_eq winner.name first.name) refl (named_itself winners winner (pairs_tail Precedes first winners pairs) h)
  where
    less : slice_cmp nat_cmp first.name winner.name ≡ Less
    less = pairs_head Precedes first winners winner pairs h

    two : Less ≡ Equal → ⊥
    two e = cc

    by : (b : Bool) → bytes_eq winner.name first.name ≡ b → winner_named winners winner.name ≡ Some winner → winner_named (first ∷ winners) winner.name ≡ Some winner
    by false e rest = rw e rest
    by true e rest =
        let same : winner.name ≡ first.name = (bytes_eq-Decides winner.name first.name).0 e in
        absurd (two (sym less ∙ ap (λ (n : List ℕ). slice_cmp nat_cmp n winner.name) (sym same) ∙ tied_itself nat_list_cmp_total winner.name))

pub own_winner : (command : Command) (files : List LoadedFile) (winners : List Winner) (winner : Winner) → AreWinners command files winners → In winner winners → winner_of command files winner.name ≡ Some winner
own_winner command files winners winner are h = sym (are.each winner.name) ∙ named_itself winners winner are.rising h
