-- The offers of files, one symbol after the other.
use Rattle.std.proofs.Common.{◌≡◌, ℕ, ◌+◌, ◌-◌, min, ◌<◌, ◌≤◌, Bool, true, false, List, [], ◌∷◌, ◌++◌, Contains, Some, None, length, drop, take, get_or, map, nat_lt, position, refl, sym, ap, ◌∙◌, inl, inr, arith, append_assoc, append-nil}
use Rattle.std.specs.List.{AllByRecursion, enumerate_from, filter_map, flat_map, position_or_len}
use Rattle.std.specs.Str.{bytes_eq}
use Rattle.std.proofs.lemmas.Bool.{lt-ltb}
use Rattle.std.specs.Prelude.{◌&&◌}
use Rattle.std.proofs.lemmas.List.{drop_all, drop_min, drop_more, drop-map, get_or-map, length-take, take_min, take_rest, take-map}
use Rattle.std.proofs.lemmas.List.Elements.{filter_map-append, recursion_from_All}
use Rattle.std.proofs.lemmas.Slice.Eq.{bytes_eq-Decides}
use Rattle.list_lemmas.proofs.Members.{In, in_from_Contains}
use Rattle.mo_types.specs.Candidates.{Candidate, candidate_at, candidates, candidates_of, has_place, is_candidate, word_of}
use Rattle.mo_types.specs.declared.loaded.LoadedFile.{LoadedFile}
use Rattle.mo_types.specs.declared.object.Symbol.{Symbol}
use Rattle.name_ids.specs.Names.{number_of, numbers_in, numbers_of}
use Rattle.name_race.specs.Race.{Holding, Race}
use Rattle.name_offers.specs.Offers.{bid_of, bids_of}
use Rattle.symbol_winners.specs.Found.{AreNamed}
use Rattle.name_offers.specs.inner.Offering.{AreOffered, HasOffered, offer_by, offers_at, offers_in}

-- ---- one symbol

nothing_offered : (racer : Holding) → HasOffered [] racer racer
nothing_offered racer = record { race = refl; passes = refl; offers = sym (append-nil racer.offers) }

pub no_candidate : (names : List (List ℕ)) (file : LoadedFile) (index : ℕ) (symbol : Symbol) → is_candidate file.object.sections symbol ≡ false → offers_at names file ((index, symbol) ∷ []) ≡ []
unfolding offers_at candidate_at
no_candidate names file index symbol is = rw is refl

pub a_candidate : (names : List (List ℕ)) (file : LoadedFile) (index id : ℕ) (symbol : Symbol) → is_candidate file.object.sections symbol ≡ true → position (bytes_eq symbol.name) names ≡ Some id → offers_at names file ((index, symbol) ∷ []) ≡ (id, word_of file.id index symbol) ∷ []
unfolding offers_at candidate_at offer_by
a_candidate names file index id symbol is there = rw (is, there) refl

pub no_name : (names : List (List ℕ)) (file : LoadedFile) (index : ℕ) (symbol : Symbol) → position (bytes_eq symbol.name) names ≡ None → offers_at names file ((index, symbol) ∷ []) ≡ []
unfolding offers_at candidate_at offer_by
no_name names file index symbol none = by (is_candidate file.object.sections symbol) refl
  where
    by : (b : Bool) → is_candidate file.object.sections symbol ≡ b → offers_at names file ((index, symbol) ∷ []) ≡ []
    by true is = rw (is, none) refl
    by false is = rw is refl

pub symbol_passed : (names : List (List ℕ)) (file : LoadedFile) (index : ℕ) (symbol : Symbol) (racer : Holding) → is_candidate file.object.sections symbol ≡ false → HasOffered (offers_at names file ((index, symbol) ∷ [])) racer racer
symbol_passed names file index symbol racer is = rw (no_candidate names file index symbol is) (nothing_offered racer)

external_of_candidate : (a b : Bool) → (a && b) ≡ true → a ≡ true
external_of_candidate true b is = refl
external_of_candidate false b is = is

pub candidate_external : (file : LoadedFile) (symbol : Symbol) → is_candidate file.object.sections symbol ≡ true → symbol.external ≡ true
unfolding is_candidate
candidate_external file symbol is = external_of_candidate symbol.external (has_place file.object.sections symbol.kind) is

pub symbol_unknown : (names : List (List ℕ)) (file : LoadedFile) (index : ℕ) (symbol : Symbol) (racer : Holding) → position (bytes_eq symbol.name) names ≡ None → HasOffered (offers_at names file ((index, symbol) ∷ [])) racer racer
symbol_unknown names file index symbol racer none = rw (no_name names file index symbol none) (nothing_offered racer)

pub symbol_offered : (names : List (List ℕ)) (file : LoadedFile) (index id word : ℕ) (symbol : Symbol) (before after : Holding) (known : List (ℕ × ℕ)) → is_candidate file.object.sections symbol ≡ true → position (bytes_eq symbol.name) names ≡ Some id → word ≡ word_of file.id index symbol → after ≡ record before { offers = before.offers ++ (id, word) ∷ []; known = known } → HasOffered (offers_at names file ((index, symbol) ∷ [])) before after
symbol_offered names file index id word symbol before after known is there spelt grown = rw (a_candidate names file index id symbol is there) (record {
  race = ap (λ (r : Holding). r.race) grown;
  passes = ap (λ (r : Holding). r.passes) grown;
  offers = ap (λ (r : Holding). r.offers) grown ∙ ap (λ (w : ℕ). before.offers ++ (id, w) ∷ []) spelt;
})

pub ruleset symbols = (symbol_passed, symbol_unknown, symbol_offered)

-- ---- the symbols of a file

pub from : List (List ℕ) → LoadedFile → ℕ → List (ℕ × ℕ)
from names file i = offers_at names file (enumerate_from i (drop i file.object.symbols))

-- with the offers of the rest of the file there are those of the whole file
pub record IsOffering (names : List (List ℕ)) (file : LoadedFile) (i : ℕ) (first now : Holding) : Type 0 where
  pub race : now.race ≡ first.race
  pub passes : now.passes ≡ first.passes
  pub offers : now.offers ++ from names file i ≡ first.offers ++ offers_in names file

split : (names : List (List ℕ)) (file : LoadedFile) (x : ℕ × Symbol) (xs : List (ℕ × Symbol)) → offers_at names file (x ∷ xs) ≡ offers_at names file (x ∷ []) ++ offers_at names file xs
unfolding offers_at
split names file x xs =
    ap (filter_map (offer_by names)) (filter_map-append (candidate_at file) (x ∷ []) xs)
    ∙ filter_map-append (offer_by names) (filter_map (candidate_at file) (x ∷ [])) (filter_map (candidate_at file) xs)

pub from_more : (names : List (List ℕ)) (file : LoadedFile) (i : ℕ) (symbol : Symbol) → i < length file.object.symbols → symbol ≡ get_or file.object.symbols i symbol → from names file i ≡ offers_at names file ((i, symbol) ∷ []) ++ from names file (i + 1)
unfolding from
from_more names file i symbol low is =
    ap (λ (xs : List Symbol). offers_at names file (enumerate_from i xs)) (drop_more file.object.symbols i symbol low ∙ ap (λ (y : Symbol). y ∷ drop (i + 1) file.object.symbols) (sym is))
    ∙ split names file (i, symbol) (enumerate_from (i + 1) (drop (i + 1) file.object.symbols))

pub from_start : (names : List (List ℕ)) (file : LoadedFile) → from names file 0 ≡ offers_in names file
unfolding from offers_at offers_in candidates_of
from_start names file = refl

pub from_end : (names : List (List ℕ)) (file : LoadedFile) (i : ℕ) → length file.object.symbols ≤ i → from names file i ≡ []
unfolding from offers_at
from_end names file i past = rw (drop_all i file.object.symbols past) refl

pub file_start : (names : List (List ℕ)) (file : LoadedFile) (racer : Holding) → IsOffering names file 0 racer racer
file_start names file racer = record { race = refl; passes = refl; offers = ap (λ (xs : List (ℕ × ℕ)). racer.offers ++ xs) (from_start names file) }

pub file_more : (names : List (List ℕ)) (file : LoadedFile) (i : ℕ) (symbol : Symbol) (first now next : Holding) → IsOffering names file i first now → i < length file.object.symbols → symbol ≡ get_or file.object.symbols i symbol → HasOffered (offers_at names file ((i, symbol) ∷ [])) now next → IsOffering names file (i + 1) first next
file_more names file i symbol first now next so low is has = record {
  race = has.race ∙ so.race;
  passes = has.passes ∙ so.passes;
  offers =
      ap (λ (xs : List (ℕ × ℕ)). xs ++ from names file (i + 1)) has.offers
      ∙ append_assoc now.offers (offers_at names file ((i, symbol) ∷ [])) (from names file (i + 1))
      ∙ ap (λ (xs : List (ℕ × ℕ)). now.offers ++ xs) (sym (from_more names file i symbol low is))
      ∙ so.offers;
}

pub number_there : (names : List (List ℕ)) (file : LoadedFile) (numbers : List ℕ) (i none number : ℕ) (symbol : Symbol) → numbers ≡ numbers_in names file → i < length file.object.symbols → symbol ≡ get_or file.object.symbols i symbol → number ≡ get_or numbers i none → number ≡ number_of names symbol
unfolding numbers_in
number_there names file numbers i none number symbol are low is at =
    at ∙ ap (λ (ns : List ℕ). get_or ns i none) are ∙ get_or-map (number_of names) file.object.symbols i symbol none low ∙ ap (number_of names) (sym is)

pub list_there : (race : Race) (names lists : List (List ℕ)) (files : List LoadedFile) (i : ℕ) (file : LoadedFile) (numbers : List ℕ) → AreOffered race names lists files → i < length files → file ≡ get_or files i file → numbers ≡ get_or lists i [] → numbers ≡ numbers_in names file
unfolding numbers_of
list_there race names lists files i file numbers are low is at =
    at ∙ ap (λ (ns : List (List ℕ)). get_or ns i []) are.numbers ∙ get_or-map (numbers_in names) files i file [] low ∙ ap (numbers_in names) (sym is)

pub ruleset lists = (list_there)

-- a part of a list that may end before it
pub part_is : {X : Type 0} (xs rest part : List X) (start count s k : ℕ) → s ≡ min start (length xs) → rest ≡ take (length xs - s) (drop s xs) → k ≡ min count (length rest) → part ≡ take k rest → part ≡ take count (drop start xs)
part_is xs rest part start count s k least is fewer got =
    let e : rest ≡ drop start xs = is ∙ take_rest xs s ∙ ap (λ (n : ℕ). drop n xs) least ∙ drop_min start xs in
    got ∙ ap (λ (n : ℕ). take n rest) fewer ∙ take_min count rest ∙ ap (take count) e

pub ruleset parts = (part_is)

-- the numbers of some of the files
some_numbers : (names lists : List (List ℕ)) (files : List LoadedFile) (n k : ℕ) → lists ≡ numbers_of names files → take k (drop n lists) ≡ numbers_of names (take k (drop n files))
unfolding numbers_of
some_numbers names lists files n k are =
    ap (λ (ls : List (List ℕ)). take k (drop n ls)) are ∙ ap (take k) (drop-map (numbers_in names) n files) ∙ take-map (numbers_in names) k (drop n files)

pub run_numbers : (names lists part : List (List ℕ)) (files some : List LoadedFile) (n m : ℕ) → lists ≡ numbers_of names files → some ≡ take m (take (length files - n) (drop n files)) → part ≡ take (length some) (drop n lists) → part ≡ numbers_of names some
run_numbers names lists part files some n m are is got =
    let e : some ≡ take m (drop n files) = is ∙ ap (take m) (take_rest files n) in
    let f : take (length some) (drop n files) ≡ some = ap (λ (s : List LoadedFile). take (length s) (drop n files)) e ∙ taken (drop n files) m ∙ sym e in
    got ∙ some_numbers names lists files n (length some) are ∙ ap (numbers_of names) f
  where
    taken : (xs : List LoadedFile) (k : ℕ) → take (length (take k xs)) xs ≡ take k xs
    taken xs k = let e : length (take k xs) ≡ min k (length xs) = length-take k xs in ap (λ (i : ℕ). take i xs) e ∙ take_min k xs

pub file_end : (names : List (List ℕ)) (file : LoadedFile) (i : ℕ) (first now : Holding) → IsOffering names file i first now → length file.object.symbols ≤ i → HasOffered (offers_in names file) first now
file_end names file i first now so past = record {
  race = so.race;
  passes = so.passes;
  offers = sym (append-nil now.offers) ∙ ap (λ (xs : List (ℕ × ℕ)). now.offers ++ xs) (sym (from_end names file i past)) ∙ so.offers;
}

pub ruleset files = (file_start, file_more, file_end, number_there)

-- ---- the offers of files whose candidates are named

number_below : (name : List ℕ) (names : List (List ℕ)) → In name names → position_or_len (bytes_eq name) names < length names
number_below name [] h = absurd h
number_below name (n ∷ names) h = by (number_below name names) h (bytes_eq name n) refl
  where
    by : (In name names → position_or_len (bytes_eq name) names < length names) → In name (n ∷ names) → (b : Bool) → bytes_eq name n ≡ b → position_or_len (bytes_eq name) (n ∷ names) < length (n ∷ names)
    by later h true e = rw e (omega arith)
    by later (inl same) false e = absurd (let yes_it : bytes_eq name n ≡ true = (bytes_eq-Decides name n).1 (sym same) in let no_it : true ≡ false = sym yes_it ∙ e in cc)
    by later (inr rest) false e = rw e (omega (arith, later rest))

offer_named : (names : List (List ℕ)) (candidate : Candidate) → Contains names candidate.symbol.name → offer_by names candidate ≡ Some (bid_of names candidate)
unfolding offer_by
offer_named names candidate there =
    let low : nat_lt (position_or_len (bytes_eq candidate.symbol.name) names) (length names) ≡ true = lt-ltb _ _ (number_below candidate.symbol.name names (in_from_Contains names candidate.symbol.name there)) in
    rw low refl

all_named : (names : List (List ℕ)) (cs : List Candidate) → AllByRecursion (λ (c : Candidate). Contains names c.symbol.name) cs → filter_map (offer_by names) cs ≡ map (bid_of names) cs
all_named names [] all = refl
all_named names (c ∷ cs) all = rw (offer_named names c all.0) (ap (λ (xs : List (ℕ × ℕ)). bid_of names c ∷ xs) (all_named names cs all.1))

each_file : (names : List (List ℕ)) (files : List LoadedFile) → flat_map (offers_in names) files ≡ filter_map (offer_by names) (candidates files)
unfolding candidates offers_in
each_file names [] = refl
each_file names (file ∷ files) =
    ap (λ (xs : List (ℕ × ℕ)). filter_map (offer_by names) (candidates_of file) ++ xs) (each_file names files)
    ∙ sym (filter_map-append (offer_by names) (candidates_of file) (candidates files))

pub named_offers : (names : List (List ℕ)) (files : List LoadedFile) → AreNamed names files → flat_map (offers_in names) files ≡ bids_of names files
unfolding bids_of
named_offers names files named = each_file names files ∙ all_named names (candidates files) (recursion_from_All _ (candidates files) named)
