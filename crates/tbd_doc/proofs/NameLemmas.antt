-- Names are gathered, place by place.
use Rattle.std.proofs.Common.{◌≡◌, ℕ, ◌+◌, ◌<◌, ◌≤◌, List, [], ◌∷◌, ◌++◌, Option, Some, None, Result, Ok, Err, IfOk, Bool, true, false, cond, length, get_or, take, drop, map, filter, refl, sym, ap, ◌∙◌, append-nil, append_assoc}
use Rattle.std.specs.List.{flat_map, filter_map, cons_option}
use Rattle.std.specs.Prelude.{codes}
use Rattle.std.specs.Option.{option_to_list}
use Rattle.std.proofs.lemmas.List.Elements.{filter-append}
use Rattle.std.proofs.lemmas.List.{take_all, take_more, flat_map_more, map-append}
use Rattle.tbd_yaml.specs.Tree.{Tree}
use Rattle.tbd_doc.specs.declared.names.NameKind.{NameKind}
use Rattle.tbd_doc.specs.Nodes.{KeyedNode, text_of, items_of, fields_of, texts_under, value_of}
use Rattle.tbd_doc.specs.Exports.{counts, counted, items_under, is_symbol, symbols_under, prefixed_under, library_names}
use Rattle.tbd_doc.specs.inner.Texts.{text_list, names_of, counted_names}

-- some names are those of the places below one, behind others
pub record IsGathering {X : Type 0} (f : ℕ → List X) (start : List X) (xs : List ℕ) (at : ℕ) (names : List X) : Type 0 where
  pub same : names ≡ start ++ flat_map f (take at xs)

pub gather_starts : {X : Type 0} (f : ℕ → List X) (start : List X) (xs : List ℕ) → IsGathering f start xs 0 start
gather_starts f start xs = record { same = sym (append-nil start) }

pub gather_goes_on : {X : Type 0} (f : ℕ → List X) (start : List X) (xs : List ℕ) (at : ℕ) (names more : List X) → IsGathering f start xs at names → at < length xs → more ≡ names ++ f (get_or xs at 0) → IsGathering f start xs (at + 1) more
gather_goes_on f start xs at names more gathering within grown = record {
  same = grown ∙ ap (λ ns. ns ++ f (get_or xs at 0)) gathering.same ∙ flat_map_more f start (take at xs) (get_or xs at 0)
      ∙ ap (λ ps. start ++ flat_map f ps) (sym (take_more xs at 0 within));
}

pub gather_ends : {X : Type 0} (f : ℕ → List X) (start : List X) (xs : List ℕ) (at : ℕ) (names : List X) → IsGathering f start xs at names → length xs ≤ at → names ≡ start ++ flat_map f xs
gather_ends f start xs at names gathering past = gathering.same ∙ ap (λ ps. start ++ flat_map f ps) (take_all at xs past)

pub ruleset gathers = (gather_starts, gather_goes_on, gather_ends)

pub four : {X : Type 0} (n0 n1 n2 n3 n4 a b c d : List X) → n1 ≡ n0 ++ a → n2 ≡ n1 ++ b → n3 ≡ n2 ++ c → n4 ≡ n3 ++ d → n4 ≡ n0 ++ (((a ++ b) ++ c) ++ d)
four n0 n1 n2 n3 n4 a b c d first second third fourth =
    fourth ∙ ap (λ xs. xs ++ d) (third ∙ ap (λ xs. xs ++ c) (second ∙ ap (λ xs. xs ++ b) first ∙ append_assoc n0 a b) ∙ append_assoc n0 (a ++ b) c)
    ∙ append_assoc n0 ((a ++ b) ++ c) d

pub ruleset chains = (append_assoc)

pub ok_then : {T E : Type 0} (r : Result T E) (P Q : T → Type 0) → ((x : T) → P x → Q x) → IfOk r P → IfOk r Q
ok_then (Ok x) P Q step holds = step x holds
ok_then (Err e) P Q step holds = tt

-- The texts of a list, one by one and all at once.

joined : (text : Option (List ℕ)) (rest : List (List ℕ)) → option_to_list text ++ rest ≡ cons_option text rest
joined None rest = refl
joined (Some text) rest = refl

texts_there : (node : ℕ → Tree) (g : List (List ℕ) → List (List ℕ)) → ((a b : List (List ℕ)) → g (a ++ b) ≡ g a ++ g b) → g [] ≡ [] → (places : List ℕ)
    → flat_map (λ place. g (text_list (node place))) places ≡ g (filter_map text_of (map node places))
texts_there node g both none [] = sym none
texts_there node g both none (place ∷ places) =
    ap (λ xs. g (text_list (node place)) ++ xs) (texts_there node g both none places)
    ∙ sym (both (text_list (node place)) (filter_map text_of (map node places)))
    ∙ ap g (joined (text_of (node place)) (filter_map text_of (map node places)))

pub texts_gathered : (node : ℕ → Tree) (g : List (List ℕ) → List (List ℕ)) → ((a b : List (List ℕ)) → g (a ++ b) ≡ g a ++ g b) → g [] ≡ []
    → (at : ℕ) (found : Option Tree) (places seen : List ℕ) (start more : List (List ℕ)) → Some (node at) ≡ found → map node places ≡ items_of (node at) → seen ≡ places
    → more ≡ start ++ flat_map (λ place. g (text_list (node place))) seen → more ≡ start ++ g (texts_under found)
texts_gathered node g both none at found places seen start more there items same gathered =
    gathered
    ∙ ap (λ xs. start ++ xs) (texts_there node g both none seen ∙ ap (λ ps. g (filter_map text_of (map node ps))) same
    ∙ ap (λ ts. g (filter_map text_of ts)) items ∙ ap (λ value. g (texts_under value)) there)

pub libraries_gathered : (node : ℕ → Tree) (at : ℕ) (fields : List KeyedNode) (places seen : List ℕ) (start more : List (List ℕ)) → Some (node at) ≡ value_of (codes "libraries") fields → map node places ≡ items_of (node at) → seen ≡ places
    → more ≡ start ++ flat_map (λ place. text_list (node place)) seen → more ≡ start ++ library_names fields
unfolding library_names
libraries_gathered node at fields = texts_gathered node (λ names. names) (λ a b. refl) refl at (value_of (codes "libraries") fields)

pub symbols_gathered : (node : ℕ → Tree) (at : ℕ) (key : List ℕ) (fields : List KeyedNode) (places seen : List ℕ) (start more : List (List ℕ)) → Some (node at) ≡ value_of key fields → map node places ≡ items_of (node at) → seen ≡ places
    → more ≡ start ++ flat_map (λ place. filter is_symbol (text_list (node place))) seen → more ≡ start ++ symbols_under key fields
unfolding symbols_under
symbols_gathered node at key fields = texts_gathered node (filter is_symbol) (filter-append is_symbol) refl at (value_of key fields)

pub prefixed_gathered : (node : ℕ → Tree) (at : ℕ) (prefix key : List ℕ) (fields : List KeyedNode) (places seen : List ℕ) (start more : List (List ℕ)) → Some (node at) ≡ value_of key fields → map node places ≡ items_of (node at) → seen ≡ places
    → more ≡ start ++ flat_map (λ place. map (λ name. prefix ++ name) (text_list (node place))) seen → more ≡ start ++ prefixed_under prefix key fields
unfolding prefixed_under
prefixed_gathered node at prefix key fields = texts_gathered node (map (λ name. prefix ++ name)) (map-append (λ name. prefix ++ name)) refl at (value_of key fields)

-- The names of the items that count.

counted_step : (test : Bool) (names : List (List ℕ)) (f : List KeyedNode → List (List ℕ)) (item : List KeyedNode) (others : List (List KeyedNode)) → names ≡ f item
    → cond test names [] ++ flat_map f others ≡ flat_map f (cond test (item ∷ others) others)
counted_step true names f item others is = ap (λ xs. xs ++ flat_map f others) is
counted_step false names f item others is = refl

counted_there : (node : ℕ → Tree) (kind : NameKind) (target : List ℕ) (places : List ℕ)
    → flat_map (λ place. counted_names kind target (fields_of (node place))) places ≡ flat_map (names_of kind) (filter (counts target) (map fields_of (map node places)))
counted_there node kind target [] = refl
counted_there node kind target (place ∷ places) =
    ap (λ xs. counted_names kind target (fields_of (node place)) ++ xs) (counted_there node kind target places)
    ∙ counted_step (counts target (fields_of (node place))) (names_of kind (fields_of (node place))) (names_of kind) (fields_of (node place)) (filter (counts target) (map fields_of (map node places))) refl

pub counted_gathered : (node : ℕ → Tree) (kind : NameKind) (at : ℕ) (target key : List ℕ) (fields : List KeyedNode) (places seen : List ℕ) (start more : List (List ℕ)) → Some (node at) ≡ value_of key fields → map node places ≡ items_of (node at) → seen ≡ places
    → more ≡ start ++ flat_map (λ place. counted_names kind target (fields_of (node place))) seen → more ≡ start ++ flat_map (names_of kind) (counted target key fields)
unfolding counted
counted_gathered node kind at target key fields places seen start more there items same gathered =
    gathered
    ∙ ap (λ xs. start ++ xs) (counted_there node kind target seen
    ∙ ap (λ ps. flat_map (names_of kind) (filter (counts target) (map fields_of (map node ps)))) same
    ∙ ap (λ ts. flat_map (names_of kind) (filter (counts target) (map fields_of ts))) items
    ∙ ap (λ value. flat_map (names_of kind) (filter (counts target) (items_under value))) there)
