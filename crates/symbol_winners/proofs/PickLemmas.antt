-- Lists that grow by what is picked of the elements of another list.
use Rattle.std.proofs.Common.{◌≡◌, ℕ, ◌+◌, ◌<◌, ◌≤◌, Bool, true, false, if◌then◌else◌, List, [], ◌∷◌, ◌++◌, length, take, get_or, Some, None, refl, sym, ap, ◌∙◌, arith, append_assoc}
use Rattle.std.specs.Prelude.{Option}
use Rattle.std.specs.List.{enumerate_from, filter_map}
use Rattle.std.specs.Option.{option_and_then, option_to_list}
use Rattle.std.proofs.lemmas.List.{append-nil, take_all, take_more}
use Rattle.std.proofs.lemmas.List.Elements.{filter_map-append}
use Rattle.std.proofs.lemmas.List.FromFn.{get_or-enumerate_from, length-enumerate_from}
use Rattle.mo_types.specs.declared.atom.Atom.{Atom}
use Rattle.mo_types.specs.declared.key.AtomKey.{AtomKey}
use Rattle.mo_types.specs.declared.object.Symbol.{Symbol}

-- any atom
abbrev pub no_key : AtomKey
no_key = record { file = record { position = 0; member = 0 }; section = 0; offset = 0 }

abbrev pub no_atom : Atom
no_atom = record { key = no_key; size = 0; align = 0 }

one : {X Y : Type 0} (h : X → Option Y) (x : X) → filter_map h (x ∷ []) ≡ option_to_list (h x)
one {Y = Y} h x = by (h x) refl
  where
    by : (o : Option Y) → h x ≡ o → filter_map h (x ∷ []) ≡ option_to_list (h x)
    by None e = rw e refl
    by (Some y) e = rw e refl

-- a list that began as one has what is picked of the elements before a place
pub record IsPicking {X Y : Type 0} (h : X → Option Y) (before now : List Y) (xs : List X) (at : ℕ) : Type 0 where
  pub same : now ≡ before ++ filter_map h (take at xs)

pub pick_start : {X Y : Type 0} (h : X → Option Y) (before : List Y) (xs : List X) → IsPicking h before before xs 0
pick_start h before xs = record { same = sym (append-nil before) }

pub pick_answer : {X Y : Type 0} (h : X → Option Y) (before now new : List Y) (xs : List X) (at : ℕ) (d : X) (answer : Option Y) → IsPicking h before now xs at → at < length xs → answer ≡ h (get_or xs at d) → new ≡ now ++ option_to_list answer → IsPicking h before new xs (at + 1)
pick_answer {Y = Y} h before now new xs at d answer picks low is more = record {
  same =
      more ∙ ap (λ (ys : List Y). ys ++ option_to_list answer) picks.same
      ∙ append_assoc before (filter_map h (take at xs)) (option_to_list answer)
      ∙ ap (λ (o : Option Y). before ++ (filter_map h (take at xs) ++ option_to_list o)) is
      ∙ ap (λ (ys : List Y). before ++ (filter_map h (take at xs) ++ ys)) (sym (one h (get_or xs at d)))
      ∙ ap (λ (ys : List Y). before ++ ys) (sym (ap (filter_map h) (take_more xs at d low) ∙ filter_map-append h (take at xs) (get_or xs at d ∷ [])));
}

pub pick_item : {X Y : Type 0} (h : X → Option Y) (before now new : List Y) (xs : List X) (at : ℕ) (x : X) (answer : Option Y) → IsPicking h before now xs at → at < length xs → x ≡ get_or xs at x → answer ≡ h x → new ≡ now ++ option_to_list answer → IsPicking h before new xs (at + 1)
pick_item h before now new xs at x answer picks low there is more = pick_answer h before now new xs at x answer picks low (is ∙ ap h there) more

pub pick_end : {X Y : Type 0} (h : X → Option Y) (before now : List Y) (xs : List X) (at : ℕ) → IsPicking h before now xs at → length xs ≤ at → now ≡ before ++ filter_map h xs
pick_end {Y = Y} h before now xs at picks past = picks.same ∙ ap (λ (ys : List Y). before ++ ys) (ap (filter_map h) (take_all at xs past))

pub ruleset picks = (pick_start, pick_item, pick_end)

-- ---- symbols with their indices

numbered : (symbols : List Symbol) (i : ℕ) (d : Symbol) → i < length symbols → get_or (enumerate_from 0 symbols) i (0, d) ≡ (i, get_or symbols i d)
numbered symbols i d low = let e : 0 + i ≡ i = omega arith in get_or-enumerate_from 0 symbols i (0, d) low ∙ ap (λ (n : ℕ). (n, get_or symbols i d)) e

pub pick_symbol : {Y : Type 0} (h : ℕ × Symbol → Option Y) (before now new : List Y) (symbols : List Symbol) (i : ℕ) (answer : Option Y) → IsPicking h before now (enumerate_from 0 symbols) i → i < length symbols → ((d : Symbol) → answer ≡ h (i, get_or symbols i d)) → new ≡ now ++ option_to_list answer → IsPicking h before new (enumerate_from 0 symbols) (i + 1)
pick_symbol {Y = Y} h before now new symbols i answer picks low is more = with_some (some_symbol symbols low)
  where
    some_symbol : (symbols : List Symbol) → i < length symbols → Symbol
    some_symbol [] l = absurd (omega (arith, l))
    some_symbol (s ∷ ss) l = s

    with_some : (d : Symbol) → IsPicking h before new (enumerate_from 0 symbols) (i + 1)
    with_some d =
        let under : i < length (enumerate_from 0 symbols) = omega (arith, low, length-enumerate_from 0 symbols) in
        pick_answer h before now new (enumerate_from 0 symbols) i (0, d) answer picks under (is d ∙ ap h (sym (numbered symbols i d low))) more

pub pick_symbols_end : {Y : Type 0} (h : ℕ × Symbol → Option Y) (before now : List Y) (symbols : List Symbol) (i : ℕ) → IsPicking h before now (enumerate_from 0 symbols) i → length symbols ≤ i → now ≡ before ++ filter_map h (enumerate_from 0 symbols)
pick_symbols_end h before now symbols i picks past = pick_end h before now (enumerate_from 0 symbols) i picks (omega (arith, past, length-enumerate_from 0 symbols))

-- ---- what two tests pick alike

pub picked_alike : {X Y : Type 0} (f g : X → Option Y) → ((x : X) → f x ≡ g x) → (xs : List X) → filter_map f xs ≡ filter_map g xs
picked_alike f g same [] = refl
picked_alike f g same (x ∷ xs) = rw (same x, picked_alike f g same xs) refl
