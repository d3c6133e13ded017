-- The kept atoms of common symbols.
use Rattle.std.proofs.Common.{◌≡◌, ℕ, zero, suc, ◌+◌, ◌-◌, ◌<◌, ◌≤◌, ◌==◌, ◌⊎◌, inl, inr, not, Bool, true, false, List, [], ◌∷◌, ◌++◌, length, map, take, drop, get_or, replicate, set, Option, Some, None, refl, sym, ap, ◌∙◌, arith, if◌then◌else◌}
use Rattle.std.specs.Prelude.{All, slice_get}
use Rattle.std.specs.List.{AllByRecursion, filter, filter_map, find, flat_map}
use Rattle.std.specs.List.Sorted.{IsPartitionedBy, IsStrictlySortedBy}
use Rattle.std.specs.Option.{is_some, option_map, option_or}
use Rattle.std.specs.Ordering.{is_eq, is_gt, is_lt, nat_cmp, on, ordering_reverse, ordering_then}
use Rattle.std.specs.declared.cmp.Ordering.{Ordering}
use Rattle.std.specs.declared.cmp.Ordering.TheVariants.{Less, Equal, Greater}
use Rattle.std.proofs.lemmas.Bool.{cases_Bool, cases_lt, eqb-true, false≢true}
use Rattle.std.proofs.lemmas.Cmp.{tied_itself}
use Rattle.std.proofs.lemmas.List.Elements.{All-contains, All-from_recursion}
use Rattle.std.proofs.lemmas.List.{take_all, take_more}
use Rattle.std.proofs.lemmas.List.Folds.{find-append}
use Rattle.std.proofs.lemmas.Option.{slice_get_cases}
use Rattle.list_lemmas.proofs.Members.{Contains_from_in, In, all_at, all_from_in, all_in, find_some, from_filter, from_filter_map}
use Rattle.list_lemmas.proofs.Rising.{rising_at}
use Rattle.liveness.proofs.GrowLemmas.{IsGrowing, grow_end, grow_start}
use Rattle.mo_types.proofs.KeyOrder.{compare_files_total, compare_keys_total}
use Rattle.mo_types.specs.Keys.{compare_files, compare_keys}
use Rattle.mo_types.specs.declared.atom.Atom.{Atom}
use Rattle.mo_types.specs.declared.key.AtomKey.{AtomKey}
use Rattle.mo_types.specs.declared.key.FileId.{FileId}
use Rattle.mo_types.specs.declared.key.TheConstants.{COMMON_SECTION}
use Rattle.atom_index.proofs.Keys.{is_equal, same_key}
use Rattle.patch.proofs.LeastLemmas.{element_at}
use Rattle.patch.proofs.ChosenLemmas.{from_mapped, not_true}
use Rattle.symbol_winners.specs.declared.winner.Winner.{Winner}
use Rattle.image_make.specs.Atoms.{common_at, common_of, commons_in, is_common_of}
use Rattle.image_make.specs.inner.Commons.{IsCountBelow, IsCountUpTo, all_commons, common_keys, is_below, is_up_to}

-- ---- their keys

-- a key, if it is a common symbol's
abbrev pub key_if : AtomKey → List AtomKey
key_if key = if key.section == COMMON_SECTION then key ∷ [] else []

chosen : {X : Type 0} (p : X → Bool) (xs : List X) → flat_map (λ x. if p x then x ∷ [] else []) xs ≡ filter p xs
chosen p [] = refl
chosen {X = X} p (x ∷ xs) = by (chosen p xs) (p x)
  where
    by : flat_map (λ (y : X). if p y then y ∷ [] else []) xs ≡ filter p xs → (b : Bool) → (if b then x ∷ [] else []) ++ flat_map (λ (y : X). if p y then y ∷ [] else []) xs ≡ (if b then x ∷ filter p xs else filter p xs)
    by rest true = ap (λ (ys : List X). x ∷ ys) rest
    by rest false = rest

pub keys_start : (keys : List AtomKey) → IsGrowing key_if [] [] keys 0
keys_start keys = grow_start key_if [] keys

pub keys_end : (keys now : List AtomKey) (i : ℕ) → IsGrowing key_if [] now keys i → length keys ≤ i → now ≡ common_keys keys
unfolding common_keys
keys_end keys now i grows past = grow_end key_if [] now keys i grows past ∙ chosen (λ (key : AtomKey). key.section == COMMON_SECTION) keys

pub ruleset keys = (keys_start, keys_end)

-- ---- atoms that are found

abbrev pub atom_if : Option Atom → List Atom
atom_if found = filter_map (λ (o : Option Atom). o) (found ∷ [])

all_if : (found : List (Option Atom)) → flat_map atom_if found ≡ filter_map (λ (o : Option Atom). o) found
all_if [] = refl
all_if (None ∷ found) = all_if found
all_if (Some atom ∷ found) = ap (λ (atoms : List Atom). atom ∷ atoms) (all_if found)

pub found_start : (found : List (Option Atom)) → IsGrowing atom_if [] [] found 0
found_start found = grow_start atom_if [] found

pub found_end : (found : List (Option Atom)) (now : List Atom) (i : ℕ) → IsGrowing atom_if [] now found i → length found ≤ i → now ≡ filter_map (λ (o : Option Atom). o) found
found_end found now i grows past = grow_end atom_if [] now found i grows past ∙ all_if found

pub ruleset found = (found_start, found_end)

pub all_present : {X : Type 0} (f : X → Option Atom) (xs : List X) → filter_map (λ (o : Option Atom). o) (map f xs) ≡ filter_map f xs
all_present f [] = refl
all_present {X = X} f (x ∷ xs) = by (f x) (all_present f xs)
  where
    by : (o : Option Atom) → filter_map (λ (p : Option Atom). p) (map f xs) ≡ filter_map f xs → filter_map (λ (p : Option Atom). p) (o ∷ map f xs) ≡ Rattle.std.specs.List.cons_option o (filter_map f xs)
    by None rest = rest
    by (Some atom) rest = ap (λ (atoms : List Atom). atom ∷ atoms) rest

-- ---- what one winner more has

added : (winners : List Winner) (winner : Winner) (key : AtomKey) → common_at (winners ++ winner ∷ []) key ≡ option_or (common_at winners key) (if is_eq (compare_keys winner.atom key) then Some (common_of winner) else None)
unfolding common_at
added winners winner key = ap (option_map common_of) (find-append here winners (winner ∷ [])) ∙ joined (find here winners) (here winner)
  where
    here : Winner → Bool
    here w = is_eq (compare_keys w.atom key)

    joined : (o : Option Winner) (b : Bool) → option_map common_of (option_or o (if b then Some winner else None)) ≡ option_or (option_map common_of o) (if b then Some (common_of winner) else None)
    joined None true = refl
    joined None false = refl
    joined (Some w) b = refl

or_none : (o : Option Atom) → option_or o None ≡ o
or_none None = refl
or_none (Some atom) = refl

-- a key that isn't the winner's has what it had
kept_key : (winners : List Winner) (winner : Winner) (key : AtomKey) → (winner.atom ≡ key → ⊥) → common_at (winners ++ winner ∷ []) key ≡ common_at winners key
kept_key winners winner key away =
    let no : is_eq (compare_keys winner.atom key) ≡ false = by (is_eq (compare_keys winner.atom key)) refl in
    added winners winner key ∙ ap (λ (b : Bool). option_or (common_at winners key) (if b then Some (common_of winner) else None)) no ∙ or_none (common_at winners key)
  where
    by : (b : Bool) → is_eq (compare_keys winner.atom key) ≡ b → is_eq (compare_keys winner.atom key) ≡ false
    by true e = absurd (away (same_key winner.atom key (is_equal (compare_keys winner.atom key) e)))
    by false e = e

-- its own has its atom, where it had none
own_key : (winners : List Winner) (winner : Winner) (key : AtomKey) → winner.atom ≡ key → common_at (winners ++ winner ∷ []) key ≡ option_or (common_at winners key) (Some (common_of winner))
own_key winners winner key same =
    let yes : is_eq (compare_keys winner.atom key) ≡ true = ap (λ (k : AtomKey). is_eq (compare_keys winner.atom k)) (sym same) ∙ ap is_eq (tied_itself compare_keys_total winner.atom) in
    added winners winner key ∙ ap (λ (b : Bool). option_or (common_at winners key) (if b then Some (common_of winner) else None)) yes

less_not_equal : Less ≡ Equal → ⊥
less_not_equal e = cc

less_apart : (a b : AtomKey) → compare_keys a b ≡ Less → a ≡ b → ⊥
less_apart a b less same = less_not_equal (sym less ∙ ap (λ (k : AtomKey). compare_keys k b) same ∙ tied_itself compare_keys_total b)

pub none_noted : (winners : List Winner) (winner : Winner) (keys : List AtomKey) → ((key : AtomKey) → In key keys → winner.atom ≡ key → ⊥) → map (common_at (winners ++ winner ∷ [])) keys ≡ map (common_at winners) keys
none_noted winners winner [] away = refl
none_noted winners winner (key ∷ keys) away =
    let here = kept_key winners winner key (away key (inl refl)) in
    let rest = none_noted winners winner keys (λ k h. away k (inr h)) in
    rw (here, rest) refl

above_apart : (winner : Winner) (key : AtomKey) (keys : List AtomKey) → AllByRecursion (λ (k : AtomKey). compare_keys key k ≡ Less) keys → winner.atom ≡ key → (k : AtomKey) → In k keys → winner.atom ≡ k → ⊥
above_apart winner key keys up same k h is = less_apart key k (all_in (λ (x : AtomKey). compare_keys key x ≡ Less) keys k up h) (sym same ∙ is)

below_apart : (winner : Winner) (key : AtomKey) (keys : List AtomKey) (at : ℕ) (d : AtomKey) → AllByRecursion (λ (k : AtomKey). compare_keys key k ≡ Less) keys → at < length keys → get_or keys at d ≡ winner.atom → winner.atom ≡ key → ⊥
below_apart winner key keys at d up low is same = less_apart key (get_or keys at d) (all_at (λ (x : AtomKey). compare_keys key x ≡ Less) keys at d up low) (sym same ∙ sym is)

pub one_noted : (winners : List Winner) (winner : Winner) (keys : List AtomKey) (at : ℕ) (d : AtomKey) → IsStrictlySortedBy compare_keys keys → at < length keys → get_or keys at d ≡ winner.atom → get_or (map (common_at winners) keys) at None ≡ None → map (common_at (winners ++ winner ∷ [])) keys ≡ set (map (common_at winners) keys) at (Some (common_of winner))
unfolding IsStrictlySortedBy
one_noted winners winner [] at d up low is none = absurd (omega (arith, low))
one_noted winners winner (key ∷ keys) zero d up low is none =
    let here : common_at (winners ++ winner ∷ []) key ≡ Some (common_of winner) = own_key winners winner key (sym is) ∙ ap (λ (o : Option Atom). option_or o (Some (common_of winner))) none in
    let rest = none_noted winners winner keys (above_apart winner key keys up.0 (sym is)) in
    rw (here, rest) refl
one_noted winners winner (key ∷ keys) (suc at) d up low is none =
    let here = kept_key winners winner key (below_apart winner key keys at d up.0 (omega (arith, low)) is) in
    let rest = one_noted winners winner keys at d up.1 (omega (arith, low)) is none in
    rw (here, rest) refl

pub same_noted : (winners : List Winner) (winner : Winner) (keys : List AtomKey) (at : ℕ) (d : AtomKey) (atom : Atom) → IsStrictlySortedBy compare_keys keys → at < length keys → get_or keys at d ≡ winner.atom → get_or (map (common_at winners) keys) at None ≡ Some atom → map (common_at (winners ++ winner ∷ [])) keys ≡ map (common_at winners) keys
unfolding IsStrictlySortedBy
same_noted winners winner [] at d atom up low is some = absurd (omega (arith, low))
same_noted winners winner (key ∷ keys) zero d atom up low is some =
    let here : common_at (winners ++ winner ∷ []) key ≡ common_at winners key = own_key winners winner key (sym is) ∙ ap (λ (o : Option Atom). option_or o (Some (common_of winner))) some ∙ sym some in
    let rest = none_noted winners winner keys (above_apart winner key keys up.0 (sym is)) in
    rw (here, rest) refl
same_noted winners winner (key ∷ keys) (suc at) d atom up low is some =
    let here = kept_key winners winner key (below_apart winner key keys at d up.0 (omega (arith, low)) is) in
    let rest = same_noted winners winner keys at d atom up.1 (omega (arith, low)) is some in
    rw (here, rest) refl

pub none_is : (o : Option Atom) → is_some o ≡ false → o ≡ None
none_is None e = refl
none_is (Some atom) e = cc

pub some_is : (o : Option Atom) → is_some o ≡ true → o ≡ None → ⊥
some_is o e none = false≢true (ap is_some (sym none) ∙ e)

-- what a step notes, by what it found
pub noted_here : (winners : List Winner) (winner : Winner) (keys : List AtomKey) (before : List (Option Atom)) (at : ℕ) (x : Option Atom) (atom : Atom) → IsStrictlySortedBy compare_keys keys → at < length keys → ((d : AtomKey) → get_or keys at d ≡ winner.atom) → x ≡ get_or before at x → at < length before → x ≡ None → atom ≡ common_of winner → before ≡ map (common_at winners) keys → set before at (Some atom) ≡ map (common_at (winners ++ winner ∷ [])) keys
noted_here winners winner keys before at x atom up low is here within none one are =
    let held : get_or (map (common_at winners) keys) at None ≡ None = ap (λ (os : List (Option Atom)). get_or os at None) (sym are) ∙ element_at before at None x within ∙ sym here ∙ none in
    ap (λ (a : Atom). set before at (Some a)) one ∙ ap (λ (os : List (Option Atom)). set os at (Some (common_of winner))) are ∙ sym (one_noted winners winner keys at winner.atom up low (is winner.atom) held)

pub noted_before : (winners : List Winner) (winner : Winner) (keys : List AtomKey) (before : List (Option Atom)) (at : ℕ) (x : Option Atom) → IsStrictlySortedBy compare_keys keys → at < length keys → ((d : AtomKey) → get_or keys at d ≡ winner.atom) → x ≡ get_or before at x → at < length before → (x ≡ None → ⊥) → before ≡ map (common_at winners) keys → before ≡ map (common_at (winners ++ winner ∷ [])) keys
noted_before winners winner keys before at x up low is here within some are = by x refl
  where
    by : (o : Option Atom) → x ≡ o → before ≡ map (common_at (winners ++ winner ∷ [])) keys
    by None e = absurd (some e)
    by (Some atom) e =
        let held : get_or (map (common_at winners) keys) at None ≡ Some atom = ap (λ (os : List (Option Atom)). get_or os at None) (sym are) ∙ element_at before at None x within ∙ sym here ∙ e in
        are ∙ sym (same_noted winners winner keys at winner.atom atom up low (is winner.atom) held)

pub far_noted : (winners : List Winner) (winner : Winner) (keys : List AtomKey) (before : List (Option Atom)) → All (λ (key : AtomKey). key.section ≡ COMMON_SECTION) keys → (winner.atom.section ≡ COMMON_SECTION → ⊥) → before ≡ map (common_at winners) keys → before ≡ map (common_at (winners ++ winner ∷ [])) keys
far_noted winners winner keys before commons far are =
    are ∙ sym (none_noted winners winner keys (λ key h same. far (ap (λ (k : AtomKey). k.section) same ∙ All-contains (λ (k : AtomKey). k.section ≡ COMMON_SECTION) keys key commons (Contains_from_in keys key h))))

pub missing_noted : (winners : List Winner) (winner : Winner) (keys : List AtomKey) (before : List (Option Atom)) → ((j : ℕ) (d : AtomKey) → j < length keys → compare_keys (get_or keys j d) winner.atom ≡ Equal → ⊥) → before ≡ map (common_at winners) keys → before ≡ map (common_at (winners ++ winner ∷ [])) keys
missing_noted winners winner keys before none are = are ∙ sym (none_noted winners winner keys away)
  where
    away : (key : AtomKey) → In key keys → winner.atom ≡ key → ⊥
    away key h same =
        let there = Contains_from_in keys key h in
        none there.0 key there.1 (ap (λ (k : AtomKey). compare_keys k winner.atom) (there.2 ∙ sym same) ∙ tied_itself compare_keys_total winner.atom)

pub nothing_noted : (keys : List AtomKey) (found : List (Option Atom)) → found ≡ replicate (length keys) None → found ≡ map (common_at []) keys
unfolding common_at
nothing_noted keys found is = is ∙ nothing keys
  where
    none_at : (key : AtomKey) → None ≡ common_at [] key
    none_at key = refl

    nothing : (ks : List AtomKey) → replicate (length ks) None ≡ map (common_at []) ks
    nothing [] = refl
    nothing (key ∷ ks) = ap (λ (os : List (Option Atom)). None ∷ os) (nothing ks) ∙ ap (λ (o : Option Atom). o ∷ map (common_at []) ks) (none_at key)

pub winner_more : (winners : List Winner) (at : ℕ) (winner : Winner) (keys : List AtomKey) (found new : List (Option Atom)) → at < length winners → winner ≡ get_or winners at winner → found ≡ map (common_at (take at winners)) keys → ((ws : List Winner) → found ≡ map (common_at ws) keys → new ≡ map (common_at (ws ++ winner ∷ [])) keys) → new ≡ map (common_at (take (at + 1) winners)) keys
winner_more winners at winner keys found new low is are step =
    step (take at winners) are ∙ ap (λ (ws : List Winner). map (common_at ws) keys) (ap (λ (w : Winner). take at winners ++ w ∷ []) is ∙ sym (take_more winners at winner low))

pub winners_end : (winners : List Winner) (at : ℕ) (keys : List AtomKey) (found : List (Option Atom)) → length winners ≤ at → found ≡ map (common_at (take at winners)) keys → found ≡ map (common_at winners) keys
winners_end winners at keys found past are = are ∙ ap (λ (ws : List Winner). map (common_at ws) keys) (take_all at winners past)

-- ---- keys that rise, and the atoms for them

rising_filter : (t : AtomKey → Bool) (keys : List AtomKey) → IsStrictlySortedBy compare_keys keys → IsStrictlySortedBy compare_keys (filter t keys)
unfolding IsStrictlySortedBy
rising_filter t [] up = tt
rising_filter t (key ∷ keys) up = elim (cases_Bool (t key)) [
  | inl here ↦ rw here (all_from_in (λ (k : AtomKey). compare_keys key k ≡ Less) (filter t keys) (λ k h. all_in (λ (x : AtomKey). compare_keys key x ≡ Less) keys k up.0 (from_filter t keys k h).0), rising_filter t keys up.1)
  | inr away ↦ rw away (rising_filter t keys up.1)
]

pub common_rises : (keys : List AtomKey) → IsStrictlySortedBy compare_keys keys → IsStrictlySortedBy compare_keys (common_keys keys)
unfolding common_keys
common_rises keys up = rising_filter (λ (key : AtomKey). key.section == COMMON_SECTION) keys up

pub are_common : (keys : List AtomKey) → All (λ (key : AtomKey). key.section ≡ COMMON_SECTION) (common_keys keys)
unfolding common_keys
are_common keys = All-from_recursion Common (filter is_common keys) (all_from_in Common (filter is_common keys) (λ key h. eqb-true key.section COMMON_SECTION (from_filter is_common keys key h).1))
  where
    is_common : AtomKey → Bool
    is_common key = key.section == COMMON_SECTION

    Common : AtomKey → Type 0
    Common key = key.section ≡ COMMON_SECTION

pub common_key : (winners : List Winner) (key : AtomKey) (atom : Atom) → common_at winners key ≡ Some atom → atom.key ≡ key
unfolding common_at
common_key winners key atom e =
    let found = from_mapped common_of (find (λ (w : Winner). is_eq (compare_keys w.atom key)) winners) atom e in
    let passes = find_some (λ (w : Winner). is_eq (compare_keys w.atom key)) winners found.0 found.1 in
    ap (λ (a : Atom). a.key) (sym found.2) ∙ same_key found.0.atom key (is_equal (compare_keys found.0.atom key) passes.1)

atoms_rise : (winners : List Winner) (keys : List AtomKey) → IsStrictlySortedBy compare_keys keys → IsStrictlySortedBy (on (λ (atom : Atom). atom.key) compare_keys) (filter_map (common_at winners) keys)
unfolding IsStrictlySortedBy
atoms_rise winners [] up = tt
atoms_rise winners (key ∷ keys) up = by (common_at winners key) refl (atoms_rise winners keys up.1)
  where
    Above : Atom → Atom → Type 0
    Above a b = compare_keys a.key b.key ≡ Less

    later : (atom : Atom) → atom.key ≡ key → (b : Atom) → In b (filter_map (common_at winners) keys) → Above atom b
    later atom is b h =
        let from = from_filter_map (common_at winners) keys b h in
        let less : compare_keys key from.0 ≡ Less = all_in (λ (x : AtomKey). compare_keys key x ≡ Less) keys from.0 up.0 from.1 in
        ap (λ (k : AtomKey). compare_keys k b.key) is ∙ ap (λ (k : AtomKey). compare_keys key k) (common_key winners from.0 b from.2) ∙ less

    by : (o : Option Atom) → common_at winners key ≡ o → IsStrictlySortedBy (on (λ (atom : Atom). atom.key) compare_keys) (filter_map (common_at winners) keys) → IsStrictlySortedBy (on (λ (atom : Atom). atom.key) compare_keys) (filter_map (common_at winners) (key ∷ keys))
    by None e rest = rw e rest
    by (Some atom) e rest = rw e (all_from_in (Above atom) (filter_map (common_at winners) keys) (later atom (common_key winners key atom e)), rest)

pub commons_rise : (winners : List Winner) (keys : List AtomKey) → IsStrictlySortedBy compare_keys keys → IsStrictlySortedBy (on (λ (atom : Atom). atom.key) compare_keys) (all_commons winners keys)
unfolding all_commons
commons_rise winners keys up = atoms_rise winners (common_keys keys) (common_rises keys up)

-- ---- those of one file

pub commons_are : (winners : List Winner) (keys : List AtomKey) (id : FileId) → filter (λ (atom : Atom). is_eq (compare_files atom.key.file id)) (all_commons winners keys) ≡ commons_in winners keys id
unfolding all_commons common_keys commons_in
commons_are winners [] id = refl
commons_are winners (key ∷ keys) id = by_section (key.section == COMMON_SECTION) refl (commons_are winners keys id)
  where
    of_file : Atom → Bool
    of_file atom = is_eq (compare_files atom.key.file id)

    Same : List AtomKey → Type 0
    Same ks = filter of_file (filter_map (common_at winners) (filter (λ (k : AtomKey). k.section == COMMON_SECTION) ks)) ≡ filter_map (common_at winners) (filter (is_common_of id) ks)

    by_atom : (o : Option Atom) (b : Bool) → common_at winners key ≡ o → is_eq (compare_files key.file id) ≡ b → Same keys
        → filter of_file (Rattle.std.specs.List.cons_option o (filter_map (common_at winners) (filter (λ (k : AtomKey). k.section == COMMON_SECTION) keys))) ≡ filter_map (common_at winners) (if b then key ∷ filter (is_common_of id) keys else filter (is_common_of id) keys)
    by_atom None true found e rest = rw found rest
    by_atom None false found e rest = rest
    by_atom (Some atom) true found e rest =
        let here : of_file atom ≡ true = ap (λ (k : AtomKey). is_eq (compare_files k.file id)) (common_key winners key atom found) ∙ e in
        rw (found, here) (ap (λ (atoms : List Atom). atom ∷ atoms) rest)
    by_atom (Some atom) false found e rest =
        let here : of_file atom ≡ false = ap (λ (k : AtomKey). is_eq (compare_files k.file id)) (common_key winners key atom found) ∙ e in
        rw here rest

    by_section : (b : Bool) → (key.section == COMMON_SECTION) ≡ b → Same keys → Same (key ∷ keys)
    by_section false e rest = rw e rest
    by_section true e rest = rw e (by_atom (common_at winners key) (is_eq (compare_files key.file id)) refl refl rest)

-- ---- where a file's atoms stand among those that rise

is_less : (o : Ordering) → is_lt o ≡ true → o ≡ Less
is_less Less e = refl
is_less Equal e = cc
is_less Greater e = cc

before_stays : (a b c : FileId) → is_gt (compare_files a b) ≡ false → is_lt (compare_files b c) ≡ true → is_lt (compare_files a c) ≡ true
before_stays a b c low high = by (compare_files a b) refl low
  where
    by : (o : Ordering) → compare_files a b ≡ o → is_gt o ≡ false → is_lt (compare_files a c) ≡ true
    by Less e f = ap is_lt (compare_files_total.trans a b c e (is_less (compare_files b c) high))
    by Equal e f = ap is_lt (compare_files_total.congr a b c e) ∙ high
    by Greater e f = absurd cc

up_to_stays : (a b c : FileId) → is_gt (compare_files a b) ≡ false → is_gt (compare_files b c) ≡ false → is_gt (compare_files a c) ≡ false
up_to_stays a b c low high = by (compare_files a b) refl low
  where
    above : (o : Ordering) → compare_files a c ≡ o → compare_files a b ≡ Less → is_gt o ≡ false
    above Less e f = refl
    above Equal e f = refl
    above Greater e f =
        let back : compare_files c a ≡ Less = compare_files_total.antisymm c a ∙ ap ordering_reverse e in
        let under : compare_files c b ≡ Less = compare_files_total.trans c a b back f in
        let over : compare_files b c ≡ Greater = compare_files_total.antisymm b c ∙ ap ordering_reverse under in
        absurd (false≢true (sym high ∙ ap is_gt over))

    by : (o : Ordering) → compare_files a b ≡ o → is_gt o ≡ false → is_gt (compare_files a c) ≡ false
    by Less e f = above (compare_files a c) refl e
    by Equal e f = ap is_gt (compare_files_total.congr a b c e) ∙ high
    by Greater e f = absurd cc

files_rise : (a b : AtomKey) → compare_keys a b ≡ Less → is_gt (compare_files a.file b.file) ≡ false
files_rise a b less = by (compare_files a.file b.file) (ordering_then (nat_cmp a.section b.section) (nat_cmp a.offset b.offset)) less
  where
    by : (o rest : Ordering) → ordering_then o rest ≡ Less → is_gt o ≡ false
    by Less rest e = refl
    by Equal rest e = refl
    by Greater rest e = absurd cc

same_file : (a : FileId) → is_gt (compare_files a a) ≡ false
same_file a = ap is_gt (tied_itself compare_files_total a)

no_later : (atoms : List Atom) (i j : ℕ) (d : Atom) → IsStrictlySortedBy (on (λ (atom : Atom). atom.key) compare_keys) atoms → i ≤ j → j < length atoms → is_gt (compare_files (get_or atoms i d).key.file (get_or atoms j d).key.file) ≡ false
no_later atoms i j d up low high = elim (cases_lt i j) [
  | inl less ↦ files_rise (get_or atoms i d).key (get_or atoms j d).key (rising_at (on (λ (atom : Atom). atom.key) compare_keys) atoms i j d up less high)
  | inr more ↦ let same : i ≡ j = omega (arith, low, more) in rw same (same_file (get_or atoms j d).key.file)
]

pub below_parted : (atoms : List Atom) (id : FileId) → IsStrictlySortedBy (on (λ (atom : Atom). atom.key) compare_keys) atoms → IsPartitionedBy (is_below id) atoms
below_parted atoms id up = λ i j d low high passes. before_stays (get_or atoms i d).key.file (get_or atoms j d).key.file id (no_later atoms i j d up low high) passes

pub up_to_parted : (atoms : List Atom) (id : FileId) → IsStrictlySortedBy (on (λ (atom : Atom). atom.key) compare_keys) atoms → IsPartitionedBy (is_up_to id) atoms
up_to_parted atoms id up = λ i j d low high passes.
    ap not (up_to_stays (get_or atoms i d).key.file (get_or atoms j d).key.file id (no_later atoms i j d up low high) (not_true _ passes))

-- those from one count to another
below_up_to : (id : FileId) (atom : Atom) → is_below id atom ≡ true → is_up_to id atom ≡ false → ⊥
below_up_to id atom first second = by (compare_files atom.key.file id) first second
  where
    by : (o : Ordering) → is_lt o ≡ true → not (is_gt o) ≡ false → ⊥
    by Less e f = cc
    by Equal e f = cc
    by Greater e f = cc

pub in_turn : (id : FileId) (atoms : List Atom) (start end : ℕ) → IsCountBelow id atoms start → IsCountUpTo id atoms end → start ≤ end
in_turn id atoms start end below up_to = elim (cases_lt end start) [
  | inr fine ↦ fine
  | inl past ↦ absurd (at_end past (slice_get_cases atoms end).1)
]
  where
    at_end : end < start → ((x : Atom) × (end < length atoms) × (slice_get atoms end ≡ Some x) × (get_or atoms end x ≡ x)) ⊎ ((length atoms ≤ end) × (slice_get atoms end ≡ None)) → ⊥
    at_end past (inl (x, low, some, is)) = below_up_to id (get_or atoms end x) (below.point.0 end x (omega arith) past) (up_to.point.1 end x (omega arith) low)
    at_end past (inr (past_all, none)) = let most = below.within in omega (arith, past, past_all, most)

none_filter : {X : Type 0} (t : X → Bool) (xs : List X) → ((k : ℕ) (d : X) → k < length xs → t (get_or xs k d) ≡ false) → [] ≡ filter t xs
none_filter t [] none = refl
none_filter t (x ∷ xs) none =
    let here : t x ≡ false = none 0 x (omega arith) in
    let rest = none_filter t xs (λ k d low. none (suc k) d (omega arith)) in
    rw here rest

take_none : {X : Type 0} (n : ℕ) → take {A = X} n [] ≡ []
take_none zero = refl
take_none (suc n) = refl

front_filter : {X : Type 0} (t : X → Bool) (xs : List X) (n : ℕ) → ((k : ℕ) (d : X) → k < n → k < length xs → t (get_or xs k d) ≡ true) → ((k : ℕ) (d : X) → n ≤ k → k < length xs → t (get_or xs k d) ≡ false) → take n xs ≡ filter t xs
front_filter t [] n holds fails = take_none n
front_filter t (x ∷ xs) zero holds fails = none_filter t (x ∷ xs) (λ k d low. fails k d (omega arith) low)
front_filter {X = X} t (x ∷ xs) (suc n) holds fails =
    let here : t x ≡ true = holds 0 x (omega arith) (omega arith) in
    let rest = front_filter t xs n (λ k d below low. holds (suc k) d (omega arith) (omega arith)) (λ k d above low. fails (suc k) d (omega arith) (omega arith)) in
    rw here (ap (λ (ys : List X). x ∷ ys) rest)

range_filter : {X : Type 0} (t : X → Bool) (xs : List X) (i n : ℕ) → ((k : ℕ) (d : X) → k < i → k < length xs → t (get_or xs k d) ≡ false) → ((k : ℕ) (d : X) → i ≤ k → k < i + n → k < length xs → t (get_or xs k d) ≡ true) → ((k : ℕ) (d : X) → i + n ≤ k → k < length xs → t (get_or xs k d) ≡ false) → take n (drop i xs) ≡ filter t xs
range_filter t xs zero n before holds after = front_filter t xs n (λ k d below low. holds k d (omega arith) (omega arith) low) (λ k d above low. after k d (omega arith) low)
range_filter t [] (suc i) n before holds after = take_none n
range_filter t (x ∷ xs) (suc i) n before holds after =
    let here : t x ≡ false = before 0 x (omega arith) (omega arith) in
    let rest = range_filter t xs i n (λ k d below low. before (suc k) d (omega arith) (omega arith)) (λ k d above below low. holds (suc k) d (omega arith) (omega arith) (omega arith)) (λ k d above low. after (suc k) d (omega arith) (omega arith)) in
    rw here rest

not_same : (o : Ordering) → is_lt o ≡ true → is_eq o ≡ false
not_same Less e = refl
not_same Equal e = cc
not_same Greater e = refl

not_later : (o : Ordering) → not (is_gt o) ≡ false → is_eq o ≡ false
not_later Less e = refl
not_later Equal e = cc
not_later Greater e = refl

just_same : (o : Ordering) → is_lt o ≡ false → not (is_gt o) ≡ true → is_eq o ≡ true
just_same Less e f = cc
just_same Equal e f = refl
just_same Greater e f = cc

pub of_file : (id : FileId) (atoms : List Atom) (start end : ℕ) → IsCountBelow id atoms start → IsCountUpTo id atoms end → take (end - start) (drop start atoms) ≡ filter (λ (atom : Atom). is_eq (compare_files atom.key.file id)) atoms
of_file id atoms start end below up_to =
    let turn = in_turn id atoms start end below up_to in
    let high = up_to.within in
    range_filter (λ (atom : Atom). is_eq (compare_files atom.key.file id)) atoms start (end - start)
    (λ k d low within. not_same (compare_files (get_or atoms k d).key.file id) (below.point.0 k d (omega arith) low))
    (λ k d above low within. just_same (compare_files (get_or atoms k d).key.file id) (below.point.1 k d above within) (up_to.point.0 k d (omega arith) (omega (arith, low, turn))))
    (λ k d above within. not_later (compare_files (get_or atoms k d).key.file id) (up_to.point.1 k d (omega (arith, above, turn)) within))
