-- The roots, and the atoms that are marked by numbers, are what is kept.
use Rattle.std.proofs.Common.{◌≡◌, ℕ, ◌+◌, ◌<◌, ◌⊎◌, Bool, true, false, List, [], ◌∷◌, ◌++◌, All, map, length, cond, inl, inr, refl, sym, ◌∙◌, ap, subst, arith}
use Rattle.std.specs.List.{IsDistinct, filter}
use Rattle.std.specs.List.Sorted.{IsStrictlySortedBy}
use Rattle.std.proofs.lemmas.Bool.{cases_eq, cases_lt, eqb-true}
use Rattle.std.proofs.lemmas.List.{append-nil, get_or-map, length-map}
use Rattle.std.proofs.lemmas.List.Elements.{All-contains, All-from_get_or, All-from_recursion}
use Rattle.std.proofs.lemmas.Map.Keys.{apart_from_distinct}
use Rattle.list_lemmas.proofs.Members.{In, Contains_from_in, all_from_in, from_filter, from_last, from_map, in_either, in_filter, in_last, in_left, in_map, in_right}
use Rattle.mo_types.specs.Keys.{compare_keys}
use Rattle.mo_types.specs.declared.edge.Edge.{Edge}
use Rattle.mo_types.specs.declared.key.AtomKey.{AtomKey}
use Rattle.mark_core.specs.Kept.{IsClosed, IsKept, has, same_atom}
use Rattle.mark_core.specs.inner.Arrows.{reversed}
use Rattle.mark_core.proofs.KeyLemmas.{itself, no_atom}
use Rattle.mark_core.proofs.SetLemmas.{has_from_in, in_from_has}
use Rattle.mark_race.specs.declared.numbers.Arrow.{Arrow}
use Rattle.mark_race.specs.Ends.{row_of}
use Rattle.mark_race.specs.Least.{AreLeast, IsClosedFor}
use Rattle.mark_race.specs.Marks.{at_start, times}
use Rattle.mark_race.specs.inner.Numbers.{AreEnds, AreNumbered, ArePicked, IsWithin, atom_at, edge_of, ends_from, is_from}
use Rattle.mark_race.proofs.LevelLemmas.{here_times, marked_below, row_past}
use Rattle.mark_race.proofs.Steps.{times_cons}
use Rattle.mark_race.proofs.FillLemmas.{same_test}
use Rattle.mark_race.proofs.Words.{miss}

-- ---- members and how often they stand in a list

times_from_in : (xs : List ℕ) (x : ℕ) → In x xs → 0 < times x xs
times_from_in [] x h = absurd h
times_from_in (y ∷ ys) x (inl e) = subst (λ (z : ℕ). 0 < times z (y ∷ ys)) e (here_times y ys)
times_from_in (y ∷ ys) x (inr h) = omega (arith, times_from_in ys x h, times_cons x y ys)

in_from_times : (xs : List ℕ) (x : ℕ) → 0 < times x xs → In x xs
in_from_times [] x has = absurd (omega arith)
in_from_times (y ∷ ys) x has = elim (cases_eq y x) [
  | inl e ↦ inl e
  | inr apart ↦ inr (in_from_times ys x (omega (arith, has, times_cons x y ys, miss y x apart)))
]

-- ---- atoms that are picked

pub picked_none : (atoms : List AtomKey) (marked : List Bool) (list : List AtomKey) → list ≡ [] → ArePicked atoms marked 0 list
picked_none atoms marked list empty = record {
  each = λ number low. absurd (omega arith);
  only = λ atom h. absurd (subst (In atom) empty h);
}

pub picked_more : (atoms list new : List AtomKey) (marked : List Bool) (n : ℕ) (is : Bool) (atom : AtomKey) → ArePicked atoms marked n list → is ≡ at_start marked n → atom ≡ atom_at atoms n → new ≡ list ++ cond is (atom ∷ []) [] → ArePicked atoms marked (n + 1) new
picked_more atoms list new marked n true atom so at there grown = subst (ArePicked atoms marked (n + 1)) (sym grown) (record {
  each = λ number low marks. elim (cases_lt number n) [
    | inl below ↦ in_left list (atom ∷ []) (atom_at atoms number) (so.each number below marks)
    | inr past ↦ let same : n ≡ number = omega arith in subst (λ (k : AtomKey). In k (list ++ atom ∷ [])) (there ∙ ap (atom_at atoms) same) (in_last list atom)
  ];
  only = λ other h. elim (from_last list atom other h) [
    | inl old ↦ so.only other old
    | inr e ↦ (n, sym at, sym there ∙ e)
  ];
})
picked_more atoms list new marked n false atom so at there grown = subst (ArePicked atoms marked (n + 1)) (sym (grown ∙ append-nil list)) (record {
  each = λ number low marks. elim (cases_lt number n) [
    | inl below ↦ so.each number below marks
    | inr past ↦ let same : n ≡ number = omega arith in absurd (let e : true ≡ false = sym marks ∙ (ap (at_start marked) (sym same) ∙ sym at) in cc)
  ];
  only = so.only;
})

-- ---- what is kept

-- what was marked of what edges, supports and roots name, and the roots and the marked atoms in order
pub record AreMarked (edges supports : List Edge) (roots atoms : List AtomKey) (arrows : List Arrow) (table : List (List ℕ)) (start marked : List Bool) (picked kept : List AtomKey) : Type 0 where
  pub numbered : AreNumbered (edges ++ map reversed supports) atoms arrows
  pub once : IsDistinct same_atom atoms
  pub ends : AreEnds arrows (length atoms) table
  pub starting : start ≡ map (has roots) atoms
  pub least : AreLeast table start marked
  pub picks : ArePicked atoms marked (length marked) picked
  pub same : (atom : AtomKey) → has kept atom ≡ has (roots ++ picked) atom

module _ (edges supports : List Edge) (roots atoms : List AtomKey) (arrows : List Arrow) (table : List (List ℕ)) (start marked : List Bool) (picked kept : List AtomKey) (so : AreMarked edges supports roots atoms arrows table start marked picked kept) where
  start_long : length start ≡ length atoms
  start_long = ap length so.starting ∙ length-map atoms (has roots)

  long : length marked ≡ length atoms
  long = so.least.long ∙ start_long

  at_root : (number : ℕ) → number < length atoms → at_start start number ≡ has roots (atom_at atoms number)
  at_root number low = ap (λ (bs : List Bool). at_start bs number) so.starting ∙ get_or-map (has roots) atoms number no_atom false low

  -- the one number of an atom
  one_place : (n m : ℕ) → n < length atoms → m < length atoms → atom_at atoms n ≡ atom_at atoms m → n < m → ⊥
  one_place n m low high e before =
      let apart : same_atom (atom_at atoms n) (atom_at atoms m) ≡ false = apart_from_distinct same_atom atoms n m no_atom so.once before high in
      let tied : same_atom (atom_at atoms n) (atom_at atoms m) ≡ true = ap (same_atom (atom_at atoms n)) (sym e) ∙ itself (atom_at atoms n) in absurd (let f : true ≡ false = sym tied ∙ apart in cc)

  same_place : (n m : ℕ) → n < length atoms → m < length atoms → atom_at atoms n ≡ atom_at atoms m → n ≡ m
  same_place n m low high e = elim (cases_lt n m) [
    | inl before ↦ absurd (one_place n m low high e before)
    | inr not_before ↦ elim (cases_lt m n) [
      | inl behind ↦ absurd (one_place m n high low (sym e) behind)
      | inr not_behind ↦ omega arith
    ]
  ]

  from_kept : (atom : AtomKey) → has kept atom ≡ true → In atom roots ⊎ In atom picked
  from_kept atom h = in_either roots picked atom (in_from_has (roots ++ picked) atom (sym (so.same atom) ∙ h))

  keep_root : (atom : AtomKey) → In atom roots → has kept atom ≡ true
  keep_root atom h = so.same atom ∙ has_from_in (roots ++ picked) atom (in_left roots picked atom h)

  keep_picked : (atom : AtomKey) → In atom picked → has kept atom ≡ true
  keep_picked atom h = so.same atom ∙ has_from_in (roots ++ picked) atom (in_right roots picked atom h)

  -- an atom that is kept is marked at its number
  marked_at : (number : ℕ) → number < length atoms → In (atom_at atoms number) roots ⊎ In (atom_at atoms number) picked → at_start marked number ≡ true
  marked_at number low (inl root) = so.least.closed.begun number (at_root number low ∙ has_from_in roots (atom_at atoms number) root)
  marked_at number low (inr h) =
      let it : (n : ℕ) × (at_start marked n ≡ true) × (atom_at atoms n ≡ atom_at atoms number) = so.picks.only (atom_at atoms number) h in
      let place : it.0 ≡ number = same_place it.0 number (omega (arith, marked_below marked it.0 it.1, long)) low it.2 in subst (λ (n : ℕ). at_start marked n ≡ true) place it.1

  -- an arrow leads from what is kept to what is kept
  along : (arrow : Arrow) → In arrow arrows → has kept (atom_at atoms arrow.from) ≡ true → has kept (atom_at atoms arrow.to) ≡ true
  along arrow there h =
      let within : IsWithin (length atoms) arrow = All-contains (IsWithin (length atoms)) arrows arrow so.numbered.within (Contains_from_in arrows arrow there) in
      let begins : at_start marked arrow.from ≡ true = marked_at arrow.from within.0 (from_kept (atom_at atoms arrow.from) h) in
      let row : In arrow.to (ends_from arrows arrow.from) = in_map (λ (a : Arrow). a.to) (filter (is_from arrow.from) arrows) arrow (in_filter (is_from arrow.from) arrows arrow there (same_test arrow.from arrow.from refl)) in
      let has_end : 0 < times arrow.to (row_of table arrow.from) = subst (λ (r : List ℕ). 0 < times arrow.to r) (sym (so.ends.each arrow.from within.0)) (times_from_in (ends_from arrows arrow.from) arrow.to row) in
      let ends : at_start marked arrow.to ≡ true = so.least.closed.led arrow.from arrow.to begins has_end in
      keep_picked (atom_at atoms arrow.to) (so.picks.each arrow.to (omega (arith, within.1, long)) ends)

  goes_on : (edge : Edge) → In edge (edges ++ map reversed supports) → has kept edge.from ≡ true → has kept edge.to ≡ true
  goes_on edge there =
      let it : (arrow : Arrow) × In arrow arrows × (edge_of atoms arrow ≡ edge) = from_map (edge_of atoms) arrows edge (subst (In edge) (sym so.numbered.named) there) in
      subst (λ (e : Edge). has kept e.from ≡ true → has kept e.to ≡ true) it.2 (along it.0 it.1)

  is_closed : IsClosed edges supports roots (has kept)
  is_closed = record {
    rooted = All-from_recursion (λ atom. has kept atom ≡ true) roots (all_from_in (λ atom. has kept atom ≡ true) roots keep_root);
    led = All-from_recursion (λ edge. has kept edge.from ≡ true → has kept edge.to ≡ true) edges (all_from_in (λ edge. has kept edge.from ≡ true → has kept edge.to ≡ true) edges
        (λ edge h. goes_on edge (in_left edges (map reversed supports) edge h)));
    supported = All-from_recursion (λ support. has kept support.to ≡ true → has kept support.from ≡ true) supports (all_from_in (λ support. has kept support.to ≡ true → has kept support.from ≡ true) supports
        (λ support h. goes_on (reversed support) (in_right edges (map reversed supports) (reversed support) (in_map reversed supports support h))));
  }

  module _ (set : AtomKey → Bool) (closed : IsClosed edges supports roots set) where
    in_set : (atom : AtomKey) → In atom roots → set atom ≡ true
    in_set atom h = All-contains (λ a. set a ≡ true) roots atom closed.rooted (Contains_from_in roots atom h)

    leads : (edge : Edge) → In edge edges ⊎ In edge (map reversed supports) → set edge.from ≡ true → set edge.to ≡ true
    leads edge (inl h) = All-contains (λ (e : Edge). set e.from ≡ true → set e.to ≡ true) edges edge closed.led (Contains_from_in edges edge h)
    leads edge (inr h) =
        let it : (support : Edge) × In support supports × (reversed support ≡ edge) = from_map reversed supports edge h in
        subst (λ (e : Edge). set e.from ≡ true → set e.to ≡ true) it.2 (All-contains (λ (s : Edge). set s.to ≡ true → set s.from ≡ true) supports it.0 closed.supported (Contains_from_in supports it.0 it.1))

    set_of : ℕ → Bool
    set_of number = set (atom_at atoms number)

    along_set : (number to : ℕ) → set (atom_at atoms number) ≡ true → number < length atoms → 0 < times to (row_of table number) → set (atom_at atoms to) ≡ true
    along_set number to h low has_end =
        let row : In to (ends_from arrows number) = in_from_times (ends_from arrows number) to (subst (λ (r : List ℕ). 0 < times to r) (so.ends.each number low) has_end) in
        let it : (a : Arrow) × In a (filter (is_from number) arrows) × (a.to ≡ to) = from_map (λ (a : Arrow). a.to) (filter (is_from number) arrows) to row in
        let passed : In it.0 arrows × (is_from number it.0 ≡ true) = from_filter (is_from number) arrows it.0 it.1 in
        let source : it.0.from ≡ number = eqb-true it.0.from number passed.1 in
        let edge : In (edge_of atoms it.0) (edges ++ map reversed supports) = subst (In (edge_of atoms it.0)) so.numbered.named (in_map (edge_of atoms) arrows it.0 passed.0) in
        subst (λ (n : ℕ). set (atom_at atoms n) ≡ true) it.2
        (leads (edge_of atoms it.0) (in_either edges (map reversed supports) (edge_of atoms it.0) edge) (subst (λ (n : ℕ). set (atom_at atoms n) ≡ true) (sym source) h))

    closed_numbers : IsClosedFor table start (λ number. set (atom_at atoms number))
    closed_numbers = record {
      begun = λ number h.
          let low : number < length atoms = omega (arith, marked_below start number h, start_long) in
          in_set (atom_at atoms number) (in_from_has roots (atom_at atoms number) (sym (at_root number low) ∙ h));
      led = λ number to h has_end. elim (cases_lt number (length atoms)) [
        | inl low ↦ along_set number to h low has_end
        | inr past ↦ absurd (row_past table number to (omega (arith, past, so.ends.long)) has_end)
      ];
    }

    each_in : (atom : AtomKey) → In atom roots ⊎ In atom picked → set atom ≡ true
    each_in atom (inl h) = in_set atom h
    each_in atom (inr h) =
        let it : (n : ℕ) × (at_start marked n ≡ true) × (atom_at atoms n ≡ atom) = so.picks.only atom h in
        subst (λ (k : AtomKey). set k ≡ true) it.2 (so.least.least (λ number. set (atom_at atoms number)) closed_numbers it.0 it.1)

    is_least : All (λ atom. set atom ≡ true) kept
    is_least = All-from_recursion (λ atom. set atom ≡ true) kept (all_from_in (λ atom. set atom ≡ true) kept (λ atom h. each_in atom (from_kept atom (has_from_in kept atom h))))

  pub is_kept : IsStrictlySortedBy compare_keys kept → IsKept edges supports roots kept
  is_kept rises = record { closed = is_closed; least = is_least; rises = rises }

-- ---- the same of what was read

-- the ends of a table are numbers of atoms
ends_within : (all : List Edge) (atoms : List AtomKey) (arrows : List Arrow) (number : ℕ) → AreNumbered all atoms arrows → All (λ to. to < length atoms) (ends_from arrows number)
ends_within all atoms arrows number so = All-from_recursion (λ to. to < length atoms) (ends_from arrows number) (all_from_in (λ to. to < length atoms) (ends_from arrows number) each)
  where
    each : (to : ℕ) → In to (ends_from arrows number) → to < length atoms
    each to h =
        let it : (a : Arrow) × In a (filter (is_from number) arrows) × (a.to ≡ to) = from_map (λ (a : Arrow). a.to) (filter (is_from number) arrows) to h in
        let passed : In it.0 arrows × (is_from number it.0 ≡ true) = from_filter (is_from number) arrows it.0 it.1 in
        let within : IsWithin (length atoms) it.0 = All-contains (IsWithin (length atoms)) arrows it.0 so.within (Contains_from_in arrows it.0 passed.0) in
        subst (λ (n : ℕ). n < length atoms) it.2 within.1

pub arrows_within : (all : List Edge) (atoms : List AtomKey) (arrows read : List Arrow) (count : ℕ) → AreNumbered all atoms arrows → read ≡ arrows → count ≡ length atoms → All (IsWithin count) read
arrows_within all atoms arrows read count so e f = subst (λ (n : ℕ). All (IsWithin n) read) (sym f) (subst (All (IsWithin (length atoms))) (sym e) so.within)

start_size : (roots atoms : List AtomKey) (start read : List Bool) → start ≡ map (has roots) atoms → read ≡ start → length read ≡ length atoms
start_size roots atoms start read is e = ap length (e ∙ is) ∙ length-map atoms (has roots)

pub start_few : (roots atoms : List AtomKey) (start read : List Bool) (bound : ℕ) → start ≡ map (has roots) atoms → read ≡ start → length atoms < bound → length read < bound
start_few roots atoms start read bound is e few = omega (arith, start_size roots atoms start read is e)

pub table_long : (roots atoms : List AtomKey) (arrows : List Arrow) (count : ℕ) (table : List (List ℕ)) (start read : List Bool) → AreEnds arrows count table → count ≡ length atoms → start ≡ map (has roots) atoms → read ≡ start → length table ≡ length read
table_long roots atoms arrows count table start read ends c is e = ends.long ∙ (c ∙ sym (start_size roots atoms start read is e))

pub table_fits : (all : List Edge) (roots atoms : List AtomKey) (arrows read_arrows : List Arrow) (count : ℕ) (table : List (List ℕ)) (start read : List Bool) → AreNumbered all atoms arrows → read_arrows ≡ arrows → AreEnds read_arrows count table → count ≡ length atoms → start ≡ map (has roots) atoms → read ≡ start
    → All (λ row. All (λ atom. atom < length read) row) table
table_fits all roots atoms arrows read_arrows count table start read so e ends c is f =
    All-from_get_or (λ row. All (λ atom. atom < length read) row) table [] (λ k low.
    subst (All (λ (atom : ℕ). atom < length read)) (sym (ends.each k (omega (arith, ends.long)) ∙ ap (λ (xs : List Arrow). ends_from xs k) e))
    (subst (λ (n : ℕ). All (λ (atom : ℕ). atom < n) (ends_from arrows k)) (sym (start_size roots atoms start read is f)) (ends_within all atoms arrows k so)))

pub picked_long : (roots atoms : List AtomKey) (table : List (List ℕ)) (start read marked read_marked : List Bool) → start ≡ map (has roots) atoms → read ≡ start → AreLeast table read marked → read_marked ≡ marked → length read_marked ≡ length atoms
picked_long roots atoms table start read marked read_marked is e least f = ap length f ∙ (least.long ∙ start_size roots atoms start read is e)

pub kept_of_read : (edges read_edges supports read_supports : List Edge) (roots atoms : List AtomKey) (arrows read_arrows : List Arrow) (count : ℕ) (table : List (List ℕ)) (start read_start marked read_marked : List Bool) (picked kept list : List AtomKey)
    → read_edges ≡ edges → read_supports ≡ supports → read_arrows ≡ arrows → count ≡ length atoms → read_start ≡ start → read_marked ≡ marked
    → AreNumbered (read_edges ++ map reversed read_supports) atoms arrows → IsDistinct same_atom atoms → AreEnds read_arrows count table → start ≡ map (has roots) atoms → AreLeast table read_start marked → ArePicked atoms read_marked (length read_marked) picked
    → ((atom : AtomKey) → has kept atom ≡ has (roots ++ picked) atom) → IsStrictlySortedBy compare_keys kept → list ≡ kept → IsKept edges supports roots list
kept_of_read edges read_edges supports read_supports roots atoms arrows read_arrows count table start read_start marked read_marked picked kept list e s a c b m numbered once ends starting least picks same rises l =
    subst (IsKept edges supports roots) (sym l) (is_kept edges supports roots atoms arrows table start marked picked kept (record {
      numbered = subst (λ (es : List Edge). AreNumbered (es ++ map reversed supports) atoms arrows) e (subst (λ (ss : List Edge). AreNumbered (read_edges ++ map reversed ss) atoms arrows) s numbered);
      once = once;
      ends = subst (λ (n : ℕ). AreEnds arrows n table) c (subst (λ (xs : List Arrow). AreEnds xs count table) a ends);
      starting = starting;
      least = subst (λ (bs : List Bool). AreLeast table bs marked) b least;
      picks = subst (λ (bs : List Bool). ArePicked atoms bs (length bs) picked) m picks;
      same = same;
    }) rises)
