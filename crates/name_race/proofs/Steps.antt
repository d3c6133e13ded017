-- Each step keeps the rule of the race.
use Rattle.std.proofs.Common.{◌≡◌, ◌≢◌, ℕ, zero, suc, ◌<◌, ◌≤◌, min, List, [], ◌∷◌, ◌++◌, length, get_or, set, refl, sym, ◌∙◌, ap, subst, ⊎_elim, arith, append-nil, le_refl, le_trans, get_or-set_same, get_or-set_other}
use Rattle.std.proofs.Math.Nat.{min-le_left, min-le_right}
use mathlib.Core.Option.{none, some, some-injective, some-ne-none}
use lib.ListN.{get_elem?}
use Rattle.std.specs.List.{Contains}
use Rattle.std.proofs.lemmas.Bool.{cases_eq, cases_lt}
use Rattle.std.proofs.lemmas.List.{set-get_or, set_past}
use Rattle.std.proofs.lemmas.List.Elements.{All-nil, All-cons, All-append, All-weaker, All-contains}
use Rattle.atomic_table.specs.Table.{State, Me, keeps, Allows, Splits, Joins, step, opening}
use Rattle.atomic_table.proofs.Lists.{at_set, at_snoc}
use Rattle.race_core.specs.Run.{run}
use Rattle.race_core.proofs.Runs.{length-run, run-nil, run-push, run-le, run-IsPermutation}
use Rattle.name_race.specs.declared.rule.Terms.{Terms}
use Rattle.name_race.specs.declared.rule.View.{View}
use Rattle.name_race.specs.Rule.{first_view, spent_view, giver, newcomer, union_of, with_offer, with_look, offers_of, Fits, IsRunning, IsBelow, Offered, Looked}
use Rattle.name_race.proofs.Views.{passes_set, passes_of-push, passes_of-cons, offers_of-push, offers_grow, offers_move, all_offers}

-- every view after one of them changed
each_set : (terms : Terms) (words : List ℕ) (views : List View) (id : ℕ) (w : View) → ((seat : ℕ) (u : View) → get_elem? views seat ≡ some u → Fits terms words u) → Fits terms words w
    → (seat : ℕ) (u : View) → get_elem? (set views id w) seat ≡ some u → Fits terms words u
each_set terms words views id w others mine seat u at =
    ⊎_elim (λ (x : (seat ≡ id) × (w ≡ u)). subst (Fits terms words) x.1 mine) (λ (x : (seat ≢ id) × (get_elem? views seat ≡ some u)). others seat u x.1) (at_set views id seat w u at)

-- what a racer with passes knows of a word
found_below : (terms : Terms) (s : State (Unit {0}) View) (v : View) (name : ℕ) → IsRunning terms s → Fits terms s.words v → 0 < v.passes → IsBelow v name (get_or s.words name 0)
found_below terms s v name h fits some_passes = record {
  start = subst (λ l. get_or s.words name 0 ≤ get_or l name 0) (sym (fits.start some_passes)) (subst (λ ws. get_or ws name 0 ≤ get_or terms.start.items name 0) (sym h.words) (run-le terms.start.items (offers_of s.views) name));
  known = All-weaker (λ (k : ℕ × ℕ). get_or s.words k.0 0 ≤ k.1) (λ (k : ℕ × ℕ). k.0 ≡ name → get_or s.words name 0 ≤ k.1) (λ k le e. subst (λ n. get_or s.words n 0 ≤ k.1) e le) v.known fits.known;
}

-- a word that falls keeps what is known
pub word_falls : (words : List ℕ) (name word k : ℕ) → get_or (set words name (min (get_or words name 0) word)) k 0 ≤ get_or words k 0
word_falls words name word k =
    ⊎_elim
    (λ (e : k ≡ name).
    ⊎_elim
    (λ (near : name < length words). subst (λ n. get_or (set words name (min (get_or words name 0) word)) n 0 ≤ get_or words n 0) (sym e) (subst (λ x. x ≤ get_or words name 0) (sym (get_or-set_same words name (min (get_or words name 0) word) 0 near)) (min-le_left (get_or words name 0) word)))
    (λ (far : length words ≤ name). subst (λ ws. get_or ws k 0 ≤ get_or words k 0) (sym (set_past words name (min (get_or words name 0) word) far)) (le_refl (get_or words k 0)))
    (cases_lt name (length words)))
    (λ (ne : k ≢ name). subst (λ x. x ≤ get_or words k 0) (sym (get_or-set_other words name k (min (get_or words name 0) word) 0 ne)) (le_refl (get_or words k 0)))
    (cases_eq k name)

fits_fall : (terms : Terms) (words : List ℕ) (name word : ℕ) (u : View) → Fits terms words u → Fits terms (set words name (min (get_or words name 0) word)) u
fits_fall terms words name word u fits = record {
  start = fits.start;
  all_passes = fits.all_passes;
  no_offers = fits.no_offers;
  knows_nothing = fits.knows_nothing;
  known = All-weaker (λ (k : ℕ × ℕ). get_or words k.0 0 ≤ k.1) (λ (k : ℕ × ℕ). get_or (set words name (min (get_or words name 0) word)) k.0 0 ≤ k.1) (λ k le. le_trans (word_falls words name word k.0) le) u.known fits.known;
}

not_idle : {P : Type 0} (n : ℕ) → 0 < n → n ≡ 0 → P
not_idle n h e = absurd (omega arith)

-- the first racer
pub begins : (terms : Terms) → IsRunning terms (opening terms.start.items [] (first_view terms))
begins terms = record {
  words = run-nil terms.start.items;
  passes = passes_of-cons (first_view terms) [] ∙ omega arith;
  views = one;
}
  where
    one : (seat : ℕ) (v : View) → get_elem? (first_view terms ∷ []) seat ≡ some v → Fits terms terms.start.items v
    one zero v e = subst (Fits terms terms.start.items) (some-injective (first_view terms) v e) record {
      start = λ _. refl;
      all_passes = λ _. refl;
      no_offers = λ _. refl;
      knows_nothing = λ _. refl;
      known = All-nil (λ (k : ℕ × ℕ). get_or terms.start.items k.0 0 ≤ k.1);
    }
    one (suc seat) v e = absurd (some-ne-none v (sym e))

pub offers : (terms : Terms) (slots id name word : ℕ) (v : View) → 0 < v.passes → name < length terms.start.items
    → Allows (IsRunning terms) slots id (v, []) name (λ n. min n word) (Offered (step slots name word 0 none) (v, []))
offers terms slots id name word v some_passes near s h _ at small =
    let found : ℕ = get_or s.words name 0 in
    let w : View = with_offer v name word found in
    let fits : Fits terms s.words v = h.views id v at in
    let near' : name < length s.words = subst (λ ws. name < length ws) (sym h.words) (subst (λ n. name < n) (sym (length-run terms.start.items (offers_of s.views))) near) in
    let now : List ℕ = set s.words name (min found word) in
    let here : get_or now name 0 ≡ min found word = get_or-set_same s.words name (min found word) 0 near' in (
      w,
      keeps,
      tt,
      record {
        words = run-push terms.start.items s.words (offers_of s.views) name word near' h.words ∙ run-IsPermutation terms.start.items (offers_of s.views ++ (name, word) ∷ []) (offers_of (set s.views id w)) (offers_grow s.views id v w ((name, word) ∷ []) at refl);
        passes = let sum = passes_set s.views id v w at in omega (arith, h.passes);
        views = each_set terms now s.views id w (λ seat u at'. fits_fall terms s.words name word u (h.views seat u at')) record {
          start = fits.start;
          all_passes = fits.all_passes;
          no_offers = not_idle v.passes some_passes;
          knows_nothing = not_idle v.passes some_passes;
          known = All-append (λ (k : ℕ × ℕ). get_or now k.0 0 ≤ k.1) v.known ((name, found) ∷ (name, word) ∷ []) (fits_fall terms s.words name word v fits).known
              (All-cons (λ (k : ℕ × ℕ). get_or now k.0 0 ≤ k.1) (name, found) ((name, word) ∷ []) (subst (λ n. n ≤ found) (sym here) (min-le_left found word))
              (All-cons (λ (k : ℕ × ℕ). get_or now k.0 0 ≤ k.1) (name, word) [] (subst (λ n. n ≤ word) (sym here) (min-le_right found word)) (All-nil (λ (k : ℕ × ℕ). get_or now k.0 0 ≤ k.1))));
        };
      },
      (found_below terms s v name h fits some_passes, refl),
    )

pub looks : (terms : Terms) (slots id name : ℕ) (v : View) → 0 < v.passes → Allows (IsRunning terms) slots id (v, []) name (λ n. n) (Looked (step slots name 0 0 none) (v, []))
looks terms slots id name v some_passes s h _ at small =
    let found : ℕ = get_or s.words name 0 in
    let w : View = with_look v name found in
    let fits : Fits terms s.words v = h.views id v at in
    let still : set s.words name found ≡ s.words = set-get_or s.words name 0 in
    let running : IsRunning terms record { words = s.words; homes = s.homes; views = set s.views id w } = record {
      words = h.words ∙ (ap (run terms.start.items) (sym (append-nil (offers_of s.views))) ∙ run-IsPermutation terms.start.items (offers_of s.views ++ []) (offers_of (set s.views id w)) (offers_grow s.views id v w [] at (sym (append-nil v.offers))));
      passes = let sum = passes_set s.views id v w at in omega (arith, h.passes);
      views = each_set terms s.words s.views id w h.views record {
        start = fits.start;
        all_passes = fits.all_passes;
        no_offers = not_idle v.passes some_passes;
        knows_nothing = not_idle v.passes some_passes;
        known = All-append (λ (k : ℕ × ℕ). get_or s.words k.0 0 ≤ k.1) v.known ((name, found) ∷ []) fits.known (All-cons (λ (k : ℕ × ℕ). get_or s.words k.0 0 ≤ k.1) (name, found) [] (le_refl found) (All-nil (λ (k : ℕ × ℕ). get_or s.words k.0 0 ≤ k.1)));
      };
    } in (
      w,
      keeps,
      tt,
      subst (λ ws. IsRunning terms record { words = ws; homes = s.homes; views = set s.views id w }) (sym still) running,
      (found_below terms s v name h fits some_passes, refl),
    )

pub splits : (terms : Terms) (id count : ℕ) (v : View) → 0 < count → count < v.passes → Splits (IsRunning terms) id v (giver v count) (newcomer v count)
splits terms id count v some_passes fewer s h at =
    let left : View = giver v count in
    let right : View = newcomer v count in
    let fits : Fits terms s.words v = h.views id v at in
    let views : List View = set s.views id left in record {
      words = h.words
          ∙ (ap (run terms.start.items) (sym (append-nil (offers_of s.views)))
          ∙ (run-IsPermutation terms.start.items (offers_of s.views ++ []) (offers_of views) (offers_grow s.views id v left [] at (sym (append-nil v.offers)))
          ∙ ap (run terms.start.items) (sym (offers_of-push views right refl))));
      passes = let sum = passes_set s.views id v left at in omega (arith, h.passes, passes_of-push views right);
      views = λ seat u at'. ⊎_elim
          (λ was. each_set terms s.words s.views id left h.views record {
            start = λ _. fits.start (omega arith);
            all_passes = λ _. fits.all_passes (omega arith);
            no_offers = not_idle left.passes (omega arith);
            knows_nothing = not_idle left.passes (omega arith);
            known = fits.known;
          } seat u was)
          (λ (e : right ≡ u). subst (Fits terms s.words) e record {
            start = λ _. fits.start (omega arith);
            all_passes = λ _. fits.all_passes (omega arith);
            no_offers = λ _. refl;
            knows_nothing = not_idle right.passes some_passes;
            known = fits.known;
          })
          (at_snoc views right u seat at');
    }

pub joins : (terms : Terms) (id other : ℕ) (v w : View) → 0 < v.passes → Joins (IsRunning terms) id v other w (union_of v w) spent_view
joins terms id other v w some_passes s h at apart there =
    let both : View = union_of v w in
    let views : List View = set s.views id both in
    let fits : Fits terms s.words v = h.views id v at in
    let was : get_elem? s.views other ≡ some w = ⊎_elim (λ (x : (other ≡ id) × (both ≡ w)). absurd (apart x.0)) (λ (x : (other ≢ id) × (get_elem? s.views other ≡ some w)). x.1) (at_set s.views id other both w there) in
    let theirs : Fits terms s.words w = h.views other w was in record {
      words = h.words ∙ run-IsPermutation terms.start.items (offers_of s.views) (offers_of (set views other spent_view)) (offers_move s.views id other v w both at apart there refl);
      passes = let one = passes_set s.views id v both at in let two = passes_set views other w spent_view there in omega (arith, h.passes);
      views = each_set terms s.words views other spent_view (each_set terms s.words s.views id both h.views record {
        start = λ _. fits.start some_passes;
        all_passes = λ _. fits.all_passes some_passes;
        no_offers = not_idle both.passes (omega arith);
        knows_nothing = not_idle both.passes (omega arith);
        known = All-append (λ (k : ℕ × ℕ). get_or s.words k.0 0 ≤ k.1) v.known w.known fits.known theirs.known;
      }) record {
        start = λ p. not_idle 0 p refl;
        all_passes = λ p. not_idle 0 p refl;
        no_offers = λ _. refl;
        knows_nothing = λ _. refl;
        known = All-nil (λ (k : ℕ × ℕ). get_or s.words k.0 0 ≤ k.1);
      };
    }

-- the same steps at a racer that holds no slot
pub offers_at : (terms : Terms) (slots id name word : ℕ) (me : Me (Unit {0}) View) → me.1 ≡ [] → 0 < me.0.passes → name < length terms.start.items
    → Allows (IsRunning terms) slots id me name (λ n. min n word) (Offered (step slots name word 0 none) me)
offers_at terms slots id name word me empty some_passes near = subst (λ c. Allows (IsRunning terms) slots id (me.0, c) name (λ n. min n word) (Offered (step slots name word 0 none) (me.0, c))) (sym empty) (offers terms slots id name word me.0 some_passes near)

pub looks_at : (terms : Terms) (slots id name : ℕ) (me : Me (Unit {0}) View) → me.1 ≡ [] → 0 < me.0.passes → Allows (IsRunning terms) slots id me name (λ n. n) (Looked (step slots name 0 0 none) me)
looks_at terms slots id name me empty some_passes = subst (λ c. Allows (IsRunning terms) slots id (me.0, c) name (λ n. n) (Looked (step slots name 0 0 none) (me.0, c))) (sym empty) (looks terms slots id name me.0 some_passes)

-- where a racer has all passes, the words are those that its offers leave, and none is above a word that it knows
pub settles : (terms : Terms) (id : ℕ) (v : View) (s : State (Unit {0}) View) → IsRunning terms s → get_elem? s.views id ≡ some v → v.passes ≡ terms.passes → s.words ≡ run terms.start.items v.offers
settles terms id v s h at all = h.words ∙ ap (run terms.start.items) (all_offers s.views id v (λ seat u at'. (h.views seat u at').no_offers) at (h.passes ∙ sym all))

pub settles_known : (terms : Terms) (id : ℕ) (v : View) (s : State (Unit {0}) View) → IsRunning terms s → get_elem? s.views id ≡ some v → (name seen : ℕ) → Contains v.known (name, seen) → get_or s.words name 0 ≤ seen
settles_known terms id v s h at name seen has = All-contains (λ (k : ℕ × ℕ). get_or s.words k.0 0 ≤ k.1) v.known (name, seen) (h.views id v at).known has
