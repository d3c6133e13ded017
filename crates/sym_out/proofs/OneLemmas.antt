-- Names stand once among the symbols that other images see, and among those that other images have.
use Rattle.std.proofs.Common.{◌≡◌, ℕ, ◌<◌, ◌≤◌, ◌⊎◌, List, length, get_or, sym, ap, subst, ◌∙◌, inl, inr, arith, Option, Some}
use Rattle.std.specs.List.{AllPairs, Contains, filter_map}
use Rattle.std.specs.Ordering.{nat_cmp}
use Rattle.std.specs.Cmp.Lexicographic.{slice_cmp}
use Rattle.std.specs.declared.cmp.Ordering.TheVariants.{Less, Equal}
use Rattle.std.proofs.lemmas.Bool.{cases_lt}
use Rattle.std.proofs.lemmas.Cmp.{nat_list_cmp_total, tied_itself}
use Rattle.std.proofs.lemmas.List.{get_or_default}
use Rattle.list_lemmas.proofs.Members.{Contains_from_in, in_filter_map, in_from_Contains}
use Rattle.mo_types.specs.Goals.{name_of}
use Rattle.mo_types.specs.declared.goal.Goal.{Goal}
use Rattle.sect_place.specs.declared.layout.Layout.{Layout}
use Rattle.symbol_winners.specs.SymbolTable.{SymbolTable}
use Rattle.symbol_winners.specs.declared.winner.Winner.{Winner}
use Rattle.sym_out.specs.Entries.{Entry}
use Rattle.sym_out.specs.Laws.{IsOne}
use Rattle.sym_out.specs.Symbols.{exported_entry, undefined_entry}
use Rattle.sym_out.proofs.Ranging.{exported_named, undefined_named}
use Rattle.sym_out.proofs.Seeking.{ByName, chosen_rises}

-- two places at which one name would stand
not_twice : (entries : List Entry) (a b : Entry) (i j : ℕ) → ByName entries → i < j → j < length entries → get_or entries i a ≡ a → get_or entries j b ≡ b → a.name ≡ b.name → ⊥
not_twice entries a b i j rises less high is_a is_b same =
    let order : slice_cmp nat_cmp (get_or entries i a).name (get_or entries j a).name ≡ Less = rises i j a less high in
    let other : get_or entries j a ≡ b = get_or_default entries j a b high ∙ is_b in
    let below : slice_cmp nat_cmp a.name b.name ≡ Less =
    ap (λ (z : Entry). slice_cmp nat_cmp z.name b.name) (sym is_a) ∙ ap (λ (z : Entry). slice_cmp nat_cmp (get_or entries i a).name z.name) (sym other) ∙ order in
    let tied : slice_cmp nat_cmp a.name b.name ≡ Equal = ap (slice_cmp nat_cmp a.name) (sym same) ∙ tied_itself nat_list_cmp_total a.name in
    cc

one_of_name : (entries : List Entry) → ByName entries → (x y : Entry) → Contains entries x → Contains entries y → x.name ≡ y.name → x ≡ y
one_of_name entries rises x y p q same = by (cases_lt p.0 q.0) (cases_lt q.0 p.0)
  where
    by : (p.0 < q.0) ⊎ (q.0 ≤ p.0) → (q.0 < p.0) ⊎ (p.0 ≤ q.0) → x ≡ y
    by (inl less) other = absurd (not_twice entries x y p.0 q.0 rises less q.1 p.2 q.2 same)
    by (inr not_less) (inl less) = absurd (not_twice entries y x q.0 p.0 rises less p.1 q.2 p.2 (sym same))
    by (inr not_less) (inr not_more) =
        let place : q.0 ≡ p.0 = omega (arith, not_less, not_more) in
        let second : get_or entries p.0 y ≡ y = subst (λ (k : ℕ). get_or entries k y ≡ y) place q.2 in
        sym p.2 ∙ get_or_default entries p.0 x y p.1 ∙ second

chosen_one : {X : Type 0} (f : X → Option Entry) (name : X → List ℕ) (xs : List X) (x : X) (entry : Entry) → ((x : X) (entry : Entry) → f x ≡ Some entry → entry.name ≡ name x) → AllPairs (λ a b. slice_cmp nat_cmp (name a) (name b) ≡ Less) xs → Contains xs x → f x ≡ Some entry → IsOne (filter_map f xs) entry
chosen_one f name xs x entry named rises among gives =
    let there : Contains (filter_map f xs) entry = Contains_from_in (filter_map f xs) entry (in_filter_map f xs x entry (in_from_Contains xs x among) gives) in
    record {
      there = there;
      only = λ other stands same. one_of_name (filter_map f xs) (chosen_rises f name xs named rises) other entry stands there same;
    }

pub bound_one : (bound : List Goal) (goal : Goal) (entry : Entry) → AllPairs (λ a b. slice_cmp nat_cmp (name_of a) (name_of b) ≡ Less) bound → Contains bound goal → undefined_entry goal ≡ Some entry → IsOne (filter_map undefined_entry bound) entry
bound_one bound goal entry rises among gives = chosen_one undefined_entry name_of bound goal entry undefined_named rises among gives

pub exported_one : (layout : Layout) (symbols : SymbolTable) (winner : Winner) (entry : Entry) → AllPairs (λ a b. slice_cmp nat_cmp a.name b.name ≡ Less) symbols.winners → Contains symbols.winners winner → exported_entry layout symbols winner ≡ Some entry → IsOne (filter_map (exported_entry layout symbols) symbols.winners) entry
exported_one layout symbols winner entry rises among gives =
    chosen_one (exported_entry layout symbols) (λ w. w.name) symbols.winners winner entry (exported_named layout symbols) rises among gives
