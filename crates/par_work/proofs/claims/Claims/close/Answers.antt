use Rattle.std.proofs.Common.{◌≡◌, ◌∙◌, ◌+◌, ℕ, List, [], ◌∷◌, length, ap, subst, sym}
use mathlib.Core.Option.{some, some-injective}
use lib.ListN.{get_elem?}
use Rattle.par_work.specs.Drawn.{Counter, Holding, AreBelow}
use Rattle.par_work.specs.Rule.{held}
use Rattle.par_work.specs.declared.rule.Terms.{Terms}
use Rattle.par_work.specs.declared.rule.View.{View}
use Rattle.par_work.proofs.Steps.{closes, closes_count}
use Rattle.par_work.proofs.claims.Claims.close.Goals as goal

-- the one word of the table is the counter
counted : (words closed : List ℕ) (counter r : ℕ) → words ≡ counter ∷ [] → words ≡ closed → get_elem? closed 0 ≡ some r → counter ≡ r
counted words closed counter r is same at = some-injective counter r (ap (λ ws. get_elem? ws 0) (sym is ∙ same) ∙ at)

-- the drawer's fields have all passes and draws
all_held : (fields : View) (holding : Holding) (terms : Terms) (counter : Counter) → holding.passes ≡ fields.passes → holding.draws ≡ fields.draws → terms.passes ≡ counter.passes → holding.passes + length holding.draws ≡ counter.passes
    → held fields ≡ terms.passes
all_held fields holding terms counter p d t all = subst (λ n. n + length fields.draws ≡ terms.passes) p (subst (λ l. holding.passes + length l ≡ terms.passes) d (all ∙ sym t))

pub returns-clause-count : goal.returns-clause-count
returns-clause-count c =
    let end = c.close_with-closed.ensures.values.2 in
    let me = c.drawer.inside.seat.me.0 in
    let terms = c.self.inside.table.shared.key in
    let p : c.args.drawer.passes ≡ me.passes = sym (ap (λ (h : Holding). h.passes) c.drawer.view_is) in
    let d : c.args.drawer.draws ≡ me.draws = sym (ap (λ (h : Holding). h.draws) c.drawer.view_is) in
    let all = all_held me c.args.drawer terms c.args.self p d (ap (λ (k : Counter). k.passes) c.self.view_is) c.requires.all in
    let counter_is = counted _ _ _ _ end.1.0.word end.2 c.word-count.ensures in
    sym counter_is ∙ (closes_count terms c.drawer.inside.seat.id me end.0 end.1.0 end.1.1 all ∙ ap length (sym d))

pub returns-clause-draws : goal.returns-clause-draws
returns-clause-draws c =
    let end = c.close_with-closed.ensures.values.2 in
    let me = c.drawer.inside.seat.me.0 in
    let terms = c.self.inside.table.shared.key in
    let p : c.args.drawer.passes ≡ me.passes = sym (ap (λ (h : Holding). h.passes) c.drawer.view_is) in
    let d : c.args.drawer.draws ≡ me.draws = sym (ap (λ (h : Holding). h.draws) c.drawer.view_is) in
    let all = all_held me c.args.drawer terms c.args.self p d (ap (λ (k : Counter). k.passes) c.self.view_is) c.requires.all in
    let counter_is = counted _ _ _ _ end.1.0.word end.2 c.word-count.ensures in
    subst (λ n. AreBelow n c.args.drawer.draws) counter_is (subst (AreBelow end.1.0.counter) (sym d) (closes terms c.drawer.inside.seat.id me end.0 end.1.0 end.1.1 all))
