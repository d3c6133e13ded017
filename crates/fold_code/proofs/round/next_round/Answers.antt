use Rattle.std.proofs.Common.{◌≡◌, List, ℕ, Bor, nat_eq, map, ap, ◌∙◌}
use Rattle.std.specs.Cmp.Lexicographic.{pointwise}
use Rattle.fold_code.proofs.KeyLemmas.{held}
use Rattle.fold_code.proofs.RoundLemmas.{rows_are_next}
use Rattle.fold_code.proofs.round.next_round.Goals as goal

pub returns : goal.returns
returns c =
    let row : Bor (List ℕ) → List ℕ = λ key. key.now in
    let keys : map row c.as_slice-2.result.now ≡ c.in_ok-rows.rows.items = ap (map row) c.as_slice-2.ensures.value ∙ c.in_ok-keys.ensures ∙ c.as_slice.ensures.value in
    rows_are_next c.args.firsts.now c.args.ends.now c.in_ok-rows.rows.items c.in_ok-next.next.items c.in_ok-rows.ensures
    (held row (pointwise nat_eq) c.as_slice-2.result.now c.in_ok-rows.rows.items c.in_ok-next.next.items keys c.in_ok-next.ensures)
