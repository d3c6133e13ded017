-- Past the last number of 64 bits there is none.
use Rattle.std.proofs.Common.{◌≡◌, ◌==◌, ◌<◌, ◌+◌, ℕ, suc, false, List, [], ◌∷◌, get_or, refl, arith}
use Rattle.std.specs.List.{list_any}
use Rattle.mo_outside.proofs.calls.has_next.Goals as goal

list_any_above : (xs : List ℕ) (n : ℕ) → ((k : ℕ) → get_or xs k 0 < n) → list_any (λ x. x == n) xs ≡ false
list_any_above [] n below = refl
list_any_above (x ∷ xs) n below =
    let head : x < n = below 0 in
    let other : (x == n) ≡ false = grind arith in
    rw other (list_any_above xs n (λ k. below (suc k)))

pub returns-else-made-lt18446744073709551615 : goal.returns-else-made-lt18446744073709551615
returns-else-made-lt18446744073709551615 c =
    let none = list_any_above c.args.numbers.now (c.args.made + 1) (λ k. let fits = c.type_inv.numbers k in omega (arith, fits)) in
    grind (arith, none)
