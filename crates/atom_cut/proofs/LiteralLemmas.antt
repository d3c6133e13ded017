-- The multiples of a literal's size in a section.
use Rattle.std.proofs.Common.{◌≡◌, ℕ, zero, suc, ◌+◌, ◌-◌, ◌*◌, ◌/◌, ◌%◌, ◌<◌, ◌≤◌, ◌++◌, ◌∷◌, [], List, Bool, true, false, eqb, filter, refl, sym, ap, ◌∙◌, arith, append-nil}
use Rattle.std.specs.List.{range_with_len}
use Rattle.std.proofs.lemmas.Bool.{ne_eqb}
use Rattle.std.proofs.lemmas.Nat.{mod-mul-add}
use Rattle.std.proofs.Math.Nat.{div-add-mod, mul-le-mul_left}
use Rattle.atom_cut.proofs.RangeLemmas.{filter_range-add, filter_range-none, filter_range-last}

abbrev pub is_multiple : ℕ → ℕ → Bool
is_multiple literal at = eqb (at % literal) 0

-- the cuts at the literals below the one of a number, of a count of them
pub record AreLiterals (literal count number : ℕ) (cuts : List ℕ) : Type 0 where
  pub same : cuts ≡ 0 ∷ filter (is_multiple literal) (range_with_len 1 ((number - 1) * literal))
  pub low : 1 ≤ number
  pub high : number ≤ 1 + (count - 1)

between : (literal m k : ℕ) → m * literal < k → k < m * literal + literal → is_multiple literal k ≡ false
between literal m k low high =
    let r : ℕ = k - m * literal in
    let parts : m * literal + r ≡ k = omega arith in
    let small : r < literal = omega arith in
    let rest : k % literal ≡ r = ap (λ n. n % literal) (sym parts) ∙ mod-mul-add m literal r small in
    ne_eqb (k % literal) 0 (λ is. let none : r ≡ 0 = sym rest ∙ is in absurd (omega arith))

next_multiple : (literal m : ℕ) → 0 < literal → is_multiple literal (m * literal + literal) ≡ true
next_multiple literal m some =
    let e : (m + 1) * literal + 0 ≡ m * literal + literal = omega arith in
    let rest : (m * literal + literal) % literal ≡ 0 = ap (λ n. n % literal) (sym e) ∙ mod-mul-add (m + 1) literal 0 some in
    rw rest refl

-- the multiples up to the next one
one_more : (literal m : ℕ) → 0 < literal → filter (is_multiple literal) (range_with_len 1 (m * literal + literal)) ≡ filter (is_multiple literal) (range_with_len 1 (m * literal)) ++ (m * literal + literal) ∷ []
one_more literal m some =
    let p : ℕ → Bool = is_multiple literal in
    let start : 1 + m * literal ≡ m * literal + 1 = omega arith in
    let size : literal ≡ literal - 1 + 1 = omega arith in
    let end : m * literal + 1 + (literal - 1) ≡ m * literal + literal = omega arith in
    let last : filter p (range_with_len (m * literal + 1) (literal - 1 + 1)) ≡ (m * literal + literal) ∷ [] =
    filter_range-last p (m * literal + 1) (literal - 1) (m * literal + literal) end (λ k low high. between literal m k (omega arith) high) (next_multiple literal m some) in
    filter_range-add p 1 (m * literal) literal (m * literal + 1) start
    ∙ ap (λ n. filter p (range_with_len 1 (m * literal)) ++ filter p (range_with_len (m * literal + 1) n)) size
    ∙ ap (λ xs. filter p (range_with_len 1 (m * literal)) ++ xs) last

pub literals_begin : (literal count : ℕ) (cuts : List ℕ) → cuts ≡ 0 ∷ [] → AreLiterals literal count 1 cuts
literals_begin literal count cuts e =
    let none : 0 ≡ 0 * literal = omega arith in
    record {
      same = e ∙ ap (λ n. 0 ∷ filter (is_multiple literal) (range_with_len 1 n)) none;
      low = omega arith;
      high = omega arith;
    }

pub literals_go_on : (literal count number : ℕ) (cuts more : List ℕ) → 0 < literal → AreLiterals literal count number cuts → number < count → more ≡ cuts ++ number * literal ∷ [] → AreLiterals literal count (number + 1) more
literals_go_on literal count number cuts more some are within e =
    let m : ℕ = number - 1 in
    let low : 1 ≤ number = are.low in
    let is : m + 1 ≡ number = omega arith in
    let still : number ≡ number + 1 - 1 = omega arith in
    let sum : (m + 1) * literal ≡ m * literal + literal = omega arith in
    let pushed : number * literal ≡ m * literal + literal = ap (λ n. n * literal) (sym is) ∙ sum in
    let next : m * literal + literal ≡ (number + 1 - 1) * literal = sym pushed ∙ ap (λ n. n * literal) still in
    record {
      same =
          e ∙ ap (λ xs. xs ++ number * literal ∷ []) are.same
          ∙ ap (λ x. 0 ∷ (filter (is_multiple literal) (range_with_len 1 (m * literal)) ++ x ∷ [])) pushed
          ∙ ap (λ xs. 0 ∷ xs) (sym (one_more literal m some))
          ∙ ap (λ n. 0 ∷ filter (is_multiple literal) (range_with_len 1 n)) next;
      low = omega arith;
      high = omega arith;
    }

-- the multiples below a size of whole literals
whole : (literal m : ℕ) → 0 < literal → filter (is_multiple literal) (range_with_len 1 (m * literal)) ≡ filter (is_multiple literal) (range_with_len 1 (m * literal + literal - 1))
whole literal m some =
    let p : ℕ → Bool = is_multiple literal in
    let start : 1 + m * literal ≡ m * literal + 1 = omega arith in
    let size : m * literal + literal - 1 ≡ m * literal + (literal - 1) = omega arith in
    sym (
    ap (λ n. filter p (range_with_len 1 n)) size
    ∙ filter_range-add p 1 (m * literal) (literal - 1) (m * literal + 1) start
    ∙ ap (λ xs. filter p (range_with_len 1 (m * literal)) ++ xs) (filter_range-none p (m * literal + 1) (literal - 1) (λ k low high. between literal m k (omega arith) (omega arith)))
    ∙ append-nil (filter p (range_with_len 1 (m * literal)))
    )

whole_count : (literal size count : ℕ) → 0 < literal → count * literal ≡ size → filter (is_multiple literal) (range_with_len 1 ((count - 1) * literal)) ≡ filter (is_multiple literal) (range_with_len 1 (size - 1))
whole_count literal size zero some e =
    let none : size - 1 ≡ (zero - 1) * literal = omega arith in
    ap (λ n. filter (is_multiple literal) (range_with_len 1 n)) (sym none)
whole_count literal size (suc m) some e =
    let less : suc m - 1 ≡ m = omega arith in
    let all : m * literal + literal - 1 ≡ size - 1 = omega arith in
    ap (λ n. filter (is_multiple literal) (range_with_len 1 (n * literal))) less
    ∙ whole literal m some ∙ ap (λ n. filter (is_multiple literal) (range_with_len 1 n)) all

pub literals_end : (literal size number : ℕ) (cuts : List ℕ) → 0 < literal → size % literal ≡ 0 → AreLiterals literal (size / literal) number cuts → size / literal ≤ number → cuts ≡ 0 ∷ filter (λ at. eqb (at % literal) 0) (range_with_len 1 (size - 1))
literals_end literal size number cuts some multiple are past =
    let low : 1 ≤ number = are.low in
    let high : number ≤ 1 + (size / literal - 1) = are.high in
    let all : number - 1 ≡ size / literal - 1 = omega arith in
    let product : literal * (size / literal) + size % literal ≡ size = div-add-mod size literal in
    let e : size / literal * literal ≡ size = omega arith in
    are.same ∙ ap (λ n. 0 ∷ filter (is_multiple literal) (range_with_len 1 (n * literal))) all
    ∙ ap (λ xs. 0 ∷ xs) (whole_count literal size (size / literal) some e)

pub multiple_below : (literal size number : ℕ) → 0 < literal → number < size / literal → number * literal < size
multiple_below literal size number some within =
    let product : literal * (size / literal) + size % literal ≡ size = div-add-mod size literal in
    let more : literal * (number + 1) ≤ literal * (size / literal) = mul-le-mul_left literal (omega arith) in
    omega arith

pub ruleset literals = (literals_begin, literals_go_on, literals_end, multiple_below)
