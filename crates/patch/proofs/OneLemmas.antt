-- What is written is one list of bytes, and what doesn't fit is one fault.
use Rattle.std.proofs.Common.{◌≡◌, ℕ, zero, suc, ◌+◌, ◌-◌, ◌<◌, ◌≤◌, ◌⊎◌, inl, inr, List, [], ◌∷◌, length, drop, get_or, slice_index, sym, ap, ◌∙◌, arith}
use Rattle.std.specs.Prelude.{All}
use Rattle.std.proofs.lemmas.Bool.{cases_eq, cases_lt}
use Rattle.std.proofs.lemmas.List.{ext_get_or, get_or-drop, get_or_past}
use Rattle.std.proofs.lemmas.List.Elements.{All-cons, All-head, All-nil, All-tail}
use Rattle.byteorder.specs.Endian.{little_from}
use Rattle.mo_bytes.specs.Number.{number}
use Rattle.patch.specs.declared.met.Met.{Met}
use Rattle.patch.specs.Patched.{ArePatched, IsOutside, size_of}

-- ---- bytes below 256, from the number that they make up

little_one : (i n k : ℕ) (xs ys : List ℕ) → ((j : ℕ) → slice_index xs j < 256) → ((j : ℕ) → slice_index ys j < 256) → little_from i n xs ≡ little_from i n ys → i ≤ k → k < i + n → slice_index xs k ≡ slice_index ys k
little_one i zero k xs ys low_x low_y e from to = absurd (omega arith)
little_one i (suc n) k xs ys low_x low_y e from to =
    let x : slice_index xs i < 256 = low_x i in
    let y : slice_index ys i < 256 = low_y i in
    let here : slice_index xs i ≡ slice_index ys i = omega arith in
    let rest : little_from (suc i) n xs ≡ little_from (suc i) n ys = omega arith in
    elim (cases_eq i k) [
      | inl is ↦ ap (λ (j : ℕ). slice_index xs j) (sym is) ∙ here ∙ ap (λ (j : ℕ). slice_index ys j) is
      | inr other ↦ little_one (suc i) n k xs ys low_x low_y rest (omega arith) (omega arith)
    ]

byte_below : (xs : List ℕ) (j : ℕ) → All (λ byte. byte < 256) xs → slice_index xs j < 256
byte_below xs j all = elim (cases_lt j (length xs)) [
  | inl within ↦ all j 0 within
  | inr past ↦ let none : slice_index xs j ≡ 0 = get_or_past xs j 0 past in omega arith
]

byte_of_number : (w at k : ℕ) (xs ys : List ℕ) → All (λ byte. byte < 256) xs → All (λ byte. byte < 256) ys → number w xs at ≡ number w ys at → at ≤ k → k < at + w → slice_index xs k ≡ slice_index ys k
unfolding number
byte_of_number w at k xs ys low_x low_y e from to =
    let there : at + (k - at) ≡ k = omega arith in
    ap (λ (j : ℕ). slice_index xs j) (sym there)
    ∙ sym (get_or-drop at xs (k - at) 0)
    ∙ little_one 0 w (k - at) (drop at xs) (drop at ys) (below xs low_x) (below ys low_y) e (omega arith) (omega arith)
    ∙ get_or-drop at ys (k - at) 0
    ∙ ap (λ (j : ℕ). slice_index ys j) there
  where
    below : (zs : List ℕ) → All (λ byte. byte < 256) zs → (j : ℕ) → slice_index (drop at zs) j < 256
    below zs low j = let same : slice_index (drop at zs) j ≡ slice_index zs (at + j) = get_or-drop at zs j 0 in let b : slice_index zs (at + j) < 256 = byte_below zs (at + j) low in omega arith

-- ---- what holds within each element and outside all of them

pub by_element : {X : Type 0} (Within Outside : X → Type 0) (C : Type 0) → ((x : X) → Within x ⊎ Outside x) → (xs : List X) → All (λ x. Within x → C) xs → (All Outside xs → C) → C
by_element Within Outside C either [] inside outside = outside (All-nil Outside)
by_element Within Outside C either (x ∷ xs) inside outside =
    by_element Within Outside C either xs (All-tail (λ x. Within x → C) x xs inside) (λ rest. elim (either x) [
      | inl within ↦ All-head (λ x. Within x → C) x xs inside within
      | inr out ↦ outside (All-cons Outside x xs out rest)
    ])

in_or_out : (k : ℕ) (met : Met) → ((met.place ≤ k) × (k < met.place + size_of met)) ⊎ IsOutside k met
in_or_out k met = elim (cases_lt k met.place) [
  | inl before ↦ inr (inl before)
  | inr from ↦ elim (cases_lt k (met.place + size_of met)) [
    | inl within ↦ inl (from, within)
    | inr past ↦ inr (inr past)
  ]
]

-- ---- the bytes of an atom

pub one_patch : (address : ℕ) (mets : List Met) (old a b : List ℕ) → All (λ byte. byte < 256) a → All (λ byte. byte < 256) b → ArePatched address mets old a → ArePatched address mets old b → a ≡ b
one_patch address mets old a b low_a low_b first second = ext_get_or 0 a b (first.size ∙ sym second.size) byte
  where
    field : (k j : ℕ) (d : Met) → j < length mets → ((get_or mets j d).place ≤ k) × (k < (get_or mets j d).place + size_of (get_or mets j d)) → slice_index a k ≡ slice_index b k
    field k j d within inside =
        let one = first.fields j d within in
        let other = second.fields j d within in
        let same : number (size_of (get_or mets j d)) a (get_or mets j d).place ≡ number (size_of (get_or mets j d)) b (get_or mets j d).place = cc in
        byte_of_number (size_of (get_or mets j d)) (get_or mets j d).place k a b low_a low_b same inside.0 inside.1

    byte : (k : ℕ) → k < length a → slice_index a k ≡ slice_index b k
    byte k within =
        by_element (λ met. (met.place ≤ k) × (k < met.place + size_of met)) (IsOutside k) (slice_index a k ≡ slice_index b k) (in_or_out k) mets
        (λ j d low inside. field k j d low inside)
        (λ out. first.others k out ∙ sym (second.others k out))
