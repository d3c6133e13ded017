-- Imports and their names stand where the loader looks for them.
use Rattle.std.proofs.Common.{◌≡◌, ◌≢◌, ℕ, zero, suc, ◌+◌, ◌*◌, ◌<◌, Bool, true, false, List, [], ◌∷◌, ◌++◌, length, get_or, drop, Some, refl, sym, ap, ◌∙◌, arith, append_assoc, length-append, if◌then◌else◌}
use Rattle.std.specs.List.{All}
use Rattle.std.specs.Option.{option_map}
use Rattle.std.specs.Str.{bytes_eq}
use Rattle.std.proofs.Math.Nat.{mul-suc}
use Rattle.std.proofs.Math.Seq.{take-append_seam}
use Rattle.std.proofs.lemmas.Bool.{eqb-true}
use Rattle.std.proofs.lemmas.Slice.Eq.{bytes_eq-Decides}
use Rattle.memchr.specs.Find.{is_byte}
use Rattle.mo_bytes.proofs.Numbers.{length-number_bytes}
use Rattle.mo_strings.specs.Strings.{first_nul, string_at}
use Rattle.mo_strings.proofs.TableLemmas.{nul_first, nul_later}
use Rattle.fixup_chain.specs.ImportOrder.{Import}
use Rattle.fixup_chain.specs.Imports.{last_name, names_with_nul}
use Rattle.fixup_chain.specs.Pool.{row_bytes, rows_from}
use Rattle.chain_laws.proofs.Standing.{Stands, stands_at, stands_as, stands_left, stands_right}

-- where the name of an import is in the pool, by its index
abbrev pub name_place : ℕ → List Import → ℕ → ℕ
name_place place [] k = place
name_place place (x ∷ xs) zero = place
name_place place (x ∷ xs) (suc k) = name_place (place + length (last_name x xs)) xs k

-- the bytes of an import
abbrev pub row_size : Bool → ℕ
row_size wide = if wide then 16 else 4

pub row_length : (wide : Bool) (place : ℕ) (x : Import) → length (row_bytes wide place x) ≡ row_size wide
unfolding row_bytes
row_length true place x = simp (length-append, length-number_bytes)
row_length false place x = simp (length-append, length-number_bytes)

pub row_stands : (image : List ℕ) (wide : Bool) (table place k : ℕ) (imports : List Import) (d : Import) → k < length imports → Stands image table (rows_from wide place imports) → Stands image (table + row_size wide * k) (row_bytes wide (name_place place imports k) (get_or imports k d))
unfolding rows_from
row_stands image wide table place k [] d within s = absurd (omega (arith, within))
row_stands image wide table place zero (x ∷ xs) d within s =
    let same : table ≡ table + row_size wide * 0 = omega arith in
    stands_at image table (table + row_size wide * 0) (row_bytes wide place x) same (stands_left image table (row_bytes wide place x) (rows_from wide (place + length (last_name x xs)) xs) s)
row_stands image wide table place (suc k) (x ∷ xs) d within s =
    let next = place + length (last_name x xs) in
    let rest : Stands image (table + row_size wide) (rows_from wide next xs) =
    stands_right image table (table + row_size wide) (row_bytes wide place x) (rows_from wide next xs) (ap (λ (n : ℕ). table + n) (sym (row_length wide place x))) s in
    let there : table + row_size wide + row_size wide * k ≡ table + row_size wide * suc k = by_size (row_size wide) in
    stands_at image (table + row_size wide + row_size wide * k) (table + row_size wide * suc k) (row_bytes wide (name_place next xs k) (get_or xs k d)) there
    (row_stands image wide (table + row_size wide) next k xs d (omega (arith, within)) rest)
  where
    by_size : (n : ℕ) → table + n + n * k ≡ table + n * suc k
    by_size n = let e : n * suc k ≡ n * k + n = mul-suc n k in omega (arith, e)

-- ---- names

name_first : (x : Import) → last_name x [] ≡ x.name ++ 0 ∷ []
unfolding last_name
name_first x = refl

name_next : (x y : Import) (ys : List Import) → last_name x (y ∷ ys) ≡ (if bytes_eq x.name y.name then [] else x.name ++ 0 ∷ [])
unfolding last_name
name_next x y ys = refl

names_more : (x : Import) (xs : List Import) → names_with_nul (x ∷ xs) ≡ last_name x xs ++ names_with_nul xs
unfolding names_with_nul
names_more x xs = refl

-- the name of the first import stands where the pool of the imports begins
first_stands : (image : List ℕ) (place : ℕ) (x : Import) (xs : List Import) → Stands image place (names_with_nul (x ∷ xs)) → Stands image place (x.name ++ 0 ∷ [])
first_stands image place x [] s =
    stands_left image place (x.name ++ 0 ∷ []) (names_with_nul []) (stands_as image place (names_with_nul (x ∷ [])) ((x.name ++ 0 ∷ []) ++ names_with_nul []) (names_more x [] ∙ ap (λ (z : List ℕ). z ++ names_with_nul []) (name_first x)) s)
first_stands image place x (y ∷ ys) s = by (bytes_eq x.name y.name) refl (λ t. first_stands image place y ys t)
  where
    put : (z : List ℕ) → last_name x (y ∷ ys) ≡ z → Stands image place (z ++ names_with_nul (y ∷ ys))
    put z e = stands_as image place (names_with_nul (x ∷ y ∷ ys)) (z ++ names_with_nul (y ∷ ys)) (names_more x (y ∷ ys) ∙ ap (λ (w : List ℕ). w ++ names_with_nul (y ∷ ys)) e) s

    by : (b : Bool) → bytes_eq x.name y.name ≡ b → (Stands image place (names_with_nul (y ∷ ys)) → Stands image place (y.name ++ 0 ∷ [])) → Stands image place (x.name ++ 0 ∷ [])
    by true e next =
        let same : x.name ≡ y.name = (bytes_eq-Decides x.name y.name).0 e in
        let rest : Stands image place (y.name ++ 0 ∷ []) = next (put [] (name_next x y ys ∙ rw e refl)) in
        stands_as image place (y.name ++ 0 ∷ []) (x.name ++ 0 ∷ []) (ap (λ (n : List ℕ). n ++ 0 ∷ []) (sym same)) rest
    by false e next = stands_left image place (x.name ++ 0 ∷ []) (names_with_nul (y ∷ ys)) (put (x.name ++ 0 ∷ []) (name_next x y ys ∙ rw e refl))

pub name_stands : (image : List ℕ) (pool place k : ℕ) (imports : List Import) (d : Import) → k < length imports → Stands image (pool + place) (names_with_nul imports) → Stands image (pool + name_place place imports k) ((get_or imports k d).name ++ 0 ∷ [])
name_stands image pool place k [] d within s = absurd (omega (arith, within))
name_stands image pool place zero (x ∷ xs) d within s = first_stands image (pool + place) x xs s
name_stands image pool place (suc k) (x ∷ xs) d within s =
    let next = place + length (last_name x xs) in
    name_stands image pool next k xs d (omega (arith, within))
    (stands_right image (pool + place) (pool + next) (last_name x xs) (names_with_nul xs) (omega arith) (stands_as image (pool + place) (names_with_nul (x ∷ xs)) (last_name x xs ++ names_with_nul xs) (names_more x xs) s))

-- ---- strings

no_nul : (b : ℕ) → b ≢ 0 → is_byte 0 b ≡ false
no_nul b some = by (is_byte 0 b) refl
  where
    by : (t : Bool) → is_byte 0 b ≡ t → is_byte 0 b ≡ false
    by true e = absurd (some (eqb-true b 0 e))
    by false e = e

nul_behind : (name rest : List ℕ) → All (λ b. b ≢ 0) name → first_nul (name ++ 0 ∷ rest) ≡ Some (length name)
nul_behind [] rest all = nul_first 0 rest refl
nul_behind (b ∷ bs) rest all =
    nul_later b (bs ++ 0 ∷ rest) (no_nul b (all 0 b (omega arith)))
    ∙ ap (option_map (λ k. 1 + k)) (nul_behind bs rest (λ k d low. all (suc k) d (omega (arith, low))))
    ∙ (let e : 1 + length bs ≡ suc (length bs) = omega arith in ap (λ (n : ℕ). Some n) e)

pub string_stands : (image : List ℕ) (at : ℕ) (name : List ℕ) → All (λ b. b ≢ 0) name → Stands image at (name ++ 0 ∷ []) → string_at image at ≡ Some name
unfolding string_at
string_stands image at name all s =
    let there : drop at image ≡ name ++ 0 ∷ s.rest = s.is ∙ append_assoc name (0 ∷ []) s.rest in
    let end : first_nul (drop at image) ≡ Some (length name) = ap first_nul there ∙ nul_behind name s.rest all in
    rw (end, there) (ap (λ (n : List ℕ). Some n) (take-append_seam name (0 ∷ s.rest)))
