-- The least of places, as things come.
use Rattle.std.proofs.Common.{◌≡◌, ℕ, zero, suc, ◌+◌, ◌++◌, ◌∷◌, [], ◌||◌, min, List, Bool, true, false, Option, Some, None, refl, sym, ap, ◌∙◌, arith}
use Rattle.std.specs.List.{cons_option, filter_map, range_with_len}
use Rattle.std.specs.Option.{option_map_or, option_to_list}
use Rattle.mo_types.specs.RelocationRules.{least}
use Rattle.mo_types.specs.Rows.{when}
use Rattle.reloc_read.specs.Faults.{lesser}
use Rattle.reloc_read.proofs.ApartLemmas.{mapped_more}

min_assoc : (a b c : ℕ) → min a (min b c) ≡ min (min a b) c
min_assoc a b c = omega arith

min_comm : (a b : ℕ) → min a b ≡ min b a
min_comm a b = omega arith

min_same : (a : ℕ) → min a a ≡ a
min_same a = omega arith

pub lesser_assoc : (a b c : Option ℕ) → lesser a (lesser b c) ≡ lesser (lesser a b) c
lesser_assoc None b c = refl
lesser_assoc (Some a) None c = refl
lesser_assoc (Some a) (Some b) None = refl
lesser_assoc (Some a) (Some b) (Some c) = ap Some (min_assoc a b c)

pub lesser_none : (a : Option ℕ) → lesser a None ≡ a
lesser_none None = refl
lesser_none (Some a) = refl

lesser_comm : (a b : Option ℕ) → lesser a b ≡ lesser b a
lesser_comm None b = sym (lesser_none b)
lesser_comm (Some a) None = refl
lesser_comm (Some a) (Some b) = ap Some (min_comm a b)

with_first : (x : ℕ) (rest : Option ℕ) → Some (option_map_or (min x) rest x) ≡ lesser (Some x) rest
with_first x None = refl
with_first x (Some y) = refl

pub least-append : (xs ys : List ℕ) → least (xs ++ ys) ≡ lesser (least xs) (least ys)
least-append [] ys = refl
least-append (x ∷ xs) ys =
    with_first x (least (xs ++ ys)) ∙ ap (lesser (Some x)) (least-append xs ys) ∙ lesser_assoc (Some x) (least xs) (least ys)
    ∙ ap (λ o. lesser o (least ys)) (sym (with_first x (least xs)))

pub least_one : (o : Option ℕ) → least (option_to_list o) ≡ o
least_one None = refl
least_one (Some x) = refl

pub least_empty : (xs : List ℕ) → least xs ≡ None → xs ≡ []
least_empty [] e = refl
least_empty (x ∷ xs) e = absurd cc

-- the least of what comes so far, and of one more

pub least_none : (h : ℕ → Option ℕ) → None ≡ least (filter_map h (range_with_len 0 0))
least_none h = refl

pub least_more : (h : ℕ → Option ℕ) (at : ℕ) (found more here : Option ℕ) → found ≡ least (filter_map h (range_with_len 0 at)) → here ≡ h at → more ≡ lesser found here → more ≡ least (filter_map h (range_with_len 0 (at + 1)))
least_more h at found more here is e joined =
    joined ∙ ap (λ f. lesser f here) is
    ∙ ap (lesser (least (filter_map h (range_with_len 0 at)))) (sym (least_one here))
    ∙ sym (least-append (filter_map h (range_with_len 0 at)) (option_to_list here))
    ∙ ap least (sym (mapped_more h at here (sym e)))

-- two tests of the same things

least_cons : (o : Option ℕ) (xs : List ℕ) → least (cons_option o xs) ≡ lesser o (least xs)
least_cons None xs = refl
least_cons (Some x) xs = with_first x (least xs)

same_place : (f g : Bool) (p : ℕ) → lesser (when f p) (when g p) ≡ when (f || g) p
same_place true true p = ap Some (min_same p)
same_place true false p = refl
same_place false g p = refl

swapped : (a b x y : Option ℕ) → lesser (lesser a x) (lesser b y) ≡ lesser (lesser a b) (lesser x y)
swapped a b x y =
    sym (lesser_assoc a x (lesser b y))
    ∙ ap (lesser a) (lesser_assoc x b y ∙ ap (λ o. lesser o y) (lesser_comm x b) ∙ sym (lesser_assoc b x y))
    ∙ lesser_assoc a b (lesser x y)

abbrev pub passing : (ℕ → Bool) → (ℕ → ℕ) → ℕ → ℕ → List ℕ
passing test place a n = filter_map (λ k. when (test k) (place k)) (range_with_len a n)

pub two_tests : (f g : ℕ → Bool) (place : ℕ → ℕ) (a n : ℕ) → lesser (least (passing f place a n)) (least (passing g place a n)) ≡ least (passing (λ k. f k || g k) place a n)
two_tests f g place a zero = refl
two_tests f g place a (suc n) =
    ap (λ o. lesser o (least (passing g place a (suc n)))) (least_cons (when (f a) (place a)) (passing f place (a + 1) n))
    ∙ ap (lesser (lesser (when (f a) (place a)) (least (passing f place (a + 1) n)))) (least_cons (when (g a) (place a)) (passing g place (a + 1) n))
    ∙ swapped (when (f a) (place a)) (when (g a) (place a)) (least (passing f place (a + 1) n)) (least (passing g place (a + 1) n))
    ∙ ap (λ o. lesser o (lesser (least (passing f place (a + 1) n)) (least (passing g place (a + 1) n)))) (same_place (f a) (g a) (place a))
    ∙ ap (lesser (when (f a || g a) (place a))) (two_tests f g place (a + 1) n)
    ∙ sym (least_cons (when (f a || g a) (place a)) (passing (λ k. f k || g k) place (a + 1) n))

pub none_passing : (place : ℕ → ℕ) (a n : ℕ) → passing (λ k. false) place a n ≡ []
none_passing place a zero = refl
none_passing place a (suc n) = none_passing place (a + 1) n
