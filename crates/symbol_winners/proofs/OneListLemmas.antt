-- Lists by rising keys in which each key finds the same are one list, and of distinct names each has one number: so winners
-- are one list, and duplicates one answer.
use Rattle.std.proofs.Common.{◌≡◌, ℕ, zero, suc, ◌<◌, true, false, List, [], ◌∷◌, length, get_or, slice_get, Some, None, refl, sym, ap, subst, ◌∙◌, inl, inr, arith}
use Rattle.std.specs.Prelude.{Option, IsSome}
use Rattle.std.specs.List.{AllByRecursion, AllPairs, IsDistinct, find}
use Rattle.std.specs.List.Sorted.{IsStrictlySortedBy}
use Rattle.std.specs.declared.cmp.Ordering.{Ordering}
use Rattle.std.specs.declared.cmp.Ordering.TheVariants.{Less, Equal, Greater}
use Rattle.std.specs.Ordering.{on, nat_cmp, is_eq, is_gt, ordering_reverse}
use Rattle.std.specs.Cmp.Lexicographic.{slice_cmp}
use Rattle.std.specs.Str.{bytes_eq}
use Rattle.std.proofs.lemmas.Cmp.{nat_list_cmp_total, on_total, tied_itself}
use Rattle.std.proofs.lemmas.Map.Keys.{IsDistinct-head, IsDistinct-tail}
use Rattle.std.proofs.lemmas.Map.Text.{is_eq-slice_cmp}
use Rattle.std.proofs.lemmas.Slice.Eq.{bytes_eq-Decides}
use Rattle.list_lemmas.proofs.Members.{In, all_in, find_none, find_some}
use Rattle.list_lemmas.proofs.Rising.{rising_same}
use Rattle.command_line.specs.declared.command.Command.{Command}
use Rattle.mo_types.specs.declared.key.FileId.{FileId}
use Rattle.mo_types.specs.declared.loaded.LoadedFile.{LoadedFile}
use Rattle.name_ids.specs.Names.{IsNumbering}
use Rattle.symbol_winners.specs.Duplicates.{IsDuplicate, duplicate_of}
use Rattle.symbol_winners.specs.Winners.{AreWinners}
use Rattle.symbol_winners.specs.declared.winner.Winner.{Winner}

abbrev text_cmp : List ℕ → List ℕ → Ordering
text_cmp a b = slice_cmp nat_cmp a b

-- ---- lists by rising keys

each_of : {X : Type 0} (P : X → Type 0) (xs : List X) → ((j : ℕ) (d : X) → j < length xs → P (get_or xs j d)) → AllByRecursion P xs
each_of P [] h = tt
each_of P (x ∷ xs) h = (h 0 x (omega arith), each_of P xs (λ j d l. h (suc j) d (omega (arith, l))))

pub rising_from_pairs : {X : Type 0} (R : X → X → Ordering) (xs : List X) → AllPairs (λ a b. R a b ≡ Less) xs → IsStrictlySortedBy R xs
unfolding IsStrictlySortedBy
rising_from_pairs R [] p = tt
rising_from_pairs R (x ∷ xs) p = (each_of (λ y. R x y ≡ Less) xs (λ j d l. p 0 (suc j) d (omega arith) (omega (arith, l))), rising_from_pairs R xs (λ i j d less within. p (suc i) (suc j) d (omega (arith, less)) (omega (arith, within))))

less_apart : {X : Type 0} (f : X → List ℕ) (a b : X) → f a ≡ f b → text_cmp (f a) (f b) ≡ Less → ⊥
less_apart f a b same less =
    let tied : text_cmp (f a) (f b) ≡ Equal = ap (text_cmp (f a)) (sym same) ∙ tied_itself nat_list_cmp_total (f a) in
    let e : Less ≡ Equal = sym less ∙ tied in cc

-- two members of one key are one
one_of : {X : Type 0} (f : X → List ℕ) (xs : List X) (a b : X) → IsStrictlySortedBy (on f text_cmp) xs → In a xs → In b xs → f a ≡ f b → a ≡ b
unfolding IsStrictlySortedBy
one_of f [] a b rises (h) other same = absurd h
one_of f (x ∷ xs) a b rises (inl e) (inl g) same = sym e ∙ g
one_of {X = X} f (x ∷ xs) a b rises (inl e) (inr h) same = absurd (less_apart f x b (ap f e ∙ same) (all_in (λ y. text_cmp (f x) (f y) ≡ Less) xs b rises.0 h))
one_of {X = X} f (x ∷ xs) a b rises (inr h) (inl e) same = absurd (less_apart f x a (ap f e ∙ sym same) (all_in (λ y. text_cmp (f x) (f y) ≡ Less) xs a rises.0 h))
one_of f (x ∷ xs) a b rises (inr h) (inr g) same = one_of f xs a b rises.1 h g same

itself : (name : List ℕ) → bytes_eq name name ≡ true
itself name = (bytes_eq-Decides name name).1 refl

found_in_both : {X : Type 0} (f : X → List ℕ) (xs ys : List X) → IsStrictlySortedBy (on f text_cmp) xs → ((name : List ℕ) → find (λ x. bytes_eq name (f x)) xs ≡ find (λ x. bytes_eq name (f x)) ys) → (t : X) → In t xs → In t ys
found_in_both {X = X} f xs ys rises each t h = by (find (λ x. bytes_eq (f t) (f x)) xs) refl
  where
    by : (o : Option X) → find (λ x. bytes_eq (f t) (f x)) xs ≡ o → In t ys
    by None e =
        let missed : bytes_eq (f t) (f t) ≡ false = find_none (λ x. bytes_eq (f t) (f x)) xs t e h in
        let both : true ≡ false = sym (itself (f t)) ∙ missed in absurd (cc both)
    by (Some v) e =
        let there = find_some (λ x. bytes_eq (f t) (f x)) xs v e in
        let key : f t ≡ f v = (bytes_eq-Decides (f t) (f v)).0 there.1 in
        let one : t ≡ v = one_of f xs t v rises h there.0 key in
        let here = find_some (λ x. bytes_eq (f t) (f x)) ys v (sym (each (f t)) ∙ e) in
        subst (λ (u : X). In u ys) (sym one) here.0

same_by_key : {X : Type 0} (f : X → List ℕ) (xs ys : List X) → AllPairs (λ a b. slice_cmp nat_cmp (f a) (f b) ≡ Less) xs → AllPairs (λ a b. slice_cmp nat_cmp (f a) (f b) ≡ Less) ys → ((name : List ℕ) → find (λ x. bytes_eq name (f x)) xs ≡ find (λ x. bytes_eq name (f x)) ys) → xs ≡ ys
same_by_key f xs ys p q each =
    let a = rising_from_pairs (on f text_cmp) xs p in
    let b = rising_from_pairs (on f text_cmp) ys q in
    rising_same (on_total f nat_list_cmp_total) xs ys a b (found_in_both f xs ys a each) (found_in_both f ys xs b (λ name. sym (each name)))

pub winners_are_one : (command : Command) (files : List LoadedFile) (a b : List Winner) → AreWinners command files a → AreWinners command files b → a ≡ b
winners_are_one command files a b p q = same_by_key (λ (w : Winner). w.name) a b p.rising q.rising (λ name. p.each name ∙ sym (q.each name))

-- ---- names

-- of two names of which neither is greater, each is the other
pub neither_greater : (a b : List ℕ) → is_gt (text_cmp a b) ≡ false → is_gt (text_cmp b a) ≡ false → a ≡ b
neither_greater a b p q = by (text_cmp a b) refl
  where
    by : (o : Ordering) → text_cmp a b ≡ o → a ≡ b
    by Equal e = (bytes_eq-Decides a b).0 (sym (is_eq-slice_cmp a b) ∙ ap is_eq e)
    by Greater e = let clash : true ≡ false = sym (ap is_gt e) ∙ p in absurd (cc clash)
    by Less e =
        let back : text_cmp b a ≡ Greater = nat_list_cmp_total.antisymm b a ∙ ap ordering_reverse e in
        let clash : true ≡ false = sym (ap is_gt back) ∙ q in absurd (cc clash)

there_in : (names : List (List ℕ)) (k : ℕ) (name : List ℕ) → slice_get names k ≡ Some name → In name names
there_in [] k name e = let clash : None ≡ Some name = e in absurd (cc clash)
there_in (n ∷ names) zero name e = let same : Some n ≡ Some name = e in inl cc
there_in (n ∷ names) (suc k) name e = inr (there_in names k name e)

apart : (n : List ℕ) (names : List (List ℕ)) (name : List ℕ) → IsDistinct bytes_eq (n ∷ names) → Some n ≡ Some name → In name names → ⊥
apart n names name d e h =
    let same : n ≡ name = cc in
    let no : bytes_eq n name ≡ false = all_in (λ y. bytes_eq n y ≡ false) names name (IsDistinct-head bytes_eq n names d) h in
    let clash : true ≡ false = sym ((bytes_eq-Decides n name).1 same) ∙ no in cc

-- a name has one number among distinct ones
one_number : (names : List (List ℕ)) (i j : ℕ) (name : List ℕ) → IsDistinct bytes_eq names → slice_get names i ≡ Some name → slice_get names j ≡ Some name → i ≡ j
one_number [] i j name d e g = let clash : None ≡ Some name = e in absurd (cc clash)
one_number (n ∷ names) zero zero name d e g = refl
one_number (n ∷ names) zero (suc j) name d e g = absurd (apart n names name d e (there_in names j name g))
one_number (n ∷ names) (suc i) zero name d e g = absurd (apart n names name d g (there_in names i name e))
one_number (n ∷ names) (suc i) (suc j) name d e g = ap suc (one_number names i j name (IsDistinct-tail bytes_eq n names d) e g)

-- the number and what stands beside it, as of one name
one_answer : {P : Type 0} (dup : List ℕ → Option P) (names : List (List ℕ)) (i j : ℕ) (a b : List ℕ) (p q : P) → IsDistinct bytes_eq names → slice_get names i ≡ Some a → slice_get names j ≡ Some b → a ≡ b → dup a ≡ Some p → dup b ≡ Some q → (i ≡ j) × (p ≡ q)
one_answer {P = P} dup names i j a b p q d e g same h k =
    let number : i ≡ j = one_number names i j a d e (g ∙ ap (λ (n : List ℕ). Some n) (sym same)) in
    let both : Some p ≡ Some q = sym h ∙ ap dup same ∙ k in
    let pair : p ≡ q = cc in
    (number, pair)

none_some : {X : Type 0} (o : Option X) (x : X) → o ≡ None → o ≡ Some x → ⊥
none_some o x e g = cc

pub is_some : {X : Type 0} (o : Option X) (x : X) → o ≡ Some x → IsSome o
is_some o x e = rw e refl

pub one_duplicate : (files : List LoadedFile) (names : List (List ℕ)) (a b : Option (ℕ × FileId × FileId)) → IsNumbering names → IsDuplicate files names a → IsDuplicate files names b → a ≡ b
one_duplicate files names None None numbering p q = refl
one_duplicate files names None (Some y) numbering p q = absurd (none_some (duplicate_of files q.name) (y.1, y.2) (p q.name) q.twice)
one_duplicate files names (Some x) None numbering p q = absurd (none_some (duplicate_of files p.name) (x.1, x.2) (q p.name) p.twice)
one_duplicate files names (Some x) (Some y) numbering p q =
    let name : p.name ≡ q.name = neither_greater p.name q.name (p.least q.name (is_some (duplicate_of files q.name) (y.1, y.2) q.twice)) (q.least p.name (is_some (duplicate_of files p.name) (x.1, x.2) p.twice)) in
    let one = one_answer (duplicate_of files) names x.0 y.0 p.name q.name (x.1, x.2) (y.1, y.2) numbering.distinct p.numbered q.numbered name p.twice q.twice in
    let number : x.0 ≡ y.0 = one.0 in
    let first : x.1 ≡ y.1 = ap (λ (r : FileId × FileId). r.0) one.1 in
    let second : x.2 ≡ y.2 = ap (λ (r : FileId × FileId). r.1) one.1 in
    all x y number first second
  where
    all : (x y : ℕ × FileId × FileId) → x.0 ≡ y.0 → x.1 ≡ y.1 → x.2 ≡ y.2 → Some x ≡ Some y
    all (i, u, s) (j, v, t) e g h = rw (e, g, h) refl
