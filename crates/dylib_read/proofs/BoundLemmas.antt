-- Strings that begin others, and the bounds of a name behind a label.
use Rattle.std.proofs.Common.{◌≡◌, ◌≢◌, ℕ, zero, suc, ◌+◌, ◌-◌, ◌<◌, ◌≤◌, ◌⊎◌, inl, inr, Bool, true, false, ◌&&◌, ◌||◌, List, [], ◌∷◌, ◌++◌, length, take, drop, map, get_or, refl, sym, ap, ◌∙◌, arith, eqb, if◌then◌else◌}
use Rattle.std.specs.List.{AllByRecursion}
use Rattle.std.proofs.lemmas.Bool.{and_parts, cases_Bool, eqb-true, eq-eqb, or_from, or_parts, true≢false}
use Rattle.std.proofs.lemmas.List.{drop-take, length-take}
use Rattle.std.proofs.lemmas.List.Folds.{list_any-append}
use Rattle.export_trie.proofs.Strings.{begins_append, begins_short, begins_trans}
use Rattle.export_trie.specs.Strings.{begins}
use Rattle.dylib_read.specs.declared.trie_node.Edge.{Edge}
use Rattle.dylib_read.specs.declared.trie_walk.Bound.{Bound}
use Rattle.dylib_read.specs.TrieNodes.{label}
use Rattle.dylib_read.specs.inner.TrieLinks.{bars, bound_of, narrowed, text}

-- ---- strings

eqb_flip : (x y : ℕ) → eqb x y ≡ true → eqb y x ≡ true
eqb_flip x y e = eq-eqb y x (sym (eqb-true x y e))

both_false : (a b : Bool) → (a ≡ true → b ≡ true → ⊥) → (a && b) ≡ false
both_false true true h = absurd (h refl refl)
both_false true false h = refl
both_false false b h = refl

-- a string and a label with more behind it, where the string doesn't begin the label
pub begins_over : (s l r : List ℕ) → begins s l ≡ false → begins s (l ++ r) ≡ (if begins l s then begins (drop (length l) s) r else false)
begins_over [] l r h = absurd (true≢false h)
begins_over (x ∷ s) [] r h = refl
begins_over (x ∷ s) (y ∷ l) r h = by (begins_over s l r) (cases_Bool (eqb x y))
  where
    flip_false : (eqb x y ≡ false) → (eqb y x ≡ true) ⊎ (eqb y x ≡ false) → eqb y x ≡ false
    flip_false apart (inl same) = absurd (true≢false (sym (eqb_flip y x same) ∙ apart))
    flip_false apart (inr other) = other

    by : (begins s l ≡ false → begins s (l ++ r) ≡ (if begins l s then begins (drop (length l) s) r else false)) → (eqb x y ≡ true) ⊎ (eqb x y ≡ false) → begins (x ∷ s) (y ∷ l ++ r) ≡ (if begins (y ∷ l) (x ∷ s) then begins (drop (length l) s) r else false)
    by over (inl same) =
        let flip : eqb y x ≡ true = eqb_flip x y same in
        let rest : begins s l ≡ false = ap (λ (b : Bool). b && begins s l) (sym same) ∙ h in
        rw (same, flip) (over rest)
    by over (inr apart) =
        let flip : eqb y x ≡ false = flip_false apart (cases_Bool (eqb y x)) in
        rw (apart, flip) refl

-- ---- bounds

drop_twice : (n m : ℕ) (xs : List ℕ) → drop n (drop m xs) ≡ drop (m + n) xs
drop_twice n zero xs = let e : zero + n ≡ n = omega arith in rw e refl
drop_twice n (suc m) [] = rw (drop_none n) (sym (drop_none (suc m + n)))
  where
    drop_none : (k : ℕ) → ◌≡◌ {A = List ℕ} (drop k []) []
    drop_none zero = refl
    drop_none (suc k) = refl
drop_twice n (suc m) (x ∷ xs) = let e : suc m + n ≡ suc (m + n) = omega arith in rw e (drop_twice n m xs)

text_left : (trie : List ℕ) (bound : Bound) (n : ℕ) → n ≤ bound.size → text trie (record { at = bound.at + n; size = bound.size - n }) ≡ drop n (text trie bound)
text_left trie bound n within =
    let whole : n + (bound.size - n) ≡ bound.size = omega arith in
    sym (ap (λ (k : ℕ). drop n (take k (drop bound.at trie))) (sym whole)
    ∙ (drop-take n (bound.size - n) (drop bound.at trie) ∙ ap (take (bound.size - n)) (drop_twice n bound.at trie)))

pub text_short : (trie : List ℕ) (bound : Bound) → length (text trie bound) ≤ bound.size
text_short trie bound = omega (arith, length-take bound.size (drop bound.at trie))

pub label_fits : (trie : List ℕ) (bound : Bound) (l : List ℕ) → begins l (text trie bound) ≡ true → length l ≤ bound.size
label_fits trie bound l h = omega (arith, begins_short l (text trie bound) h, text_short trie bound)

pub bars_over : (trie : List ℕ) (bounds : List Bound) (l r : List ℕ) → bars trie bounds l ≡ false → bars trie bounds (l ++ r) ≡ bars trie (narrowed trie bounds l) r
bars_over trie [] l r h = refl
bars_over trie (b ∷ bounds) l r h =
    by (bars_over trie bounds l r (or_parts (begins (text trie b) l) (bars trie bounds l) h).1) (cases_Bool (begins l (text trie b)))
  where
    parts : (begins (text trie b) l ≡ false) × (bars trie bounds l ≡ false)
    parts = or_parts (begins (text trie b) l) (bars trie bounds l) h

    over : begins (text trie b) (l ++ r) ≡ (if begins l (text trie b) then begins (drop (length l) (text trie b)) r else false)
    over = begins_over (text trie b) l r parts.0

    by : bars trie bounds (l ++ r) ≡ bars trie (narrowed trie bounds l) r → (begins l (text trie b) ≡ true) ⊎ (begins l (text trie b) ≡ false) → bars trie (b ∷ bounds) (l ++ r) ≡ bars trie (narrowed trie (b ∷ bounds) l) r
    by rest (inl front) =
        let left : text trie (record { at = b.at + length l; size = b.size - length l }) ≡ drop (length l) (text trie b) = text_left trie b (length l) (label_fits trie b l front) in
        let here : begins (text trie b) (l ++ r) ≡ begins (drop (length l) (text trie b)) r = over ∙ rw front refl in
        rw (front, left, here, rest) refl
    by rest (inr apart) =
        let here : begins (text trie b) (l ++ r) ≡ false = over ∙ rw apart refl in
        rw (apart, here, rest) refl

pub bars_longer : (trie : List ℕ) (bounds : List Bound) (l r : List ℕ) → bars trie bounds (l ++ r) ≡ false → bars trie bounds l ≡ false
bars_longer trie [] l r h = refl
bars_longer trie (b ∷ bounds) l r h =
    let parts = or_parts (begins (text trie b) (l ++ r)) (bars trie bounds (l ++ r)) h in
    or_from (begins (text trie b) l) (bars trie bounds l) (shorter (cases_Bool (begins (text trie b) l)) parts.0) (bars_longer trie bounds l r parts.1)
  where
    shorter : (begins (text trie b) l ≡ true) ⊎ (begins (text trie b) l ≡ false) → begins (text trie b) (l ++ r) ≡ false → begins (text trie b) l ≡ false
    shorter (inl front) none = absurd (true≢false (sym (begins_trans (text trie b) l (l ++ r) front (begins_append l r)) ∙ none))
    shorter (inr away) none = away

pub bars_append : (trie : List ℕ) (a b : List Bound) (rest : List ℕ) → bars trie (a ++ b) rest ≡ (bars trie a rest || bars trie b rest)
bars_append trie a b rest = list_any-append (λ (bound : Bound). begins (text trie bound) rest) a b

-- bounds that are labels
pub bars_labels : (trie : List ℕ) (edges : List Edge) (k : ℕ) (rest : List ℕ) → ((j : ℕ) (d : Edge) → j < k → j < length edges → begins (label trie (get_or edges j d)) rest ≡ false) → bars trie (map bound_of (take k edges)) rest ≡ false
bars_labels trie edges zero rest each = refl
bars_labels trie [] (suc k) rest each = refl
bars_labels trie (e ∷ edges) (suc k) rest each =
    or_from (begins (label trie e) rest) (bars trie (map bound_of (take k edges)) rest) (each 0 e (omega arith) (omega arith))
    (bars_labels trie edges k rest (λ j d low within. each (suc j) d (omega (arith, low)) (omega (arith, within))))

pub labels_bar : (trie : List ℕ) (edges : List Edge) (k : ℕ) (rest : List ℕ) → bars trie (map bound_of (take k edges)) rest ≡ false → (j : ℕ) (d : Edge) → j < k → j < length edges → begins (label trie (get_or edges j d)) rest ≡ false
labels_bar trie edges zero rest none j d low within = absurd (omega (arith, low))
labels_bar trie [] (suc k) rest none j d low within = absurd (omega (arith, within))
labels_bar trie (e ∷ edges) (suc k) rest none zero d low within = (or_parts (begins (label trie e) rest) (bars trie (map bound_of (take k edges)) rest) none).0
labels_bar trie (e ∷ edges) (suc k) rest none (suc j) d low within =
    labels_bar trie edges k rest (or_parts (begins (label trie e) rest) (bars trie (map bound_of (take k edges)) rest) none).1 j d (omega (arith, low)) (omega (arith, within))

-- ---- bytes of labels

-- the string has a first byte, and none is a NUL
pub record IsPlain (text : List ℕ) : Type 0 where
  pub some : text ≡ [] → ⊥
  pub bytes : AllByRecursion (λ b. b ≢ 0) text

-- each bound is plain
unfoldable pub ArePlain : List ℕ → List Bound → Type 0
ArePlain trie bounds = AllByRecursion (λ bound. IsPlain (text trie bound)) bounds

-- no bound has a NUL
unfoldable pub HaveBytes : List ℕ → List Bound → Type 0
HaveBytes trie bounds = AllByRecursion (λ bound. AllByRecursion (λ b. b ≢ 0) (text trie bound)) bounds

plain_apart : (s : List ℕ) → IsPlain s → begins s (0 ∷ []) ≡ false
plain_apart [] plain = absurd (plain.some refl)
plain_apart (x ∷ s) plain = both_false (eqb x 0) (begins s []) (λ e f. plain.bytes.0 (eqb-true x 0 e))

-- a NUL passes them
pub nul_passes : (trie : List ℕ) (bounds : List Bound) → ArePlain trie bounds → bars trie bounds (0 ∷ []) ≡ false
unfolding ArePlain
nul_passes trie [] plain = refl
nul_passes trie (b ∷ bounds) plain = or_from (begins (text trie b) (0 ∷ [])) (bars trie bounds (0 ∷ [])) (plain_apart (text trie b) plain.0) (nul_passes trie bounds plain.1)

empty_apart : (s : List ℕ) → IsPlain s → begins s [] ≡ false
empty_apart [] plain = absurd (plain.some refl)
empty_apart (x ∷ s) plain = refl

pub nothing_passes : (trie : List ℕ) (bounds : List Bound) → ArePlain trie bounds → bars trie bounds [] ≡ false
unfolding ArePlain
nothing_passes trie [] plain = refl
nothing_passes trie (b ∷ bounds) plain = or_from (begins (text trie b) []) (bars trie bounds []) (empty_apart (text trie b) plain.0) (nothing_passes trie bounds plain.1)

drop_bytes : (n : ℕ) (s : List ℕ) → AllByRecursion (λ b. b ≢ 0) s → AllByRecursion (λ b. b ≢ 0) (drop n s)
drop_bytes zero s all = all
drop_bytes (suc n) [] all = all
drop_bytes (suc n) (x ∷ s) all = drop_bytes n s all.1

-- what is left of a string that doesn't begin the label
left_some : (s l : List ℕ) → begins l s ≡ true → begins s l ≡ false → drop (length l) s ≡ [] → ⊥
left_some [] l front away none = true≢false away
left_some (x ∷ s) [] front away none = absurd (omega (arith, ap length none))
left_some (x ∷ s) (y ∷ l) front away none =
    let parts = and_parts (eqb y x) (begins l s) front in
    left_some s l parts.1 (ap (λ (b : Bool). b && begins s l) (sym (eqb_flip y x parts.0)) ∙ away) none

pub narrowed_plain : (trie : List ℕ) (bounds : List Bound) (l : List ℕ) → HaveBytes trie bounds → bars trie bounds l ≡ false → ArePlain trie (narrowed trie bounds l)
unfolding ArePlain HaveBytes
narrowed_plain trie [] l bytes free = tt
narrowed_plain trie (b ∷ bounds) l bytes free =
    by (narrowed_plain trie bounds l bytes.1 (or_parts (begins (text trie b) l) (bars trie bounds l) free).1) (cases_Bool (begins l (text trie b)))
  where
    parts : (begins (text trie b) l ≡ false) × (bars trie bounds l ≡ false)
    parts = or_parts (begins (text trie b) l) (bars trie bounds l) free

    by : ArePlain trie (narrowed trie bounds l) → (begins l (text trie b) ≡ true) ⊎ (begins l (text trie b) ≡ false) → ArePlain trie (narrowed trie (b ∷ bounds) l)
    by rest (inl front) =
        let left : text trie (record { at = b.at + length l; size = b.size - length l }) ≡ drop (length l) (text trie b) = text_left trie b (length l) (label_fits trie b l front) in
        rw front (rw left (record { some = left_some (text trie b) l front parts.0; bytes = drop_bytes (length l) (text trie b) bytes.0 }), rest)
    by rest (inr away) = rw away rest

pub plain_bytes : (trie : List ℕ) (bounds : List Bound) → ArePlain trie bounds → HaveBytes trie bounds
unfolding ArePlain HaveBytes
plain_bytes trie [] plain = tt
plain_bytes trie (b ∷ bounds) plain = (plain.0.bytes, plain_bytes trie bounds plain.1)

pub bytes_append : (trie : List ℕ) (a b : List Bound) → HaveBytes trie a → HaveBytes trie b → HaveBytes trie (a ++ b)
unfolding HaveBytes
bytes_append trie [] b p q = q
bytes_append trie (x ∷ a) b p q = (p.0, bytes_append trie a b p.1 q)
