-- Nodes are alike where they have one shape and refer to nodes of the same classes.
use Rattle.std.proofs.Common.{◌≡◌, ℕ, Bool, true, false, ◌&&◌, ◌==◌, List, [], ◌∷◌, ◌++◌, length, map, refl, sym, ap, ◌∙◌, arith, Option, Some, None}
use Rattle.std.specs.List.{AllZip, flat_map}
use Rattle.std.specs.Cmp.Lexicographic.{pointwise}
use Rattle.std.specs.Ordering.{int_eq}
use Rattle.std.specs.Str.{bytes_eq}
use Rattle.std.proofs.lemmas.Bool.{and_from, and_parts, eq-eqb, eqb-true}
use Rattle.std.proofs.lemmas.Bool.Decides.{Decides-int_eq}
use Rattle.std.proofs.lemmas.List.{length-append, length-map, map-append}
use Rattle.std.proofs.lemmas.Slice.Eq.{bytes_eq-Decides}
use Rattle.mo_types.proofs.Goals.{same_goals}
use Rattle.mo_types.specs.declared.key.AtomKey.{AtomKey}
use Rattle.mo_types.specs.declared.reference.RefKind.{RefKind}
use Rattle.mo_types.specs.declared.reference.RefKind.TheVariants.{Pointer, Diff32, Diff64, Branch, Page, PageOff, GotPage, GotPageOff, GotDelta, GotPointer, TlvPage, TlvPageOff}
use Rattle.fold_code.specs.declared.node.FoldGoal.{FoldGoal}
use Rattle.fold_code.specs.declared.node.FoldGoal.TheVariants.{Node, Other}
use Rattle.fold_code.specs.declared.node.FoldUnwind.{FoldUnwind}
use Rattle.fold_code.specs.Fold.{AreAlike, IsSame, IsSameGoal, IsSameLink, IsSameUnwind, Partition}
use Rattle.fold_code.specs.inner.Shapes.{ends_of, ends_of_goal, ends_of_link, ends_of_optional, ends_of_unwind, kind_number, same_goal, same_key, same_link, same_lsda, same_optional, same_shape, same_unwind}
use Rattle.fold_code.specs.inner.ShapeLaws.{five, same_keys, same_others}

-- a relation is told by a test and by the classes of nodes
pub record IsTold {X : Type 0} (class : Partition) (E : X → X → Bool) (ends : X → List ℕ) (R : X → X → Type 0) : Type 0 where
  pub long : (a b : X) → E a b ≡ true → length (ends a) ≡ length (ends b)
  pub from : (a b : X) → E a b ≡ true → map class (ends a) ≡ map class (ends b) → R a b
  pub test : (a b : X) → R a b → E a b ≡ true
  pub same : (a b : X) → R a b → map class (ends a) ≡ map class (ends b)

cons_parts : {X : Type 0} (x y : X) (xs ys : List X) → x ∷ xs ≡ y ∷ ys → (x ≡ y) × (xs ≡ ys)
cons_parts x y xs ys e = let h : x ≡ y = cc in let t : xs ≡ ys = cc in (h, t)

split : {X : Type 0} (xs xs' ys ys' : List X) → length xs ≡ length xs' → xs ++ ys ≡ xs' ++ ys' → (xs ≡ xs') × (ys ≡ ys')
split [] [] ys ys' long e = (refl, e)
split [] (x ∷ xs') ys ys' long e = absurd (omega arith)
split (x ∷ xs) [] ys ys' long e = absurd (omega arith)
split (x ∷ xs) (y ∷ xs') ys ys' long e =
    let p = cons_parts x y (xs ++ ys) (xs' ++ ys') e in
    let rest = split xs xs' ys ys' (omega arith) p.1 in
    let h = p.0 in
    let t = rest.0 in
    ((λ i. h i ∷ t i), rest.1)

-- two lists of ends, one behind the other
halves : (class : Partition) (a a' b b' : List ℕ) → length a ≡ length a' → map class (a ++ b) ≡ map class (a' ++ b') → (map class a ≡ map class a') × (map class b ≡ map class b')
halves class a a' b b' long e =
    let same : length (map class a) ≡ length (map class a') = length-map a class ∙ long ∙ sym (length-map a' class) in
    split (map class a) (map class a') (map class b) (map class b') same (sym (map-append class a b) ∙ e ∙ map-append class a' b')

joined : (class : Partition) (a a' b b' : List ℕ) → map class a ≡ map class a' → map class b ≡ map class b' → map class (a ++ b) ≡ map class (a' ++ b')
joined class a a' b b' e f = map-append class a b ∙ (λ i. e i ++ f i) ∙ sym (map-append class a' b')

as_long : (a a' b b' : List ℕ) → length a ≡ length a' → length b ≡ length b' → length (a ++ b) ≡ length (a' ++ b')
as_long a a' b b' e f = omega (arith, length-append a b, length-append a' b')

goals_told : (class : Partition) → IsTold class same_goal ends_of_goal (IsSameGoal class)
goals_told class = record { long = long; from = from; test = test; same = same }
  where
    long : (a b : FoldGoal) → same_goal a b ≡ true → length (ends_of_goal a) ≡ length (ends_of_goal b)
    long (Node a at) (Node b to) e = refl
    long (Node a at) (Other b) e = cc
    long (Other a) (Node b to) e = cc
    long (Other a) (Other b) e = refl

    from : (a b : FoldGoal) → same_goal a b ≡ true → map class (ends_of_goal a) ≡ map class (ends_of_goal b) → IsSameGoal class a b
    from (Node a at) (Node b to) e f = ((cons_parts (class a) (class b) [] [] f).0, eqb-true at to e)
    from (Node a at) (Other b) e f = cc
    from (Other a) (Node b to) e f = cc
    from (Other a) (Other b) e f = same_others a b e

    test : (a b : FoldGoal) → IsSameGoal class a b → same_goal a b ≡ true
    test (Node a at) (Node b to) h = eq-eqb at to h.1
    test (Node a at) (Other b) h = absurd h
    test (Other a) (Node b to) h = absurd h
    test (Other a) (Other b) h = (same_goals a b).1 h

    same : (a b : FoldGoal) → IsSameGoal class a b → map class (ends_of_goal a) ≡ map class (ends_of_goal b)
    same (Node a at) (Node b to) h = ap (λ n. n ∷ []) h.0
    same (Node a at) (Other b) h = absurd h
    same (Other a) (Node b to) h = absurd h
    same (Other a) (Other b) h = refl

optionals_told : (class : Partition) → IsTold class same_optional ends_of_optional (IsSame class)
optionals_told class = record { long = long; from = from; test = test; same = same }
  where
    long : (a b : Option FoldGoal) → same_optional a b ≡ true → length (ends_of_optional a) ≡ length (ends_of_optional b)
    long None None e = refl
    long None (Some b) e = cc
    long (Some a) None e = cc
    long (Some a) (Some b) e = (goals_told class).long a b e

    from : (a b : Option FoldGoal) → same_optional a b ≡ true → map class (ends_of_optional a) ≡ map class (ends_of_optional b) → IsSame class a b
    from None None e f = tt
    from None (Some b) e f = cc
    from (Some a) None e f = cc
    from (Some a) (Some b) e f = (goals_told class).from a b e f

    test : (a b : Option FoldGoal) → IsSame class a b → same_optional a b ≡ true
    test None None h = refl
    test None (Some b) h = absurd h
    test (Some a) None h = absurd h
    test (Some a) (Some b) h = (goals_told class).test a b h

    same : (a b : Option FoldGoal) → IsSame class a b → map class (ends_of_optional a) ≡ map class (ends_of_optional b)
    same None None h = refl
    same None (Some b) h = absurd h
    same (Some a) None h = absurd h
    same (Some a) (Some b) h = (goals_told class).same a b h

abbrev choose : Bool → RefKind → RefKind → RefKind
choose true a b = a
choose false a b = b

abbrev kind_back : ℕ → RefKind
kind_back n = choose (n == 0) Pointer (choose (n == 1) Diff32 (choose (n == 2) Diff64 (choose (n == 3) Branch (choose (n == 4) Page (choose (n == 5) PageOff
    (choose (n == 6) GotPage (choose (n == 7) GotPageOff (choose (n == 8) GotDelta (choose (n == 9) GotPointer (choose (n == 10) TlvPage TlvPageOff))))))))))

there_and_back : (k : RefKind) → kind_back (kind_number k) ≡ k
there_and_back Pointer = refl
there_and_back Diff32 = refl
there_and_back Diff64 = refl
there_and_back Branch = refl
there_and_back Page = refl
there_and_back PageOff = refl
there_and_back GotPage = refl
there_and_back GotPageOff = refl
there_and_back GotDelta = refl
there_and_back GotPointer = refl
there_and_back TlvPage = refl
there_and_back TlvPageOff = refl

same_kinds : (a b : RefKind) → (kind_number a == kind_number b) ≡ true → a ≡ b
same_kinds a b e = sym (there_and_back a) ∙ ap kind_back (eqb-true (kind_number a) (kind_number b) e) ∙ there_and_back b

key_itself : (k : AtomKey) → same_key k k ≡ true
key_itself k = rw (eq-eqb k.file.position k.file.position refl, eq-eqb k.file.member k.file.member refl, eq-eqb k.section k.section refl, eq-eqb k.offset k.offset refl) refl

lsda_from : (a b : Option (AtomKey × ℕ)) → same_lsda a b ≡ true → a ≡ b
lsda_from None None e = refl
lsda_from None (Some b) e = cc
lsda_from (Some a) None e = cc
lsda_from (Some a) (Some b) e =
    let p = and_parts (same_key a.0 b.0) (a.1 == b.1) e in
    let k = same_keys a.0 b.0 p.0 in
    let n = eqb-true a.1 b.1 p.1 in
    (λ i. Some (k i, n i))

lsda_itself : (a : Option (AtomKey × ℕ)) → same_lsda a a ≡ true
lsda_itself None = refl
lsda_itself (Some a) = and_from (same_key a.0 a.0) (a.1 == a.1) (key_itself a.0) (eq-eqb a.1 a.1 refl)

lsda_test : (a b : Option (AtomKey × ℕ)) → a ≡ b → same_lsda a b ≡ true
lsda_test a b e = ap (same_lsda a) (sym e) ∙ lsda_itself a

all_five : (a b c d f : Bool) → a ≡ true → b ≡ true → c ≡ true → d ≡ true → f ≡ true → (a && b && c && d && f) ≡ true
all_five a b c d f e1 e2 e3 e4 e5 = and_from (a && b && c && d) f (and_from (a && b && c) d (and_from (a && b) c (and_from a b e1 e2) e3) e4) e5

links_told : (class : Partition) → IsTold class same_link ends_of_link (IsSameLink class)
links_told class = record {
  long = λ a b e.
      let p = five (a.place == b.place) (kind_number a.kind == kind_number b.kind) (int_eq a.addend b.addend) (same_goal a.goal b.goal) (same_optional a.minus b.minus) e in
      as_long (ends_of_goal a.goal) (ends_of_goal b.goal) (ends_of_optional a.minus) (ends_of_optional b.minus) ((goals_told class).long a.goal b.goal p.3) ((optionals_told class).long a.minus b.minus p.4);
  from = λ a b e f.
      let p = five (a.place == b.place) (kind_number a.kind == kind_number b.kind) (int_eq a.addend b.addend) (same_goal a.goal b.goal) (same_optional a.minus b.minus) e in
      let h = halves class (ends_of_goal a.goal) (ends_of_goal b.goal) (ends_of_optional a.minus) (ends_of_optional b.minus) ((goals_told class).long a.goal b.goal p.3) f in
      record {
        place = eqb-true a.place b.place p.0;
        kind = same_kinds a.kind b.kind p.1;
        addend = (Decides-int_eq a.addend b.addend).0 p.2;
        goal = (goals_told class).from a.goal b.goal p.3 h.0;
        minus = (optionals_told class).from a.minus b.minus p.4 h.1;
      };
  test = λ a b h.
      all_five (a.place == b.place) (kind_number a.kind == kind_number b.kind) (int_eq a.addend b.addend) (same_goal a.goal b.goal) (same_optional a.minus b.minus)
      (eq-eqb a.place b.place h.place) (eq-eqb (kind_number a.kind) (kind_number b.kind) (ap kind_number h.kind)) ((Decides-int_eq a.addend b.addend).1 h.addend)
      ((goals_told class).test a.goal b.goal h.goal) ((optionals_told class).test a.minus b.minus h.minus);
  same = λ a b h.
      joined class (ends_of_goal a.goal) (ends_of_goal b.goal) (ends_of_optional a.minus) (ends_of_optional b.minus) ((goals_told class).same a.goal b.goal h.goal) ((optionals_told class).same a.minus b.minus h.minus);
}

unwinds_told : (class : Partition) → IsTold class same_unwind ends_of_unwind (IsSameUnwind class)
unwinds_told class = record {
  long = λ a b e. (optionals_told class).long a.personality b.personality (parts a b e).3;
  from = λ a b e f.
      let p = parts a b e in
      record {
        offset = eqb-true a.offset b.offset p.0;
        length = eqb-true a.length b.length p.1;
        encoding = eqb-true a.encoding b.encoding p.2;
        personality = (optionals_told class).from a.personality b.personality p.3 f;
        lsda = lsda_from a.lsda b.lsda p.4;
      };
  test = λ a b h.
      all_five (a.offset == b.offset) (a.length == b.length) (a.encoding == b.encoding) (same_optional a.personality b.personality) (same_lsda a.lsda b.lsda)
      (eq-eqb a.offset b.offset h.offset) (eq-eqb a.length b.length h.length) (eq-eqb a.encoding b.encoding h.encoding) ((optionals_told class).test a.personality b.personality h.personality)
      (lsda_test a.lsda b.lsda h.lsda);
  same = λ a b h. (optionals_told class).same a.personality b.personality h.personality;
}
  where
    parts : (a b : FoldUnwind) → same_unwind a b ≡ true
        → ((a.offset == b.offset) ≡ true) × ((a.length == b.length) ≡ true) × ((a.encoding == b.encoding) ≡ true) × (same_optional a.personality b.personality ≡ true) × (same_lsda a.lsda b.lsda ≡ true)
    parts a b e = five (a.offset == b.offset) (a.length == b.length) (a.encoding == b.encoding) (same_optional a.personality b.personality) (same_lsda a.lsda b.lsda) e

-- ---- lists

list_long : {X : Type 0} (class : Partition) (E : X → X → Bool) (ends : X → List ℕ) (R : X → X → Type 0) → IsTold class E ends R → (xs ys : List X) → pointwise E xs ys ≡ true → length (flat_map ends xs) ≡ length (flat_map ends ys)
list_long class E ends R told [] [] e = refl
list_long class E ends R told [] (y ∷ ys) e = cc
list_long class E ends R told (x ∷ xs) [] e = cc
list_long class E ends R told (x ∷ xs) (y ∷ ys) e =
    let p = and_parts (E x y) (pointwise E xs ys) e in
    as_long (ends x) (ends y) (flat_map ends xs) (flat_map ends ys) (told.long x y p.0) (list_long class E ends R told xs ys p.1)

list_from : {X : Type 0} (class : Partition) (E : X → X → Bool) (ends : X → List ℕ) (R : X → X → Type 0) → IsTold class E ends R → (xs ys : List X) → pointwise E xs ys ≡ true
    → map class (flat_map ends xs) ≡ map class (flat_map ends ys) → AllZip R xs ys
list_from class E ends R told [] [] e f = tt
list_from class E ends R told [] (y ∷ ys) e f = cc
list_from class E ends R told (x ∷ xs) [] e f = cc
list_from class E ends R told (x ∷ xs) (y ∷ ys) e f =
    let p = and_parts (E x y) (pointwise E xs ys) e in
    let h = halves class (ends x) (ends y) (flat_map ends xs) (flat_map ends ys) (told.long x y p.0) f in
    (told.from x y p.0 h.0, list_from class E ends R told xs ys p.1 h.1)

list_test : {X : Type 0} (class : Partition) (E : X → X → Bool) (ends : X → List ℕ) (R : X → X → Type 0) → IsTold class E ends R → (xs ys : List X) → AllZip R xs ys → pointwise E xs ys ≡ true
list_test class E ends R told [] [] h = refl
list_test class E ends R told [] (y ∷ ys) h = absurd h
list_test class E ends R told (x ∷ xs) [] h = absurd h
list_test class E ends R told (x ∷ xs) (y ∷ ys) h = and_from (E x y) (pointwise E xs ys) (told.test x y h.0) (list_test class E ends R told xs ys h.1)

list_same : {X : Type 0} (class : Partition) (E : X → X → Bool) (ends : X → List ℕ) (R : X → X → Type 0) → IsTold class E ends R → (xs ys : List X) → AllZip R xs ys → map class (flat_map ends xs) ≡ map class (flat_map ends ys)
list_same class E ends R told [] [] h = refl
list_same class E ends R told [] (y ∷ ys) h = absurd h
list_same class E ends R told (x ∷ xs) [] h = absurd h
list_same class E ends R told (x ∷ xs) (y ∷ ys) h = joined class (ends x) (ends y) (flat_map ends xs) (flat_map ends ys) (told.same x y h.0) (list_same class E ends R told xs ys h.1)

-- ---- nodes

pub nodes_told : (class : Partition) → IsTold class same_shape ends_of (AreAlike class)
unfolding same_shape ends_of
nodes_told class = record {
  long = λ a b e.
      let p = and_parts (bytes_eq a.bytes b.bytes && pointwise same_link a.links b.links) (pointwise same_unwind a.unwinds b.unwinds) e in
      let q = and_parts (bytes_eq a.bytes b.bytes) (pointwise same_link a.links b.links) p.0 in
      as_long (flat_map ends_of_link a.links) (flat_map ends_of_link b.links) (flat_map ends_of_unwind a.unwinds) (flat_map ends_of_unwind b.unwinds)
      (list_long class same_link ends_of_link (IsSameLink class) (links_told class) a.links b.links q.1) (list_long class same_unwind ends_of_unwind (IsSameUnwind class) (unwinds_told class) a.unwinds b.unwinds p.1);
  from = λ a b e f.
      let p = and_parts (bytes_eq a.bytes b.bytes && pointwise same_link a.links b.links) (pointwise same_unwind a.unwinds b.unwinds) e in
      let q = and_parts (bytes_eq a.bytes b.bytes) (pointwise same_link a.links b.links) p.0 in
      let h = halves class (flat_map ends_of_link a.links) (flat_map ends_of_link b.links) (flat_map ends_of_unwind a.unwinds) (flat_map ends_of_unwind b.unwinds)
      (list_long class same_link ends_of_link (IsSameLink class) (links_told class) a.links b.links q.1) f in
      record {
        bytes = (bytes_eq-Decides a.bytes b.bytes).0 q.0;
        links = list_from class same_link ends_of_link (IsSameLink class) (links_told class) a.links b.links q.1 h.0;
        unwinds = list_from class same_unwind ends_of_unwind (IsSameUnwind class) (unwinds_told class) a.unwinds b.unwinds p.1 h.1;
      };
  test = λ a b h.
      and_from (bytes_eq a.bytes b.bytes && pointwise same_link a.links b.links) (pointwise same_unwind a.unwinds b.unwinds)
      (and_from (bytes_eq a.bytes b.bytes) (pointwise same_link a.links b.links) ((bytes_eq-Decides a.bytes b.bytes).1 h.bytes)
      (list_test class same_link ends_of_link (IsSameLink class) (links_told class) a.links b.links h.links))
      (list_test class same_unwind ends_of_unwind (IsSameUnwind class) (unwinds_told class) a.unwinds b.unwinds h.unwinds);
  same = λ a b h.
      joined class (flat_map ends_of_link a.links) (flat_map ends_of_link b.links) (flat_map ends_of_unwind a.unwinds) (flat_map ends_of_unwind b.unwinds)
      (list_same class same_link ends_of_link (IsSameLink class) (links_told class) a.links b.links h.links) (list_same class same_unwind ends_of_unwind (IsSameUnwind class) (unwinds_told class) a.unwinds b.unwinds h.unwinds);
}
