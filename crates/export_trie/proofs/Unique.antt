-- The exports have one trie.
use Rattle.std.proofs.Common.{◌≡◌, ℕ, ◌⊎◌, List, [], ◌∷◌, refl, sym, ◌∙◌, ap, subst, inl, inr}
use Rattle.std.specs.List.{flat_map}
use Rattle.std.proofs.Math.Nat.{le_antisymm}
use Rattle.export_trie.specs.declared.export.ExportAddress.{ExportAddress}
use Rattle.export_trie.specs.Trie.{is_child, children, child_bytes, node_bytes, Agrees, padded, IsTrie}
use Rattle.list_lemmas.proofs.Members.{In, in_from_Contains, Contains_from_in, all_in, from_filter}
use Rattle.export_trie.proofs.Strings.{Below, below_irrefl, below_asym, Rising, rising_from_sorted}

-- lists in order with the same members are one list
rising_same : (xs ys : List (List ℕ)) → Rising xs → Rising ys → ((t : List ℕ) → In t xs → In t ys) → ((t : List ℕ) → In t ys → In t xs) → xs ≡ ys
rising_same [] [] p q there back = refl
rising_same [] (y ∷ ys) p q there back = absurd (back y (inl refl))
rising_same (x ∷ xs) [] p q there back = absurd (there x (inl refl))
rising_same (x ∷ xs) (y ∷ ys) p q there back =
    let same : x ≡ y = heads (there x (inl refl)) (back y (inl refl)) in
    let rest : xs ≡ ys = rising_same xs ys p.1 q.1
    (λ t h. tail y ys t (there t (inr h)) (λ e. below_irrefl t (subst (λ (s : List ℕ). Below s t) (same ∙ e) (all_in (Below x) xs t p.0 h))))
    (λ t h. tail x xs t (back t (inr h)) (λ e. below_irrefl t (subst (λ (s : List ℕ). Below s t) (sym same ∙ e) (all_in (Below y) ys t q.0 h)))) in
    rw (same, rest) refl
  where
    heads : (y ≡ x) ⊎ In x ys → (x ≡ y) ⊎ In y xs → x ≡ y
    heads (inl e) other = sym e
    heads (inr h) (inl e) = e
    heads (inr h) (inr i) = absurd (below_asym x y (all_in (Below x) xs y p.0 i) (all_in (Below y) ys x q.0 h))

    tail : (z : List ℕ) (zs : List (List ℕ)) (t : List ℕ) → (z ≡ t) ⊎ In t zs → (z ≡ t → ⊥) → In t zs
    tail z zs t (inl e) apart = absurd (apart e)
    tail z zs t (inr h) apart = h

flat_map_agree : {X Y : Type 0} (f g : X → List Y) (xs : List X) → ((x : X) → In x xs → f x ≡ g x) → flat_map f xs ≡ flat_map g xs
flat_map_agree f g [] same = refl
flat_map_agree f g (x ∷ xs) same = rw (same x (inl refl), flat_map_agree f g xs (λ y h. same y (inr h))) refl

-- a node's bytes depend on the places of its children alone
bytes_agree : (exports : List ExportAddress) (nodes : List (List ℕ)) (place other : List ℕ → ℕ) (node : List ℕ) → ((t : List ℕ) → In t nodes → place t ≡ other t) → node_bytes exports nodes place node ≡ node_bytes exports nodes other node
unfolding node_bytes child_bytes children
bytes_agree exports nodes place other node same =
    let kids = flat_map_agree (child_bytes place node) (child_bytes other node) (children nodes node) (λ kid h. rw (same kid (from_filter (is_child nodes node) nodes kid h).0) refl) in
    rw kids refl

same_spelling : (exports : List ExportAddress) (a b : List ℕ) (s : IsTrie exports a) (nodes : List (List ℕ)) (place : List ℕ → ℕ) → s.nodes ≡ nodes → ((t : List ℕ) → In t nodes → s.place t ≡ place t) → b ≡ padded (flat_map (node_bytes exports nodes place) nodes) → a ≡ b
same_spelling exports a b s nodes place n p e =
    s.spelled ∙ (ap (λ (ns : List (List ℕ)). padded (flat_map (node_bytes exports ns s.place) ns)) n
    ∙ (ap padded (flat_map_agree (node_bytes exports nodes s.place) (node_bytes exports nodes place) nodes (λ node h. bytes_agree exports nodes s.place place node p)) ∙ sym e))

pub one_trie : (exports : List ExportAddress) (a b : List ℕ) → IsTrie exports a → IsTrie exports b → a ≡ b
one_trie exports a b s t =
    let nodes : s.nodes ≡ t.nodes =
    rising_same s.nodes t.nodes (rising_from_sorted s.nodes s.all.rising) (rising_from_sorted t.nodes t.all.rising)
    (λ node h. in_from_Contains t.nodes node (t.all.all node (s.all.only node (Contains_from_in s.nodes node h))))
    (λ node h. in_from_Contains s.nodes node (s.all.all node (t.all.only node (Contains_from_in t.nodes node h)))) in
    same_spelling exports a b s t.nodes t.place nodes (λ node h.
    let here : In node s.nodes = subst (In node) (sym nodes) h in
    le_antisymm
    (s.least t.place (subst (λ (ns : List (List ℕ)). Agrees exports ns t.place) (sym nodes) t.agree) node (Contains_from_in s.nodes node here))
    (t.least s.place (subst (λ (ns : List (List ℕ)). Agrees exports ns s.place) nodes s.agree) node (Contains_from_in t.nodes node h)))
    t.spelled
