-- The nodes that the code builds, from the last name to the first.
use Rattle.std.proofs.Common.{◌≡◌, ℕ, zero, suc, ◌+◌, ◌-◌, ◌<◌, ◌≤◌, ◌⊎◌, true, false, List, [], ◌∷◌, ◌++◌, length, take, drop, reverse, get_or, refl, sym, ◌∙◌, ap, subst, inl, inr, arith, Contains, Some, slice_get, append_assoc, append-nil}
use Rattle.std.specs.List.{AllByRecursion}
use Rattle.std.proofs.lemmas.Bool.{cases_order, cases_lt, lt-ltb, le-ltb, eq-eqb, ne_eqb, true≢false}
use Rattle.std.proofs.lemmas.List.{map-append, append_cancel_left, length-take-le, take_at, drop_more, drop_all}
use Rattle.std.proofs.lemmas.List.Elements.{All-from_recursion}
use Rattle.export_trie.specs.Trie.{IsNode}
use Rattle.export_trie.specs.declared.nodes.Node.{Node}
use Rattle.export_trie.specs.Strings.{begins, common}
use Rattle.export_trie.specs.Held.{text, texts, name_of, Fits, AreHeld, node_at, last_bytes, without_last, Closes, entered}
use Rattle.export_trie.proofs.Walks.{begins_split}
use Rattle.list_lemmas.proofs.Members.{In, in_from_Contains, Contains_from_in, all_in, all_from_in, in_map, from_map, in_either, in_left, in_right}
use Rattle.export_trie.proofs.Strings.{begins_self, begins_trans, begins_short, begins_shorter, common_self, common_left, common_right, Below, below_irrefl, below_asym, above_below, Rising, sorted_from_rising}
use Rattle.export_trie.proofs.Entering.{begins_order, rising_append, rising_left, rising_cross, IsNodeIn, NodesIn, first_of, Cut, Enters, entered as entered_nodes, entered_begin, entered_apart}

-- ---- strings that begin one string

pub same_front : (a b c : List ℕ) → begins a c ≡ true → begins b c ≡ true → length a ≡ length b → a ≡ b
same_front a b c p q e = by (begins_order a b (begins_shorter a b c p q (omega arith))) (begins_order b a (begins_shorter b a c q p (omega arith)))
  where
    by : (a ≡ b) ⊎ Below a b → (b ≡ a) ⊎ Below b a → a ≡ b
    by (inl same) other = same
    by (inr less) (inl same) = sym same
    by (inr less) (inr more) = absurd (below_asym a b less more)

pub shorter_front : (a b c : List ℕ) → begins a c ≡ true → begins b c ≡ true → Below a b → length a < length b
shorter_front a b c p q less =
    elim (cases_lt (length a) (length b)) [
      | inl short ↦ short
      | inr long ↦ absurd (by (begins_order b a (begins_shorter b a c q p long)))
    ]
  where
    by : (b ≡ a) ⊎ Below b a → ⊥
    by (inl same) = below_irrefl a (subst (Below a) same less)
    by (inr more) = below_asym a b less more

pub front_take : (front name : List ℕ) → begins front name ≡ true → take (length front) name ≡ front
front_take front name h = rw (begins_split front name h) (take_at front (drop (length front) name) (length front) refl)

rising_drop : (n : ℕ) (strings : List (List ℕ)) → Rising strings → Rising (drop n strings)
rising_drop zero strings p = p
rising_drop (suc n) [] p = p
rising_drop (suc n) (x ∷ strings) p = rising_drop n strings p.1

-- ---- the nodes on the path

pub length-text : (strings : List (List ℕ)) (node : Node) → Fits strings node → length (text strings node) ≡ node.len
unfolding text
length-text strings node fits = length-take-le node.len (name_of strings node) fits

text-node_at : (strings : List (List ℕ)) (place bytes : ℕ) (front : List ℕ) → begins front (get_or strings place []) ≡ true → length front ≡ bytes → text strings (node_at place bytes) ≡ front
unfolding text
text-node_at strings place bytes front h e = ap (λ (n : ℕ). take n (get_or strings place [])) (sym e) ∙ front_take front (get_or strings place []) h

last_cons : (node next : Node) (path : List Node) → last_bytes (node ∷ next ∷ path) ≡ last_bytes (next ∷ path)
last_cons node next path =
    let one : suc (suc (length path)) - 1 ≡ suc (suc (length path) - 1) = omega arith in
    ap (λ (n : ℕ). (get_or (node ∷ next ∷ path) n (node_at 0 0)).len) one

last_split : (node : Node) (path : List Node) → (last : Node) × (node ∷ path ≡ without_last (node ∷ path) ++ last ∷ []) × (last.len ≡ last_bytes (node ∷ path))
last_split node [] = (node, refl, refl)
last_split node (next ∷ path) =
    let rest = last_split next path in
    let one : suc (suc (length path)) - 1 ≡ suc (suc (length path) - 1) = omega arith in
    let fronts : without_last (node ∷ next ∷ path) ≡ node ∷ without_last (next ∷ path) = ap (λ (n : ℕ). take n (node ∷ next ∷ path)) one in
    (rest.0, ap (λ (nodes : List Node). node ∷ nodes) rest.1 ∙ ap (λ (nodes : List Node). nodes ++ rest.0 ∷ []) (sym fronts), rest.2 ∙ sym (last_cons node next path))

-- the strings on the path are no longer than the last
path_short : (strings : List (List ℕ)) (later : List ℕ) (path : List Node) → Rising (texts strings path) → AllByRecursion (Fits strings) path → AllByRecursion (λ node. begins (text strings node) later ≡ true) path → (node : Node) → In node path → node.len ≤ last_bytes path
path_short strings later [] rise fits front node h = absurd h
path_short strings later (first ∷ []) rise fits front node (inl e) = let same : first.len ≡ node.len = ap (λ (n : Node). n.len) e in omega arith
path_short strings later (first ∷ []) rise fits front node (inr h) = absurd h
path_short strings later (first ∷ next ∷ path) rise fits front node (inl e) =
    let same : first.len ≡ node.len = ap (λ (n : Node). n.len) e in
    let rest : next.len ≤ last_bytes (next ∷ path) = path_short strings later (next ∷ path) rise.1 fits.1 front.1 next (inl refl) in
    let less : length (text strings first) < length (text strings next) = shorter_front (text strings first) (text strings next) later front.0 front.1.0 rise.0.0 in
    omega (arith, last_cons first next path, length-text strings first fits.0, length-text strings next fits.1.0)
path_short strings later (first ∷ next ∷ path) rise fits front node (inr h) =
    let rest : node.len ≤ last_bytes (next ∷ path) = path_short strings later (next ∷ path) rise.1 fits.1 front.1 node h in
    omega (arith, last_cons first next path)

-- ---- the state

-- the nodes of the strings from `left` on: those on the path to the first of them, and the others from the last on
pub record IsBuilding (strings : List (List ℕ)) (left : ℕ) (path done : List Node) : Type 0 where
  pub all : NodesIn (drop left strings) (texts strings (path ++ reverse done))
  pub fits : AllByRecursion (Fits strings) (path ++ reverse done)
  pub whole : AllByRecursion (λ node. In (text strings node) (drop left strings) → slice_get strings node.name ≡ Some (text strings node)) (path ++ reverse done)
  pub begin : AllByRecursion (λ node. begins (text strings node) (first_of (drop left strings)) ≡ true) path
  pub apart : AllByRecursion (λ node. begins (text strings node) (first_of (drop left strings)) ≡ false) (reverse done)

all_left : {X : Type 0} (P : X → Type 0) (xs ys : List X) → AllByRecursion P (xs ++ ys) → AllByRecursion P xs
all_left P [] ys h = tt
all_left P (x ∷ xs) ys h = (h.0, all_left P xs ys h.1)

all_right : {X : Type 0} (P : X → Type 0) (xs ys : List X) → AllByRecursion P (xs ++ ys) → AllByRecursion P ys
all_right P [] ys h = h
all_right P (x ∷ xs) ys h = all_right P xs ys h.1

pub all_append : {X : Type 0} (P : X → Type 0) (xs ys : List X) → AllByRecursion P xs → AllByRecursion P ys → AllByRecursion P (xs ++ ys)
all_append P [] ys p q = q
all_append P (x ∷ xs) ys p q = (p.0, all_append P xs ys p.1 q)

-- the state after the nodes that are longer than what is shared have moved
record IsCut (strings : List (List ℕ)) (name : List ℕ) (rest : List (List ℕ)) (path done : List Node) : Type 0 where
  cut : Cut name rest (texts strings path) (texts strings (reverse done))
  fits : AllByRecursion (Fits strings) (path ++ reverse done)
  whole : AllByRecursion (λ node. In (text strings node) rest → slice_get strings node.name ≡ Some (text strings node)) (path ++ reverse done)
  begin : AllByRecursion (λ node. begins (text strings node) (first_of rest) ≡ true) path
  short : last_bytes path ≤ length (common name (first_of rest))

is_cut : (strings : List (List ℕ)) (left : ℕ) (name : List ℕ) (path done path' done' : List Node) → Rising (name ∷ drop left strings) → IsBuilding strings left path done → path' ++ reverse done' ≡ path ++ reverse done → Closes (length (common name (first_of (drop left strings)))) path path' → last_bytes path' ≤ length (common name (first_of (drop left strings))) → IsCut strings name (drop left strings) path' done'
is_cut strings left name path done path' done' order b same closes short = record {
  cut = record {
    order = order;
    nodes = subst (NodesIn (drop left strings)) parts b.all;
    begin = λ node h. of_path node (from_map (text strings) path' node h);
    short = λ node h. short_path node (from_map (text strings) path' node h);
    long = λ node h front. long_done node (from_map (text strings) (reverse done') node h) front;
  };
  fits = subst (AllByRecursion (Fits strings)) (sym same) b.fits;
  whole = subst (AllByRecursion (λ node. In (text strings node) (drop left strings) → slice_get strings node.name ≡ Some (text strings node))) (sym same) b.whole;
  begin = begin';
  short = short;
}
  where
    parts : texts strings (path ++ reverse done) ≡ texts strings path' ++ texts strings (reverse done')
    parts = ap (texts strings) (sym same) ∙ map-append (text strings) path' (reverse done')

    begin' : AllByRecursion (λ node. begins (text strings node) (first_of (drop left strings)) ≡ true) path'
    begin' = all_left _ path' closes.gone (subst (AllByRecursion (λ node. begins (text strings node) (first_of (drop left strings)) ≡ true)) closes.split b.begin)

    fits' : AllByRecursion (Fits strings) (path' ++ reverse done')
    fits' = subst (AllByRecursion (Fits strings)) (sym same) b.fits

    moved : reverse done' ≡ closes.gone ++ reverse done
    moved = append_cancel_left path' (reverse done') (closes.gone ++ reverse done) (same ∙ (ap (λ (nodes : List Node). nodes ++ reverse done) closes.split ∙ append_assoc path' closes.gone (reverse done)))

    rising' : Rising (texts strings path')
    rising' = rising_left (texts strings path') (texts strings (reverse done')) (subst Rising parts b.all.rising)

    of_path : (node : List ℕ) → (n : Node) × In n path' × (text strings n ≡ node) → begins node (first_of (drop left strings)) ≡ true
    of_path node (n, h, e) = subst (λ (t : List ℕ). begins t (first_of (drop left strings)) ≡ true) e (all_in _ path' n begin' h)

    short_path : (node : List ℕ) → (n : Node) × In n path' × (text strings n ≡ node) → length node ≤ length (common name (first_of (drop left strings)))
    short_path node (n, h, e) =
        let fit : Fits strings n = all_in (Fits strings) (path' ++ reverse done') n fits' (in_left path' (reverse done') n h) in
        let few : n.len ≤ last_bytes path' = path_short strings (first_of (drop left strings)) path' rising' (all_left (Fits strings) path' (reverse done') fits') begin' n h in
        rw (← e) (omega (arith, length-text strings n fit))

    long_done : (node : List ℕ) → (n : Node) × In n (reverse done') × (text strings n ≡ node) → begins node (first_of (drop left strings)) ≡ true → length (common name (first_of (drop left strings))) < length node
    long_done node (n, h, e) front = by (in_either closes.gone (reverse done) n (subst (In n) moved h))
      where
        by : In n closes.gone ⊎ In n (reverse done) → length (common name (first_of (drop left strings))) < length node
        by (inl h') =
            let fit : Fits strings n = all_in (Fits strings) (path' ++ reverse done') n fits' (in_right path' (reverse done') n h) in
            let more = all_in _ closes.gone n closes.long h' in
            rw (← e) (omega (arith, length-text strings n fit))
        by (inr h') = absurd (true≢false (sym (subst (λ (t : List ℕ). begins t (first_of (drop left strings)) ≡ true) (sym e) front) ∙ all_in _ (reverse done) n b.apart h'))

-- ---- entering

-- the path with what entered
record IsEntered (strings : List (List ℕ)) (name : List ℕ) (rest : List (List ℕ)) (old new : List Node) : Type 0 where
  add : List (List ℕ)
  spelled : texts strings new ≡ texts strings old ++ add
  enters : Enters name rest (texts strings old) add
  fits : AllByRecursion (Fits strings) new
  whole : AllByRecursion (λ node. In (text strings node) (name ∷ rest) → slice_get strings node.name ≡ Some (text strings node)) new

get_some : {X : Type 0} (xs : List X) (i : ℕ) (d : X) → i < length xs → slice_get xs i ≡ Some (get_or xs i d)
get_some [] i d h = absurd (omega arith)
get_some (x ∷ xs) zero d h = refl
get_some (x ∷ xs) (suc i) d h = get_some xs i d (omega arith)

-- what each of the cases knows
record Entry (strings : List (List ℕ)) (left : ℕ) (name : List ℕ) (rest : List (List ℕ)) (path done : List Node) (shared : ℕ) : Type 0 where
  state : IsCut strings name rest path done
  within : left < length strings
  name' : name ≡ get_or strings left []
  shared' : shared ≡ length (common name (first_of rest))

module _ (strings : List (List ℕ)) (left : ℕ) (name : List ℕ) (rest : List (List ℕ)) (path done : List Node) (shared : ℕ) (entry : Entry strings left name rest path done shared) where
  abbrev shared_text : List ℕ
  shared_text = common name (first_of rest)

  path_fits : AllByRecursion (Fits strings) path
  path_fits = all_left (Fits strings) path (reverse done) entry.state.fits

  path_rises : Rising (texts strings path)
  path_rises = rising_left (texts strings path) (texts strings (reverse done)) entry.state.cut.nodes.rising

  path_few : (node : Node) → In node path → node.len ≤ last_bytes path
  path_few node h = path_short strings (first_of rest) path path_rises path_fits entry.state.begin node h

  -- the root is on the path
  root : In [] (texts strings path)
  root = by (in_either (texts strings path) (texts strings (reverse done)) [] (entry.state.cut.nodes.all [] (inl refl)))
    where
      by : In [] (texts strings path) ⊎ In [] (texts strings (reverse done)) → In [] (texts strings path)
      by (inl h) = h
      by (inr h) = absurd (omega (arith, entry.state.cut.long [] h refl))

  -- the last of the path
  record IsLast (last : Node) : Type 0 where
    split : path ≡ without_last path ++ last ∷ []
    bytes : last.len ≡ last_bytes path

  last_is : (last : Node) × IsLast last
  last_is = by path refl root
    where
      by : (nodes : List Node) → nodes ≡ path → In [] (texts strings nodes) → (last : Node) × IsLast last
      by [] same h = absurd h
      by (node ∷ nodes) same h =
          let parts = last_split node nodes in (
            parts.0,
            record {
              split = sym same ∙ (parts.1 ∙ ap (λ (ns : List Node). without_last ns ++ parts.0 ∷ []) same);
              bytes = parts.2 ∙ ap last_bytes same;
            },
          )

  last_in : (last : Node) → IsLast last → In last path
  last_in last is = subst (In last) (sym is.split) (in_right (without_last path) (last ∷ []) last (inl refl))

  -- a string of the path with the bytes that are shared is what is shared
  is_shared : (node : Node) → In node path → node.len ≡ shared → text strings node ≡ shared_text
  is_shared node h e =
      same_front (text strings node) shared_text (first_of rest) (all_in _ path node entry.state.begin h) (common_right name (first_of rest))
      (length-text strings node (all_in (Fits strings) path node path_fits h) ∙ (e ∙ entry.shared'))

  shared_least : shared ≤ length name
  shared_least = rw entry.shared' (begins_short shared_text name (common_left name (first_of rest)))

  -- where nothing more is shared, the name is what is shared
  name_shared : shared ≡ length name → shared_text ≡ name
  name_shared e = same_front shared_text name name (common_left name (first_of rest)) (begins_self name) (sym entry.shared' ∙ e)

  path_begins : (node : List ℕ) → In node (texts strings path) → begins node shared_text ≡ true
  path_begins node h =
      begins_shorter node shared_text (first_of rest) (entry.state.cut.begin node h) (common_right name (first_of rest)) (entry.state.cut.short node h)

  path_text_few : (node : List ℕ) → In node (texts strings path) → length node ≤ last_bytes path
  path_text_few node h = by (from_map (text strings) path node h)
    where
      by : (n : Node) × In n path × (text strings n ≡ node) → length node ≤ last_bytes path
      by (n, h, e) = rw (← e) (omega (arith, length-text strings n (all_in (Fits strings) path n path_fits h), path_few n h))

  -- what is shared is on the path where the last of it has as many bytes
  shared_there : last_bytes path ≡ shared → In shared_text (texts strings path)
  shared_there e =
      let last = last_is in
      subst (λ (t : List ℕ). In t (texts strings path)) (is_shared last.0 (last_in last.0 last.1) (last.1.bytes ∙ e)) (in_map (text strings) path last.0 (last_in last.0 last.1))

  -- and it isn't a name where the last has fewer
  shared_new : last_bytes path < shared → shared < length name → In shared_text (name ∷ rest) → ⊥
  shared_new fewer more (inl e) = omega (arith, ap length e, entry.shared')
  shared_new fewer more (inr h) =
      by (in_either (texts strings path) (texts strings (reverse done)) shared_text (entry.state.cut.nodes.all shared_text (inr (shared_text, shared_text, h, h, sym (common_self shared_text)))))
    where
      by : In shared_text (texts strings path) ⊎ In shared_text (texts strings (reverse done)) → ⊥
      by (inl h) = omega (arith, path_text_few shared_text h, entry.shared')
      by (inr h) = omega (arith, entry.state.cut.long shared_text h (common_right name (first_of rest)))

  -- a node of the path isn't the name, where it has fewer bytes
  kept_whole : (node : Node) → In node path → node.len < length name → In (text strings node) (name ∷ rest) → slice_get strings node.name ≡ Some (text strings node)
  kept_whole node h fewer (inl e) = absurd (omega (arith, ap length e, length-text strings node (all_in (Fits strings) path node path_fits h)))
  kept_whole node h fewer (inr i) = all_in _ (path ++ reverse done) node entry.state.whole (in_left path (reverse done) node h) i

  name_text : text strings (node_at left (length name)) ≡ name
  name_text = text-node_at strings left (length name) name (subst (λ (t : List ℕ). begins name t ≡ true) entry.name' (begins_self name)) refl

  whole_node : slice_get strings left ≡ Some (text strings (node_at left (length name)))
  whole_node = get_some strings left [] entry.within ∙ ap Some (sym entry.name' ∙ sym name_text)

  shared_node_text : text strings (node_at left shared) ≡ shared_text
  shared_node_text =
      text-node_at strings left shared shared_text (subst (λ (t : List ℕ). begins shared_text t ≡ true) entry.name' (common_left name (first_of rest))) (sym entry.shared')

  -- the name is what is shared and stands there already: its node takes the place of the last one
  enters_same : last_bytes path ≡ shared → shared ≡ length name → IsEntered strings name rest path (without_last path ++ node_at left (length name) ∷ [])
  enters_same e f =
      let last = last_is in
      let last_text : text strings last.0 ≡ name = is_shared last.0 (last_in last.0 last.1) (last.1.bytes ∙ e) ∙ name_shared f in
      let fronts : texts strings path ≡ texts strings (without_last path) ++ name ∷ [] =
      ap (texts strings) last.1.split ∙ (map-append (text strings) (without_last path) (last.0 ∷ []) ∙ ap (λ (t : List ℕ). texts strings (without_last path) ++ t ∷ []) last_text) in
      let new : texts strings (without_last path ++ node_at left (length name) ∷ []) ≡ texts strings (without_last path) ++ name ∷ [] =
      map-append (text strings) (without_last path) (node_at left (length name) ∷ []) ∙ ap (λ (t : List ℕ). texts strings (without_last path) ++ t ∷ []) name_text in
      let fits_front : AllByRecursion (Fits strings) (without_last path) = all_left (Fits strings) (without_last path) (last.0 ∷ []) (subst (AllByRecursion (Fits strings)) last.1.split path_fits) in
      record {
        add = [];
        spelled = new ∙ (sym fronts ∙ sym (append-nil (texts strings path)));
        enters = record {
          only = λ node h. absurd h;
          shared = in_left (texts strings path) [] shared_text (shared_there e);
          whole = in_left (texts strings path) [] name (subst (λ (t : List ℕ). In t (texts strings path)) (name_shared f) (shared_there e));
          rising = rw (append-nil (texts strings path)) path_rises;
        };
        fits = all_append (Fits strings) (without_last path) (node_at left (length name) ∷ []) fits_front (subst (λ (t : List ℕ). length name ≤ length t) entry.name' (omega arith), tt);
        whole = all_append _ (without_last path) (node_at left (length name) ∷ [])
            (all_from_in _ (without_last path) (λ node h i. apart last fronts node h i))
            ((λ i. whole_node), tt);
      }
    where
      apart : (last : (last : Node) × IsLast last) → texts strings path ≡ texts strings (without_last path) ++ name ∷ [] → (node : Node) → In node (without_last path) → In (text strings node) (name ∷ rest) → slice_get strings node.name ≡ Some (text strings node)
      apart last fronts node h (inl same) =
          absurd (below_irrefl name (subst (λ (t : List ℕ). Below t name) (sym same)
          (rising_cross (texts strings (without_last path)) (name ∷ []) (text strings node) name (subst Rising fronts path_rises) (in_map (text strings) (without_last path) node h) (inl refl))))
      apart last fronts node h (inr i) =
          all_in _ (path ++ reverse done) node entry.state.whole (in_left path (reverse done) node (subst (In node) (sym last.1.split) (in_left (without_last path) (last.0 ∷ []) node h))) i

  fits_name : Fits strings (node_at left (length name))
  fits_name = subst (λ (t : List ℕ). length name ≤ length t) entry.name' (omega arith)

  fits_shared : Fits strings (node_at left shared)
  fits_shared = subst (λ (t : List ℕ). shared ≤ length t) entry.name' shared_least

  -- what stands on the path stands before the name, where it has fewer bytes
  path_below : (node : List ℕ) → In node (texts strings path) → length node < length name → Below node name
  path_below node h fewer = above_below node name (begins_trans node shared_text name (path_begins node h) (common_left name (first_of rest))) fewer

  -- the name alone is new
  enters_one : In shared_text (texts strings path ++ name ∷ []) → last_bytes path < length name → IsEntered strings name rest path (path ++ node_at left (length name) ∷ [])
  enters_one there fewer = record {
    add = name ∷ [];
    spelled = map-append (text strings) path (node_at left (length name) ∷ []) ∙ ap (λ (t : List ℕ). texts strings path ++ t ∷ []) name_text;
    enters = record {
      only = λ node h. inr (sole node h);
      shared = there;
      whole = in_right (texts strings path) (name ∷ []) name (inl refl);
      rising = rising_append (texts strings path) (name ∷ []) path_rises (tt, tt) (λ a b h i. below a b h i);
    };
    fits = all_append (Fits strings) path (node_at left (length name) ∷ []) path_fits (fits_name, tt);
    whole = all_append _ path (node_at left (length name) ∷ [])
        (all_from_in _ path (λ node h i. kept_whole node h (omega (arith, path_few node h)) i))
        ((λ i. whole_node), tt);
  }
    where
      sole : (node : List ℕ) → In node (name ∷ []) → node ≡ name
      sole node (inl e) = sym e
      sole node (inr h) = absurd h

      below : (a b : List ℕ) → In a (texts strings path) → In b (name ∷ []) → Below a b
      below a b h (inl e) = subst (Below a) e (path_below a h (omega (arith, path_text_few a h)))
      below a b h (inr i) = absurd i

  -- what is shared is new too
  enters_two : last_bytes path < shared → shared < length name → IsEntered strings name rest path (path ++ node_at left shared ∷ [] ++ node_at left (length name) ∷ [])
  enters_two fewer more = record {
    add = shared_text ∷ name ∷ [];
    spelled = rw (append_assoc path (node_at left shared ∷ []) (node_at left (length name) ∷ []))
        (map-append (text strings) path (node_at left shared ∷ node_at left (length name) ∷ [])
        ∙ (ap (λ (t : List ℕ). texts strings path ++ t ∷ text strings (node_at left (length name)) ∷ []) shared_node_text
        ∙ ap (λ (t : List ℕ). texts strings path ++ shared_text ∷ t ∷ []) name_text));
    enters = record {
      only = only;
      shared = in_right (texts strings path) (shared_text ∷ name ∷ []) shared_text (inl refl);
      whole = in_right (texts strings path) (shared_text ∷ name ∷ []) name (inr (inl refl));
      rising = rising_append (texts strings path) (shared_text ∷ name ∷ []) path_rises ((shared_below, tt), (tt, tt)) below;
    };
    fits = rw (append_assoc path (node_at left shared ∷ []) (node_at left (length name) ∷ []))
        (all_append (Fits strings) path (node_at left shared ∷ node_at left (length name) ∷ []) path_fits (fits_shared, (fits_name, tt)));
    whole = rw (append_assoc path (node_at left shared ∷ []) (node_at left (length name) ∷ []))
        (all_append _ path (node_at left shared ∷ node_at left (length name) ∷ [])
        (all_from_in _ path (λ node h i. kept_whole node h (omega (arith, path_few node h)) i))
        ((λ i. absurd (shared_new fewer more (subst (λ (t : List ℕ). In t (name ∷ rest)) shared_node_text i))), ((λ i. whole_node), tt)));
  }
    where
      shared_below : Below shared_text name
      shared_below = above_below shared_text name (common_left name (first_of rest)) (omega (arith, entry.shared'))

      only : (node : List ℕ) → In node (shared_text ∷ name ∷ []) → (node ≡ shared_text) ⊎ (node ≡ name)
      only node (inl e) = inl (sym e)
      only node (inr (inl e)) = inr (sym e)
      only node (inr (inr h)) = absurd h

      below : (a b : List ℕ) → In a (texts strings path) → In b (shared_text ∷ name ∷ []) → Below a b
      below a b h (inl e) = subst (Below a) e (above_below a shared_text (path_begins a h) (omega (arith, path_text_few a h, entry.shared')))
      below a b h (inr (inl e)) = subst (Below a) e (path_below a h (omega (arith, path_text_few a h)))
      below a b h (inr (inr i)) = absurd i

  -- the path that the code makes
  is_entered : IsEntered strings name rest path (entered path left shared (length name))
  is_entered = by (cases_order (last_bytes path) shared) (cases_order shared (length name))
    where
      short : last_bytes path ≤ shared
      short = rw entry.shared' entry.state.short

      by : (last_bytes path ≡ shared) ⊎ ((last_bytes path < shared) ⊎ (shared < last_bytes path)) → (shared ≡ length name) ⊎ ((shared < length name) ⊎ (length name < shared)) → IsEntered strings name rest path (entered path left shared (length name))
      by (inl e) (inl f) = rw (eq-eqb (last_bytes path) shared e, eq-eqb shared (length name) f) (enters_same e f)
      by (inl e) (inr (inl more)) =
          rw (ne_eqb shared (length name) (λ (f : shared ≡ length name). omega arith), eq-eqb (last_bytes path) shared e, le-ltb (last_bytes path) shared (omega arith))
          (enters_one (in_left (texts strings path) (name ∷ []) shared_text (shared_there e)) (omega arith))
      by (inr (inl fewer)) (inl f) =
          rw (ne_eqb (last_bytes path) shared (λ (e : last_bytes path ≡ shared). omega arith), lt-ltb (last_bytes path) shared fewer, le-ltb shared (length name) (omega arith))
          (enters_one (in_right (texts strings path) (name ∷ []) shared_text (inl (sym (name_shared f)))) (omega arith))
      by (inr (inl fewer)) (inr (inl more)) =
          rw (ne_eqb (last_bytes path) shared (λ (e : last_bytes path ≡ shared). omega arith), lt-ltb (last_bytes path) shared fewer, lt-ltb shared (length name) more)
          (enters_two fewer more)
      by (inr (inr past)) other = absurd (omega (arith, short))
      by here (inr (inr past)) = absurd (omega (arith, shared_least))

-- ---- the loop

-- the state with one name more
pub built : (strings : List (List ℕ)) (left : ℕ) (later name : List ℕ) (shared : ℕ) (path done path' done' path'' : List Node) → Rising strings → left < length strings → name ≡ get_or strings left [] → later ≡ first_of (drop (left + 1) strings) → shared ≡ length (common name later) → IsBuilding strings (left + 1) path done → path' ++ reverse done' ≡ path ++ reverse done → Closes shared path path' → last_bytes path' ≤ shared → path'' ≡ entered path' left shared (length name) → IsBuilding strings left path'' done'
built strings left later name shared path done path' done' path'' rise within name' later' shared' b same closes short path''' =
    let here : drop left strings ≡ name ∷ drop (left + 1) strings = rw name' (drop_more strings left [] within) in
    let order : Rising (name ∷ drop (left + 1) strings) = subst Rising here (rising_drop left strings rise) in
    let shared-is : shared ≡ length (common name (first_of (drop (left + 1) strings))) = rw (← later') shared' in
    let state : IsCut strings name (drop (left + 1) strings) path' done' =
    is_cut strings (left + 1) name path done path' done' order b same (subst (λ (n : ℕ). Closes n path path') shared-is closes) (rw (← shared-is) short) in
    let entry : Entry strings left name (drop (left + 1) strings) path' done' shared = record { state = state; within = within; name' = name'; shared' = shared-is } in
    let new : IsEntered strings name (drop (left + 1) strings) path' path'' =
    subst (IsEntered strings name (drop (left + 1) strings) path') (sym path''') (is_entered strings left name (drop (left + 1) strings) path' done' shared entry) in
    let nodes : NodesIn (name ∷ drop (left + 1) strings) ((texts strings path' ++ new.add) ++ texts strings (reverse done')) =
    entered_nodes name (drop (left + 1) strings) (texts strings path') new.add (texts strings (reverse done')) state.cut new.enters in
    let parts : (texts strings path' ++ new.add) ++ texts strings (reverse done') ≡ texts strings (path'' ++ reverse done') =
    ap (λ (ts : List (List ℕ)). ts ++ texts strings (reverse done')) (sym new.spelled) ∙ sym (map-append (text strings) path'' (reverse done')) in
    record {
      all = subst (λ (names : List (List ℕ)). NodesIn names (texts strings (path'' ++ reverse done'))) (sym here) (subst (NodesIn (name ∷ drop (left + 1) strings)) parts nodes);
      fits = all_append (Fits strings) path'' (reverse done') new.fits (all_right (Fits strings) path' (reverse done') state.fits);
      whole = subst (λ (names : List (List ℕ)). AllByRecursion (λ node. In (text strings node) names → slice_get strings node.name ≡ Some (text strings node)) (path'' ++ reverse done')) (sym here)
          (all_append _ path'' (reverse done') new.whole (all_from_in _ (reverse done') (λ node h i. kept state node h i)));
      begin = all_from_in _ path'' (λ node h. subst (λ (names : List (List ℕ)). begins (text strings node) (first_of names) ≡ true) (sym here)
          (entered_begin name (drop (left + 1) strings) (texts strings path') new.add (texts strings (reverse done')) (text strings node) state.cut new.enters
          (subst (In (text strings node)) new.spelled (in_map (text strings) path'' node h))));
      apart = all_from_in _ (reverse done') (λ node h. subst (λ (names : List (List ℕ)). begins (text strings node) (first_of names) ≡ false) (sym here)
          (entered_apart name (drop (left + 1) strings) (texts strings path') (texts strings (reverse done')) (text strings node) state.cut (in_map (text strings) (reverse done') node h)));
    }
  where
    kept : IsCut strings name (drop (left + 1) strings) path' done' → (node : Node) → In node (reverse done') → In (text strings node) (name ∷ drop (left + 1) strings) → slice_get strings node.name ≡ Some (text strings node)
    kept state node h (inl e) =
        let apart = entered_apart name (drop (left + 1) strings) (texts strings path') (texts strings (reverse done')) (text strings node) state.cut (in_map (text strings) (reverse done') node h) in
        absurd (true≢false (sym (subst (λ (t : List ℕ). begins t name ≡ true) e (begins_self name)) ∙ apart))
    kept state node h (inr i) = all_in _ (path' ++ reverse done') node state.whole (in_right path' (reverse done') node h) i

-- nothing has entered yet
pub begun : (strings : List (List ℕ)) → IsBuilding strings (length strings) (node_at 0 0 ∷ []) []
unfolding text
begun strings =
    let none : drop (length strings) strings ≡ [] = drop_all (length strings) strings (omega arith) in
    record {
      all = subst (λ (names : List (List ℕ)). NodesIn names ([] ∷ [])) (sym none) (record { rising = (tt, tt); only = λ node h. root node h; all = λ node h. held node h });
      fits = (omega arith, tt);
      whole = ((λ i. absurd (subst (In []) none i)), tt);
      begin = (refl, tt);
      apart = tt;
    }
  where
    root : (node : List ℕ) → In node ([] ∷ []) → IsNodeIn [] node
    root node (inl e) = inl (sym e)
    root node (inr h) = absurd h

    held : (node : List ℕ) → IsNodeIn [] node → In node ([] ∷ [])
    held node (inl e) = inl (sym e)
    held node (inr (a, b, p, q, e)) = absurd p

node_from : (strings : List (List ℕ)) (node : List ℕ) → IsNodeIn strings node → IsNode strings node
node_from strings node (inl e) = inl e
node_from strings node (inr (a, b, p, q, e)) = inr (a, b, Contains_from_in strings a p, Contains_from_in strings b q, e)

node_to : (strings : List (List ℕ)) (node : List ℕ) → IsNode strings node → IsNodeIn strings node
node_to strings node (inl e) = inl e
node_to strings node (inr (a, b, p, q, e)) = inr (a, b, in_from_Contains strings a p, in_from_Contains strings b q, e)

-- all have entered
pub finished : (strings : List (List ℕ)) (path done : List Node) → IsBuilding strings 0 path done → AreHeld strings (path ++ reverse done)
finished strings path done b = record {
  all = record {
    rising = sorted_from_rising (texts strings (path ++ reverse done)) b.all.rising;
    only = λ node h. node_from strings node (b.all.only node (in_from_Contains (texts strings (path ++ reverse done)) node h));
    all = λ node h. Contains_from_in (texts strings (path ++ reverse done)) node (b.all.all node (node_to strings node h));
  };
  fits = All-from_recursion (Fits strings) (path ++ reverse done) b.fits;
  whole = All-from_recursion (λ node. Contains strings (text strings node) → slice_get strings node.name ≡ Some (text strings node)) (path ++ reverse done)
      (all_from_in _ (path ++ reverse done) (λ node h i. all_in _ (path ++ reverse done) node b.whole h (in_from_Contains strings (text strings node) i)));
}
