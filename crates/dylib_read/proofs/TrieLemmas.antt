-- The exports that are found at the nodes of a trie.
use Rattle.std.proofs.Common.{◌≡◌, ◌≢◌, ℕ, zero, suc, ◌+◌, ◌<◌, ◌≤◌, ◌⊎◌, inl, inr, Bool, true, false, List, [], ◌∷◌, ◌++◌, length, map, get_or, Option, Some, None, refl, sym, ap, subst, ◌∙◌, arith, Contains, AllPairs, IsPermutation, unwrap_or, if◌then◌else◌, Result, Err}
use Rattle.std.specs.Cmp.Lexicographic.{slice_cmp}
use Rattle.std.specs.List.Sorted.{IsSortedBy, IsStrictlySortedBy}
use Rattle.std.specs.Option.{is_some, option_map, option_map_or, option_and_then}
use Rattle.std.specs.Ordering.{is_lt, nat_cmp}
use Rattle.std.specs.Result.{IfErr}
use Rattle.std.proofs.lemmas.Bool.{cases_Bool, cases_eq, false≢true, true≢false}
use Rattle.std.proofs.lemmas.List.{length-map}
use Rattle.std.proofs.lemmas.List.Elements.{All-push, Contains-append_left, Contains-push}
use Rattle.std.proofs.lemmas.List.Quantifiers.{all_pairs_push}
use Rattle.std.proofs.lemmas.List.Sorted.{Contains-permutation, IsPermutation-map, IsPermutation-sym}
use Rattle.export_trie.specs.declared.export.ExportAddress.{ExportAddress}
use Rattle.export_trie.specs.Trie.{names}
use Rattle.export_trie.proofs.Written.{order_rises}
use Rattle.dylib_read.specs.declared.trie.DylibExport.{DylibExport}
use Rattle.dylib_read.specs.declared.trie_fault.TrieFault.{TrieFault}
use Rattle.dylib_read.specs.declared.trie_fault.TrieFault.TheVariants.{Broken, OutOfMemory}
use Rattle.dylib_read.specs.declared.trie_node.Edge.{Edge}
use Rattle.dylib_read.specs.declared.trie_node.Node.{Node}
use Rattle.dylib_read.specs.declared.trie_walk.Link.{Link}
use Rattle.dylib_read.specs.TrieNodes.{children_at, data_at, end_at, is_weak, node_at}
use Rattle.mo_bytes.specs.Uleb.{uleb_at}
use Rattle.dylib_read.specs.Trie.{AreExports, IsExport, IsExportAt, IsFaultOf, IsWhole, Walk, flags_of, is_directive}
use Rattle.dylib_read.specs.inner.TrieExports.{Adds, AreFound, IsBefore, added, none, one}
use Rattle.dylib_read.specs.inner.TrieLinks.{IsComplete, IsFound, IsNamed, is_end, mark}
use Rattle.dylib_read.proofs.PathLemmas.{name_ends, name_walk, not_broken, one_name, one_place, reached}
use Rattle.dylib_read.proofs.OwnLemmas.{marked_within}
use Rattle.dylib_read.proofs.TrieWalkLemmas.{node_past}

pub whole : (trie : List ℕ) (links : List (Option Link)) → IsComplete trie links → IsWhole trie
whole trie links complete = λ fault. not_broken trie links complete fault.1

-- ---- the flags of a node

flags_read : (flags : Option (Option ℕ)) (edges : Option (List Edge)) (node : Node) → option_and_then (λ f. option_map (λ e. record { flags = f; edges = e }) edges) flags ≡ Some node → unwrap_or flags None ≡ node.flags
flags_read None edges node e = absurd (false≢true (ap is_some e))
flags_read (Some f) None node e = absurd (false≢true (ap is_some e))
flags_read (Some f) (Some es) node e = ap (λ (o : Option Node). option_map_or (λ (n : Node). n.flags) o None) e

end_read : (size : Option (ℕ × ℕ)) (data' : ℕ × ℕ → Option (Option ℕ)) (edges : ℕ × ℕ → Option (List Edge)) (node : Node) → option_and_then (λ s. option_and_then (λ f. option_map (λ e. record { flags = f; edges = e }) (edges s)) (data' s)) size ≡ Some node → option_and_then (λ s. unwrap_or (data' s) None) size ≡ node.flags
end_read None data' edges node e = absurd (false≢true (ap is_some e))
end_read (Some s) data' edges node e = flags_read (data' s) (edges s) node e

end_of : (trie : List ℕ) (at : ℕ) (node : Node) → node_at trie at ≡ Some node → end_at trie at ≡ node.flags
unfolding node_at end_at
end_of trie at node e =
    end_read (uleb_at trie at) (λ (s : ℕ × ℕ). data_at trie s.0 s.1) (λ (s : ℕ × ℕ). children_at trie (s.1 + s.0)) node e

flags_of_node : (trie : List ℕ) (at : ℕ) (node : Node) → node_at trie at ≡ Some node → flags_of trie at ≡ node.flags
unfolding flags_of
flags_of_node trie at node e = rw e refl

-- a marked node's flags are in its data
end_is_flags : (trie : List ℕ) (links : List (Option Link)) (at : ℕ) (link : Link) → IsComplete trie links → mark links at ≡ Some link → end_at trie at ≡ flags_of trie at
end_is_flags trie links at link complete marked =
    let walked = complete.walked in
    let closed = walked.closed at link (omega (arith, walked.long, marked_within links at link marked)) marked in
    end_of trie at closed.node closed.there ∙ sym (flags_of_node trie at closed.node closed.there)

-- ---- one export

not_both : (x : Option ℕ) (n : ℕ) → x ≡ None → x ≡ Some n → ⊥
not_both x n p q = false≢true (ap is_some (sym p ∙ q))

-- what is read of a node's flags, where a name ends there
abbrev pub read_at : List ℕ → ℕ → Link → Option ℕ
read_at trie at link = if is_end trie at link then end_at trie at else None

pub adds_none : (trie : List ℕ) (links : List (Option Link)) (at : ℕ) (link : Link) (read : Option ℕ) (exports : List DylibExport) → IsComplete trie links → mark links at ≡ Some link → read ≡ read_at trie at link → read ≡ None → Adds trie at exports exports
adds_none trie links at link read exports complete marked is nothing =
    none (λ export here.
    let ends : is_end trie at link ≡ true = name_ends trie links at export.name link complete here.walk marked in
    let flags : read ≡ end_at trie at = is ∙ rw ends refl in
    not_both (flags_of trie at) here.flags (sym (end_is_flags trie links at link complete marked) ∙ (sym flags ∙ nothing)) here.here) refl

same_flags : (x : Option ℕ) (a b : ℕ) → x ≡ Some a → x ≡ Some b → a ≡ b
same_flags x a b p q = ap (λ (o : Option ℕ). unwrap_or o a) (sym p ∙ q)

same_export : (a b : DylibExport) → a.name ≡ b.name → a.weak ≡ b.weak → a ≡ b
same_export a b n w = ap (λ (x : List ℕ). record { name = x; weak = a.weak }) n ∙ ap (λ (x : Bool). record { name = b.name; weak = x }) w

adds_by : (trie : List ℕ) (links : List (Option Link)) (at flags : ℕ) (name : List ℕ) (old new : List DylibExport) → IsComplete trie links → flags_of trie at ≡ Some flags → IsNamed trie links at name → Walk trie name at [] → new ≡ added old name flags → (is_directive name ≡ true) ⊎ (is_directive name ≡ false) → Adds trie at old new
unfolding added
adds_by trie links at flags name old new complete here named walk e (inl directive) =
    none
    (λ export is. true≢false (sym directive ∙ (ap is_directive (sym (one_name trie links at name export.name complete named is.walk)) ∙ is.symbol)))
    (e ∙ rw directive refl)
adds_by trie links at flags name old new complete here named walk e (inr symbol) =
    let export : DylibExport = record { name = name; weak = is_weak flags } in
    one export (record { walk = walk; flags = flags; here = here; weak = refl; symbol = symbol })
    (λ other is. same_export other export (one_name trie links at name other.name complete named is.walk) (is.weak ∙ ap is_weak (same_flags (flags_of trie at) is.flags flags is.here here)))
    (e ∙ rw symbol refl)

read_ends : (b : Bool) (x : Option ℕ) (flags : ℕ) → (if b then x else None) ≡ Some flags → (b ≡ true) × (x ≡ Some flags)
read_ends true x flags e = (refl, e)
read_ends false x flags e = absurd (false≢true (ap is_some e))

pub adds_named : (trie : List ℕ) (links : List (Option Link)) (at flags : ℕ) (link : Link) (read : Option ℕ) (name now : List ℕ) (old new : List DylibExport) → IsComplete trie links → mark links at ≡ Some link → read ≡ read_at trie at link → read ≡ Some flags → IsNamed trie links at name → now ≡ name → new ≡ added old now flags → Adds trie at old new
adds_named trie links at flags link read name now old new complete marked is some named same e =
    let parts = read_ends (is_end trie at link) (end_at trie at) flags (sym is ∙ some) in
    adds_by trie links at flags name old new complete (sym (end_is_flags trie links at link complete marked) ∙ parts.1) named
    (name_walk trie links at name link complete named marked parts.0) (e ∙ ap (λ (n : List ℕ). added old n flags) same) (cases_Bool (is_directive name))

-- ---- the exports of the first nodes

before_more : (trie : List ℕ) (n : ℕ) (export : DylibExport) → IsBefore trie n export → IsBefore trie (n + 1) export
before_more trie n export is = record { at = is.at; before = omega (arith, is.before); here = is.here }

passes : (trie : List ℕ) (exports : List DylibExport) (n : ℕ) → AreFound trie exports n → ((export : DylibExport) → IsExportAt trie n export → ⊥) → AreFound trie exports (n + 1)
passes trie exports n found never = record {
  sound = λ k d within. before_more trie n (get_or exports k d) (found.sound k d within);
  all = λ export is. by export is (cases_eq is.at n);
  apart = found.apart;
}
  where
    by : (export : DylibExport) → (is : IsBefore trie (n + 1) export) → (is.at ≡ n) ⊎ (is.at ≡ n → ⊥) → Contains exports export
    by export is (inl e) = absurd (never export (subst (λ (m : ℕ). IsExportAt trie m export) e is.here))
    by export is (inr less) = found.all export (record { at = is.at; before = omega (arith, is.before, less); here = is.here })

adds_one : (trie : List ℕ) (old : List DylibExport) (n : ℕ) (export : DylibExport) → AreFound trie old n → IsExportAt trie n export → ((other : DylibExport) → IsExportAt trie n other → other ≡ export) → AreFound trie (old ++ export ∷ []) (n + 1)
adds_one trie old n export found here only = record {
  sound = All-push (IsBefore trie (n + 1)) old export (λ k d within. before_more trie n (get_or old k d) (found.sound k d within)) (record { at = n; before = omega arith; here = here });
  all = λ other is. by other is (cases_eq is.at n);
  apart = all_pairs_push (λ (a : DylibExport) (b : DylibExport). a.name ≢ b.name) old export found.apart (λ k d within. apart k d within);
}
  where
    by : (other : DylibExport) → (is : IsBefore trie (n + 1) other) → (is.at ≡ n) ⊎ (is.at ≡ n → ⊥) → Contains (old ++ export ∷ []) other
    by other is (inl e) =
        subst (Contains (old ++ export ∷ [])) (sym (only other (subst (λ (m : ℕ). IsExportAt trie m other) e is.here))) (Contains-push old export)
    by other is (inr less) = Contains-append_left old (export ∷ []) other (found.all other (record { at = is.at; before = omega (arith, is.before, less); here = is.here }))

    apart : (k : ℕ) (d : DylibExport) → k < length old → (get_or old k d).name ≢ export.name
    apart k d within = λ same.
        let other = found.sound k d within in
        let place : other.at ≡ n = one_place trie other.at n export.name (subst (λ (n : List ℕ). Walk trie n other.at []) same other.here.walk) here.walk in
        omega (arith, other.before, place)

pub found_adds : (trie : List ℕ) (old new : List DylibExport) (n : ℕ) → AreFound trie old n → Adds trie n old new → AreFound trie new (n + 1)
found_adds trie old new n found (none never e) = subst (λ (xs : List DylibExport). AreFound trie xs (n + 1)) (sym e) (passes trie old n found never)
found_adds trie old new n found (one export here only e) =
    subst (λ (xs : List DylibExport). AreFound trie xs (n + 1)) (sym e) (adds_one trie old n export found here only)

pub found_passes : (trie : List ℕ) (links : List (Option Link)) (exports : List DylibExport) (n : ℕ) → IsComplete trie links → AreFound trie exports n → is_some (mark links n) ≡ false → AreFound trie exports (n + 1)
found_passes trie links exports n complete found unmarked =
    passes trie exports n found
    (λ export is. let there = reached trie links complete.led complete.pool export.name n [] complete.walked is.walk in
    false≢true (sym unmarked ∙ ap is_some there.marked))

-- ---- all exports in order

abbrev address : DylibExport → ExportAddress
address export = record { name = export.name; flags = 0; address = 0 }

abbrev plain : ExportAddress → DylibExport
plain export = record { name = export.name; weak = false }

name_read : (exports : List DylibExport) (k : ℕ) (d : ExportAddress) → k < length exports → (get_or (map address exports) k d).name ≡ (get_or exports k (plain d)).name
name_read [] k d within = absurd (omega (arith, within))
name_read (x ∷ exports) zero d within = refl
name_read (x ∷ exports) (suc k) d within = name_read exports k d (omega (arith, within))

names_same : (exports : List DylibExport) → names (map address exports) ≡ map (λ (export : DylibExport). export.name) exports
names_same [] = refl
names_same (x ∷ exports) = ap (λ (xs : List (List ℕ)). x.name ∷ xs) (names_same exports)

rises : (found order : List DylibExport) → AllPairs (λ (a : DylibExport) (b : DylibExport). a.name ≢ b.name) found → IsPermutation found order → IsSortedBy (λ (a : DylibExport) (b : DylibExport). is_lt (slice_cmp nat_cmp a.name b.name)) order → IsStrictlySortedBy (slice_cmp nat_cmp) (map (λ (export : DylibExport). export.name) order)
rises found order apart moves sorted =
    subst (IsStrictlySortedBy (slice_cmp nat_cmp)) (names_same order)
    (order_rises (map address found) (map address order) differ (IsPermutation-map address found order moves) ordered)
  where
    differ : AllPairs (λ (a : ExportAddress) (b : ExportAddress). a.name ≢ b.name) (map address found)
    differ i j d less within = λ same.
        let high : j < length found = subst (λ (n : ℕ). j < n) (length-map found address) within in
        apart i j (plain d) less high (sym (name_read found i d (omega (arith, less, high))) ∙ (same ∙ name_read found j d high))

    ordered : IsSortedBy (λ (a : ExportAddress) (b : ExportAddress). is_lt (slice_cmp nat_cmp a.name b.name)) (map address order)
    ordered k d low within =
        let high : k + 1 < length order = subst (λ (n : ℕ). k + 1 < n) (length-map order address) within in
        rw (name_read order (k + 1) d high, name_read order k d (omega (arith, high))) (sorted k (plain d) low high)

pub all_exports : (trie : List ℕ) (links : List (Option Link)) (found order : List DylibExport) (n : ℕ) → IsComplete trie links → n ≡ length links → AreFound trie found n → IsPermutation found order → IsSortedBy (λ (a : DylibExport) (b : DylibExport). is_lt (slice_cmp nat_cmp a.name b.name)) order → AreExports trie order
all_exports trie links found order n complete long are moves sorted = record {
  sound = λ export there. sound export (Contains-permutation order found export (IsPermutation-sym found order moves) there);
  all = λ export is. Contains-permutation found order export moves (are.all export (before export is));
  rising = rises found order are.apart moves sorted;
}
  where
    sound : (export : DylibExport) → Contains found export → IsExport trie export
    sound export there =
        let is : IsBefore trie n export = subst (IsBefore trie n) there.2 (are.sound there.0 export there.1) in
        (is.at, is.here)

    before : (export : DylibExport) → IsExport trie export → IsBefore trie n export
    before export is =
        let there = reached trie links complete.led complete.pool export.name is.0 [] complete.walked is.1.walk in
        record {
          at = is.0;
          before = omega (arith, long, marked_within links is.0 there.link there.marked);
          here = is.1;
        }

-- a trie of no bytes
no_flags : (trie : List ℕ) (at : ℕ) → length trie ≤ at → flags_of trie at ≡ None
unfolding flags_of
no_flags trie at past = rw (node_past trie at past) refl

pub no_exports : (trie : List ℕ) → length trie ≡ 0 → AreExports trie []
unfolding IsStrictlySortedBy
no_exports trie none' = record {
  sound = λ export there. absurd (omega (arith, there.1));
  all = λ export is. absurd (not_both (flags_of trie is.0) is.1.flags (no_flags trie is.0 (omega (arith, none'))) is.1.here);
  rising = tt;
}

pub no_fault : (trie : List ℕ) → length trie ≡ 0 → IsWhole trie
no_fault trie none' = λ fault. omega (arith, fault.0, none')

pub fault_found : (trie : List ℕ) (fault : TrieFault) (result : Result (List DylibExport) TrieFault) → (length trie ≡ 0 → ⊥) → IsFound trie fault → result ≡ Err fault → IfErr result (IsFaultOf trie)
fault_found trie Broken result some found is = rw is (omega (arith, some), found)
fault_found trie OutOfMemory result some found is = rw is tt
