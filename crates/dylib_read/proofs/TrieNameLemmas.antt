-- The names of the nodes of a trie: the ways to them by the links.
use Rattle.std.proofs.Common.{◌≡◌, ℕ, ◌+◌, ◌<◌, ◌⊎◌, inl, inr, List, [], ◌∷◌, ◌++◌, length, drop, get_or, Option, Some, refl, sym, subst, ◌∙◌, arith, append_assoc, append-nil}
use Rattle.std.proofs.lemmas.List.{drop_all, drop_more}
use Rattle.dylib_read.specs.declared.trie_node.Edge.{Edge}
use Rattle.dylib_read.specs.declared.trie_walk.Bound.{Bound}
use Rattle.dylib_read.specs.declared.trie_walk.Link.{Link}
use Rattle.dylib_read.specs.TrieNodes.{label}
use Rattle.dylib_read.specs.inner.TrieLinks.{IsBack, IsComplete, IsLink, IsMarked, IsNamed, IsWay, mark, spelled}

back_from : (trie : List ℕ) (links : List (Option Link)) (pool : List Bound) (n k at : ℕ) (link : Link) → (at ≡ 0) ⊎ IsLink trie links pool n k at link → (at ≡ 0) ⊎ ((link.from < at) × IsMarked links link.from)
back_from trie links pool n k at link (inl e) = inl e
back_from trie links pool n k at link (inr made) = inr (made.forward, record { link = made.source; is = made.marked })

pub links_go_back : (trie : List ℕ) (links : List (Option Link)) → IsComplete trie links → IsBack links
links_go_back trie links complete =
    record { back = λ at link is. back_from trie links complete.pool (length trie) 0 at link (complete.walked.sound at link is) }

-- ---- ways

-- the way from `at` to the root goes on from `node` behind `front`
pub record IsGoing (links : List (Option Link)) (at node : ℕ) (front : List Edge) : Type 0 where
  pub marked : IsMarked links node
  pub on : (rest : List Edge) → IsWay links node rest → IsWay links at (front ++ rest)

pub way_starts : (links : List (Option Link)) (at : ℕ) (front : List Edge) → IsMarked links at → front ≡ [] → IsGoing links at at front
way_starts links at front marked e = record { marked = marked; on = λ rest way. rw e way }

went : (links : List (Option Link)) (node : ℕ) (link : Link) → (node ≡ 0 → ⊥) → (node ≡ 0) ⊎ ((link.from < node) × IsMarked links link.from) → (link.from < node) × IsMarked links link.from
went links node link some (inl e) = absurd (some e)
went links node link some (inr both) = both

pub way_goes_on : (links : List (Option Link)) (at node : ℕ) (front : List Edge) (link : Link) → IsBack links → IsGoing links at node front → (node ≡ 0 → ⊥) → mark links node ≡ Some link → IsGoing links at link.from (front ++ link.edge ∷ [])
way_goes_on links at node front link back going some is = record {
  marked = (went links node link some (back.back node link is)).1;
  on = λ rest way. subst (IsWay links at) (sym (append_assoc front (link.edge ∷ []) rest)) (going.on (link.edge ∷ rest) (link, is, some, refl, way));
}

pub way_smaller : (links : List (Option Link)) (node : ℕ) (link : Link) → IsBack links → (node ≡ 0 → ⊥) → mark links node ≡ Some link → link.from < node
way_smaller links node link back some is = (went links node link some (back.back node link is)).0

pub way_ends : (links : List (Option Link)) (at node : ℕ) (front : List Edge) → IsGoing links at node front → node ≡ 0 → IsWay links at front
way_ends links at node front going e = subst (IsWay links at) (append-nil front) (going.on [] e)

pub ruleset ways = (way_starts, way_goes_on, way_smaller, way_ends)

-- ---- spellings

pub spell_one : (trie : List ℕ) (way : List Edge) (left : ℕ) (d : Edge) (front out : List ℕ) → left < length way → out ≡ front ++ spelled trie (drop (left + 1) way) → out ++ label trie (get_or way left d) ≡ front ++ spelled trie (drop left way)
spell_one trie way left d front out within is =
    let here : drop left way ≡ get_or way left d ∷ drop (left + 1) way = drop_more way left d within in
    rw (is, here) (append_assoc front (spelled trie (drop (left + 1) way)) (label trie (get_or way left d)))

pub spell_none : (trie : List ℕ) (way : List Edge) (out : List ℕ) → out ≡ out ++ spelled trie (drop (length way) way)
spell_none trie way out = rw (drop_all (length way) way (omega arith)) (sym (append-nil out))

pub ruleset spellings = (spell_one, spell_none)

pub named : (trie : List ℕ) (links : List (Option Link)) (at : ℕ) (way now : List Edge) (front out : List ℕ) → IsWay links at way → now ≡ way → front ≡ [] → out ≡ front ++ spelled trie now → IsNamed trie links at out
named trie links at way now front out is same none spells = record { way = way; back = is; spells = spells ∙ rw (none, same) refl }
