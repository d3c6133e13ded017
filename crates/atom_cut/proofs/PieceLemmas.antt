-- The pieces of a section, from its cuts.
use Rattle.std.proofs.Common.{◌≡◌, ℕ, zero, suc, ◌+◌, ◌-◌, ◌<◌, ◌≤◌, ◌++◌, ◌∷◌, [], List, length, get_or, drop, Bool, true, false, cond, filter, refl, sym, ap, ◌∙◌, arith, append_assoc, append-nil, add-one, drop-cons}
use Rattle.std.specs.List.{range_with_len}
use Rattle.std.proofs.lemmas.List.{drop_all, get_or-drop}
use Rattle.mo_types.specs.declared.atom.Atom.{Atom}
use Rattle.mo_types.specs.declared.key.FileId.{FileId}
use Rattle.mo_types.specs.declared.object.Object.{Object}
use Rattle.mo_types.specs.declared.object.Section.{Section}
use Rattle.mo_types.specs.Atoms.{cuts, is_cut, piece, pieces}
use Rattle.atom_cut.specs.Cutting.{RiseTo}

-- the numbers at a place
next_at : (size : ℕ) (cuts : List ℕ) (k : ℕ) → RiseTo size cuts → k < length cuts → (get_or cuts k 0 ≤ get_or cuts (k + 1) size) × (get_or cuts (k + 1) size ≤ size)
next_at size [] k rise within = absurd (omega arith)
next_at size (cut ∷ cuts) zero rise within = (rise.0, rise.1)
next_at size (cut ∷ cuts) (suc k) rise within =
    let rest : (get_or cuts k 0 ≤ get_or cuts (k + 1) size) × (get_or cuts (k + 1) size ≤ size) = next_at size cuts k rise.2 (omega arith) in
    let e : suc k + 1 ≡ suc (k + 1) = omega arith in
    (rw e rest.0, rw e rest.1)

pub next_is_after : (size : ℕ) (cuts : List ℕ) (k to : ℕ) → RiseTo size cuts → k < length cuts → to ≡ get_or cuts (k + 1) size → get_or cuts k 0 ≤ to
next_is_after size cuts k to rise within next =
    let low : get_or cuts k 0 ≤ get_or cuts (k + 1) size = (next_at size cuts k rise within).0 in
    omega arith

-- the pieces made so far, and those that come
pub record ArePieces (file : FileId) (number : ℕ) (section : Section) (cuts : List ℕ) (start atoms : List Atom) (at : ℕ) : Type 0 where
  pub same : atoms ++ pieces file number section (drop at cuts) ≡ start ++ pieces file number section cuts

pub pieces_begin : (file : FileId) (number : ℕ) (section : Section) (cuts : List ℕ) (start : List Atom) → ArePieces file number section cuts start start 0
pieces_begin file number section cuts start = record { same = refl }

from_cut : (file : FileId) (number : ℕ) (section : Section) (cuts : List ℕ) (at from : ℕ) → at < length cuts → from ≡ get_or cuts at from → pieces file number section (drop at cuts) ≡ piece file number section from (get_or cuts (at + 1) section.size) ∷ pieces file number section (drop (at + 1) cuts)
from_cut file number section cuts at from within is =
    let e : drop at cuts ≡ from ∷ drop (at + 1) cuts = rw (drop-cons cuts at from, ← is, add-one) refl in
    let next : get_or (drop (at + 1) cuts) 0 section.size ≡ get_or cuts (at + 1) section.size = get_or-drop (at + 1) cuts 0 section.size ∙ ap (λ n. get_or cuts n section.size) (omega arith) in
    ap (pieces file number section) e ∙ ap (λ to. piece file number section from to ∷ pieces file number section (drop (at + 1) cuts)) next

pub pieces_go_on : (file : FileId) (number : ℕ) (section : Section) (cuts : List ℕ) (start atoms more : List Atom) (at from to : ℕ) (atom : Atom) → ArePieces file number section cuts start atoms at → at < length cuts → from ≡ get_or cuts at from → to ≡ get_or cuts (at + 1) section.size → atom ≡ piece file number section from to → more ≡ atoms ++ atom ∷ [] → ArePieces file number section cuts start more (at + 1)
pieces_go_on file number section cuts start atoms more at from to atom are within is next made pushed = record {
  same =
      ap (λ xs. xs ++ pieces file number section (drop (at + 1) cuts)) pushed
      ∙ append_assoc atoms (atom ∷ []) (pieces file number section (drop (at + 1) cuts))
      ∙ ap (λ x. atoms ++ x ∷ pieces file number section (drop (at + 1) cuts)) (made ∙ ap (piece file number section from) next)
      ∙ sym (ap (λ xs. atoms ++ xs) (from_cut file number section cuts at from within is))
      ∙ are.same;
}

pub pieces_end : (file : FileId) (number : ℕ) (section : Section) (cuts : List ℕ) (start atoms : List Atom) (at : ℕ) → ArePieces file number section cuts start atoms at → length cuts ≤ at → atoms ≡ start ++ pieces file number section cuts
pieces_end file number section cuts start atoms at are past =
    sym (append-nil atoms) ∙ sym (ap (λ xs. atoms ++ pieces file number section xs) (drop_all at cuts past)) ∙ are.same

pub ruleset pieces_loop = (next_is_after, pieces_begin, pieces_go_on, pieces_end)

-- the cuts of a section rise to its size

one_or_more : (size x a : ℕ) (test : Bool) (xs : List ℕ) → x ≤ a → a ≤ size → RiseTo size (a ∷ xs) → RiseTo size (x ∷ xs) → RiseTo size (x ∷ cond test (a ∷ xs) xs)
one_or_more size x a true xs low high with without = (low, high, with)
one_or_more size x a false xs low high with without = without

range_rises : (p : ℕ → Bool) (size x a n : ℕ) → x ≤ a → a + n ≤ size → RiseTo size (x ∷ filter p (range_with_len a n))
range_rises p size x a zero low high = (omega arith, omega arith, tt)
range_rises p size x a (suc n) low high =
    one_or_more size x a (p a) (filter p (range_with_len (a + 1) n)) low (omega arith) (range_rises p size a (a + 1) n (omega arith) (omega arith))
    (range_rises p size x (a + 1) n (omega arith) (omega arith))

rises_by_size : (p : ℕ → Bool) (size : ℕ) → RiseTo size (0 ∷ filter p (range_with_len 1 (size - 1)))
rises_by_size p zero = (omega arith, omega arith, tt)
rises_by_size p (suc n) = range_rises p (suc n) 0 1 (suc n - 1) (omega arith) (omega arith)

pub cuts_rise : (object : Object) (number : ℕ) (section : Section) → RiseTo section.size (cuts object number section)
unfolding cuts
cuts_rise object number section = rises_by_size (is_cut object number section) section.size
