-- What holds of the atoms of a section.
use Rattle.std.proofs.Common.{◌≡◌, ℕ, zero, suc, ◌+◌, ◌-◌, ◌≤◌, ◌++◌, ◌∷◌, [], inl, inr, List, Some, length, take, drop, Bool, true, false, refl, sym, ap, ◌∙◌, subst, arith, if◌then◌else◌}
use Rattle.std.specs.List.{flat_map}
use Rattle.std.proofs.lemmas.Bool.{false≢true, cases_lt}
use Rattle.std.proofs.lemmas.List.{drop_all, drop-drop, take-append-drop}
use Rattle.mo_types.specs.declared.key.FileId.{FileId}
use Rattle.mo_types.specs.declared.object.Object.{Object}
use Rattle.mo_types.specs.declared.object.Section.{Section}
use Rattle.mo_types.specs.AtomBytes.{atom_bytes}
use Rattle.mo_types.specs.Atoms.{cuts, cut_of, greatest, is_cut, piece, pieces, section_atoms}
use Rattle.mo_types.specs.RelocationRules.{section_numbered}
use Rattle.mo_types.specs.Whole.{IsWholeSection, is_dropped, is_zerofill}
use Rattle.atom_cut.specs.Cutting.{RiseTo}
use Rattle.atom_cut.specs.Laws.{IsGreatest, Tile}
use Rattle.atom_cut.proofs.CutLemmas.{start_is_cut}
use Rattle.atom_cut.proofs.PieceLemmas.{cuts_rise}

-- the atoms of a linked section
linked_atoms : (object : Object) (file : FileId) (number : ℕ) (section : Section) → is_dropped section ≡ false → section_atoms object file number section ≡ pieces file number section (cuts object number section)
unfolding section_atoms
linked_atoms object file number section linked = rw linked refl

pieces_tile : (file : FileId) (number : ℕ) (section : Section) (from : ℕ) (rest : List ℕ) → RiseTo section.size (from ∷ rest) → Tile from section.size (pieces file number section (from ∷ rest))
unfolding piece
pieces_tile file number section from [] rise =
    let low : from ≤ section.size = rise.0 in
    let e : from + (section.size - from) ≡ section.size = omega arith in
    (refl, e)
pieces_tile file number section from (next ∷ rest) rise =
    let low : from ≤ next = rise.0 in
    let e : from + (next - from) ≡ next = omega arith in
    (refl, subst (λ (k : ℕ). Tile k section.size (pieces file number section (next ∷ rest))) (sym e) (pieces_tile file number section next rest rise.2))

cuts_tile : (object : Object) (file : FileId) (number : ℕ) (section : Section) → RiseTo section.size (cuts object number section) → Tile 0 section.size (pieces file number section (cuts object number section))
unfolding cuts
cuts_tile object file number section rise = pieces_tile file number section 0 _ rise

pub atoms_of_section_tile : (object : Object) (file : FileId) (number : ℕ) (section : Section) → is_dropped section ≡ false → Tile 0 section.size (section_atoms object file number section)
atoms_of_section_tile object file number section linked =
    rw (linked_atoms object file number section linked) (cuts_tile object file number section (cuts_rise object number section))

pub ruleset tiles = (atoms_of_section_tile)

no_more_bytes : (section : Section) → IsWholeSection section → length section.bytes ≤ section.size
no_more_bytes section whole = at_most (is_zerofill section.kind) (length section.bytes) section.size whole.bytes
  where
    at_most : (test : Bool) (n size : ℕ) → n ≡ (if test then 0 else size) → n ≤ size
    at_most true n size e = omega arith
    at_most false n size e = omega arith

piece_bytes : (object : Object) (file : FileId) (number : ℕ) (section : Section) (from to : ℕ) → section_numbered object.sections number ≡ Some section → atom_bytes object (piece file number section from to) ≡ take (to - from) (drop from section.bytes)
unfolding piece
piece_bytes object file number section from to here = rw here refl

pieces_have_bytes : (object : Object) (file : FileId) (number : ℕ) (section : Section) (from : ℕ) (rest : List ℕ) → section_numbered object.sections number ≡ Some section → length section.bytes ≤ section.size → RiseTo section.size (from ∷ rest) → flat_map (atom_bytes object) (pieces file number section (from ∷ rest)) ≡ drop from section.bytes
pieces_have_bytes object file number section from [] here fits rise =
    let low : from ≤ section.size = rise.0 in
    let e : from + (section.size - from) ≡ section.size = omega arith in
    let none : drop (section.size - from) (drop from section.bytes) ≡ [] = drop-drop (section.size - from) from section.bytes ∙ ap (λ n. drop n section.bytes) e ∙ drop_all section.size section.bytes fits in
    ap (λ xs. xs ++ []) (piece_bytes object file number section from section.size here)
    ∙ ap (λ xs. take (section.size - from) (drop from section.bytes) ++ xs) (sym none) ∙ take-append-drop (section.size - from) (drop from section.bytes)
pieces_have_bytes object file number section from (next ∷ rest) here fits rise =
    let low : from ≤ next = rise.0 in
    let e : from + (next - from) ≡ next = omega arith in
    let after : drop next section.bytes ≡ drop (next - from) (drop from section.bytes) = ap (λ n. drop n section.bytes) (sym e) ∙ sym (drop-drop (next - from) from section.bytes) in
    ap (λ xs. xs ++ flat_map (atom_bytes object) (pieces file number section (next ∷ rest))) (piece_bytes object file number section from next here)
    ∙ ap (λ xs. take (next - from) (drop from section.bytes) ++ xs) (pieces_have_bytes object file number section next rest here fits rise.2 ∙ after)
    ∙ take-append-drop (next - from) (drop from section.bytes)

cuts_have_bytes : (object : Object) (file : FileId) (number : ℕ) (section : Section) → section_numbered object.sections number ≡ Some section → length section.bytes ≤ section.size → RiseTo section.size (cuts object number section) → flat_map (atom_bytes object) (pieces file number section (cuts object number section)) ≡ section.bytes
unfolding cuts
cuts_have_bytes object file number section here fits rise = pieces_have_bytes object file number section 0 _ here fits rise

pub section_keeps_bytes : (object : Object) (file : FileId) (number : ℕ) (section : Section) → IsWholeSection section → is_dropped section ≡ false → section_numbered object.sections number ≡ Some section → flat_map (atom_bytes object) (section_atoms object file number section) ≡ section.bytes
section_keeps_bytes object file number section whole linked here =
    rw (linked_atoms object file number section linked) (cuts_have_bytes object file number section here (no_more_bytes section whole) (cuts_rise object number section))

pub ruleset bytes_of_section = (section_keeps_bytes)

-- the greatest number that passes

chosen_greatest : (test : ℕ → Bool) (bound : ℕ) (here : Bool) → test (suc bound) ≡ here → IsGreatest test bound (greatest test bound) → IsGreatest test (suc bound) (if here then suc bound else greatest test bound)
chosen_greatest test bound true e below = record { passes = e; within = omega arith; above_all = λ k pass low. low }
chosen_greatest test bound false e below = record {
  passes = below.passes;
  within = let low : greatest test bound ≤ bound = below.within in omega arith;
  above_all = λ k pass low. elim (cases_lt bound k) [
    | inl more ↦ let is : k ≡ suc bound = omega arith in absurd (false≢true (sym e ∙ ap test (sym is) ∙ pass))
    | inr less ↦ below.above_all k pass less
  ];
}

pub is_greatest : (test : ℕ → Bool) (bound : ℕ) → test 0 ≡ true → IsGreatest test bound (greatest test bound)
is_greatest test zero start = record { passes = start; within = omega arith; above_all = λ k pass low. low }
is_greatest test (suc bound) start = chosen_greatest test bound (test (suc bound)) refl (is_greatest test bound start)

pub greatest_cut : (object : Object) (number : ℕ) (section : Section) (offset : ℕ) → IsGreatest (is_cut object number section) offset (cut_of object number section offset)
greatest_cut object number section offset = is_greatest (is_cut object number section) offset (start_is_cut object number section)

pub ruleset cut_is_greatest = (greatest_cut)
