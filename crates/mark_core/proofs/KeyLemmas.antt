-- Atoms that have the same numbers are one.
use Rattle.std.proofs.Common.{◌≡◌, Bool, true, false, ◌==◌, ◌&&◌, refl}
use Rattle.std.proofs.lemmas.Bool.{eqb-true, eq-eqb}
use Rattle.mo_types.specs.declared.key.AtomKey.{AtomKey}
use Rattle.atom_index.proofs.Keys.{key_of, same_fields}
use Rattle.mark_core.specs.Kept.{same_atom}

-- any atom
abbrev pub no_atom : AtomKey
no_atom = key_of 0 0 0 0

all_four : (a b c d : Bool) → ((a && b) && (c && d)) ≡ true → (a ≡ true) × (b ≡ true) × (c ≡ true) × (d ≡ true)
all_four true true true true e = (refl, refl, refl, refl)
all_four true true true false e = cc
all_four true true false d e = cc
all_four true false c d e = cc
all_four false b c d e = cc

pub same_atoms : (a b : AtomKey) → same_atom a b ≡ true → a ≡ b
same_atoms a b e =
    let p = all_four (a.file.position == b.file.position) (a.file.member == b.file.member) (a.section == b.section) (a.offset == b.offset) e in
    same_fields a.file.position a.file.member a.section a.offset b.file.position b.file.member b.section b.offset
    (eqb-true a.file.position b.file.position p.0) (eqb-true a.file.member b.file.member p.1) (eqb-true a.section b.section p.2) (eqb-true a.offset b.offset p.3)

pub itself : (a : AtomKey) → same_atom a a ≡ true
itself a = rw (eq-eqb a.file.position a.file.position refl, eq-eqb a.file.member a.file.member refl, eq-eqb a.section a.section refl, eq-eqb a.offset a.offset refl) refl
