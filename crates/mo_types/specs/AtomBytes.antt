-- The bytes of an atom.
use Rattle.std.specs.Prelude.{ℕ, List, [], take, drop}
use Rattle.std.specs.Option.{option_map_or}
use Rattle.mo_types.specs.RelocationRules.{section_numbered}
use Rattle.mo_types.specs.declared.atom.Atom.{Atom}
use Rattle.mo_types.specs.declared.object.Object.{Object}

-- An atom's part of its section's bytes. A section without bytes in the file has none, and so have its atoms;
-- a common symbol stands in no section.
abbrev pub atom_bytes : Object → Atom → List ℕ
atom_bytes object atom =
    option_map_or (λ section. take atom.size (drop atom.key.offset section.bytes)) (section_numbered object.sections atom.key.section) []
