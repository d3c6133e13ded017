-- Numbers of sections, one for each atom that is placed.
use Rattle.std.specs.Prelude.{ℕ, ◌≡◌, ◌==◌, List, if◌then◌else◌}
use Rattle.mark_core.specs.Kept.{has}
use Rattle.mo_format.specs.declared.nlist.TheConstants.{NO_SECT}
use Rattle.mo_types.specs.declared.key.AtomKey.{AtomKey}
use Rattle.sect_place.specs.declared.layout.Layout.{Layout}
use Rattle.sect_place.specs.declared.layout.Placed.{Placed}
use Rattle.sym_out.specs.Sites.{section_number}
use Rattle.sym_out.specs.inner.Tables.{IsTableOf}

-- a number, or where it is none another one
abbrev pub or_number : ℕ → ℕ → ℕ
or_number number other = if number == NO_SECT then other else number

abbrev pub AreNumbers : (AtomKey → ℕ) → List Placed → List ℕ → Type 0
AreNumbers number placed numbers = IsTableOf (λ n. n) number placed numbers

-- an atom's number, or where it has none the one that these atoms get
unfoldable pub numbered : (AtomKey → ℕ) → ℕ → List AtomKey → AtomKey → ℕ
numbered number n atoms atom = or_number (number atom) (if has atoms atom then n else NO_SECT)

-- the atoms of a layout, and the numbers of their sections
pub record IsSited (layout : Layout) (placed : List Placed) (numbers : List ℕ) : Type 0 where
  pub same : placed ≡ layout.placed
  pub right : AreNumbers (section_number layout.sections) placed numbers
