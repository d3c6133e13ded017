-- What holds of the entries of an object, and of the fault for which it is refused.
use Rattle.std.specs.Prelude.{ℕ, ◌+◌, ◌≡◌, ◌≢◌, ◌≤◌, ◌<◌, ◌⊎◌, true, Contains, slice_get, Some}
use Rattle.mo_types.specs.Atoms.{atoms_of}
use Rattle.mo_types.specs.declared.atom.Atom.{Atom}
use Rattle.mo_types.specs.declared.key.FileId.{FileId}
use Rattle.mo_types.specs.declared.object.Object.{Object}
use Rattle.mo_types.specs.declared.object.Section.{Section}
use Rattle.mo_types.specs.declared.unwind.Unwind.{Unwind}
use Rattle.unwind_read.specs.declared.spans.Span.{Span}
use Rattle.unwind_read.specs.Overlaps.{overlap}
use Rattle.unwind_read.specs.Rules.{UnwindRule, has_entries, section_rules}
use Rattle.unwind_read.specs.Unwinds.{spans_of}

-- An entry stands for a part of an atom of its object that isn't empty, and that ends where the atom ends or before.
pub record IsInAtom (object : Object) (file : FileId) (entry : Unwind) : Type 0 where
  pub atom : Atom
  pub among : Contains (atoms_of object file) atom
  pub key : atom.key ≡ entry.atom
  pub some : 0 < entry.length
  pub within : entry.offset + entry.length ≤ atom.size

-- two entries have no byte of an atom in common
abbrev pub AreApart : Unwind → Unwind → Type 0
AreApart a b = a.atom ≡ b.atom → (a.offset + a.length ≤ b.offset) ⊎ (b.offset + b.length ≤ a.offset)

-- A part of the rule fails in a section of entries, and this is the place at which it is told.
pub record IsBroken (object : Object) (place : ℕ) : Type 0 where
  pub section : Section
  pub among : Contains object.sections section
  pub entries : has_entries section ≡ true
  pub rule : UnwindRule
  pub part : Contains section_rules rule
  pub at : ℕ
  pub asked : at < rule.count section
  pub fails : rule.fails object section at ≡ true
  pub told : rule.place section at ≡ place

-- The ranges of two entries have an offset in common, and this is the place of the first of these.
pub record IsOverlapping (object : Object) (place : ℕ) : Type 0 where
  pub one : ℕ
  pub other : ℕ
  pub apart : one ≢ other
  pub span : Span
  pub beside : Span
  pub first : slice_get (spans_of object) one ≡ Some span
  pub second : slice_get (spans_of object) other ≡ Some beside
  pub common : overlap span beside ≡ true
  pub told : span.place ≡ place

-- the rule of entries doesn't hold, which is told of this place
abbrev pub IsAtFault : Object → ℕ → Type 0
IsAtFault object place = IsBroken object place ⊎ IsOverlapping object place

-- the least place of which that is told
pub record IsLeastFault (object : Object) (place : ℕ) : Type 0 where
  pub here : IsAtFault object place
  pub least : (other : ℕ) → IsAtFault object other → place ≤ other
