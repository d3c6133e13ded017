-- What the rows of a list of references stand for.
use Rattle.std.specs.Prelude.{ℕ, ◌<◌, pos, List, map, slice_index_or, Option, Some, None}
use Rattle.std.specs.List.{AllByRecursion}
use Rattle.mo_types.specs.declared.key.FileId.{FileId}
use Rattle.mo_types.specs.declared.reference.Ref.{Ref}
use Rattle.mo_types.specs.declared.reference.RefKind.TheVariants.{Pointer}
use Rattle.mo_types.specs.declared.reference.Target.{Target}
use Rattle.mo_types.specs.declared.reference.Target.TheVariants as target
use Rattle.mo_types.specs.declared.ref_row.Spot.{Spot}
use Rattle.mo_types.specs.declared.ref_row.Row.{Row}
use Rattle.mo_types.specs.declared.ref_row.Row.TheVariants.{Name, Difference, Other}

-- the reference at a spot of a file
abbrev pub ref_at : FileId → Spot → Target → Option Target → Ref
ref_at file spot to minus = record {
  atom = record { file = file; section = spot.section; offset = spot.offset };
  place = spot.place;
  file_place = spot.file_place;
  kind = spot.kind;
  target = to;
  minus = minus;
  addend = spot.addend;
}

-- no reference: what a row of no index would stand for
abbrev pub no_ref : Ref
no_ref = record {
  atom = record { file = record { position = 0; member = 0 }; section = 0; offset = 0 };
  place = 0;
  file_place = 0;
  kind = Pointer;
  target = target.Name 0;
  minus = None;
  addend = pos 0;
}

-- the reference of a row, among those that are kept whole
unfoldable pub ref_of : FileId → List Ref → Row → Ref
ref_of file others (Name spot symbol) = ref_at file spot (target.Name symbol) None
ref_of file others (Difference spot symbol minus) = ref_at file spot (target.Name symbol) (Some (target.Name minus))
ref_of file others (Other index) = slice_index_or others index no_ref

-- the references of all rows
abbrev pub refs_of_rows : FileId → List Ref → List Row → List Ref
refs_of_rows file others rows = map (ref_of file others) rows

-- a row's reference is there
abbrev pub IsRowWithin : ℕ → Row → Type 0
IsRowWithin count (Other index) = index < count
IsRowWithin count _ = Unit {0}

abbrev pub AreRowsWithin : ℕ → List Row → Type 0
AreRowsWithin count rows = AllByRecursion (IsRowWithin count) rows
