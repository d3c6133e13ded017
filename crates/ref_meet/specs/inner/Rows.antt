-- A placed atom with what its references are met by.
use Rattle.std.specs.Prelude.{◌≡◌, [], All, IfSome, List, Some, slice_get}
use Rattle.std.specs.Option.{option_map_or}
use Rattle.liveness.specs.Order.{refs_of_atom}
use Rattle.mo_types.specs.declared.goal.Goal.{Goal}
use Rattle.mo_types.specs.declared.loaded.LoadedFile.{LoadedFile}
use Rattle.resolve.specs.Table.{file_goals}
use Rattle.ref_meet.specs.Near.{HasNearEnds, IsNear}
use Rattle.ref_meet.specs.Scene.{Scene, goals_at}
use Rattle.ref_meet.specs.Template.{has_descriptors}
use Rattle.ref_meet.specs.declared.row.Row.{Row}

-- the goals of the symbols of the row's file
abbrev pub goals_there : Row → List Goal
goals_there row = option_map_or file_goals row.goals []

-- The row is of a file: it has the file's references, the goals of its symbols, which are in a pool, the indices of the atom's
-- references, and whether its section holds descriptors; and all to which these lead is near.
pub record IsRow (scene : Scene) (pool : List Goal) (row : Row) : Type 0 where
  pub file : LoadedFile
  pub there : slice_get scene.files row.item.now.file ≡ Some file
  pub refs : row.refs.now ≡ file.refs
  pub pooled : IfSome row.goals (λ goals. goals.pool ≡ pool)
  pub goals : goals_there row ≡ goals_at scene.goals row.item.now.file
  pub indices : row.indices.now ≡ refs_of_atom file.refs row.item.now.atom.key.section row.item.now.atom.key.offset
  pub descriptors : row.descriptors ≡ has_descriptors file row.item.now.atom.key.section
  pub near_goals : All IsNear (goals_there row)
  pub near_refs : All HasNearEnds file.refs
