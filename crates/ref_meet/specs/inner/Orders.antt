-- The references of each file by their atoms.
use Rattle.std.specs.Prelude.{ℕ, ◌≡◌, List, length, slice_get, Some}
use Rattle.liveness.specs.Order.{AreInOrder}
use Rattle.mo_types.specs.declared.loaded.LoadedFile.{LoadedFile}

pub record AreOrders (files : List LoadedFile) (orders : List (List ℕ)) : Type 0 where
  pub count : length orders ≡ length files
  pub each : (at : ℕ) (file : LoadedFile) (order : List ℕ) → slice_get files at ≡ Some file → slice_get orders at ≡ Some order → AreInOrder file.refs order
