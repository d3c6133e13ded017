-- What an image's entry and references lead to stands near the start of its atom, so that each address has 64 bits.
use Rattle.std.specs.Prelude.{All}
use Rattle.ref_meet.specs.Near.{HaveNearEnds, IsNear}
use Rattle.image_make.specs.Made.{ImageInputs}

pub record AreNear (m : ImageInputs) : Type 0 where
  pub entry : IsNear m.entry
  pub goals : All (All IsNear) m.goals
  pub refs : HaveNearEnds m.files
