use Rattle.std.proofs.Common.{◌<◌, ◌%◌, refl, arith}
use Rattle.std.proofs.lemmas.Nat.{one_shl}
use Rattle.mark_race.proofs.Words.{noted_set}
use Rattle.mark_race.proofs.bits.note.Goals as goal

pub returns-then-is : goal.returns-then-is
returns-then-is c = let low : c.args.atom % 64 < 64 = omega arith in noted_set c.args.words.now _ c.args.atom _ c.args.is c.if-is.true c.requires (one_shl (c.args.atom % 64) 64 low) refl
