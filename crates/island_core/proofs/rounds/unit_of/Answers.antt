use Rattle.std.proofs.Common.{◌^◌, ◌≤◌, arith}
use Rattle.std.proofs.Math.Pow.{pow_mono}
use Rattle.island_core.proofs.rounds.unit_of.Goals as goal

pub returns-clause-small : goal.returns-clause-small
returns-clause-small c = let low : 2 ^ c.args.power ≤ 2 ^ 14 = pow_mono c.requires in omega (arith, low)
