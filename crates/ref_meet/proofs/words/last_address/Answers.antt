use Rattle.std.proofs.Common.{◌≡◌, ◌+◌, ◌-◌, length, arith}
use Rattle.ref_meet.proofs.WordLemmas.{all_before}
use Rattle.ref_meet.proofs.words.last_address.Goals as goal

pub returns : goal.returns
returns c =
    let last : (length c.args.words.now - 1) + 1 ≡ length c.args.words.now = omega arith in
    all_before c.args.words.now (length c.args.words.now - 1) _ c.requires last
