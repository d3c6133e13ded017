use Rattle.std.proofs.Common.{◌/◌, arith}
use Rattle.std.proofs.lemmas.List.{length-set}
use Rattle.sign_adhoc.proofs.UuidLemmas.{last_place}
use Rattle.sign_adhoc.proofs.identity.renew.Goals as goal

pub bounds-hashes-last : goal.bounds-hashes-last
bounds-hashes-last c =
    let count = c.requires.count in
    let low = last_place c.args.at _ c.requires.place in
    let size = length-set c.args.hashes.now (c.args.at / 4096) c.page_hash.result in
    omega arith
