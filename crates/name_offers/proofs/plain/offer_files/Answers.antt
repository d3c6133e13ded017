use Rattle.std.proofs.Common.{◌<◌, length, arith}
use Rattle.name_offers.proofs.PlainLemmas.{list_there}
use Rattle.name_offers.proofs.plain.offer_files.Goals as goal

pub offer_file-requires-clause-numbers : goal.offer_file-requires-clause-numbers
offer_file-requires-clause-numbers c =
    list_there c.args.names.now c.args.lists.now c.args.files.now c.loop-i.i c.index-files-i.result c.numbers_at.result.now c.requires.numbers (omega (arith, c.loop-i-test.true, c.loop-i.auto.i-end)) c.index-files-i.is c.numbers_at.ensures
