use Rattle.input_files.specs.Sources.{inputs_of}
use Rattle.member_rounds.proofs.PieceLemmas.{pieces_result}
use Rattle.member_rounds.proofs.round_reading.read_some.Goals as goal

pub returns-clause-whole : goal.returns-clause-whole
returns-clause-whole g c = pieces_result (inputs_of c.args.sources.now) c.args.ids.now c.in_ok-pieces.pieces.items c.args.before c.collect.result c.in_ok-pieces.ensures c.requires.whole c.collect.ensures
