use Rattle.image_format.proofs.PointerLemmas.{bind_of-bind_word}
use Rattle.image_format.proofs.chained_pointer.ChainedBind.word.Goals as goal

pub returns-clause-read_back : goal.returns-clause-read_back
returns-clause-read_back c = rw c.pack_bind.ensures (bind_of-bind_word c.args.self c.requires)
