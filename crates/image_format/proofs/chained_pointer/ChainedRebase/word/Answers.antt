use Rattle.image_format.proofs.PointerLemmas.{rebase_of-rebase_word}
use Rattle.image_format.proofs.chained_pointer.ChainedRebase.word.Goals as goal

pub returns-clause-read_back : goal.returns-clause-read_back
returns-clause-read_back c = rw c.pack_rebase.ensures (rebase_of-rebase_word c.args.self c.requires)
