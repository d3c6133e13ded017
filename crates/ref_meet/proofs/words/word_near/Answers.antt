use Rattle.ref_meet.proofs.WordLemmas.{word_is}
use Rattle.ref_meet.proofs.words.word_near.Goals as goal

pub returns : goal.returns
returns c = word_is c.args.words.now c.args.address c.in_ok-at.at _ c.requires (rw c.in_ok-at.was at c.place_near.ensures)
