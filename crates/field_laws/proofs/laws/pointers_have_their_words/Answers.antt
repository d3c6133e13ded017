use Rattle.field_laws.proofs.Pointers.{word_there}
use Rattle.field_laws.proofs.laws.pointers_have_their_words.Goals as goal

pub returns : goal.returns
returns c = word_there
