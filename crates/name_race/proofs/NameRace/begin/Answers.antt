use Rattle.name_race.proofs.Steps.{begins}
use Rattle.name_race.proofs.NameRace.begin.Goals as goal

pub of_words-requires : goal.of_words-requires
of_words-requires c = rw c.as_slice.ensures.value (begins _)
