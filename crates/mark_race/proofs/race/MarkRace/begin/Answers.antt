use Rattle.mark_race.proofs.Steps.{begins}
use Rattle.mark_race.proofs.race.MarkRace.begin.Goals as goal

pub of_words-requires : goal.of_words-requires
of_words-requires c = rw c.as_slice.ensures.value (begins _ c.in_ok-words.words.items c.args.start.now c.in_ok-from_slice.ensures.items c.in_ok-words.ensures.long c.in_ok-words.ensures.bits)
