use Rattle.resolve_tests.proofs.racing.word_of.Goals as goal

pub words_of-requires-clause-named : goal.words_of-requires-clause-named
words_of-requires-clause-named g c κs within = c.candidates_have_numbers.ensures.gathered _ _ _ c.in-Ok.ensures.names
