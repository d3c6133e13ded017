use Rattle.mark_race.proofs.race.MarkRace.split.Given as goal

abbrev pub ghosts-split_as : goal.ghosts-split_as
ghosts-split_as a = record { count = a.passes }
