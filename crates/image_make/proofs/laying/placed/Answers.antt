use Rattle.image_make.specs.Inputs.{inputs_of}
use Rattle.image_make.proofs.KeptListLemmas.{rising_atoms}
use Rattle.image_make.proofs.LaidLemmas.{low_atoms, placed_large, placed_with}
use Rattle.image_make.proofs.laying.placed.Goals as goal

pub place-requires-clause-rising : goal.place-requires-clause-rising
place-requires-clause-rising c = rw (c.atoms.ensures, c.requires.kept_are) (rising_atoms _ c.requires.rising)

pub place-requires-clause-atoms : goal.place-requires-clause-atoms
place-requires-clause-atoms c = rw (c.atoms.ensures, c.requires.kept_are) (low_atoms _ c.requires.low)

pub returns-in-Ok-clause-placed : goal.returns-in-Ok-clause-placed
returns-in-Ok-clause-placed c =
    placed_with (inputs_of c.args.inputs.now) c.args.kept.now c.args.unwind _ c.args.sections.now _ c.in-Ok.layout c.atoms.ensures c.requires.kept_are c.requires.sections_are c.other_size.ensures.size
    (record { segments = c.in-Ok.ensures.segments; sections = c.in-Ok.ensures.sections; places = c.in-Ok.ensures.places; order = c.in-Ok.ensures.order }) c.in-Ok.ensures.size

pub returns-in-Err-clause-fault : goal.returns-in-Err-clause-fault
returns-in-Err-clause-fault c =
    placed_large (inputs_of c.args.inputs.now) c.args.kept.now c.args.unwind _ c.args.sections.now _ c.in-Err.fault c.atoms.ensures c.requires.kept_are c.requires.sections_are c.other_size.ensures.size c.in-Err.ensures.size
