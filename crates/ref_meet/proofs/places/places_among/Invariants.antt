use Rattle.ref_meet.specs.Ready.{scene_of}
use Rattle.ref_meet.proofs.ToldLemmas.{AreToldTo}
use Rattle.ref_meet.proofs.places.places_among.Given as goal

abbrev pub invariant-loop-goal : goal.invariant-loop-goal
invariant-loop-goal l = AreToldTo (scene_of l.scene) l.goals l.goal-index l.places.items
