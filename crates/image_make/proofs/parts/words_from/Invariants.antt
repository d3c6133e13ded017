use Rattle.std.proofs.Common.{[]}
use Rattle.std.specs.List.{enumerate_from}
use Rattle.liveness.proofs.GrowLemmas.{IsGrowing}
use Rattle.image_make.specs.Parts.{slot_word}
use Rattle.image_make.proofs.parts.words_from.Given as goal

abbrev pub invariant-loop-number : goal.invariant-loop-number
invariant-loop-number l = IsGrowing (slot_word l.words l.start) [] l.bytes.items (enumerate_from 0 l.goals) l.number
