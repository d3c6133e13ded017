use Rattle.sect_place.proofs.Larger.{nothing_down}
use Rattle.sect_place.proofs.laws.more_islands_move_nothing_down.Goals as goal

pub returns : goal.returns
returns c = λ kept sections slots few more sizes command ordered behind behind_more rises rises_more among key low high h k.
    nothing_down kept sections slots few more sizes command ordered behind behind_more rises rises_more among key low high h k
