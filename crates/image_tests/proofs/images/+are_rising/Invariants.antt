use Rattle.std.proofs.Common.{length}
use Rattle.image_tests.proofs.images.+are_rising.Given as goal

abbrev pub decreases-are_rising : goal.decreases-are_rising
decreases-are_rising l = length l.parts.now
