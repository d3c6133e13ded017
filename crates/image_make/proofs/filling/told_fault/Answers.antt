use Rattle.std.specs.List.Sorted.{IsStrictlySortedBy}
use Rattle.image_make.proofs.filling.told_fault.Goals as goal

pub fill_laid-requires-clause-words : goal.fill_laid-requires-clause-words
unfolding IsStrictlySortedBy
fill_laid-requires-clause-words g c κs within = tt

pub returns : goal.returns
returns g c = (c.in_ok-_image._image, c.in_ok-_image.ensures.placed)
