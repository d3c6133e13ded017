use Rattle.unwind_link.proofs.UpLemmas.{plans_up}
use Rattle.unwind_link.proofs.laws.more_unwind_info_makes_no_image_smaller.Goals as goal

pub returns : goal.returns
returns c = plans_up
