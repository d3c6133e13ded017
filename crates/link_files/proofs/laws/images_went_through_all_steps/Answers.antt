use Rattle.link_files.proofs.InsideLemmas.{went_through}
use Rattle.link_files.proofs.laws.images_went_through_all_steps.Goals as goal

pub returns : goal.returns
returns c = went_through
