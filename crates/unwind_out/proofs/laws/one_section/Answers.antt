use Rattle.unwind_out.proofs.One.{section_one, section_there}
use Rattle.unwind_out.proofs.laws.one_section.Goals as goal

pub returns : goal.returns
returns c = record { is = section_there; alone = section_one }
