use Rattle.unwind_out.proofs.Firsts.{encodings_are, encodings_one}
use Rattle.unwind_out.proofs.laws.encodings_by_first_use.Goals as goal

pub returns : goal.returns
returns c = record { is = encodings_are; alone = encodings_one }
