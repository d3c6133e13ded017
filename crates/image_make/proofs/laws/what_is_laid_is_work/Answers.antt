use Rattle.std.proofs.Common.{[], arith}
use Rattle.image_make.proofs.FieldLemmas.{are_work}
use Rattle.image_make.proofs.RoomLemmas.{blank_long}
use Rattle.image_make.proofs.laws.what_is_laid_is_work.Goals as goal

pub returns-clause-told : goal.returns-clause-told
returns-clause-told c = λ m layout whole rising low laid. are_work m layout [] _ whole.files rising low laid (omega arith)

pub returns-clause-chained : goal.returns-clause-chained
returns-clause-chained c = λ m layout fixups chains whole rising low laid chained.
    are_work m layout chains.words _ whole.files rising low laid (let long = blank_long m layout fixups chains in omega (arith, long))
