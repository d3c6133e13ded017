use Rattle.image_read.proofs.ExampleLemmas.{pointer, pointer_to_header}
use Rattle.image_read.proofs.laws.fields_tell_their_goals.Goals as goal

pub returns-clause-pointer : goal.returns-clause-pointer
returns-clause-pointer c = pointer

pub returns-clause-pointer_to_header : goal.returns-clause-pointer_to_header
returns-clause-pointer_to_header c = pointer_to_header
