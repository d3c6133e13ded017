use Rattle.field_laws.proofs.Rebases.{in_range, rebase_short}
use Rattle.field_laws.proofs.laws.rebases_have_36_bits.Goals as goal

pub returns-clause-offsets : goal.returns-clause-offsets
returns-clause-offsets c = rebase_short

pub returns-clause-range : goal.returns-clause-range
returns-clause-range c = in_range
