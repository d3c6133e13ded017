use Rattle.field_laws.proofs.Own.{own_told}
use Rattle.field_laws.proofs.laws.own_addresses_are_told.Goals as goal

pub returns : goal.returns
returns c = own_told
