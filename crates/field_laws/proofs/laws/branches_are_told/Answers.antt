use Rattle.field_laws.proofs.Stubs.{stub_told, way_told}
use Rattle.field_laws.proofs.laws.branches_are_told.Goals as goal

pub returns-clause-stubs : goal.returns-clause-stubs
returns-clause-stubs c = stub_told

pub returns-clause-ways : goal.returns-clause-ways
returns-clause-ways c = way_told
