-- The law is that of the lemmas.
use Rattle.image_laws.proofs.Stubbing.{stub_leads}
use Rattle.image_laws.proofs.laws.stubs_lead_to_their_goals.Goals as goal

pub returns : goal.returns
returns c = stub_leads
