-- The law is that of the lemmas.
use Rattle.link_engine.proofs.FetchedLemmas.{map_bytes}
use Rattle.loader_laws.proofs.Fetched.{planned_named, planned_whole}
use Rattle.loader_laws.proofs.links.what_is_planned_is_of_whole_objects.Goals as goal

pub returns-clause-whole : goal.returns-clause-whole
returns-clause-whole c = planned_whole

pub returns-clause-named : goal.returns-clause-named
returns-clause-named c = planned_named

pub returns-clause-told : goal.returns-clause-told
returns-clause-told c = map_bytes
