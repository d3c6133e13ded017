use Rattle.link_engine.proofs.LoadedLemmas.{named_unwinds}
use Rattle.link_engine.proofs.files.load_rounds.Goals as goal

pub returns-clause-unwinds : goal.returns-clause-unwinds
returns-clause-unwinds g c =
    named_unwinds _ c.args.inputs.inputs c.args.libs.now c.in_ok-wanted.wanted c.load.result c.map_err.result c.load.ensures.files c.map_err.ensures.cases c.map_err.ensures.variant
