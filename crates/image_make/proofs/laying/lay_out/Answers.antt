use Rattle.image_make.specs.Inputs.{inputs_of}
use Rattle.image_make.proofs.LayLemmas.{onces, sections_ready, wholes}
use Rattle.image_make.proofs.laying.lay_out.Goals as goal

pub laid_without-requires-clause-ready : goal.laid_without-requires-clause-ready
laid_without-requires-clause-ready c =
    sections_ready (inputs_of c.args.inputs.now) c.args.kept.now c.atoms.result.now c.in_ok-sections.sections c.requires.whole c.requires.rising c.requires.low c.requires.frames c.requires.kept
    c.atoms.ensures c.in_ok-sections.ensures.exact c.in_ok-sections.ensures.low

pub returns-then-is_empty-clause-whole : goal.returns-then-is_empty-clause-whole
returns-then-is_empty-clause-whole c = wholes (inputs_of c.args.inputs.now) c.laid_without.result c.laid_without.ensures.laid

pub returns-then-is_empty-clause-once : goal.returns-then-is_empty-clause-once
returns-then-is_empty-clause-once c = onces (inputs_of c.args.inputs.now) c.laid_without.result c.requires.rising c.laid_without.ensures.laid

pub laid_with_info-requires-clause-ready : goal.laid_with_info-requires-clause-ready
laid_with_info-requires-clause-ready c =
    sections_ready (inputs_of c.args.inputs.now) c.args.kept.now c.atoms.result.now c.in_ok-sections.sections c.requires.whole c.requires.rising c.requires.low c.requires.frames c.requires.kept
    c.atoms.ensures c.in_ok-sections.ensures.exact c.in_ok-sections.ensures.low

pub returns-clause-whole : goal.returns-clause-whole
returns-clause-whole c = wholes (inputs_of c.args.inputs.now) c.laid_with_info.result c.laid_with_info.ensures.laid

pub returns-clause-once : goal.returns-clause-once
returns-clause-once c = onces (inputs_of c.args.inputs.now) c.laid_with_info.result c.requires.rising c.laid_with_info.ensures.laid
