use Rattle.std.proofs.Common.{rules, ap, ◌∙◌, Some}
use Rattle.std.proofs.lemmas.Fn.{always_returns_same}
use Rattle.std.specs.Ordering.{nat_cmp}
use Rattle.input_files.specs.declared.sources.Source.{Source}
use Rattle.input_files.proofs.SearchLemmas.{position_found, position_missing}
use Rattle.input_files.proofs.contents.source_at.Goals as goal

pub returns-in-Ok : goal.returns-in-Ok
returns-in-Ok c =
    ap Some c.index-sources-at.is ∙ position_found c.args.sources.now c.args.position c.in-Ok.at c.index-sources-at.result c.requires c.in-Ok.ensures.bound
    (c.in-Ok.ensures.position (λ (source : Source). nat_cmp source.input.position c.args.position) (always_returns_same _ _ _ (λ a r g called. search rules)))

pub returns-in-Err : goal.returns-in-Err
returns-in-Err c =
    position_missing c.args.sources.now c.args.position c.in-Err.field-0 c.requires
    (c.in-Err.ensures.position (λ (source : Source). nat_cmp source.input.position c.args.position) (always_returns_same _ _ _ (λ a r g called. search rules)))
