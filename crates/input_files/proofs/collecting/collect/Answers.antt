use Rattle.std.proofs.Common.{◌∷◌, ap, ◌∙◌}
use Rattle.std.proofs.lemmas.Result.{err_from_is_err_and}
use Rattle.input_files.proofs.CollectedLemmas.{collect_fails}
use Rattle.input_files.proofs.collecting.collect.Goals as goal

pub returns-in_err-item : goal.returns-in_err-item
returns-in_err-item g c = let p = err_from_is_err_and c.from_residual.result c.from_residual.ensures.1 in rw (p.1, p.2) λ real. collect_fails c.args.before c.loop-piece.all c.args.pieces.items c.loop-piece.yielded c.loop-piece.piece-iterator.rest.items c.next.new.self.rest.items c.in_err-item.field-0.0 c.loop-piece.invariant (c.in-Some.ensures.steps.0 ∙ ap (λ piece. piece ∷ c.next.new.self.rest.items) c.in_err-item.was)
