use Rattle.std.proofs.Common.{sym, ◌∙◌, arith}
use Rattle.input_read.proofs.OrderLemmas.{few_inputs, last_position}
use Rattle.input_read.proofs.opening_all.count_of.Goals as goal

pub prove-unreachable-requires : goal.prove-unreachable-requires
prove-unreachable-requires c = omega (arith, c.if-prove.true, c.from.ensures, last_position c.args.inputs.now c.index-inputs-inputs.result c.requires (sym c.if-is_empty.false ∙ c.is_empty.ensures))

pub overflow_cast-result : goal.overflow_cast-result
overflow_cast-result c = few_inputs c.args.inputs.now c.index-inputs-inputs.result c.requires (sym c.if-is_empty.false ∙ c.is_empty.ensures) c.index-inputs-inputs.element_fits
