use Rattle.std.proofs.Common.{◌^◌, Bool, ap, sym, ◌∙◌, if◌then◌else◌, arith}
use Rattle.std.proofs.lemmas.Bool.{le-ltb, lt-ltb}
use Rattle.fixup_chain.proofs.OffsetLemmas.{room_is}
use Rattle.fixup_chain.proofs.words.room_for.Goals as goal

pub returns-then-held-clause-value : goal.returns-then-held-clause-value
returns-then-held-clause-value c = λ target e.
    ap (λ (b : Bool). if b then c.args.held else 0) (sym (lt-ltb c.args.held (2 ^ 36) (omega arith))) ∙ room_is target c.args.held e

pub returns-else-held-clause-value : goal.returns-else-held-clause-value
returns-else-held-clause-value c = λ target e.
    ap (λ (b : Bool). if b then c.args.held else 0) (sym (le-ltb c.args.held (2 ^ 36) (omega arith))) ∙ room_is target c.args.held e
