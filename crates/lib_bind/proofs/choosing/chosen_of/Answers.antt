use Rattle.std.proofs.Common.{◌≡◌, ◌∷◌, ◌+◌, sym, ap, ◌∙◌, length, List, arith}
use Rattle.std.proofs.lemmas.Bool.{ltb-true}
use Rattle.std.specs.Vec.Iter.{into_iter_items}
use Rattle.lib_bind.specs.Closing.{choose_all}
use Rattle.lib_bind.specs.declared.named.NamedStub.{NamedStub}
use Rattle.lib_bind.proofs.ChoosingLemmas.{choose_ends, choose_next, nothing_left}
use Rattle.lib_bind.proofs.ClosingLemmas.{named_first}
use Rattle.lib_bind.proofs.choosing.chosen_of.Goals as goal

pub choose-requires-clause-within : goal.choose-requires-clause-within
choose-requires-clause-within c =
    let at = c.loop-stub in
    let steps : into_iter_items at.stub-iterator ≡ c.in-Some.stub ∷ into_iter_items c.next.new.self = c.in-Some.ensures.steps.0 in
    let first = named_first _ at.invariant.named.0 _ _ c.in-Some.stub steps at.invariant.named.1 in
    ltb-true _ _ first.0

pub choose-requires-clause-some : goal.choose-requires-clause-some
choose-requires-clause-some c =
    let at = c.loop-stub in
    let steps : into_iter_items at.stub-iterator ≡ c.in-Some.stub ∷ into_iter_items c.next.new.self = c.in-Some.ensures.steps.0 in
    let first = named_first _ at.invariant.named.0 _ _ c.in-Some.stub steps at.invariant.named.1 in
    ltb-true _ _ first.1

pub choose-requires-clause-limit : goal.choose-requires-clause-limit
choose-requires-clause-limit c =
    let at = c.loop-stub in
    let steps : into_iter_items at.stub-iterator ≡ c.in-Some.stub ∷ into_iter_items c.next.new.self = c.in-Some.ensures.steps.0 in
    let first = named_first _ at.invariant.named.0 _ _ c.in-Some.stub steps at.invariant.named.1 in
    ltb-true _ _ first.2

pub choose-requires-clause-sum : goal.choose-requires-clause-sum
choose-requires-clause-sum c = c.loop-stub.invariant.sum

pub returns-in_err-chosen : goal.returns-in_err-chosen
returns-in_err-chosen c =
    let at = c.loop-stub in
    let steps : into_iter_items at.stub-iterator ≡ c.in-Some.stub ∷ into_iter_items c.next.new.self = c.in-Some.ensures.steps.0 in
    choose_ends c.args.command.now c.in-Some.stub _ at.chosen c.in_err-chosen.field-0.0 _ _ (ap (λ (named : List NamedStub). choose_all c.args.command.now named at.chosen) (sym steps) ∙ at.invariant.same)
    c.in_err-chosen.ensures.exact c.from_residual.ensures.1

pub loop-stub-preserved : goal.loop-stub-preserved
loop-stub-preserved c =
    let at = c.loop-stub in
    let steps : into_iter_items at.stub-iterator ≡ c.in-Some.stub ∷ into_iter_items c.next.new.self = c.in-Some.ensures.steps.0 in
    let first = named_first _ at.invariant.named.0 _ _ c.in-Some.stub steps at.invariant.named.1 in
    record {
      same = choose_next c.args.command.now c.in-Some.stub _ at.chosen _ _ (ap (λ (named : List NamedStub). choose_all c.args.command.now named at.chosen) (sym steps) ∙ at.invariant.same) c.in_ok-chosen.ensures.exact;
      named = (c.in-Some.stub.position + 1, first.3);
      sum = c.in_ok-chosen.ensures.sum;
      count = let was = at.invariant.count in let gone = c.in-Some.ensures.steps.1 in let short = ap length steps in omega arith;
    }

pub returns : goal.returns
returns c =
    let at = c.loop-stub in
    let empty = nothing_left (into_iter_items at.stub-iterator) (sym at.invariant.count ∙ c.in-None.ensures.steps.0) in
    sym at.invariant.same ∙ ap (λ (named : List NamedStub). choose_all c.args.command.now named at.chosen) empty
