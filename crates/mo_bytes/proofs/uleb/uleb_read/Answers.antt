use Rattle.std.proofs.Common.{arith}
use Rattle.std.proofs.lemmas.List.{take_rest}
use Rattle.mo_bytes.proofs.Ulebs.{found_is, none_is, past_is, none_stands}
use Rattle.mo_bytes.proofs.uleb.uleb_read.Goals as goal

pub returns-then-at-bytes-clause-exact : goal.returns-then-at-bytes-clause-exact
returns-then-at-bytes-clause-exact c = past_is _ _ (omega arith)

pub returns-then-at-bytes-clause-none : goal.returns-then-at-bytes-clause-none
returns-then-at-bytes-clause-none c = λ n next small near h. none_stands _ _ _ _ (past_is c.args.bytes.now c.args.at (omega arith)) small near h

pub returns-in_err-value-clause-exact : goal.returns-in_err-value-clause-exact
returns-in_err-value-clause-exact c = rw c.from_residual.ensures (none_is _ _ c.args.at (take_rest c.args.bytes.now c.args.at) c.in_err-value.ensures)

pub returns-in_err-value-clause-none : goal.returns-in_err-value-clause-none
returns-in_err-value-clause-none c =
    rw c.from_residual.ensures
    (λ n next small near h. none_stands _ _ _ _ (none_is _ _ c.args.at (take_rest c.args.bytes.now c.args.at) c.in_err-value.ensures) small near h)

pub overflow_add-result : goal.overflow_add-result
overflow_add-result c =
    let found = found_is _ _ c.args.at _ _ (λ i. omega (arith, c.type_inv.bytes i)) c.if-at-bytes.false (take_rest c.args.bytes.now c.args.at) c.in_ok-value.ensures in
    omega (arith, found.within)

pub returns-clause-exact : goal.returns-clause-exact
returns-clause-exact c =
    (found_is _ _ c.args.at _ _ (λ i. omega (arith, c.type_inv.bytes i)) c.if-at-bytes.false (take_rest c.args.bytes.now c.args.at) c.in_ok-value.ensures).exact

pub returns-clause-spelled : goal.returns-clause-spelled
returns-clause-spelled c =
    (found_is _ _ c.args.at _ _ (λ i. omega (arith, c.type_inv.bytes i)) c.if-at-bytes.false (take_rest c.args.bytes.now c.args.at) c.in_ok-value.ensures).spelled

pub returns-clause-within : goal.returns-clause-within
returns-clause-within c =
    let found = found_is _ _ c.args.at _ _ (λ i. omega (arith, c.type_inv.bytes i)) c.if-at-bytes.false (take_rest c.args.bytes.now c.args.at) c.in_ok-value.ensures in
    (omega (arith, found.some), omega (arith, found.few), found.within)
