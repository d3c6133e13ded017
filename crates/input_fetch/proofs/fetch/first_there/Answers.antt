use Rattle.std.proofs.Common.{◌<◌, length, arith}
use Rattle.input_fetch.proofs.AskLemmas.{known_as, none_there, then_absent, then_stopped, then_there, then_wanting, wanting}
use Rattle.input_fetch.proofs.fetch.first_there.Goals as goal

pub loop-path-init : goal.loop-path-init
loop-path-init g c = λ result new ran. ran

pub returns-in_err-bytes : goal.returns-in_err-bytes
returns-in_err-bytes g c =
    let within : c.loop-path.path-index < length c.args.paths.now = omega arith in
    then_stopped g.F.Files.answers c.args.paths.now c.loop-path.path-index c.path-item.result c.in_err-bytes.field-0.0 _ _ _ _ within c.path-item.is c.from_residual.ensures.1 c.loop-path.invariant c.in_err-bytes.ensures

pub returns-in_err-clone : goal.returns-in_err-clone
returns-in_err-clone g c =
    let within : c.loop-path.path-index < length c.args.paths.now = omega arith in
    then_wanting g.F.Files.answers c.args.paths.now c.loop-path.path-index c.path-item.result _ _ _ _ _ within c.path-item.is c.from_residual-in_err-clone.ensures.1 c.loop-path.invariant c.in_ok-bytes.ensures

pub returns-in-Some : goal.returns-in-Some
returns-in-Some g c =
    let within : c.loop-path.path-index < length c.args.paths.now = omega arith in
    then_there g.F.Files.answers c.args.paths.now c.loop-path.path-index c.path-item.result c.in_ok-clone.field-0 c.in-Some.bytes _ _ _ within c.path-item.is c.in_ok-clone.ensures.cases c.loop-path.invariant
    (known_as g.F.Files.answers c.path-item.result _ _ _ _ c.in-Some.is c.in_ok-bytes.ensures)

pub loop-path-preserved : goal.loop-path-preserved
loop-path-preserved g c =
    let within : c.loop-path.path-index < length c.args.paths.now = omega arith in
    then_absent g.F.Files.answers c.args.paths.now c.loop-path.path-index c.path-item.result _ _ _ within c.path-item.is c.loop-path.invariant
    (known_as g.F.Files.answers c.path-item.result _ _ _ _ c.in_default.is c.in_ok-bytes.ensures)

pub returns-in_err-first_path : goal.returns-in_err-first_path
returns-in_err-first_path g c = c.loop-path.invariant _ _ (wanting g.F.Files.answers _ _ _ c.from_residual-in_err-first_path.ensures.1)

pub returns : goal.returns
returns g c =
    none_there g.F.Files.answers c.args.paths.now c.loop-path.path-index c.in_ok-first_path.field-0 _ _ (omega arith) c.in_ok-first_path.ensures c.loop-path.invariant
