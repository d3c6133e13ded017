use Rattle.std.proofs.Common.{◌<◌, ◌≤◌, length, arith, sym, ◌∙◌}
use Rattle.sym_out.specs.Symbols.{own_local}
use Rattle.sym_out.proofs.Filed.{nothing}
use Rattle.sym_out.proofs.Gathering.{own_adds, own_ends, own_passes, own_starts}
use Rattle.sym_out.proofs.locals.push_own.Goals as goal
use Rattle.sym_out.proofs.locals.push_own.Goals.{in-Some+in_ok-push, in_default}

pub loop-index-init : goal.loop-index-init
loop-index-init c = own_starts (own_local c.args.sites.now) c.args.locals.now.items c.args.file.now

pub loop-index-preserved : goal.loop-index-preserved
loop-index-preserved c =
    let low : c.loop-index.index < length c.args.file.now.object.symbols = omega arith in
    elim c.match-own.branch [
      | in-Some+in_ok-push w ↦
          rw w.locals-is (own_adds (own_local c.args.sites.now) c.args.locals.now.items c.loop-index.locals.items w.push.new.self.items c.args.file.now c.loop-index.index nothing w.in-Some.local low c.loop-index.invariant (sym (c.own_local-own.ensures nothing) ∙ w.in-Some.is) w.in_ok-push.ensures.items)
      | in_default w ↦
          rw w.locals-is (own_passes (own_local c.args.sites.now) c.args.locals.now.items c.loop-index.locals.items c.args.file.now c.loop-index.index nothing low c.loop-index.invariant (sym (c.own_local-own.ensures nothing) ∙ w.in_default.is))
    ]

pub returns : goal.returns
returns c =
    let past : length c.args.file.now.object.symbols ≤ c.loop-index.index = omega arith in
    own_ends (own_local c.args.sites.now) c.args.locals.now.items c.loop-index.locals.items c.args.file.now c.loop-index.index past c.loop-index.invariant
