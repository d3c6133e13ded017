use Rattle.std.proofs.Common.{◌||◌, Bool, refl, ap}
use Rattle.fixup_chain.proofs.UseLemmas.{ahead_goes_on, ahead_imports, ahead_large, ahead_offsets, ahead_places, ahead_starts}
use Rattle.fixup_chain.proofs.imports.collect.Goals as goal

pub loop-at-init : goal.loop-at-init
loop-at-init c = ahead_starts c.args.layout.now c.args.fixups.now _ c.args.held.now c.requires.none c.requires.long

pub loop-at-preserved : goal.loop-at-preserved
loop-at-preserved c =
    ahead_goes_on c.args.layout.now c.args.fixups.now c.loop-at.at _ c.loop-at.imports.keys c.hold.new.imports.keys c.loop-at.held c.ready_at-ready.new.held _ c.loop-at.large _ c.loop-at.ready c.ready_at-ready.result c.index-fixups-at.result c.in_ok-one.one
    c.loop-at.invariant c.loop-at-test.true c.index-fixups-at.is c.ready_at-ready.ensures.long c.ready_at-ready.ensures.before c.ready_at-ready.ensures.ready c.ready_at-ready.ensures.some
    c.in_ok-one.ensures.keys c.in_ok-one.ensures.place c.in_ok-one.ensures.offset refl
    (ap (λ (b : Bool). c.loop-at.large || b) c.is_large-large.ensures)

pub returns-clause-imports : goal.returns-clause-imports
returns-clause-imports c =
    ahead_imports c.args.layout.now c.args.fixups.now c.loop-at.at c.loop-at.imports.keys c.loop-at.held c.loop-at.large c.loop-at.ready c.loop-at.invariant c.loop-at-test.false

pub returns-clause-places : goal.returns-clause-places
returns-clause-places c =
    ahead_places c.args.layout.now c.args.fixups.now c.loop-at.at c.loop-at.imports.keys c.loop-at.held c.loop-at.large c.loop-at.ready c.loop-at.invariant c.loop-at-test.false

pub returns-clause-offsets : goal.returns-clause-offsets
returns-clause-offsets c =
    ahead_offsets c.args.layout.now c.args.fixups.now c.loop-at.at c.loop-at.imports.keys c.loop-at.held c.loop-at.large c.loop-at.ready c.loop-at.invariant c.loop-at-test.false

pub returns-clause-large : goal.returns-clause-large
returns-clause-large c =
    ahead_large c.args.layout.now c.args.fixups.now c.loop-at.at c.loop-at.imports.keys c.loop-at.held c.loop-at.large c.loop-at.ready c.loop-at.invariant c.loop-at-test.false
