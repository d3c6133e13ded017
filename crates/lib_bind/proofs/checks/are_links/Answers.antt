use Rattle.lib_bind.proofs.CheckedLemmas.{all_lead, lead_next, led, led_by, not_led_by}
use Rattle.lib_bind.proofs.checks.are_links.Goals as goal

pub returns-then-not-are_below : goal.returns-then-not-are_below
returns-then-not-are_below c =
    not_led_by c.args.links.now c.args.documents c.loop-targets.targets-index c.are_below.result c.if-not-are_below.true
    (led_by c.args.links.now c.args.documents c.loop-targets.targets-index c.targets-item.result c.as_slice.result.now c.are_below.result c.loop-targets-test.true c.targets-item.is c.as_slice.ensures c.are_below.ensures)

pub loop-targets-preserved : goal.loop-targets-preserved
loop-targets-preserved c =
    lead_next c.args.links.now c.args.documents c.loop-targets.targets-index c.loop-targets.invariant
    (led c.args.links.now c.args.documents c.loop-targets.targets-index c.are_below.result c.if-not-are_below.false
    (led_by c.args.links.now c.args.documents c.loop-targets.targets-index c.targets-item.result c.as_slice.result.now c.are_below.result c.loop-targets-test.true c.targets-item.is c.as_slice.ensures c.are_below.ensures))

pub returns : goal.returns
returns c = all_lead c.args.links.now c.args.documents c.loop-targets.targets-index c.if-links-documents.false c.loop-targets.invariant c.loop-targets-test.false
