use Rattle.std.proofs.Common.{◌∙◌}
use Rattle.std.proofs.lemmas.List.{get_or_default}
use Rattle.fixup_chain.proofs.PoolLemmas.{pooling_goes_on}
use Rattle.fixup_chain.proofs.pool.pool_of.Goals as goal

pub loop-at-preserved : goal.loop-at-preserved
loop-at-preserved c =
    pooling_goes_on c.args.imports.now c.loop-at.at c.loop-at.rows.items _ c.loop-at.pool.items c.put_name.new.out.items c.index-imports-at.result _
    c.loop-at.invariant c.loop-at-test.true
    (c.index-imports-at.is ∙ get_or_default c.args.imports.now c.loop-at.at _ _ c.loop-at-test.true)
    (rw (c.row.ensures, c.as_slice.ensures.value) at c.in_ok-push-2.ensures.items) c.import_at.ensures c.in_ok-put_name.ensures
