use Rattle.std.proofs.Common.{length, sym, subst}
use Rattle.std.specs.List.{All}
use Rattle.std.proofs.lemmas.List.{take_rest}
use Rattle.std.proofs.lemmas.List.Elements.{All-push}
use Rattle.unwind_out.specs.Held.{IsHeld}
use Rattle.unwind_out.proofs.Cutting.{cutting_goes_on}
use Rattle.unwind_out.proofs.cut.pages.Goals as goal

pub loop-rest-preserved : goal.loop-rest-preserved
loop-rest-preserved c = record {
  cutting = cutting_goes_on c.args.rows.now c.loop-rest.rest.now _ c.loop-rest.pages.items c.push.new.self.items c.in_ok-page.page c.loop-rest.invariant.cutting c.in_ok-page.ensures.first
      (take_rest c.loop-rest.rest.now (length c.in_ok-page.page.rows.now)) c.in_ok-push.ensures.items;
  held = subst (All IsHeld) (sym c.in_ok-push.ensures.items) (All-push IsHeld c.loop-rest.pages.items c.in_ok-page.page c.loop-rest.invariant.held c.in_ok-page.ensures.held);
}
