use Rattle.std.proofs.Common.{◌<◌, ◌∙◌, ℕ, ap, sym, subst, arith}
use Rattle.par_work.specs.Drawn.{Counter, Holding}
use Rattle.par_work.proofs.Steps.{draws_at}
use Rattle.par_work.proofs.claims.Claims.draw.Goals as goal

pub fetch_add-requires : goal.fetch_add-requires
fetch_add-requires c =
    let some_passes : 0 < c.drawer.inside.seat.me.0.passes = subst (λ (h : Holding). 0 < h.passes) (sym c.drawer.view_is) c.requires.pass in (
      ap (λ (h : Holding). h.claims) c.drawer.view_is ∙ (c.requires.drawer ∙ sym (ap (λ (k : Counter). k.id) c.self.view_is)),
      subst (λ (n : ℕ). 0 < n) (sym c.self.invariant.1) (omega arith),
      draws_at c.self.inside.table.shared.key c.self.inside.table.shared.table_id.slots c.drawer.inside.seat.id c.drawer.inside.seat.me c.drawer.invariant c.self.invariant.2 some_passes,
    )
