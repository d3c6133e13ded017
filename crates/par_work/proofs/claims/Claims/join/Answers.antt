use Rattle.std.proofs.Common.{◌<◌, ◌∙◌, ℕ, ap, sym, subst, arith}
use Rattle.par_work.specs.Drawn.{Counter, Holding}
use Rattle.par_work.proofs.Steps.{joins}
use Rattle.par_work.proofs.claims.Claims.join.Goals as goal

pub join_seat-requires : goal.join_seat-requires
join_seat-requires c = (
  ap (λ (h : Holding). h.claims) c.drawer.view_is ∙ (c.requires.drawer ∙ sym (ap (λ (k : Counter). k.id) c.self.view_is)),
  ap (λ (h : Holding). h.claims) c.other.view_is ∙ (c.requires.other ∙ sym (ap (λ (k : Counter). k.id) c.self.view_is)),
  c.other.invariant,
  subst (λ (n : ℕ). 0 < n) (sym c.self.invariant.1) (omega arith),
  joins c.self.inside.table.shared.key c.drawer.inside.seat.id c.other.inside.seat.id c.drawer.inside.seat.me.0 c.other.inside.seat.me.0,
)
