use Rattle.std.proofs.Common.{◌<◌, ◌∙◌, ℕ, ap, sym, subst, arith}
use Rattle.par_work.specs.Drawn.{Counter, Holding}
use Rattle.par_work.proofs.Steps.{splits}
use Rattle.par_work.proofs.claims.split_as.Goals as goal

pub split_seat-requires : goal.split_seat-requires
split_seat-requires g c =
    let fewer : c.args.passes < c.drawer.inside.seat.me.0.passes = subst (λ (h : Holding). c.args.passes < h.passes) (sym c.drawer.view_is) c.requires.passes.1 in (
      ap (λ (h : Holding). h.claims) c.drawer.view_is ∙ (c.requires.drawer ∙ sym (ap (λ (k : Counter). k.id) c.claims.view_is)),
      subst (λ (n : ℕ). 0 < n) (sym c.claims.invariant.1) (omega arith),
      splits c.claims.inside.table.shared.key c.drawer.inside.seat.id g.J.Share.count c.drawer.inside.seat.me.0 (subst (λ (n : ℕ). n < c.drawer.inside.seat.me.0.passes) c.requires.count fewer),
    )
