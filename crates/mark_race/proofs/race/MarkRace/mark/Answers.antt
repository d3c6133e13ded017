use Rattle.std.proofs.Common.{◌≡◌, ◌<◌, ◌%◌, ◌/◌, ◌∙◌, ℕ, Bool, [], ◌∷◌, cond, length, ap, subst, sym, refl, arith}
use Rattle.std.proofs.lemmas.Nat.{one_shl}
use Rattle.std.specs.Int.{bit_at}
use Rattle.std.proofs.lemmas.Bool.{eqb-true}
use Rattle.atomic_table.specs.Table.{Me}
use Rattle.mark_race.specs.Marks.{Race}
use Rattle.mark_race.specs.declared.rule.View.{View}
use Rattle.mark_race.proofs.Words.{bit_found}
use Rattle.mark_race.proofs.Races.{same_race, has_atom, new_mark, marked_view}
use Rattle.mark_race.proofs.Steps.{marks_at}
use Rattle.mark_race.proofs.race.MarkRace.mark.Goals as goal

pub fetch_or-found-requires : goal.fetch_or-found-requires
fetch_or-found-requires c =
    let near : c.args.atom < length c.self.inside.table.shared.key.start.items = has_atom _ _ _ c.self.view_is c.requires.atom in
    let low : c.args.atom % 64 < 64 = omega arith in (
      ap (λ (r : Race). r.id) (same_race _ _ _ _ c.marker.view_is c.self.view_is c.requires.marker),
      subst (λ (n : ℕ). c.args.atom / 64 < n) (sym c.self.invariant.1) (omega arith),
      marks_at c.self.inside.table.shared.key c.self.inside.table.shared.table_id.slots c.marker.inside.seat.id c.args.atom c.marker.inside.seat.me c.marker.invariant.0 c.marker.invariant.1 near _ (one_shl (c.args.atom % 64) 64 low),
    )

pub returns-clause-new : goal.returns-clause-new
returns-clause-new c is_new =
    let low : c.args.atom % 64 < 64 = omega arith in
    let zero' : bit_at c.fetch_or-found.result (c.args.atom % 64) ≡ 0 = eqb-true _ _ (sym (bit_found c.fetch_or-found.result (c.args.atom % 64) low) ∙ is_new) in
    let told = (c.fetch_or-found.ensures.2 c.args.atom refl (one_shl (c.args.atom % 64) 64 low)).0 zero' in
    new_mark c.args.atom _ c.marker.inside.seat.me.0 _ c.args.self.now c.marker.view_is c.requires.marker told

pub returns-clause-marker : goal.returns-clause-marker
returns-clause-marker c =
    let low : c.args.atom % 64 < 64 = omega arith in
    let after = (c.fetch_or-found.ensures.2 c.args.atom refl (one_shl (c.args.atom % 64) 64 low)).1 in
    marked_view _ _ c.fetch_or-found.new.seat.me.0 c.marker.inside.seat.me.0 _ c.args.atom c.fetch_or-found.result _ c.fetch_or-found.ensures.0 (ap (λ (m : Me (Unit {0}) View). m.0) after) c.marker.view_is
    (ap (λ (b : Bool). cond b (c.args.atom ∷ []) []) (bit_found c.fetch_or-found.result (c.args.atom % 64) low))
