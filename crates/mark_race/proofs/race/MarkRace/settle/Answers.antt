use Rattle.std.proofs.Common.{◌≡◌, ◌<◌, ◌∙◌, ℕ, Bool, List, length, ap, ap₂, subst, sym}
use Rattle.std.specs.Prelude.{◌==◌}
use Rattle.mark_race.specs.Marks.{AreGains, Race, Holding, is_marked}
use Rattle.mark_race.specs.Rule.{bit_of}
use Rattle.mark_race.proofs.Races.{all_passes}
use Rattle.mark_race.proofs.Steps.{settles, settles_gains}
use Rattle.mark_race.proofs.race.MarkRace.settle.Goals as goal

pub returns-clause-marked : goal.returns-clause-marked
returns-clause-marked c atom low =
    let end = c.close_with-closed.ensures.values.2 in
    let terms = c.self.inside.table.shared.key in
    let me = c.marker.inside.seat.me.0 in
    let start : terms.start.items ≡ c.args.self.start = ap (λ (r : Race). r.start) c.self.view_is in
    let marks : me.marks ≡ c.args.marker.marks = ap (λ (h : Holding). h.marks) c.marker.view_is in
    let all : me.passes ≡ terms.passes = all_passes _ me c.args.marker terms.passes c.args.self c.marker.view_is c.requires.passes (ap (λ (r : Race). r.passes) c.self.view_is) in
    let near : atom < length terms.start.items = subst (λ (l : List Bool). atom < length l) (sym start) low in
    c.unpack.ensures.bits atom (subst (λ (n : ℕ). atom < n) (sym c.requires.places) low)
    ∙ (ap (λ (ws : List ℕ). bit_of ws atom == 1) (sym end.2)
    ∙ (settles terms c.marker.inside.seat.id me end.0 end.1.0 end.1.1 all atom near ∙ ap₂ (λ (s : List Bool) (m : List ℕ). is_marked s m atom) start marks))

pub returns-clause-gains : goal.returns-clause-gains
returns-clause-gains c =
    let end = c.close_with-closed.ensures.values.2 in
    let terms = c.self.inside.table.shared.key in
    let me = c.marker.inside.seat.me.0 in
    let start : terms.start.items ≡ c.args.self.start = ap (λ (r : Race). r.start) c.self.view_is in
    let marks : me.marks ≡ c.args.marker.marks = ap (λ (h : Holding). h.marks) c.marker.view_is in
    let gains : me.gains ≡ c.args.marker.gains = ap (λ (h : Holding). h.gains) c.marker.view_is in
    let all : me.passes ≡ terms.passes = all_passes _ me c.args.marker terms.passes c.args.self c.marker.view_is c.requires.passes (ap (λ (r : Race). r.passes) c.self.view_is) in
    subst (λ (g : List ℕ). AreGains c.args.self.start c.args.marker.marks g) gains
    (subst (λ (m : List ℕ). AreGains c.args.self.start m me.gains) marks (subst (λ (s : List Bool). AreGains s me.marks me.gains) start (settles_gains terms c.marker.inside.seat.id me end.0 end.1.0 end.1.1 all)))
