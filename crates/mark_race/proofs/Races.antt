-- A marker of a race, as the fields of both show it.
use Rattle.std.proofs.Common.{◌≡◌, ℕ, ◌<◌, Bool, false, List, [], ◌∷◌, ◌++◌, length, sym, ◌∙◌, ap, ap₂, subst}
use Rattle.std.specs.Prelude.{◌||◌, nat_lt}
use Rattle.atomic_table.specs.Seated.{TableId}
use Rattle.mark_race.specs.Marks.{Race, Holding, at_start, is_marked, times}
use Rattle.mark_race.specs.Rule.{gain_of, with_mark}
use Rattle.mark_race.specs.declared.rule.View.{View}

-- a marker that is of this race in a contract is of it by its fields
pub same_race : (fields held : Holding) (race_fields race : Race) → fields ≡ held → race_fields ≡ race → held.race ≡ race → fields.race ≡ race_fields
same_race fields held race_fields race is race_is of = ap (λ (h : Holding). h.race) is ∙ (of ∙ sym race_is)

-- an atom of the race is one of its start
pub has_atom : (atom : ℕ) (race_fields race : Race) → race_fields ≡ race → atom < length race.start → atom < length race_fields.start
has_atom atom race_fields race is near = subst (λ (r : Race). atom < length r.start) (sym is) near

-- what contracts see of a marker, by its fields
abbrev pub view_of : TableId → View → Holding
view_of id v = record { race = record { id = id; start = v.start; passes = v.all_passes }; passes = v.passes; marks = v.marks; gains = v.gains }

-- what a mark of a new atom tells
pub new_mark : (atom : ℕ) (id : TableId) (v : View) (held : Holding) (race : Race) → view_of id v ≡ held → held.race ≡ race → (at_start v.start atom || nat_lt 0 (times atom v.marks)) ≡ false → is_marked race.start held.marks atom ≡ false
new_mark atom id v held race is of told =
    let start : v.start ≡ race.start = ap (λ (h : Holding). h.race.start) is ∙ ap (λ (r : Race). r.start) of in
    let marks : v.marks ≡ held.marks = ap (λ (h : Holding). h.marks) is in
    subst (λ (l : List ℕ). is_marked race.start l atom ≡ false) marks (subst (λ (l : List Bool). is_marked l v.marks atom ≡ false) start told)

-- a marker after a mark
pub marked_view : (id' id : TableId) (after before : View) (held : Holding) (atom found : ℕ) (gain : List ℕ) → id' ≡ id → after ≡ with_mark before atom found → view_of id before ≡ held → gain ≡ gain_of atom found → view_of id' after ≡ record held { marks = held.marks ++ atom ∷ []; gains = held.gains ++ gain }
marked_view id' id after before held atom found gain same is was got =
    ap₂ view_of same is
    ∙ (ap (λ (g : List ℕ). record (view_of id before) { marks = before.marks ++ atom ∷ []; gains = before.gains ++ g }) (sym got)
    ∙ ap (λ (h : Holding). record h { marks = h.marks ++ atom ∷ []; gains = h.gains ++ gain }) was)

-- what has all passes, by the fields
pub all_passes : (id : TableId) (v : View) (held : Holding) (passes : ℕ) (race : Race) → view_of id v ≡ held → held.passes ≡ race.passes → passes ≡ race.passes → v.passes ≡ passes
all_passes id v held passes race is all of = ap (λ (h : Holding). h.passes) is ∙ (all ∙ sym of)
