use Rattle.std.proofs.Common.{◌≡◌, ℕ, ◌+◌, ◌<◌, List, [], ◌∷◌, ◌++◌, length, get_or, Option, Some, None, sym, ◌∙◌}
use Rattle.std.proofs.lemmas.List.{get_or_default}
use Rattle.sym_out.specs.Map.{row_of}
use Rattle.sym_out.proofs.Loops.{IsChoosing, choosing_adds, choosing_ends_new, choosing_passes}
use Rattle.sym_out.proofs.map.rows_of.Goals as goal
use Rattle.sym_out.proofs.map.rows_of.Goals.{in-Some+in_ok-push, in_default}

adds : {X Y : Type 0} (f : X → Option Y) (xs : List X) (old : List Y) (at : ℕ) (now new : List Y) (d : X) (y : Y) → IsChoosing f xs old at now → at < length xs → f (get_or xs at d) ≡ Some y → new ≡ now ++ y ∷ [] → IsChoosing f xs old (at + 1) new
adds f xs old at now new d y choosing within some e =
    choosing_adds f xs old at now new (get_or xs at d) y choosing within (get_or_default xs at d (get_or xs at d) within) some e

passes : {X Y : Type 0} (f : X → Option Y) (xs : List X) (old : List Y) (at : ℕ) (now : List Y) (d : X) → IsChoosing f xs old at now → at < length xs → f (get_or xs at d) ≡ None → IsChoosing f xs old (at + 1) now
passes f xs old at now d choosing within none =
    choosing_passes f xs old at now (get_or xs at d) choosing within (get_or_default xs at d (get_or xs at d) within) none

pub loop-atom-preserved : goal.loop-atom-preserved
loop-atom-preserved c = elim c.match-row_of.branch [
  | in-Some+in_ok-push w ↦
      rw w.rows-is (λ symbols are. adds (row_of c.args.placed.now symbols) c.args.atoms.now [] c.loop-atom.atom-index c.loop-atom.rows.items w.push.new.self.items _ w.in-Some.row (c.loop-atom.invariant symbols are) c.loop-atom-test.true (sym (c.row_of.ensures symbols are) ∙ w.in-Some.is) w.in_ok-push.ensures.items)
  | in_default w ↦
      rw w.rows-is (λ symbols are. passes (row_of c.args.placed.now symbols) c.args.atoms.now [] c.loop-atom.atom-index c.loop-atom.rows.items _ (c.loop-atom.invariant symbols are) c.loop-atom-test.true (sym (c.row_of.ensures symbols are) ∙ w.in_default.is))
]

pub returns : goal.returns
returns c = λ symbols are. choosing_ends_new (row_of c.args.placed.now symbols) c.args.atoms.now c.loop-atom.atom-index c.loop-atom.rows.items (c.loop-atom.invariant symbols are) c.loop-atom-test.false
