-- What was found of the targets of branches before they are counted.
use Rattle.std.proofs.Common.{◌≡◌, ℕ, ◌+◌, ◌^◌, ◌<◌, ◌≤◌, List, [], ◌∷◌, ◌++◌, length, get_or, map, take, All, pos, sym, ap, ap₂, subst, ◌∙◌, arith, refl}
use Rattle.std.specs.List.Sorted.{IsStrictlySortedBy}
use Rattle.std.proofs.lemmas.List.Elements.{All-push}
use Rattle.std.proofs.lemmas.List.{get_or-map, length-map, map-append, take_more}
use Rattle.mo_types.specs.declared.key.AtomKey.{AtomKey}
use Rattle.sect_place.specs.declared.island.BranchTarget.{BranchTarget}
use Rattle.sect_place.specs.declared.layout.Layout.{Layout}
use Rattle.island_core.specs.declared.row.Row.{Row}
use Rattle.islands.specs.declared.branch.Branch.{Branch}
use Rattle.islands.specs.declared.row.Goes.{Goes}
use Rattle.islands.specs.declared.row.Stand.{Stand}
use Rattle.islands.specs.declared.spot.Spot.{Spot}
use Rattle.islands.specs.declared.target.Aim.{Aim}
use Rattle.islands.specs.Rows.{case_of, is_plain, raised, row_of, rows_of, spot_of}
use Rattle.islands.specs.Targets.{compare_targets, number_of}
use Rattle.islands.specs.inner.Bounds.{IsNear, IsNearSpot}
use Rattle.islands.specs.inner.Held.{aim_of, target_of}
use Rattle.islands.specs.inner.Known.{IsStand, spot_of_aim}
use Rattle.islands.proofs.Keyed.{number_at}

pub known_number : (aims : List Aim) (at : ℕ) (target : BranchTarget) → IsStrictlySortedBy compare_targets (map target_of aims) → at < length aims → get_or aims at (aim_of target) ≡ aim_of target → at ≡ number_of (map target_of aims) target
known_number aims at target rises within is =
    sym (number_at (map target_of aims) at target rises (omega (arith, within, length-map aims target_of)) (get_or-map target_of aims at (aim_of target) target within ∙ ap target_of is))

pub known_spot : (layout : Layout) (lasts : List AtomKey) (aims : List Aim) (spots : List Spot) (at : ℕ) (target : BranchTarget) (d : Spot) → spots ≡ map (spot_of_aim layout lasts) aims → at < length aims → get_or aims at (aim_of target) ≡ aim_of target → get_or spots at d ≡ spot_of layout lasts target
unfolding spot_of
known_spot layout lasts aims spots at target d are within is =
    ap (λ (xs : List Spot). get_or xs at d) are ∙ (get_or-map (spot_of_aim layout lasts) aims at (aim_of target) d within ∙ ap (spot_of_aim layout lasts) is)

pub row_known : (layout : Layout) (lasts : List AtomKey) (targets : List BranchTarget) (branch : Branch) (stand : Stand) (goes : Goes) → IsStand layout lasts branch.atom stand → goes.number ≡ number_of targets branch.target → goes.spot ≡ spot_of layout lasts branch.target
    → (let row : Row = record { case = case_of stand.inside goes.spot.inside (is_plain branch.target.addend); pair = record { group = stand.group; target = goes.number }; from = raised (stand.place + branch.place) (pos 0); to = raised goes.spot.place branch.target.addend; zone = goes.spot.zone } in row) ≡ row_of layout lasts targets branch
unfolding row_of
row_known layout lasts targets branch stand goes is number spot = rw (is.inside, is.group, is.place, number, spot) refl

pub rows_more : (layout : Layout) (lasts : List AtomKey) (targets : List BranchTarget) (branches : List Branch) (i : ℕ) (branch : Branch) (rows new : List Row) (row : Row) → rows ≡ rows_of layout lasts targets (take i branches) → i < length branches → branch ≡ get_or branches i branch → row ≡ row_of layout lasts targets branch → new ≡ rows ++ row ∷ [] → new ≡ rows_of layout lasts targets (take (i + 1) branches)
rows_more layout lasts targets branches i branch rows new row so within is one grown =
    grown
    ∙ (ap₂ (λ (xs : List Row) (r : Row). xs ++ r ∷ []) so one
    ∙ (sym (map-append (row_of layout lasts targets) (take i branches) (branch ∷ []))
    ∙ ap (rows_of layout lasts targets) (sym (take_more branches i branch within ∙ ap (λ (b : Branch). take i branches ++ b ∷ []) (sym is)))))

pub near_more : (groups : ℕ) (rows new : List Row) (row : Row) → All (IsNear groups) rows → IsNear groups row → new ≡ rows ++ row ∷ [] → All (IsNear groups) new
near_more groups rows new row near one grown = subst (λ (xs : List Row). All (IsNear groups) xs) (sym grown) (All-push (IsNear groups) rows row near one)

pub row_near : (groups : ℕ) (stand : Stand) (goes : Goes) (branch : Branch) (row : Row) → (let r : Row = record { case = case_of stand.inside goes.spot.inside (is_plain branch.target.addend); pair = record { group = stand.group; target = goes.number }; from = raised (stand.place + branch.place) (pos 0); to = raised goes.spot.place branch.target.addend; zone = goes.spot.zone } in row ≡ r) → stand.group ≤ groups → IsNearSpot groups goes.spot → row.from < 2 ^ 66 → row.to < 2 ^ 66 → IsNear groups row
row_near groups stand goes branch row e low near from to = record {
  group = omega (arith, ap (λ (r : Row). r.pair.group) e, low);
  zone = omega (arith, ap (λ (r : Row). r.zone) e, near.zone);
  from = from;
  to = to;
}

pub own_stand : (layout : Layout) (lasts : List AtomKey) (key : AtomKey) (stand : Stand) → IsStand layout lasts key stand → IsStand layout lasts stand.key stand
own_stand layout lasts key stand is = subst (λ (k : AtomKey). IsStand layout lasts k stand) (sym is.of_key) is
