-- The goals of the symbols of a row's file.
use Rattle.std.proofs.Common.{◌≡◌, ℕ, ◌+◌, ◌<◌, ◌^◌, ◌&&◌, All, Bool, true, false, List, [], map, refl, sym, ap, ◌∙◌, subst, Option, Some, None}
use Rattle.std.specs.Prelude.{IfSome, slice_get, unwrap_or}
use Rattle.std.specs.List.{filter_map, flat_map}
use Rattle.std.specs.Option.{option_and_then, option_map, option_map_or}
use Rattle.std.proofs.lemmas.Option.{slice_get-map}
use Rattle.mo_types.specs.declared.goal.Goal.{Goal}
use Rattle.mo_types.specs.declared.goal.Goal.TheVariants.{Nobody}
use Rattle.mo_types.specs.declared.reference.Target.TheVariants as target
use Rattle.resolve.specs.Table.{Pooled, file_goals, goal_in, goals_in}
use Rattle.mo_types.specs.declared.loaded.LoadedFile.{LoadedFile}
use Rattle.mo_types.specs.declared.reference.Ref.{Ref}
use Rattle.patch.specs.declared.range.PlacedWork.{PlacedWork}
use Rattle.ref_meet.specs.Scene.{Scene, goal_of, goals_at, refs_among, refs_of}
use Rattle.ref_meet.specs.Template.{has_descriptors, holds_offset, is_descriptor, leads_to_template}
use Rattle.ref_meet.specs.declared.row.Row.{Row}
use Rattle.ref_meet.specs.inner.Listed.{IsLowAt, found_at}
use Rattle.ref_meet.specs.inner.Rows.{IsRow}
use Rattle.ref_meet.proofs.ListedLemmas.{atom_finds, low_indices}

pub goals_here : (table : List (List Goal)) (at : ℕ) (found : Option Pooled) → option_map (λ (g : Pooled). goals_in g.pool g.places) found ≡ slice_get table at → option_map_or file_goals found [] ≡ goals_at table at
goals_here table at None e = ap (λ (o : Option (List Goal)). option_map_or (λ some. some) o []) e
goals_here table at (Some g) e = ap (λ (o : Option (List Goal)). option_map_or (λ some. some) o []) e

-- the place of a symbol's goal, if there are goals
abbrev pub place_among : Option Pooled → ℕ → Option ℕ
place_among goals index = option_and_then (λ (g : Pooled). slice_get g.places index) goals

among : (pool : List Goal) (goals : Option Pooled) (index : ℕ) → IfSome goals (λ g. g.pool ≡ pool) → unwrap_or (slice_get (option_map_or file_goals goals []) index) Nobody ≡ option_map_or (goal_in pool) (place_among goals index) Nobody
unfolding goals_in
among pool None index same = refl
among pool (Some g) index same =
    ap (λ (p : List Goal). unwrap_or (slice_get (map (goal_in p) g.places) index) Nobody) same
    ∙ ap (λ (o : Option Goal). unwrap_or o Nobody) (slice_get-map (goal_in pool) g.places index)
    ∙ by (slice_get g.places index)
  where
    by : (o : Option ℕ) → unwrap_or (option_map (goal_in pool) o) Nobody ≡ option_map_or (goal_in pool) o Nobody
    by None = refl
    by (Some place) = refl

pub place_goal : (scene : Scene) (pool : List Goal) (file : ℕ) (goals : Option Pooled) (index : ℕ) → IfSome goals (λ g. g.pool ≡ pool) → option_map_or file_goals goals [] ≡ goals_at scene.goals file → goal_of scene file (target.Name index) ≡ option_map_or (goal_in pool) (place_among goals index) Nobody
unfolding goal_of
place_goal scene pool file goals index same is = ap (λ (gs : List Goal). unwrap_or (slice_get gs index) Nobody) (sym is) ∙ among pool goals index same

-- ---- what a row has

pub descriptor_is : (scene : Scene) (pool : List Goal) (row : Row) → IsRow scene pool row → is_descriptor scene.files row.item.now ≡ row.descriptors
unfolding is_descriptor
descriptor_is scene pool row is = ap (λ (o : Option LoadedFile). option_map_or (λ file. has_descriptors file row.item.now.atom.key.section) o false) is.there ∙ sym is.descriptors

pub held_is : (scene : Scene) (pool : List Goal) (row : Row) (goal : Goal) → IsRow scene pool row → (row.descriptors && leads_to_template scene.files goal) ≡ holds_offset scene.files row.item.now goal
held_is scene pool row goal is = ap (λ (b : Bool). b && leads_to_template scene.files goal) (sym (descriptor_is scene pool row is))

pub row_found : {A : Type 0} (f : Ref → Option A) (scene : Scene) (pool : List Goal) (row : Row) → IsRow scene pool row → filter_map f (refs_of scene.files row.item.now) ≡ flat_map (found_at f row.refs.now) row.indices.now
unfolding refs_of
row_found f scene pool row is =
    ap (λ (o : Option LoadedFile). filter_map f (option_map_or (λ file. refs_among file.refs row.item.now.atom.key) o [])) is.there
    ∙ atom_finds f is.file.refs row.indices.now row.item.now.atom.key is.indices
    ∙ ap (λ (refs : List Ref). flat_map (found_at f refs) row.indices.now) (sym is.refs)

pub row_low : (scene : Scene) (pool : List Goal) (row : Row) → IsRow scene pool row → All (λ (r : Ref). row.item.now.address + r.place < 2 ^ 64) (refs_of scene.files row.item.now) → All (IsLowAt row.item.now.address row.refs.now) row.indices.now
unfolding refs_of
row_low scene pool row is low =
    let mine : All (λ (r : Ref). row.item.now.address + r.place < 2 ^ 64) (refs_among is.file.refs row.item.now.atom.key) =
    subst (λ (o : Option LoadedFile). All (λ (r : Ref). row.item.now.address + r.place < 2 ^ 64) (option_map_or (λ file. refs_among file.refs row.item.now.atom.key) o [])) is.there low in
    subst (λ (refs : List Ref). All (IsLowAt row.item.now.address refs) row.indices.now) (sym is.refs)
    (low_indices row.item.now.address is.file.refs row.indices.now row.item.now.atom.key is.indices mine)

-- an atom of no file has no references
pub none_found : {A : Type 0} (f : Ref → Option A) (files : List LoadedFile) (item : PlacedWork) → slice_get files item.file ≡ None → filter_map f (refs_of files item) ≡ []
unfolding refs_of
none_found f files item none = ap (λ (o : Option LoadedFile). filter_map f (option_map_or (λ file. refs_among file.refs item.atom.key) o [])) none

pub held_then : (scene : Scene) (pool : List Goal) (row : Row) (goal : Goal) → IsRow scene pool row → (b : Bool) → row.descriptors ≡ true → b ≡ leads_to_template scene.files goal → b ≡ holds_offset scene.files row.item.now goal
held_then scene pool row goal is b descriptors leads = leads ∙ ap (λ (d : Bool). d && leads_to_template scene.files goal) (sym descriptors) ∙ held_is scene pool row goal is

pub held_else : (scene : Scene) (pool : List Goal) (row : Row) (goal : Goal) → IsRow scene pool row → row.descriptors ≡ false → false ≡ holds_offset scene.files row.item.now goal
held_else scene pool row goal is descriptors = ap (λ (d : Bool). d && leads_to_template scene.files goal) (sym descriptors) ∙ held_is scene pool row goal is
