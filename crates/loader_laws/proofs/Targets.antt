-- Where the references of kept atoms lead: somewhere, and the image has the address unless another image has it.
use Rattle.std.proofs.Common.{◌≡◌, ℕ, Bool, true, false, List, [], ◌∷◌, ◌++◌, Option, Some, None, inl, inr, refl, sym, ap, ◌∙◌, subst, if◌then◌else◌}
use Rattle.std.specs.Prelude.{IsSome, slice_get, option_and_then}
use Rattle.std.specs.List.{enumerate_from, filter, filter_map, flat_map, fold, list_any}
use Rattle.std.specs.Option.{option_map, option_map_or}
use Rattle.std.specs.Cmp.Lexicographic.{slice_cmp}
use Rattle.std.specs.Ordering.{is_lt, nat_cmp}
use Rattle.std.proofs.lemmas.Bool.{cases_Bool, false≢true}
use Rattle.std.proofs.lemmas.Option.{slice_get-map}
use Rattle.list_lemmas.proofs.Members.{In, in_filter, in_filter_map, in_flat, in_left, in_map, in_right}
use Rattle.command_line.specs.declared.command.Command.{Command}
use Rattle.lib_bind.specs.declared.library.LibraryGraph.{LibraryGraph}
use Rattle.literal_merge.specs.Representatives.{representatives_of}
use Rattle.literal_merge.specs.declared.representative.Representative.{Representative}
use Rattle.liveness.specs.Edges.{goal_atom, edge_from, edge_to, edges, edges_at, edges_by, file_edges, ref_edges, target_atom, unwind_edges}
use Rattle.liveness.specs.Undefined.{is_nobody, kept_refs, kept_unwinds, least, lesser, name_if, lost, lost_at, lost_in, lost_name, lost_names, lost_personality, targets_of, undefined, wanted}
use Rattle.mark_core.specs.Kept.{has}
use Rattle.mo_types.specs.declared.edge.Edge.{Edge}
use Rattle.mo_types.specs.declared.goal.Goal.{Goal}
use Rattle.mo_types.specs.declared.goal.Goal.TheVariants.{Def, WeakSelf, Header, Import, Flat, Nobody}
use Rattle.mo_types.specs.declared.key.AtomKey.{AtomKey}
use Rattle.mo_types.specs.declared.loaded.LoadedFile.{LoadedFile}
use Rattle.mo_types.specs.declared.object.Symbol.{Symbol}
use Rattle.mo_types.specs.declared.reference.Ref.{Ref}
use Rattle.mo_types.specs.declared.reference.Target.{Target}
use Rattle.mo_types.specs.declared.reference.Target.TheVariants.{Name, Local}
use Rattle.resolve.specs.Goals.{goal_of, goal_of_symbol, goal_table, goals_of_symbols, target_goal}
use Rattle.resolve.proofs.TargetLemmas.{leads_same}
use Rattle.ref_meet.specs.Addresses.{address_by, place_address}
use Rattle.ref_meet.specs.Scene as scenes
use Rattle.sect_place.specs.declared.layout.Layout.{Layout}
use Rattle.slot_needs.specs.Needs.{is_outer}
use Rattle.slot_needs.specs.Unmet.{is_kept_unmet, is_unmet, leads_out, tells_address, unmet, unmet_among, unmet_at, unmet_by}
use Rattle.slot_needs.specs.declared.unmet.Unmet.{Unmet}
use Rattle.image_make.specs.Made.{IsLaid, ImageInputs, scene_of}
use Rattle.image_laws.specs.Means.{AreRising}
use Rattle.image_laws.specs.References.{HasAddress}
use Rattle.image_laws.proofs.Complete.{IsSeated}
use Rattle.image_laws.proofs.Loading.{from_all}
use Rattle.link_files.proofs.Lists.{both_empty, in_slice, none_passes, not_none, not_second}
use Rattle.link_files.proofs.Refs.{IsTargetOf}
use Rattle.loader_laws.proofs.Finding.{in_all}
use Rattle.loader_laws.proofs.Holders.{HasAtom, IsHeld, goal_there, target_held}
use Rattle.loader_laws.proofs.Placing.{IsLinking, stands}

-- ---- the goals of files

-- where a target of a file of an image leads
abbrev pub leads : ImageInputs → LoadedFile → Target → Goal
leads m file target = goal_of m.files m.libs m.command file target

pub table_at : (files : List LoadedFile) (libs : LibraryGraph) (command : Command) (at : ℕ) (file : LoadedFile) → slice_get files at ≡ Some file → slice_get (goal_table files libs command) at ≡ Some (goals_of_symbols files libs command file)
table_at files libs command at file is = slice_get-map (goals_of_symbols files libs command) files at ∙ ap (option_map (goals_of_symbols files libs command)) is

pub goals_there : (m : ImageInputs) (at : ℕ) (file : LoadedFile) → IsLinking m → slice_get m.files at ≡ Some file → slice_get m.goals at ≡ Some (goals_of_symbols m.files m.libs m.command file)
goals_there m at file linking is = ap (λ (table : List (List Goal)). slice_get table at) linking.goals ∙ table_at m.files m.libs m.command at file is

-- the same by the goals of the file's symbols
pub target_same : (m : ImageInputs) (file : LoadedFile) (target : Target) → IsLinking m → target_goal m.literals (goals_of_symbols m.files m.libs m.command file) target ≡ leads m file target
target_same m file target linking =
    ap (λ (literals : List Representative). target_goal literals (goals_of_symbols m.files m.libs m.command file) target) linking.literals
    ∙ leads_same m.files m.libs m.command file target

-- and in the scene of an image
pub scene_leads : (m : ImageInputs) (layout : Layout) (at : ℕ) (file : LoadedFile) (target : Target) → IsLinking m → slice_get m.files at ≡ Some file → scenes.goal_of (scene_of m layout) at target ≡ leads m file target
unfolding scenes.goal_of
scene_leads m layout at file target linking is =
    ap (λ (found : Option (List Goal)). target_goal m.literals (option_map_or (λ (some : List Goal). some) found []) target) (goals_there m at file linking is)
    ∙ target_same m file target linking

-- ---- what is kept with a reference

target_edge : (literals : List Representative) (goals : List Goal) (r : Ref) (target : Target) (key : AtomKey) → In target (targets_of r.target r.minus) → target_atom literals goals target ≡ Some key → In (edge_to r.atom key) (ref_edges literals goals r)
unfolding ref_edges
target_edge literals goals r target key h is = by r.minus refl h
  where
    front : Target → Option Target → List Edge
    front first minus = edge_from r.atom (target_atom literals goals first) ++ edge_from r.atom (option_and_then (target_atom literals goals) minus)

    first_edge : (minus : Option Target) → In (edge_to r.atom key) (front target minus)
    first_edge minus = in_left (edge_from r.atom (target_atom literals goals target)) (edge_from r.atom (option_and_then (target_atom literals goals) minus)) (edge_to r.atom key) (rw is (inl refl))

    by : (minus : Option Target) → r.minus ≡ minus → In target (targets_of r.target minus) → In (edge_to r.atom key) (front r.target minus)
    by None e (inl same) = subst (λ (t : Target). In (edge_to r.atom key) (front t None)) (sym same) (first_edge None)
    by None e (inr none) = absurd none
    by (Some minus) e (inl same) = subst (λ (t : Target). In (edge_to r.atom key) (front t (Some minus))) (sym same) (first_edge (Some minus))
    by (Some minus) e (inr (inl same)) =
        let there : target_atom literals goals minus ≡ Some key = ap (target_atom literals goals) same ∙ is in
        in_right (edge_from r.atom (target_atom literals goals r.target)) (edge_from r.atom (target_atom literals goals minus)) (edge_to r.atom key) (rw there (inl refl))
    by (Some minus) e (inr (inr none)) = absurd none

edge_there : (command : Command) (libs : LibraryGraph) (files : List LoadedFile) (at : ℕ) (file : LoadedFile) (r : Ref) (target : Target) (key : AtomKey) → slice_get files at ≡ Some file → In r file.refs → In target (targets_of r.target r.minus) → target_atom (representatives_of files) (goals_of_symbols files libs command file) target ≡ Some key → In (edge_to r.atom key) (edges files libs command)
unfolding edges_by file_edges
edge_there command libs files at file r target key is h among to =
    let literals = representatives_of files in
    let goals : List Goal = goals_of_symbols files libs command file in
    let here : In (edge_to r.atom key) (file_edges literals goals file) =
    in_left (flat_map (ref_edges literals goals) file.refs) (flat_map (unwind_edges literals goals) file.unwinds) (edge_to r.atom key)
    (in_flat (ref_edges literals goals) file.refs r (edge_to r.atom key) h (target_edge literals goals r target key among to)) in
    in_flat (edges_at literals (goal_table files libs command)) (enumerate_from 0 files) (at, file) (edge_to r.atom key) (in_all files at file is)
    (rw (table_at files libs command at file is) here)

-- a reference of a kept atom
pub record IsKeptRef (m : ImageInputs) (at : ℕ) (file : LoadedFile) (r : Ref) : Type 0 where
  pub there : slice_get m.files at ≡ Some file
  pub among : In r file.refs
  pub kept : has m.keys r.atom ≡ true

target_kept : (m : ImageInputs) (at : ℕ) (file : LoadedFile) (r : Ref) (target : Target) (key : AtomKey) → IsLinking m → IsKeptRef m at file r → In target (targets_of r.target r.minus) → target_atom (representatives_of m.files) (goals_of_symbols m.files m.libs m.command file) target ≡ Some key → has m.keys key ≡ true
target_kept m at file r target key linking is among to =
    from_all (λ (edge : Edge). has m.keys edge.from ≡ true → has m.keys edge.to ≡ true) (edges m.files m.libs m.command) (edge_to r.atom key) linking.led
    (edge_there m.command m.libs m.files at file r target key is.there is.among among to) is.kept

-- the atom of a target's goal is that to which the target leads
goal_atoms : (m : ImageInputs) (file : LoadedFile) (target : Target) (key : AtomKey) → IsTargetOf file.object file.id target → goal_atom (leads m file target) ≡ Some key → target_atom (representatives_of m.files) (goals_of_symbols m.files m.libs m.command file) target ≡ Some key
unfolding goal_of
goal_atoms m file (Name index) key (symbol, there) e =
    ap (option_and_then goal_atom) (goal_there m.files m.libs m.command file index symbol there)
    ∙ ap (λ (o : Option Symbol). goal_atom (option_map_or (λ (s : Symbol). goal_of_symbol m.files m.libs m.command file (index, s)) o Nobody)) (sym there) ∙ e
goal_atoms m file (Local atom offset) key place e = e

-- ---- what leads nowhere

-- a least name is told where there is any
least_there : (pairs : List (List ℕ × List ℕ)) (p : List ℕ × List ℕ) → (q : List ℕ × List ℕ) × (fold lesser (Some p) pairs ≡ Some q)
least_there [] p = (p, refl)
least_there (r ∷ rest) p = by (is_lt (slice_cmp nat_cmp r.0 p.0)) (least_there rest r) (least_there rest p)
  where
    by : (b : Bool) → (q : List ℕ × List ℕ) × (fold lesser (Some r) rest ≡ Some q) → (q : List ℕ × List ℕ) × (fold lesser (Some p) rest ≡ Some q) → (q : List ℕ × List ℕ) × (fold lesser (if b then Some r else Some p) rest ≡ Some q)
    by true one other = one
    by false one other = other

pub least_none : (pairs : List (List ℕ × List ℕ)) → least pairs ≡ None → pairs ≡ []
unfolding least
least_none [] e = refl
least_none (p ∷ pairs) e = let told = least_there pairs p in not_none told.0 (sym told.1 ∙ e)

-- no name of an image does
pub none_lost : (m : ImageInputs) → IsLinking m → lost m.keys m.files m.goals ≡ []
unfolding undefined
none_lost m linking = (both_empty (lost m.keys m.files m.goals) (wanted linking.names) (least_none (lost m.keys m.files m.goals ++ wanted linking.names) linking.found)).0

target_found : (m : ImageInputs) (at : ℕ) (file : LoadedFile) (r : Ref) (target : Target) → IsLinking m → IsKeptRef m at file r → In target (targets_of r.target r.minus) → lost_name file.object.symbols (goals_of_symbols m.files m.libs m.command file) target ≡ None
unfolding lost lost_in lost_names kept_refs
target_found m at file r target linking is among = by (lost_name file.object.symbols goals target) refl
  where
    goals : List Goal
    goals = goals_of_symbols m.files m.libs m.command file

    told : (name : List ℕ) → lost_name file.object.symbols goals target ≡ Some name → In (name, file.label) (lost m.keys m.files m.goals)
    told name e =
        let here : In (name, file.label) (lost_in m.keys file goals) =
        in_map (λ n. (n, file.label)) (flat_map (lost_names file.object.symbols goals) (kept_refs m.keys file) ++ filter_map (lost_personality file.object.symbols goals) (kept_unwinds m.keys file)) name
        (in_left (flat_map (lost_names file.object.symbols goals) (kept_refs m.keys file)) (filter_map (lost_personality file.object.symbols goals) (kept_unwinds m.keys file)) name
        (in_flat (lost_names file.object.symbols goals) (kept_refs m.keys file) r name (in_filter (λ x. has m.keys x.atom) file.refs r is.among is.kept) (in_filter_map (lost_name file.object.symbols goals) (targets_of r.target r.minus) target name among e))) in
        in_flat (lost_at m.keys m.goals) (enumerate_from 0 m.files) (at, file) (name, file.label) (in_all m.files at file is.there) (rw (goals_there m at file linking is.there) here)

    by : (o : Option (List ℕ)) → lost_name file.object.symbols goals target ≡ o → o ≡ None
    by None e = refl
    by (Some name) e = absurd (subst (λ (xs : List (List ℕ × List ℕ)). In (name, file.label) xs) (none_lost m linking) (told name e))

not_nobody : (goal : Goal) (symbol : Symbol) → name_if goal (Some symbol) ≡ None → is_nobody goal ≡ false
not_nobody goal symbol e = by (is_nobody goal) e
  where
    by : (b : Bool) → (if b then option_map (λ s. s.name) (Some symbol) else None) ≡ None → b ≡ false
    by true f = not_none symbol.name f
    by false f = refl

somebody : (m : ImageInputs) (file : LoadedFile) (target : Target) → lost_name file.object.symbols (goals_of_symbols m.files m.libs m.command file) target ≡ None → IsTargetOf file.object file.id target → is_nobody (leads m file target) ≡ false
unfolding goal_of
somebody m file (Name index) found (symbol, there) =
    let goal : Goal = goal_of_symbol m.files m.libs m.command file (index, symbol) in
    let is : slice_get (goals_of_symbols m.files m.libs m.command file) index ≡ Some goal = goal_there m.files m.libs m.command file index symbol there in
    let none : name_if goal (Some symbol) ≡ None =
    ap (name_if goal) (sym there) ∙ ap (option_and_then (λ g. name_if g (slice_get file.object.symbols index))) (sym is) ∙ found in
    rw there (not_nobody goal symbol none)
somebody m file (Local atom offset) found place = refl

-- ---- the image has it

-- a goal is somebody's, and the image has its address unless another image has it
pub record IsReached (m : ImageInputs) (layout : Layout) (goal : Goal) : Type 0 where
  pub somebody : is_nobody goal ≡ false
  pub stands : is_outer goal ≡ false → HasAddress (scene_of m layout) None goal

place_there : (m : ImageInputs) (layout : Layout) (key : AtomKey) (offset : ℕ) → IsSeated m layout key → IsSome (place_address layout.placed key offset)
place_there m layout key offset seat = let stood = seat.stood in rw stood refl

pub inner_stands : (m : ImageInputs) (layout : Layout) (goal : Goal) → HasAtom m.command m.files goal → ((key : AtomKey) → goal_atom goal ≡ Some key → IsHeld m.command m.files key → IsSeated m layout key) → is_nobody goal ≡ false → is_outer goal ≡ false → HasAddress (scene_of m layout) None goal
unfolding address_by
inner_stands m layout (Def key offset) atom seat some own = place_there m layout key offset (seat key refl atom)
inner_stands m layout (WeakSelf name key offset) atom seat some own = place_there m layout key offset (seat key refl atom)
inner_stands m layout Header atom seat some own = refl
inner_stands m layout (Import name ordinal by_weak optional) atom seat some own = absurd (false≢true (sym own))
inner_stands m layout (Flat name) atom seat some own = absurd (false≢true (sym own))
inner_stands m layout Nobody atom seat some own = absurd (false≢true (sym some))

-- a target that is there, leads somewhere, and whose atom is kept
pub reached_by : (m : ImageInputs) (layout : Layout) (file : LoadedFile) (target : Target) → IsLinking m → AreRising m → IsLaid m layout → In file m.files → IsTargetOf file.object file.id target → lost_name file.object.symbols (goals_of_symbols m.files m.libs m.command file) target ≡ None
    → ((key : AtomKey) → target_atom (representatives_of m.files) (goals_of_symbols m.files m.libs m.command file) target ≡ Some key → has m.keys key ≡ true) → IsReached m layout (leads m file target)
reached_by m layout file target linking rising laid h there found kept =
    let some = somebody m file target found there in
    record {
      somebody = some;
      stands = inner_stands m layout (leads m file target) (target_held m.files m.libs m.command file target linking.solid h there)
          (λ key e held. stands m layout key linking rising laid held (kept key (goal_atoms m file target key there e)))
          some;
    }

pub target_reached : (m : ImageInputs) (layout : Layout) (at : ℕ) (file : LoadedFile) (r : Ref) (target : Target) → IsLinking m → AreRising m → IsLaid m layout → IsKeptRef m at file r → In target (targets_of r.target r.minus) → IsTargetOf file.object file.id target → IsReached m layout (leads m file target)
target_reached m layout at file r target linking rising laid is among there =
    reached_by m layout file target linking rising laid (in_slice m.files at file is.there) there
    (target_found m at file r target linking is among) (λ key to. target_kept m at file r target key linking is among to)

-- ---- references that tell an address

kept_met : (m : ImageInputs) (at : ℕ) (file : LoadedFile) (r : Ref) → IsLinking m → IsKeptRef m at file r → is_unmet (goals_of_symbols m.files m.libs m.command file) r ≡ false
unfolding unmet unmet_at
kept_met m at file r linking is = elim (cases_Bool (is_unmet goals r)) [
  | inl fails ↦ absurd (subst (λ (us : List Unmet). In (unmet_by at r) us) linking.met (told fails))
  | inr fine ↦ fine
]
  where
    goals : List Goal
    goals = goals_of_symbols m.files m.libs m.command file

    told : is_unmet goals r ≡ true → In (unmet_by at r) (unmet m.keys m.goals m.files)
    told fails =
        let kept = is.kept in
        let passes : is_kept_unmet m.keys goals r ≡ true = rw (fails, kept) refl in
        let here : In (unmet_by at r) (unmet_among m.keys goals at file.refs) = in_map (unmet_by at) (filter (is_kept_unmet m.keys goals) file.refs) r (in_filter (is_kept_unmet m.keys goals) file.refs r is.among passes) in
        in_flat (unmet_at m.keys m.goals) (enumerate_from 0 m.files) (at, file) (unmet_by at r) (in_all m.files at file is.there) (rw (goals_there m at file linking is.there) here)

-- one that tells an address leads to no other image
pub target_own : (m : ImageInputs) (at : ℕ) (file : LoadedFile) (r : Ref) (target : Target) → IsLinking m → IsKeptRef m at file r → tells_address r.kind r.addend ≡ true → In target (targets_of r.target r.minus) → IsTargetOf file.object file.id target → is_outer (leads m file target) ≡ false
unfolding goal_of is_unmet
target_own m at file r (Name index) linking is tells among (symbol, there) =
    let goals : List Goal = goals_of_symbols m.files m.libs m.command file in
    let goal : Goal = goal_of_symbol m.files m.libs m.command file (index, symbol) in
    let quiet : list_any (leads_out goals) (targets_of r.target r.minus) ≡ false = not_second (tells_address r.kind r.addend) (list_any (leads_out goals) (targets_of r.target r.minus)) (kept_met m at file r linking is) tells in
    let inner : leads_out goals (Name index) ≡ false = none_passes (leads_out goals) (targets_of r.target r.minus) (Name index) quiet among in
    let found : slice_get goals index ≡ Some goal = goal_there m.files m.libs m.command file index symbol there in
    rw there (ap (λ (o : Option Goal). option_map_or is_outer o false) (sym found) ∙ inner)
target_own m at file r (Local atom offset) linking is tells among place = refl
