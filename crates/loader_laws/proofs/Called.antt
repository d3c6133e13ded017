-- The names of goals hold no NUL, and their libraries have ordinals of an image.
use Rattle.std.proofs.Common.{◌≡◌, ◌≢◌, ℕ, ◌&&◌, Bool, true, false, List, [], Option, Some, None, refl, sym, ◌∙◌, subst, if◌then◌else◌}
use Rattle.std.specs.Prelude.{All}
use Rattle.std.specs.Str.{bytes_eq}
use Rattle.std.proofs.lemmas.List.Elements.{All-nil}
use Rattle.std.proofs.lemmas.Slice.Eq.{bytes_eq-Decides}
use Rattle.list_lemmas.proofs.Members.{In, find_some}
use Rattle.chain_laws.specs.Carried.{HasOrdinal}
use Rattle.lib_bind.specs.Provides.{provider_of}
use Rattle.lib_bind.specs.declared.provider.Provider.{Provider}
use Rattle.literal_merge.specs.Representatives.{representatives_of}
use Rattle.literal_merge.specs.Standing.{stands_for}
use Rattle.mo_types.specs.Goals.{name_of}
use Rattle.mo_types.specs.declared.goal.Goal.{Goal}
use Rattle.mo_types.specs.declared.goal.Goal.TheVariants.{WeakSelf, Header}
use Rattle.mo_types.specs.declared.loaded.LoadedFile.{LoadedFile}
use Rattle.mo_types.specs.declared.object.Symbol.{Symbol}
use Rattle.mo_types.specs.declared.reference.Target.{Target}
use Rattle.mo_types.specs.declared.reference.Target.TheVariants.{Name, Local}
use Rattle.reader_laws.specs.Facts.{HasNoNul}
use Rattle.reader_laws.proofs.Ordinals.{few_ordinals}
use Rattle.resolve.specs.Goals.{goal_at, goal_of, goal_of_name, goal_of_symbol, is_flat, is_header_symbol, local_goal, name_goal, outer_goal, winner_goal}
use Rattle.symbol_winners.specs.Places.{place_of}
use Rattle.symbol_winners.specs.SymbolTable.{is_weak}
use Rattle.symbol_winners.specs.Winners.{winner_of}
use Rattle.symbol_winners.specs.declared.places.Place.{Place}
use Rattle.symbol_winners.specs.declared.winner.Winner.{Winner}
use Rattle.image_make.specs.Made.{ImageInputs}
use Rattle.image_laws.proofs.Loading.{from_all}
use Rattle.link_files.proofs.Lists.{in_slice}
use Rattle.link_files.proofs.Refs.{IsTargetOf}
use Rattle.loader_laws.proofs.Placing.{IsLinking}
use Rattle.loader_laws.proofs.Targets.{leads}

-- what the loader may be told to look a goal up by
pub record IsCalled (goal : Goal) : Type 0 where
  pub name : HasNoNul (name_of goal)
  pub ordinal : HasOrdinal goal

pub no_name : HasNoNul []
no_name = All-nil (λ (b : ℕ). b ≢ 0)

winner_name : (m : ImageInputs) (name : List ℕ) (winner : Winner) → IsLinking m → winner_of m.command m.files name ≡ Some winner → name ≡ winner.name
winner_name m name winner linking e =
    let found = find_some (λ (w : Winner). bytes_eq name w.name) m.winners winner (linking.winners.each name ∙ e) in
    (bytes_eq-Decides name winner.name).0 found.1

winner_called : (m : ImageInputs) (winner : Winner) → HasNoNul winner.name → IsCalled (winner_goal (representatives_of m.files) winner)
winner_called m winner clean = by (winner.weak && winner.exported)
  where
    by : (b : Bool) → IsCalled (if b then WeakSelf winner.name (stands_for (representatives_of m.files) winner.atom) winner.offset else goal_at (representatives_of m.files) winner.atom winner.offset)
    by true = record { name = clean; ordinal = tt }
    by false = record { name = no_name; ordinal = tt }

outer_called : (m : ImageInputs) (flat weak : Bool) (name : List ℕ) (o : Option Provider) → IsLinking m → HasNoNul name → provider_of m.libs name ≡ o → IsCalled (outer_goal flat weak name o)
outer_called m flat weak name (Some provider) linking clean e = record { name = clean; ordinal = few_ordinals m.libs name provider linking.named.libraries e }
outer_called m true weak name None linking clean e = record { name = clean; ordinal = tt }
outer_called m false weak name None linking clean e = record { name = no_name; ordinal = tt }

pub name_called : (m : ImageInputs) (name : List ℕ) → IsLinking m → HasNoNul name → IsCalled (goal_of_name m.files m.libs m.command name)
unfolding goal_of_name
name_called m name linking clean = by (winner_of m.command m.files name) refl
  where
    header : (b : Bool) → IsCalled (if b then Header else outer_goal (is_flat m.command name) (is_weak m.files name) name (provider_of m.libs name))
    header true = record { name = no_name; ordinal = tt }
    header false = outer_called m (is_flat m.command name) (is_weak m.files name) name (provider_of m.libs name) linking clean refl

    by : (o : Option Winner) → winner_of m.command m.files name ≡ o → IsCalled (name_goal (representatives_of m.files) m.command.dylib (is_flat m.command name) (is_weak m.files name) name (provider_of m.libs name) o)
    by (Some winner) e = winner_called m winner (subst HasNoNul (winner_name m name winner linking e) clean)
    by None e = header (is_header_symbol m.command.dylib name)

symbol_called : (m : ImageInputs) (file : LoadedFile) (index : ℕ) (symbol : Symbol) → IsLinking m → HasNoNul symbol.name → IsCalled (goal_of_symbol m.files m.libs m.command file (index, symbol))
unfolding goal_of_symbol
symbol_called m file index symbol linking clean = by symbol.external
  where
    local : (o : Option Place) → IsCalled (local_goal (representatives_of m.files) o)
    local None = record { name = no_name; ordinal = tt }
    local (Some place) = record { name = no_name; ordinal = tt }

    by : (b : Bool) → IsCalled (if b then goal_of_name m.files m.libs m.command symbol.name else local_goal (representatives_of m.files) (place_of file index symbol.kind))
    by true = name_called m symbol.name linking clean
    by false = local (place_of file index symbol.kind)

-- the goal of a target that is there
pub target_called : (m : ImageInputs) (file : LoadedFile) (target : Target) → IsLinking m → In file m.files → IsTargetOf file.object file.id target → IsCalled (leads m file target)
unfolding goal_of
target_called m file (Name index) linking h (symbol, there) =
    let names : All (λ (s : Symbol). HasNoNul s.name) file.object.symbols = from_all (λ (f : LoadedFile). All (λ (s : Symbol). HasNoNul s.name) f.object.symbols) m.files file linking.named.symbols h in
    let clean : HasNoNul symbol.name = from_all (λ (s : Symbol). HasNoNul s.name) file.object.symbols symbol names (in_slice file.object.symbols index symbol there) in
    rw there (symbol_called m file index symbol linking clean)
target_called m file (Local atom offset) linking h place = record { name = no_name; ordinal = tt }

-- that of the entry
pub entry_called : (m : ImageInputs) → IsLinking m → IsCalled m.entry
entry_called m linking = subst IsCalled (sym linking.entry) (name_called m m.command.entry linking linking.named.entry)
