-- The image of the atoms that are kept.
use Rattle.std.proofs.Common.{◌≡◌, ℕ, List, [], Ok, Err, All, refl, sym, subst}
use Rattle.image_make.specs.Made.{IsMade, ImageInputs}
use Rattle.image_make.specs.Near.{AreNear}
use Rattle.image_make.specs.declared.fault.MakeFault.{MakeFault}
use Rattle.lib_bind.specs.declared.library.LibraryGraph.{LibraryGraph}
use Rattle.command_line.specs.declared.command.Command.{Command}
use Rattle.mo_types.specs.Loaded.{IsWholeFile}
use Rattle.mo_types.specs.declared.answer.Refusal.{Refusal}
use Rattle.mo_types.specs.declared.goal.Goal.{Goal}
use Rattle.mo_types.specs.declared.key.AtomKey.{AtomKey}
use Rattle.mo_types.specs.declared.loaded.LoadedFile.{LoadedFile}
use Rattle.resolve.specs.Goals.{goal_of_name, goal_table}
use Rattle.symbol_winners.specs.SymbolTable.{SymbolTable}
use Rattle.sect_place.specs.declared.island.IslandPlan.{IslandPlan}
use Rattle.slot_plan.specs.declared.list.Slots.{Slots}
use Rattle.unwind_link.specs.Kept.{kept_unwinds}
use Rattle.unwind_link.specs.declared.kept.KeptUnwind.{KeptUnwind}
use Rattle.link_files.specs.Flags.{header_flags}
use Rattle.link_files.specs.Linked.{AsImage, making, no_islands}
use Rattle.link_files.specs.Refusals.{IsToldAs}
use Rattle.link_files.specs.Resolved.{IsResolved, files_of, table_of}
use Rattle.link_files.specs.declared.resolved.Resolved.{Resolved}
use Rattle.link_files.proofs.NearLemmas.{making_near}

-- what an image of resolved files is made of
abbrev pub scheme_of : Resolved → ℕ → List AtomKey → Slots → IslandPlan → List KeptUnwind → ImageInputs
scheme_of r flags keys slots islands unwinds = record {
  command = r.command.now;
  libs = r.libs.now;
  files = files_of r;
  goals = table_of r;
  literals = r.symbols.now.literals;
  winners = r.symbols.now.winners;
  keys = keys;
  flags = flags;
  entry = r.entry.now;
  slots = slots;
  islands = islands;
  unwinds = unwinds;
  info = [];
}

same_making : (command : Command) (libs : LibraryGraph) (files : List LoadedFile) (symbols : SymbolTable) (flags : ℕ) (keys : List AtomKey) (goals : List (List Goal)) (entry : Goal) (slots : Slots) (islands : IslandPlan) (unwinds : List KeptUnwind)
    → goals ≡ goal_table files libs command → entry ≡ goal_of_name files libs command command.entry → flags ≡ header_flags command libs symbols keys → islands ≡ no_islands → unwinds ≡ kept_unwinds keys files
    → record { command = command; libs = libs; files = files; goals = goals; literals = symbols.literals; winners = symbols.winners; keys = keys; flags = flags; entry = entry; slots = slots; islands = islands; unwinds = unwinds; info = [] } ≡ making command libs files symbols keys slots
unfolding making
same_making command libs files symbols flags keys goals entry slots islands unwinds g e f i u = rw (g, e, f, i, u) refl

same_scheme : (r : Resolved) (flags : ℕ) (keys : List AtomKey) (slots : Slots) (islands : IslandPlan) (unwinds : List KeptUnwind) → IsResolved r → flags ≡ header_flags r.command.now r.libs.now r.symbols.now keys → islands ≡ no_islands → unwinds ≡ kept_unwinds keys (files_of r)
    → scheme_of r flags keys slots islands unwinds ≡ making r.command.now r.libs.now (files_of r) r.symbols.now keys slots
same_scheme r flags keys slots islands unwinds is f i u =
    same_making r.command.now r.libs.now (files_of r) r.symbols.now flags keys (table_of r) r.entry.now slots islands unwinds is.goals is.entry f i u

-- what it is made of is near
pub inputs_near : (r : Resolved) (flags : ℕ) (keys : List AtomKey) (slots : Slots) (islands : IslandPlan) (unwinds : List KeptUnwind) → All IsWholeFile (files_of r) → IsResolved r → flags ≡ header_flags r.command.now r.libs.now r.symbols.now keys → islands ≡ no_islands → unwinds ≡ kept_unwinds keys (files_of r) → AreNear (scheme_of r flags keys slots islands unwinds)
inputs_near r flags keys slots islands unwinds whole is f i u =
    subst AreNear (sym (same_scheme r flags keys slots islands unwinds is f i u))
    (making_near r.command.now r.libs.now (files_of r) r.symbols.now keys slots whole)

pub image_made : (r : Resolved) (flags : ℕ) (keys : List AtomKey) (slots : Slots) (islands : IslandPlan) (unwinds : List KeptUnwind) (image : List ℕ) → IsResolved r → flags ≡ header_flags r.command.now r.libs.now r.symbols.now keys → islands ≡ no_islands → unwinds ≡ kept_unwinds keys (files_of r)
    → IsMade (scheme_of r flags keys slots islands unwinds) (Ok image) → AsImage (making r.command.now r.libs.now (files_of r) r.symbols.now keys slots) (Ok image)
image_made r flags keys slots islands unwinds image is f i u made = subst (λ (m : ImageInputs). IsMade m (Ok image)) (same_scheme r flags keys slots islands unwinds is f i u) made

pub fault_made : (r : Resolved) (flags : ℕ) (keys : List AtomKey) (slots : Slots) (islands : IslandPlan) (unwinds : List KeptUnwind) (why : MakeFault) (refusal : Refusal) → IsResolved r → flags ≡ header_flags r.command.now r.libs.now r.symbols.now keys → islands ≡ no_islands → unwinds ≡ kept_unwinds keys (files_of r)
    → IsMade (scheme_of r flags keys slots islands unwinds) (Err why) → IsToldAs r.command.now (files_of r) why refusal → AsImage (making r.command.now r.libs.now (files_of r) r.symbols.now keys slots) (Err refusal)
unfolding making
fault_made r flags keys slots islands unwinds why refusal is f i u made told =
    (why, subst (λ (m : ImageInputs). IsMade m (Err why)) (same_scheme r flags keys slots islands unwinds is f i u) made, told)
