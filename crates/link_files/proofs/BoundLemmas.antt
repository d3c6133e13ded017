-- The slots that needs ask for, and what refers to something as resolved files have it.
use Rattle.std.proofs.Common.{◌≡◌, ◌++◌, inl, inr, map, List, Contains, Option, Result, Ok, Err, refl, subst, sym}
use Rattle.std.specs.Prelude.{IfOk}
use Rattle.std.specs.List.Sorted.{IsStrictlySortedBy}
use Rattle.std.specs.Option.{option_copied}
use Rattle.std.specs.Ordering.{on}
use Rattle.list_lemmas.proofs.Members.{Contains_from_in, from_map, in_either, in_from_Contains, in_left, in_map, in_right}
use Rattle.command_line.specs.declared.command.Command.{Command}
use Rattle.lib_bind.specs.declared.library.LibraryGraph.{LibraryGraph}
use Rattle.mo_types.specs.Keys.{compare_files}
use Rattle.mo_types.specs.Loaded.{IsWholeLoaded}
use Rattle.mo_types.specs.declared.goal.Goal.{Goal}
use Rattle.mo_types.specs.declared.key.AtomKey.{AtomKey}
use Rattle.mo_types.specs.declared.loaded.Loaded.{Loaded}
use Rattle.mo_types.specs.declared.loaded.LoadedFile.{LoadedFile}
use Rattle.ref_meet.specs.Binds.{binds}
use Rattle.resolve.specs.Goals.{goal_of_name, goal_table}
use Rattle.resolve.specs.Table.{Tabled, goals_of}
use Rattle.slot_needs.specs.Needs.{AreSame, needs, needs_of}
use Rattle.slot_needs.specs.Unmet.{unmet, unmet_of}
use Rattle.slot_needs.specs.declared.referring.Referring.{Referring}
use Rattle.slot_needs.proofs.SlotLemmas.{slots_same}
use Rattle.slot_plan.specs.Slots.{AreSlots, in_got, in_stubs, in_tlv, needed}
use Rattle.slot_plan.specs.declared.list.Slots.{Slots}
use Rattle.slot_plan.specs.declared.need.Need.{Need}
use Rattle.symbol_winners.specs.SymbolTable.{SymbolTable}
use Rattle.symbol_winners.proofs.OneListLemmas.{rising_from_pairs}
use Rattle.unwind_link.specs.Personalities.{slot_need}
use Rattle.link_files.specs.Bound.{AreSlotsFor, start_of}

-- slots that serve the same needs serve them all
pub served : {E : Type 0} (needs few : List Need) (result : Result Slots E) → AreSame needs few → IfOk result (λ slots. AreSlots (needed in_got few) slots.got) → IfOk result (λ slots. AreSlots (needed in_stubs few) slots.stubs) → IfOk result (λ slots. AreSlots (needed in_tlv few) slots.tlv)
    → IfOk result (AreSlotsFor needs)
served needs few (Ok slots) same got stubs tlv = record {
  got = slots_same in_got needs few slots.got same got;
  stubs = slots_same in_stubs needs few slots.stubs same stubs;
  tlv = slots_same in_tlv needs few slots.tlv same tlv;
}
served needs few (Err e) same got stubs tlv = tt

-- ---- needs, with those of personalities

joined : (xs ys all more : List Need) → ((n : Need) → Contains xs n → Contains all n) → ((n : Need) → Contains ys n → Contains more n) → (n : Need) → Contains (xs ++ ys) n → Contains (all ++ more) n
joined xs ys all more first second n h = elim (in_either xs ys n (in_from_Contains (xs ++ ys) n h)) [
  | inl left ↦ Contains_from_in (all ++ more) n (in_left all more n (in_from_Contains all n (first n (Contains_from_in xs n left))))
  | inr right ↦ Contains_from_in (all ++ more) n (in_right all more n (in_from_Contains more n (second n (Contains_from_in ys n right))))
]

slots_needed : (goals listed : List Goal) → ((goal : Goal) → Contains goals goal → Contains listed goal) → (n : Need) → Contains (map slot_need goals) n → Contains (map slot_need listed) n
slots_needed goals listed within n h =
    let from = from_map slot_need goals n (in_from_Contains (map slot_need goals) n h) in
    subst (Contains (map slot_need listed)) from.2
    (Contains_from_in (map slot_need listed) (slot_need from.0) (in_map slot_need listed from.0 (in_from_Contains listed from.0 (within from.0 (Contains_from_in goals from.0 from.1)))))

-- the needs of goals are those of the listed ones
pub same_needs : (needs few : List Need) (goals listed : List Goal) → AreSame needs few → AreSlots goals listed → AreSame (needs ++ map slot_need goals) (few ++ map slot_need listed)
same_needs needs few goals listed same are = record {
  all = joined needs (map slot_need goals) few (map slot_need listed) same.all (slots_needed goals listed are.all);
  only = joined few (map slot_need listed) needs (map slot_need goals) same.only (slots_needed listed goals are.only);
}

-- slots that serve needs with those of the listed goals serve them with those of all
pub served_all : {E : Type 0} (needs few all : List Need) (listed : List Goal) (result : Result Slots E) → AreSame needs few → all ≡ few ++ map slot_need listed → IfOk result (λ slots. AreSlots (needed in_got all) slots.got) → IfOk result (λ slots. AreSlots (needed in_stubs all) slots.stubs) → IfOk result (λ slots. AreSlots (needed in_tlv all) slots.tlv)
    → IfOk result (λ slots. (goals : List Goal) → AreSlots goals listed → AreSlotsFor (needs ++ map slot_need goals) slots)
served_all {E = E} needs few all listed (Ok slots) same is got stubs tlv = λ goals are.
    served {E = E} (needs ++ map slot_need goals) all (Ok slots) (subst (AreSame (needs ++ map slot_need goals)) (sym is) (same_needs needs few goals listed same are)) got stubs tlv
served_all needs few all listed (Err e) same is got stubs tlv = tt

-- ---- what refers to something

-- what refers to something: these files, goals, symbols and keys, and this entry
pub record Refers (r : Referring) (loaded : Loaded) (goals : Tabled) (symbols : SymbolTable) (keys : List AtomKey) (entry : Option Goal) : Type 0 where
  pub of_loaded : r.loaded.now ≡ loaded
  pub of_goals : r.goals.now ≡ goals
  pub of_symbols : r.symbols.now ≡ symbols
  pub of_keys : r.keys.now ≡ keys
  pub of_entry : option_copied r.entry ≡ entry

-- its needs, its imports and its references that can't be met are those of files with these winners and kept atoms
pub record RefersIn (r : Referring) (command : Command) (libs : LibraryGraph) (files : List LoadedFile) (symbols : SymbolTable) (keys : List AtomKey) : Type 0 where
  pub needed : needs_of r ≡ needs symbols.literals keys (goal_table files libs command) files (start_of command (goal_of_name files libs command command.entry))
  pub bound : (slots : Slots) → binds r.loaded.now.files r.symbols.now.literals r.keys.now (goals_of r.goals.now) slots ≡ binds files symbols.literals keys (goal_table files libs command) slots
  pub unmet : unmet_of r ≡ unmet keys (goal_table files libs command) files

pub refers_in : (r : Referring) (command : Command) (libs : LibraryGraph) (loaded : Loaded) (goals : Tabled) (symbols : SymbolTable) (keys : List AtomKey) (entry : Goal) → Refers r loaded goals symbols keys (start_of command entry)
    → goals_of goals ≡ goal_table loaded.files libs command → entry ≡ goal_of_name loaded.files libs command command.entry → RefersIn r command libs loaded.files symbols keys
refers_in r command libs loaded goals symbols keys entry is table start = record {
  needed = rw (is.of_loaded, is.of_goals, is.of_symbols, is.of_keys, is.of_entry, table, start) refl;
  bound = λ slots. rw (is.of_loaded, is.of_goals, is.of_symbols, is.of_keys, table) refl;
  unmet = rw (is.of_loaded, is.of_goals, is.of_keys, table) refl;
}

-- the files of whole loaded ones rise
abbrev AreRisingFiles : List LoadedFile → Type 0
AreRisingFiles files = IsStrictlySortedBy (on (λ (file : LoadedFile). file.id) compare_files) files

pub files_rise : (r : Referring) (loaded : Loaded) → r.loaded.now ≡ loaded → IsWholeLoaded loaded → IsStrictlySortedBy (on (λ (file : LoadedFile). file.id) compare_files) r.loaded.now.files
files_rise r loaded is whole = subst (λ (l : Loaded). AreRisingFiles l.files) (sym is) (rising_from_pairs (on (λ (file : LoadedFile). file.id) compare_files) loaded.files whole.rises)
