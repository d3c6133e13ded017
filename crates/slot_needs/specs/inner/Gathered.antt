-- Needs that are gathered reference by reference.
use Rattle.std.specs.Prelude.{ℕ, ◌≡◌, ◌⊎◌, Bool, true, false, List, [], ◌∷◌, Some, Contains, slice_get, if◌then◌else◌}
use Rattle.std.specs.List.{enumerate_from, filter, filter_map, flat_map}
use Rattle.mark_core.specs.Kept.{has as keeps}
use Rattle.literal_merge.specs.declared.representative.Representative.{Representative}
use Rattle.mo_types.specs.declared.goal.Goal.{Goal}
use Rattle.mo_types.specs.declared.key.AtomKey.{AtomKey}
use Rattle.mo_types.specs.declared.loaded.LoadedFile.{LoadedFile}
use Rattle.mo_types.specs.declared.reference.Ref.{Ref}
use Rattle.resolve.specs.Table.{goals_of}
use Rattle.slot_plan.specs.declared.need.Need.{Need}
use Rattle.slot_plan.specs.declared.need.Way.{Way}
use Rattle.slot_plan.specs.declared.need.Way.TheVariants.{Got, Stub, Tlv}
use Rattle.slot_needs.specs.Needs.{need_of}
use Rattle.slot_needs.specs.Needs as spec
use Rattle.slot_needs.specs.declared.referring.Referring.{Referring}
use Rattle.slot_needs.specs.declared.ways.Ways.{Ways}

-- a way is among some
abbrev pub has : Ways → Way → Bool
has ways Got = ways.got
has ways Stub = ways.stub
has ways Tlv = ways.tlv

abbrev pub no_way : Ways
no_way = record { got = false; stub = false; tlv = false }

-- with a way more
abbrev pub with_way : Ways → Way → Ways
with_way ways Got = record ways { got = true }
with_way ways Stub = record ways { stub = true }
with_way ways Tlv = record ways { tlv = true }

-- needs so far, and the pool of goals, of which it is known which were needed
pub record Gathered : Type 0 where
  pub pool : List Goal
  pub needs : List Need

abbrev pub need : Goal → Way → Need
need goal way = record { goal = goal; way = way }

-- what is noted of a goal of the pool is among the needs
abbrev pub AreNoted : List Goal → List Ways → List Need → Type 0
AreNoted pool seen needs =
    (place : ℕ) (ways : Ways) (goal : Goal) (way : Way) → slice_get seen place ≡ Some ways → slice_get pool place ≡ Some goal
    → has ways way ≡ true → Contains needs (need goal way)

-- needs, and these more
pub record Adds (before more after : List Need) : Type 0 where
  pub kept : (need : Need) → Contains before need → Contains after need
  pub all : (need : Need) → Contains more need → Contains after need
  pub only : (need : Need) → Contains after need → Contains before need ⊎ Contains more need

-- a need of a reference's atom, where that is kept
abbrev pub kept_need : List AtomKey → Ref → Need → List Need
kept_need keys r need = if keeps keys r.atom then need ∷ [] else []

-- those of some references
abbrev pub needs_among : List Representative → List AtomKey → List Goal → List Ref → List Need
needs_among literals keys goals refs = filter_map (need_of literals goals) (filter (λ r. keeps keys r.atom) refs)

-- those of the file at a place, and of all files
abbrev pub needs_at : Referring → ℕ → LoadedFile → List Need
needs_at r at file = spec.needs_at r.symbols.now.literals r.keys.now (goals_of r.goals.now) (at, file)

abbrev pub file_needs : Referring → List Need
file_needs r = flat_map (spec.needs_at r.symbols.now.literals r.keys.now (goals_of r.goals.now)) (enumerate_from 0 r.loaded.now.files)
