-- Which entry leaves unwinding to `__eh_frame`, and how many personalities there are, is told, and in one way.
use Rattle.std.proofs.Common.{◌≡◌, ◌≢◌, ◌<◌, ◌≤◌, Bool, true, false, nat_lt, fold, length, List, [], Option, Some, None, refl, sym, ap, ◌∙◌, subst, arith, All}
use Rattle.std.specs.Ordering.{nat_cmp}
use Rattle.std.specs.declared.cmp.Ordering.TheVariants.{Equal, Greater}
use Rattle.std.specs.Cmp.{IsTotalOrder}
use Rattle.std.proofs.lemmas.Bool.{ltb-false, ltb-true}
use Rattle.std.proofs.lemmas.Cmp.{nat_cmp_total, on_total, then_total}
use Rattle.list_lemmas.proofs.Members.{In, in_from_Contains}
use Rattle.list_lemmas.proofs.Ties.{tied_first}
use Rattle.atom_index.proofs.Keys.{same_key}
use Rattle.mo_types.proofs.Goals.{same_goal}
use Rattle.mo_types.proofs.KeyOrder.{compare_keys_total}
use Rattle.mo_types.specs.GoalOrder.{compare_goals_total}
use Rattle.mo_types.specs.Keys.{compare_keys}
use Rattle.mo_types.specs.declared.answer.Refusal.{Refusal}
use Rattle.mo_types.specs.declared.answer.Refusal.TheVariants.{Limit, Unsupported}
use Rattle.mo_types.specs.declared.cause.Feature.TheVariants.{EhFrame}
use Rattle.mo_types.specs.declared.cause.Which.TheVariants.{Personalities}
use Rattle.mo_types.specs.declared.goal.Goal.{Goal}
use Rattle.mo_types.specs.declared.key.AtomKey.{AtomKey}
use Rattle.mo_types.specs.declared.loaded.LoadedFile.{LoadedFile}
use Rattle.slot_plan.proofs.Ordered.{one_list}
use Rattle.slot_plan.specs.Slots.{AreSlots}
use Rattle.sort_lemmas.proofs.Sorting.{rising_exists}
use Rattle.slot_plan.specs.declared.list.Slots.{Slots}
use Rattle.symbol_winners.specs.SymbolTable.{SymbolTable}
use Rattle.resolve.specs.Goals.{goal_table}
use Rattle.lib_bind.specs.declared.library.LibraryGraph.{LibraryGraph}
use Rattle.command_line.specs.declared.command.Command.{Command}
use Rattle.image_make.specs.Frames.{HaveFrames}
use Rattle.input_files.specs.Files.{HasUnwinds}
use Rattle.unwind_link.proofs.LeastLemmas.{is_first}
use Rattle.unwind_link.specs.Dwarf.{IsFirst, compare_kept, dwarfs}
use Rattle.unwind_link.specs.Personalities.{most_personalities}
use Rattle.unwind_link.specs.declared.kept.KeptUnwind.{KeptUnwind}
use Rattle.unwind_link.specs.inner.Least.{lesser}
use Rattle.link_files.specs.Linked.{making}
use Rattle.link_files.specs.Names.{label_of}
use Rattle.link_files.specs.Unwinding.{AreFewPersonalities, AreManyPersonalities, ArePersonalitiesTold, IsEhFrameTold, LeavesToEhFrame, handlers}
use Rattle.link_files.proofs.Lists.{neither_after}

-- ---- frames in `__eh_frame`

pub eh_frame_exists : (files : List LoadedFile) (unwinds : List KeptUnwind) → (found : Option Refusal) × IsEhFrameTold files unwinds found
eh_frame_exists files unwinds = by (fold lesser None (dwarfs unwinds)) (is_first (dwarfs unwinds))
  where
    by : (found : Option KeptUnwind) → IsFirst (dwarfs unwinds) found → (told : Option Refusal) × IsEhFrameTold files unwinds told
    by None none = (None, none)
    by (Some first) is = (
      Some (Unsupported (label_of files first.unwind.atom.file) EhFrame),
      record { first = first; among = is.0; least = is.1; told = refl },
    )

kept_total : IsTotalOrder compare_kept
unfolding compare_kept
kept_total = then_total (on_total (λ (k : KeptUnwind). k.unwind.atom) compare_keys_total) (on_total (λ (k : KeptUnwind). k.unwind.offset) nat_cmp_total)

tied : (a b : KeptUnwind) → compare_kept a b ≢ Greater → compare_kept b a ≢ Greater → a.unwind.atom ≡ b.unwind.atom
unfolding compare_kept
tied a b first second =
    let same : compare_kept a b ≡ Equal = neither_after kept_total a b first second in
    same_key a.unwind.atom b.unwind.atom (tied_first (compare_keys a.unwind.atom b.unwind.atom) (nat_cmp a.unwind.offset b.unwind.offset) same)

told_alike : (files : List LoadedFile) (unwinds : List KeptUnwind) (a b : Refusal) → LeavesToEhFrame files unwinds a → LeavesToEhFrame files unwinds b → a ≡ b
told_alike files unwinds a b p q =
    p.told
    ∙ ap (λ (key : AtomKey). Unsupported (label_of files key.file) EhFrame) (tied p.first q.first (p.least q.first q.among) (q.least p.first p.among))
    ∙ sym q.told

never_told : (files : List LoadedFile) (unwinds : List KeptUnwind) (why : Refusal) → dwarfs unwinds ≡ [] → LeavesToEhFrame files unwinds why → ⊥
never_told files unwinds why none leaves = subst (λ (ks : List KeptUnwind). In leaves.first ks) none (in_from_Contains (dwarfs unwinds) leaves.first leaves.among)

pub eh_frame_same : (files : List LoadedFile) (unwinds : List KeptUnwind) (a b : Option Refusal) → IsEhFrameTold files unwinds a → IsEhFrameTold files unwinds b → a ≡ b
eh_frame_same files unwinds None None p q = refl
eh_frame_same files unwinds None (Some why) p q = absurd (never_told files unwinds why p q)
eh_frame_same files unwinds (Some why) None p q = absurd (never_told files unwinds why q p)
eh_frame_same files unwinds (Some a) (Some b) p q = ap Some (told_alike files unwinds a b p q)

-- ---- personalities

pub few_listed : (goals listed : List Goal) → AreSlots goals listed → ¬ (most_personalities < length listed) → AreFewPersonalities goals
few_listed goals listed are low = by (nat_lt most_personalities (length listed)) refl
  where
    by : (b : Bool) → nat_lt most_personalities (length listed) ≡ b → AreFewPersonalities goals
    by true less = absurd (low (ltb-true _ _ less))
    by false less = record { listed = listed; each = are; few = ltb-false _ _ less }

pub many_listed : (goals listed : List Goal) → AreSlots goals listed → most_personalities < length listed → AreManyPersonalities goals (Limit Personalities)
many_listed goals listed are many = record { listed = listed; each = are; many = many; told = refl }

pub ruleset personalities = (few_listed, many_listed)

pub personalities_exist : (goals : List Goal) → (found : Option Refusal) × ArePersonalitiesTold goals found
personalities_exist goals = by (nat_lt most_personalities (length listed)) refl
  where
    listed : List Goal
    listed = (rising_exists compare_goals_total same_goal goals).0

    are : AreSlots goals listed
    are = let rising = rising_exists compare_goals_total same_goal goals in record { rising = rising.1; all = rising.2; only = rising.3 }

    by : (b : Bool) → nat_lt most_personalities (length listed) ≡ b → (found : Option Refusal) × ArePersonalitiesTold goals found
    by true less = (Some (Limit Personalities), many_listed goals listed are (ltb-true _ _ less))
    by false less = (None, record { listed = listed; each = are; few = ltb-false _ _ less })

both : (goals : List Goal) (why : Refusal) → AreFewPersonalities goals → AreManyPersonalities goals why → ⊥
both goals why p q =
    let size : length p.listed ≡ length q.listed = ap length (one_list goals p.listed q.listed p.each q.each) in
    let few : length p.listed ≤ most_personalities = p.few in
    let many : most_personalities < length q.listed = q.many in
    omega (arith, size, few, many)

pub personalities_same : (goals : List Goal) (a b : Option Refusal) → ArePersonalitiesTold goals a → ArePersonalitiesTold goals b → a ≡ b
personalities_same goals None None p q = refl
personalities_same goals None (Some why) p q = absurd (both goals why p q)
personalities_same goals (Some why) None p q = absurd (both goals why q p)
personalities_same goals (Some a) (Some b) p q = ap Some (p.told ∙ sym q.told)

-- ---- what the image is made of

pub frames_of : (command : Command) (libs : LibraryGraph) (files : List LoadedFile) (symbols : SymbolTable) (keys : List AtomKey) (slots : Slots) → All HasUnwinds files
    → AreFewPersonalities (handlers symbols.literals keys (goal_table files libs command) files) → HaveFrames (making command libs files symbols keys slots)
unfolding making
frames_of command libs files symbols keys slots read few = record { kept = refl; read = read; handlers = few.listed; are_handlers = few.each; few = few.few }
