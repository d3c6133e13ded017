-- The personalities of entries, and what they need.
use Rattle.std.proofs.Common.{◌≡◌, ℕ, ◌+◌, ◌<◌, ◌≤◌, ◌⊎◌, inl, inr, List, [], ◌∷◌, ◌++◌, length, take, map, get_or, Some, None, Contains, refl, sym, ap, ◌∙◌, subst}
use Rattle.std.specs.List.{filter}
use Rattle.std.proofs.lemmas.List.{map-append, take_all, take_more}
use Rattle.std.proofs.lemmas.List.Elements.{filter-append, filter_map-append}
use Rattle.list_lemmas.proofs.Members.{Contains_from_in, from_last, in_either, in_from_Contains, in_left, in_right}
use Rattle.literal_merge.specs.declared.representative.Representative.{Representative}
use Rattle.mo_types.specs.declared.goal.Goal.{Goal}
use Rattle.mo_types.specs.declared.reference.Target.{Target}
use Rattle.slot_plan.specs.Slots.{AreSlots, in_got, needed}
use Rattle.slot_plan.specs.declared.need.Need.{Need}
use Rattle.unwind_link.specs.Goals.{goal_at}
use Rattle.unwind_link.specs.Personalities.{personality_goals, personality_of, slot_need}
use Rattle.unwind_link.specs.inner.Adds.{Adds}
use Rattle.unwind_link.specs.declared.kept.KeptUnwind.{KeptUnwind}

-- ---- goals, and more of them

none_in : {X : Type 0} (x : X) → Contains [] x → ⊥
none_in x h = in_from_Contains [] x h

adds_none : (gs : List Goal) → Adds gs [] gs
adds_none gs = record { kept = λ g h. h; all = λ g h. absurd (none_in g h); only = λ g h. inl h }

adds_more : (gs ms : List Goal) → Adds gs ms (gs ++ ms)
adds_more gs ms = record {
  kept = λ g h. Contains_from_in (gs ++ ms) g (in_left gs ms g (in_from_Contains gs g h));
  all = λ g h. Contains_from_in (gs ++ ms) g (in_right gs ms g (in_from_Contains ms g h));
  only = λ g h. elim (in_either gs ms g (in_from_Contains (gs ++ ms) g h)) [
    | inl before ↦ inl (Contains_from_in gs g before)
    | inr more ↦ inr (Contains_from_in ms g more)
  ];
}

pub adds_new : (before after : List Goal) (goal : Goal) → after ≡ before ++ goal ∷ [] → Adds before (goal ∷ []) after
adds_new before after goal is = subst (λ (gs : List Goal). Adds before (goal ∷ []) gs) (sym is) (adds_more before (goal ∷ []))

pub adds_known : (gs : List Goal) (goal : Goal) → Contains gs goal → Adds gs (goal ∷ []) gs
adds_known gs goal there = record { kept = λ m h. h; all = λ m h. by m (from_last [] goal m (in_from_Contains (goal ∷ []) m h)); only = λ m h. inl h }
  where
    by : (m : Goal) → ⊥ ⊎ (goal ≡ m) → Contains gs m
    by m (inl none) = absurd none
    by m (inr same) = subst (Contains gs) same there

adds_then : (a xs b ys c : List Goal) → Adds a xs b → Adds b ys c → Adds a (xs ++ ys) c
adds_then a xs b ys c p q = record {
  kept = λ g h. q.kept g (p.kept g h);
  all = λ g h. elim (in_either xs ys g (in_from_Contains (xs ++ ys) g h)) [
    | inl first ↦ q.kept g (p.all g (Contains_from_in xs g first))
    | inr second ↦ q.all g (Contains_from_in ys g second)
  ];
  only = λ g h. elim (q.only g h) [
    | inl before ↦ first g (p.only g before)
    | inr second ↦ inr (Contains_from_in (xs ++ ys) g (in_right xs ys g (in_from_Contains ys g second)))
  ];
}
  where
    first : (g : Goal) → Contains a g ⊎ Contains xs g → Contains a g ⊎ Contains (xs ++ ys) g
    first g (inl old) = inl old
    first g (inr new) = inr (Contains_from_in (xs ++ ys) g (in_left xs ys g (in_from_Contains xs g new)))

pub ruleset adds = (adds_new, adds_known)

-- ---- entry by entry

one_some : (literals : List Representative) (goals : List (List Goal)) (kept : KeptUnwind) (target : Target) → kept.unwind.personality ≡ Some target → personality_goals literals goals (kept ∷ []) ≡ goal_at literals goals kept.file target ∷ []
unfolding personality_goals
one_some literals goals kept target is = rw is refl

one_none : (literals : List Representative) (goals : List (List Goal)) (kept : KeptUnwind) → kept.unwind.personality ≡ None → personality_goals literals goals (kept ∷ []) ≡ []
unfolding personality_goals
one_none literals goals kept is = rw is refl

pub adds_one : (literals : List Representative) (goals : List (List Goal)) (kept : KeptUnwind) (target : Target) (goal : Goal) (before new : List Goal) → kept.unwind.personality ≡ Some target → goal ≡ goal_at literals goals kept.file target → Adds before (goal ∷ []) new → Adds before (personality_goals literals goals (kept ∷ [])) new
adds_one literals goals kept target goal before new is leads adds =
    subst (λ (gs : List Goal). Adds before gs new) (ap (λ (g : Goal). g ∷ []) leads ∙ sym (one_some literals goals kept target is)) adds

pub adds_no : (literals : List Representative) (goals : List (List Goal)) (kept : KeptUnwind) (before : List Goal) → kept.unwind.personality ≡ None → Adds before (personality_goals literals goals (kept ∷ [])) before
adds_no literals goals kept before is = subst (λ (gs : List Goal). Adds before gs before) (sym (one_none literals goals kept is)) (adds_none before)

pub ruleset one = (adds_one, adds_no)

goals-append : (literals : List Representative) (goals : List (List Goal)) (xs ys : List KeptUnwind) → personality_goals literals goals (xs ++ ys) ≡ personality_goals literals goals xs ++ personality_goals literals goals ys
unfolding personality_goals
goals-append literals goals xs ys = filter_map-append (personality_of literals goals) xs ys

pub entries_start : (literals : List Representative) (goals : List (List Goal)) (kept : List KeptUnwind) → Adds [] (personality_goals literals goals (take 0 kept)) []
unfolding personality_goals
entries_start literals goals kept = adds_none []

pub entries_go_on : (literals : List Representative) (goals : List (List Goal)) (kept : List KeptUnwind) (at : ℕ) (d : KeptUnwind) (now next : List Goal) → Adds [] (personality_goals literals goals (take at kept)) now → at < length kept → Adds now (personality_goals literals goals (get_or kept at d ∷ [])) next → Adds [] (personality_goals literals goals (take (at + 1) kept)) next
entries_go_on literals goals kept at d now next so low more =
    subst (λ (gs : List Goal). Adds [] gs next)
    (sym (goals-append literals goals (take at kept) (get_or kept at d ∷ [])) ∙ ap (personality_goals literals goals) (sym (take_more kept at d low)))
    (adds_then [] (personality_goals literals goals (take at kept)) now (personality_goals literals goals (get_or kept at d ∷ [])) next so more)

pub entries_end : (literals : List Representative) (goals : List (List Goal)) (kept : List KeptUnwind) (at : ℕ) (now : List Goal) → Adds [] (personality_goals literals goals (take at kept)) now → length kept ≤ at → Adds [] (personality_goals literals goals kept) now
entries_end literals goals kept at now so past = subst (λ (ks : List KeptUnwind). Adds [] (personality_goals literals goals ks) now) (take_all at kept past) so

pub ruleset entries = (entries_start, entries_end)

-- ---- their slots

pub needed_is : (goals : List Goal) → needed in_got (map slot_need goals) ≡ goals
unfolding needed
needed_is [] = refl
needed_is (goal ∷ goals) = ap (λ (gs : List Goal). goal ∷ gs) (needed_is goals)

same_slots : (all few slots : List Goal) → ((goal : Goal) → Contains all goal → Contains few goal) → ((goal : Goal) → Contains few goal → Contains all goal) → AreSlots few slots → AreSlots all slots
same_slots all few slots to from are = record {
  rising = are.rising;
  all = λ goal h. are.all goal (to goal h);
  only = λ goal h. from goal (are.only goal h);
}

only_more : (more after : List Goal) → Adds [] more after → (goal : Goal) → Contains after goal → Contains more goal
only_more more after adds goal h = elim (adds.only goal h) [ inl none ↦ absurd (none_in goal none) | inr there ↦ there ]

pub all_slots : (goals found : List Goal) (needs : List Need) (slots : List Goal) → Adds [] goals found → needs ≡ map slot_need found → AreSlots (needed in_got needs) slots → AreSlots goals slots
all_slots goals found needs slots adds is are =
    same_slots goals found slots adds.all (only_more goals found adds)
    (subst (λ (gs : List Goal). AreSlots gs slots) (ap (needed in_got) is ∙ needed_is found) are)

pub ruleset alls = (all_slots)

-- ---- slots of the listed personalities serve all entries

needed-append : (ns ms : List Need) → needed in_got (ns ++ ms) ≡ needed in_got ns ++ needed in_got ms
unfolding needed
needed-append ns ms =
    ap (map (λ (n : Need). n.goal)) (filter-append (λ (n : Need). in_got n.way) ns ms)
    ∙ map-append (λ (n : Need). n.goal) (filter (λ (n : Need). in_got n.way) ns) (filter (λ (n : Need). in_got n.way) ms)

beside : (xs ys zs : List Goal) → ((goal : Goal) → Contains ys goal → Contains zs goal) → (goal : Goal) → Contains (xs ++ ys) goal → Contains (xs ++ zs) goal
beside xs ys zs to goal h = elim (in_either xs ys goal (in_from_Contains (xs ++ ys) goal h)) [
  | inl first ↦ Contains_from_in (xs ++ zs) goal (in_left xs zs goal first)
  | inr second ↦ Contains_from_in (xs ++ zs) goal (in_right xs zs goal (in_from_Contains zs goal (to goal (Contains_from_in ys goal second))))
]

pub serves_all : (others : List Need) (goals listed slots : List Goal) → AreSlots goals listed → AreSlots (needed in_got (others ++ map slot_need listed)) slots → AreSlots (needed in_got (others ++ map slot_need goals)) slots
serves_all others goals listed slots are serves =
    let few : needed in_got (others ++ map slot_need listed) ≡ needed in_got others ++ listed = needed-append others (map slot_need listed) ∙ ap (λ (gs : List Goal). needed in_got others ++ gs) (needed_is listed) in
    let all : needed in_got (others ++ map slot_need goals) ≡ needed in_got others ++ goals = needed-append others (map slot_need goals) ∙ ap (λ (gs : List Goal). needed in_got others ++ gs) (needed_is goals) in
    subst (λ (gs : List Goal). AreSlots gs slots) (sym all)
    (same_slots (needed in_got others ++ goals) (needed in_got others ++ listed) slots (beside (needed in_got others) goals listed are.all) (beside (needed in_got others) listed goals are.only)
    (subst (λ (gs : List Goal). AreSlots gs slots) few serves))

-- ---- the needs of slots

pub needs_start : (goals : List Goal) → [] ≡ map slot_need (take 0 goals)
needs_start goals = refl

pub needs_go_on : (goals : List Goal) (at : ℕ) (goal d : Goal) (now next : List Need) → now ≡ map slot_need (take at goals) → at < length goals → goal ≡ get_or goals at d → next ≡ now ++ slot_need goal ∷ [] → next ≡ map slot_need (take (at + 1) goals)
needs_go_on goals at goal d now next so low is more =
    more ∙ ap (λ (ns : List Need). ns ++ slot_need goal ∷ []) so
    ∙ sym (map-append slot_need (take at goals) (goal ∷ []))
    ∙ ap (map slot_need) (ap (λ (g : Goal). take at goals ++ g ∷ []) is ∙ sym (take_more goals at d low))

pub needs_end : (goals : List Goal) (at : ℕ) (now : List Need) → now ≡ map slot_need (take at goals) → length goals ≤ at → now ≡ map slot_need goals
needs_end goals at now so past = so ∙ ap (map slot_need) (take_all at goals past)

pub ruleset slots_of = (needs_start, needs_go_on, needs_end)
