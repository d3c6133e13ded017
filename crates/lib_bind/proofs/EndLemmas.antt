-- What libraries are bound to has one end.
use Rattle.std.proofs.Common.{◌≡◌, ℕ, zero, suc, ◌+◌, ◌≤◌, ◌++◌, List, [], length, take, Option, Result, Ok, Err, refl, sym, ap, ◌∙◌, subst, arith, append_assoc}
use Rattle.std.proofs.lemmas.List.{append-nil, take-append-le, take_all}
use Rattle.std.proofs.lemmas.Option.{slice_get_past}
use Rattle.file_cache.specs.Program.{File, Outcome, Program, ◌>>=◌, and_then, ends}
use Rattle.command_line.specs.declared.command.Command.{Command}
use Rattle.lib_bind.specs.Closing.{begun, chosen_of}
use Rattle.lib_bind.specs.Closure.{Bound, IsLast, after, bound_after, met, step}
use Rattle.lib_bind.specs.declared.bind_fault.BindFault.{BindFault}
use Rattle.lib_bind.specs.declared.choosing.Chosen.{Chosen}
use Rattle.lib_bind.specs.declared.closing.Closing.{Closing}
use Rattle.lib_bind.specs.declared.named.NamedStub.{NamedStub}

-- ---- the parts of what is bound

abbrev pub bound_of : Chosen → Closing → Bound
bound_of chosen closing = record { libraries = chosen.libraries; closing = closing }

abbrev pub start_of : Chosen → Closing
start_of chosen = begun chosen.libraries chosen.heads chosen.files

abbrev pub closed_of : Command → ℕ → Chosen → Program Closing BindFault
closed_of command count chosen = after command.syslibroot chosen.heads count (start_of chosen)

abbrev pub bound_by : Command → ℕ → Chosen → Program Bound BindFault
bound_by command count chosen = closed_of command count chosen >>= λ closing. ends (Ok (bound_of chosen closing))

pub bound_is : (command : Command) (named : List NamedStub) (count : ℕ) (look : List ℕ → File) → bound_after command named count look ≡ (ends (chosen_of command named) >>= bound_by command count) look
unfolding bound_after
bound_is command named count look = refl

abbrev given : Bound → Result Bound BindFault
given bound = Ok bound

pub same_value : (one other : Bound) → given one ≡ given other → one ≡ other
same_value one other is = cc

-- what was bound was made of libraries that were chosen, and of documents that were found
pub record IsMade (command : Command) (named : List NamedStub) (count : ℕ) (look : List ℕ → File) (bound : Bound) : Type 0 where
  pub chosen : Chosen
  pub closing : Closing
  pub chosen_is : chosen_of command named ≡ Ok chosen
  pub closing_is : (closed_of command count chosen look).end ≡ Ok closing
  pub is : bound_of chosen closing ≡ bound

pub made_of : (command : Command) (named : List NamedStub) (count : ℕ) (look : List ℕ → File) (bound : Bound) → (bound_after command named count look).end ≡ Ok bound → IsMade command named count look bound
made_of command named count look bound is = by (chosen_of command named) refl (sym (ap (λ (o : Outcome Bound BindFault). o.end) (bound_is command named count look)) ∙ is)
  where
    close : (chosen : Chosen) (closed : Result Closing BindFault) → chosen_of command named ≡ Ok chosen → (closed_of command count chosen look).end ≡ closed
        → (and_then (closed_of command count chosen look).tried closed (λ closing. ends (Ok (bound_of chosen closing)) look)).end ≡ Ok bound → IsMade command named count look bound
    close chosen (Ok closing) e f whole = record { chosen = chosen; closing = closing; chosen_is = e; closing_is = f; is = same_value (bound_of chosen closing) bound whole }
    close chosen (Err why) e f whole = absurd cc

    by : (chosen : Result Chosen BindFault) → chosen_of command named ≡ chosen → (and_then [] chosen (λ one. bound_by command count one look)).end ≡ Ok bound → IsMade command named count look bound
    by (Ok chosen) e whole = close chosen (closed_of command count chosen look).end e refl whole
    by (Err why) e whole = absurd cc

-- ---- where nothing is left, nothing changes

abbrev outcome : {A : Type 0} → List (List ℕ) → Result A BindFault → Outcome A BindFault
outcome tried end = record { tried = tried; end = end }

abbrev IsStill : ℕ → Result Closing BindFault → Type 0
IsStill count (Ok closing) = length closing.work ≤ count
IsStill count (Err why) = Unit {0}

step_past : (root : Option (List ℕ)) (heads : List (List ℕ × ℕ)) (at : ℕ) (closing : Closing) (look : List ℕ → File) → length closing.work ≤ at → step root heads at closing look ≡ ends (Ok closing) look
unfolding step
step_past root heads at closing look past = ap (λ request. met root heads request closing look) (slice_get_past closing.work at past)

nothing_more : (root : Option (List ℕ)) (heads : List (List ℕ × ℕ)) (count at : ℕ) (look : List ℕ → File) (tried : List (List ℕ)) (end : Result Closing BindFault) → IsStill count end → count ≤ at
    → and_then tried end (λ closing. step root heads at closing look) ≡ outcome tried end
nothing_more root heads count at look tried (Err why) still low = refl
nothing_more root heads count at look tried (Ok closing) still low =
    let past : length closing.work ≤ at = omega (arith, still, low) in
    ap (λ (o : Outcome Closing BindFault). outcome (tried ++ o.tried) o.end) (step_past root heads at closing look past)
    ∙ ap (λ (paths : List (List ℕ)). outcome paths (Ok closing)) (append-nil tried)

stays : (root : Option (List ℕ)) (heads : List (List ℕ × ℕ)) (start : Closing) (look : List ℕ → File) (more count : ℕ)
    → IsStill count (after root heads count start look).end → after root heads (more + count) start look ≡ after root heads count start look
stays root heads start look zero count still =
    let none : 0 + count ≡ count = omega arith in
    ap (λ n. after root heads n start look) none
stays root heads start look (suc more) count still =
    let one : suc more + count ≡ suc (more + count) = omega arith in
    let low : count ≤ more + count = omega arith in
    ap (λ n. after root heads n start look) one
    ∙ ap (λ (o : Outcome Closing BindFault). and_then o.tried o.end (λ closing. step root heads (more + count) closing look)) (stays root heads start look more count still)
    ∙ nothing_more root heads count (more + count) look (after root heads count start look).tried (after root heads count start look).end still low

still_of : (command : Command) (count : ℕ) (chosen : Chosen) (tried : List (List ℕ)) (look : List ℕ → File) (closed : Result Closing BindFault)
    → IsLast count (and_then tried closed (λ closing. ends (Ok (bound_of chosen closing)) look)).end → IsStill count closed
still_of command count chosen tried look (Ok closing) last = last
still_of command count chosen tried look (Err why) last = tt

bound_by_stays : (command : Command) (chosen : Chosen) (more count : ℕ) (look : List ℕ → File) → IsLast count (bound_by command count chosen look).end → bound_by command (more + count) chosen look ≡ bound_by command count chosen look
bound_by_stays command chosen more count look last =
    ap (λ (o : Outcome Closing BindFault). and_then o.tried o.end (λ closing. ends (Ok (bound_of chosen closing)) look))
    (stays command.syslibroot chosen.heads (start_of chosen) look more count
    (still_of command count chosen (closed_of command count chosen look).tried look (closed_of command count chosen look).end last))

chosen_stays : (command : Command) (more count : ℕ) (look : List ℕ → File) (chosen : Result Chosen BindFault) → IsLast count (and_then [] chosen (λ one. bound_by command count one look)).end
    → and_then [] chosen (λ one. bound_by command (more + count) one look) ≡ and_then [] chosen (λ one. bound_by command count one look)
chosen_stays command more count look (Err why) last = refl
chosen_stays command more count look (Ok chosen) last =
    ap (λ (o : Outcome Bound BindFault). outcome ([] ++ o.tried) o.end) (bound_by_stays command chosen more count look last)

pub bound_stays : (look : List ℕ → File) (command : Command) (named : List NamedStub) (more count : ℕ) → IsLast count (bound_after command named count look).end → bound_after command named (more + count) look ≡ bound_after command named count look
unfolding bound_after
bound_stays look command named more count last = chosen_stays command more count look (chosen_of command named) last

pub ruleset ends_once = (bound_stays)

-- ---- what is tried goes on

-- some paths are the first ones of others
record Fronts (some all : List (List ℕ)) : Type 0 where
  rest : List (List ℕ)
  is : all ≡ some ++ rest

front_take : (some all : List (List ℕ)) → Fronts some all → some ≡ take (length some) all
front_take some all fronts =
    sym (ap (take (length some)) fronts.is ∙ take-append-le (length some) some fronts.rest (omega arith) ∙ take_all (length some) some (omega arith))

front_then : (a b c : List (List ℕ)) → Fronts a b → Fronts b c → Fronts a c
front_then a b c first second = record {
  rest = first.rest ++ second.rest;
  is = second.is ∙ ap (λ (paths : List (List ℕ)). paths ++ second.rest) first.is ∙ append_assoc a first.rest second.rest;
}

front_next : {A B : Type 0} (tried : List (List ℕ)) (end : Result A BindFault) (next : A → Outcome B BindFault) → Fronts tried (and_then tried end next).tried
front_next tried (Ok x) next = record { rest = (next x).tried; is = refl }
front_next tried (Err why) next = record { rest = []; is = sym (append-nil tried) }

after_fronts : (root : Option (List ℕ)) (heads : List (List ℕ × ℕ)) (start : Closing) (look : List ℕ → File) (more count : ℕ) → Fronts (after root heads count start look).tried (after root heads (more + count) start look).tried
after_fronts root heads start look zero count = record {
  rest = [];
  is = (let none : 0 + count ≡ count = omega arith in ap (λ n. (after root heads n start look).tried) none) ∙ sym (append-nil (after root heads count start look).tried);
}
after_fronts root heads start look (suc more) count =
    let one : suc (more + count) ≡ suc more + count = omega arith in
    subst (λ (n : ℕ). Fronts (after root heads count start look).tried (after root heads n start look).tried) one
    (front_then (after root heads count start look).tried (after root heads (more + count) start look).tried (after root heads (suc (more + count)) start look).tried (after_fronts root heads start look more count)
    (front_next (after root heads (more + count) start look).tried (after root heads (more + count) start look).end (λ closing. step root heads (more + count) closing look)))

-- to make the end of documents tries nothing
end_tried : (chosen : Chosen) (look : List ℕ → File) (tried : List (List ℕ)) (closed : Result Closing BindFault) → tried ≡ (and_then tried closed (λ closing. ends (Ok (bound_of chosen closing)) look)).tried
end_tried chosen look tried (Ok closing) = sym (append-nil tried)
end_tried chosen look tried (Err why) = refl

by_tried : (command : Command) (count : ℕ) (chosen : Chosen) (look : List ℕ → File) → (closed_of command count chosen look).tried ≡ (bound_by command count chosen look).tried
by_tried command count chosen look = end_tried chosen look (closed_of command count chosen look).tried (closed_of command count chosen look).end

chosen_fronts : (command : Command) (more count : ℕ) (look : List ℕ → File) (chosen : Result Chosen BindFault)
    → Fronts (and_then [] chosen (λ one. bound_by command count one look)).tried (and_then [] chosen (λ one. bound_by command (more + count) one look)).tried
chosen_fronts command more count look (Err why) = record { rest = []; is = refl }
chosen_fronts command more count look (Ok chosen) =
    let some : (closed_of command count chosen look).tried ≡ (bound_by command count chosen look).tried = by_tried command count chosen look in
    let all : (closed_of command (more + count) chosen look).tried ≡ (bound_by command (more + count) chosen look).tried = by_tried command (more + count) chosen look in
    subst (λ (paths : List (List ℕ)). Fronts paths (bound_by command (more + count) chosen look).tried) some
    (subst (Fronts (closed_of command count chosen look).tried) all (after_fronts command.syslibroot chosen.heads (start_of chosen) look more count))

pub tried_goes_on : (look : List ℕ → File) (command : Command) (named : List NamedStub) (more count : ℕ)
    → (bound_after command named count look).tried ≡ take (length (bound_after command named count look).tried) (bound_after command named (more + count) look).tried
unfolding bound_after
tried_goes_on look command named more count =
    front_take (bound_after command named count look).tried (bound_after command named (more + count) look).tried (chosen_fronts command more count look (chosen_of command named))
