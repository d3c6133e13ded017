-- The inputs of a command, by rising positions.
use Rattle.std.proofs.Common.{◌≡◌, ℕ, ◌+◌, ◌<◌, ◌≤◌, Bool, List, [], ◌∷◌, ◌++◌, All, length, map, drop, get_or, inl, inr, refl, sym, ap, ◌∙◌, subst, arith}
use Rattle.std.specs.List.{AllByRecursion}
use Rattle.std.specs.List.Sorted.{IsStrictlySortedBy}
use Rattle.std.specs.Ordering.{nat_cmp}
use Rattle.std.specs.Cmp.{nat_cmp_is}
use Rattle.std.specs.declared.cmp.Ordering.TheVariants.{Less}
use Rattle.std.proofs.lemmas.List.{append-nil, drop_all}
use Rattle.list_lemmas.proofs.Members.{In}
use Rattle.list_lemmas.proofs.Places.{from_here}
use Rattle.input_fetch.specs.declared.content.Content.{Content}
use Rattle.input_files.specs.Sources.{AreInOrder}
use Rattle.input_files.specs.declared.input.Input.{Input}
use Rattle.input_files.proofs.EachLemmas.{all_from}
use Rattle.command_line.specs.declared.command.Command.{Command}
use Rattle.command_line.specs.declared.command.CommandInput.{CommandInput}
use Rattle.link_engine.specs.Input.{input_at, inputs_from, inputs_with}

-- ---- they rise

above : (all : Bool) (low at : ℕ) (inputs : List CommandInput) (contents : List Content) → low < at → AllByRecursion (λ p. nat_cmp low p ≡ Less) (map (λ (input : Input). input.position) (inputs_from all at inputs contents))
above all low at [] contents less = tt
above all low at (input ∷ inputs) [] less = tt
above all low at (input ∷ inputs) (content ∷ contents) less = (sym (nat_cmp_is low at Less less), above all low (at + 1) inputs contents (omega arith))

rising : (all : Bool) (at : ℕ) (inputs : List CommandInput) (contents : List Content) → AreInOrder (inputs_from all at inputs contents)
unfolding IsStrictlySortedBy
rising all at [] contents = tt
rising all at (input ∷ inputs) [] = tt
rising all at (input ∷ inputs) (content ∷ contents) = (above all at (at + 1) inputs contents (omega arith), rising all (at + 1) inputs contents)

pub inputs_rise : (command : Command) (contents : List Content) → AreInOrder (inputs_with command contents)
inputs_rise command contents = rising command.all_load 0 command.inputs contents

pub made_rise : (command : Command) (contents : List Content) (made : List Input) → made ≡ inputs_with command contents → AreInOrder made
made_rise command contents made is = subst AreInOrder (sym is) (inputs_rise command contents)

-- ---- their positions

below_from : (all : Bool) (at : ℕ) (inputs : List CommandInput) (contents : List Content) (input : Input) → In input (inputs_from all at inputs contents) → input.position < at + length inputs
below_from all at [] contents input there = absurd there
below_from all at (one ∷ inputs) [] input there = absurd there
below_from all at (one ∷ inputs) (content ∷ contents) input (inl e) = let same : at ≡ input.position = ap (λ (i : Input). i.position) e in omega (arith, same)
below_from all at (one ∷ inputs) (content ∷ contents) input (inr later) = let low : input.position < at + 1 + length inputs = below_from all (at + 1) inputs contents input later in omega (arith, low)

pub made_below : (command : Command) (contents : List Content) (made : List Input) → made ≡ inputs_with command contents → All (λ input. input.position < length command.inputs) made
made_below command contents made is = all_from (λ (input : Input). input.position < length command.inputs) made (λ input there.
    let low : input.position < 0 + length command.inputs = below_from command.all_load 0 command.inputs contents input (subst (λ (all : List Input). In input all) is there) in
    omega (arith, low))

-- ---- the loop that makes them

-- the inputs before a place were made
pub record AreMade (command : Command) (contents : List Content) (made : List Input) (at : ℕ) : Type 0 where
  pub same : made ++ inputs_from command.all_load at (drop at command.inputs) (drop at contents) ≡ inputs_with command contents

pub make_starts : (command : Command) (contents : List Content) → AreMade command contents [] 0
make_starts command contents = record { same = refl }

pub make_more : (command : Command) (contents : List Content) (made new : List Input) (at : ℕ) (input : CommandInput) (content : Content) (one : Input) → AreMade command contents made at → at < length command.inputs → length contents ≡ length command.inputs → input ≡ get_or command.inputs at input → content ≡ get_or contents at content
    → one ≡ input_at command.all_load at input content → new ≡ made ++ one ∷ [] → AreMade command contents new (at + 1)
make_more command contents made new at input content one are low size is here same more =
    let all : Bool = command.all_load in
    let inputs : List CommandInput = command.inputs in
    let front : inputs_from all at (drop at inputs) (drop at contents) ≡ one ∷ inputs_from all (at + 1) (drop (at + 1) inputs) (drop (at + 1) contents) =
    ap (λ (xs : List CommandInput). inputs_from all at xs (drop at contents)) (from_here inputs at input low is)
    ∙ ap (λ (xs : List Content). inputs_from all at (input ∷ drop (at + 1) inputs) xs) (from_here contents at content (omega (arith, low, size)) here)
    ∙ ap (λ (x : Input). x ∷ inputs_from all (at + 1) (drop (at + 1) inputs) (drop (at + 1) contents)) (sym same) in
    record {
      same =
          ap (λ (xs : List Input). xs ++ inputs_from all (at + 1) (drop (at + 1) inputs) (drop (at + 1) contents)) more
          ∙ joined made one (inputs_from all (at + 1) (drop (at + 1) inputs) (drop (at + 1) contents))
          ∙ ap (λ (xs : List Input). made ++ xs) (sym front)
          ∙ are.same;
    }
  where
    joined : (xs : List Input) (x : Input) (ys : List Input) → (xs ++ x ∷ []) ++ ys ≡ xs ++ x ∷ ys
    joined [] x ys = refl
    joined (z ∷ xs) x ys = ap (λ (zs : List Input). z ∷ zs) (joined xs x ys)

pub make_ends : (command : Command) (contents : List Content) (made : List Input) (at : ℕ) → AreMade command contents made at → length command.inputs ≤ at → made ≡ inputs_with command contents
make_ends command contents made at are past =
    sym (append-nil made)
    ∙ ap (λ (xs : List CommandInput). made ++ inputs_from command.all_load at xs (drop at contents)) (sym (drop_all at command.inputs past))
    ∙ are.same

pub ruleset makes = (make_starts, make_more, make_ends, made_rise, made_below)
