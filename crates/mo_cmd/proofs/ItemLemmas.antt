-- The items of each field are those of its parts.
use Rattle.std.proofs.Common.{◌≡◌, ℕ, ◌-◌, ◌∷◌, [], List, length, map, Bool, true, false, cond, Option, Some, None, refl, sym, ap, ◌∙◌}
use Rattle.std.specs.Prelude.{slice_get, slice_index_or}
use Rattle.std.specs.Option.{option_map}
use Rattle.std.proofs.lemmas.Option.{slice_get-map}
use Rattle.std.proofs.lemmas.List.{length-map}
use Rattle.mo_cmd.specs.declared.options.CommandField.{CommandField}
use Rattle.mo_cmd.specs.declared.options.CommandField.TheVariants.{Inputs}
use Rattle.mo_cmd.specs.declared.parts.Part.{Part}
use Rattle.mo_cmd.specs.declared.sorted.Sorted.{Sorted}
use Rattle.mo_cmd.specs.Items.{Item, item_of, values_at, value_of}
use Rattle.mo_cmd.specs.Command.{gives, given, last, last_of, last_values, value_number, last_option, all_values, parts_for, input_of, inputs_of}
use Rattle.mo_cmd.specs.Sorted.{sorted_items}

chosen : (test : Bool) (words : List (List ℕ)) (part : Part) (items : List Item) (parts : List Part) → items ≡ map (item_of words) parts
    → cond test (item_of words part ∷ items) items ≡ map (item_of words) (cond test (part ∷ parts) parts)
chosen true words part items parts same = ap (λ rest. item_of words part ∷ rest) same
chosen false words part items parts same = same

pub given_parts : (wanted : CommandField) (words : List (List ℕ)) (parts : List Part) → given wanted (map (item_of words) parts) ≡ map (item_of words) (parts_for wanted parts)
given_parts wanted words [] = refl
given_parts wanted words (part ∷ parts) = chosen (gives wanted part.option) words part (given wanted (map (item_of words) parts)) (parts_for wanted parts) (given_parts wanted words parts)

last_map : {A B : Type 0} (f : A → B) (xs : List A) → last (map f xs) ≡ option_map f (last xs)
last_map f xs = ap (λ (n : ℕ). slice_get (map f xs) (n - 1)) (length-map xs f) ∙ slice_get-map f xs (length xs - 1)

last_part : (wanted : CommandField) (words : List (List ℕ)) (parts : List Part) → last_of wanted (map (item_of words) parts) ≡ option_map (item_of words) (last (parts_for wanted parts))
last_part wanted words parts = ap last (given_parts wanted words parts) ∙ last_map (item_of words) (parts_for wanted parts)

pub last_some : (words : List (List ℕ)) (sorted : Sorted) (wanted : CommandField) (part : Part) (number : ℕ) (text : List ℕ) → Some part ≡ last (parts_for wanted sorted.parts) → text ≡ slice_index_or (values_at words part) number []
    → Some text ≡ option_map (value_number number) (last_values wanted (sorted_items words sorted))
last_some words sorted wanted part number text is value =
    ap Some value ∙ sym (ap (λ item. option_map (value_number number) (option_map (λ (each : Item). each.values) item)) (last_part wanted words sorted.parts ∙ ap (option_map (item_of words)) (sym is)))

pub last_none : (words : List (List ℕ)) (sorted : Sorted) (wanted : CommandField) (number : ℕ) → None ≡ last (parts_for wanted sorted.parts)
    → None ≡ option_map (value_number number) (last_values wanted (sorted_items words sorted))
last_none words sorted wanted number is =
    sym (ap (λ item. option_map (value_number number) (option_map (λ (each : Item). each.values) item)) (last_part wanted words sorted.parts ∙ ap (option_map (item_of words)) (sym is)))

option_of_item : (words : List (List ℕ)) (part : Option Part) → option_map (λ (item : Item). item.option) (option_map (item_of words) part) ≡ option_map (λ (each : Part). each.option) part
option_of_item words None = refl
option_of_item words (Some part) = refl

pub last_option_same : (words : List (List ℕ)) (sorted : Sorted) (wanted : CommandField) → last_option wanted (sorted_items words sorted) ≡ option_map (λ (each : Part). each.option) (last (parts_for wanted sorted.parts))
last_option_same words sorted wanted = ap (option_map (λ (item : Item). item.option)) (last_part wanted words sorted.parts) ∙ option_of_item words (last (parts_for wanted sorted.parts))

pub given_count : (words : List (List ℕ)) (sorted : Sorted) (wanted : CommandField) → length (given wanted (sorted_items words sorted)) ≡ length (parts_for wanted sorted.parts)
given_count words sorted wanted = ap length (given_parts wanted words sorted.parts) ∙ length-map (parts_for wanted sorted.parts) (item_of words)

map_twice : {A B C : Type 0} (g : B → C) (f : A → B) (xs : List A) → map g (map f xs) ≡ map (λ x. g (f x)) xs
map_twice g f [] = refl
map_twice g f (x ∷ xs) = ap (λ rest. g (f x) ∷ rest) (map_twice g f xs)

pub all_same : (words : List (List ℕ)) (sorted : Sorted) (wanted : CommandField) → all_values wanted (sorted_items words sorted) ≡ map (λ part. value_of (values_at words part)) (parts_for wanted sorted.parts)
all_same words sorted wanted =
    ap (map (λ (item : Item). value_of item.values)) (given_parts wanted words sorted.parts) ∙ map_twice (λ (item : Item). value_of item.values) (item_of words) (parts_for wanted sorted.parts)

pub inputs_same : (words : List (List ℕ)) (sorted : Sorted) → inputs_of (sorted_items words sorted) ≡ map (λ part. input_of part.option (value_of (values_at words part))) (parts_for Inputs sorted.parts)
inputs_same words sorted =
    ap (map (λ (item : Item). input_of item.option (value_of item.values))) (given_parts Inputs words sorted.parts)
    ∙ map_twice (λ (item : Item). input_of item.option (value_of item.values)) (item_of words) (parts_for Inputs sorted.parts)

pub ruleset lasts = (last_some, last_none)
