-- The keys of the options' words: an option is found by the key of its word, and no other one has that word.
use Rattle.std.proofs.Common.{◌≡◌, ℕ, zero, suc, ◌&&◌, ◌<◌, ◌∷◌, [], List, length, get_or, Bool, true, false, cond, ◌||◌, Some, None, eqb, ltb, refl, sym, ap, ◌∙◌, subst, arith}
use Rattle.std.specs.Prelude.{bytes_eq}
use Rattle.std.specs.List.{find, list_any, list_all}
use Rattle.std.proofs.lemmas.Slice.Eq.{bytes_eq-Decides}
use Rattle.std.proofs.lemmas.Grind.{common_steps}
use Rattle.mo_cmd.specs.declared.options.CommandOption.{CommandOption}
use Rattle.mo_cmd.specs.declared.options.CommandOption.TheVariants.{Unknown}
use Rattle.mo_cmd.specs.declared.options.TheConstants.{BY_KEY}
use Rattle.mo_cmd.specs.Options.{name_of, options, option_named, key_of}

abbrev pub candidate : List ℕ → CommandOption
candidate word = get_or BY_KEY (key_of word) Unknown

abbrev is_word : List ℕ → CommandOption → Bool
is_word word option = bytes_eq (name_of option) word

-- each of some options has two bytes or more, and is the one at the key of its word
abbrev AreKeyed : List CommandOption → Type 0
AreKeyed [] = Unit {0}
AreKeyed (option ∷ rest) = (candidate (name_of option) ≡ option) × (ltb 1 (length (name_of option)) ≡ true) × AreKeyed rest

all_keyed : AreKeyed options
unfolding key_of
all_keyed = (refl, refl, (refl, refl, (refl, refl, (refl, refl, (refl, refl, (refl, refl, (refl, refl, (refl, refl, (refl, refl, (refl, refl, (refl, refl, (refl, refl, (refl, refl, (refl, refl, (refl, refl, (refl, refl, (refl, refl, (refl, refl, (refl, refl, (refl, refl, (refl, refl, (refl, refl, (refl, refl, (refl, refl, (refl, refl, (refl, refl, (refl, refl, (refl, refl, (refl, refl, (refl, refl, (refl, refl, (refl, refl, (refl, refl, (refl, refl, (refl, refl, (refl, refl, (refl, refl, (refl, refl, (refl, refl, (refl, refl, (refl, refl, (refl, refl, (refl, refl, (refl, refl, (refl, refl, (refl, refl, tt))))))))))))))))))))))))))))))))))))))))))))))

false_unless : (test : Bool) → (test ≡ true → ⊥) → test ≡ false
false_unless true never = absurd (never refl)
false_unless false never = refl

is_candidate : (option : CommandOption) (word : List ℕ) → candidate (name_of option) ≡ option → is_word word option ≡ true → candidate word ≡ option
is_candidate option word keyed same = subst (λ (w : List ℕ). candidate w ≡ option) ((bytes_eq-Decides (name_of option) word).0 same) keyed

miss : (those : List CommandOption) (word : List ℕ) → AreKeyed those → is_word word (candidate word) ≡ false → find (is_word word) those ≡ None
miss [] word keyed other = refl
miss (option ∷ rest) word keyed other =
    let apart : is_word word option ≡ false = false_unless (is_word word option) (λ (same : is_word word option ≡ true).
    let is : candidate word ≡ option = is_candidate option word keyed.0 same in
    let no : is_word word option ≡ false = subst (λ (each : CommandOption). is_word word each ≡ false) is other in cc) in
    rw apart (miss rest word keyed.2 other)

miss_short : (those : List CommandOption) (word : List ℕ) → AreKeyed those → length word < 2 → find (is_word word) those ≡ None
miss_short [] word keyed short = refl
miss_short (option ∷ rest) word keyed short =
    let apart : is_word word option ≡ false = false_unless (is_word word option) (λ (same : is_word word option ≡ true).
    let long : ltb 1 (length word) ≡ true = subst (λ (w : List ℕ). ltb 1 (length w) ≡ true) ((bytes_eq-Decides (name_of option) word).0 same) keyed.1 in
    contradiction (length word) long short) in
    rw apart (miss_short rest word keyed.2 short)
  where
    contradiction : (n : ℕ) → ltb 1 n ≡ true → n < 2 → ⊥
    contradiction n long short = absurd (grind (arith, common_steps))

hit_step : (test : Bool) (option : CommandOption) (rest : List CommandOption) (word : List ℕ) → is_word word option ≡ test → candidate (name_of option) ≡ option → (list_any (is_word word) rest ≡ true → find (is_word word) rest ≡ Some (candidate word)) → (test || list_any (is_word word) rest) ≡ true → cond test (Some option) (find (is_word word) rest) ≡ Some (candidate word)
hit_step true option rest word same keyed later any = ap Some (sym (is_candidate option word keyed same))
hit_step false option rest word same keyed later any = later any

hit : (those : List CommandOption) (word : List ℕ) → AreKeyed those → list_any (is_word word) those ≡ true → find (is_word word) those ≡ Some (candidate word)
hit [] word keyed any = cc
hit (option ∷ rest) word keyed any = hit_step (is_word word option) option rest word refl keyed.0 (hit rest word keyed.2) any

abbrev is_listed : CommandOption → Bool
is_listed option = list_any (is_word (name_of option)) options || eqb (length (name_of option)) 0

table_listed : list_all is_listed BY_KEY ≡ true
table_listed = refl

all_at : (xs : List CommandOption) (k : ℕ) (d : CommandOption) → list_all is_listed xs ≡ true → is_listed d ≡ true → is_listed (get_or xs k d) ≡ true
all_at [] k d all default = default
all_at (x ∷ xs) zero d all default = first (is_listed x) (list_all is_listed xs) all
  where
    first : (a b : Bool) → (a && b) ≡ true → a ≡ true
    first a b both = grind (arith, common_steps)
all_at (x ∷ xs) (suc k) d all default = all_at xs k d (rest (is_listed x) (list_all is_listed xs) all) default
  where
    rest : (a b : Bool) → (a && b) ≡ true → b ≡ true
    rest a b both = grind (arith, common_steps)

listed : (word : List ℕ) → 1 < length word → is_word word (candidate word) ≡ true → list_any (is_word word) options ≡ true
listed word long same =
    let is : name_of (candidate word) ≡ word = (bytes_eq-Decides (name_of (candidate word)) word).0 same in
    let either : (list_any (is_word word) options || eqb (length word) 0) ≡ true =
    subst (λ (w : List ℕ). (list_any (is_word w) options || eqb (length w) 0) ≡ true) is (all_at BY_KEY (key_of word) Unknown table_listed refl) in
    first (list_any (is_word word) options) (length word) either long
  where
    first : (test : Bool) (n : ℕ) → (test || eqb n 0) ≡ true → 1 < n → test ≡ true
    first test n either long = grind (arith, common_steps)

pub named_by_key : (word : List ℕ) (option : CommandOption) → 1 < length word → option ≡ candidate word → bytes_eq (name_of option) word ≡ true → Some option ≡ option_named word
unfolding option_named
named_by_key word option long is same =
    let here : is_word word (candidate word) ≡ true = subst (λ (each : CommandOption). is_word word each ≡ true) is same in
    ap Some is ∙ sym (hit options word all_keyed (listed word long here))

pub unnamed_by_key : (word : List ℕ) (option : CommandOption) → option ≡ candidate word → bytes_eq (name_of option) word ≡ false → None ≡ option_named word
unfolding option_named
unnamed_by_key word option is other =
    sym (miss options word all_keyed (subst (λ (each : CommandOption). is_word word each ≡ false) is other))

pub unnamed_short : (word : List ℕ) → length word < 2 → None ≡ option_named word
unfolding option_named
unnamed_short word short = sym (miss_short options word all_keyed short)

pub ruleset keys = (named_by_key, unnamed_by_key, unnamed_short)
