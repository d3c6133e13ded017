-- The lines of a list, and the white space at their ends.
use Rattle.std.proofs.Common.{◌≡◌, ℕ, ◌+◌, ◌-◌, ◌<◌, ◌≤◌, ◌++◌, ◌∷◌, [], List, length, take, drop, get_or, reverse, Bool, true, false, cond, ◌||◌, eqb, All, Some, None, Ok, Err, refl, sym, ap, ◌∙◌, subst, arith, add-one, drop-cons, append-nil, append_assoc}
use Rattle.std.specs.List.{list_any}
use Rattle.std.proofs.lemmas.List.{take-append-drop, take_all, take_more, take_rest, get_or-take, length-take-le, reverse-append, reverse-reverse}
use Rattle.std.proofs.lemmas.List.Elements.{All-from_get_or}
use Rattle.std.proofs.lemmas.List.Splits.{slice_split_none, slice_split_at}
use Rattle.memchr.specs.Find.{IsFirstByte, is_byte}
use Rattle.mo_types.specs.declared.cause.Feature.TheVariants.{Wildcard}
use Rattle.mo_types.specs.declared.object_fault.ObjFault.TheVariants.{Unsupported}
use Rattle.mo_cmd.specs.Faults.{has_wildcard}
use Rattle.mo_cmd.specs.Lists.{is_white, without_front, without_end, trimmed, is_name, names_in, lines_of, list_of}

-- Trimming

pub record IsTrimming (line rest : List ℕ) : Type 0 where
  pub same : without_front rest ≡ without_front line

pub trim_starts : (line : List ℕ) → IsTrimming line line
trim_starts line = record { same = refl }

pub trim_goes_on : (line rest others : List ℕ) (byte : ℕ) → IsTrimming line rest → rest ≡ byte ∷ others → is_white byte ≡ true → IsTrimming line others
trim_goes_on line rest others byte trimming is white = record { same = sym (ap without_front is ∙ rw white refl) ∙ trimming.same }

pub trim_stops : (line rest others : List ℕ) (byte : ℕ) → IsTrimming line rest → rest ≡ byte ∷ others → is_white byte ≡ false → rest ≡ without_front line
trim_stops line rest others byte trimming is other = is ∙ sym (ap without_front is ∙ rw other refl) ∙ trimming.same

pub trim_ends : (line rest : List ℕ) → IsTrimming line rest → rest ≡ [] → rest ≡ without_front line
trim_ends line rest trimming empty = empty ∙ sym (ap without_front empty) ∙ trimming.same

pub ruleset trims = (trim_starts, trim_goes_on, trim_stops, trim_ends)

-- The end is trimmed as the front of the line from behind.

pub record IsEnding (line rest : List ℕ) : Type 0 where
  pub same : without_end rest ≡ without_end line

pub end_starts : (line : List ℕ) → IsEnding line line
end_starts line = record { same = refl }

last_split : (rest : List ℕ) → 1 ≤ length rest → rest ≡ take (length rest - 1) rest ++ get_or rest (length rest - 1) 0 ∷ []
last_split rest some =
    let one : length rest ≡ length rest - 1 + 1 = omega arith in
    sym (take_all (length rest) rest (omega arith)) ∙ ap (λ (n : ℕ). take n rest) one ∙ take_more rest (length rest - 1) 0 (omega arith)

end_step : (rest others : List ℕ) (byte : ℕ) → rest ≡ others ++ byte ∷ [] → is_white byte ≡ true → without_end rest ≡ without_end others
unfolding without_end
end_step rest others byte is white = ap (λ line. reverse (without_front (reverse line))) is ∙ ap (λ bytes. reverse (without_front bytes)) (reverse-append others (byte ∷ [])) ∙ rw white refl

end_stop : (rest others : List ℕ) (byte : ℕ) → rest ≡ others ++ byte ∷ [] → is_white byte ≡ false → without_end rest ≡ rest
unfolding without_end
end_stop rest others byte is other =
    ap (λ line. reverse (without_front (reverse line))) is ∙ ap (λ bytes. reverse (without_front bytes)) (reverse-append others (byte ∷ []))
    ∙ rw other (ap reverse (sym (reverse-append others (byte ∷ []))) ∙ reverse-reverse (others ++ byte ∷ [])) ∙ sym is

end_nothing : without_end [] ≡ []
unfolding without_end
end_nothing = refl

pub end_goes_on : (line rest : List ℕ) → IsEnding line rest → 1 ≤ length rest → is_white (get_or rest (length rest - 1) 0) ≡ true → IsEnding line (take (length rest - 1) rest)
end_goes_on line rest ending some white =
    record { same = sym (end_step rest (take (length rest - 1) rest) (get_or rest (length rest - 1) 0) (last_split rest some) white) ∙ ending.same }

pub end_stops : (line rest : List ℕ) → IsEnding line rest → 1 ≤ length rest → is_white (get_or rest (length rest - 1) 0) ≡ false → rest ≡ without_end line
end_stops line rest ending some other =
    sym (end_stop rest (take (length rest - 1) rest) (get_or rest (length rest - 1) 0) (last_split rest some) other) ∙ ending.same

nothing_in : (rest : List ℕ) → length rest < 1 → rest ≡ []
nothing_in [] short = refl
nothing_in (byte ∷ rest) short = absurd (omega arith)

pub end_ends : (line rest : List ℕ) → IsEnding line rest → length rest < 1 → rest ≡ without_end line
end_ends line rest ending short =
    let empty : rest ≡ [] = nothing_in rest short in
    empty ∙ sym end_nothing ∙ sym (ap without_end empty) ∙ ending.same

pub ruleset ends = (end_starts, end_goes_on, end_stops, end_ends)

-- Lines

abbrev is_line_end : ℕ → Bool
is_line_end byte = eqb byte 0x0a

false_unless : (test : Bool) → (test ≡ true → ⊥) → test ≡ false
false_unless true never = absurd (never refl)
false_unless false never = refl

abbrev IsInner : ℕ → Type 0
IsInner byte = is_line_end byte ≡ false

pub last_line : (text : List ℕ) → IsFirstByte (is_byte 0x0a) text None → text ∷ [] ≡ lines_of text
last_line text none =
    sym (slice_split_none is_line_end text (All-from_get_or IsInner text 0 (λ at within. false_unless (is_line_end (get_or text at 0)) (none at (omega arith) within))))

pub next_line : (text : List ℕ) (end : ℕ) → IsFirstByte (is_byte 0x0a) text (Some end) → take end text ∷ lines_of (take (length text - (end + 1)) (drop (end + 1) text)) ≡ lines_of text
next_line text end found =
    let here : end < length text = found.0.high in
    let long : length (take end text) ≡ end = length-take-le end text (omega arith) in
    let whole : take end text ++ get_or text end 0 ∷ drop (end + 1) text ≡ text =
    ap (λ rest. take end text ++ rest) (rw (drop-cons text end 0, add-one) refl) ∙ take-append-drop end text in
    let inner : All IsInner (take end text) = All-from_get_or IsInner (take end text) 0 (λ at within.
    let early : at < end = omega arith in
    subst IsInner (sym (get_or-take end text at 0 early)) (false_unless (is_line_end (get_or text at 0)) (found.0.before at (omega arith) early))) in
    ap (λ rest. take end text ∷ lines_of rest) (take_rest text (end + 1)) ∙ sym (slice_split_at is_line_end (take end text) (get_or text end 0) (drop (end + 1) text) inner found.1) ∙ ap lines_of whole

pub ruleset cuts = (last_line, next_line)

-- the names that were found, and those of the lines to come
pub record IsReading (bytes : List ℕ) (names : List (List ℕ)) (lines : List (List ℕ)) : Type 0 where
  pub same : names ++ names_in lines ≡ names_in (lines_of bytes)
  pub plain : list_any has_wildcard names ≡ false

pub read_starts : (bytes : List ℕ) (names : List (List ℕ)) → names ≡ [] → IsReading bytes names (lines_of bytes)
read_starts bytes names empty = record { same = ap (λ xs. xs ++ names_in (lines_of bytes)) empty; plain = ap (list_any has_wildcard) empty }

name_first : (line : List ℕ) (lines : List (List ℕ)) → names_in (line ∷ lines) ≡ cond (is_name (trimmed line)) (trimmed line ∷ names_in lines) (names_in lines)
name_first line lines = refl

any_append : (xs ys : List (List ℕ)) → list_any has_wildcard (xs ++ ys) ≡ (list_any has_wildcard xs || list_any has_wildcard ys)
any_append [] ys = refl
any_append (x ∷ xs) ys = joined (has_wildcard x) (list_any has_wildcard xs) (list_any has_wildcard ys) (list_any has_wildcard (xs ++ ys)) (any_append xs ys)
  where
    joined : (a b c d : Bool) → d ≡ (b || c) → (a || d) ≡ ((a || b) || c)
    joined true b c d is = refl
    joined false b c d is = is

pub read_skips : (bytes line : List ℕ) (names lines more : List (List ℕ)) → IsReading bytes names lines → line ∷ more ≡ lines → is_name (trimmed line) ≡ false → IsReading bytes names more
read_skips bytes line names lines more reading is skipped =
    record { same = sym (ap (λ xs. names ++ names_in xs) (sym is) ∙ rw skipped refl) ∙ reading.same; plain = reading.plain }

pub read_takes : (bytes line : List ℕ) (names lines more longer : List (List ℕ)) → IsReading bytes names lines → line ∷ more ≡ lines → is_name (trimmed line) ≡ true → has_wildcard (trimmed line) ≡ false → longer ≡ names ++ trimmed line ∷ [] → IsReading bytes longer more
read_takes bytes line names lines more longer reading is named plain pushed =
    let e : names ++ names_in lines ≡ names ++ (trimmed line ∷ names_in more) = ap (λ xs. names ++ names_in xs) (sym is) ∙ rw named refl in
    record {
      same = ap (λ xs. xs ++ names_in more) pushed ∙ append_assoc names (trimmed line ∷ []) (names_in more) ∙ sym e ∙ reading.same;
      plain = ap (list_any has_wildcard) pushed ∙ any_append names (trimmed line ∷ []) ∙ rw (reading.plain, plain) refl;
    }

pub read_stops : (bytes line : List ℕ) (names lines more : List (List ℕ)) → IsReading bytes names lines → line ∷ more ≡ lines → is_name (trimmed line) ≡ true → has_wildcard (trimmed line) ≡ true → list_of bytes ≡ Err (Unsupported Wildcard)
unfolding list_of
read_stops bytes line names lines more reading is named wild =
    let e : names ++ (trimmed line ∷ names_in more) ≡ names_in (lines_of bytes) = sym (ap (λ xs. names ++ names_in xs) (sym is) ∙ rw named refl) ∙ reading.same in
    let any : list_any has_wildcard (names_in (lines_of bytes)) ≡ true =
    sym (ap (list_any has_wildcard) e) ∙ any_append names (trimmed line ∷ names_in more) ∙ rw (reading.plain, wild) refl in
    rw any refl

pub read_ends : (bytes : List ℕ) (names lines : List (List ℕ)) → IsReading bytes names lines → lines ≡ [] → list_of bytes ≡ Ok names
unfolding list_of
read_ends bytes names lines reading none =
    let e : names ≡ names_in (lines_of bytes) = sym (append-nil names) ∙ sym (ap (λ xs. names ++ names_in xs) none) ∙ reading.same in
    rw (← e, reading.plain) refl

pub ruleset reading = (read_starts, read_skips, read_takes, read_stops, read_ends)
