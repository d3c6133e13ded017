-- Lines of a text, one by one.
use Rattle.std.proofs.Common.{◌≡◌, ℕ, ◌+◌, ◌-◌, ◌<◌, ◌≤◌, ◌==◌, ◌++◌, ◌∷◌, [], List, length, map, take, drop, get_or, Bool, true, false, eqb, All, Some, None, Result, Ok, Err, refl, sym, ap, ◌∙◌, subst, arith, add-one, drop-cons}
use Rattle.std.proofs.lemmas.Bool.{eq-eqb, ne_eqb, false_from_ne_true}
use Rattle.std.proofs.lemmas.List.{take-append-drop, take_all, get_or-take, length-take-le, drop-drop, drop_all, take-take, length-drop}
use Rattle.std.proofs.lemmas.List.Elements.{All-from_get_or}
use Rattle.std.proofs.lemmas.List.Splits.{slice_split_none, slice_split_at, length-slice_split}
use Rattle.std.specs.List.{slice_split, count_by}
use Rattle.std.proofs.lemmas.Str.{is_utf8-from_IsUtf8, IsUtf8-from_is_utf8}
use Rattle.std.specs.Str.{IsUtf8, is_utf8}
use Rattle.memchr.specs.Find.{IsFirstByte, is_byte}
use Rattle.mo_types.specs.Gives.{Gives}
use Rattle.yaml_text.specs.declared.fault.YamlFault.{YamlFault}
use Rattle.yaml_text.specs.declared.file.YamlFile.{YamlFile}
use Rattle.tbd_yaml.specs.declared.reading.Reading.{Reading}
use Rattle.yaml_text.specs.Lines.{without_return, whole_lines, lines_of}
use Rattle.tbd_yaml.specs.File.{read_on, with_next, ends, finished, file_of, new_reading}
use Rattle.yaml_text.specs.FaultText.{IsYamlFault}

-- Carriage returns

pub return_goes : (line : List ℕ) (size : ℕ) → size ≡ length line - 1 → get_or line size 0 ≡ 0x0d → take size line ≡ without_return line
unfolding without_return
return_goes line size is byte =
    let t : (get_or line (length line - 1) 0 == 0x0d) ≡ true = eq-eqb (get_or line (length line - 1) 0) 0x0d (ap (λ (n : ℕ). get_or line n 0) (sym is) ∙ byte) in
    ap (λ (n : ℕ). take n line) is ∙ sym (rw t refl)

pub other_stays : (line : List ℕ) → (get_or line (length line - 1) 0 ≡ 0x0d → ⊥) → take (length line) line ≡ without_return line
unfolding without_return
other_stays line other =
    let t : (get_or line (length line - 1) 0 == 0x0d) ≡ false = ne_eqb (get_or line (length line - 1) 0) 0x0d other in
    take_all (length line) line (omega arith) ∙ sym (rw t refl)

pub nothing_stays : (line : List ℕ) → length line ≤ 0 → take (length line) line ≡ without_return line
unfolding without_return
nothing_stays [] none = refl
nothing_stays (byte ∷ bytes) none = absurd (omega arith)

pub ruleset returns = (return_goes, other_stays, nothing_stays)

-- The first line

abbrev is_line_end : ℕ → Bool
is_line_end byte = eqb byte 0x0a

abbrev IsInner : ℕ → Type 0
IsInner byte = is_line_end byte ≡ false

more_lines : (line : List ℕ) (lines : List (List ℕ)) → 1 ≤ length lines → whole_lines (line ∷ lines) ≡ line ∷ whole_lines lines
more_lines line [] some = absurd (omega arith)
more_lines line (next ∷ lines) some = refl

not_empty : (text : List ℕ) → 0 < length text → whole_lines (text ∷ []) ≡ text ∷ []
not_empty [] some = absurd (omega arith)
not_empty (byte ∷ bytes) some = refl

no_lines : lines_of [] ≡ []
unfolding lines_of
no_lines = refl

pub last_line : (text : List ℕ) (size taken : ℕ) → 0 < length text → IsFirstByte (is_byte 0x0a) text None → take size text ≡ without_return text → taken ≡ length text
    → take size text ∷ lines_of (drop taken text) ≡ lines_of text
unfolding lines_of
last_line text size taken some none line all =
    let split : slice_split is_line_end text ≡ text ∷ [] = slice_split_none is_line_end text (All-from_get_or IsInner text 0 (λ at within. false_from_ne_true (is_line_end (get_or text at 0)) (none at (omega arith) within))) in
    let rest : drop taken text ≡ [] = drop_all taken text (omega arith) in
    ap (λ rest. take size text ∷ lines_of rest) rest ∙ ap (λ line. line ∷ []) line ∙ sym (ap (λ lines. map without_return (whole_lines lines)) split ∙ ap (map without_return) (not_empty text some))

pub next_line : (text : List ℕ) (end size taken : ℕ) → IsFirstByte (is_byte 0x0a) text (Some end) → take size (take end text) ≡ without_return (take end text) → size ≤ length (take end text) → taken ≡ end + 1
    → take size text ∷ lines_of (drop taken text) ≡ lines_of text
unfolding lines_of
next_line text end size taken found line small behind =
    let here : end < length text = found.0.high in
    let long : length (take end text) ≡ end = length-take-le end text (omega arith) in
    let whole : take end text ++ get_or text end 0 ∷ drop (end + 1) text ≡ text =
    ap (λ rest. take end text ++ rest) (rw (drop-cons text end 0, add-one) refl) ∙ take-append-drop end text in
    let inner : All IsInner (take end text) = All-from_get_or IsInner (take end text) 0 (λ at within.
    let early : at < end = omega arith in
    subst IsInner (sym (get_or-take end text at 0 early)) (false_from_ne_true (is_line_end (get_or text at 0)) (found.0.before at (omega arith) early))) in
    let split : slice_split is_line_end text ≡ take end text ∷ slice_split is_line_end (drop (end + 1) text) =
    sym (ap (slice_split is_line_end) whole) ∙ slice_split_at is_line_end (take end text) (get_or text end 0) (drop (end + 1) text) inner found.1 in
    let count : length (slice_split is_line_end (drop (end + 1) text)) ≡ count_by is_line_end (drop (end + 1) text) + 1 = length-slice_split is_line_end (drop (end + 1) text) in
    let lines : lines_of text ≡ without_return (take end text) ∷ lines_of (drop (end + 1) text) =
    ap (λ lines. map without_return (whole_lines lines)) split ∙ ap (map without_return) (more_lines (take end text) (slice_split is_line_end (drop (end + 1) text)) (omega arith)) in
    let first : take size text ≡ without_return (take end text) = sym (take-take size end text (omega arith)) ∙ line in
    ap (λ (n : ℕ). take size text ∷ lines_of (drop n text)) behind ∙ ap (λ line. line ∷ lines_of (drop (end + 1) text)) first ∙ sym lines

pub ruleset cuts = (last_line, next_line)

-- Line by line

pub record IsReading (file : List ℕ) (at lines : ℕ) (reading : Reading) : Type 0 where
  pub same : read_on lines reading (lines_of (drop at file)) ≡ file_of file
  pub within : at ≤ length file
  pub few : lines ≤ at

pub read_starts : (file : List ℕ) (reading : Reading) → reading ≡ new_reading → IsReading file 0 0 reading
unfolding file_of
read_starts file reading is = record { same = ap (λ reading. read_on 0 reading (lines_of file)) is; within = omega arith; few = omega arith }

-- the line that stands at a place
pub record IsLine (file : List ℕ) (at size taken : ℕ) (line : List ℕ) : Type 0 where
  pub is : line ≡ take size (drop at file)
  pub lines : take size (drop at file) ∷ lines_of (drop taken (drop at file)) ≡ lines_of (drop at file)

from_line : (file line : List ℕ) (at lines size taken : ℕ) (reading : Reading) → IsReading file at lines reading → line ≡ take size (drop at file)
    → take size (drop at file) ∷ lines_of (drop taken (drop at file)) ≡ lines_of (drop at file)
    → read_on lines reading (line ∷ lines_of (drop (at + taken) file)) ≡ file_of file
from_line file line at lines size taken reading so_far is cut =
    ap (λ line. read_on lines reading (line ∷ lines_of (drop (at + taken) file))) is
    ∙ ap (λ rest. read_on lines reading (take size (drop at file) ∷ lines_of rest)) (sym (drop-drop taken at file)) ∙ ap (read_on lines reading) cut ∙ so_far.same

pub read_goes_on : (file line : List ℕ) (at lines size taken : ℕ) (reading next : Reading) → IsReading file at lines reading → line ≡ take size (drop at file)
    → take size (drop at file) ∷ lines_of (drop taken (drop at file)) ≡ lines_of (drop at file) → ends line reading ≡ false → with_next (lines + 1) line reading ≡ Ok next
    → 1 ≤ taken → taken ≤ length (drop at file) → IsReading file (at + taken) (lines + 1) next
read_goes_on file line at lines size taken reading next so_far is cut more steps some within = record {
  same =
      let e : read_on lines reading (line ∷ lines_of (drop (at + taken) file)) ≡ read_on (lines + 1) next (lines_of (drop (at + taken) file)) = rw more (rw steps refl) in
      sym e ∙ from_line file line at lines size taken reading so_far is cut;
  within = let l : length (drop at file) ≡ length file - at = length-drop at file in let w : at ≤ length file = so_far.within in omega arith;
  few = let f : lines ≤ at = so_far.few in omega arith;
}

pub read_fails : (file line : List ℕ) (at lines size taken : ℕ) (reading : Reading) (fault : YamlFault) → IsReading file at lines reading → line ≡ take size (drop at file)
    → take size (drop at file) ∷ lines_of (drop taken (drop at file)) ≡ lines_of (drop at file) → ends line reading ≡ false → with_next (lines + 1) line reading ≡ Err fault
    → file_of file ≡ Err fault
read_fails file line at lines size taken reading fault so_far is cut more steps =
    let e : read_on lines reading (line ∷ lines_of (drop (at + taken) file)) ≡ Err fault = rw more (rw steps refl) in
    sym (from_line file line at lines size taken reading so_far is cut) ∙ e

pub read_stops : (file line : List ℕ) (at lines size taken : ℕ) (reading : Reading) → IsReading file at lines reading → line ≡ take size (drop at file)
    → take size (drop at file) ∷ lines_of (drop taken (drop at file)) ≡ lines_of (drop at file) → ends line reading ≡ true
    → finished (lines + 1) reading ≡ file_of file
read_stops file line at lines size taken reading so_far is cut stop =
    let e : read_on lines reading (line ∷ lines_of (drop (at + taken) file)) ≡ finished (lines + 1) reading = rw stop refl in
    sym e ∙ from_line file line at lines size taken reading so_far is cut

pub read_ends : (file : List ℕ) (at lines : ℕ) (reading : Reading) → IsReading file at lines reading → length file ≤ at → finished lines reading ≡ file_of file
read_ends file at lines reading so_far past =
    sym (ap (λ rest. read_on lines reading (lines_of rest)) (drop_all at file past) ∙ ap (read_on lines reading) no_lines) ∙ so_far.same

-- a result that one definition gives, where another one is the same
pub given_so : (result one other : Result YamlFile YamlFault) → one ≡ other → Gives IsYamlFault result one → Gives IsYamlFault result other
given_so result one other is gives = subst (Gives IsYamlFault result) is gives

pub ruleset reads = (read_starts, read_goes_on, read_fails, read_stops, read_ends, given_so)

-- UTF-8

pub utf8_so : (text : List ℕ) → IsUtf8 text → true ≡ is_utf8 text
utf8_so text is = sym (is_utf8-from_IsUtf8 text is)

pub utf8_not : (text : List ℕ) → (IsUtf8 text → ⊥) → false ≡ is_utf8 text
utf8_not text never = sym (false_from_ne_true (is_utf8 text) (λ holds. never (IsUtf8-from_is_utf8 text holds)))

pub ruleset utf8 = (utf8_so, utf8_not)
