-- Quoted scalars, unit by unit.
use Rattle.std.proofs.Common.{◌≡◌, ℕ, zero, suc, ◌+◌, ◌-◌, ◌<◌, ◌≤◌, ◌==◌, ◌&&◌, List, [], ◌∷◌, ◌++◌, length, take, drop, get_or, Bool, true, false, Option, Some, None, refl, sym, ap, ◌∙◌, subst, IfSome, arith, append_assoc, append-nil}
use Rattle.std.proofs.lemmas.Bool.{eqb-true}
use Rattle.std.proofs.lemmas.List.{at_drop_more, at_drop_all, drop-drop, take_more, length-drop}
use Rattle.yaml_text.specs.declared.units.QuotedUnit.{QuotedUnit}
use Rattle.yaml_text.specs.declared.units.QuotedUnit.TheVariants.{Closing, Meant, Unknown}
use Rattle.yaml_text.specs.declared.quoted.Span.{Span}
use Rattle.yaml_text.specs.declared.quoted.QuotedText.{QuotedText}
use Rattle.yaml_text.specs.inner.Units.{IsUnit, IsSpan, size_of, meant_bytes, is_closing, with_unit, quoted_in}
use Rattle.yaml_text.specs.Scalars.{Quoted, unit_of, quoted_by, quoted_from, quoted_of, after_meant, after_unknown}

-- bytes that are passed over are dropped
pub passed_over : (quote skipped : ℕ) (text : List ℕ) → quoted_from quote skipped text ≡ quoted_from quote 0 (drop skipped text)
passed_over quote zero text = refl
passed_over quote (suc skipped) [] = refl
passed_over quote (suc skipped) (byte ∷ bytes) = passed_over quote skipped bytes

first_unit : (quote at : ℕ) (text : List ℕ) → at < length text →
    quoted_from quote 0 (drop at text) ≡ quoted_by (unit_of quote (get_or text at 0) (drop (at + 1) text)) (λ skipped. quoted_from quote skipped (drop (at + 1) text)) (drop (at + 1) text)
first_unit quote at text more = at_drop_more (quoted_from quote 0) text at 0 more

behind : (quote at size : ℕ) (text : List ℕ) → 1 ≤ size → quoted_from quote (size - 1) (drop (at + 1) text) ≡ quoted_from quote 0 (drop (at + size) text)
behind quote at size text some =
    let e : at + 1 + (size - 1) ≡ at + size = omega arith in
    passed_over quote (size - 1) (drop (at + 1) text) ∙ ap (quoted_from quote 0) (drop-drop (size - 1) (at + 1) text ∙ ap (λ (n : ℕ). drop n text) e)

pub on_closing : (quote at : ℕ) (text : List ℕ) → at < length text → unit_of quote (get_or text at 0) (drop (at + 1) text) ≡ Closing →
    quoted_from quote 0 (drop at text) ≡ Some (record { text = []; known = true; rest = drop (at + 1) text })
on_closing quote at text more is = first_unit quote at text more ∙ ap (λ unit. quoted_by unit (λ skipped. quoted_from quote skipped (drop (at + 1) text)) (drop (at + 1) text)) is

pub on_meant : (quote at byte size : ℕ) (text : List ℕ) → at < length text → unit_of quote (get_or text at 0) (drop (at + 1) text) ≡ Meant byte size → 1 ≤ size →
    quoted_from quote 0 (drop at text) ≡ after_meant byte (quoted_from quote 0 (drop (at + size) text))
on_meant quote at byte size text more is some =
    first_unit quote at text more ∙ ap (λ unit. quoted_by unit (λ skipped. quoted_from quote skipped (drop (at + 1) text)) (drop (at + 1) text)) is
    ∙ ap (after_meant byte) (behind quote at size text some)

pub on_unknown : (quote at size : ℕ) (text : List ℕ) → at < length text → unit_of quote (get_or text at 0) (drop (at + 1) text) ≡ Unknown size → 1 ≤ size →
    quoted_from quote 0 (drop at text) ≡ after_unknown (quoted_from quote 0 (drop (at + size) text))
on_unknown quote at size text more is some =
    first_unit quote at text more ∙ ap (λ unit. quoted_by unit (λ skipped. quoted_from quote skipped (drop (at + 1) text)) (drop (at + 1) text)) is
    ∙ ap after_unknown (behind quote at size text some)

-- Spans

abbrev ends : Bool → Option Quoted → Option (Bool × List ℕ)
ends known None = None
ends known (Some quoted) = Some (known && quoted.known, quoted.rest)

abbrev texts : List ℕ → Option Quoted → Option (List ℕ)
texts front None = None
texts front (Some quoted) = Some (front ++ quoted.text)

-- what a span tells of the scalar whose first units it has
pub record IsSpanning (quote : ℕ) (text : List ℕ) (span : Span) : Type 0 where
  pub ended : ends span.known (quoted_from quote 0 (drop span.size text)) ≡ ends true (quoted_from quote 0 text)
  pub read : span.plain ≡ true → texts (take span.size text) (quoted_from quote 0 (drop span.size text)) ≡ texts [] (quoted_from quote 0 text)
  pub within : span.size ≤ length text

pub span_starts : (quote : ℕ) (text : List ℕ) → IsSpanning quote text (record { size = 0; known = true; plain = true })
span_starts quote text = record { ended = refl; read = λ _. refl; within = omega arith }

ends_meant : (known : Bool) (byte : ℕ) (quoted : Option Quoted) → ends known (after_meant byte quoted) ≡ ends known quoted
ends_meant known byte None = refl
ends_meant known byte (Some quoted) = refl

ends_unknown : (known : Bool) (quoted : Option Quoted) → ends known (after_unknown quoted) ≡ ends false quoted
ends_unknown known None = refl
ends_unknown true (Some quoted) = refl
ends_unknown false (Some quoted) = refl

texts_meant : (front : List ℕ) (byte : ℕ) (quoted : Option Quoted) → texts front (after_meant byte quoted) ≡ texts (front ++ byte ∷ []) quoted
texts_meant front byte None = refl
texts_meant front byte (Some quoted) = ap Some (sym (append_assoc front (byte ∷ []) quoted.text))

texts_unknown : (front : List ℕ) (quoted : Option Quoted) → texts front (after_unknown quoted) ≡ texts front quoted
texts_unknown front None = refl
texts_unknown front (Some quoted) = refl

both_true : (a b : Bool) → (a && b) ≡ true → (a ≡ true) × (b ≡ true)
both_true true b is = (refl, is)
both_true false b is = absurd (cc)

longer_by : (quote byte : ℕ) (text : List ℕ) (span : Span) (unit : QuotedUnit) → IsSpanning quote text span → span.size < length text → byte ≡ get_or text span.size 0
    → unit ≡ unit_of quote (get_or text span.size 0) (drop (span.size + 1) text) → IsUnit (1 + length (drop (span.size + 1) text)) unit
    → (longer : Span) → Some longer ≡ with_unit span byte unit → IsSpanning quote text longer
longer_by quote byte text span Closing spanning more at is unit longer next = absurd (cc)
longer_by quote byte text span (Meant meant size) spanning more at is unit longer next =
    let e : longer ≡ record { size = span.size + size; known = span.known; plain = span.plain && size == 1 && meant == byte } = cc in
    subst (IsSpanning quote text) (sym e) (record {
      ended = sym (ap (ends span.known) (on_meant quote span.size meant size text more (sym is) unit.0) ∙ ends_meant span.known meant (quoted_from quote 0 (drop (span.size + size) text))) ∙ spanning.ended;
      read = λ plain.
          let first : ((span.plain && size == 1) ≡ true) × ((meant == byte) ≡ true) = both_true (span.plain && size == 1) (meant == byte) plain in
          let second : (span.plain ≡ true) × ((size == 1) ≡ true) = both_true span.plain (size == 1) first.0 in
          let one : size ≡ 1 = eqb-true size 1 second.1 in
          let same : meant ≡ get_or text span.size 0 = eqb-true meant byte first.1 ∙ at in
          let front : take (span.size + size) text ≡ take span.size text ++ meant ∷ [] =
          ap (λ (n : ℕ). take (span.size + n) text) one ∙ take_more text span.size 0 more ∙ ap (λ (b : ℕ). take span.size text ++ b ∷ []) (sym same) in
          ap (λ front. texts front (quoted_from quote 0 (drop (span.size + size) text))) front
          ∙ sym (ap (texts (take span.size text)) (on_meant quote span.size meant size text more (sym is) unit.0) ∙ texts_meant (take span.size text) meant (quoted_from quote 0 (drop (span.size + size) text)))
          ∙ spanning.read second.0;
      within = let bound : size ≤ 1 + length (drop (span.size + 1) text) = unit.1 in omega (arith, length-drop (span.size + 1) text);
    })
longer_by quote byte text span (Unknown size) spanning more at is unit longer next =
    let e : longer ≡ record { size = span.size + size; known = false; plain = false } = cc in
    subst (IsSpanning quote text) (sym e) (record {
      ended = sym (ap (ends span.known) (on_unknown quote span.size size text more (sym is) unit.0) ∙ ends_unknown span.known (quoted_from quote 0 (drop (span.size + size) text))) ∙ spanning.ended;
      read = λ plain. absurd (cc);
      within = let bound : size ≤ 1 + length (drop (span.size + 1) text) = unit.1 in omega (arith, length-drop (span.size + 1) text);
    })

pub span_goes_on : (quote byte : ℕ) (text : List ℕ) (span longer : Span) (unit : QuotedUnit) → IsSpanning quote text span → span.size < length text → byte ≡ get_or text span.size 0
    → unit ≡ unit_of quote byte (drop (span.size + 1) text) → IsUnit (1 + length (drop (span.size + 1) text)) unit → Some longer ≡ with_unit span byte unit → IsSpanning quote text longer
span_goes_on quote byte text span longer unit spanning more at is fits next =
    longer_by quote byte text span unit spanning more at (is ∙ ap (λ (b : ℕ). unit_of quote b (drop (span.size + 1) text)) at) fits longer next

ended_span : (text : List ℕ) (span : Span) (rest : List ℕ) (quoted : Option Quoted) → ends span.known (Some (record { text = []; known = true; rest = rest })) ≡ ends true quoted
    → rest ≡ drop (span.size + 1) text → (span.plain ≡ true → texts (take span.size text) (Some (record { text = []; known = true; rest = rest })) ≡ texts [] quoted) → IsSpan text (Some span) quoted
ended_span text span rest None same at read = absurd (cc)
ended_span text span rest (Some quoted) same at read =
    let pair : (span.known && true, rest) ≡ (quoted.known, quoted.rest) = pair_of same in
    let known : (span.known && true) ≡ quoted.known = ap (λ (p : Bool × List ℕ). p.0) pair in
    let rests : rest ≡ quoted.rest = ap (λ (p : Bool × List ℕ). p.1) pair in
    (sym known ∙ and_true span.known, sym rests ∙ at, λ plain. let t : take span.size text ++ [] ≡ quoted.text = some_same (read plain) in sym t ∙ append-nil (take span.size text))
  where
    pair_of : {x y : Bool × List ℕ} → Some x ≡ Some y → x ≡ y
    pair_of e = cc

    and_true : (b : Bool) → (b && true) ≡ b
    and_true true = refl
    and_true false = refl

    some_same : {x y : List ℕ} → Some x ≡ Some y → x ≡ y
    some_same e = cc

closing_unit : (span : Span) (byte : ℕ) (unit : QuotedUnit) → None ≡ with_unit span byte unit → unit ≡ Closing
closing_unit span byte Closing is = refl
closing_unit span byte (Meant meant size) is = absurd (cc)
closing_unit span byte (Unknown size) is = absurd (cc)

pub span_closes : (quote byte : ℕ) (text : List ℕ) (span : Span) (unit : QuotedUnit) → IsSpanning quote text span → span.size < length text → byte ≡ get_or text span.size 0
    → unit ≡ unit_of quote byte (drop (span.size + 1) text) → None ≡ with_unit span byte unit → IsSpan text (Some span) (quoted_of quote text)
unfolding quoted_of
span_closes quote byte text span unit spanning more at is next =
    let closing : unit_of quote (get_or text span.size 0) (drop (span.size + 1) text) ≡ Closing =
    sym (is ∙ ap (λ (b : ℕ). unit_of quote b (drop (span.size + 1) text)) at) ∙ closing_unit span byte unit next in
    let here : quoted_from quote 0 (drop span.size text) ≡ Some (record { text = []; known = true; rest = drop (span.size + 1) text }) = on_closing quote span.size text more closing in
    ended_span text span (drop (span.size + 1) text) (quoted_from quote 0 text) (sym (ap (ends span.known) here) ∙ spanning.ended) refl
    (λ plain. sym (ap (texts (take span.size text)) here) ∙ spanning.read plain)

no_span : (text : List ℕ) (known : Bool) (quoted : Option Quoted) → None ≡ ends true quoted → IsSpan text None quoted
no_span text known None is = tt
no_span text known (Some quoted) is = absurd (cc)

pub span_ends : (quote : ℕ) (text : List ℕ) (span : Span) → IsSpanning quote text span → length text ≤ span.size → IsSpan text None (quoted_of quote text)
unfolding quoted_of
span_ends quote text span spanning past =
    no_span text span.known (quoted_from quote 0 text) (sym (at_drop_all (λ rest. ends span.known (quoted_from quote 0 rest)) text span.size past) ∙ spanning.ended)

pub ruleset spans = (span_starts, span_goes_on, span_closes, span_ends)

-- What a quoted scalar means

pub record IsReadingText (quote : ℕ) (text : List ℕ) (at : ℕ) (bytes : List ℕ) : Type 0 where
  pub same : texts bytes (quoted_from quote 0 (drop at text)) ≡ texts [] (quoted_from quote 0 text)
  pub within : at ≤ length text

pub text_starts : (quote : ℕ) (text bytes : List ℕ) → bytes ≡ [] → IsReadingText quote text 0 bytes
text_starts quote text bytes none = record { same = ap (λ bytes. texts bytes (quoted_from quote 0 text)) none; within = omega arith }

further : (quote at : ℕ) (text bytes : List ℕ) (unit : QuotedUnit) → at < length text → unit ≡ unit_of quote (get_or text at 0) (drop (at + 1) text)
    → IsUnit (1 + length (drop (at + 1) text)) unit → is_closing unit ≡ false
    → texts (bytes ++ meant_bytes unit) (quoted_from quote 0 (drop (at + size_of unit) text)) ≡ texts bytes (quoted_from quote 0 (drop at text))
further quote at text bytes Closing more is unit other = absurd (cc)
further quote at text bytes (Meant meant size) more is unit other =
    sym (ap (texts bytes) (on_meant quote at meant size text more (sym is) unit.0) ∙ texts_meant bytes meant (quoted_from quote 0 (drop (at + size) text)))
further quote at text bytes (Unknown size) more is unit other =
    ap (λ bytes. texts bytes (quoted_from quote 0 (drop (at + size) text))) (append-nil bytes)
    ∙ sym (ap (texts bytes) (on_unknown quote at size text more (sym is) unit.0) ∙ texts_unknown bytes (quoted_from quote 0 (drop (at + size) text)))

unit_fits : (most : ℕ) (unit : QuotedUnit) → IsUnit most unit → (1 ≤ size_of unit) × (size_of unit ≤ most)
unit_fits most Closing fits = (omega arith, fits)
unit_fits most (Meant byte size) fits = fits
unit_fits most (Unknown size) fits = fits

pub text_goes_on : (quote at : ℕ) (text bytes longer : List ℕ) (unit : QuotedUnit) → IsReadingText quote text at bytes → at < length text
    → unit ≡ unit_of quote (get_or text at 0) (drop (at + 1) text) → IsUnit (1 + length (drop (at + 1) text)) unit → is_closing unit ≡ false → longer ≡ bytes ++ meant_bytes unit
    → IsReadingText quote text (at + size_of unit) longer
text_goes_on quote at text bytes longer unit reading more is fits other pushed = record {
  same = ap (λ bytes. texts bytes (quoted_from quote 0 (drop (at + size_of unit) text))) pushed ∙ further quote at text bytes unit more is fits other ∙ reading.same;
  within = let bound : (1 ≤ size_of unit) × (size_of unit ≤ 1 + length (drop (at + 1) text)) = unit_fits (1 + length (drop (at + 1) text)) unit fits in omega (arith, bound.1, length-drop (at + 1) text);
}

read_text : (bytes rest : List ℕ) (quoted : Option Quoted) → texts bytes (Some (record { text = []; known = true; rest = rest })) ≡ texts [] quoted → IfSome quoted (λ quoted. bytes ≡ quoted.text)
read_text bytes rest None same = tt
read_text bytes rest (Some quoted) same = let e : bytes ++ [] ≡ quoted.text = some_same same in sym (append-nil bytes) ∙ e
  where
    some_same : {x y : List ℕ} → Some x ≡ Some y → x ≡ y
    some_same e = cc

is_the_closing : (unit : QuotedUnit) → is_closing unit ≡ true → unit ≡ Closing
is_the_closing Closing is = refl
is_the_closing (Meant byte size) is = absurd (cc)
is_the_closing (Unknown size) is = absurd (cc)

pub text_closes : (quote at : ℕ) (text bytes : List ℕ) (unit : QuotedUnit) → IsReadingText quote text at bytes → at < length text
    → unit ≡ unit_of quote (get_or text at 0) (drop (at + 1) text) → is_closing unit ≡ true → IfSome (quoted_of quote text) (λ quoted. bytes ≡ quoted.text)
unfolding quoted_of
text_closes quote at text bytes unit reading more is closing =
    read_text bytes (drop (at + 1) text) (quoted_from quote 0 text) (sym (ap (texts bytes) (on_closing quote at text more (sym is ∙ is_the_closing unit closing))) ∙ reading.same)

no_text : (bytes : List ℕ) (quoted : Option Quoted) → None ≡ texts [] quoted → IfSome quoted (λ quoted. bytes ≡ quoted.text)
no_text bytes None is = tt
no_text bytes (Some quoted) is = absurd (cc)

pub text_ends : (quote at : ℕ) (text bytes : List ℕ) → IsReadingText quote text at bytes → length text ≤ at → IfSome (quoted_of quote text) (λ quoted. bytes ≡ quoted.text)
unfolding quoted_of
text_ends quote at text bytes reading past =
    no_text bytes (quoted_from quote 0 text) (sym (at_drop_all (λ rest. texts bytes (quoted_from quote 0 rest)) text at past) ∙ reading.same)

pub ruleset texts_read = (text_starts, text_goes_on, text_closes, text_ends)

-- Parts of a line

pub plain_text : (text part : List ℕ) (span : Span) (quoted : Option Quoted) → IsSpan text (Some span) quoted → span.plain ≡ true → part ≡ take span.size text → IfSome quoted (λ quoted. part ≡ quoted.text)
plain_text text part span None is plain at = tt
plain_text text part span (Some quoted) is plain at = at ∙ sym (is.2 plain)

pub no_quoted : (text line : List ℕ) (quoted : Option Quoted) → IsSpan text None quoted → None ≡ quoted
no_quoted text line None is = refl
no_quoted text line (Some quoted) is = absurd is

pub same_quoted : (line : List ℕ) (at : ℕ) (span : Span) (given : QuotedText) (quoted : Option Quoted) → IsSpan (drop at line) (Some span) quoted → IfSome quoted (λ quoted. given.text ≡ quoted.text)
    → given.known ≡ span.known → given.rest ≡ at + span.size + 1 → Some (quoted_in line given) ≡ quoted
same_quoted line at span given None is text known rest = absurd is
same_quoted line at span given (Some quoted) is text known rest =
    let n : at + (span.size + 1) ≡ given.rest = omega arith in
    let r : drop given.rest line ≡ quoted.rest = sym (is.1 ∙ drop-drop (span.size + 1) at line ∙ ap (λ (n : ℕ). drop n line) n) in
    let k : given.known ≡ quoted.known = known ∙ sym is.0 in
    ap (λ text. Some (record { text = text; known = given.known; rest = drop given.rest line })) text
    ∙ ap (λ known. Some (record { text = quoted.text; known = known; rest = drop given.rest line })) k
    ∙ ap (λ rest. Some (record { text = quoted.text; known = quoted.known; rest = rest })) r

pub ruleset parts = (plain_text, no_quoted, same_quoted)
