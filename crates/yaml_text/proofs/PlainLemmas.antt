-- Plain scalars and keys, by their places in a line.
use Rattle.std.proofs.Common.{◌≡◌, ℕ, ◌+◌, ◌-◌, ◌<◌, ◌≤◌, List, [], length, take, drop, get_or, Bool, true, false, ◌&&◌, Option, Some, None, Result, Ok, Err, refl, sym, ap, ◌∙◌, subst, arith, tests}
use Rattle.yaml_text.proofs.FlowLemmas.{gives_same}
use Rattle.std.proofs.lemmas.List.{at_drop_more, at_drop_all, drop-drop, take-take, length-take}
use Rattle.yaml_text.specs.Characters.{is_blank}
use Rattle.std.specs.Prelude.{nat_lt, if◌then◌else◌}
use Rattle.mo_types.specs.Gives.{Gives}
use Rattle.mo_types.specs.declared.cause.Rule.TheVariants as rule
use Rattle.yaml_text.specs.declared.fault.YamlFault.{YamlFault}
use Rattle.yaml_text.specs.declared.fault.YamlFault.TheVariants.{At}
use Rattle.yaml_text.specs.FaultText.{IsYamlFault}
use Rattle.yaml_text.specs.inner.Units.{quoted_in, keyed_in}
use Rattle.yaml_text.specs.Characters.{is_quote, is_forbidden}
use Rattle.yaml_text.specs.Lines.{is_empty, trimmed, trimmed_size}
use Rattle.yaml_text.specs.Scalars.{Quoted, Keyed, ends_plain, plain_from, plain_size, is_key_end, quoted_of, quoted_key, plain_key, key_begun, key_of, quoted_alone, plain_alone, scalar_begun, scalar_of}

-- no byte below a place ends a plain scalar
pub record IsPlain (in_flow : Bool) (text : List ℕ) (at : ℕ) (spaced : Bool) : Type 0 where
  pub same : at + plain_from in_flow spaced (drop at text) ≡ plain_from in_flow false text
  pub within : at ≤ length text

pub plain_starts : (in_flow : Bool) (text : List ℕ) → IsPlain in_flow text 0 false
plain_starts in_flow text = record { same = omega arith; within = omega arith }

pub plain_goes_on : (in_flow : Bool) (text : List ℕ) (at : ℕ) (spaced : Bool) → IsPlain in_flow text at spaced → at < length text
    → ends_plain in_flow spaced (get_or text at 0) (drop (at + 1) text) ≡ false → IsPlain in_flow text (at + 1) (is_blank (get_or text at 0))
plain_goes_on in_flow text at spaced plain more inner = record {
  same =
      let e : plain_from in_flow spaced (drop at text) ≡ plain_from in_flow (is_blank (get_or text at 0)) (drop (at + 1) text) + 1 =
      at_drop_more (plain_from in_flow spaced) text at 0 more ∙ rw inner refl in
      let s : at + plain_from in_flow spaced (drop at text) ≡ plain_from in_flow false text = plain.same in omega arith;
  within = omega arith;
}

pub plain_stops : (in_flow : Bool) (text : List ℕ) (at : ℕ) (spaced : Bool) → IsPlain in_flow text at spaced → at < length text
    → ends_plain in_flow spaced (get_or text at 0) (drop (at + 1) text) ≡ true → at ≡ plain_from in_flow false text
plain_stops in_flow text at spaced plain more end =
    let e : plain_from in_flow spaced (drop at text) ≡ 0 = at_drop_more (plain_from in_flow spaced) text at 0 more ∙ rw end refl in
    let s : at + plain_from in_flow spaced (drop at text) ≡ plain_from in_flow false text = plain.same in omega arith

pub plain_ends : (in_flow : Bool) (text : List ℕ) (at : ℕ) (spaced : Bool) → IsPlain in_flow text at spaced → length text ≤ at → at ≡ plain_from in_flow false text
plain_ends in_flow text at spaced plain past =
    let e : plain_from in_flow spaced (drop at text) ≡ 0 = at_drop_all (plain_from in_flow spaced) text at past in
    let s : at + plain_from in_flow spaced (drop at text) ≡ plain_from in_flow false text = plain.same in omega arith

pub ruleset plains = (plain_starts, plain_goes_on, plain_stops, plain_ends)

-- Places in a line

pub twice : (m n : ℕ) (line : List ℕ) → drop m (drop n line) ≡ drop (n + m) line
twice m n line = drop-drop m n line

pub plain_is : (line part : List ℕ) (at size kept : ℕ) → part ≡ take kept (drop at line) → kept ≡ trimmed_size (take (at + size - at) (drop at line)) → at + size ≤ length line
    → kept ≤ length (take (at + size - at) (drop at line)) → part ≡ trimmed (take size (drop at line))
plain_is line part at size kept is kept_is within bound =
    let n : at + size - at ≡ size = omega arith in
    let k : kept ≡ trimmed_size (take size (drop at line)) = kept_is ∙ ap (λ (n : ℕ). trimmed_size (take n (drop at line))) n in
    let b : kept ≤ size = omega (arith, length-take (at + size - at) (drop at line)) in
    is ∙ sym (take-take kept size (drop at line) b) ∙ ap (λ (n : ℕ). take n (take size (drop at line))) k

pub ruleset parts = (plain_is)

-- Keys

pub keyed_behind : (line text : List ℕ) (known : Bool) (rest : ℕ) → known ≡ true → is_key_end (drop rest line) ≡ true
    → Some (keyed_in line (record { name = text; rest = rest + 1 })) ≡ quoted_key (Some (quoted_in line (record { text = text; known = known; rest = rest })))
keyed_behind line text known rest holds end = rw (holds, end) (ap (λ rest. Some (record { name = text; rest = rest })) (sym (drop-drop 1 rest line)))

pub plain_keyed : (line name : List ℕ) (at size : ℕ) → 0 < size → is_key_end (drop (at + size) line) ≡ true → name ≡ trimmed (take size (drop at line))
    → Some (keyed_in line (record { name = name; rest = at + size + 1 })) ≡ plain_key size (drop at line)
plain_keyed line name at size some end is =
    let low : nat_lt 0 size ≡ true = above size some in
    let here : is_key_end (drop size (drop at line)) ≡ true = ap is_key_end (drop-drop size at line) ∙ end in
    let n : at + (size + 1) ≡ at + size + 1 = omega arith in
    let behind : drop (at + size + 1) line ≡ drop (size + 1) (drop at line) = ap (λ (n : ℕ). drop n line) (sym n) ∙ sym (drop-drop (size + 1) at line) in
    ap (λ name. Some (record { name = name; rest = drop (at + size + 1) line })) is ∙ ap (λ rest. Some (record { name = trimmed (take size (drop at line)); rest = rest })) behind ∙ sym (rw (low, here) refl)
  where
    above : (size : ℕ) → 0 < size → nat_lt 0 size ≡ true
    above size some = grind (arith, tests)

pub plain_unkeyed : (line : List ℕ) (at size : ℕ) → is_key_end (drop (at + size) line) ≡ false → None ≡ plain_key size (drop at line)
plain_unkeyed line at size other =
    let here : is_key_end (drop size (drop at line)) ≡ false = ap is_key_end (drop-drop size at line) ∙ other in
    sym (ap (λ test. if test then Some (record { name = trimmed (take size (drop at line)); rest = drop (size + 1) (drop at line) }) else None) (ap (λ end. nat_lt 0 size && end) here ∙ never (nat_lt 0 size)))
  where
    never : (test : Bool) → (test && false) ≡ false
    never true = refl
    never false = refl

pub nothing_keyed : (line : List ℕ) (at size : ℕ) → size ≤ 0 → None ≡ plain_key size (drop at line)
nothing_keyed line at size none =
    let low : nat_lt 0 size ≡ false = below size none in
    sym (rw low refl)
  where
    below : (size : ℕ) → size ≤ 0 → nat_lt 0 size ≡ false
    below size none = grind (arith, tests)

pub no_key : (text : List ℕ) → is_empty text ≡ true → None ≡ key_of text
unfolding key_of
no_key text empty = sym (rw empty refl)

pub key_begins : (text : List ℕ) (key : Option Keyed) → is_empty text ≡ false → key ≡ key_begun (get_or text 0 0) text → key ≡ key_of text
unfolding key_of
key_begins text key some is = is ∙ sym (rw some refl)

pub key_quoted : (line : List ℕ) (at byte : ℕ) (key : Option Keyed) (quoted : Option Quoted) → is_quote byte ≡ true → quoted ≡ quoted_of byte (drop (at + 1) line) → key ≡ quoted_key quoted
    → key ≡ key_begun byte (drop at line)
key_quoted line at byte key quoted quote is key_is =
    key_is ∙ ap quoted_key (is ∙ ap (quoted_of byte) (sym (drop-drop 1 at line))) ∙ sym (rw quote refl)

pub key_forbidden : (text : List ℕ) (byte : ℕ) → is_quote byte ≡ false → is_forbidden byte ≡ true → None ≡ key_begun byte text
key_forbidden text byte other forbidden = sym (rw (other, forbidden) refl)

pub key_plain : (text : List ℕ) (byte size : ℕ) (key : Option Keyed) → is_quote byte ≡ false → is_forbidden byte ≡ false → size ≡ plain_from false false text → key ≡ plain_key size text → key ≡ key_begun byte text
unfolding plain_size
key_plain text byte size key other free size_is key_is = key_is ∙ ap (λ (n : ℕ). plain_key n text) size_is ∙ sym (rw (other, free) refl)

pub ruleset keys = (twice, keyed_behind, plain_keyed, plain_unkeyed, nothing_keyed)

-- Scalars

pub no_scalar : (line : ℕ) (text : List ℕ) → is_empty text ≡ true → scalar_of line text ≡ Ok []
unfolding scalar_of
no_scalar line text empty = rw empty refl

pub scalar_begins : (line : ℕ) (text : List ℕ) (result : Result (List ℕ) YamlFault) → is_empty text ≡ false → Gives IsYamlFault result (scalar_begun line (get_or text 0 0) text) → Gives IsYamlFault result (scalar_of line text)
unfolding scalar_of
scalar_begins line text result some gives = subst (Gives IsYamlFault result) (sym (rw some refl)) gives

pub scalar_quoted : (number : ℕ) (line : List ℕ) (at byte : ℕ) (result : Result (List ℕ) YamlFault) (quoted : Option Quoted) → is_quote byte ≡ true → quoted ≡ quoted_of byte (drop (at + 1) line)
    → result ≡ quoted_alone number quoted → Gives IsYamlFault result (scalar_begun number byte (drop at line))
scalar_quoted number line at byte result quoted quote is result_is =
    gives_same result (scalar_begun number byte (drop at line)) (result_is ∙ ap (quoted_alone number) (is ∙ ap (quoted_of byte) (sym (drop-drop 1 at line))) ∙ sym (rw quote refl))

pub scalar_forbidden : (number : ℕ) (text : List ℕ) (byte : ℕ) → is_quote byte ≡ false → is_forbidden byte ≡ true → scalar_begun number byte text ≡ Err (At number rule.Scalar)
scalar_forbidden number text byte other forbidden = rw (other, forbidden) refl

pub scalar_plain : (number : ℕ) (text : List ℕ) (byte size : ℕ) (result : Result (List ℕ) YamlFault) → is_quote byte ≡ false → is_forbidden byte ≡ false → size ≡ plain_from false false text
    → Gives IsYamlFault result (plain_alone number size text) → Gives IsYamlFault result (scalar_begun number byte text)
unfolding plain_size
scalar_plain number text byte size result other free size_is gives =
    subst (Gives IsYamlFault result) (ap (λ (n : ℕ). plain_alone number n text) size_is ∙ sym (rw (other, free) refl)) gives

-- the code's place behind a scalar is the text's
pub alone_at : (number : ℕ) (line : List ℕ) (at size : ℕ) (result : Result (List ℕ) YamlFault)
    → Gives IsYamlFault result (if is_key_end (drop (at + size) line) then Err (At number rule.Key) else Ok (trimmed (take size (drop at line)))) → Gives IsYamlFault result (plain_alone number size (drop at line))
alone_at number line at size result gives =
    subst (λ (end : Bool). Gives IsYamlFault result (if end then Err (At number rule.Key) else Ok (trimmed (take size (drop at line))))) (ap is_key_end (sym (drop-drop size at line))) gives

pub ruleset scalars = (no_scalar, alone_at)
