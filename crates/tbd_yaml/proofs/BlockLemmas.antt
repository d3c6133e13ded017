-- Open blocks.
use Rattle.std.proofs.Common.{◌≡◌, ℕ, ◌+◌, ◌<◌, ◌≤◌, List, [], ◌∷◌, ◌++◌, length, map, reverse, Bool, true, false, Result, Ok, Err, refl, sym, ap, ◌∙◌, arith, subst, drop, ◌&&◌, append_assoc, append-nil}
use Rattle.std.proofs.lemmas.Bool.{lt-ltb, le-ltb}
use Rattle.std.specs.Prelude.{nat_lt}
use Rattle.std.proofs.lemmas.List.{reverse-append, drop-drop, length-drop}
use Rattle.mo_types.specs.Gives.{Gives}
use Rattle.yaml_text.specs.FaultText.{IsYamlFault}
use Rattle.mo_types.specs.declared.cause.Rule.TheVariants as rule
use Rattle.yaml_text.specs.declared.fault.YamlFault.{YamlFault}
use Rattle.yaml_text.specs.declared.fault.YamlFault.TheVariants.{At}
use Rattle.tbd_yaml.specs.declared.block.Block.{Block}
use Rattle.yaml_text.specs.declared.file.YamlEvent.{YamlEvent}
use Rattle.yaml_text.specs.declared.file.YamlEvent.TheVariants as event
use Rattle.tbd_yaml.specs.declared.body.Body.{Body}
use Rattle.yaml_text.specs.Lines.{blanks, without_blanks, is_bare, is_item}
use Rattle.yaml_text.specs.Scalars.{key_of}
use Rattle.tbd_yaml.specs.Blocks.{closed_to, goes_on, with_item, with_item_of}

-- the blocks that are left end as all of them do
pub record IsClosing (line column : ℕ) (item : Bool) (all : List Block) (first : List YamlEvent) (blocks : List Block) (events : List YamlEvent) : Type 0 where
  pub same : closed_to line column item blocks events ≡ closed_to line column item all first

pub close_starts : (line column : ℕ) (item : Bool) (all : List Block) (first : List YamlEvent) → IsClosing line column item all first all first
close_starts line column item all first = record { same = refl }

pub close_goes_on : (line column : ℕ) (item : Bool) (all blocks outer : List Block) (first events more : List YamlEvent) (block : Block)
    → IsClosing line column item all first blocks events → blocks ≡ block ∷ outer → column ≤ block.column → goes_on column item block ≡ false → more ≡ events ++ event.End ∷ []
    → IsClosing line column item all first outer more
close_goes_on line column item all blocks outer first events more block closing is within other pushed = record {
  same =
      let low : nat_lt block.column column ≡ false = le-ltb block.column column within in
      let e : closed_to line column item (block ∷ outer) events ≡ closed_to line column item outer (events ++ event.End ∷ []) = rw (low, other) refl in
      ap (closed_to line column item outer) pushed ∙ sym e ∙ ap (λ blocks. closed_to line column item blocks events) (sym is) ∙ closing.same;
}

pub close_stops : (line column : ℕ) (item : Bool) (all blocks outer kept : List Block) (first events : List YamlEvent) (block : Block)
    → IsClosing line column item all first blocks events → blocks ≡ block ∷ outer → column ≤ block.column → goes_on column item block ≡ true → kept ≡ block ∷ outer
    → closed_to line column item all first ≡ Ok (kept, events)
close_stops line column item all blocks outer kept first events block closing is within same pushed =
    let low : nat_lt block.column column ≡ false = le-ltb block.column column within in
    let e : closed_to line column item (block ∷ outer) events ≡ Ok (block ∷ outer, events) = rw (low, same) refl in
    sym closing.same ∙ ap (λ blocks. closed_to line column item blocks events) is ∙ e ∙ ap (λ blocks. Ok (blocks, events)) (sym pushed)

pub close_fails : (line column : ℕ) (item : Bool) (all blocks outer : List Block) (first events : List YamlEvent) (block : Block)
    → IsClosing line column item all first blocks events → blocks ≡ block ∷ outer → block.column < column
    → closed_to line column item all first ≡ Err (At line rule.Indent)
close_fails line column item all blocks outer first events block closing is below =
    let low : nat_lt block.column column ≡ true = lt-ltb block.column column below in
    let e : closed_to line column item (block ∷ outer) events ≡ Err (At line rule.Indent) = rw low refl in
    sym closing.same ∙ ap (λ blocks. closed_to line column item blocks events) is ∙ e

pub close_ends : (line column : ℕ) (item : Bool) (all blocks : List Block) (first events : List YamlEvent)
    → IsClosing line column item all first blocks events → blocks ≡ [] → closed_to line column item all first ≡ Err (At line rule.Indent)
close_ends line column item all blocks first events closing none = sym closing.same ∙ ap (λ blocks. closed_to line column item blocks events) none

pub ruleset closes = (close_starts, close_goes_on, close_stops, close_fails, close_ends)

-- All blocks end.

abbrev ended : List Block → List YamlEvent
ended blocks = map (λ _. event.End) blocks

pub record IsEnding (all : List Block) (first : List YamlEvent) (blocks : List Block) (events : List YamlEvent) : Type 0 where
  pub same : events ++ map (λ _. event.End) blocks ≡ first ++ map (λ _. event.End) all

pub end_starts : (all : List Block) (first : List YamlEvent) → IsEnding all first all first
end_starts all first = record { same = refl }

pub end_goes_on : (all blocks outer : List Block) (first events more : List YamlEvent) (block : Block) → IsEnding all first blocks events → blocks ≡ block ∷ outer → more ≡ events ++ event.End ∷ []
    → IsEnding all first outer more
end_goes_on all blocks outer first events more block ending is pushed = record {
  same =
      ap (λ events. events ++ ended outer) pushed ∙ append_assoc events (event.End ∷ []) (ended outer) ∙ ap (λ blocks. events ++ ended blocks) (sym is) ∙ ending.same;
}

pub end_ends : (all blocks : List Block) (first events : List YamlEvent) → IsEnding all first blocks events → blocks ≡ [] → Gives IsYamlFault (Ok events) (Ok (first ++ map (λ _. event.End) all))
end_ends all blocks first events ending none = ap Ok (sym ending.same ∙ ap (λ blocks. events ++ ended blocks) none ∙ append-nil events)

pub ruleset endings = (end_starts, end_goes_on, end_ends)

-- The innermost block is the last of the vector.

pub pushed_last : (blocks longer : List Block) (block : Block) → longer ≡ blocks ++ block ∷ [] → reverse longer ≡ block ∷ reverse blocks
pushed_last blocks longer block is = ap reverse is ∙ reverse-append blocks (block ∷ [])

pub ruleset stack = (pushed_last)

-- Items

pub bare_item : (line : ℕ) (text rest : List ℕ) (at : ℕ) (body : Body) → rest ≡ drop (at + 2) text → is_bare rest ≡ true → with_item line at (drop at text) body ≡ Err (At line rule.Key)
unfolding with_item
bare_item line text rest at body is bare =
    let e : is_bare (drop 2 (drop at text)) ≡ true = ap is_bare (drop-drop 2 at text ∙ sym is) ∙ bare in
    rw e refl

pub item_begins : (line : ℕ) (text rest : List ℕ) (at passed : ℕ) (body : Body) (result : Result Body YamlFault) → rest ≡ drop (at + 2) text → is_bare rest ≡ false → passed ≡ blanks rest
    → Gives IsYamlFault result (with_item_of line (at + 2 + passed) (drop (at + 2 + passed) text) (key_of (drop (at + 2 + passed) text)) body)
    → Gives IsYamlFault result (with_item line at (drop at text) body)
unfolding with_item
item_begins line text rest at passed body result is some passed_is gives =
    let two : drop 2 (drop at text) ≡ rest = drop-drop 2 at text ∙ sym is in
    let e : is_bare (drop 2 (drop at text)) ≡ false = ap is_bare two ∙ some in
    let n : blanks (drop 2 (drop at text)) ≡ passed = ap blanks two ∙ sym passed_is in
    let t : without_blanks (drop 2 (drop at text)) ≡ drop (at + 2 + passed) text =
    ap (λ (n : ℕ). drop n (drop 2 (drop at text))) n ∙ ap (drop passed) (two ∙ is) ∙ drop-drop passed (at + 2) text in
    let f : with_item_of line (at + 2 + blanks (drop 2 (drop at text))) (without_blanks (drop 2 (drop at text))) (key_of (without_blanks (drop 2 (drop at text)))) body
    ≡ with_item_of line (at + 2 + passed) (drop (at + 2 + passed) text) (key_of (drop (at + 2 + passed) text)) body =
    ap (λ (n : ℕ). with_item_of line (at + 2 + n) (without_blanks (drop 2 (drop at text))) (key_of (without_blanks (drop 2 (drop at text)))) body) n
    ∙ ap (λ text. with_item_of line (at + 2 + passed) text (key_of text) body) t in
    subst (Gives IsYamlFault result) (sym (rw e f)) gives

pub ruleset items = (bare_item, item_begins)

false_and : (test : Bool) → (test && false) ≡ true → ⊥
false_and true is = cc
false_and false is = cc

long : (text : List ℕ) → is_item text ≡ true → 2 ≤ length text
unfolding is_item
long [] is = absurd (cc)
long (byte ∷ []) is = absurd (false_and _ is)
long (byte ∷ next ∷ bytes) is = omega arith

pub item_fits : (line slice : List ℕ) (column : ℕ) → slice ≡ drop column line → is_item slice ≡ true → column + 2 ≤ length line
item_fits line slice column is item =
    let l : 2 ≤ length (drop column line) = long (drop column line) (ap is_item (sym is) ∙ item) in
    omega (arith, length-drop column line)

pub ruleset entries = (item_fits)
