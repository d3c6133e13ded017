-- Ranges in another order overlap as they did.
use Rattle.std.proofs.Common.{◌≡◌, ℕ, ◌<◌, [], List, length, slice_get, All, Bool, false, leb, Option, Some, None, inl, inr, refl, sym, ap, ◌∙◌, subst, arith}
use Rattle.std.specs.Prelude.{Contains}
use Rattle.std.specs.List.{range_with_len}
use Rattle.std.specs.List.Sorted.{IsPermutation}
use Rattle.std.specs.Option.{option_and_then}
use Rattle.std.proofs.lemmas.Bool.{cases_Bool}
use Rattle.std.proofs.lemmas.List.Sorted.{All-permutation, Contains-permutation}
use Rattle.std.proofs.lemmas.Option.{get_or_from_slice_get, slice_get-get_or, slice_get_within}
use Rattle.list_lemmas.proofs.Members.{In, in_filter_map}
use Rattle.mo_types.specs.RelocationRules.{least}
use Rattle.mo_types.specs.Rows.{when}
use Rattle.reloc_read.proofs.CountLemmas.{count_moved}
use Rattle.unwind_read.specs.declared.spans.Span.{Span}
use Rattle.unwind_read.specs.Overlaps.{IsSpan, overlap, overlap_at, overlap_faults, overlaps_another}
use Rattle.unwind_read.proofs.LeastLemmas.{least_empty}
use Rattle.unwind_read.proofs.OverlapLemmas.{by_count, none_mapped}
use Rattle.unwind_read.proofs.PartLemmas.{in_range}

-- what overlaps another range in one order does so in the other
same_another : (spans sorted : List Span) (i j : ℕ) (own : Span) → IsPermutation spans sorted → IsSpan own → slice_get spans i ≡ Some own → slice_get sorted j ≡ Some own → overlaps_another spans i own ≡ overlaps_another sorted j own
same_another spans sorted i j own moved is here there =
    by_count spans i own is here ∙ ap (leb 2) (sym (count_moved (overlap own) spans sorted moved)) ∙ sym (by_count sorted j own is there)

not_told : (sorted : List Span) (j : ℕ) (own : Span) → overlap_faults sorted ≡ [] → slice_get sorted j ≡ Some own → overlaps_another sorted j own ≡ false
unfolding overlap_faults
not_told sorted j own none there = elim (cases_Bool (overlaps_another sorted j own)) [
  | inl other ↦
      let told : overlap_at sorted j ≡ Some own.place = ap (option_and_then (λ span. when (overlaps_another sorted j span) span.place)) there ∙ ap (λ (t : Bool). when t own.place) other in
      let within : j < length sorted = slice_get_within sorted j own there in
      absurd (subst (In own.place) none (in_filter_map (overlap_at sorted) (range_with_len 0 (length sorted)) j own.place (in_range 0 (length sorted) j (omega arith) (omega arith)) told))
  | inr alone ↦ alone
]

pub all_moved : (spans sorted : List Span) → IsPermutation spans sorted → All IsSpan spans → All IsSpan sorted
all_moved spans sorted moved all = All-permutation IsSpan spans sorted moved all

alone_at : (spans sorted : List Span) (k : ℕ) (own : Span) → IsPermutation spans sorted → All IsSpan spans → overlap_faults sorted ≡ [] → slice_get spans k ≡ Some own → overlaps_another spans k own ≡ false
alone_at spans sorted k own moved all none here =
    let within : k < length spans = slice_get_within spans k own here in
    let its = get_or_from_slice_get spans k own own here in
    let is : IsSpan own = subst IsSpan its (all k own within) in
    let there : Contains sorted own = Contains-permutation spans sorted own moved (k, within, its) in
    let found : slice_get sorted there.0 ≡ Some own = slice_get-get_or sorted there.0 own there.1 ∙ ap Some there.2 in
    same_another spans sorted k there.0 own moved is here found ∙ not_told sorted there.0 own none found

pub none_moved : (spans sorted : List Span) → IsPermutation spans sorted → All IsSpan spans → None ≡ least (overlap_faults sorted) → None ≡ least (overlap_faults spans)
unfolding overlap_faults
none_moved spans sorted moved all e = ap least (sym (none_mapped (overlap_at spans) 0 (length spans) (λ k. by k (slice_get spans k) refl)))
  where
    by : (k : ℕ) (o : Option Span) → slice_get spans k ≡ o → option_and_then (λ span. when (overlaps_another spans k span) span.place) o ≡ None
    by k None here = refl
    by k (Some own) here = rw (alone_at spans sorted k own moved all (least_empty (overlap_faults sorted) (sym e)) here) refl

pub ruleset moves = (all_moved, none_moved)
