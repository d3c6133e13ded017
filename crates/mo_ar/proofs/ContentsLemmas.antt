-- The pairs of a table, read one by one.
use Rattle.std.proofs.Common.{◌≡◌, ℕ, ◌+◌, ◌<◌, ◌≤◌, List, [], ◌∷◌, ◌++◌, length, true, All, Some, None, Ok, Err, refl, sym, ap, ◌∙◌, length-append}
use Rattle.std.proofs.lemmas.List.{map-append}
use Rattle.std.proofs.lemmas.List.Elements.{All-append, All-cons, All-nil}
use Rattle.std.specs.Option.{option_map}
use Rattle.mo_types.proofs.Each.{IsReading, starts_reading, goes_on, stops, has_read}
use Rattle.mo_ar.specs.Contents.{fault, is_whole, offer_at, offer_or_fault, offers_in, pair_count, strings_of}
use Rattle.mo_ar.specs.inner.Index.{offers_of}
use Rattle.mo_ar.specs.inner.Index.{IsEntry}
use Rattle.mo_ar.specs.inner.Index.{offer_of}
use Rattle.mo_ar.specs.declared.offers.Entry.{Entry}

-- the pairs below an index are read
pub record IsTabling (table places : List ℕ) (i : ℕ) (entries : List Entry) : Type 0 where
  pub reading : IsReading (offer_or_fault table places) (pair_count table) i (offers_of (strings_of table) entries)
  pub within : All (IsEntry (strings_of table)) entries
  pub count : length entries ≡ i

pub table_starts : (table places : List ℕ) → IsTabling table places 0 []
table_starts table places =
    record { reading = starts_reading (offer_or_fault table places) (pair_count table); within = All-nil (IsEntry (strings_of table)); count = refl }

pub table_goes_on : (table places : List ℕ) (i : ℕ) (entries : List Entry) (entry : Entry) → IsTabling table places i entries → i < pair_count table → option_map (offer_of (strings_of table)) (Some entry) ≡ offer_at table places i → IsEntry (strings_of table) entry → IsTabling table places (i + 1) (entries ++ entry ∷ [])
unfolding offer_or_fault
table_goes_on table places i entries entry tabling more is within = record {
  reading =
      let here : offer_or_fault table places i ≡ Ok (offer_of (strings_of table) entry) = rw (← is) refl in
      let front : offers_of (strings_of table) entries ++ offer_of (strings_of table) entry ∷ [] ≡ offers_of (strings_of table) (entries ++ entry ∷ []) =
      sym (map-append (offer_of (strings_of table)) entries (entry ∷ [])) in
      rw front at (goes_on (offer_or_fault table places) (pair_count table) i (offers_of (strings_of table) entries) (offer_of (strings_of table) entry) tabling.reading more here);
  within = All-append (IsEntry (strings_of table)) entries (entry ∷ []) tabling.within (All-cons (IsEntry (strings_of table)) entry [] within (All-nil (IsEntry (strings_of table))));
  count = length-append entries (entry ∷ []) ∙ ap (λ (n : ℕ). n + 1) tabling.count;
}

pub table_stops : (table places : List ℕ) (i : ℕ) (entries : List Entry) → IsTabling table places i entries → is_whole table ≡ true → i < pair_count table → None ≡ offer_at table places i → offers_in table places ≡ Err fault
unfolding offer_or_fault offers_in
table_stops table places i entries tabling whole more none =
    let here : offer_or_fault table places i ≡ Err fault = rw (← none) refl in
    rw whole (stops (offer_or_fault table places) (pair_count table) i (offers_of (strings_of table) entries) fault tabling.reading more here)

pub table_ends : (table places : List ℕ) (i : ℕ) (entries : List Entry) → IsTabling table places i entries → is_whole table ≡ true → pair_count table ≤ i → offers_in table places ≡ Ok (offers_of (strings_of table) entries)
unfolding offers_in
table_ends table places i entries tabling whole past =
    rw whole (has_read (offer_or_fault table places) (pair_count table) i (offers_of (strings_of table) entries) tabling.reading past)

pub ruleset reads = (table_starts, table_goes_on, table_stops, table_ends)
