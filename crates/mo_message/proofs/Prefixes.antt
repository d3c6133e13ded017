-- A text that is put piece by piece, and the part of it that was put when a piece fails.
use Rattle.std.proofs.Common.{◌≡◌, ℕ, ◌+◌, List, ◌++◌, length, take, Option, None, Some, Result, Ok, Err, OnOk, OnErr, sym, ap, subst, ◌∙◌, arith, append_assoc, length-append}
use Rattle.std.proofs.lemmas.List.{take-append-le}
use Rattle.std.proofs.Math.Seq.{take-append-add}
use Rattle.mo_outside.specs.Tells.{Tells, Appends, AppendsSome}

-- the first bytes of a text are those of a longer one
longer : (text rest old new : List ℕ) → AppendsSome text old new → AppendsSome (text ++ rest) old new
longer text rest old new part = record {
  count = part.count;
  within = omega (arith, part.within, length-append text rest);
  appended = part.appended ∙ ap (λ bytes. old ++ bytes) (sym (take-append-le part.count text rest part.within));
}

-- the first bytes of the second piece came after the whole first one
later : (text rest old new last : List ℕ) → Appends text old new → AppendsSome rest new last → AppendsSome (text ++ rest) old last
later text rest old new last whole part = record {
  count = length text + part.count;
  within = omega (arith, part.within, length-append text rest);
  appended = part.appended ∙ ap (λ bytes. bytes ++ take part.count rest) whole.appended
      ∙ append_assoc old text (take part.count rest)
      ∙ ap (λ bytes. old ++ bytes) (sym (take-append-add text rest part.count));
}

pub stops_before : (text rest : List ℕ) (old new : Option (List ℕ)) → Tells (AppendsSome text) old new → Tells (AppendsSome (text ++ rest)) old new
stops_before text rest old None part = tt
stops_before text rest None (Some new) part = part
stops_before text rest (Some old) (Some new) part = longer text rest old new part

pub stops_within : (text rest : List ℕ) (old new last : Option (List ℕ)) → Tells (Appends text) old new → Tells (AppendsSome rest) new last → Tells (AppendsSome (text ++ rest)) old last
stops_within text rest old new None whole part = tt
stops_within text rest old None (Some last) whole part = absurd part
stops_within text rest None (Some new) (Some last) whole part = whole
stops_within text rest (Some old) (Some new) (Some last) whole part = later text rest old new last whole part

pub ruleset prefixes = (stops_before, stops_within)

-- the same where the first call failed, for a text that is the two pieces together
pub stops_in_first : (text rest all : List ℕ) (old new : Option (List ℕ)) → Tells (AppendsSome text) old new → text ++ rest ≡ all → Tells (AppendsSome all) old new
stops_in_first text rest all old new part same =
    let P : List ℕ → Type 0 = λ bytes. Tells (AppendsSome bytes) old new in
    subst P same (stops_before text rest old new part)

-- and where the second call may have failed
pub stops_in_rest : {T E : Type 0} (result : Result T E) (text rest all : List ℕ) (old new last : Option (List ℕ)) → Tells (Appends text) old new → OnErr result (Tells (AppendsSome rest) new last) → text ++ rest ≡ all → OnErr result (Tells (AppendsSome all) old last)
stops_in_rest (Ok x) text rest all old new last whole part same = tt
stops_in_rest (Err e) text rest all old new last whole part same =
    let P : List ℕ → Type 0 = λ bytes. Tells (AppendsSome bytes) old last in
    subst P same (stops_within text rest old new last whole part)

both : (text rest all : List ℕ) (old new last : Option (List ℕ)) → Tells (Appends text) old new → Tells (Appends rest) new last → text ++ rest ≡ all → Tells (Appends all) old last
both text rest all old new None first second same = tt
both text rest all old None (Some last) first second same = absurd second
both text rest all None (Some new) (Some last) first second same = first
both text rest all (Some old) (Some new) (Some last) first second same = record {
  appended = second.appended ∙ ap (λ bytes. bytes ++ rest) first.appended ∙ append_assoc old text rest ∙ ap (λ bytes. old ++ bytes) same;
}

-- two calls put the whole text where the second didn't fail either
pub puts_both : {T E : Type 0} (result : Result T E) (text rest all : List ℕ) (old new last : Option (List ℕ)) → Tells (Appends text) old new → OnOk result (Tells (Appends rest) new last) → text ++ rest ≡ all → OnOk result (Tells (Appends all) old last)
puts_both (Ok x) text rest all old new last first second same = both text rest all old new last first second same
puts_both (Err e) text rest all old new last first second same = tt
