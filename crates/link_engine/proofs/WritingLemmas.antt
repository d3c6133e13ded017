-- Pieces that are written one after the other.
use Rattle.std.proofs.Common.{◌≡◌, ℕ, ◌+◌, ◌≤◌, ◌<◌, ◌++◌, ◌∷◌, [], List, length, take, drop, Bool, true, false, Option, Some, None, Result, Ok, Err, OnErr, inl, inr, refl, sym, ap, ◌∙◌, subst, arith, append_assoc, ◌-◌, length-drop}
use Rattle.std.proofs.Math.Nat.{le_refl}
use Rattle.std.proofs.Math.Seq.{drop-drop, take-add, take-length}
use Rattle.std.proofs.lemmas.List.{append-nil, drop_all}
use Rattle.mo_outside.specs.Tells.{Tells, Stays}
use Rattle.mo_outside.specs.Written.{Written, at_last, with_more, finished, Begins, Takes, TakesSome, Finishes}
use Rattle.mo_outside.specs.Log.{Logs, OutCall, Begin, Write, Cut, Finish}
use Rattle.link_engine.specs.Writing.{AreCut, AreFileCalls, ArePartCalls, AreWrites, Hands, WritesPart, WritesWhole}

pub on_err : {A E : Type 0} (r : Result A E) (P : Type 0) → P → OnErr r P
on_err (Ok x) P p = tt
on_err (Err e) P p = p

-- two steps that are told one after the other
pub tells_both : {A : Type 0} (first second both : A → A → Type 0) → ((a b c : A) → first a b → second b c → both a c) → (x y z : Option A) → Tells first x y → Tells second y z → Tells both x z
tells_both first second both join x y None p q = tt
tells_both first second both join x None (Some c) p q = absurd q
tells_both first second both join None (Some b) (Some c) p q = absurd p
tells_both first second both join (Some a) (Some b) (Some c) p q = join a b c p q

pub tells_more : {A : Type 0} (first then : A → A → Type 0) → ((a b : A) → first a b → then a b) → (x y : Option A) → Tells first x y → Tells then x y
tells_more first then join x None p = tt
tells_more first then join None (Some b) p = absurd p
tells_more first then join (Some a) (Some b) p = join a b p

at_last-same : {A : Type 0} (f : A → A) → ((x : A) → f x ≡ x) → (xs : List A) → at_last f xs ≡ xs
at_last-same f same [] = refl
at_last-same f same (x ∷ []) = ap (λ y. y ∷ []) (same x)
at_last-same f same (x ∷ y ∷ ys) = ap (λ zs. x ∷ zs) (at_last-same f same (y ∷ ys))

at_last-at_last : {A : Type 0} (f g h : A → A) → ((x : A) → f (g x) ≡ h x) → (xs : List A) → at_last f (at_last g xs) ≡ at_last h xs
at_last-at_last f g h same [] = refl
at_last-at_last f g h same (x ∷ []) = ap (λ y. y ∷ []) (same x)
at_last-at_last f g h same (x ∷ y ∷ []) = ap (λ z. x ∷ z ∷ []) (same y)
at_last-at_last f g h same (x ∷ y ∷ z ∷ zs) = ap (λ ws. x ∷ ws) (at_last-at_last f g h same (y ∷ z ∷ zs))

at_last-append : {A : Type 0} (f : A → A) (xs : List A) (x : A) → at_last f (xs ++ x ∷ []) ≡ xs ++ f x ∷ []
at_last-append f [] x = refl
at_last-append f (y ∷ []) x = refl
at_last-append f (y ∷ z ∷ zs) x = ap (λ ws. y ∷ ws) (at_last-append f (z ∷ zs) x)

more-nothing : (bytes : List ℕ) (file : Written) → with_more (take 0 bytes) file ≡ file
more-nothing bytes file = ap (λ (b : List ℕ). record file { bytes = b }) (append-nil file.bytes)

more-more : (bytes : List ℕ) (at count : ℕ) (file : Written) → with_more (take count (drop at bytes)) (with_more (take at bytes) file) ≡ with_more (take (at + count) bytes) file
more-more bytes at count file =
    ap (λ (b : List ℕ). record file { bytes = b }) (append_assoc file.bytes (take at bytes) (take count (drop at bytes)) ∙ ap (λ b. file.bytes ++ b) (sym (take-add at count bytes)))

nothing_taken : (bytes : List ℕ) (old : List Written) → Takes bytes 0 old old
nothing_taken bytes old = record { taken = sym (at_last-same (with_more (take 0 bytes)) (more-nothing bytes) old) }

pub starts : (bytes : List ℕ) (files : Option (List Written)) → Tells (Takes bytes 0) files files
starts bytes None = tt
starts bytes (Some files) = nothing_taken bytes files

taken_more : (bytes piece : List ℕ) (at count : ℕ) → piece ≡ drop at bytes → (a b c : List Written) → Takes bytes at a b → Takes piece count b c → Takes bytes (at + count) a c
taken_more bytes piece at count is a b c before now = record {
  taken =
      now.taken
      ∙ ap (λ (p : List ℕ). at_last (with_more (take count p)) b) is
      ∙ ap (at_last (with_more (take count (drop at bytes)))) before.taken
      ∙ at_last-at_last (with_more (take count (drop at bytes))) (with_more (take at bytes)) (with_more (take (at + count) bytes)) (more-more bytes at count) a;
}

pub goes_on : (bytes piece : List ℕ) (at count : ℕ) (x y z : Option (List Written)) → Tells (Takes bytes at) x y → Tells (Takes piece count) y z → piece ≡ drop at bytes → Tells (Takes bytes (at + count)) x z
goes_on bytes piece at count x y z before now is =
    tells_both (Takes bytes at) (Takes piece count) (Takes bytes (at + count)) (taken_more bytes piece at count is) x y z before now

taken_some : (bytes piece : List ℕ) (at : ℕ) → piece ≡ drop at bytes → at ≤ length bytes → (a b c : List Written) → Takes bytes at a b → TakesSome piece b c → TakesSome bytes a c
taken_some bytes piece at is within a b c before now = record {
  count = at + now.count;
  within =
      let rest : length piece ≡ length bytes - at = ap length is ∙ length-drop at bytes in
      let some : now.count ≤ length piece = now.within in
      omega arith;
  taken = (taken_more bytes piece at now.count is a b c before (record { taken = now.taken })).taken;
}

pub stops : (bytes piece : List ℕ) (at : ℕ) (x y z : Option (List Written)) → Tells (Takes bytes at) x y → Tells (TakesSome piece) y z → piece ≡ drop at bytes → at ≤ length bytes → Tells (TakesSome bytes) x z
stops bytes piece at x y z before now is within =
    tells_both (Takes bytes at) (TakesSome piece) (TakesSome bytes) (taken_some bytes piece at is within) x y z before now

pub ends : (bytes : List ℕ) (at : ℕ) (x y : Option (List Written)) → Tells (Takes bytes at) x y → length bytes ≤ at → at ≤ length bytes → Tells (Takes bytes (length bytes)) x y
ends bytes at x y told past within =
    let e : at ≡ length bytes = omega arith in
    subst (λ (n : ℕ). Tells (Takes bytes n) x y) e told

-- the same of the calls that were made

writes_on : (bytes mid : List ℕ) (count : ℕ) (calls : List OutCall) → AreWrites bytes mid calls → 0 < length mid → AreWrites bytes (drop count mid) (calls ++ Write mid count ∷ [])
writes_on bytes mid count [] is some = (is, some, ap (drop count) is)
writes_on bytes mid count (Write piece taken ∷ calls) (same, more, rest) some = (same, more, writes_on (drop taken bytes) mid count calls rest some)
writes_on bytes mid count (Begin path ∷ calls) is some = absurd is
writes_on bytes mid count (Cut piece ∷ calls) is some = absurd is
writes_on bytes mid count (Finish ∷ calls) is some = absurd is

nothing_handed : (bytes : List ℕ) (old : List OutCall) → Hands (AreWrites bytes bytes) old old
nothing_handed bytes old = record { calls = []; each = refl; handed = sym (append-nil old) }

pub hands_none : (bytes : List ℕ) (calls : Option (List OutCall)) → Tells (Hands (AreWrites bytes (drop 0 bytes))) calls calls
hands_none bytes None = tt
hands_none bytes (Some calls) = nothing_handed bytes calls

handed_more : (bytes piece : List ℕ) (at count : ℕ) → piece ≡ drop at bytes → 0 < length piece → (a b c : List OutCall) → Hands (AreWrites bytes (drop at bytes)) a b → Logs (Write piece count) b c → Hands (AreWrites bytes (drop (at + count) bytes)) a c
handed_more bytes piece at count is some a b c before now = record {
  calls = before.calls ++ Write piece count ∷ [];
  each =
      subst (λ (left : List ℕ). AreWrites bytes left (before.calls ++ Write piece count ∷ [])) (ap (drop count) is ∙ drop-drop count at bytes)
      (writes_on bytes piece count before.calls (subst (λ (left : List ℕ). AreWrites bytes left before.calls) (sym is) before.each) some);
  handed = now.logged ∙ ap (λ (calls : List OutCall). calls ++ Write piece count ∷ []) before.handed ∙ append_assoc a before.calls (Write piece count ∷ []);
}

pub hands_on : (bytes piece : List ℕ) (at count : ℕ) (x y z : Option (List OutCall)) → Tells (Hands (AreWrites bytes (drop at bytes))) x y → Tells (Logs (Write piece count)) y z → piece ≡ drop at bytes → 0 < length piece → Tells (Hands (AreWrites bytes (drop (at + count) bytes))) x z
hands_on bytes piece at count x y z before now is some =
    tells_both (Hands (AreWrites bytes (drop at bytes))) (Logs (Write piece count)) (Hands (AreWrites bytes (drop (at + count) bytes))) (handed_more bytes piece at count is some) x y z before now

pub hands_cut : (bytes piece : List ℕ) (at : ℕ) (x y z : Option (List OutCall)) → Tells (Hands (AreWrites bytes (drop at bytes))) x y → Tells (Logs (Cut piece)) y z → piece ≡ drop at bytes → 0 < length piece → Tells (Hands (AreCut bytes)) x z
hands_cut bytes piece at x y z before now is some =
    tells_both (Hands (AreWrites bytes (drop at bytes))) (Logs (Cut piece)) (Hands (AreCut bytes))
    (λ a b c first second. record {
      calls = first.calls ++ Cut piece ∷ [];
      each = record { writes = first.calls; left = piece; each = subst (λ (left : List ℕ). AreWrites bytes left first.calls) (sym is) first.each; some = some; all = refl };
      handed = second.logged ∙ ap (λ (calls : List OutCall). calls ++ Cut piece ∷ []) first.handed ∙ append_assoc a first.calls (Cut piece ∷ []);
    })
    x y z before now

pub hands_all : (bytes : List ℕ) (at : ℕ) (x y : Option (List OutCall)) → Tells (Hands (AreWrites bytes (drop at bytes))) x y → length bytes ≤ at → Tells (Hands (AreWrites bytes [])) x y
hands_all bytes at x y told past = subst (λ (left : List ℕ). Tells (Hands (AreWrites bytes left)) x y) (drop_all at bytes past) told

-- the piece that is left before the end isn't empty
pub some_left : (bytes piece : List ℕ) (at : ℕ) → piece ≡ drop at bytes → at < length bytes → 0 < length piece
some_left bytes piece at is within =
    let rest : length piece ≡ length bytes - at = ap length is ∙ length-drop at bytes in
    omega arith

pub ruleset pieces = (starts, goes_on, stops, ends, hands_none, hands_all)

-- the calls on one file

abbrev logged_then : (file : List ℕ × List ℕ) (are : List OutCall → Type 0) (a b c : List OutCall) → Logs (Begin file.0) a b → Hands are b c → Hands (λ calls. (rest : List OutCall) × are rest × (calls ≡ Begin file.0 ∷ rest)) a c
logged_then file are a b c begin more = record {
  calls = Begin file.0 ∷ more.calls;
  each = (more.calls, more.each, refl);
  handed = more.handed ∙ ap (λ (calls : List OutCall). calls ++ more.calls) begin.logged ∙ append_assoc a (Begin file.0 ∷ []) more.calls;
}

finished_calls : (file : List ℕ × List ℕ) (a b c d : List OutCall) → Logs (Begin file.0) a b → Hands (AreWrites file.1 []) b c → Logs Finish c d → Hands (AreFileCalls file) a d
finished_calls file a b c d begin writes finish =
    let first : Hands (λ calls. (rest : List OutCall) × AreWrites file.1 [] rest × (calls ≡ Begin file.0 ∷ rest)) a c = logged_then file (AreWrites file.1 []) a b c begin writes in
    record {
      calls = first.calls ++ Finish ∷ [];
      each = record { writes = writes.calls; each = writes.each; all = refl };
      handed = finish.logged ∙ ap (λ (calls : List OutCall). calls ++ Finish ∷ []) first.handed ∙ append_assoc a first.calls (Finish ∷ []);
    }

pub calls_whole : (file : List ℕ × List ℕ) (w x y z : Option (List OutCall)) → Tells (Logs (Begin file.0)) w x → Tells (Hands (AreWrites file.1 [])) x y → Tells (Logs Finish) y z → Tells (Hands (AreFileCalls file)) w z
calls_whole file w x y None begin writes finish = tt
calls_whole file w x None (Some d) begin writes finish = absurd finish
calls_whole file w None (Some c) (Some d) begin writes finish = absurd writes
calls_whole file None (Some b) (Some c) (Some d) begin writes finish = absurd begin
calls_whole file (Some a) (Some b) (Some c) (Some d) begin writes finish = finished_calls file a b c d begin writes finish

pub calls_begun : (file : List ℕ × List ℕ) (x y : Option (List OutCall)) → Tells (Logs (Begin file.0)) x y → Tells (Hands (ArePartCalls file)) x y
calls_begun file x y begin =
    tells_more (Logs (Begin file.0)) (Hands (ArePartCalls file))
    (λ a b logs. record { calls = Begin file.0 ∷ []; each = record { failed = inl refl }; handed = logs.logged }) x y begin

pub calls_cut : (file : List ℕ × List ℕ) (x y z : Option (List OutCall)) → Tells (Logs (Begin file.0)) x y → Tells (Hands (AreCut file.1)) y z → Tells (Hands (ArePartCalls file)) x z
calls_cut file x y z begin cut =
    tells_both (Logs (Begin file.0)) (Hands (AreCut file.1)) (Hands (ArePartCalls file))
    (λ a b c logs cuts. record {
      calls = Begin file.0 ∷ cuts.calls;
      each = record { failed = inr (inr (cuts.calls, cuts.each, refl)) };
      handed = (logged_then file (AreCut file.1) a b c logs cuts).handed;
    })
    x y z begin cut

pub calls_finished : (file : List ℕ × List ℕ) (w x y z : Option (List OutCall)) → Tells (Logs (Begin file.0)) w x → Tells (Hands (AreWrites file.1 [])) x y → Tells (Logs Finish) y z → Tells (Hands (ArePartCalls file)) w z
calls_finished file w x y z begin writes finish =
    tells_more (Hands (AreFileCalls file)) (Hands (ArePartCalls file))
    (λ a d whole. record { calls = whole.calls; each = record { failed = inr (inl whole.each) }; handed = whole.handed }) w z
    (calls_whole file w x y z begin writes finish)

-- a file that was begun, and has some first bytes
pub record Grows (path bytes : List ℕ) (done : Bool) (old new : List Written) : Type 0 where
  pub grown : new ≡ old ++ record { path = path; bytes = bytes; done = done } ∷ []

begun : (path image : List ℕ) (count : ℕ) (a b c : List Written) → Begins path a b → Takes image count b c → Grows path (take count image) false a c
begun path image count a b c begins takes = record {
  grown = takes.taken ∙ ap (at_last (with_more (take count image))) begins.begun ∙ at_last-append (with_more (take count image)) a _;
}

written : (file : List ℕ × List ℕ) (a b c d : List Written) → Begins file.0 a b → Takes file.1 (length file.1) b c → Finishes c d → WritesWhole file a d
written file a b c d begins takes finishes =
    let part : Grows file.0 (take (length file.1) file.1) false a c = begun file.0 file.1 (length file.1) a b c begins takes in
    let whole : take (length file.1) file.1 ≡ file.1 = take-length file.1 in
    record {
      written =
          finishes.done
          ∙ ap (at_last finished) part.grown
          ∙ at_last-append finished a _
          ∙ ap (λ (bytes : List ℕ). a ++ record { path = file.0; bytes = bytes; done = true } ∷ []) whole;
    }

pub whole_written : (file : List ℕ × List ℕ) (w x y z : Option (List Written)) → Tells (Begins file.0) w x → Tells (Takes file.1 (length file.1)) x y → Tells Finishes y z → Tells (WritesWhole file) w z
whole_written file w x y None begins takes finishes = tt
whole_written file w x None (Some d) begins takes finishes = absurd finishes
whole_written file w None (Some c) (Some d) begins takes finishes = absurd takes
whole_written file None (Some b) (Some c) (Some d) begins takes finishes = absurd begins
whole_written file (Some a) (Some b) (Some c) (Some d) begins takes finishes = written file a b c d begins takes finishes

pub not_begun : (file : List ℕ × List ℕ) (x y : Option (List Written)) → Tells Stays x y → Tells (WritesPart file) x y
not_begun file x y stays = tells_more Stays (WritesPart file) (λ a b same. record { part = inl same.same }) x y stays

pub part_written : (file : List ℕ × List ℕ) (x y z : Option (List Written)) → Tells (Begins file.0) x y → Tells (TakesSome file.1) y z → Tells (WritesPart file) x z
part_written file x y z begins takes =
    tells_both (Begins file.0) (TakesSome file.1) (WritesPart file)
    (λ a b c begin take_some. record { part = inr (take_some.count, take_some.within, (begun file.0 file.1 take_some.count a b c begin (record { taken = take_some.taken })).grown) })
    x y z begins takes

pub not_finished : (file : List ℕ × List ℕ) (w x y z : Option (List Written)) → Tells (Begins file.0) w x → Tells (Takes file.1 (length file.1)) x y → Tells Stays y z → Tells (WritesPart file) w z
not_finished file w x y z begins takes stays =
    let both : Tells (Grows file.0 (take (length file.1) file.1) false) w y =
    tells_both (Begins file.0) (Takes file.1 (length file.1)) (Grows file.0 (take (length file.1) file.1) false) (begun file.0 file.1 (length file.1)) w x y begins takes in
    tells_both (Grows file.0 (take (length file.1) file.1) false) Stays (WritesPart file)
    (λ a b c grows same. record { part = inr (length file.1, le_refl (length file.1), same.same ∙ grows.grown) })
    w y z both stays

pub ruleset writings = (whole_written, not_begun, part_written, not_finished, calls_whole, calls_begun, calls_cut, calls_finished)
