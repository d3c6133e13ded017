-- The files of a plan, written one after the other.
use Rattle.std.proofs.Common.{◌≡◌, ℕ, ◌+◌, ◌<◌, ◌≤◌, ◌++◌, ◌∷◌, [], List, length, take, map, get_or, slice_get, Option, Some, None, refl, sym, ap, ◌∙◌, subst, append_assoc}
use Rattle.std.proofs.Math.Seq.{take-add}
use Rattle.std.proofs.lemmas.List.{append-nil, take_all}
use Rattle.std.proofs.lemmas.Option.{slice_get-get_or}
use Rattle.list_lemmas.proofs.Places.{from_here}
use Rattle.mo_outside.specs.Log.{OutCall}
use Rattle.mo_outside.specs.Tells.{Tells}
use Rattle.mo_outside.specs.Written.{Written}
use Rattle.link_engine.specs.Writing.{AreCallsUpTo, AreFileCalls, AreFilesCalls, ArePartCalls, Hands, WritesAll, WritesPart, WritesUpTo, WritesWhole, whole_file}
use Rattle.link_engine.proofs.WritingLemmas.{tells_both}

abbrev Files : Type 0
Files = List (List ℕ × List ℕ)

pub one_more : {A : Type 0} (xs : List A) (at : ℕ) (x : A) → at < length xs → x ≡ get_or xs at x → take at xs ++ x ∷ [] ≡ take (at + 1) xs
one_more xs at x within is = sym (take-add at 1 xs ∙ ap (λ rest. take at xs ++ take 1 rest) (from_here xs at x within is))

pub map-append : {A B : Type 0} (f : A → B) (xs ys : List A) → map f (xs ++ ys) ≡ map f xs ++ map f ys
map-append f [] ys = refl
map-append f (x ∷ xs) ys = ap (λ zs. f x ∷ zs) (map-append f xs ys)

pub none_written : (files : Files) (x : Option (List Written)) → Tells (WritesAll (take 0 files)) x x
none_written files None = tt
none_written files (Some old) = record { written = sym (append-nil old) }

write_then : (before : Files) (file : List ℕ × List ℕ) (a b c : List Written) → WritesAll before a b → WritesWhole file b c → WritesAll (before ++ file ∷ []) a c
write_then before file a b c all one = record {
  written =
      one.written ∙ ap (λ (files : List Written). files ++ whole_file file ∷ []) all.written
      ∙ append_assoc a (map whole_file before) (whole_file file ∷ [])
      ∙ ap (λ (files : List Written). a ++ files) (sym (map-append whole_file before (file ∷ [])));
}

pub more_written : (files : Files) (at : ℕ) (file : List ℕ × List ℕ) (x y z : Option (List Written)) → Tells (WritesAll (take at files)) x y → Tells (WritesWhole file) y z → at < length files → file ≡ get_or files at file → Tells (WritesAll (take (at + 1) files)) x z
more_written files at file x y z before now within is =
    tells_both (WritesAll (take at files)) (WritesWhole file) (WritesAll (take (at + 1) files))
    (λ a b c all one. subst (λ (done : Files). WritesAll done a c) (one_more files at file within is) (write_then (take at files) file a b c all one))
    x y z before now

pub all_written : (files : Files) (at : ℕ) (x y : Option (List Written)) → Tells (WritesAll (take at files)) x y → length files ≤ at → Tells (WritesAll files) x y
all_written files at x y told past = subst (λ (done : Files). Tells (WritesAll done) x y) (take_all at files past) told

there : (files : Files) (at : ℕ) (file : List ℕ × List ℕ) → at < length files → file ≡ get_or files at file → slice_get files at ≡ Some file
there files at file within is = slice_get-get_or files at file within ∙ ap Some (sym is)

pub cut_written : (files : Files) (at : ℕ) (file : List ℕ × List ℕ) (x y z : Option (List Written)) → Tells (WritesAll (take at files)) x y → Tells (WritesPart file) y z → at < length files → file ≡ get_or files at file → Tells (WritesUpTo files at) x z
cut_written files at file x y z before now within is =
    tells_both (WritesAll (take at files)) (WritesPart file) (WritesUpTo files at)
    (λ a b c all part. record { file = file; between = b; there = there files at file within is; whole = all; part = part })
    x y z before now

-- the same of the calls

files_then : (before : Files) (file : List ℕ × List ℕ) (calls more : List OutCall) → AreFilesCalls before calls → AreFileCalls file more → AreFilesCalls (before ++ file ∷ []) (calls ++ more)
files_then [] file calls more none one = (more, [], one, refl, ap (λ (front : List OutCall). front ++ more) none ∙ sym (append-nil more))
files_then (other ∷ before) file calls more (first, rest, is_first, are_rest, all) one =
    (first, rest ++ more, is_first, files_then before file rest more are_rest one, ap (λ (front : List OutCall). front ++ more) all ∙ append_assoc first rest more)

pub none_handed : (files : Files) (x : Option (List OutCall)) → Tells (Hands (AreFilesCalls (take 0 files))) x x
none_handed files None = tt
none_handed files (Some old) = record { calls = []; each = refl; handed = sym (append-nil old) }

hand_then : (before : Files) (file : List ℕ × List ℕ) (a b c : List OutCall) → Hands (AreFilesCalls before) a b → Hands (AreFileCalls file) b c → Hands (AreFilesCalls (before ++ file ∷ [])) a c
hand_then before file a b c all one = record {
  calls = all.calls ++ one.calls;
  each = files_then before file all.calls one.calls all.each one.each;
  handed = one.handed ∙ ap (λ (calls : List OutCall). calls ++ one.calls) all.handed ∙ append_assoc a all.calls one.calls;
}

pub more_handed : (files : Files) (at : ℕ) (file : List ℕ × List ℕ) (x y z : Option (List OutCall)) → Tells (Hands (AreFilesCalls (take at files))) x y → Tells (Hands (AreFileCalls file)) y z → at < length files → file ≡ get_or files at file → Tells (Hands (AreFilesCalls (take (at + 1) files))) x z
more_handed files at file x y z before now within is =
    tells_both (Hands (AreFilesCalls (take at files))) (Hands (AreFileCalls file)) (Hands (AreFilesCalls (take (at + 1) files)))
    (λ a b c all one. subst (λ (done : Files). Hands (AreFilesCalls done) a c) (one_more files at file within is) (hand_then (take at files) file a b c all one))
    x y z before now

pub all_handed : (files : Files) (at : ℕ) (x y : Option (List OutCall)) → Tells (Hands (AreFilesCalls (take at files))) x y → length files ≤ at → Tells (Hands (AreFilesCalls files)) x y
all_handed files at x y told past = subst (λ (done : Files). Tells (Hands (AreFilesCalls done)) x y) (take_all at files past) told

pub cut_handed : (files : Files) (at : ℕ) (file : List ℕ × List ℕ) (x y z : Option (List OutCall)) → Tells (Hands (AreFilesCalls (take at files))) x y → Tells (Hands (ArePartCalls file)) y z → at < length files → file ≡ get_or files at file → Tells (Hands (AreCallsUpTo files at)) x z
cut_handed files at file x y z before now within is =
    tells_both (Hands (AreFilesCalls (take at files))) (Hands (ArePartCalls file)) (Hands (AreCallsUpTo files at))
    (λ a b c all part. record {
      calls = all.calls ++ part.calls;
      each = record { file = file; whole = all.calls; part = part.calls; there = there files at file within is; before = all.each; last = part.each; all = refl };
      handed = part.handed ∙ ap (λ (calls : List OutCall). calls ++ part.calls) all.handed ∙ append_assoc a all.calls part.calls;
    })
    x y z before now

pub ruleset files = (none_written, more_written, all_written, cut_written, none_handed, more_handed, all_handed, cut_handed)
