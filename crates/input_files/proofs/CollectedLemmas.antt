-- What pieces hold that workers made, put in order.
use Rattle.std.proofs.Common.{◌≡◌, ℕ, suc, ◌<◌, ◌++◌, List, [], ◌∷◌, All, IfOk, Result, Ok, Err, length, get_or, map, inl, inr, refl, sym, ap, subst, ◌∙◌, append-nil, append_assoc, arith}
use Rattle.list_lemmas.proofs.Members.{In}
use Rattle.mo_types.specs.Gives.{◌>>=◌, Gives}
use Rattle.input_files.specs.Collected.{all_of, behind}
use Rattle.input_files.specs.Files.{IsLoadFault}
use Rattle.input_files.specs.declared.fault.LoadFault.{LoadFault}
use Rattle.input_files.specs.declared.fault.LoadFault.TheVariants.{OutOfMemory}

-- what the pieces hold that are done is behind what was there before; some are left
pub record IsCollecting {X : Type 0} (before now : List X) (all done left : List (Result X LoadFault)) : Type 0 where
  pub held : List X
  pub read : all_of done ≡ Ok held
  pub are : now ≡ before ++ held
  pub parts : all ≡ done ++ left

pub behind_none : {X : Type 0} (read : Result (List X) LoadFault) → behind [] read ≡ read
behind_none (Ok xs) = refl
behind_none (Err e) = refl

pub all_append : {X : Type 0} (front back : List (Result X LoadFault)) (xs : List X) → all_of front ≡ Ok xs → all_of (front ++ back) ≡ behind xs (all_of back)
all_append {X = X} [] back xs is = let e : [] ≡ xs = (let s : Ok [] ≡ Ok xs = is in cc) in sym (behind_none (all_of back)) ∙ ap (λ (ys : List X). behind ys (all_of back)) e
all_append (Err e ∷ front) back xs is = absurd (let s : Err e ≡ Ok xs = is in cc)
all_append {X = X} (Ok x ∷ front) back xs is = by (λ ys. all_append front back ys) (all_of front) refl is
  where
    grouped : (ys : List X) (r : Result (List X) LoadFault) → (behind ys r >>= λ zs. Ok (x ∷ zs)) ≡ behind (x ∷ ys) r
    grouped ys (Ok zs) = refl
    grouped ys (Err e) = refl

    by : ((ys : List X) → all_of front ≡ Ok ys → all_of (front ++ back) ≡ behind ys (all_of back)) → (r : Result (List X) LoadFault) → all_of front ≡ r → (r >>= λ ys. Ok (x ∷ ys)) ≡ Ok xs → all_of (Ok x ∷ (front ++ back)) ≡ behind xs (all_of back)
    by rest (Err e) r s = absurd (let t : Err e ≡ Ok xs = s in cc)
    by rest (Ok ys) r s =
        let whole : x ∷ ys ≡ xs = (let t : Ok (x ∷ ys) ≡ Ok xs = s in cc) in
        ap (λ (q : Result (List X) LoadFault). q >>= λ zs. Ok (x ∷ zs)) (rest ys r) ∙ grouped ys (all_of back) ∙ ap (λ (zs : List X). behind zs (all_of back)) whole

pub all_fail : {X : Type 0} (front back : List (Result X LoadFault)) (fault : LoadFault) → all_of front ≡ Err fault → all_of (front ++ back) ≡ Err fault
all_fail {X = X} [] back fault is = absurd (let s : Ok [] ≡ Err fault = is in cc)
all_fail (Err e ∷ front) back fault is = is
all_fail {X = X} (Ok x ∷ front) back fault is = by (λ e. all_fail front back e) (all_of front) refl is
  where
    by : ((e : LoadFault) → all_of front ≡ Err e → all_of (front ++ back) ≡ Err e) → (r : Result (List X) LoadFault) → all_of front ≡ r → (r >>= λ ys. Ok (x ∷ ys)) ≡ Err fault → all_of (Ok x ∷ (front ++ back)) ≡ Err fault
    by rest (Ok ys) r s = absurd (let t : Ok (x ∷ ys) ≡ Err fault = s in cc)
    by rest (Err e) r s = ap (λ (q : Result (List X) LoadFault). q >>= λ ys. Ok (x ∷ ys)) (rest e r) ∙ s

pub collect_start : {X : Type 0} (before : List X) (all left : List (Result X LoadFault)) → left ≡ all → IsCollecting before before all [] left
collect_start before all left is = record { held = []; read = refl; are = sym (append-nil before); parts = sym is }

pub collect_more : {X : Type 0} (before now next : List X) (all done left more rest : List (Result X LoadFault)) (x : X) → IsCollecting before now all done left → left ≡ Ok x ∷ rest → more ≡ done ++ Ok x ∷ [] → next ≡ now ++ x ∷ [] → IsCollecting before next all more rest
collect_more {X = X} before now next all done left more rest x so first is grown = record {
  held = so.held ++ x ∷ [];
  read = ap all_of is ∙ all_append done (Ok x ∷ []) so.held so.read;
  are = grown ∙ ap (λ (xs : List X). xs ++ x ∷ []) so.are ∙ append_assoc before so.held (x ∷ []);
  parts = so.parts ∙ ap (λ (ps : List (Result X LoadFault)). done ++ ps) first ∙ sym (append_assoc done (Ok x ∷ []) rest) ∙ ap (λ (ps : List (Result X LoadFault)). ps ++ rest) (sym is);
}

pub collect_fails : {X : Type 0} (before now : List X) (all done left rest : List (Result X LoadFault)) (fault : LoadFault) → IsCollecting before now all done left → left ≡ Err fault ∷ rest → behind before (all_of all) ≡ Err fault
collect_fails {X = X} before now all done left rest fault so first = ap (λ (ps : List (Result X LoadFault)). behind before (all_of ps)) (so.parts ∙ ap (λ (ps : List (Result X LoadFault)). done ++ ps) first) ∙ ap (behind before) (all_append done (Err fault ∷ rest) so.held so.read)

pub collect_end : {X : Type 0} (before now : List X) (all done left : List (Result X LoadFault)) → IsCollecting before now all done left → all ≡ done → behind before (all_of all) ≡ Ok now
collect_end {X = X} before now all done left so is = ap (λ (ps : List (Result X LoadFault)). behind before (all_of ps)) is ∙ ap (behind before) so.read ∙ ap Ok (sym so.are)

pub ruleset collects = (collect_start, collect_more, collect_fails, collect_end)

-- ---- pieces that are what a definition gives

module _ {A X : Type 0} (value : A → Result X LoadFault) where
  abbrev AreGiven : List A → List (Result X LoadFault) → Type 0
  AreGiven [] [] = Unit {0}
  AreGiven (a ∷ values) (piece ∷ pieces) = Gives IsLoadFault piece (value a) × AreGiven values pieces
  AreGiven _ _ = ⊥

  given_ok : (values : List A) (pieces : List (Result X LoadFault)) (xs : List X) → AreGiven values pieces → all_of pieces ≡ Ok xs → all_of (map value values) ≡ Ok xs
  given_ok [] [] xs given is = is
  given_ok [] (p ∷ ps) xs given is = absurd given
  given_ok (a ∷ values) [] xs given is = absurd given
  given_ok (a ∷ values) (Err e ∷ ps) xs given is = absurd (let s : Err e ≡ Ok xs = is in cc)
  given_ok (a ∷ values) (Ok x ∷ ps) xs given is = by (λ ys. given_ok values ps ys given.1) (all_of ps) refl is
    where
      by : ((ys : List X) → all_of ps ≡ Ok ys → all_of (map value values) ≡ Ok ys) → (r : Result (List X) LoadFault) → all_of ps ≡ r → (r >>= λ ys. Ok (x ∷ ys)) ≡ Ok xs → all_of (map value (a ∷ values)) ≡ Ok xs
      by rest (Err e) r s = absurd (let t : Err e ≡ Ok xs = s in cc)
      by rest (Ok ys) r s = rw (given.0, rest ys r) s

  given_err : (values : List A) (pieces : List (Result X LoadFault)) (fault : LoadFault) → AreGiven values pieces → IsLoadFault fault → all_of pieces ≡ Err fault → all_of (map value values) ≡ Err fault
  given_err [] [] fault given real is = is
  given_err [] (p ∷ ps) fault given real is = absurd given
  given_err (a ∷ values) [] fault given real is = absurd given
  given_err (a ∷ values) (Err e ∷ ps) fault given real is =
      let same : e ≡ fault = (let s : Err e ≡ Err fault = is in cc) in
      let here : value a ≡ Err e = given.0 (subst IsLoadFault (sym same) real) in
      rw (here, same) refl
  given_err (a ∷ values) (Ok x ∷ ps) fault given real is = by (λ e. given_err values ps e given.1) (all_of ps) refl is
    where
      by : ((e : LoadFault) → IsLoadFault e → all_of ps ≡ Err e → all_of (map value values) ≡ Err e) → (r : Result (List X) LoadFault) → all_of ps ≡ r → (r >>= λ ys. Ok (x ∷ ys)) ≡ Err fault → all_of (map value (a ∷ values)) ≡ Err fault
      by rest (Ok ys) r s = absurd (let t : Ok (x ∷ ys) ≡ Err fault = s in cc)
      by rest (Err e) r s =
          let same : e ≡ fault = (let t : Err e ≡ Err fault = s in cc) in
          rw (given.0, rest fault real (r ∙ ap Err same)) refl

  given_from : (values : List A) (pieces : List (Result X LoadFault)) (d : A) → length pieces ≡ length values → ((job : ℕ) → job < length values → Gives IsLoadFault (get_or pieces job (Err OutOfMemory)) (value (get_or values job d))) → AreGiven values pieces
  given_from [] [] d long each = tt
  given_from [] (p ∷ ps) d long each = absurd (omega (arith, long))
  given_from (a ∷ values) [] d long each = absurd (omega (arith, long))
  given_from (a ∷ values) (p ∷ ps) d long each = (each 0 (omega arith), given_from values ps d (omega (arith, long)) (λ job low. each (suc job) (omega (arith, low))))

  pub pieces_are : (values : List A) (pieces : List (Result X LoadFault)) (d : A) (xs : List X) → length pieces ≡ length values → ((job : ℕ) → job < length values → Gives IsLoadFault (get_or pieces job (Err OutOfMemory)) (value (get_or values job d))) → all_of pieces ≡ Ok xs → all_of (map value values) ≡ Ok xs
  pieces_are values pieces d xs long each is = given_ok values pieces xs (given_from values pieces d long each) is

  pub pieces_miss : (values : List A) (pieces : List (Result X LoadFault)) (d : A) (fault : LoadFault) → length pieces ≡ length values → ((job : ℕ) → job < length values → Gives IsLoadFault (get_or pieces job (Err OutOfMemory)) (value (get_or values job d))) → IsLoadFault fault → all_of pieces ≡ Err fault → all_of (map value values) ≡ Err fault
  pieces_miss values pieces d fault long each real is = given_err values pieces fault (given_from values pieces d long each) real is

-- what holds of each piece's holds of all that they hold
pub each_holds : {X : Type 0} (P : X → Type 0) (pieces : List (Result X LoadFault)) (xs : List X) → ((piece : Result X LoadFault) → In piece pieces → IfOk piece P) → all_of pieces ≡ Ok xs → (x : X) → In x xs → P x
each_holds {X = X} P [] xs holds is x there = absurd (let e : [] ≡ xs = (let s : Ok [] ≡ Ok xs = is in cc) in let h : In x [] = subst (λ (ys : List X). In x ys) (sym e) there in h)
each_holds P (Err e ∷ pieces) xs holds is x there = absurd (let s : Err e ≡ Ok xs = is in cc)
each_holds {X = X} P (Ok first ∷ pieces) xs holds is x there = by (λ ys. each_holds P pieces ys (λ p later. holds p (inr later))) (all_of pieces) refl is
  where
    by : ((ys : List X) → all_of pieces ≡ Ok ys → (x : X) → In x ys → P x) → (r : Result (List X) LoadFault) → all_of pieces ≡ r → (r >>= λ ys. Ok (first ∷ ys)) ≡ Ok xs → P x
    by rest (Err e) r s = absurd (let t : Err e ≡ Ok xs = s in cc)
    by rest (Ok ys) r s =
        let all : first ∷ ys ≡ xs = (let t : Ok (first ∷ ys) ≡ Ok xs = s in cc) in
        elim (subst (λ (zs : List X). In x zs) (sym all) there) [
          | inl e ↦ subst P e (holds (Ok first) (inl refl))
          | inr later ↦ rest ys r x later
        ]
