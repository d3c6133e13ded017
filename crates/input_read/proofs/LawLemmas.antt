-- Each input is opened, and a fault is that of the first input that has one.
use Rattle.std.proofs.Common.{◌≡◌, ◌↔◌, ℕ, zero, suc, ◌<◌, List, [], ◌∷◌, Some, None, Result, Ok, Err, length, get_or, refl, ap, ◌∙◌, arith}
use Rattle.std.specs.Result.{result_err}
use Rattle.mo_types.specs.Gives.{◌>>=◌}
use Rattle.mo_types.specs.Scan.{first_some}
use Rattle.input_files.specs.declared.fault.LoadFault.{LoadFault}
use Rattle.input_files.specs.declared.input.Input.{Input}
use Rattle.input_read.specs.Opened.{contents_in, contents_of, openings_of}
use Rattle.input_read.specs.Opening.{opening_of}
use Rattle.input_read.specs.declared.opening.Opening.{Opening}
use Rattle.input_read.proofs.OpenedLemmas.{first_read, nothing_read, something_read}

pub each_count : (inputs : List Input) (openings : List Opening) → openings_of inputs ≡ Ok openings → length openings ≡ length inputs
each_count [] [] is = refl
each_count [] (one ∷ openings) is = absurd (nothing_read one openings is)
each_count (input ∷ inputs) [] is = absurd (something_read input inputs is)
each_count (input ∷ inputs) (one ∷ openings) is = ap suc (each_count inputs openings (first_read input inputs one openings is).1)

pub each_opening : (inputs : List Input) (openings : List Opening) (k : ℕ) (d : Input) (e : Opening) → openings_of inputs ≡ Ok openings → k < length inputs → opening_of (get_or inputs k d) ≡ Ok (get_or openings k e)
each_opening [] openings k d e is low = absurd (omega (arith, low))
each_opening (input ∷ inputs) [] k d e is low = absurd (something_read input inputs is)
each_opening (input ∷ inputs) (one ∷ openings) zero d e is low = (first_read input inputs one openings is).0
each_opening (input ∷ inputs) (one ∷ openings) (suc k) d e is low = each_opening inputs openings k d e (first_read input inputs one openings is).1 (omega (arith, low))

-- ---- faults

first_fault : (inputs : List Input) (fault : LoadFault) → openings_of inputs ≡ Err fault → first_some (λ input. result_err (opening_of input)) inputs ≡ Some fault
first_fault [] fault is = absurd (let s : Ok [] ≡ Err fault = is in cc)
first_fault (input ∷ inputs) fault is = by (first_fault inputs fault) (opening_of input) refl is
  where
    later : (openings_of inputs ≡ Err fault → first_some (λ input. result_err (opening_of input)) inputs ≡ Some fault) → (one : Opening) → (r : Result (List Opening) LoadFault) → openings_of inputs ≡ r → (r >>= λ os. Ok (one ∷ os)) ≡ Err fault → first_some (λ input. result_err (opening_of input)) inputs ≡ Some fault
    later rest one (Ok os) q h = absurd (let s : Ok (one ∷ os) ≡ Err fault = h in cc)
    later rest one (Err e) q h = rest (q ∙ (let s : Err e ≡ Err fault = h in ap Err (let same : e ≡ fault = cc in same)))

    by : (openings_of inputs ≡ Err fault → first_some (λ input. result_err (opening_of input)) inputs ≡ Some fault) → (r : Result Opening LoadFault) → opening_of input ≡ r → (r >>= λ one. openings_of inputs >>= λ os. Ok (one ∷ os)) ≡ Err fault → first_some (λ input. result_err (opening_of input)) (input ∷ inputs) ≡ Some fault
    by rest (Err e) r h = rw r (let s : Err e ≡ Err fault = h in ap Some (let same : e ≡ fault = cc in same))
    by rest (Ok one) r h = rw r (later rest one (openings_of inputs) refl h)

fault_first : (inputs : List Input) (fault : LoadFault) → first_some (λ input. result_err (opening_of input)) inputs ≡ Some fault → openings_of inputs ≡ Err fault
fault_first [] fault is = absurd (let s : None ≡ Some fault = is in cc)
fault_first (input ∷ inputs) fault is = by (fault_first inputs fault) (opening_of input) refl
  where
    by : (first_some (λ input. result_err (opening_of input)) inputs ≡ Some fault → openings_of inputs ≡ Err fault) → (r : Result Opening LoadFault) → opening_of input ≡ r → openings_of (input ∷ inputs) ≡ Err fault
    by rest (Err e) r = rw r (let s : Some e ≡ Some fault = rw r at is in ap Err (let same : e ≡ fault = cc in same))
    by rest (Ok one) r = rw (r, rest (rw r at is)) refl

contents_fault : (inputs : List Input) (fault : LoadFault) → contents_of inputs ≡ Err fault → openings_of inputs ≡ Err fault
unfolding contents_of
contents_fault inputs fault is = by (openings_of inputs) is
  where
    by : (r : Result (List Opening) LoadFault) → (r >>= λ openings. Ok (contents_in openings)) ≡ Err fault → r ≡ Err fault
    by (Ok openings) h = absurd (let s : Ok (contents_in openings) ≡ Err fault = h in cc)
    by (Err e) h = let s : Err e ≡ Err fault = h in ap Err (let same : e ≡ fault = cc in same)

fault_contents : (inputs : List Input) (fault : LoadFault) → openings_of inputs ≡ Err fault → contents_of inputs ≡ Err fault
unfolding contents_of
fault_contents inputs fault is = rw is refl

pub told : (inputs : List Input) (fault : LoadFault) → (contents_of inputs ≡ Err fault) ↔ (first_some (λ input. result_err (opening_of input)) inputs ≡ Some fault)
told inputs fault = (
  λ is. first_fault inputs fault (contents_fault inputs fault is),
  λ is. fault_contents inputs fault (fault_first inputs fault is),
)
