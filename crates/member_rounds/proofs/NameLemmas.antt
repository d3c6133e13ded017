-- Names that join round by round.
use Rattle.std.proofs.Common.{◌≡◌, ℕ, zero, suc, ◌≤◌, ◌^◌, ◌++◌, false, nat_lt, List, length, Some, Ok, Err, refl, sym, ap, subst, ◌∙◌, arith, append-nil, append_assoc}
use Rattle.std.specs.Cmp.Lexicographic.{nat_list_eq_equiv}
use Rattle.std.specs.Str.{bytes_eq}
use Rattle.std.proofs.lemmas.Bool.{le-ltb}
use Rattle.std.proofs.lemmas.Map.Made.{length-le_from_is_member}
use Rattle.list_lemmas.proofs.Inserted.{behind}
use Rattle.list_lemmas.proofs.Members.{In, in_left}
use Rattle.mo_types.specs.declared.loaded.LoadedFile.{LoadedFile}
use Rattle.name_ids.specs.Names.{AreNames, IsGatherFault, added, external_names, limited, numbered, numbers_of}
use Rattle.name_ids.specs.declared.fault.GatherFault.{GatherFault}
use Rattle.name_ids.specs.declared.fault.GatherFault.TheVariants as gather
use Rattle.name_ids.proofs.Any.{extra_are_many, extra_are_names, extra_stay, files_are_many, files_are_names, files_stay}
use Rattle.name_ids.proofs.Gathering.{limited_fault, limited_is}
use Rattle.name_ids.proofs.Once.{distinct, same_name}
use Rattle.input_files.specs.Files.{IsLoadFault}
use Rattle.input_files.specs.declared.fault.LoadFault.{LoadFault}
use Rattle.member_rounds.specs.Rounds.{names_fault}
use Rattle.member_rounds.specs.inner.Naming.{IsBehind, names_before, told_as}
use Rattle.member_rounds.specs.inner.Working.{first_names}
use Rattle.member_rounds.proofs.StateLemmas.{in_named, more_names as wider_names, named_in}

-- in the first round the names of the command line join
then_wanted : (wanted : List (List ℕ)) (k : ℕ) → names_before wanted k ++ first_names wanted k ≡ wanted
then_wanted wanted zero = refl
then_wanted wanted (suc k) = append-nil wanted

module _ (kept files : List LoadedFile) (wanted : List (List ℕ)) (k : ℕ) (names : List (List ℕ)) (so : AreNames kept (names_before wanted k) names) where
  first_are : (mid : List (List ℕ)) → limited (added names (first_names wanted k)) ≡ Ok mid → AreNames kept wanted mid
  first_are mid is = subst (λ (ns : List (List ℕ)). AreNames kept ns mid) (then_wanted wanted k) (extra_are_names kept (names_before wanted k) (first_names wanted k) names mid so is)

  pub joined_are : (mid all : List (List ℕ)) → limited (added names (first_names wanted k)) ≡ Ok mid → limited (added mid (external_names files)) ≡ Ok all → AreNames (kept ++ files) wanted all
  joined_are mid all one two = files_are_names kept files wanted mid all (first_are mid one) two

  pub joined_stay : (mid all : List (List ℕ)) → limited (added names (first_names wanted k)) ≡ Ok mid → limited (added mid (external_names files)) ≡ Ok all → numbers_of all kept ≡ numbers_of names kept
  joined_stay mid all one two =
      files_stay kept files wanted mid all (first_are mid one) two
      ∙ extra_stay kept (names_before wanted k) (first_names wanted k) names mid so one

  more_names : length (numbered (external_names kept ++ wanted)) ≤ length (numbered (external_names (kept ++ files) ++ wanted))
  more_names =
      length-le_from_is_member {eq = bytes_eq} nat_list_eq_equiv (numbered (external_names kept ++ wanted)) (numbered (external_names (kept ++ files) ++ wanted)) (distinct (external_names kept ++ wanted))
      (λ name has. in_named (kept ++ files) wanted name (wider name (named_in kept wanted name has)))
    where
      wider : (name : List ℕ) → In name (external_names kept ++ wanted) → In name (external_names (kept ++ files) ++ wanted)
      wider name there = wider_names kept (kept ++ files) wanted (λ file among. in_left kept files file among) name there

  too_many : (fault : LoadFault) → 2 ^ 24 ≤ length (numbered (external_names (kept ++ files) ++ wanted)) → fault ≡ told_as gather.Names → names_fault (kept ++ files) wanted ≡ Some fault
  too_many fault many is = let e : nat_lt (length (numbered (external_names (kept ++ files) ++ wanted))) (2 ^ 24) ≡ false = le-ltb _ _ many in rw (e, is) refl

  pub first_fail : (gave : GatherFault) (fault : LoadFault) → limited (added names (first_names wanted k)) ≡ Err gave → fault ≡ told_as gave → names_fault (kept ++ files) wanted ≡ Some fault
  first_fail gave fault is told =
      let many : 2 ^ 24 ≤ length (numbered (external_names kept ++ wanted)) = subst (λ (ns : List (List ℕ)). 2 ^ 24 ≤ length (numbered (external_names kept ++ ns))) (then_wanted wanted k) (extra_are_many kept (names_before wanted k) (first_names wanted k) names gave so is) in
      too_many fault (omega (arith, many, more_names)) (told ∙ ap told_as (limited_fault (added names (first_names wanted k)) gave is).1)

  pub files_fail : (mid : List (List ℕ)) (gave : GatherFault) (fault : LoadFault) → limited (added names (first_names wanted k)) ≡ Ok mid → limited (added mid (external_names files)) ≡ Err gave → fault ≡ told_as gave → names_fault (kept ++ files) wanted ≡ Some fault
  files_fail mid gave fault one is told =
      too_many fault (files_are_many kept files wanted mid gave (first_are mid one) is) (told ∙ ap told_as (limited_fault (added mid (external_names files)) gave is).1)

pub joined_behind : (names first mid more all : List (List ℕ)) → limited (added names first) ≡ Ok mid → limited (added mid more) ≡ Ok all → IsBehind names all
joined_behind names first mid more all one two =
    let a : (rest : List (List ℕ)) × (added names first ≡ names ++ rest) = behind bytes_eq same_name names first in
    let b : (rest : List (List ℕ)) × (added mid more ≡ mid ++ rest) = behind bytes_eq same_name mid more in
    record {
      more = a.0 ++ b.0;
      behind =
          sym (limited_is (added mid more) all two).1 ∙ b.1
          ∙ ap (λ (ks : List (List ℕ)). ks ++ b.0) (sym (limited_is (added names first) mid one).1 ∙ a.1)
          ∙ append_assoc names a.0 b.0;
    }

-- a fault that isn't want of memory is one of names
pub real_names : (gave : GatherFault) (fault : LoadFault) → IsLoadFault fault → fault ≡ told_as gave → IsGatherFault gave
real_names gather.Names fault real told = tt
real_names gather.OutOfMemory fault real told = absurd (subst IsLoadFault told real)

pub ruleset joining = (joined_behind)
