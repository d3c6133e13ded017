-- Names that are numbered in any order.
use Rattle.std.proofs.Common.{◌≡◌, ℕ, ◌<◌, ◌≤◌, ◌^◌, ◌⊎◌, true, List, [], ◌++◌, length, Ok, Err, sym, ap, subst, ◌∙◌, inl, inr, arith}
use Rattle.std.specs.Cmp.Lexicographic.{nat_list_eq_equiv}
use Rattle.std.specs.List.{IsDistinct}
use Rattle.std.specs.Str.{bytes_eq}
use Rattle.std.proofs.lemmas.List.Concat.{flat_map-append}
use Rattle.std.proofs.lemmas.Map.Made.{length-le_from_is_member}
use Rattle.list_lemmas.proofs.Inserted.{behind, from_inserted, in_inserted, kept_inserted}
use Rattle.list_lemmas.proofs.Members.{Contains_from_in, In, any_from_in, any_true, in_either, in_from_Contains, in_left, in_right}
use Rattle.mo_types.specs.declared.loaded.LoadedFile.{LoadedFile}
use Rattle.name_ids.specs.Names.{AreAsMany, AreNames, added, external_names, external_of, gathered, limited, numbered, numbers_of}
use Rattle.name_ids.specs.declared.fault.GatherFault.{GatherFault}
use Rattle.name_ids.proofs.Gathering.{limited_fault, limited_is}
use Rattle.name_ids.proofs.Once.{distinct, distinct_all, same_name}
use Rattle.name_ids.proofs.Staying.{numbers_stay}

-- ---- as many as others

no_more : (one two : List (List ℕ)) → IsDistinct bytes_eq one → ((name : List ℕ) → In name one → In name two) → length one ≤ length two
no_more one two apart within =
    length-le_from_is_member {eq = bytes_eq} nat_list_eq_equiv one two apart (λ name has.
    let there : (x : List ℕ) × In x one × (bytes_eq name x ≡ true) = any_true (bytes_eq name) one has in
    any_from_in (bytes_eq name) two there.0 (within there.0 there.1) there.2)

as_long : (one two : List (List ℕ)) → IsDistinct bytes_eq one → IsDistinct bytes_eq two → ((name : List ℕ) → In name one → In name two) → ((name : List ℕ) → In name two → In name one) → length one ≡ length two
as_long one two apart apart' within within' =
    let less = no_more one two apart within in
    let more = no_more two one apart' within' in
    omega (arith, less, more)

in_numbered : (names : List (List ℕ)) (name : List ℕ) → In name names → In name (numbered names)
unfolding numbered
in_numbered names name there = in_inserted bytes_eq same_name [] names name there

from_numbered : (names : List (List ℕ)) (name : List ℕ) → In name (numbered names) → In name names
unfolding numbered
from_numbered names name there = elim (from_inserted bytes_eq same_name [] names name there) [
  | inl none ↦ absurd none
  | inr there ↦ there
]

pub in_names : (files : List LoadedFile) (extra names : List (List ℕ)) (name : List ℕ) → AreNames files extra names → In name (external_names files ++ extra) → In name names
in_names files extra names name so there = in_from_Contains names name ((so.same name).0 (Contains_from_in (external_names files ++ extra) name there))

from_names : (files : List LoadedFile) (extra names : List (List ℕ)) (name : List ℕ) → AreNames files extra names → In name names → In name (external_names files ++ extra)
from_names files extra names name so there = in_from_Contains (external_names files ++ extra) name ((so.same name).1 (Contains_from_in names name there))

pub as_many : (files : List LoadedFile) (extra names : List (List ℕ)) → AreNames files extra names → AreAsMany files extra names
as_many files extra names so =
    as_long names (numbered (external_names files ++ extra)) so.numbering.distinct (distinct (external_names files ++ extra))
    (λ name there. in_numbered (external_names files ++ extra) name (from_names files extra names name so there))
    (λ name there. in_names files extra names name so (from_numbered (external_names files ++ extra) name there))

-- ---- further names

module _ (files more_files : List LoadedFile) (extra more_extra names more : List (List ℕ)) (so : AreNames files extra names)
    (into : (name : List ℕ) → In name (external_names more_files ++ more_extra) → In name (external_names files ++ extra) ⊎ In name more)
    (old : (name : List ℕ) → In name (external_names files ++ extra) → In name (external_names more_files ++ more_extra))
    (new : (name : List ℕ) → In name more → In name (external_names more_files ++ more_extra)) where
  there : (name : List ℕ) → In name (external_names more_files ++ more_extra) → In name (added names more)
  there name is = elim (into name is) [
    | inl before ↦ kept_inserted bytes_eq same_name names more name (in_names files extra names name so before)
    | inr then ↦ in_inserted bytes_eq same_name names more name then
  ]

  from : (name : List ℕ) → In name (added names more) → In name (external_names more_files ++ more_extra)
  from name is = elim (from_inserted bytes_eq same_name names more name is) [
    | inl before ↦ old name (from_names files extra names name so before)
    | inr then ↦ new name then
  ]

  pub added_are : (all : List (List ℕ)) → limited (added names more) ≡ Ok all → AreNames more_files more_extra all
  added_are all is =
      let fits : (length (added names more) < 2 ^ 24) × (added names more ≡ all) = limited_is (added names more) all is in
      subst (λ (ks : List (List ℕ)). AreNames more_files more_extra ks) fits.1 (record {
        numbering = record { distinct = distinct_all names more so.numbering.distinct; few = fits.0 };
        same = λ name. ((λ c. Contains_from_in (added names more) name (there name (in_from_Contains (external_names more_files ++ more_extra) name c))), (λ c. Contains_from_in (external_names more_files ++ more_extra) name (from name (in_from_Contains (added names more) name c))));
      })

  pub added_many : (fault : GatherFault) → limited (added names more) ≡ Err fault → 2 ^ 24 ≤ length (numbered (external_names more_files ++ more_extra))
  added_many fault is =
      let many : 2 ^ 24 ≤ length (added names more) = (limited_fault (added names more) fault is).0 in
      let same : length (added names more) ≡ length (numbered (external_names more_files ++ more_extra)) = as_long (added names more) (numbered (external_names more_files ++ more_extra)) (distinct_all names more so.numbering.distinct) (distinct (external_names more_files ++ more_extra))
      (λ name is. in_numbered (external_names more_files ++ more_extra) name (from name is))
      (λ name is. there name (from_numbered (external_names more_files ++ more_extra) name is)) in
      omega (arith, many, same)

  pub added_stay : (all : List (List ℕ)) → limited (added names more) ≡ Ok all → numbers_of all files ≡ numbers_of names files
  added_stay all is =
      let b : (rest : List (List ℕ)) × (added names more ≡ names ++ rest) = behind bytes_eq same_name names more in
      ap (λ (ks : List (List ℕ)). numbers_of ks files) (sym (limited_is (added names more) all is).1 ∙ b.1)
      ∙ numbers_stay names b.0 files (λ name there. in_names files extra names name so (in_left (external_names files) extra name there))

-- those of more files
external_more : (files more : List LoadedFile) → external_names (files ++ more) ≡ external_names files ++ external_names more
unfolding external_names
external_more files more = flat_map-append (λ (f : LoadedFile). external_of f.object.symbols) files more

pub into_files : (files more : List LoadedFile) (extra : List (List ℕ)) (name : List ℕ) → In name (external_names (files ++ more) ++ extra) → In name (external_names files ++ extra) ⊎ In name (external_names more)
into_files files more extra name is = elim (in_either (external_names (files ++ more)) extra name is) [
  | inl there ↦ elim (in_either (external_names files) (external_names more) name (subst (λ (ns : List (List ℕ)). In name ns) (external_more files more) there)) [
    | inl before ↦ inl (in_left (external_names files) extra name before)
    | inr then ↦ inr then
  ]
  | inr there ↦ inl (in_right (external_names files) extra name there)
]

old_files : (files more : List LoadedFile) (extra : List (List ℕ)) (name : List ℕ) → In name (external_names files ++ extra) → In name (external_names (files ++ more) ++ extra)
old_files files more extra name is = elim (in_either (external_names files) extra name is) [
  | inl there ↦ in_left (external_names (files ++ more)) extra name (subst (λ (ns : List (List ℕ)). In name ns) (sym (external_more files more)) (in_left (external_names files) (external_names more) name there))
  | inr there ↦ in_right (external_names (files ++ more)) extra name there
]

new_files : (files more : List LoadedFile) (extra : List (List ℕ)) (name : List ℕ) → In name (external_names more) → In name (external_names (files ++ more) ++ extra)
new_files files more extra name there = in_left (external_names (files ++ more)) extra name (subst (λ (ns : List (List ℕ)). In name ns) (sym (external_more files more)) (in_right (external_names files) (external_names more) name there))

pub files_are_names : (files more : List LoadedFile) (extra names all : List (List ℕ)) → AreNames files extra names → limited (added names (external_names more)) ≡ Ok all → AreNames (files ++ more) extra all
files_are_names files more extra names all so is = added_are files (files ++ more) extra extra names (external_names more) so (into_files files more extra) (old_files files more extra) (new_files files more extra) all is

pub files_are_many : (files more : List LoadedFile) (extra names : List (List ℕ)) (fault : GatherFault) → AreNames files extra names → limited (added names (external_names more)) ≡ Err fault → 2 ^ 24 ≤ length (numbered (external_names (files ++ more) ++ extra))
files_are_many files more extra names fault so is = added_many files (files ++ more) extra extra names (external_names more) so (into_files files more extra) (old_files files more extra) (new_files files more extra) fault is

pub files_stay : (files more : List LoadedFile) (extra names all : List (List ℕ)) → AreNames files extra names → limited (added names (external_names more)) ≡ Ok all → numbers_of all files ≡ numbers_of names files
files_stay files more extra names all so is = added_stay files (files ++ more) extra extra names (external_names more) so (into_files files more extra) (old_files files more extra) (new_files files more extra) all is

-- those that are wanted besides
into_extra : (files : List LoadedFile) (extra more : List (List ℕ)) (name : List ℕ) → In name (external_names files ++ (extra ++ more)) → In name (external_names files ++ extra) ⊎ In name more
into_extra files extra more name is = elim (in_either (external_names files) (extra ++ more) name is) [
  | inl there ↦ inl (in_left (external_names files) extra name there)
  | inr there ↦ elim (in_either extra more name there) [
    | inl before ↦ inl (in_right (external_names files) extra name before)
    | inr then ↦ inr then
  ]
]

old_extra : (files : List LoadedFile) (extra more : List (List ℕ)) (name : List ℕ) → In name (external_names files ++ extra) → In name (external_names files ++ (extra ++ more))
old_extra files extra more name is = elim (in_either (external_names files) extra name is) [
  | inl there ↦ in_left (external_names files) (extra ++ more) name there
  | inr there ↦ in_right (external_names files) (extra ++ more) name (in_left extra more name there)
]

new_extra : (files : List LoadedFile) (extra more : List (List ℕ)) (name : List ℕ) → In name more → In name (external_names files ++ (extra ++ more))
new_extra files extra more name there = in_right (external_names files) (extra ++ more) name (in_right extra more name there)

pub extra_are_names : (files : List LoadedFile) (extra more names all : List (List ℕ)) → AreNames files extra names → limited (added names more) ≡ Ok all → AreNames files (extra ++ more) all
extra_are_names files extra more names all so is = added_are files files extra (extra ++ more) names more so (into_extra files extra more) (old_extra files extra more) (new_extra files extra more) all is

pub extra_are_many : (files : List LoadedFile) (extra more names : List (List ℕ)) (fault : GatherFault) → AreNames files extra names → limited (added names more) ≡ Err fault → 2 ^ 24 ≤ length (numbered (external_names files ++ (extra ++ more)))
extra_are_many files extra more names fault so is = added_many files files extra (extra ++ more) names more so (into_extra files extra more) (old_extra files extra more) (new_extra files extra more) fault is

pub extra_stay : (files : List LoadedFile) (extra more names all : List (List ℕ)) → AreNames files extra names → limited (added names more) ≡ Ok all → numbers_of all files ≡ numbers_of names files
extra_stay files extra more names all so is = added_stay files files extra (extra ++ more) names more so (into_extra files extra more) (old_extra files extra more) (new_extra files extra more) all is

-- no names
none_apart : IsDistinct bytes_eq []
unfolding IsDistinct
none_apart = tt

pub none_are_names : AreNames [] [] []
unfolding external_names
none_are_names = record { numbering = record { distinct = none_apart; few = omega arith }; same = λ name. ((λ c. c), (λ c. c)) }

-- those of files and further ones, in the order in which they come first
pub gathered_are_names : (files : List LoadedFile) (extra names : List (List ℕ)) → gathered files extra ≡ Ok names → AreNames files extra names
unfolding gathered
gathered_are_names files extra names is =
    let fits : (length (numbered (external_names files ++ extra)) < 2 ^ 24) × (numbered (external_names files ++ extra) ≡ names) = limited_is (numbered (external_names files ++ extra)) names is in
    subst (λ (ks : List (List ℕ)). AreNames files extra ks) fits.1 (record {
      numbering = record { distinct = distinct (external_names files ++ extra); few = fits.0 };
      same = λ name. ((λ c. Contains_from_in (numbered (external_names files ++ extra)) name (in_numbered (external_names files ++ extra) name (in_from_Contains (external_names files ++ extra) name c))), (λ c. Contains_from_in (external_names files ++ extra) name (from_numbered (external_names files ++ extra) name (in_from_Contains (numbered (external_names files ++ extra)) name c))));
    })
