-- The definition of objects and the facts tell the same.
use Rattle.std.proofs.Common.{◌≡◌, ◌⊎◌, ℕ, ◌<◌, ◌≤◌, ◌^◌, Bool, true, false, nat_lt, List, length, Option, Some, None, Result, Ok, Err, inl, inr, ⊎_elim, refl, sym, ap, subst, ◌∙◌, arith}
use Rattle.mo_types.specs.Gives.{◌>>=◌, guarded}
use Rattle.mo_types.specs.Kind.{kind_of}
use Rattle.mo_types.specs.RelocationRules.{first_fault, pair_fault, shape_fault, place_fault, target_fault}
use Rattle.mo_types.specs.declared.cause.Feature.{Feature}
use Rattle.mo_types.specs.declared.cause.Rule.{Rule}
use Rattle.mo_types.specs.declared.cause.Rule.TheVariants as rule
use Rattle.mo_types.specs.declared.cause.Which.TheVariants.{Symbols}
use Rattle.mo_types.specs.declared.kind.Kind.TheVariants.{MachO}
use Rattle.mo_types.specs.declared.object.Object.{Object}
use Rattle.mo_types.specs.declared.object_fault.ObjFault.{ObjFault}
use Rattle.mo_types.specs.declared.object_fault.ObjFault.TheVariants.{Limit, Malformed, Unsupported, OutOfMemory}
use Rattle.mo_obj.specs.Facts.{IsFaulty, IsFirst, IsFirstFailure, IsForArm64, IsForeign, IsLacking, IsObject, IsOneOrFaulty, IsSound, IsTooLarge, feature_in}
use Rattle.unwind_read.specs.Unwinds as unwinds
use Rattle.mo_obj.specs.Entries.{entries_of}
use Rattle.mo_obj.specs.Faults.{keeps}
use Rattle.mo_obj.specs.Header.{header_of, is_arm64, is_relocatable}
use Rattle.mo_obj.specs.Object.{accepted, described, lacks, object_of}
use Rattle.mo_obj.specs.Commands.{commands_of, frame_of}
use Rattle.mo_obj.specs.Object.{checked_sections}
use Rattle.mo_obj.specs.Parts.{commands_in, foreign_in, frame_in, header_in, object_in, sections_in, symbols_in, symtab_in}
use Rattle.mo_obj.specs.Relocations.{reloc_feature, relocations_of}
use Rattle.mo_obj.specs.Rules.{Fails, rank}
use Rattle.mo_obj.specs.Sections.{each_keeps, has_broken_literals}
use Rattle.mo_obj.specs.Symbols.{symbols_of, symtab_of}
use Rattle.mo_obj.specs.declared.Described.{Described}
use Rattle.mo_obj.proofs.FactsCommands.{below, commands_told, frame_told, header_told, not_under}
use Rattle.mo_obj.proofs.FactsEntries.{entry_least}
use Rattle.mo_obj.proofs.FactsLeast.{both_ways}
use Rattle.mo_obj.proofs.FactsRelocations.{relocation_least}
use Rattle.mo_obj.proofs.FactsRules.{Holds, IsReadBelow, Tells, all_hold, has_rank, kept, ranked, same_rank, then_read}
use Rattle.mo_obj.proofs.FactsSymbols.{literals_told, sections_told, symbols_told, symtab_told}

unfoldable described_in : List ℕ → Described
described_in bytes = record { object = object_in bytes; foreign = foreign_in bytes }

described_told : (bytes : List ℕ) → Tells bytes (IsReadBelow bytes 8 (described_in bytes)) (described bytes)
unfolding described described_in object_in foreign_in Tells
described_told bytes =
    then_read bytes 1 (header_in bytes) (IsReadBelow bytes 8 (described_in bytes)) (header_of bytes) _ (header_told bytes) λ one.
    then_read bytes 2 (commands_in bytes) (IsReadBelow bytes 8 (described_in bytes)) (commands_of bytes (header_in bytes)) _ (commands_told bytes one) λ two.
    then_read bytes 3 (frame_in bytes) (IsReadBelow bytes 8 (described_in bytes)) (frame_of bytes (commands_in bytes)) _ (frame_told bytes two) λ three.
    then_read bytes 5 (sections_in bytes) (IsReadBelow bytes 8 (described_in bytes)) (checked_sections bytes (frame_in bytes)) _ (sections_told bytes three) λ five.
    then_read bytes 6 (symtab_in bytes) (IsReadBelow bytes 8 (described_in bytes)) (symtab_of bytes (frame_in bytes)) _ (symtab_told bytes five) λ six.
    then_read bytes 7 (symbols_in bytes) (IsReadBelow bytes 8 (described_in bytes)) (symbols_of bytes (symtab_in bytes) (sections_in bytes)) _ (symbols_told bytes six) λ seven.
    then_read bytes 8 tt (IsReadBelow bytes 8 (described_in bytes)) (each_keeps rule.Literals (frame_in bytes) has_broken_literals (sections_in bytes)) _ (literals_told bytes seven) λ eight.
    record { same = refl; holds = eight }

relocations_told : (bytes : List ℕ) → Holds bytes 8 → Tells bytes (IsReadBelow bytes 12 (reloc_feature (object_in bytes))) (relocations_of (object_in bytes))
unfolding relocations_of
relocations_told bytes eight =
    then_read bytes 9 tt (IsReadBelow bytes 12 (reloc_feature (object_in bytes))) (keeps rule.Pair (first_fault pair_fault (object_in bytes)) tt) _
    (kept bytes rule.Pair tt (first_fault pair_fault (object_in bytes)) refl eight (relocation_least pair_fault (object_in bytes))) λ nine.
    then_read bytes 10 tt (IsReadBelow bytes 12 (reloc_feature (object_in bytes))) (keeps rule.Shape (first_fault shape_fault (object_in bytes)) tt) _
    (kept bytes rule.Shape tt (first_fault shape_fault (object_in bytes)) refl nine (relocation_least shape_fault (object_in bytes))) λ ten.
    then_read bytes 11 tt (IsReadBelow bytes 12 (reloc_feature (object_in bytes))) (keeps rule.Place (first_fault place_fault (object_in bytes)) tt) _
    (kept bytes rule.Place tt (first_fault place_fault (object_in bytes)) refl ten (relocation_least place_fault (object_in bytes))) λ eleven.
    kept bytes rule.Target (reloc_feature (object_in bytes)) (first_fault target_fault (object_in bytes)) refl eleven (relocation_least target_fault (object_in bytes))

entries_told : (bytes : List ℕ) → Holds bytes 12 → Tells bytes (IsReadBelow bytes 13 tt) (entries_of (object_in bytes))
entries_told bytes twelve = kept bytes rule.Unwind tt (unwinds.first_fault (object_in bytes)) refl twelve (entry_least (object_in bytes))

-- an object is accepted
record IsAccepted (bytes : List ℕ) : Type 0 where
  sound : IsSound bytes
  features : feature_in bytes ≡ None
  few : length (symbols_in bytes) < 2 ^ 24

is_few : (n : ℕ) → nat_lt n (2 ^ 24) ≡ true → n < 2 ^ 24
is_few n is = below n (2 ^ 24) (sym is)

is_many : (n : ℕ) → nat_lt n (2 ^ 24) ≡ false → 2 ^ 24 ≤ n
is_many n is = not_under n (2 ^ 24) (sym is)

small_or_not : (bytes : List ℕ) (small : Bool) → nat_lt (length (symbols_in bytes)) (2 ^ 24) ≡ small → IsSound bytes → feature_in bytes ≡ None → Tells bytes (λ done. IsAccepted bytes) (guarded small (Limit Symbols) (tt {0}))
unfolding Tells
small_or_not bytes true is sound features = record { sound = sound; features = features; few = is_few (length (symbols_in bytes)) is }
small_or_not bytes false is sound features = record { sound = sound; features = features; many = is_many (length (symbols_in bytes)) is }

had : (bytes : List ℕ) (feature : Feature) → feature_in bytes ≡ Some feature → IsSound bytes → Tells bytes (λ (done : Unit {0}). IsAccepted bytes) (Err (Unsupported feature))
unfolding Tells
had bytes feature is sound = inr (record { sound = sound; is = is })

had_or_not : (bytes : List ℕ) (feature : Option Feature) → feature_in bytes ≡ feature → IsSound bytes → Tells bytes (λ done. IsAccepted bytes) (lacks feature >>= λ supported. guarded (nat_lt (length (symbols_in bytes)) (2 ^ 24)) (Limit Symbols) (tt {0}))
had_or_not bytes None is sound = small_or_not bytes (nat_lt (length (symbols_in bytes)) (2 ^ 24)) refl sound is
had_or_not bytes (Some feature) is sound = had bytes feature is sound

symbols_are : (bytes : List ℕ) → (object_in bytes).symbols ≡ symbols_in bytes
unfolding object_in
symbols_are bytes = refl

accepted_told : (bytes : List ℕ) → Holds bytes 8 → Tells bytes (λ done. IsAccepted bytes) (accepted (object_in bytes) (foreign_in bytes))
unfolding accepted
accepted_told bytes eight =
    then_read bytes 12 (reloc_feature (object_in bytes)) (λ done. IsAccepted bytes) (relocations_of (object_in bytes)) _ (relocations_told bytes eight)
    λ twelve. then_read bytes 13 tt (λ done. IsAccepted bytes) (entries_of (object_in bytes)) _ (entries_told bytes twelve)
    λ all. subst (λ symbols. Tells bytes (λ done. IsAccepted bytes) (lacks (feature_in bytes) >>= λ supported. guarded (nat_lt (length symbols) (2 ^ 24)) (Limit Symbols) (tt {0}))) (sym (symbols_are bytes))
    (had_or_not bytes (feature_in bytes) refl (all_hold bytes all))

-- the object that was read
record IsTaken (bytes : List ℕ) (object : Object) : Type 0 where
  is : object ≡ object_in bytes
  accepted : IsAccepted bytes

then_taken : (bytes : List ℕ) (done : Result (Unit {0}) ObjFault) → Tells bytes (λ done. IsAccepted bytes) done → Tells bytes (IsTaken bytes) (done >>= λ accepted. Ok (object_in bytes))
unfolding Tells
then_taken bytes (Ok done) is = record { is = refl; accepted = is }
then_taken bytes (Err fault) told = told

object_told : (bytes : List ℕ) → Tells bytes (IsTaken bytes) (object_of bytes)
unfolding object_of described_in
object_told bytes =
    then_read bytes 8 (described_in bytes) (IsTaken bytes) (described bytes) _ (described_told bytes)
    λ eight. then_taken bytes (accepted (object_in bytes) (foreign_in bytes)) (accepted_told bytes eight)

as_object : (bytes : List ℕ) (object : Object) → kind_of bytes ≡ MachO → IsTaken bytes object → IsObject bytes object
unfolding object_in
as_object bytes object kind taken = record {
  kind = kind;
  sound = taken.accepted.sound;
  subsections = ap (λ o. o.subsections) taken.is;
  sections = ap (λ o. o.sections) taken.is;
  symbols = ap (λ o. o.symbols) taken.is;
  features = taken.accepted.features;
  few = taken.accepted.few;
}

pub object_read : (bytes : List ℕ) (object : Object) → kind_of bytes ≡ MachO → object_of bytes ≡ Ok object → IsObject bytes object
unfolding Tells
object_read bytes object kind is = as_object bytes object kind (subst (Tells bytes (IsTaken bytes)) is (object_told bytes))

pub fault_told : (bytes : List ℕ) (fault : ObjFault) → kind_of bytes ≡ MachO → object_of bytes ≡ Err fault → IsFaulty bytes fault
unfolding Tells
fault_told bytes fault kind is = record { kind = kind; first = subst (Tells bytes (IsTaken bytes)) is (object_told bytes) }

-- one answer at most

one_object : (one other : Object) → one.subsections ≡ other.subsections → one.sections ≡ other.sections → one.symbols ≡ other.symbols → one ≡ other
one_object one other subsections sections symbols = λ i. record { subsections = subsections i; sections = sections i; symbols = symbols i }

pub objects_alone : (bytes : List ℕ) (one other : Object) → IsObject bytes one → IsObject bytes other → one ≡ other
objects_alone bytes one other a b = one_object one other (a.subsections ∙ sym b.subsections) (a.sections ∙ sym b.sections) (a.symbols ∙ sym b.symbols)

none_and_some : (o : Option Feature) (f : Feature) → o ≡ None → o ≡ Some f → ⊥
none_and_some o f none some = cc

never_both : (bytes : List ℕ) (feature : Feature) → IsForArm64 bytes → IsForeign bytes feature → ⊥
never_both bytes feature target foreign = ⊎_elim
    (λ machine. both_ways (is_arm64 (header_in bytes)) target.machine machine.0)
    (λ filetype. both_ways (is_relocatable (header_in bytes)) target.filetype filetype.1)
    foreign.is

unfit : (bytes : List ℕ) (object : Object) (fault : ObjFault) → IsObject bytes object → IsFirst bytes fault → ⊥
unfit bytes object (Malformed place asked) is first = is.sound.rules asked place first.fails
unfit bytes object (Unsupported feature) is (inl foreign) = never_both bytes feature is.sound.target foreign
unfit bytes object (Unsupported feature) is (inr lacking) = none_and_some (feature_in bytes) feature is.features lacking.is
unfit bytes object (Limit Symbols) is large =
    let few : length (symbols_in bytes) < 2 ^ 24 = is.few in
    let many : 2 ^ 24 ≤ length (symbols_in bytes) = large.many in
    absurd (omega arith)
unfit bytes object (Limit _) is first = absurd first
unfit bytes object OutOfMemory is first = absurd first

unsound : (bytes : List ℕ) (asked : Rule) (place : ℕ) → IsFirstFailure bytes asked place → IsSound bytes → ⊥
unsound bytes asked place first sound = sound.rules asked place first.fails

start_or_later : (n : ℕ) → (n ≡ 0) ⊎ (0 < n)
start_or_later n = grind arith

cut_or_whole : (bytes : List ℕ) (place : ℕ) → 32 ≤ length bytes → Fails bytes rule.Header place → ⊥
cut_or_whole bytes place whole fails = let short : length bytes < 32 = fails.short in absurd (omega arith)

failure_or_foreign : (bytes : List ℕ) (asked : Rule) (place : ℕ) (feature : Feature) → IsFirstFailure bytes asked place → IsForeign bytes feature → ⊥
failure_or_foreign bytes asked place feature first foreign = ⊎_elim
    (λ start. cut_or_whole bytes place foreign.header
    (subst (λ r. Fails bytes r place) (sym (has_rank bytes asked place first.fails).0 ∙ ap ranked start) first.fails))
    (λ later. never_both bytes feature (first.target later) foreign)
    (start_or_later (rank asked))

before_same_behind : (a b : ℕ) → (a < b) ⊎ ((a ≡ b) ⊎ (b < a))
before_same_behind a b = grind arith

one_place : (bytes : List ℕ) (asked : Rule) (p q : ℕ) → IsFirstFailure bytes asked p → IsFirstFailure bytes asked q → p ≡ q
one_place bytes asked p q a b = ⊎_elim
    (λ before. absurd (b.least p before a.fails))
    (λ others. ⊎_elim (λ same. same) (λ behind. absurd (a.least q behind b.fails)) others)
    (before_same_behind p q)

one_failure : (bytes : List ℕ) (one other : Rule) (p q : ℕ) → one ≡ other → IsFirstFailure bytes one p → IsFirstFailure bytes other q → Malformed p one ≡ Malformed q other
one_failure bytes one other p q same a b =
    let place : p ≡ q = one_place bytes other p q (subst (λ r. IsFirstFailure bytes r p) same a) b in
    λ i. Malformed (place i) (same i)

failures_alone : (bytes : List ℕ) (one other : Rule) (p q : ℕ) → IsFirstFailure bytes one p → IsFirstFailure bytes other q → Malformed p one ≡ Malformed q other
failures_alone bytes one other p q a b = ⊎_elim
    (λ before. absurd (b.earlier one before p a.fails))
    (λ others. ⊎_elim
    (λ same. one_failure bytes one other p q (same_rank bytes one other p q a.fails b.fails same) a b)
    (λ behind. absurd (a.earlier other behind q b.fails)) others)
    (before_same_behind (rank one) (rank other))

failure_alone : (bytes : List ℕ) (asked : Rule) (place : ℕ) (fault : ObjFault) → IsFirstFailure bytes asked place → IsFirst bytes fault → Malformed place asked ≡ fault
failure_alone bytes asked place (Malformed q other) first also = failures_alone bytes asked other place q first also
failure_alone bytes asked place (Unsupported feature) first (inl foreign) = absurd (failure_or_foreign bytes asked place feature first foreign)
failure_alone bytes asked place (Unsupported feature) first (inr lacking) = absurd (unsound bytes asked place first lacking.sound)
failure_alone bytes asked place (Limit Symbols) first large = absurd (unsound bytes asked place first large.sound)
failure_alone bytes asked place (Limit _) first none = absurd none
failure_alone bytes asked place OutOfMemory first none = absurd none

foreigns_alone : (bytes : List ℕ) (one other : Feature) → IsForeign bytes one → IsForeign bytes other → one ≡ other
foreigns_alone bytes one other a b = ⊎_elim
    (λ machine. ⊎_elim (λ also. machine.1 ∙ sym also.1) (λ filetype. absurd (both_ways (is_arm64 (header_in bytes)) filetype.0 machine.0)) b.is)
    (λ filetype. ⊎_elim (λ machine. absurd (both_ways (is_arm64 (header_in bytes)) filetype.0 machine.0)) (λ also. filetype.2 ∙ sym also.2) b.is)
    a.is

same_feature : (o : Option Feature) (one other : Feature) → o ≡ Some one → o ≡ Some other → one ≡ other
same_feature o one other a b = cc

feature_alone : (bytes : List ℕ) (feature : Feature) (fault : ObjFault) → IsForeign bytes feature ⊎ IsLacking bytes feature → IsFirst bytes fault → Unsupported feature ≡ fault
feature_alone bytes feature (Malformed place asked) first also = sym (failure_alone bytes asked place (Unsupported feature) also first)
feature_alone bytes feature (Unsupported other) (inl foreign) (inl also) = ap Unsupported (foreigns_alone bytes feature other foreign also)
feature_alone bytes feature (Unsupported other) (inl foreign) (inr lacking) = absurd (never_both bytes feature lacking.sound.target foreign)
feature_alone bytes feature (Unsupported other) (inr lacking) (inl foreign) = absurd (never_both bytes other lacking.sound.target foreign)
feature_alone bytes feature (Unsupported other) (inr lacking) (inr also) = ap Unsupported (same_feature (feature_in bytes) feature other lacking.is also.is)
feature_alone bytes feature (Limit Symbols) (inl foreign) large = absurd (never_both bytes feature large.sound.target foreign)
feature_alone bytes feature (Limit Symbols) (inr lacking) large = absurd (none_and_some (feature_in bytes) feature large.features lacking.is)
feature_alone bytes feature (Limit _) first none = absurd none
feature_alone bytes feature OutOfMemory first none = absurd none

size_alone : (bytes : List ℕ) (fault : ObjFault) → IsTooLarge bytes → IsFirst bytes fault → Limit Symbols ≡ fault
size_alone bytes (Malformed place asked) large also = sym (failure_alone bytes asked place (Limit Symbols) also large)
size_alone bytes (Unsupported feature) large also = sym (feature_alone bytes feature (Limit Symbols) also large)
size_alone bytes (Limit Symbols) large also = refl
size_alone bytes (Limit _) large none = absurd none
size_alone bytes OutOfMemory large none = absurd none

faults_alone : (bytes : List ℕ) (one other : ObjFault) → IsFirst bytes one → IsFirst bytes other → one ≡ other
faults_alone bytes (Malformed place asked) other first also = failure_alone bytes asked place other first also
faults_alone bytes (Unsupported feature) other first also = feature_alone bytes feature other first also
faults_alone bytes (Limit Symbols) other first also = size_alone bytes other first also
faults_alone bytes (Limit _) other none also = absurd none
faults_alone bytes OutOfMemory other none also = absurd none

-- the definition answers what the facts say

object_by : (bytes : List ℕ) (object : Object) (answer : Result Object ObjFault) → object_of bytes ≡ answer → IsObject bytes object → answer ≡ Ok object
object_by bytes object (Ok other) answers is = ap Ok (objects_alone bytes other object (object_read bytes other is.kind answers) is)
object_by bytes object (Err fault) answers is = absurd (unfit bytes object fault is (fault_told bytes fault is.kind answers).first)

pub object_is : (bytes : List ℕ) (object : Object) → IsObject bytes object → object_of bytes ≡ Ok object
object_is bytes object is = object_by bytes object (object_of bytes) refl is

fault_by : (bytes : List ℕ) (fault : ObjFault) (answer : Result Object ObjFault) → object_of bytes ≡ answer → IsFaulty bytes fault → answer ≡ Err fault
fault_by bytes fault (Ok object) answers is = absurd (unfit bytes object fault (object_read bytes object is.kind answers) is.first)
fault_by bytes fault (Err other) answers is = ap Err (faults_alone bytes other fault (fault_told bytes other is.kind answers).first is.first)

pub fault_is : (bytes : List ℕ) (fault : ObjFault) → IsFaulty bytes fault → object_of bytes ≡ Err fault
fault_is bytes fault is = fault_by bytes fault (object_of bytes) refl is

one_by : (bytes : List ℕ) (answer : Result Object ObjFault) → kind_of bytes ≡ MachO → object_of bytes ≡ answer → IsOneOrFaulty bytes
one_by bytes (Ok object) kind answers =
    let is : IsObject bytes object = object_read bytes object kind answers in
    inl (object, record { is = is; alone = λ other also. objects_alone bytes other object also is; faultless = λ fault faulty. unfit bytes object fault is faulty.first })
one_by bytes (Err fault) kind answers =
    let is : IsFaulty bytes fault = fault_told bytes fault kind answers in
    inr (fault, record { is = is; alone = λ other also. faults_alone bytes other fault also.first is.first; objectless = λ object also. unfit bytes object fault also is.first })

pub one_or_faulty : (bytes : List ℕ) → kind_of bytes ≡ MachO → IsOneOrFaulty bytes
one_or_faulty bytes kind = one_by bytes (object_of bytes) kind refl

pub ruleset facts = (object_read, fault_told, fault_is, one_or_faulty, objects_alone)
