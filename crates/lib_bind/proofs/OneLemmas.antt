-- What libraries are bound to is one thing.
use Rattle.std.proofs.Common.{◌≡◌, ℕ, ◌+◌, ◌<◌, ◌≤◌, List, [], length, get_or, Result, Ok, sym, ap, subst, ◌∙◌, arith, ext_get_or}
use Rattle.std.proofs.lemmas.Cmp.{nat_cmp_total}
use Rattle.std.proofs.lemmas.Option.{slice_get-get_or}
use Rattle.list_lemmas.proofs.Members.{Contains_from_in, in_from_Contains}
use Rattle.list_lemmas.proofs.Rising.{rising_same}
use Rattle.command_line.specs.declared.command.Command.{Command}
use Rattle.file_cache.specs.Program.{File, Outcome}
use Rattle.tbd_doc.specs.declared.stub.Stub.{Stub}
use Rattle.lib_bind.specs.Closure.{Bound, IsGraphOf, IsLast, bound_after}
use Rattle.lib_bind.specs.Graph.{AreReached, AreReaches, IsWhole}
use Rattle.lib_bind.specs.declared.bind_fault.BindFault.{BindFault}
use Rattle.lib_bind.specs.declared.library.Library.{Library}
use Rattle.lib_bind.specs.declared.library.LibraryGraph.{LibraryGraph}
use Rattle.lib_bind.specs.declared.named.NamedStub.{NamedStub}
use Rattle.lib_bind.proofs.EndLemmas.{bound_stays, same_value}
use Rattle.lib_bind.proofs.ReachedLemmas.{no_library}

-- ---- what libraries reach

reached_one : (links : List (List ℕ)) (from : ℕ) (a b : List ℕ) → AreReached links from a → AreReached links from b → a ≡ b
reached_one links from a b p q =
    rising_same nat_cmp_total a b p.rising q.rising
    (λ to there. in_from_Contains b to (q.all to (p.only to (Contains_from_in a to there))))
    (λ to there. in_from_Contains a to (p.all to (q.only to (Contains_from_in b to there))))

reach_at : (libraries : List Library) (links a b : List (List ℕ)) (at : ℕ) → AreReaches libraries links a → AreReaches libraries links b → at < length libraries → get_or a at [] ≡ get_or b at []
reach_at libraries links a b at p q within =
    let library : Library = get_or libraries at no_library in
    reached_one links library.document (get_or a at []) (get_or b at [])
    (p.reached at library (slice_get-get_or libraries at no_library within)) (q.reached at library (slice_get-get_or libraries at no_library within))

reach_one : (libraries : List Library) (links a b : List (List ℕ)) → AreReaches libraries links a → AreReaches libraries links b → a ≡ b
reach_one libraries links a b p q =
    ext_get_or [] a b (p.each ∙ sym q.each) (λ at low. reach_at libraries links a b at p q (subst (λ (n : ℕ). at < n) p.each low))

abbrev graph_of : List Library → List Stub → List (List ℕ) → List (List ℕ) → LibraryGraph
graph_of libraries documents links reach = record { libraries = libraries; documents = documents; links = links; reach = reach }

graphs_same : (a b : LibraryGraph) → a.libraries ≡ b.libraries → a.documents ≡ b.documents → a.links ≡ b.links → a.reach ≡ b.reach → a ≡ b
graphs_same a b libraries documents links reach =
    ap (λ (ls : List Library). graph_of ls a.documents a.links a.reach) libraries
    ∙ ap (λ (ds : List Stub). graph_of b.libraries ds a.links a.reach) documents
    ∙ ap (λ (ks : List (List ℕ)). graph_of b.libraries b.documents ks a.reach) links
    ∙ ap (graph_of b.libraries b.documents b.links) reach

pub whole_one : (a b : LibraryGraph) → IsWhole a → IsWhole b → a.libraries ≡ b.libraries → a.documents ≡ b.documents → a.links ≡ b.links → a ≡ b
whole_one a b p q libraries documents links =
    let reaches : AreReaches b.libraries b.links a.reach =
    subst (λ (ks : List (List ℕ)). AreReaches b.libraries ks a.reach) links (subst (λ (ls : List Library). AreReaches ls a.links a.reach) libraries p.reach) in
    graphs_same a b libraries documents links (reach_one b.libraries b.links a.reach b.reach reaches q.reach)

-- ---- what is bound

together : (look : List ℕ → File) (command : Command) (named : List NamedStub) (count more : ℕ) → bound_after command named (more + count) look ≡ bound_after command named (count + more) look
together look command named count more = let same : more + count ≡ count + more = omega arith in ap (λ n. bound_after command named n look) same

pub outcomes_one : (look : List ℕ → File) (command : Command) (named : List NamedStub) (count more : ℕ) → IsLast count (bound_after command named count look).end → IsLast more (bound_after command named more look).end
    → bound_after command named count look ≡ bound_after command named more look
outcomes_one look command named count more one other =
    sym (bound_stays look command named more count one) ∙ together look command named count more ∙ bound_stays look command named count more other

last_of_end : (count : ℕ) (end : Result Bound BindFault) (bound : Bound) → end ≡ Ok bound → length bound.closing.work ≤ count → IsLast count end
last_of_end count end bound is done = subst (IsLast count) (sym is) done

pub graph_one : (look : List ℕ → File) (command : Command) (named : List NamedStub) (count more : ℕ) (bound second : Bound) (graph other : LibraryGraph)
    → (bound_after command named count look).end ≡ Ok bound → (bound_after command named more look).end ≡ Ok second
    → IsGraphOf count graph bound → IsGraphOf more other second → IsWhole graph → IsWhole other → graph ≡ other
graph_one look command named count more bound second graph other one two p q whole also =
    let outcomes : bound_after command named count look ≡ bound_after command named more look =
    outcomes_one look command named count more (last_of_end count (bound_after command named count look).end bound one p.done) (last_of_end more (bound_after command named more look).end second two q.done) in
    let same : bound ≡ second = same_value bound second (sym one ∙ ap (λ (o : Outcome Bound BindFault). o.end) outcomes ∙ two) in
    whole_one graph other whole also
    (p.libraries ∙ ap (λ (b : Bound). b.libraries) same ∙ sym q.libraries)
    (p.documents ∙ ap (λ (b : Bound). b.closing.growing.documents) same ∙ sym q.documents)
    (p.links ∙ ap (λ (b : Bound). b.closing.growing.links) same ∙ sym q.links)

pub ruleset one = (whole_one)
