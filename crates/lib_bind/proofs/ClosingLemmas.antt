-- Loops over libraries and their files.
use Rattle.std.proofs.Common.{◌≡◌, ℕ, ◌<◌, ◌≤◌, ◌+◌, ◌∷◌, [], List, length, drop, get_or, Bool, true, false, sym, ap, ◌∙◌}
use Rattle.std.specs.Prelude.{◌&&◌, ◌^◌, nat_le, nat_lt}
use Rattle.std.proofs.lemmas.Bool.{and_parts}
use Rattle.std.proofs.lemmas.List.{drop_all, drop_more}
use Rattle.list_lemmas.proofs.Places.{from_here}
use Rattle.tbd_doc.specs.declared.stub.StubFile.{StubFile}
use Rattle.lib_bind.specs.Closing.{reach, reach_all, with_file, with_files}
use Rattle.lib_bind.specs.Named.{are_named, has_documents, is_next}
use Rattle.lib_bind.specs.declared.closing.Closing.{Closing}
use Rattle.lib_bind.specs.declared.growing.Growing.{Growing}
use Rattle.lib_bind.specs.declared.library.Library.{Library}
use Rattle.lib_bind.specs.declared.named.NamedStub.{NamedStub}

pub reach_next : (libraries : List Library) (at : ℕ) (d : Library) (closing next whole : Closing) → at < length libraries
    → reach_all (drop at libraries) closing ≡ whole → next ≡ reach (get_or libraries at d).document closing → reach_all (drop (at + 1) libraries) next ≡ whole
reach_next libraries at d closing next whole within before reached =
    ap (λ (c : Closing). reach_all (drop (at + 1) libraries) c) reached ∙ sym (ap (λ (ls : List Library). reach_all ls closing) (drop_more libraries at d within)) ∙ before

pub reach_ends : (libraries : List Library) (at : ℕ) (closing whole : Closing) → reach_all (drop at libraries) closing ≡ whole → length libraries ≤ at → closing ≡ whole
reach_ends libraries at closing whole before past = sym (ap (λ (ls : List Library). reach_all ls closing) (drop_all at libraries past)) ∙ before

pub files_next : (heads : List (List ℕ × ℕ)) (files rest : List StubFile) (file : StubFile) (growing next whole : Growing) → files ≡ file ∷ rest
    → with_files heads files growing ≡ whole → next ≡ with_file heads file.docs growing → with_files heads rest next ≡ whole
files_next heads files rest file growing next whole is before added =
    ap (λ (g : Growing). with_files heads rest g) added ∙ sym (ap (λ (fs : List StubFile). with_files heads fs growing) is) ∙ before

pub files_end : (heads : List (List ℕ × ℕ)) (files : List StubFile) (growing whole : Growing) → files ≡ [] → with_files heads files growing ≡ whole → growing ≡ whole
files_end heads files growing whole is before = sym (ap (λ (fs : List StubFile). with_files heads fs growing) is) ∙ before

-- Stub libraries that a command line names.

pub named_next : (inputs : ℕ) (named : List NamedStub) (at least next : ℕ) (stub : NamedStub) (whole : Bool) → at < length named → stub ≡ get_or named at stub → is_next inputs least stub ≡ true
    → next ≡ stub.position + 1 → are_named inputs least (drop at named) ≡ whole → are_named inputs next (drop (at + 1) named) ≡ whole
named_next inputs named at least next stub whole within is passes after before =
    ap (λ n. are_named inputs n (drop (at + 1) named)) after ∙ sym (ap (λ (b : Bool). b && are_named inputs (stub.position + 1) (drop (at + 1) named)) passes)
    ∙ sym (ap (are_named inputs least) (from_here named at stub within is)) ∙ before

pub named_fails : (inputs : ℕ) (named : List NamedStub) (at least : ℕ) (stub : NamedStub) (whole : Bool) → at < length named → stub ≡ get_or named at stub → is_next inputs least stub ≡ false
    → are_named inputs least (drop at named) ≡ whole → false ≡ whole
named_fails inputs named at least stub whole within is fails before =
    sym (ap (λ (b : Bool). b && are_named inputs (stub.position + 1) (drop (at + 1) named)) fails)
    ∙ sym (ap (are_named inputs least) (from_here named at stub within is)) ∙ before

pub named_end : (inputs : ℕ) (named : List NamedStub) (at least : ℕ) (whole : Bool) → length named ≤ at → are_named inputs least (drop at named) ≡ whole → true ≡ whole
named_end inputs named at least whole past before = sym (ap (are_named inputs least) (drop_all at named past)) ∙ before

pub ruleset naming = (named_next, named_fails, named_end)

pub named_first : (inputs least : ℕ) (named rest : List NamedStub) (stub : NamedStub) → named ≡ stub ∷ rest → are_named inputs least named ≡ true
    → (nat_lt stub.position inputs ≡ true) × (nat_lt 0 (length stub.file.docs) ≡ true) × (nat_lt (length stub.file.docs) (2 ^ 32) ≡ true) × (are_named inputs (stub.position + 1) rest ≡ true)
named_first inputs least named rest stub is all =
    let parts = and_parts (is_next inputs least stub) (are_named inputs (stub.position + 1) rest) (sym (ap (are_named inputs least) is) ∙ all) in
    let first = and_parts (nat_le least stub.position && nat_lt stub.position inputs) (has_documents stub) parts.0 in
    let second = and_parts (nat_le least stub.position) (nat_lt stub.position inputs) first.0 in
    let third = and_parts (nat_lt 0 (length stub.file.docs)) (nat_lt (length stub.file.docs) (2 ^ 32)) first.1 in
    (second.1, third.0, third.1, parts.1)
