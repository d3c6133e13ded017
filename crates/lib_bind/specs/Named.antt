-- The stub libraries that a command line names.
use Rattle.std.specs.Prelude.{ℕ, ◌+◌, ◌^◌, ◌&&◌, Bool, true, nat_le, nat_lt, List, [], ◌∷◌, length}
use Rattle.lib_bind.specs.declared.named.NamedStub.{NamedStub}

-- the file has a document, and fewer than 2^32
abbrev pub has_documents : NamedStub → Bool
has_documents named = nat_lt 0 (length named.file.docs) && nat_lt (length named.file.docs) (2 ^ 32)

-- the position is from one on and below the number of inputs, and the file has documents
abbrev pub is_next : ℕ → ℕ → NamedStub → Bool
is_next inputs least named = nat_le least named.position && nat_lt named.position inputs && has_documents named

-- the positions rise from one on
abbrev pub are_named : ℕ → ℕ → List NamedStub → Bool
are_named inputs least [] = true
are_named inputs least (named ∷ rest) = is_next inputs least named && are_named inputs (named.position + 1) rest
