-- What holds of names and common symbols that are read.
use Rattle.std.specs.Prelude.{ℕ, ◌≢◌, ◌≤◌, List}
use Rattle.std.specs.List.{All}
use Rattle.mo_types.specs.declared.object.SymbolKind.{SymbolKind}
use Rattle.mo_types.specs.declared.object.SymbolKind.TheVariants.{Common}

-- no byte of the name is a NUL
abbrev pub HasNoNul : List ℕ → Type 0
HasNoNul name = All (λ b. b ≢ 0) name

-- a common symbol is aligned to a page, 2^14 bytes, at most
abbrev pub IsLowCommon : SymbolKind → Type 0
IsLowCommon (Common align size) = align ≤ 14
IsLowCommon _ = Unit {0}
