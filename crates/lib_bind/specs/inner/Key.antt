-- A name as a key of a map.
use Rattle.std.specs.Prelude.{ℕ, List}
use Rattle.lib_bind.specs.declared.key.Key.{Key}
use Rattle.lib_bind.specs.declared.key.Key.TheVariants as key

-- the bytes of the name
abbrev pub bytes_of : Key → List ℕ
bytes_of (key.Held name) = name.items
bytes_of (key.Asked name) = name.now
