-- The functions of an object, and which functions they call.
use Rattle.std.specs.Prelude.{ℕ, ◌+◌, ◌-◌, ◌*◌, ◌/◌, ◌%◌, ◌<◌, ◌≤◌, ◌==◌, ◌&&◌, ◌||◌, Bool, not, nat_le, nat_lt, min, List, Contains, filter, map, if◌then◌else◌}
use Rattle.std.specs.List.{list_any, range_with_len}
use Rattle.link_gen.specs.Draws.{drawn}
use Rattle.link_gen.specs.declared.calls.MadeObject.{MadeObject}
use Rattle.link_gen.specs.declared.names.SymbolName.{SymbolName}
use Rattle.link_gen.specs.declared.names.SymbolName.TheVariants.{Function, Weak}

-- each object has 64 functions, and the last one those that are left
abbrev pub object_count : ℕ → ℕ
object_count count = (count + 63) / 64

-- an object of an input of at most 20,000 functions
pub record IsMade (made : MadeObject) : Type 0 where
  pub some : 0 < made.count
  pub few : made.count ≤ 20000
  pub object : made.object < object_count made.count

-- its functions have the numbers from this one on
abbrev pub first_function : MadeObject → ℕ
first_function made = 64 * made.object

abbrev pub function_count : MadeObject → ℕ
function_count made = min 64 (made.count - first_function made)

abbrev pub has_function : MadeObject → ℕ → Bool
has_function made i = nat_le (first_function made) i && nat_lt i (first_function made + function_count made)

-- Each function makes three calls. The first two go to functions that are drawn, in order; the third one goes to the
-- weak function of the number modulo 4.
abbrev pub called : ℕ → ℕ → ℕ → SymbolName
called count i call = if call == 2 then Weak (i % 4) else Function (drawn count (2 * i + call))

-- the functions that the object's functions draw, two each
unfoldable pub drawn_functions : MadeObject → List ℕ
drawn_functions made = map (drawn made.count) (range_with_len (2 * first_function made) (2 * function_count made))

-- one of the object's functions draws it
pub record IsDrawn (made : MadeObject) (i : ℕ) : Type 0 where
  pub drawn : Contains (drawn_functions made) i

abbrev pub is_called_outside : MadeObject → ℕ → Bool
is_called_outside made i = not (has_function made i) && list_any (λ drawn. drawn == i) (drawn_functions made)

-- those of them that the object doesn't have, each once and by number
unfoldable pub outside_functions : MadeObject → List ℕ
outside_functions made = filter (is_called_outside made) (range_with_len 0 made.count)

-- The weak functions _w0 to _w3: each object has the one of its number modulo 4, and the first object has also those
-- that no other has where there are fewer than four.
abbrev pub has_weak : MadeObject → ℕ → Bool
has_weak made k = (k == made.object % 4) || (made.object == 0 && nat_le (object_count made.count) k)

unfoldable pub own_weaks : MadeObject → List ℕ
own_weaks made = filter (has_weak made) (range_with_len 0 4)

-- Those that are called and that the object doesn't have. Its first function's number is a multiple of 4, so that the
-- first functions call them one after the other.
unfoldable pub outside_weaks : MadeObject → List ℕ
outside_weaks made = filter (λ k. not (has_weak made k)) (range_with_len 0 (min 4 (function_count made)))
