-- What is known of an object before it is written.
use Rattle.std.specs.Prelude.{◌≤◌, ◌≡◌, length, map}
use Rattle.std.specs.List.{range_with_len}
use Rattle.link_gen.specs.Calls.{drawn_functions, own_weaks}
use Rattle.link_gen.specs.Symbols.{number_of_function, number_of_weak, symbols_of}
use Rattle.link_gen.specs.declared.calls.MadeObject.{MadeObject}
use Rattle.link_gen.specs.declared.tables.Tables.{Tables}

-- the tables are those of the object
pub record AreTables (made : MadeObject) (tables : Tables) : Type 0 where
  pub weak_count : tables.weaks ≡ length (own_weaks made)
  pub few_weaks : tables.weaks ≤ 4
  pub symbols_are : tables.symbols.items ≡ symbols_of made
  pub few_symbols : length (symbols_of made) ≤ 201
  pub functions : tables.numbers.items ≡ map (number_of_function made) (drawn_functions made)
  pub weak_functions : tables.weak_numbers ≡ map (number_of_weak (symbols_of made)) (range_with_len 0 4)
