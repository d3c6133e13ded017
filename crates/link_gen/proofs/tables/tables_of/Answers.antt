use Rattle.std.proofs.Common.{◌≡◌, ◌≤◌, length, ap, ◌∙◌, arith}
use Rattle.link_gen.proofs.TableLemmas.{all_symbols, few_in_all}
use Rattle.link_gen.specs.Symbols.{symbols_of}
use Rattle.link_gen.proofs.tables.tables_of.Goals as goal

pub weak_numbers-weak_numbers-requires : goal.weak_numbers-weak_numbers-requires
weak_numbers-weak_numbers-requires c =
    let all : c.add_undefined.new.list.items ≡ symbols_of c.args.made =
    all_symbols c.args.made c.as_slice-3.result.now c.as_slice-4.result.now c.in_ok-symbols.symbols.items c.add_undefined.new.list.items
    c.in_ok-symbols.ensures (c.as_slice-3.ensures.value ∙ c.in_ok-outside.ensures.exact)
    (c.as_slice-4.ensures.value ∙ c.in_ok-undefined_weaks.ensures.exact) c.in_ok-add_undefined.ensures in
    let few : length (symbols_of c.args.made) ≤ 201 =
    few_in_all c.args.made c.in_ok-outside.outside.items c.as_slice.result.now (c.as_slice.ensures.value ∙ c.in_ok-drawn.ensures)
    c.in_ok-outside.ensures.few c.in_ok-outside.ensures.exact in
    let e : length c.as_slice-7.result.now ≡ length (symbols_of c.args.made) = ap length (c.as_slice-7.ensures.value ∙ all) in
    omega arith
