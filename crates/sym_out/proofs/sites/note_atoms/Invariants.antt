use Rattle.std.proofs.Common.{◌≡◌, ℕ, length, take}
use Rattle.mo_types.specs.declared.key.AtomKey.{AtomKey}
use Rattle.sym_out.specs.inner.Numbers.{AreNumbers, numbered}
use Rattle.sym_out.proofs.sites.note_atoms.Given as goal

abbrev pub invariant-loop-atom : goal.invariant-loop-atom
invariant-loop-atom l = record {
  size : length l.numbers.items ≡ length l.fn.numbers.items;
  noted : (f : AtomKey → ℕ) → AreNumbers f l.placed l.fn.numbers.items → AreNumbers (numbered f l.number (take l.atom-index l.atoms)) l.placed l.numbers.items;
}
