-- The answers of the whole call.
use Rattle.std.proofs.Common.{◌≡◌, ℕ, ◌<◌, ◌≤◌, Bool, true, false, pos, ◌-ℤ◌, List, length, Some, None, if◌then◌else◌, refl, sym, ap, subst, ◌∙◌, arith}
use Rattle.mo_types.specs.declared.cause.RangeKind.TheVariants.{FixupPlace, RebaseTarget}
use Rattle.mo_types.specs.declared.cause.Which.{Which}
use Rattle.mo_types.specs.declared.cause.Which.TheVariants as which
use Rattle.sect_place.specs.declared.layout.Layout.{Layout}
use Rattle.fixup_chain.specs.Chained.{AreChains, AreMany, IsCause, IsRefused}
use Rattle.fixup_chain.specs.Encoded.{IMPORTS, blob_of}
use Rattle.fixup_chain.specs.Faults.{IsFirstFault, base_of, fault_of, is_far, is_misplaced, range_of, target_of}
use Rattle.fixup_chain.specs.ImportOrder.{Import}
use Rattle.fixup_chain.specs.Imports.{AreFormed, is_wide, pool_of}
use Rattle.fixup_chain.specs.Places.{addresses_of}
use Rattle.fixup_chain.specs.Words.{words_of}
use Rattle.fixup_chain.specs.declared.chains.ChainFault.{ChainFault}
use Rattle.fixup_chain.specs.declared.chains.ChainFault.TheVariants as fault
use Rattle.fixup_chain.specs.declared.chains.ChainWord.{ChainWord}
use Rattle.fixup_chain.specs.declared.chains.Chains.{Chains}
use Rattle.fixup_chain.specs.declared.chains.Fixup.{Fixup}
use Rattle.fixup_chain.specs.declared.import_row.ImportRow.{ImportRow}
use Rattle.fixup_chain.specs.inner.Held.{imports_in}
use Rattle.fixup_chain.specs.inner.Rows.{rows_at}
use Rattle.fixup_chain.specs.inner.Turn.{AreSound}
use Rattle.fixup_chain.proofs.ImportLemmas.{forms}
use Rattle.fixup_chain.proofs.PoolLemmas.{as_many}

-- a pointer's fault is no limit
no_limit : (layout : Layout) (fixup : Fixup) (limit : Which) → fault_of layout fixup ≡ Some (fault.Limit limit) → ⊥
unfolding fault_of
no_limit layout fixup limit e = by (is_far layout fixup) (is_misplaced layout.segments fixup.address) e
  where
    by : (far misplaced : Bool) → (if far then Some (range_of fixup RebaseTarget (target_of layout fixup)) else if misplaced then Some (range_of fixup FixupPlace (pos fixup.address -ℤ pos (base_of layout.segments))) else None) ≡ Some (fault.Limit limit) → ⊥
    by true misplaced f = cc
    by false true f = cc
    by false false f = cc

pub refused_made : (layout : Layout) (fixups given : List Fixup) (wide : Bool) (imports : List Import) (why : ChainFault) → fixups ≡ given → AreFormed fixups wide imports → length imports < IMPORTS → IsFirstFault layout fixups why → IsCause layout given why
refused_made layout fixups given wide imports (fault.Range atom place kind value) e formed few first = subst (λ (fs : List Fixup). IsRefused layout fs (fault.Range atom place kind value)) e (record { wide = wide; imports = imports; formed = formed; few = few; first = first })
refused_made layout fixups given wide imports (fault.Limit limit) e formed few first = absurd (no_limit layout first.fixup limit first.is)
refused_made layout fixups given wide imports fault.OutOfMemory e formed few first = tt

abbrev chains_by : List ChainWord → List ℕ → Chains
chains_by w b = record { words = w; blob = b }

pub few_imports : (wide : Bool) (fixups : List Fixup) (rows : List ImportRow) → rows ≡ rows_at 1 (imports_in wide fixups) → length rows ≡ length (imports_in wide fixups)
few_imports wide fixups rows e = ap length e ∙ as_many 1 (imports_in wide fixups)

pub chains_made : (layout : Layout) (fixups given : List Fixup) (wide : Bool) (base : ℕ) (rows : List ImportRow) (words : List ChainWord) (blob : List ℕ) → fixups ≡ given → wide ≡ is_wide fixups (pool_of (imports_in false fixups)) → rows ≡ rows_at 1 (imports_in wide fixups) → length rows < IMPORTS → AreSound layout fixups (length fixups) → words ≡ words_of (target_of layout) wide (imports_in wide fixups) fixups → base ≡ base_of layout.segments → blob ≡ blob_of (addresses_of fixups) base layout.segments wide (imports_in wide fixups) → AreChains layout given (chains_by words blob)
chains_made layout fixups given wide base rows words blob e form rows_are few sound words_are base_is blob_is = subst (λ (fs : List Fixup). AreChains layout fs (chains_by words blob)) e (record {
  wide = wide;
  imports = imports_in wide fixups;
  formed = forms fixups wide form;
  few = (let size : length rows ≡ length (imports_in wide fixups) = few_imports wide fixups rows rows_are in omega (arith, few, size));
  sound = λ fixup (k, low, is). ap (fault_of layout) (sym is) ∙ sound.none k fixup low;
  words = words_are;
  blob = blob_is ∙ ap (λ (b : ℕ). blob_of (addresses_of fixups) b layout.segments wide (imports_in wide fixups)) base_is;
})

pub are_many : (fixups given : List Fixup) (wide : Bool) (rows : List ImportRow) → fixups ≡ given → wide ≡ is_wide fixups (pool_of (imports_in false fixups)) → rows ≡ rows_at 1 (imports_in wide fixups) → IMPORTS ≤ length rows → AreMany given
are_many fixups given wide rows e form rows_are many = subst AreMany e (record {
  wide = wide;
  imports = imports_in wide fixups;
  formed = forms fixups wide form;
  many = (let size : length rows ≡ length (imports_in wide fixups) = few_imports wide fixups rows rows_are in omega (arith, many, size));
})

pub many_made : (layout : Layout) (fixups given : List Fixup) (wide : Bool) (rows : List ImportRow) → fixups ≡ given → wide ≡ is_wide fixups (pool_of (imports_in false fixups)) → rows ≡ rows_at 1 (imports_in wide fixups) → IMPORTS ≤ length rows → IsCause layout given (fault.Limit which.Imports)
many_made layout fixups given wide rows e form rows_are many = (refl, are_many fixups given wide rows e form rows_are many)

pub ruleset encoding = (chains_made)

pub refused : (layout : Layout) (fixups given : List Fixup) (wide : Bool) (rows : List ImportRow) (why : ChainFault) → fixups ≡ given → wide ≡ is_wide fixups (pool_of (imports_in false fixups)) → rows ≡ rows_at 1 (imports_in wide fixups) → length rows < IMPORTS → IsFirstFault layout fixups why → IsCause layout given why
refused layout fixups given wide rows why e form rows_are few first =
    let size : length rows ≡ length (imports_in wide fixups) = few_imports wide fixups rows rows_are in
    refused_made layout fixups given wide (imports_in wide fixups) why e (forms fixups wide form) (omega (arith, few, size)) first
