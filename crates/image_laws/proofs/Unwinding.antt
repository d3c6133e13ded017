-- What the section `__unwind_info` of an image tells.
use Rattle.std.proofs.Common.{◌≡◌, ◌≢◌, ℕ, ◌<◌, ◌≤◌, ◌^◌, List, [], ◌∷◌, ◌++◌, length, map, Option, Some, None, refl, sym, ap, arith, subst, length-append}
use Rattle.std.specs.List.{AllByRecursion}
use Rattle.std.proofs.lemmas.List.{length-map}
use Rattle.std.proofs.lemmas.List.Elements.{All-from_recursion, recursion_from_All}
use Rattle.std.proofs.lemmas.List.Sorted.{All-permutation, length_permutation}
use Rattle.list_lemmas.proofs.Members.{all_map}
use Rattle.mo_bytes.specs.Number.{number_bytes}
use Rattle.image_format.specs.Unwind.{unwind_info_header_bytes}
use Rattle.image_format.specs.declared.unwind.UnwindLsdaEntry.{UnwindLsdaEntry}
use Rattle.image_format.specs.declared.unwind.RegularPageEntry.{RegularPageEntry}
use Rattle.ref_meet.specs.Scene.{Scene}
use Rattle.sect_place.specs.declared.layout.Layout.{Layout}
use Rattle.sect_place.specs.declared.layout.PlacedSection.{PlacedSection}
use Rattle.unwind_link.specs.Rows.{AreRows, AreSpread, row_of}
use Rattle.unwind_link.specs.declared.kept.KeptUnwind.{KeptUnwind}
use Rattle.unwind_out.specs.Law.{AreFields}
use Rattle.unwind_out.specs.Pages.{IsSection, info_header, section_bytes}
use Rattle.unwind_out.specs.Table.{personalities}
use Rattle.unwind_out.specs.declared.row.UnwindRow.{UnwindRow}
use Rattle.unwind_out.proofs.Law.{found_each, found_no_other}
use Rattle.unwind_out.proofs.Named.{named_each}
use Rattle.unwind_out.proofs.Spelling.{length-info_header}
use Rattle.image_make.specs.Made.{HoldsRows, ImageInputs, IsInfo, IsLaid, scene_of}
use Rattle.image_make.specs.Parts.{info_section}
use Rattle.image_laws.specs.Means.{AreRising, Imaged}
use Rattle.image_laws.specs.Unwinding.{TellsUnwinding}
use Rattle.image_laws.proofs.InfoPlace.{info_is, info_there}
use Rattle.image_laws.proofs.OwnBytes.{info_in_memory}

-- ---- the bytes

holds_rows : (scene : Scene) (unwinds : List KeptUnwind) (info : List ℕ) → unwinds ≢ [] → IsInfo scene unwinds info → HoldsRows scene unwinds info
holds_rows scene [] info some is = absurd (some refl)
holds_rows scene (entry ∷ more) info some is = is

no_bytes : (scene : Scene) (unwinds : List KeptUnwind) (info : List ℕ) → unwinds ≡ [] → IsInfo scene unwinds info → info ≡ []
no_bytes scene [] info none is = is
no_bytes scene (entry ∷ more) info none is = absurd cc

longer : (front rest : List ℕ) → length front ≡ 28 → 28 ≤ length (front ++ rest)
longer front rest long = omega (arith, long, length-append front rest)

at_least : (slots : List ℕ) (lsdas : List UnwindLsdaEntry) (end : ℕ) (pages : List (List RegularPageEntry)) → 28 ≤ length (section_bytes slots lsdas end pages)
unfolding section_bytes number_bytes
at_least slots lsdas end pages = longer (unwind_info_header_bytes (info_header (length slots) (length pages))) _ (length-info_header (info_header (length slots) (length pages)))

section_some : (rows : List UnwindRow) (info : List ℕ) → IsSection rows info → info ≢ []
section_some rows info is none =
    let some : 28 ≤ length info = subst (λ (bytes : List ℕ). 28 ≤ length bytes) (sym is.spelled) (at_least _ _ _ is.pages) in
    let empty : length info ≡ 0 = ap length none in
    omega (arith, some, empty)

-- ---- the rows

is_empty : {X : Type 0} (xs : List X) → length xs ≡ 0 → xs ≡ []
is_empty [] e = refl
is_empty (x ∷ xs) e = absurd (omega (arith, e))

rows_some : (s : Scene) (kept : List KeptUnwind) (rows : List UnwindRow) → kept ≢ [] → AreRows s kept rows → rows ≢ []
rows_some s kept rows some are none =
    let long : length rows ≡ length (map (row_of s) kept) = length_permutation (map (row_of s) kept) rows are.each in
    let empty : length rows ≡ 0 = ap length none in
    some (is_empty kept (omega (arith, long, empty, length-map kept (row_of s))))

rows_fields : (s : Scene) (kept : List KeptUnwind) (rows : List UnwindRow) → AreSpread s kept → AreRows s kept rows → AllByRecursion AreFields rows
rows_fields s kept rows spread are =
    let each : AllByRecursion AreFields (map (row_of s) kept) = all_map (row_of s) AreFields kept (recursion_from_All (λ (one : KeptUnwind). AreFields (row_of s one)) kept spread.fields) in
    recursion_from_All AreFields rows (All-permutation AreFields (map (row_of s) kept) rows are.each (All-from_recursion AreFields (map (row_of s) kept) each))

-- ---- the section

info_small : (m : ImageInputs) (layout : Layout) (placed : PlacedSection) → IsLaid m layout → info_section layout.sections ≡ Some placed → length m.info < 2 ^ 32
info_small m layout placed laid e =
    let is = info_is m layout placed laid e in
    let small = laid.small in
    omega (arith, is.begins, is.ends, is.sized, small)

-- what it tells where its rows are spread, and few personalities are theirs
pub spread_tells : (m : ImageInputs) (image : List ℕ) (of : Imaged m image) → AreRising m → m.unwinds ≢ [] → AreSpread (scene_of m of.layout) m.unwinds → ((rows : List UnwindRow) → AreRows (scene_of m of.layout) m.unwinds rows → length (personalities rows) ≤ 3) → TellsUnwinding m of.layout image
spread_tells m image of rising some spread few =
    let laid : IsLaid m of.layout = of.is_image.laid in
    let scene : Scene = scene_of m of.layout in
    let holds : HoldsRows scene m.unwinds m.info = holds_rows scene m.unwinds m.info some laid.unwinds in
    let rows : List UnwindRow = holds.rows in
    let stands = info_there m of.layout laid (section_some rows m.info holds.section) in
    let there = rows_some scene m.unwinds rows some holds.are_rows in
    let fields = rows_fields scene m.unwinds rows spread holds.are_rows in
    let slots = few rows holds.are_rows in
    let small = info_small m of.layout stands.0 laid stands.1 in
    record {
      section = stands.0;
      is = stands.1;
      sized = (info_is m of.layout stands.0 laid stands.1).sized;
      there = info_in_memory m image of stands.0 rising stands.1;
      rows = rows;
      are_rows = holds.are_rows;
      few = slots;
      finds = found_each rows m.info there holds.section slots fields holds.apart small;
      no_other = found_no_other rows m.info there holds.section slots fields holds.apart small;
      names = named_each rows m.info holds.section slots fields;
    }

-- there is none without entries
pub none_told : (m : ImageInputs) (layout : Layout) → IsLaid m layout → m.unwinds ≡ [] → info_section layout.sections ≡ None
none_told m layout laid none = by (info_section layout.sections) refl
  where
    by : (o : Option PlacedSection) → info_section layout.sections ≡ o → o ≡ None
    by None e = refl
    by (Some placed) e =
        absurd ((info_is m layout placed laid e).some (no_bytes (scene_of m layout) m.unwinds m.info none laid.unwinds))
