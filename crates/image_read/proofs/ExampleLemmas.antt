-- What the fields of the small image tell, by computation, and with it each row of the table.
use Rattle.std.proofs.Common.{◌≡◌, ℕ, true, false, pos, negsuc, codes, Some, None, inl, inr, refl}
use Rattle.arm64_insn.specs.Branch.{branch_of}
use Rattle.arm64_insn.specs.Field.{field_at, sign_extended, twos_complement, with_field}
use Rattle.arm64_insn.specs.Low12.{imm12_scale, low12_of}
use Rattle.arm64_insn.specs.Page.{immhi_immlo, page_of, with_immhi_immlo}
use Rattle.memchr.specs.Find.{first_of, places_from}
use Rattle.mo_bytes.specs.Number.{number, number_bytes}
use Rattle.mo_format.specs.Fields.{name_at}
use Rattle.mo_strings.specs.Strings.{first_nul, string_at}
use Rattle.mo_types.specs.declared.goal.Goal.TheVariants.{Def, WeakSelf, Header, Import, Flat}
use Rattle.mo_types.specs.declared.key.AtomKey.{AtomKey}
use Rattle.mo_types.specs.declared.reference.RefKind.TheVariants.{Pointer, Diff32, Diff64, Branch, Page, PageOff, GotPage, GotPageOff, GotDelta, GotPointer, TlvPage, TlvPageOff}
use Rattle.image_read.specs.Commands.{cmd, cmdsize, commands_of, fits, ncmds, sizeofcmds}
use Rattle.image_read.specs.Denotes.{DenotesBy, Places}
use Rattle.image_read.specs.Example.{example, imported}
use Rattle.image_read.specs.Fixups.{short_at, word_at, long_at, fixup_at, fixup_of, fixup_read, header_read, holding_from, holding_of, held_on, chain_from, import_at, page_start, starts_of}
use Rattle.image_read.specs.Held.{AtomMap, Held, in_atom}
use Rattle.image_read.specs.Imports.{fixups_at, fixups_command, header_of, import_name}
use Rattle.image_read.specs.Mapped.{holder, holder_at, mapped}
use Rattle.image_read.specs.Meaning.{base_of, denote, text_at, text_of}
use Rattle.image_read.specs.Reaches.{ADD_X16, LDR_X16, IsByWay}
use Rattle.image_read.specs.declared.fixups.FixupRead.TheVariants.{Bind, Plain, Rebase}
use Rattle.image_read.specs.declared.meaning.Meaning.TheVariants.{Address, Imported, Difference, Low12}

base_is : base_of example ≡ Some 0x4000
unfolding example number_bytes number cmd cmdsize fits ncmds sizeofcmds commands_of name_at text_at text_of base_of
base_is = refl

bind_40b0 : fixup_at example 0x40b0 ≡ Bind 0 (pos 1) (pos 0) false
unfolding example number_bytes number cmd cmdsize fits ncmds sizeofcmds commands_of holder holder_at mapped short_at word_at long_at fixup_at fixup_of fixup_read header_read holding_from holding_of held_on chain_from import_at page_start starts_of fixups_at fixups_command
bind_40b0 = refl

pointer_40b0 : denote example 0x40b0 Pointer ≡ Imported 0 (pos 0)
unfolding example number_bytes number cmd cmdsize fits ncmds sizeofcmds commands_of holder holder_at mapped short_at word_at long_at fixup_at fixup_of fixup_read header_read holding_from holding_of held_on chain_from import_at page_start starts_of fixups_at fixups_command denote
pointer_40b0 = refl

bind_40c8 : fixup_at example 0x40c8 ≡ Bind 1 (negsuc 1) (pos 5) false
unfolding example number_bytes number cmd cmdsize fits ncmds sizeofcmds commands_of holder holder_at mapped short_at word_at long_at fixup_at fixup_of fixup_read header_read holding_from holding_of held_on chain_from import_at page_start starts_of fixups_at fixups_command
bind_40c8 = refl

pointer_40c8 : denote example 0x40c8 Pointer ≡ Imported 1 (pos 5)
unfolding example number_bytes number cmd cmdsize fits ncmds sizeofcmds commands_of holder holder_at mapped short_at word_at long_at fixup_at fixup_of fixup_read header_read holding_from holding_of held_on chain_from import_at page_start starts_of fixups_at fixups_command denote
pointer_40c8 = refl

bind_40d0 : fixup_at example 0x40d0 ≡ Bind 2 (negsuc 2) (pos 0) false
unfolding example number_bytes number cmd cmdsize fits ncmds sizeofcmds commands_of holder holder_at mapped short_at word_at long_at fixup_at fixup_of fixup_read header_read holding_from holding_of held_on chain_from import_at page_start starts_of fixups_at fixups_command
bind_40d0 = refl

pointer_40d0 : denote example 0x40d0 Pointer ≡ Imported 2 (pos 0)
unfolding example number_bytes number cmd cmdsize fits ncmds sizeofcmds commands_of holder holder_at mapped short_at word_at long_at fixup_at fixup_of fixup_read header_read holding_from holding_of held_on chain_from import_at page_start starts_of fixups_at fixups_command denote
pointer_40d0 = refl

name_0 : import_name example 0 ≡ Some (codes "_f")
unfolding example number_bytes number cmd cmdsize fits ncmds sizeofcmds commands_of fixups_at fixups_command first_nul header_of import_name string_at first_of places_from
name_0 = refl

name_1 : import_name example 1 ≡ Some (codes "_g")
unfolding example number_bytes number cmd cmdsize fits ncmds sizeofcmds commands_of fixups_at fixups_command first_nul header_of import_name string_at first_of places_from
name_1 = refl

name_2 : import_name example 2 ≡ Some (codes "_h")
unfolding example number_bytes number cmd cmdsize fits ncmds sizeofcmds commands_of fixups_at fixups_command first_nul header_of import_name string_at first_of places_from
name_2 = refl

rebase_40b8 : fixup_at example 0x40b8 ≡ Rebase 0x84
unfolding example number_bytes number cmd cmdsize fits ncmds sizeofcmds commands_of holder holder_at mapped short_at word_at long_at fixup_at fixup_of fixup_read header_read holding_from holding_of held_on chain_from import_at page_start starts_of fixups_at fixups_command
rebase_40b8 = refl

rebase_40c0 : fixup_at example 0x40c0 ≡ Rebase 0xb0
unfolding example number_bytes number cmd cmdsize fits ncmds sizeofcmds commands_of holder holder_at mapped short_at word_at long_at fixup_at fixup_of fixup_read header_read holding_from holding_of held_on chain_from import_at page_start starts_of fixups_at fixups_command
rebase_40c0 = refl

pointer_40b8 : denote example 0x40b8 Pointer ≡ Address 0x4084
unfolding example number_bytes number cmd cmdsize fits ncmds sizeofcmds commands_of holder holder_at mapped short_at word_at long_at fixup_at fixup_of fixup_read header_read holding_from holding_of held_on chain_from import_at page_start starts_of fixups_at fixups_command denote name_at text_at text_of base_of
pointer_40b8 = refl

slot_pointer : denote example 0x40c0 GotPointer ≡ Address 0x40b0
unfolding example number_bytes number cmd cmdsize fits ncmds sizeofcmds commands_of holder holder_at mapped short_at word_at long_at fixup_at fixup_of fixup_read header_read holding_from holding_of held_on chain_from import_at page_start starts_of fixups_at fixups_command denote name_at text_at text_of base_of
slot_pointer = refl

plain_40e0 : fixup_at example 0x40e0 ≡ Plain
unfolding example number_bytes number cmd cmdsize fits ncmds sizeofcmds commands_of holder holder_at mapped short_at word_at long_at fixup_at fixup_of fixup_read header_read holding_from holding_of held_on chain_from import_at page_start starts_of fixups_at fixups_command
plain_40e0 = refl

pointer_40e0 : denote example 0x40e0 Pointer ≡ Difference (pos 0x18)
unfolding example number_bytes number cmd cmdsize fits ncmds sizeofcmds commands_of holder holder_at mapped short_at word_at long_at fixup_at fixup_of fixup_read header_read holding_from holding_of held_on chain_from import_at page_start starts_of fixups_at fixups_command denote
pointer_40e0 = refl

distance_32 : denote example 0x40ac Diff32 ≡ Difference (negsuc 3)
unfolding example number_bytes number cmd cmdsize fits ncmds sizeofcmds commands_of holder holder_at mapped short_at word_at denote
distance_32 = refl

distance_64 : denote example 0x40d8 Diff64 ≡ Difference (negsuc 0x33)
unfolding example number_bytes number cmd cmdsize fits ncmds sizeofcmds commands_of holder holder_at mapped short_at word_at long_at denote
distance_64 = refl

branch_4078 : denote example 0x4078 Branch ≡ Address 0x4084
unfolding example number_bytes number cmd cmdsize fits ncmds sizeofcmds commands_of holder holder_at mapped short_at word_at denote branch_of field_at sign_extended with_field imm12_scale low12_of immhi_immlo page_of with_immhi_immlo
branch_4078 = refl

branch_407c : denote example 0x407c Branch ≡ Address 0x40a0
unfolding example number_bytes number cmd cmdsize fits ncmds sizeofcmds commands_of holder holder_at mapped short_at word_at denote branch_of field_at sign_extended with_field imm12_scale low12_of immhi_immlo page_of with_immhi_immlo
branch_407c = refl

branch_4080 : denote example 0x4080 Branch ≡ Address 0x4094
unfolding example number_bytes number cmd cmdsize fits ncmds sizeofcmds commands_of holder holder_at mapped short_at word_at denote branch_of field_at sign_extended with_field imm12_scale low12_of immhi_immlo page_of with_immhi_immlo
branch_4080 = refl

Page_4084 : denote example 0x4084 Page ≡ Address 0x4000
unfolding example number_bytes number cmd cmdsize fits ncmds sizeofcmds commands_of holder holder_at mapped short_at word_at denote branch_of field_at sign_extended with_field imm12_scale low12_of immhi_immlo page_of with_immhi_immlo
Page_4084 = refl

GotPage_408c : denote example 0x408c GotPage ≡ Address 0x4000
unfolding example number_bytes number cmd cmdsize fits ncmds sizeofcmds commands_of holder holder_at mapped short_at word_at denote branch_of field_at sign_extended with_field imm12_scale low12_of immhi_immlo page_of with_immhi_immlo
GotPage_408c = refl

TlvPage_408c : denote example 0x408c TlvPage ≡ Address 0x4000
unfolding example number_bytes number cmd cmdsize fits ncmds sizeofcmds commands_of holder holder_at mapped short_at word_at denote branch_of field_at sign_extended with_field imm12_scale low12_of immhi_immlo page_of with_immhi_immlo
TlvPage_408c = refl

Page_4094 : denote example 0x4094 Page ≡ Address 0x4000
unfolding example number_bytes number cmd cmdsize fits ncmds sizeofcmds commands_of holder holder_at mapped short_at word_at denote branch_of field_at sign_extended with_field imm12_scale low12_of immhi_immlo page_of with_immhi_immlo
Page_4094 = refl

Page_40a0 : denote example 0x40a0 Page ≡ Address 0x4000
unfolding example number_bytes number cmd cmdsize fits ncmds sizeofcmds commands_of holder holder_at mapped short_at word_at denote branch_of field_at sign_extended with_field imm12_scale low12_of immhi_immlo page_of with_immhi_immlo
Page_40a0 = refl

PageOff_4088 : denote example 0x4088 PageOff ≡ Low12 0xb8
unfolding example number_bytes number cmd cmdsize fits ncmds sizeofcmds commands_of holder holder_at mapped short_at word_at denote branch_of field_at sign_extended with_field imm12_scale low12_of immhi_immlo page_of with_immhi_immlo
PageOff_4088 = refl

GotPageOff_4090 : denote example 0x4090 GotPageOff ≡ Low12 0xb0
unfolding example number_bytes number cmd cmdsize fits ncmds sizeofcmds commands_of holder holder_at mapped short_at word_at denote branch_of field_at sign_extended with_field imm12_scale low12_of immhi_immlo page_of with_immhi_immlo
GotPageOff_4090 = refl

TlvPageOff_4090 : denote example 0x4090 TlvPageOff ≡ Low12 0xb0
unfolding example number_bytes number cmd cmdsize fits ncmds sizeofcmds commands_of holder holder_at mapped short_at word_at denote branch_of field_at sign_extended with_field imm12_scale low12_of immhi_immlo page_of with_immhi_immlo
TlvPageOff_4090 = refl

PageOff_4098 : denote example 0x4098 PageOff ≡ Low12 0x84
unfolding example number_bytes number cmd cmdsize fits ncmds sizeofcmds commands_of holder holder_at mapped short_at word_at denote branch_of field_at sign_extended with_field imm12_scale low12_of immhi_immlo page_of with_immhi_immlo
PageOff_4098 = refl

PageOff_40a4 : denote example 0x40a4 PageOff ≡ Low12 0xb0
unfolding example number_bytes number cmd cmdsize fits ncmds sizeofcmds commands_of holder holder_at mapped short_at word_at denote branch_of field_at sign_extended with_field imm12_scale low12_of immhi_immlo page_of with_immhi_immlo
PageOff_40a4 = refl

slot_distance : denote example 0x40e8 GotDelta ≡ Address 0x40b0
unfolding example number_bytes number cmd cmdsize fits ncmds sizeofcmds commands_of holder holder_at mapped short_at word_at denote
slot_distance = refl

way_4094 : IsByWay example ADD_X16 0x4094 0x4084
unfolding example number_bytes number cmd cmdsize fits ncmds sizeofcmds commands_of holder holder_at mapped short_at word_at with_field with_immhi_immlo
way_4094 = record {
  page = 0x4000;
  low = 0x84;
  adrp = refl;
  on_page = Page_4094;
  with_low = refl;
  at_low = PageOff_4098;
  br = refl;
  sum = refl;
}

way_40a0 : IsByWay example LDR_X16 0x40a0 0x40b0
unfolding example number_bytes number cmd cmdsize fits ncmds sizeofcmds commands_of holder holder_at mapped short_at word_at with_field with_immhi_immlo
way_40a0 = record {
  page = 0x4000;
  low = 0xb0;
  adrp = refl;
  on_page = Page_40a0;
  with_low = refl;
  at_low = PageOff_40a4;
  br = refl;
  sum = refl;
}

held_f : (addresses : AtomMap) → Held example addresses (fixup_at example 0x40b0) imported (pos 0)
held_f addresses = record { import = 0; bind = bind_40b0; named = name_0 }

pub branch : (places : Places) (key : AtomKey) (offset : ℕ) → in_atom places.addresses key offset ≡ Some 0x4084 → DenotesBy Branch example places 0x4078 0 (Def key offset) (pos 0) None
branch places key offset is = record { to = 0x4084; told = branch_4078; reaches = inl (rw is refl) }

pub branch_by_island : (places : Places) (key : AtomKey) (offset : ℕ) → in_atom places.addresses key offset ≡ Some 0x4084 → DenotesBy Branch example places 0x4080 0 (Def key offset) (pos 0) None
branch_by_island places key offset is = record { to = 0x4094; told = branch_4080; reaches = inr (record { end = 0x4084; way = way_4094; stops = rw is refl }) }

pub branch_by_stub : (places : Places) → DenotesBy Branch example places 0x407c 0 imported (pos 0) None
branch_by_stub places = record { to = 0x40a0; told = branch_407c; reaches = inl (record { slot = 0x40b0; way = way_40a0; held = held_f places.addresses }) }

pub page : (places : Places) (key : AtomKey) (offset : ℕ) → in_atom places.addresses key offset ≡ Some 0x40b0 → DenotesBy Page example places 0x4084 0 (Def key offset) (pos 8) None
page places key offset is = record { target = 0x40b8; stands = rw is refl; told = Page_4084 }

pub page_offset : (places : Places) (key : AtomKey) (offset : ℕ) → in_atom places.addresses key offset ≡ Some 0x40b0 → DenotesBy PageOff example places 0x4088 0 (WeakSelf (codes "_h") key offset) (pos 8) None
unfolding twos_complement
page_offset places key offset is = record { target = pos 0x40b8; stands = rw is refl; told = PageOff_4088 }

pub page_offset_below_zero : (places : Places) (key : AtomKey) (offset : ℕ) → in_atom places.addresses key offset ≡ Some 0x40b0 → DenotesBy PageOff example places 0x4088 0 (Def key offset) (negsuc 0x4ff7) None
unfolding twos_complement
page_offset_below_zero places key offset is = record { target = negsuc 0xf47; stands = rw is refl; told = PageOff_4088 }

pub slot_page : (places : Places) → DenotesBy GotPage example places 0x408c 0 imported (pos 0) None
slot_page places = record { slot = 0x40b0; held = held_f places.addresses; told = GotPage_408c }

pub variable_page : (places : Places) → DenotesBy TlvPage example places 0x408c 0 imported (pos 0) None
variable_page places = record { slot = 0x40b0; held = held_f places.addresses; told = TlvPage_408c }

pub slot_offset : (places : Places) → DenotesBy GotPageOff example places 0x4090 0 imported (pos 0) None
slot_offset places = record { slot = 0x40b0; held = held_f places.addresses; told = GotPageOff_4090 }

pub variable_offset : (places : Places) → DenotesBy TlvPageOff example places 0x4090 0 imported (pos 0) None
variable_offset places = record { slot = 0x40b0; held = held_f places.addresses; told = TlvPageOff_4090 }

pub slot_delta : (places : Places) → DenotesBy GotDelta example places 0x40e8 0 imported (pos 0) None
slot_delta places = record { slot = 0x40b0; held = held_f places.addresses; told = slot_distance }

pub slot_address : (places : Places) → DenotesBy GotPointer example places 0x40c0 0 imported (pos 0) None
slot_address places = record { slot = 0x40b0; held = held_f places.addresses; told = slot_pointer }

pub difference : (places : Places) (key : AtomKey) (offset : ℕ) → in_atom places.addresses key offset ≡ Some 0x4084 → DenotesBy Diff32 example places 0x40ac 0 Header (pos 0x80) (Some (Def key offset))
difference places key offset is = record { distance = negsuc 3; stands = rw (base_is, is) refl; told = distance_32 }

pub long_difference : (places : Places) (key : AtomKey) (offset : ℕ) → in_atom places.addresses key offset ≡ Some 0x40b8 → DenotesBy Diff64 example places 0x40d8 0 Header (pos 0x84) (Some (Def key offset))
unfolding twos_complement
long_difference places key offset is = record { distance = negsuc 0x33; stands = rw (base_is, is) refl; told = distance_64 }

pub pointer : (places : Places) (key : AtomKey) (offset : ℕ) → in_atom places.addresses key offset ≡ Some 0x4080 → DenotesBy Pointer example places 0x40b8 0 (Def key offset) (pos 4) None
pointer places key offset is = record { tells = record { target = 0x4084; stands = rw is refl; told = pointer_40b8 }; held = record { base = 0x4000; offset = 0x84; rebase = rebase_40b8; begins = base_is; leads = rw is refl } }

pub pointer_to_header : (places : Places) → DenotesBy Pointer example places 0x40b8 0 Header (pos 0x84) None
pointer_to_header places = record { tells = record { target = 0x4084; stands = rw base_is refl; told = pointer_40b8 }; held = record { base = 0x4000; offset = 0x84; rebase = rebase_40b8; begins = base_is; leads = rw base_is refl } }

pub pointer_to_import : (places : Places) → DenotesBy Pointer example places 0x40b0 0 imported (pos 0) None
pointer_to_import places = record { import = 0; told = pointer_40b0; held = held_f places.addresses }

pub pointer_by_flat_lookup : (places : Places) → DenotesBy Pointer example places 0x40c8 0 (Flat (codes "_g")) (pos 5) None
pointer_by_flat_lookup places = record { import = 1; told = pointer_40c8; held = record { import = 1; bind = bind_40c8; named = name_1 } }

pub pointer_by_weak_lookup : (places : Places) → DenotesBy Pointer example places 0x40d0 0 (Import (codes "_h") 1 true false) (pos 0) None
pointer_by_weak_lookup places = record { import = 2; told = pointer_40d0; held = record { import = 2; bind = bind_40d0; named = name_2 } }

pub pointer_to_own_weak : (places : Places) (key : AtomKey) (offset : ℕ) → in_atom places.addresses key offset ≡ Some 0x4084 → DenotesBy Pointer example places 0x40d0 0 (WeakSelf (codes "_h") key offset) (pos 0) None
pointer_to_own_weak places key offset is = record { import = 2; told = pointer_40d0; held = record { import = 2; bind = bind_40d0; named = name_2 } }

pub offset_in_template : (places : Places) (key : AtomKey) (offset : ℕ) → in_atom places.offsets key offset ≡ Some 0x10 → DenotesBy Pointer example places 0x40e0 0x13 (Def key offset) (pos 8) None
unfolding twos_complement
offset_in_template places key offset is = rw is (record { told = pointer_40e0; plain = plain_40e0 })

pub ruleset rows = (branch, branch_by_island, branch_by_stub, page, page_offset, page_offset_below_zero, slot_page, variable_page, slot_offset, variable_offset, slot_delta, slot_address, difference, long_difference, pointer, pointer_to_header, pointer_to_import, pointer_by_flat_lookup, pointer_by_weak_lookup, pointer_to_own_weak, offset_in_template)
