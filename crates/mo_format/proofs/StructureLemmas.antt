-- Each structure is read from its bytes.
use Rattle.std.proofs.Common.{◌≡◌, ℕ, List, [], ◌++◌, length, refl, append_assoc, add-zero}
use Rattle.mo_bytes.specs.Number.{number}
use Rattle.mo_format.specs.Fields.{name_at}
use Rattle.mo_format.specs.Header.{mach_header_at, mach_header_fields, mach_header_bytes}
use Rattle.mo_format.specs.declared.header.MachHeader.{MachHeader}
use Rattle.mo_format.specs.Segment.{segment_command_at, segment_command_fields, segment_command_bytes, section_header_at, section_header_fields, section_header_bytes}
use Rattle.mo_format.specs.declared.segment.SegmentCommand.{SegmentCommand}
use Rattle.mo_format.specs.declared.segment.SectionHeader.{SectionHeader}
use Rattle.mo_format.specs.Symbol.{symtab_command_at, symtab_command_fields, symtab_command_bytes, nlist_at, nlist_fields, nlist_bytes}
use Rattle.mo_format.specs.declared.symbol.SymtabCommand.{SymtabCommand}
use Rattle.mo_format.specs.declared.symbol.Nlist.{Nlist}
use Rattle.mo_format.specs.Command.{dylinker_command_at, dylinker_command_fields, dylinker_command_bytes, build_version_command_at, build_version_command_fields, build_version_command_bytes, entry_point_command_at, entry_point_command_fields, entry_point_command_bytes, uuid_command_at, uuid_command_fields, uuid_command_bytes}
use Rattle.mo_format.specs.declared.command.DylinkerCommand.{DylinkerCommand}
use Rattle.mo_format.specs.declared.command.BuildVersionCommand.{BuildVersionCommand}
use Rattle.mo_format.specs.declared.command.EntryPointCommand.{EntryPointCommand}
use Rattle.mo_format.specs.declared.command.UuidCommand.{UuidCommand}
use Rattle.mo_format.specs.Dylib.{dylib_command_at, dylib_command_fields, dylib_command_bytes, rpath_command_at, rpath_command_fields, rpath_command_bytes}
use Rattle.mo_format.specs.declared.dylib.DylibCommand.{DylibCommand}
use Rattle.mo_format.specs.declared.dylib.RpathCommand.{RpathCommand}
use Rattle.mo_format.specs.Linkedit.{linkedit_data_command_at, linkedit_data_command_fields, linkedit_data_command_bytes, dysymtab_command_at, dysymtab_command_fields, dysymtab_command_bytes}
use Rattle.mo_format.specs.declared.linkedit.LinkeditDataCommand.{LinkeditDataCommand}
use Rattle.mo_format.specs.declared.linkedit.DysymtabCommand.{DysymtabCommand}
use Rattle.mo_format.proofs.FieldLemmas.{AreFit, AllRead, all_read}

pub mach_header_read : (s : MachHeader) (front rest : List ℕ) → AreFit (mach_header_fields s) → mach_header_at ((front ++ mach_header_bytes s) ++ rest) (length front) ≡ s
mach_header_read s front rest fit =
    let read : AllRead (front ++ (mach_header_bytes s ++ rest)) (length front) 0 (mach_header_fields s) = all_read (mach_header_fields s) 0 front [] rest fit refl in
    let first : number 4 (front ++ (mach_header_bytes s ++ rest)) (length front) ≡ s.magic = rw add-zero at read.0 in
    let same : mach_header_at (front ++ (mach_header_bytes s ++ rest)) (length front) ≡ record { magic = s.magic; cputype = s.cputype; cpusubtype = s.cpusubtype; filetype = s.filetype; ncmds = s.ncmds; sizeofcmds = s.sizeofcmds; flags = s.flags; reserved = s.reserved } = cc in
    rw append_assoc same

pub segment_command_read : (s : SegmentCommand) (front rest : List ℕ) → AreFit (segment_command_fields s) → segment_command_at ((front ++ segment_command_bytes s) ++ rest) (length front) ≡ s
segment_command_read s front rest fit =
    let read : AllRead (front ++ (segment_command_bytes s ++ rest)) (length front) 0 (segment_command_fields s) = all_read (segment_command_fields s) 0 front [] rest fit refl in
    let first : number 4 (front ++ (segment_command_bytes s ++ rest)) (length front) ≡ s.cmd = rw add-zero at read.0 in
    let same : segment_command_at (front ++ (segment_command_bytes s ++ rest)) (length front) ≡ record { cmd = s.cmd; cmdsize = s.cmdsize; segname = s.segname; vmaddr = s.vmaddr; vmsize = s.vmsize; fileoff = s.fileoff; filesize = s.filesize; maxprot = s.maxprot; initprot = s.initprot; nsects = s.nsects; flags = s.flags } = cc in
    rw append_assoc same

pub section_header_read : (s : SectionHeader) (front rest : List ℕ) → AreFit (section_header_fields s) → section_header_at ((front ++ section_header_bytes s) ++ rest) (length front) ≡ s
section_header_read s front rest fit =
    let read : AllRead (front ++ (section_header_bytes s ++ rest)) (length front) 0 (section_header_fields s) = all_read (section_header_fields s) 0 front [] rest fit refl in
    let first : name_at (front ++ (section_header_bytes s ++ rest)) (length front) ≡ s.sectname = rw add-zero at read.0 in
    let same : section_header_at (front ++ (section_header_bytes s ++ rest)) (length front) ≡ record { sectname = s.sectname; segname = s.segname; addr = s.addr; size = s.size; offset = s.offset; align = s.align; reloff = s.reloff; nreloc = s.nreloc; flags = s.flags; reserved1 = s.reserved1; reserved2 = s.reserved2; reserved3 = s.reserved3 } = cc in
    rw append_assoc same

pub symtab_command_read : (s : SymtabCommand) (front rest : List ℕ) → AreFit (symtab_command_fields s) → symtab_command_at ((front ++ symtab_command_bytes s) ++ rest) (length front) ≡ s
symtab_command_read s front rest fit =
    let read : AllRead (front ++ (symtab_command_bytes s ++ rest)) (length front) 0 (symtab_command_fields s) = all_read (symtab_command_fields s) 0 front [] rest fit refl in
    let first : number 4 (front ++ (symtab_command_bytes s ++ rest)) (length front) ≡ s.cmd = rw add-zero at read.0 in
    let same : symtab_command_at (front ++ (symtab_command_bytes s ++ rest)) (length front) ≡ record { cmd = s.cmd; cmdsize = s.cmdsize; symoff = s.symoff; nsyms = s.nsyms; stroff = s.stroff; strsize = s.strsize } = cc in
    rw append_assoc same

pub nlist_read : (s : Nlist) (front rest : List ℕ) → AreFit (nlist_fields s) → nlist_at ((front ++ nlist_bytes s) ++ rest) (length front) ≡ s
nlist_read s front rest fit =
    let read : AllRead (front ++ (nlist_bytes s ++ rest)) (length front) 0 (nlist_fields s) = all_read (nlist_fields s) 0 front [] rest fit refl in
    let first : number 4 (front ++ (nlist_bytes s ++ rest)) (length front) ≡ s.n_strx = rw add-zero at read.0 in
    let same : nlist_at (front ++ (nlist_bytes s ++ rest)) (length front) ≡ record { n_strx = s.n_strx; n_type = s.n_type; n_sect = s.n_sect; n_desc = s.n_desc; n_value = s.n_value } = cc in
    rw append_assoc same

pub dylinker_command_read : (s : DylinkerCommand) (front rest : List ℕ) → AreFit (dylinker_command_fields s) → dylinker_command_at ((front ++ dylinker_command_bytes s) ++ rest) (length front) ≡ s
dylinker_command_read s front rest fit =
    let read : AllRead (front ++ (dylinker_command_bytes s ++ rest)) (length front) 0 (dylinker_command_fields s) = all_read (dylinker_command_fields s) 0 front [] rest fit refl in
    let first : number 4 (front ++ (dylinker_command_bytes s ++ rest)) (length front) ≡ s.cmd = rw add-zero at read.0 in
    let same : dylinker_command_at (front ++ (dylinker_command_bytes s ++ rest)) (length front) ≡ record { cmd = s.cmd; cmdsize = s.cmdsize; name = s.name } = cc in
    rw append_assoc same

pub build_version_command_read : (s : BuildVersionCommand) (front rest : List ℕ) → AreFit (build_version_command_fields s) → build_version_command_at ((front ++ build_version_command_bytes s) ++ rest) (length front) ≡ s
build_version_command_read s front rest fit =
    let read : AllRead (front ++ (build_version_command_bytes s ++ rest)) (length front) 0 (build_version_command_fields s) = all_read (build_version_command_fields s) 0 front [] rest fit refl in
    let first : number 4 (front ++ (build_version_command_bytes s ++ rest)) (length front) ≡ s.cmd = rw add-zero at read.0 in
    let same : build_version_command_at (front ++ (build_version_command_bytes s ++ rest)) (length front) ≡ record { cmd = s.cmd; cmdsize = s.cmdsize; platform = s.platform; minos = s.minos; sdk = s.sdk; ntools = s.ntools } = cc in
    rw append_assoc same

pub entry_point_command_read : (s : EntryPointCommand) (front rest : List ℕ) → AreFit (entry_point_command_fields s) → entry_point_command_at ((front ++ entry_point_command_bytes s) ++ rest) (length front) ≡ s
entry_point_command_read s front rest fit =
    let read : AllRead (front ++ (entry_point_command_bytes s ++ rest)) (length front) 0 (entry_point_command_fields s) = all_read (entry_point_command_fields s) 0 front [] rest fit refl in
    let first : number 4 (front ++ (entry_point_command_bytes s ++ rest)) (length front) ≡ s.cmd = rw add-zero at read.0 in
    let same : entry_point_command_at (front ++ (entry_point_command_bytes s ++ rest)) (length front) ≡ record { cmd = s.cmd; cmdsize = s.cmdsize; entryoff = s.entryoff; stacksize = s.stacksize } = cc in
    rw append_assoc same

pub dylib_command_read : (s : DylibCommand) (front rest : List ℕ) → AreFit (dylib_command_fields s) → dylib_command_at ((front ++ dylib_command_bytes s) ++ rest) (length front) ≡ s
dylib_command_read s front rest fit =
    let read : AllRead (front ++ (dylib_command_bytes s ++ rest)) (length front) 0 (dylib_command_fields s) = all_read (dylib_command_fields s) 0 front [] rest fit refl in
    let first : number 4 (front ++ (dylib_command_bytes s ++ rest)) (length front) ≡ s.cmd = rw add-zero at read.0 in
    let same : dylib_command_at (front ++ (dylib_command_bytes s ++ rest)) (length front) ≡ record { cmd = s.cmd; cmdsize = s.cmdsize; name = s.name; timestamp = s.timestamp; current_version = s.current_version; compatibility_version = s.compatibility_version } = cc in
    rw append_assoc same

pub rpath_command_read : (s : RpathCommand) (front rest : List ℕ) → AreFit (rpath_command_fields s) → rpath_command_at ((front ++ rpath_command_bytes s) ++ rest) (length front) ≡ s
rpath_command_read s front rest fit =
    let read : AllRead (front ++ (rpath_command_bytes s ++ rest)) (length front) 0 (rpath_command_fields s) = all_read (rpath_command_fields s) 0 front [] rest fit refl in
    let first : number 4 (front ++ (rpath_command_bytes s ++ rest)) (length front) ≡ s.cmd = rw add-zero at read.0 in
    let same : rpath_command_at (front ++ (rpath_command_bytes s ++ rest)) (length front) ≡ record { cmd = s.cmd; cmdsize = s.cmdsize; path = s.path } = cc in
    rw append_assoc same

pub linkedit_data_command_read : (s : LinkeditDataCommand) (front rest : List ℕ) → AreFit (linkedit_data_command_fields s) → linkedit_data_command_at ((front ++ linkedit_data_command_bytes s) ++ rest) (length front) ≡ s
linkedit_data_command_read s front rest fit =
    let read : AllRead (front ++ (linkedit_data_command_bytes s ++ rest)) (length front) 0 (linkedit_data_command_fields s) = all_read (linkedit_data_command_fields s) 0 front [] rest fit refl in
    let first : number 4 (front ++ (linkedit_data_command_bytes s ++ rest)) (length front) ≡ s.cmd = rw add-zero at read.0 in
    let same : linkedit_data_command_at (front ++ (linkedit_data_command_bytes s ++ rest)) (length front) ≡ record { cmd = s.cmd; cmdsize = s.cmdsize; dataoff = s.dataoff; datasize = s.datasize } = cc in
    rw append_assoc same

pub dysymtab_command_read : (s : DysymtabCommand) (front rest : List ℕ) → AreFit (dysymtab_command_fields s) → dysymtab_command_at ((front ++ dysymtab_command_bytes s) ++ rest) (length front) ≡ s
dysymtab_command_read s front rest fit =
    let read : AllRead (front ++ (dysymtab_command_bytes s ++ rest)) (length front) 0 (dysymtab_command_fields s) = all_read (dysymtab_command_fields s) 0 front [] rest fit refl in
    let first : number 4 (front ++ (dysymtab_command_bytes s ++ rest)) (length front) ≡ s.cmd = rw add-zero at read.0 in
    let same : dysymtab_command_at (front ++ (dysymtab_command_bytes s ++ rest)) (length front) ≡ record { cmd = s.cmd; cmdsize = s.cmdsize; ilocalsym = s.ilocalsym; nlocalsym = s.nlocalsym; iextdefsym = s.iextdefsym; nextdefsym = s.nextdefsym; iundefsym = s.iundefsym; nundefsym = s.nundefsym; tocoff = s.tocoff; ntoc = s.ntoc; modtaboff = s.modtaboff; nmodtab = s.nmodtab; extrefsymoff = s.extrefsymoff; nextrefsyms = s.nextrefsyms; indirectsymoff = s.indirectsymoff; nindirectsyms = s.nindirectsyms; extreloff = s.extreloff; nextrel = s.nextrel; locreloff = s.locreloff; nlocrel = s.nlocrel } = cc in
    rw append_assoc same

pub uuid_command_read : (s : UuidCommand) (front rest : List ℕ) → AreFit (uuid_command_fields s) → uuid_command_at ((front ++ uuid_command_bytes s) ++ rest) (length front) ≡ s
uuid_command_read s front rest fit =
    let read : AllRead (front ++ (uuid_command_bytes s ++ rest)) (length front) 0 (uuid_command_fields s) = all_read (uuid_command_fields s) 0 front [] rest fit refl in
    let first : number 4 (front ++ (uuid_command_bytes s ++ rest)) (length front) ≡ s.cmd = rw add-zero at read.0 in
    let same : uuid_command_at (front ++ (uuid_command_bytes s ++ rest)) (length front) ≡ record { cmd = s.cmd; cmdsize = s.cmdsize; uuid = s.uuid } = cc in
    rw append_assoc same
