-- Where the parts of `__LINKEDIT` stand.
use Rattle.std.specs.Prelude.{ℕ, ◌+◌, List, [], ◌∷◌}
use Rattle.mo_bytes.specs.Number.{number}
use Rattle.mo_format.specs.Fields.{Field, Number, spelled}
use Rattle.mo_format.specs.declared.linkedit.LinkeditDataCommand.{LinkeditDataCommand}
use Rattle.mo_format.specs.declared.linkedit.DysymtabCommand.{DysymtabCommand}

-- loader.h: linkedit_data_command, 16 bytes
abbrev pub linkedit_data_command_at : List ℕ → ℕ → LinkeditDataCommand
linkedit_data_command_at bytes at = record {
  cmd = number 4 bytes at;
  cmdsize = number 4 bytes (at + 4);
  dataoff = number 4 bytes (at + 8);
  datasize = number 4 bytes (at + 12);
}

abbrev pub linkedit_data_command_fields : LinkeditDataCommand → List Field
linkedit_data_command_fields s =
    Number 4 s.cmd
    ∷ Number 4 s.cmdsize
    ∷ Number 4 s.dataoff
    ∷ Number 4 s.datasize
    ∷ []

abbrev pub linkedit_data_command_bytes : LinkeditDataCommand → List ℕ
linkedit_data_command_bytes s = spelled (linkedit_data_command_fields s)

-- loader.h: dysymtab_command, 80 bytes
abbrev pub dysymtab_command_at : List ℕ → ℕ → DysymtabCommand
dysymtab_command_at bytes at = record {
  cmd = number 4 bytes at;
  cmdsize = number 4 bytes (at + 4);
  ilocalsym = number 4 bytes (at + 8);
  nlocalsym = number 4 bytes (at + 12);
  iextdefsym = number 4 bytes (at + 16);
  nextdefsym = number 4 bytes (at + 20);
  iundefsym = number 4 bytes (at + 24);
  nundefsym = number 4 bytes (at + 28);
  tocoff = number 4 bytes (at + 32);
  ntoc = number 4 bytes (at + 36);
  modtaboff = number 4 bytes (at + 40);
  nmodtab = number 4 bytes (at + 44);
  extrefsymoff = number 4 bytes (at + 48);
  nextrefsyms = number 4 bytes (at + 52);
  indirectsymoff = number 4 bytes (at + 56);
  nindirectsyms = number 4 bytes (at + 60);
  extreloff = number 4 bytes (at + 64);
  nextrel = number 4 bytes (at + 68);
  locreloff = number 4 bytes (at + 72);
  nlocrel = number 4 bytes (at + 76);
}

abbrev pub dysymtab_command_fields : DysymtabCommand → List Field
dysymtab_command_fields s =
    Number 4 s.cmd
    ∷ Number 4 s.cmdsize
    ∷ Number 4 s.ilocalsym
    ∷ Number 4 s.nlocalsym
    ∷ Number 4 s.iextdefsym
    ∷ Number 4 s.nextdefsym
    ∷ Number 4 s.iundefsym
    ∷ Number 4 s.nundefsym
    ∷ Number 4 s.tocoff
    ∷ Number 4 s.ntoc
    ∷ Number 4 s.modtaboff
    ∷ Number 4 s.nmodtab
    ∷ Number 4 s.extrefsymoff
    ∷ Number 4 s.nextrefsyms
    ∷ Number 4 s.indirectsymoff
    ∷ Number 4 s.nindirectsyms
    ∷ Number 4 s.extreloff
    ∷ Number 4 s.nextrel
    ∷ Number 4 s.locreloff
    ∷ Number 4 s.nlocrel
    ∷ []

abbrev pub dysymtab_command_bytes : DysymtabCommand → List ℕ
dysymtab_command_bytes s = spelled (dysymtab_command_fields s)
