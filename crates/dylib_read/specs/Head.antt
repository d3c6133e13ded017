-- What the load commands of a library say of it (`loader.h`: dylib_command, linkedit_data_command,
-- dyld_info_command).
use Rattle.std.specs.Prelude.{ℕ, ◌+◌, ◌==◌, ◌&&◌, ◌||◌, Bool, true, false, nat_lt, List, [], length, filter, map, unwrap_or, Option, Some, None, Result, Ok, Err, if◌then◌else◌}
use Rattle.std.specs.List.{find}
use Rattle.std.specs.Option.{option_map, option_map_or, option_and_then}
use Rattle.std.specs.Str.{is_utf8}
use Rattle.mo_format.specs.declared.loader.TheConstants.{LC_DYLD_EXPORTS_TRIE, LC_ID_DYLIB, LC_REEXPORT_DYLIB}
use Rattle.mo_strings.specs.Strings.{string_at}
use Rattle.mo_types.specs.Gives.{◌>>=◌}
use Rattle.dylib_read.specs.Commands.{command_at, commands_of, field, header_of, kind_at}
use Rattle.dylib_read.specs.Faults.{keeps}
use Rattle.dylib_read.specs.declared.fault.DylibFault.{DylibFault}
use Rattle.dylib_read.specs.declared.fault.DylibFault.TheVariants.{Malformed}
use Rattle.dylib_read.specs.declared.fault.DylibRule.TheVariants.{Dylib}
use Rattle.dylib_read.specs.declared.head.DylibHead.{DylibHead}
use Rattle.dylib_read.specs.declared.head.TrieRange.{TrieRange}
use Rattle.dylib_read.specs.declared.roles.Roles.{Roles}
use Rattle.dylib_read.specs.declared.roles.TrieCommand.{TrieCommand}
use Rattle.dylib_read.specs.declared.roles.TheConstants.{LC_DYLD_INFO, LC_DYLD_INFO_ONLY}

-- ---- the commands that are read

abbrev pub is_kind : List ℕ → ℕ → ℕ → Bool
is_kind bytes kind at = kind_at bytes at == kind

-- an older command, whose last part is that of the exports
abbrev pub is_info : List ℕ → ℕ → Bool
is_info bytes at = is_kind bytes LC_DYLD_INFO_ONLY at || is_kind bytes LC_DYLD_INFO at

abbrev pub first_of_kind : List ℕ → ℕ → List ℕ → Option ℕ
first_of_kind bytes kind commands = find (λ at. is_kind bytes kind at) commands

abbrev pub first_info : List ℕ → List ℕ → Option ℕ
first_info bytes commands = find (λ at. is_info bytes at) commands

-- the command that says where the trie of the exports is: the first LC_DYLD_EXPORTS_TRIE, or else the first older one
abbrev pub trie_command : List ℕ → List ℕ → Option TrieCommand
trie_command bytes commands =
    option_map_or (λ at. Some (record { at = at; info = false }))
    (first_of_kind bytes LC_DYLD_EXPORTS_TRIE commands)
    (option_map (λ at. record { at = at; info = true }) (first_info bytes commands))

-- the first LC_ID_DYLIB, and the command of the trie
unfoldable pub roles_of : List ℕ → List ℕ → Option Roles
roles_of bytes commands =
    option_map (λ at. record { id = at; trie = trie_command bytes commands }) (first_of_kind bytes LC_ID_DYLIB commands)

abbrev pub is_reexport : List ℕ → ℕ → Bool
is_reexport bytes at = is_kind bytes LC_REEXPORT_DYLIB at

-- ---- names

abbrev pub as_text : List ℕ → Option (List ℕ)
as_text name = if is_utf8 name then Some name else None

-- the name that a command has: a text that ends in NUL within the command, from the place on that the command says
unfoldable pub name_of : List ℕ → Option (List ℕ)
name_of command = option_and_then as_text (string_at command (field command 8))

-- ---- faults

-- a command that is too small for what it has to say, or has no name
abbrev pub is_nameless : List ℕ → Bool
is_nameless command = nat_lt (length command) 24 || option_map_or (λ name. false) (name_of command) true

abbrev pub is_cut_short : TrieCommand → ℕ → ℕ → Bool
is_cut_short trie at size = trie.at == at && nat_lt size (if trie.info then 48 else 16)

abbrev pub is_any_cut_short : Option TrieCommand → ℕ → ℕ → Bool
is_any_cut_short trie at size = option_map_or (λ trie. is_cut_short trie at size) trie false

-- a command that is read and breaks the rule Dylib
unfoldable pub is_bad : List ℕ → Roles → ℕ → Bool
is_bad bytes roles at =
    ((roles.id == at || is_reexport bytes at) && is_nameless (command_at bytes at))
    || is_any_cut_short roles.trie at (length (command_at bytes at))

-- the least of them
abbrev pub first_bad : List ℕ → Roles → List ℕ → Option ℕ
first_bad bytes roles commands = find (λ at. is_bad bytes roles at) commands

-- ---- what is read

unfoldable pub name_at : List ℕ → ℕ → List ℕ
name_at bytes at = unwrap_or (name_of (command_at bytes at)) []

abbrev pub reexports_of : List ℕ → List ℕ → List (List ℕ)
reexports_of bytes commands = map (λ at. name_at bytes at) (filter (λ at. is_reexport bytes at) commands)

-- the offset in the file and the size of the trie
unfoldable pub range_at : List ℕ → TrieCommand → TrieRange
range_at bytes trie =
    let place = (if trie.info then 40 else 8) in
    record { offset = field (command_at bytes trie.at) place; size = field (command_at bytes trie.at) (place + 4) }

unfoldable pub head_with : List ℕ → List ℕ → Roles → DylibHead
head_with bytes commands roles = record {
  install = name_at bytes roles.id;
  current = field (command_at bytes roles.id) 16;
  compatible = field (command_at bytes roles.id) 20;
  reexports = reexports_of bytes commands;
  trie = option_map (range_at bytes) roles.trie;
}

-- a file that doesn't name itself breaks the rule Dylib
abbrev pub named : Option Roles → Result Roles DylibFault
named None = Err (Malformed 0 Dylib)
named (Some roles) = Ok roles

-- What the commands say of the library, or the first of these that stands: the header is cut short, another machine,
-- another type of file, a command passes the others' end, none names the library, the least command that is bad.
unfoldable pub head_of : List ℕ → Result DylibHead DylibFault
head_of bytes = do
  header ← header_of bytes
  commands ← commands_of bytes header
  roles ← named (roles_of bytes commands)
  keeps Dylib (first_bad bytes roles commands) (head_with bytes commands roles)
