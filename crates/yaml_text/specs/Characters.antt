-- The characters that mean something in the text of a stub library (YAML 1.2, chapter 5).
use Rattle.std.specs.Prelude.{ℕ, ◌==◌, ◌||◌, Bool}

-- a space or a tab
abbrev pub is_blank : ℕ → Bool
is_blank byte = byte == 0x20 || byte == 0x09

abbrev pub is_quote : ℕ → Bool
is_quote byte = byte == 0x27 || byte == 0x22

-- a character with which no plain scalar begins: one of ``[ ] { } , # & * ! | > ' " % @ ` ``
unfoldable pub is_forbidden : ℕ → Bool
is_forbidden byte =
    byte == 0x5b || byte == 0x5d || byte == 0x7b || byte == 0x7d || byte == 0x2c || byte == 0x23 || byte == 0x26 || byte == 0x2a
    || byte == 0x21 || byte == 0x7c || byte == 0x3e || byte == 0x27 || byte == 0x22 || byte == 0x25 || byte == 0x40 || byte == 0x60
