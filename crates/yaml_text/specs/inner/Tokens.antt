-- Tokens by their places in a line.
use Rattle.std.specs.Prelude.{ℕ, ◌+◌, ◌≡◌, ◌<◌, ◌≤◌, Bool, List, [], ◌∷◌, drop, length, Option, Some, None}
use Rattle.yaml_text.specs.declared.flow.Lexeme.{Lexeme}
use Rattle.yaml_text.specs.Flow.{Lexed, tokens_from}

-- the token at a place in a line
pub record IsLexeme (line : List ℕ) (at : ℕ) (lexeme : Lexeme) (lexed : Lexed) : Type 0 where
  pub token : lexeme.token ≡ lexed.token
  pub next : lexeme.next ≡ at + lexed.size
  pub spaced : lexeme.spaced ≡ lexed.spaced
  pub some : 1 ≤ lexed.size
  pub within : lexeme.next ≤ length line

-- the first token of a line from a place on
pub record IsFirst (line : List ℕ) (at : ℕ) (spaced : Bool) (lexeme : Lexeme) : Type 0 where
  pub same : tokens_from 0 spaced (drop at line) ≡ lexeme.token ∷ tokens_from 0 lexeme.spaced (drop lexeme.next line)
  pub more : at < lexeme.next
  pub within : lexeme.next ≤ length line

abbrev pub IsNext : List ℕ → ℕ → Bool → Option Lexeme → Type 0
IsNext line at spaced None = tokens_from 0 spaced (drop at line) ≡ []
IsNext line at spaced (Some lexeme) = IsFirst line at spaced lexeme
