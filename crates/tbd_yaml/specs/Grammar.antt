-- The grammar of a text (YAML 1.2, chapters 7 to 9), as relations between its lines and its documents. Each reads
-- lines, and the text that is left of a line before them, and leaves the lines that follow.
use Rattle.std.specs.Prelude.{ℕ, ◌≡◌, ◌≤◌, ◌+◌, ◌==◌, ◌&&◌, ◌||◌, nat_lt, Bool, true, false, List, [], ◌∷◌, ◌++◌, length, drop, map as each, Option, Some, None, Ok}
use Rattle.std.specs.Str.{is_utf8}
use Rattle.yaml_text.specs.declared.file.YamlDoc.{YamlDoc}
use Rattle.yaml_text.specs.declared.token.Token.{Token}
use Rattle.yaml_text.specs.declared.token.Token.TheVariants as token
use Rattle.yaml_text.specs.Lines.{spaces, blanks, without_blanks, begins_with, is_bare, tag_of, is_end, is_item}
use Rattle.yaml_text.specs.Scalars.{Keyed, key_of, scalar_of}
use Rattle.yaml_text.specs.Flow.{tokens_from}
use Rattle.tbd_yaml.specs.Blocks.{has_key}
use Rattle.tbd_yaml.specs.Tree.{Tree, scalar, list, map, Trees, no_trees, tree, Pairs, no_pairs, pair, events_of}

-- a line that counts for nothing
pub record IsPassed (line : List ℕ) : Type 0 where
  pub utf8 : is_utf8 line ≡ true
  pub bare : is_bare line ≡ true

-- a line of a block: neither blank nor a mark, and without a tab in its indentation
pub record IsBlockLine (line : List ℕ) : Type 0 where
  pub utf8 : is_utf8 line ≡ true
  pub some : is_bare line ≡ false
  pub no_mark : tag_of line ≡ None
  pub no_end : is_end line ≡ false
  pub no_tab : begins_with 0x09 (drop (spaces line) line) ≡ false

-- what stands on a line behind its indentation
abbrev pub content : List ℕ → List ℕ
content line = drop (spaces line) line

-- a block stands below a key at a column if it is more indented, or a list at the same one; below a mark it may stand
-- at any
abbrev pub stands_below : Option ℕ → ℕ → Bool → Bool
stands_below None column item = true
stands_below (Some key) column item = nat_lt key column || (key == column && item)

-- the items of a flow list from some tokens of a line on, where a scalar is wanted or isn't
pub data IsItems : Bool → List Token → List (List ℕ) → List (List ℕ) → Trees → Type 0 where
  next_line : {wants : Bool} {line : List ℕ} {lines after : List (List ℕ)} {trees : Trees} → is_utf8 line ≡ true → IsItems wants (tokens_from 0 true line) lines after trees → IsItems wants [] (line ∷ lines) after trees
  a_comma : {tokens : List Token} {lines after : List (List ℕ)} {trees : Trees} → IsItems true tokens lines after trees → IsItems false (token.Comma ∷ tokens) lines after trees
  an_item : {text : List ℕ} {tokens : List Token} {lines after : List (List ℕ)} {trees : Trees} → IsItems false tokens lines after trees → IsItems true (token.Scalar text ∷ tokens) lines after (tree (scalar text) trees)
  a_bracket : {wants : Bool} {tokens : List Token} {after : List (List ℕ)} → IsItems wants (token.Close true ∷ tokens) after after no_trees

-- a value at the end of a line
pub data IsValue : List ℕ → List (List ℕ) → List (List ℕ) → Tree → Type 0 where
  a_scalar : {text value : List ℕ} {after : List (List ℕ)} (line : ℕ) → begins_with 0x5b text ≡ false → scalar_of line text ≡ Ok value → IsValue text after after (scalar value)
  a_flow_list : {text : List ℕ} {lines after : List (List ℕ)} {trees : Trees} → begins_with 0x5b text ≡ true → IsItems true (tokens_from 0 false (drop 1 text)) lines after trees → IsValue text lines after (list trees)

mutual
  -- the value below a key at a column, or below a mark: a block, or nothing, which is the empty scalar
  pub data IsBelow : Option ℕ → List (List ℕ) → List (List ℕ) → Tree → Type 0 where
    nothing : {key : Option ℕ} {after : List (List ℕ)} → IsBelow key after after (scalar [])
    pass_below : {key : Option ℕ} {line : List ℕ} {lines after : List (List ℕ)} {node : Tree} → IsPassed line → IsBelow key lines after node → IsBelow key (line ∷ lines) after node
    a_block : {key : Option ℕ} {line : List ℕ} {lines after : List (List ℕ)} {node : Tree} → IsBlockLine line → stands_below key (spaces line) (is_item (content line)) ≡ true
        → IsBlock (spaces line) (content line) lines after node → IsBelow key (line ∷ lines) after node

  -- a block at a column, whose first line has a text there
  pub data IsBlock : ℕ → List ℕ → List (List ℕ) → List (List ℕ) → Tree → Type 0 where
    a_map : {column : ℕ} {text : List ℕ} {lines after : List (List ℕ)} {pairs : Pairs} → is_item text ≡ false → IsPairs column [] text lines after pairs → IsBlock column text lines after (map pairs)
    a_list : {column : ℕ} {text : List ℕ} {lines after : List (List ℕ)} {trees : Trees} → is_item text ≡ true → IsEntries column text lines after trees → IsBlock column text lines after (list trees)

  -- pairs of a map that has some keys already; the first begins the text
  pub data IsPairs : ℕ → List (List ℕ) → List ℕ → List (List ℕ) → List (List ℕ) → Pairs → Type 0 where
    a_pair : {column : ℕ} {keys : List (List ℕ)} {text : List ℕ} {keyed : Keyed} {lines between after : List (List ℕ)} {node : Tree} {pairs : Pairs} → key_of text ≡ Some keyed → has_key keyed.name keys ≡ false
        → IsPairValue column keyed.rest lines between node → IsMorePairs column (keys ++ keyed.name ∷ []) between after pairs → IsPairs column keys text lines after (pair keyed.name node pairs)

  -- the value behind a key's colon
  pub data IsPairValue : ℕ → List ℕ → List (List ℕ) → List (List ℕ) → Tree → Type 0 where
    value_here : {column : ℕ} {rest : List ℕ} {lines after : List (List ℕ)} {node : Tree} → is_bare rest ≡ false → IsValue (without_blanks rest) lines after node → IsPairValue column rest lines after node
    value_below : {column : ℕ} {rest : List ℕ} {lines after : List (List ℕ)} {node : Tree} → is_bare rest ≡ true → IsBelow (Some column) lines after node → IsPairValue column rest lines after node

  -- the pairs on the lines that follow
  pub data IsMorePairs : ℕ → List (List ℕ) → List (List ℕ) → List (List ℕ) → Pairs → Type 0 where
    no_more_pairs : {column : ℕ} {keys after : List (List ℕ)} → IsMorePairs column keys after after no_pairs
    pass_pairs : {column : ℕ} {keys : List (List ℕ)} {line : List ℕ} {lines after : List (List ℕ)} {pairs : Pairs} → IsPassed line → IsMorePairs column keys lines after pairs → IsMorePairs column keys (line ∷ lines) after pairs
    more_pairs : {column : ℕ} {keys : List (List ℕ)} {line : List ℕ} {lines after : List (List ℕ)} {pairs : Pairs} → IsBlockLine line → spaces line ≡ column → is_item (content line) ≡ false
        → IsPairs column keys (content line) lines after pairs → IsMorePairs column keys (line ∷ lines) after pairs

  -- items of a list, the first of which begins the text
  pub data IsEntries : ℕ → List ℕ → List (List ℕ) → List (List ℕ) → Trees → Type 0 where
    an_entry : {column : ℕ} {text : List ℕ} {lines between after : List (List ℕ)} {node : Tree} {trees : Trees} → is_bare (drop 2 text) ≡ false
        → IsEntry (column + 2 + blanks (drop 2 text)) (without_blanks (drop 2 text)) lines between node → IsMoreEntries column between after trees → IsEntries column text lines after (tree node trees)

  -- an item behind its mark, at its column: a value, or a map that goes on there
  pub data IsEntry : ℕ → List ℕ → List (List ℕ) → List (List ℕ) → Tree → Type 0 where
    entry_value : {column : ℕ} {text : List ℕ} {lines after : List (List ℕ)} {node : Tree} → key_of text ≡ None → IsValue text lines after node → IsEntry column text lines after node
    entry_map : {column : ℕ} {text : List ℕ} {lines after : List (List ℕ)} {pairs : Pairs} → IsPairs column [] text lines after pairs → IsEntry column text lines after (map pairs)

  -- the items on the lines that follow
  pub data IsMoreEntries : ℕ → List (List ℕ) → List (List ℕ) → Trees → Type 0 where
    no_more_entries : {column : ℕ} {after : List (List ℕ)} → IsMoreEntries column after after no_trees
    pass_entries : {column : ℕ} {line : List ℕ} {lines after : List (List ℕ)} {trees : Trees} → IsPassed line → IsMoreEntries column lines after trees → IsMoreEntries column (line ∷ lines) after trees
    more_entries : {column : ℕ} {line : List ℕ} {lines after : List (List ℕ)} {trees : Trees} → IsBlockLine line → spaces line ≡ column → is_item (content line) ≡ true
        → IsEntries column (content line) lines after trees → IsMoreEntries column (line ∷ lines) after trees

-- a document: its tag and its tree
pub record Document : Type 0 where
  pub tag : List ℕ
  pub body : Tree

-- the documents of some lines, up to the line that ends the reading or to the last one
pub data AreDocuments : List (List ℕ) → List Document → Type 0 where
  the_last_line : AreDocuments [] []
  the_end : {line : List ℕ} {lines : List (List ℕ)} → is_utf8 line ≡ true → is_end line ≡ true → AreDocuments (line ∷ lines) []
  pass_line : {line : List ℕ} {lines : List (List ℕ)} {docs : List Document} → IsPassed line → AreDocuments lines docs → AreDocuments (line ∷ lines) docs
  a_document : {line tag : List ℕ} {lines between : List (List ℕ)} {node : Tree} {docs : List Document} → is_utf8 line ≡ true → is_bare line ≡ false → tag_of line ≡ Some tag → IsBelow None lines between node
      → AreDocuments between docs → AreDocuments (line ∷ lines) (record { tag = tag; body = node } ∷ docs)

-- a document with the walk through its tree
abbrev pub doc_of : Document → YamlDoc
doc_of document = record { tag = document.tag; events = events_of document.body }

-- the lines of a text have these documents, and so one at least
pub record HasDocuments (lines : List (List ℕ)) (documents : List Document) : Type 0 where
  pub are : AreDocuments lines documents
  pub some : 1 ≤ length documents

-- the documents of some lines are these
abbrev pub AreDocumentsOf : List (List ℕ) → List YamlDoc → Type 0
AreDocumentsOf lines docs = (documents : List Document) × HasDocuments lines documents × (docs ≡ each doc_of documents)
