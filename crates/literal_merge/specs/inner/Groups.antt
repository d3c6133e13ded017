-- How the code finds the literals that are the same.
use Rattle.std.specs.Prelude.{◌≡◌, ◌==◌, ◌&&◌, Bool, max, List, [], ◌∷◌, map, filter, Option, Some, None}
use Rattle.std.specs.Str.{bytes_eq}
use Rattle.std.specs.HashMap.{HashMap, get}
use Rattle.literal_merge.specs.declared.literal.Content.{Content}
use Rattle.literal_merge.specs.declared.literal.LiteralIn.{LiteralIn}
use Rattle.literal_merge.specs.declared.groups.Group.{Group}
use Rattle.literal_merge.specs.declared.representative.Representative.{Representative}
use Rattle.literal_merge.specs.Representatives.{Literal, greatest_align}

-- contents that are the same
abbrev pub same_content : Content → Content → Bool
same_content a b = bytes_eq a.bytes.now b.bytes.now && bytes_eq a.name.now b.name.now && bytes_eq a.segment.now b.segment.now && a.kind == b.kind

abbrev pub literal_of : LiteralIn → Literal
literal_of literal = record {
  key = literal.key;
  align = literal.align;
  destination = record { segment = literal.content.segment.now; name = literal.content.name.now; kind = literal.content.kind };
  bytes = literal.content.bytes.now;
}

abbrev pub held_literals : List LiteralIn → List Literal
held_literals literals = map literal_of literals

-- a literal has this content
abbrev pub has_content : Content → Literal → Bool
has_content content literal =
    bytes_eq content.bytes.now literal.bytes && bytes_eq content.name.now literal.destination.name
    && bytes_eq content.segment.now literal.destination.segment && content.kind == literal.destination.kind

-- what is held of literals that are the same
unfoldable pub group_of : List Literal → Option Group
group_of [] = None
group_of (first ∷ rest) = Some (record { first = first.key; align = greatest_align (first ∷ rest) })

-- for each content what is held of the literals that have it
pub record AreGroups {S : Type 0} (literals : List Literal) (groups : HashMap Content Group S) : Type 0 where
  pub known : (content : Content) → get same_content groups content ≡ group_of (filter (has_content content) literals)

-- a group with one literal more, or a new one
abbrev pub with_literal : Option Group → Literal → Group
with_literal None literal = record { first = literal.key; align = literal.align }
with_literal (Some group) literal = record { first = group.first; align = max group.align literal.align }

-- what stands for a literal by its group
abbrev pub rep_of_group : Literal → Option Group → Representative
rep_of_group literal None = record { literal = literal.key; representative = literal.key; align = literal.align }
rep_of_group literal (Some group) = record { literal = literal.key; representative = group.first; align = group.align }
