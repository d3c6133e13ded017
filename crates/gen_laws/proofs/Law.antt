-- The bytes that are made are an object.
use Rattle.std.proofs.Common.{◌≡◌, ℕ, ◌+◌, ◌*◌, ◌/◌, ◌%◌, ◌<◌, List, length, slice_get, Some, Ok, refl, sym, ap, subst, arith}
use Rattle.std.proofs.lemmas.List.{length-map}
use Rattle.mo_types.specs.RelocationRules.{pair_fault, place_fault, shape_fault, target_fault}
use Rattle.mo_types.specs.declared.cause.Rule.{Rule}
use Rattle.mo_types.specs.declared.cause.Rule.TheVariants as rule
use Rattle.mo_types.specs.declared.object.Object.{Object}
use Rattle.mo_types.specs.declared.object.RawReloc.{RawReloc}
use Rattle.unwind_read.specs.Unwinds.{fault_places}
use Rattle.mo_obj.specs.Facts.{IsObject}
use Rattle.mo_obj.specs.Object.{may_be_cut, object_of}
use Rattle.mo_obj.specs.Rules.{Fails, IsBadRelocation, IsIn}
use Rattle.mo_obj.proofs.FactsLaws.{object_is as object_back}
use Rattle.link_gen.specs.Calls.{IsMade, called, first_function, function_count}
use Rattle.link_gen.specs.Generated.{generated}
use Rattle.link_gen.specs.Names.{name_of}
use Rattle.link_gen.specs.Symbols.{symbols_of}
use Rattle.link_gen.specs.declared.calls.MadeObject.{MadeObject}
use Rattle.gen_laws.specs.Object.{NamesAt, call_at, made_object, symbol_of, text_section}
use Rattle.gen_laws.proofs.Calls.{call_there, pairs_kept, places_kept, relocs_are, shapes_kept, symbol_read, symbol_there, targets_kept}
use Rattle.gen_laws.proofs.Features.{no_feature}
use Rattle.gen_laws.proofs.Entries.{no_entries}
use Rattle.gen_laws.proofs.Few.{symbols_few}
use Rattle.gen_laws.proofs.Reading.{header_is, object_is, sections_are, symbols_are}
use Rattle.gen_laws.proofs.Rules.{commands_whole, contents_within, for_arm64, header_whole, literals_whole, relocations_within, segment_fit, symbols_fit, table_within}
use Rattle.gen_laws.proofs.Spelled.{Stands, stands}

module _ (made : MadeObject) (bytes : List ℕ) (is : IsMade made) (at : Stands made bytes) where
  no_rule_fails : (asked : Rule) (place : ℕ) → Fails bytes asked place → ⊥
  no_rule_fails rule.Header place = header_whole made bytes at place
  no_rule_fails rule.Commands place = commands_whole made bytes at place
  no_rule_fails rule.Segment place = segment_fit made bytes at place
  no_rule_fails rule.Section place = contents_within made bytes at place
  no_rule_fails rule.Relocations place = relocations_within made bytes at place
  no_rule_fails rule.Symbols place = table_within made bytes at place
  no_rule_fails rule.Symbol place = symbols_fit made bytes at place is
  no_rule_fails rule.Literals place = literals_whole made bytes at place
  no_rule_fails rule.Pair place = λ bad. pairs_kept made place (subst (λ (o : Object). IsBadRelocation pair_fault o place) (object_is made bytes at) bad)
  no_rule_fails rule.Shape place = λ bad. shapes_kept made place (subst (λ (o : Object). IsBadRelocation shape_fault o place) (object_is made bytes at) bad)
  no_rule_fails rule.Place place = λ bad. places_kept made place is (subst (λ (o : Object). IsBadRelocation place_fault o place) (object_is made bytes at) bad)
  no_rule_fails rule.Target place = λ bad. targets_kept made place is (subst (λ (o : Object). IsBadRelocation target_fault o place) (object_is made bytes at) bad)
  no_rule_fails rule.Unwind place = λ bad. no_entries made place (subst (λ (o : Object). IsIn (fault_places o) place) (object_is made bytes at) bad)
  no_rule_fails _ place = λ none. none

  is_object : IsObject bytes (made_object made)
  unfolding made_object
  is_object = record {
    kind = at.kind;
    sound = record { target = for_arm64 made bytes at; rules = no_rule_fails };
    subsections = ap may_be_cut (sym (header_is made bytes at));
    sections = sym (sections_are made bytes at);
    symbols = sym (symbols_are made bytes at);
    features = no_feature made bytes is at;
    few =
        let names = symbols_few made in
        let long = length-map (symbols_of made) symbol_of in
        let all = ap length (symbols_are made bytes at) in
        omega arith;
  }

pub made_is_object : (made : MadeObject) → IsMade made → IsObject (generated made) (made_object made)
made_is_object made is = is_object made (generated made) is (stands made is)

pub made_is_read : (made : MadeObject) → IsMade made → object_of (generated made) ≡ Ok (made_object made)
made_is_read made is = object_back (generated made) (made_object made) (made_is_object made is)

pub calls_name : (made : MadeObject) (r : ℕ) → IsMade made → r < 3 * function_count made → NamesAt (made_object made) r (16 * (r / 3) + 4 * (r % 3)) (name_of (called made.count (first_function made + r / 3) (r % 3)))
unfolding made_object call_at symbol_of
calls_name made r is low =
    let there = symbol_there made r is low in record {
      section = text_section made;
      first = refl;
      relocation = call_at made r;
      is = subst (λ (l : List RawReloc). slice_get l r ≡ Some (call_at made r)) (sym (relocs_are made)) (call_there made r low);
      place_is = refl;
      symbol = symbol_of there.symbol;
      symbol_is = symbol_read made (call_at made r).number there.symbol there.is;
      name_is = ap name_of there.name_is;
    }
