-- What each policy says on boards that no run makes: each row computes.
use mathlib.Core.Path.{◌≡◌, refl}
use mathlib.Core.Bool.{false}
use mathlib.Core.List.{List}
use lib.Count.{ones}
use Rattle.calls.specs.Turns.{applied}
use Rattle.calls.specs.HandedLaws.{under, refused_all, marked, unchosen, HandedRows}
use Rattle.policy.specs.Default.{bears_bottom}
use Rattle.policy.specs.Justified.{is_own_proposal, is_free, out_verdict, is_decision_call, bears_offset, bears, cas_verdict, justified}
use Rattle.policy.specs.Listing.{is_list_call, is_new, begins, follows, preferred, owed, is_due, may_list, may_announce, shared}
use Rattle.policy.specs.Policies.{verdict_on}
use Rattle.space.specs.Announcements.{is_announcement, announces, announced_of}
use Rattle.space.specs.declared.config.Config.{Config}
use Rattle.space.specs.Configs.{choice_sound, plain_sound, sound, has_proposals, has_list, known}
use Rattle.space.specs.Lists.{lists, is_there, is_filled, is_listed}
use Rattle.space.specs.Members.{beyond, within, every, counted, strike}
use Rattle.space.specs.Proposals.{is_choice, offered, decidable, proposes, proposed, every_proposed, backers, crowded_by}
use Rattle.space.specs.Spaces.{space_of, place_sound, places_from, table_sound, bounded, well_formed}
use Rattle.space.specs.Tables.{has_place, code_at, belongs, entered, table_from, empty_table, fits_table, tabled_from, same_from}
use Rattle.tuple.specs.declared.field.Tuple.{Tuple}
use Rattle.tuple.specs.declared.field.Call.{Call}
use Rattle.tuple.specs.Faults.{is_entry, tuple_fault, fields_fault, field_fault, known_head, rest_blank, rest_from, place_blank, is_blank}
use Rattle.tuple.specs.Fields.{largest_of}
use Rattle.tuple.specs.Shapes.{has_shape}

unformed-mark : well_formed (space_of (under 2 0) marked) ≡ false
unfolding well_formed bounded sound choice_sound plain_sound places_from place_sound table_sound has_place known code_at belongs entered table_from empty_table fits_table tabled_from same_from
    has_proposals offered is_choice is_entry tuple_fault fields_fault field_fault known_head largest_of rest_blank rest_from place_blank is_blank has_shape
unformed-mark = refl

unformed-other : well_formed (space_of (under 3 2) unchosen) ≡ false
unfolding well_formed bounded sound choice_sound plain_sound places_from place_sound table_sound has_place known code_at belongs entered table_from empty_table fits_table tabled_from same_from
    has_proposals offered is_choice is_entry tuple_fault fields_fault field_fault known_head largest_of rest_blank rest_from place_blank is_blank has_shape
unformed-other = refl

refuses-all : (config : Config) (tuples : List Tuple) → well_formed (space_of config tuples) ≡ false → (call : Call) → refused_all config tuples call
unfolding applied
refuses-all config tuples e call = rw e

pub handed-rows : HandedRows
unfolding verdict_on justified out_verdict is_own_proposal is_free is_decision_call bears_offset bears cas_verdict bears_bottom beyond within every counted strike is_choice offered decidable
    proposes proposed every_proposed backers crowded_by has_proposals has_list has_shape shared may_list is_list_call is_new begins follows preferred owed is_due may_announce is_announcement announces
    announced_of is_listed is_filled is_there lists ones
handed-rows =
    record {
      mark-stands = refuses-all (under 2 0) marked unformed-mark;
      other-stands = refuses-all (under 3 2) unchosen unformed-other;
      outside-four = refl;
      outside-five = refl;
      two-stand = refl;
      mark-first = refl;
      mark-alone = refl;
      listed-stands = refl;
    }
