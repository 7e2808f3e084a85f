-- The rows of the examples, computed.
use mathlib.Core.Path.{refl}
use mathlib.Core.List.{[]}
use lib.Count.{ones}
use Rattle.dump.specs.Dumps as dumps
use Rattle.dump.specs.Examples.{worked_script, worked, WorkedEnds, WorkedBytes, unread_script, UnreadEnds, ListedBytes, Rows}
use Rattle.dump.specs.Appending as appending
use Rattle.dump.proofs.ByteLaws.{small, small_bytes}
use Rattle.calls.specs.Changes.{carried_out}
use Rattle.calls.specs.Effects.{effect}
use Rattle.calls.specs.Turns.{first_refusal, searched, applied, turns_from, turns, last_of}
use Rattle.policy.specs.Default.{bears_bottom}
use Rattle.policy.specs.Justified.{is_own_proposal, is_free, out_verdict, is_decision_call, bears_offset, bears, cas_verdict, justified}
use Rattle.policy.specs.Listing.{is_list_call, is_new, begins, follows, owed, is_due, may_list, may_announce, shared}
use Rattle.policy.specs.Policies.{verdict_on}
use Rattle.policy.specs.Weak.{is_weak_call, weak}
use Rattle.record.specs.Writing.{field_bytes, fields_bytes, tuple_bytes, part_bytes, call_bytes}
use Rattle.record.specs.Heads.{head_of}
use Rattle.record.specs.Reading.{read_number, value_at, field_at, fields_at, tuple_at, part_at, parts_at, body_at, call_at}
use Rattle.script.specs.Scripts.{config_of, set_up_bytes, records_bytes, records_from, records_at, ran_on, ran}
use Rattle.space.specs.Configs.{choice_sound, plain_sound, sound, has_proposals, has_list, known}
use Rattle.space.specs.Lists.{lists, is_there, is_filled, is_listed}
use Rattle.space.specs.Members.{beyond, within, every}
use Rattle.space.specs.Proposals.{is_choice, offered, decidable, proposes, proposed, every_proposed}
use Rattle.space.specs.Spaces.{space_of, place_sound, places_from, table_sound, bounded, well_formed, fresh_of, fresh_space}
use Rattle.space.specs.Tables.{has_place, code_at, belongs, entered, table_from, empty_table, fits_table, tabled_from, same_from}
use Rattle.std.specs.Prelude.{Err, Ok}
use Rattle.tuple.specs.Faults.{known_head, field_fault, fields_fault, tuple_fault, part_fault, uses_template, uses_entry, used_fault, is_blank, place_blank, rest_from, rest_blank, call_fault, is_entry}
use Rattle.tuple.specs.Fields.{largest_of}
use Rattle.tuple.specs.Matching.{field_matches, fields_match, matches, oldest_from, oldest_of}
use Rattle.tuple.specs.Shapes.{has_shape}
use Rattle.tuple.specs.Refusals.{refusal}
use Rattle.varint.specs.Reading.{joined, number_from, number_at}
use Rattle.varint.specs.Writing.{groups_of, bytes_of}

pub worked-bytes : WorkedBytes
unfolding dumps.dump_bytes dumps.dump_calls appending.call_of appending.own_process appending.template_of
    field_bytes fields_bytes tuple_bytes part_bytes call_bytes set_up_bytes records_bytes known uses_template uses_entry groups_of bytes_of has_shape
worked-bytes = refl

pub listed-bytes : ListedBytes
unfolding dumps.dump_bytes dumps.dump_calls appending.call_of appending.own_process
    field_bytes fields_bytes tuple_bytes part_bytes call_bytes set_up_bytes records_bytes known uses_template uses_entry groups_of bytes_of
listed-bytes = refl

-- the two scripts, run
ends : WorkedEnds × UnreadEnds
unfolding ran ran_on config_of records_at records_from read_number number_at number_from joined call_at body_at parts_at part_at tuple_at fields_at field_at value_at head_of
    carried_out effect first_refusal searched applied turns_from last_of
    is_own_proposal is_free out_verdict is_decision_call bears_offset bears cas_verdict justified verdict_on
    plain_sound sound has_proposals known beyond within every is_choice offered decidable proposes proposed every_proposed
    place_sound places_from table_sound has_place code_at belongs entered table_from empty_table fits_table tabled_from same_from bounded well_formed fresh_of
    known_head field_fault fields_fault tuple_fault part_fault uses_template uses_entry used_fault is_blank place_blank rest_from rest_blank call_fault is_entry
    largest_of field_matches fields_match matches oldest_from oldest_of ones small has_shape
ends = (
  record {
    bytes = small_bytes worked_script refl;
    config = worked.config;
    made = turns_from (space_of worked.config []) (records_at worked_script 3).calls;
    fault = (Ok tt);
    runs = refl;
  },
  record {
    bytes = small_bytes unread_script refl;
    config = worked.config;
    made = turns_from (space_of worked.config []) (records_at unread_script 3).calls;
    fault = Err (refusal 4);
    runs = refl;
  },
)

pub worked-ends : WorkedEnds
worked-ends = ends.0

pub unread-ends : UnreadEnds
unread-ends = ends.1

pub answers : Rows
unfolding dumps.dump_bytes dumps.dump_calls dumps.written_of dumps.is_reached dumps.all_appended appending.call_of appending.own_process appending.template_of
    carried_out effect first_refusal searched applied turns_from turns
    bears_bottom is_own_proposal is_free out_verdict is_decision_call bears_offset bears cas_verdict justified is_weak_call weak verdict_on
    is_list_call is_new begins follows owed is_due may_list may_announce shared lists is_there is_filled is_listed
    field_bytes fields_bytes tuple_bytes part_bytes call_bytes set_up_bytes records_bytes
    choice_sound plain_sound sound has_proposals has_list known beyond within every is_choice offered decidable proposes proposed every_proposed
    place_sound places_from table_sound has_place code_at belongs entered table_from empty_table fits_table tabled_from same_from bounded well_formed fresh_space
    known_head field_fault fields_fault tuple_fault part_fault uses_template uses_entry used_fault is_blank place_blank rest_from rest_blank call_fault is_entry
    largest_of field_matches fields_match matches oldest_from oldest_of groups_of bytes_of ones has_shape
answers = refl
