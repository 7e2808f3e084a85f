-- The rows of the examples, computed.
use mathlib.Core.Path.{refl}
use lib.Count.{ones}
use Rattle.monitor.specs.Examples.{script_in, ExampleStrays}
use Rattle.monitor.specs.Strays.{earliest, stray_on, stray_of}
use Rattle.calls.specs.Changes.{carried_out}
use Rattle.calls.specs.Effects.{effect}
use Rattle.calls.specs.Turns.{first_refusal, searched, applied, turns_from, turns}
use Rattle.policy.specs.Default.{bears_bottom}
use Rattle.policy.specs.Justified.{is_own_proposal, is_free, out_verdict, is_decision_call, bears_offset, bears, cas_verdict, justified}
use Rattle.policy.specs.Policies.{verdict_on}
use Rattle.process.specs.Fits.{is_asked_proposal, is_round_decision, fits}
use Rattle.process.specs.Procedure.{started, resumed}
use Rattle.process.specs.States.{code_sound, found_sound, last_ends, reading_sound, deciding_sound, startable, well_formed as formed}
use Rattle.process.specs.Tallies.{backs, backing, backing_set, backed_of, backed, is_backed, total, settled, free_from, next_after}
use Rattle.record.specs.Heads.{head_of}
use Rattle.record.specs.Reading.{read_number, value_at, field_at, fields_at, tuple_at, part_at, parts_at, body_at, call_at}
use Rattle.runs.specs.Correct.{listed, watched, monitored}
use Rattle.script.specs.Examples.{bytes_in}
use Rattle.script.specs.Scripts.{config_of, script_head, records_from, records_at}
use Rattle.space.specs.Configs.{choice_sound, plain_sound, sound, has_proposals, has_list, known}
use Rattle.space.specs.Members.{beyond, within, every, counted, strike}
use Rattle.space.specs.Proposals.{is_choice, offered, decidable, proposes, proposed, every_proposed, backers, crowded_by}
use Rattle.space.specs.Spaces.{place_sound, places_from, table_sound, bounded, well_formed, fresh_space}
use Rattle.space.specs.Tables.{has_place, code_at, belongs, entered, table_from, empty_table, fits_table, tabled_from, same_from}
use Rattle.tuple.specs.Equality.{same_field, same_fields, same_tuple, same_call}
use Rattle.tuple.specs.Faults.{known_head, field_fault, fields_fault, tuple_fault, part_fault, uses_template, uses_entry, used_fault, is_blank, place_blank, rest_from, rest_blank, call_fault, is_entry}
use Rattle.tuple.specs.Fields.{largest_of}
use Rattle.tuple.specs.Matching.{field_matches, fields_match, matches, oldest_from, oldest_of}
use Rattle.tuple.specs.Offsets.{coded_of, decoded_of}
use Rattle.tuple.specs.Shapes.{has_shape}
use Rattle.varint.specs.Reading.{joined, number_from, number_at}

pub example-strays : ExampleStrays
unfolding script_in bytes_in stray_of stray_on earliest script_head config_of records_at records_from monitored watched listed
    started resumed startable formed code_sound found_sound last_ends reading_sound deciding_sound fits is_asked_proposal is_round_decision
    backs backing backing_set backed_of backed is_backed total settled free_from next_after same_field same_fields same_tuple same_call coded_of decoded_of
    read_number number_at number_from joined call_at body_at parts_at part_at tuple_at fields_at field_at value_at head_of
    carried_out effect first_refusal searched applied turns_from turns
    bears_bottom is_own_proposal is_free out_verdict is_decision_call bears_offset bears cas_verdict justified verdict_on
    choice_sound plain_sound sound has_proposals has_list known beyond within every counted strike is_choice offered decidable proposes proposed every_proposed backers crowded_by
    place_sound places_from table_sound has_place code_at belongs entered table_from empty_table fits_table tabled_from same_from bounded well_formed fresh_space
    known_head field_fault fields_fault tuple_fault part_fault uses_template uses_entry used_fault is_blank place_blank rest_from rest_blank call_fault is_entry
    largest_of field_matches fields_match matches oldest_from oldest_of ones has_shape
example-strays = refl
