-- The rows of the examples, computed.
use mathlib.Core.Path.{refl}
use lib.Count.{ones}
use Rattle.script.specs.Examples.{bytes_in, script_of, text_of, ExampleTexts}
use Rattle.script.specs.Printing.{lines_from, printed, text}
use Rattle.script.specs.Scripts.{config_of, records_from, records_at, ran_on, ran}
use Rattle.script.specs.Texts.{choices_text, config_line, unread_line, count_line, held_line}
use Rattle.calls.specs.Changes.{carried_out}
use Rattle.calls.specs.Effects.{effect}
use Rattle.calls.specs.Turns.{first_refusal, searched, applied, turns_from, last_of}
use Rattle.policy.specs.Default.{bears_bottom}
use Rattle.policy.specs.Justified.{is_own_proposal, is_free, out_verdict, is_decision_call, bears_offset, bears, cas_verdict, justified}
use Rattle.policy.specs.Listing.{is_list_call, is_new, begins, follows, preferred, owed, is_due, may_list, may_announce, may_take_off, shared}
use Rattle.policy.specs.Policies.{verdict_on}
use Rattle.policy.specs.Weak.{is_weak_call, weak}
use Rattle.record.specs.Heads.{head_of}
use Rattle.record.specs.Reading.{read_number, value_at, field_at, fields_at, tuple_at, part_at, parts_at, body_at, call_at}
use Rattle.space.specs.Announcements.{is_announcement, announces, announced_of}
use Rattle.space.specs.Configs.{choice_sound, plain_sound, sound, has_proposals, has_list, known}
use Rattle.space.specs.Lists.{lists, is_there, is_filled, is_listed}
use Rattle.space.specs.Members.{beyond, within, every, counted, strike}
use Rattle.space.specs.Proposals.{is_choice, offered, decidable, proposes, proposed, every_proposed, backers, crowded_by}
use Rattle.space.specs.Spaces.{place_sound, places_from, table_sound, bounded, well_formed, fresh_of}
use Rattle.space.specs.Tables.{has_place, code_at, belongs, entered, table_from, empty_table, fits_table, tabled_from, same_from}
use Rattle.text.specs.Digits.{decimal_from, decimal}
use Rattle.text.specs.Signs.{ascii}
use Rattle.text.specs.Texts.{spaced, value_text, letter_text, field_text, fields_text, tuple_text, refusal_text, outcome_text, reply_line, refused_line}
use Rattle.tuple.specs.Faults.{known_head, field_fault, fields_fault, tuple_fault, part_fault, uses_template, uses_entry, used_fault, is_blank, place_blank, rest_from, rest_blank, call_fault, is_entry}
use Rattle.tuple.specs.Fields.{largest_of}
use Rattle.tuple.specs.Matching.{field_matches, fields_match, matches, oldest_from, oldest_of}
use Rattle.tuple.specs.Shapes.{has_shape}
use Rattle.varint.specs.Reading.{joined, number_from, number_at}

pub example-texts : ExampleTexts
unfolding ascii bytes_in script_of text_of text printed lines_from ran ran_on config_of records_at records_from choices_text config_line unread_line count_line held_line
    read_number number_at number_from joined call_at body_at parts_at part_at tuple_at fields_at field_at value_at head_of
    carried_out effect first_refusal searched applied turns_from last_of
    bears_bottom is_own_proposal is_free out_verdict is_decision_call bears_offset bears cas_verdict justified is_weak_call weak verdict_on
    is_list_call is_new begins follows preferred owed is_due may_list may_announce may_take_off shared lists is_there is_filled is_listed is_announcement announces announced_of
    choice_sound plain_sound sound has_proposals has_list known beyond within every counted strike is_choice offered decidable proposes proposed every_proposed backers crowded_by
    place_sound places_from table_sound has_place code_at belongs entered table_from empty_table fits_table tabled_from same_from bounded well_formed fresh_of
    decimal_from decimal spaced value_text letter_text field_text fields_text tuple_text refusal_text outcome_text reply_line refused_line
    known_head field_fault fields_fault tuple_fault part_fault uses_template uses_entry used_fault is_blank place_blank rest_from rest_blank call_fault is_entry
    largest_of field_matches fields_match matches oldest_from oldest_of ones has_shape
example-texts = refl
