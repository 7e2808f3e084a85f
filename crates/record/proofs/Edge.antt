-- The rows of document 01's edge values are what the definitions say, by computing both.
use mathlib.Core.Path.{refl}
use Rattle.record.specs.EdgeValues.{EdgeValues, seen, stated}
use Rattle.record.specs.Heads.{head_of}
use Rattle.record.specs.Reading.{read_number, value_at, field_at, fields_at, tuple_at, part_at, parts_at, body_at, call_at}
use Rattle.record.specs.Writing.{field_bytes, fields_bytes, tuple_bytes, part_bytes, call_bytes, written_of, left_of}
use Rattle.tuple.specs.Fields.{largest_of}
use Rattle.tuple.specs.Faults.{known_head, field_fault, fields_fault, tuple_fault, part_fault, uses_template, uses_entry, used_fault, is_blank, place_blank, rest_from, rest_blank, call_fault}
use Rattle.tuple.specs.Offsets.{coded_of, decoded_of}
use Rattle.varint.specs.Reading.{joined, number_from, number_at}
use Rattle.varint.specs.Writing.{groups_of, bytes_of, written_at, left_at}

pub edge-values : EdgeValues
unfolding seen stated coded_of decoded_of largest_of
    joined number_from number_at groups_of bytes_of written_at left_at
    head_of read_number value_at field_at fields_at tuple_at part_at parts_at body_at call_at
    field_bytes fields_bytes tuple_bytes part_bytes call_bytes written_of left_of
    known_head field_fault fields_fault tuple_fault part_fault uses_template uses_entry used_fault is_blank place_blank rest_from rest_blank call_fault
edge-values = record { rows = refl; aboves = refl }
