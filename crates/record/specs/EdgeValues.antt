-- Document 01, "Edge values": the starred rows, as one table with one claim. With them those of request 2.10, which moves FF FF FF FF 10: numbers of ten
-- bytes, what is refused at ten, the least number that is not written, and the largest process of a record and the one above it; and a record of a cas.
use Rattle.std.specs.Prelude.{◌≡◌, ℕ, List, [], ◌∷◌, ◌++◌, map, length, get_or, replicate, pos, negsuc, Err, Ok, Result}
use Rattle.varint.specs.Reading.{Read}
use Rattle.varint.specs.Writing.{Written}
use Rattle.varint.specs.declared.ReadError.TheVariants.{Cut, Overlong}
use Rattle.varint.specs.declared.WriteError.TheVariants.{Beyond, NoRoom}
use Rattle.record.specs.Reading.{Reading, call_at}
use Rattle.record.specs.Writing.{written_of, left_of}
use Rattle.tuple.specs.declared.field.Field.{Field}
use Rattle.tuple.specs.declared.field.Tuple.{Tuple}
use Rattle.tuple.specs.declared.field.Call.{Call}
use Rattle.tuple.specs.declared.offset.Offset.{Offset}
use Rattle.tuple.specs.declared.offset.Offset.TheVariants.{Bottom, Hundredths}
use Rattle.tuple.specs.declared.refusal.Refusal.{Refusal}
use Rattle.tuple.specs.Offsets.{offset_of, coded_of, decoded_of}
use Rattle.tuple.specs.Refusals.{number_of}
use Rattle.varint.specs.Reading.{number_refusal, number_at}
use Rattle.varint.specs.Writing.{bytes_of, written_refusal, written_at, left_at}

-- ---- calls, in 01's numbers

-- a field of a kind and a state, with its value
abbrev pub shown : ℕ → ℕ → ℕ → Field
shown kind state value = record { kind = kind; state = state; value = value }

-- so many fields, and what stands in the six places
abbrev pub six_of : ℕ → Field → Field → Field → Field → Field → Field → Tuple
six_of count a b c d e f = record { count = count; fields = a ∷ b ∷ c ∷ d ∷ e ∷ f ∷ [] }

abbrev pub zeros : Field
zeros = shown 0 0 0

-- a process, out, one given field of kind offset
abbrev pub out_by : ℕ → ℕ → Call
out_by process value =
    record {
      process = process;
      code = 1;
      template = six_of 0 zeros zeros zeros zeros zeros zeros;
      entry = six_of 1 (shown 3 0 value) zeros zeros zeros zeros zeros;
    }

-- by process 1
abbrev pub out_of : ℕ → Call
out_of value = out_by 1 value

-- the bytes of its record before the value
abbrev pub ahead : List ℕ
ahead = 0x01 ∷ 0x01 ∷ 0x01 ∷ 0x0C ∷ []

-- process 1, cas: the template word 2, count 0, open offset, any seats; the entry word 2, count 0, offset -40, seats 1 and 3
abbrev pub cas_call : Call
cas_call =
    record {
      process = 1;
      code = 4;
      template = six_of 4 (shown 1 0 2) (shown 2 0 0) (shown 3 2 0) (shown 4 1 0) zeros zeros;
      entry = six_of 4 (shown 1 0 2) (shown 2 0 0) (shown 3 0 80) (shown 4 0 5) zeros zeros;
    }

abbrev pub cas_bytes : List ℕ
cas_bytes =
    0x01 ∷ 0x04 ∷ 0x04 ∷ 0x04 ∷ 0x02 ∷ 0x08 ∷ 0x00 ∷ 0x0E ∷ 0x11 ∷ 0x04 ∷ 0x04 ∷ 0x02 ∷ 0x08 ∷ 0x00 ∷ 0x0C ∷ 0x50 ∷ 0x10 ∷ 0x05 ∷ []

-- ---- the rows

-- what a row's bytes mean: a number; a signed offset or bottom; a whole call; a refusal, by 01's number; or an offset out of range, or a number above
-- the largest, with its refusal
pub data Meaning : Type 0 where
  number : ℕ → Meaning
  signed : Offset → Meaning
  call : Call → Meaning
  refused : ℕ → Meaning
  outside : Offset → ℕ → Meaning
  above : ℕ → ℕ → Meaning

-- where the bytes stand: alone, as the value of the one field, of kind offset, of a record, or as a whole record
pub data Place : Type 0 where
  bare field whole : Place

pub record Row : Type 0 where
  pub place : Place
  pub bytes : List ℕ
  pub meaning : Meaning

abbrev pub table : List Row
table =
    (record { place = bare; bytes = 0x7F ∷ []; meaning = number 127 })
    ∷ (record { place = bare; bytes = 0x80 ∷ 0x01 ∷ []; meaning = number 128 })
    ∷ (record { place = bare; bytes = 0x80 ∷ 0x80 ∷ 0x01 ∷ []; meaning = number 16_384 })
    ∷ (record { place = bare; bytes = 0xFF ∷ 0xFF ∷ 0xFF ∷ 0xFF ∷ 0x0F ∷ []; meaning = number 4_294_967_295 })
    ∷ (record { place = bare; bytes = 0xFF ∷ 0xFF ∷ 0xFF ∷ 0xFF ∷ 0x10 ∷ []; meaning = number 4_563_402_751 })
    ∷ (record { place = bare; bytes = 0x80 ∷ 0x00 ∷ []; meaning = refused 3 })
    ∷ (record { place = bare; bytes = 0x80 ∷ []; meaning = refused 2 })
    ∷ (record { place = field; bytes = 0x00 ∷ []; meaning = signed Bottom })
    ∷ (record { place = field; bytes = 0x01 ∷ []; meaning = signed (Hundredths (pos 0)) })
    ∷ (record { place = field; bytes = 0x02 ∷ []; meaning = signed (Hundredths (negsuc 0)) })
    ∷ (record { place = field; bytes = 0x03 ∷ []; meaning = signed (Hundredths (pos 1)) })
    ∷ (record { place = field; bytes = 0xC1 ∷ 0x9A ∷ 0x0C ∷ []; meaning = signed (Hundredths (pos 100_000)) })
    ∷ (record { place = field; bytes = 0xC2 ∷ 0x9A ∷ 0x0C ∷ []; meaning = outside (Hundredths (negsuc 100_000)) 3 })
    ∷ (record { place = bare; bytes = 0x80 ∷ 0x80 ∷ 0x80 ∷ 0x80 ∷ 0x10 ∷ []; meaning = number 4_294_967_296 })
    ∷ (record { place = bare; bytes = 0x80 ∷ 0x80 ∷ 0x80 ∷ 0x80 ∷ 0x80 ∷ 0x80 ∷ 0x80 ∷ 0x80 ∷ 0x80 ∷ 0x01 ∷ []; meaning = number 9_223_372_036_854_775_808 })
    ∷ (record { place = bare; bytes = 0xFF ∷ 0xFF ∷ 0xFF ∷ 0xFF ∷ 0xFF ∷ 0xFF ∷ 0xFF ∷ 0xFF ∷ 0xFF ∷ 0x01 ∷ []; meaning = number 18_446_744_073_709_551_615 })
    ∷ (record { place = bare; bytes = 0xFF ∷ 0xFF ∷ 0xFF ∷ 0xFF ∷ 0xFF ∷ 0xFF ∷ 0xFF ∷ 0xFF ∷ 0xFF ∷ 0x02 ∷ []; meaning = refused 3 })
    ∷ (record { place = bare; bytes = 0x80 ∷ 0x80 ∷ 0x80 ∷ 0x80 ∷ 0x80 ∷ 0x80 ∷ 0x80 ∷ 0x80 ∷ 0x80 ∷ 0x00 ∷ []; meaning = refused 3 })
    ∷ (record { place = bare; bytes = 0x80 ∷ 0x80 ∷ 0x80 ∷ 0x80 ∷ 0x80 ∷ 0x80 ∷ 0x80 ∷ 0x80 ∷ 0x80 ∷ []; meaning = refused 2 })
    ∷ (record { place = bare; bytes = 0x80 ∷ 0x80 ∷ 0x80 ∷ 0x80 ∷ 0x80 ∷ 0x80 ∷ 0x80 ∷ 0x80 ∷ 0x80 ∷ 0x80 ∷ []; meaning = refused 3 })
    ∷ (record { place = bare; bytes = 0x80 ∷ 0x80 ∷ 0x80 ∷ 0x80 ∷ 0x80 ∷ 0x80 ∷ 0x80 ∷ 0x80 ∷ 0x80 ∷ 0x02 ∷ []; meaning = above 18_446_744_073_709_551_616 3 })
    ∷ (record { place = whole; bytes = 0xFF ∷ 0xFF ∷ 0xFF ∷ 0xFF ∷ 0x0F ∷ 0x01 ∷ 0x01 ∷ 0x0C ∷ 0x01 ∷ []; meaning = call (out_by 4_294_967_295 1) })
    ∷ (record { place = whole; bytes = 0x80 ∷ 0x80 ∷ 0x80 ∷ 0x80 ∷ 0x10 ∷ 0x01 ∷ 0x01 ∷ 0x0C ∷ 0x01 ∷ []; meaning = refused 3 })
    ∷ (record { place = whole; bytes = cas_bytes; meaning = call cas_call })
    ∷ []

-- what is written: how many bytes, as the writer answers, and which it leaves in a buffer of that many zeros; a refusal, by 01's number; or nothing, where
-- there is nothing to write
pub data Wrote : Type 0 where
  stored : ℕ → List ℕ → Wrote
  unwritten : ℕ → Wrote
  nothing : Wrote

-- a row seen from both sides: what its bytes mean, how many of them reading takes, what is written for what was read, and what for the row's own meaning
pub record Seen : Type 0 where
  pub meaning : Meaning
  pub taken : ℕ
  pub again : Wrote
  pub sent : Wrote

-- ---- what the definitions say of what is written; `room` is how long the buffer is

abbrev pub number_wrote : ℕ → ℕ → Written → Wrote
number_wrote room value (Ok next) = stored next (left_at (replicate room 0) 0 value)
number_wrote room value (Err Beyond) = unwritten (written_refusal (Err Beyond))
number_wrote room value (Err NoRoom) = unwritten (written_refusal (Err NoRoom))

abbrev pub number_sent : ℕ → ℕ → Wrote
number_sent room value = number_wrote room value (written_at room 0 value)

abbrev pub call_wrote : ℕ → Call → Result ℕ Refusal → Wrote
call_wrote room c (Ok n) = stored n (left_of c (replicate room 0))
call_wrote room c (Err why) = unwritten (number_of why)

abbrev pub call_sent : ℕ → Call → Wrote
call_sent room c = call_wrote room c (written_of c room)

-- from the offset: its code, as the value of the one field of a record
abbrev pub offset_sent : ℕ → Result ℕ Refusal → Wrote
offset_sent room (Ok code) = call_sent room (out_of code)
offset_sent room (Err why) = unwritten (number_of why)

abbrev pub sent_of : Meaning → List ℕ → Wrote
sent_of (number value) bytes = number_sent (length bytes) value
sent_of (signed o) bytes = offset_sent (length (ahead ++ bytes)) (coded_of o)
sent_of (call c) bytes = call_sent (length bytes) c
sent_of (refused n) bytes = nothing
sent_of (outside o n) bytes = offset_sent (length (ahead ++ bytes)) (coded_of o)
sent_of (above value n) bytes = number_sent (length bytes) value

-- ---- what they say of what is read

-- reading refuses: nothing is taken
abbrev pub unread : Meaning → Wrote → Seen
unread meaning sent = record { meaning = meaning; taken = 0; again = nothing; sent = sent }

abbrev pub number_seen : Wrote → Read → Seen
number_seen sent (Ok (value, next)) = record { meaning = number value; taken = next; again = number_sent next value; sent = sent }
number_seen sent (Err Cut) = unread (refused (number_refusal (Err Cut))) sent
number_seen sent (Err Overlong) = unread (refused (number_refusal (Err Overlong))) sent

abbrev pub offset_meaning : Result Offset Refusal → Meaning
offset_meaning (Ok o) = signed o
offset_meaning (Err why) = refused (number_of why)

-- a value that is refused: the offset that it would be, if it is a number
abbrev pub refused_meaning : Read → Refusal → Meaning
refused_meaning (Ok (code, next)) why = outside (offset_of code) (number_of why)
refused_meaning (Err Cut) why = refused (number_of why)
refused_meaning (Err Overlong) why = refused (number_of why)

abbrev pub field_seen : List ℕ → Wrote → Reading Call → Seen
field_seen bytes sent (Ok (c, cursor)) =
    record { meaning = offset_meaning (decoded_of (get_or c.entry.fields 0 zeros).value); taken = cursor.at; again = call_sent cursor.at c; sent = sent }
field_seen bytes sent (Err why) = unread (refused_meaning (number_at bytes 0) why) sent

abbrev pub whole_seen : Wrote → Reading Call → Seen
whole_seen sent (Ok (c, cursor)) = record { meaning = call c; taken = cursor.at; again = call_sent cursor.at c; sent = sent }
whole_seen sent (Err why) = unread (refused (number_of why)) sent

abbrev pub seen_at : Place → List ℕ → Wrote → Seen
seen_at bare bytes sent = number_seen sent (number_at bytes 0)
seen_at field bytes sent = field_seen bytes sent (call_at (ahead ++ bytes) 0)
seen_at whole bytes sent = whole_seen sent (call_at bytes 0)

unfoldable pub seen : Row → Seen
seen row = seen_at row.place row.bytes (sent_of row.meaning row.bytes)

-- ---- what 01 says of it: what reads takes the whole of its bytes, and these are what is written; what is refused is refused both ways

abbrev pub both : Meaning → List ℕ → Seen
both meaning bytes = record { meaning = meaning; taken = length bytes; again = stored (length bytes) bytes; sent = stored (length bytes) bytes }

abbrev pub stated_at : Meaning → List ℕ → Seen
stated_at (number value) bytes = both (number value) bytes
stated_at (signed o) bytes = both (signed o) (ahead ++ bytes)
stated_at (call c) bytes = both (call c) bytes
stated_at (refused n) bytes = unread (refused n) nothing
stated_at (outside o n) bytes = unread (outside o n) (unwritten n)
stated_at (above value n) bytes = unread (refused n) (unwritten n)

unfoldable pub stated : Row → Seen
stated row = stated_at row.meaning row.bytes

-- the bytes that a number above the largest would have
abbrev pub above_bytes : Meaning → List ℕ → List ℕ
above_bytes (number value) bytes = bytes
above_bytes (signed o) bytes = bytes
above_bytes (call c) bytes = bytes
above_bytes (refused n) bytes = bytes
above_bytes (outside o n) bytes = bytes
above_bytes (above value n) bytes = bytes_of value

-- the claim: every row is what the definitions say, and the bytes beside a number above the largest are that number's
pub record EdgeValues : Type 0 where
  pub rows : map seen table ≡ map stated table
  pub aboves : map (λ (row : Row). above_bytes row.meaning row.bytes) table ≡ map (λ (row : Row). row.bytes) table
