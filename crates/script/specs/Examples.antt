-- Document 01, "A whole script", and document 02, 2.1 to 2.3, 2.6 to 2.8 and 2.10, by examples: the worked script and short ones, under every policy, as rows
-- of one table with one claim. A script above 65,536 bytes is no row, for `LongRule` speaks of all of them.
use Rattle.std.specs.Prelude.{◌≡◌, ℕ, ◌+◌, ◌*◌, ◌-◌, cond, List, [], ◌∷◌, ◌++◌, map, leb}
use Prim.Native.Char.{Char, code}
use Prim.Native.String.{String, [] as empty, ◌∷◌ as ◌then◌}
use Rattle.script.specs.Printing.{text}
use Rattle.text.specs.Signs.{line_text}

-- ---- bytes

-- what a hexadecimal digit stands for: 0 to 9, A to F
abbrev pub hexadecimal : Char → ℕ
hexadecimal sign = cond (leb (code sign) 57) (code sign - 48) (code sign - 55)

abbrev pub byte_in : Char → Char → ℕ
byte_in high low = 16 * hexadecimal high + hexadecimal low

-- bytes, each as two digits, with a space between them
unfoldable pub bytes_in : String → List ℕ
bytes_in empty = []
bytes_in (sign then empty) = []
bytes_in (high then (low then empty)) = byte_in high low ∷ []
bytes_in (high then (low then (space then signs))) = byte_in high low ∷ bytes_in signs

-- ---- scripts

-- a set-up, a record or nothing, and the line that is printed for it, if one is
pub record Part : Type 0 where
  pub bytes : String
  pub line : String

infix 80 ◌prints◌
abbrev pub ◌prints◌ : String → String → Part
bytes prints line = record { bytes = bytes; line = line }

unfoldable pub script_of : List Part → List ℕ
script_of [] = []
script_of (part ∷ parts) = bytes_in part.bytes ++ script_of parts

unfoldable pub text_of : List Part → List ℕ
text_of [] = []
text_of (part ∷ parts) = line_text part.line ++ text_of parts

-- ---- the table

abbrev pub rows : List (List Part)
rows =
    -- document 01's worked script; line 4 as document 02, 2.3, has it
    ("04 01 02" prints "board 4 1 2"
    ∷ "01 01 04 04 01 08 00 08 01 0C 50" prints "1 done"
    ∷ "02 01 04 04 01 08 00 08 02 0C 51" prints "2 done"
    ∷ "03 01 04 04 01 08 00 08 03 0C 50" prints "3 done"
    ∷ "04 04 04 04 02 08 00 0E 11 04 04 02 08 00 0C 51 10 02" prints "4 refused 13"
    ∷ "01 04 04 04 02 08 00 0E 11 04 04 02 08 00 0C 50 10 05" prints "5 inserted"
    ∷ "02 02 04 04 02 08 00 0E 11" prints "6 found w2 c0 o-40 s5"
    ∷ "05 02 01 05" prints "7 refused 6"
    ∷ "" prints "tuples 4"
    ∷ [])
    -- policy 0: word 255, and word 256, which can't be read, so that the record behind it is not made
    ∷ ("04 01 00" prints "board 4 1 0"
    ∷ "01 01 01 04 FF 01" prints "1 done"
    ∷ "01 02 01 05" prints "2 found w255"
    ∷ "01 01 01 04 80 02" prints "3 refused 3"
    ∷ "01 01 01 04 01" prints ""
    ∷ "" prints "tuples 1"
    ∷ [])
    -- six fields, with the largest values of their kinds, and the mark
    ∷ ("04 01 00" prints "board 4 1 0"
    ∷ "01 01 06 04 FF 01 08 FF FF FF FF FF FF FF FF FF 01 0C C1 9A 0C 0C C0 9A 0C 10 FF FF FF FF 07 0C 00"
    prints "1 done"
    ∷ "01 02 06 05 09 0D 0D 11 0D" prints "2 found w255 c18446744073709551615 o100000 o-100000 s2147483647 o_"
    ∷ "" prints "tuples 1"
    ∷ [])
    -- three tuples, of which inp takes the second off, and then the first; process 0
    ∷ ("04 01 00" prints "board 4 1 0"
    ∷ "01 01 02 04 09 08 01" prints "1 done"
    ∷ "01 01 02 04 09 08 02" prints "2 done"
    ∷ "01 01 02 04 09 08 03" prints "3 done"
    ∷ "01 03 02 05 08 02" prints "4 found w9 c2"
    ∷ "01 03 02 05 0A" prints "5 found w9 c1"
    ∷ "01 02 02 05 0A" prints "6 found w9 c3"
    ∷ "00 02 01 05" prints "7 refused 6"
    ∷ "01 02 01 05" prints "8 none"
    ∷ "" prints "tuples 1"
    ∷ [])
    -- the mark is no number, zero included
    ∷ ("04 01 00" prints "board 4 1 0"
    ∷ "01 01 02 04 01 0C 00" prints "1 done"
    ∷ "01 02 02 04 01 0C 01" prints "2 none"
    ∷ "01 02 02 04 01 0E" prints "3 found w1 o_"
    ∷ "01 01 02 04 02 0C 01" prints "4 done"
    ∷ "01 02 02 04 02 0C 00" prints "5 none"
    ∷ "01 02 02 04 02 0D" prints "6 found w2 o0"
    ∷ "" prints "tuples 2"
    ∷ [])
    -- a cas without a match, and one with a match, which is held; ten records and more
    ∷ ("04 01 00" prints "board 4 1 0"
    ∷ "01 04 01 04 07 01 04 07" prints "1 inserted"
    ∷ "02 04 01 05 01 04 08" prints "2 held w7"
    ∷ "01 02 01 04 08" prints "3 none"
    ∷ "01 02 02 05 05" prints "4 none"
    ∷ "01 02 01 09" prints "5 none"
    ∷ "01 03 01 04 07" prints "6 found w7"
    ∷ "01 03 01 06" prints "7 none"
    ∷ "02 04 01 05 01 04 08" prints "8 inserted"
    ∷ "01 02 01 06" prints "9 found w8"
    ∷ "01 03 01 06" prints "10 found w8"
    ∷ "01 02 01 06" prints "11 none"
    ∷ "" prints "tuples 0"
    ∷ [])
    -- a record that is cut
    ∷ ("04 01 00" prints "board 4 1 0"
    ∷ "01 01 01 04 01" prints "1 done"
    ∷ "01 01 01 04" prints "2 refused 2"
    ∷ "" prints "tuples 1"
    ∷ [])
    -- codes 0 and 5
    ∷ ("04 01 00" prints "board 4 1 0" ∷ "01 00" prints "1 refused 4" ∷ "" prints "tuples 0" ∷ [])
    ∷ ("04 01 00" prints "board 4 1 0" ∷ "01 05 01 04 01" prints "1 refused 4" ∷ "" prints "tuples 0" ∷ [])
    -- head 11, no field, seven fields, any word in an entry
    ∷ ("04 01 00" prints "board 4 1 0" ∷ "01 02 01 0B" prints "1 refused 4" ∷ "" prints "tuples 0" ∷ [])
    ∷ ("04 01 00" prints "board 4 1 0" ∷ "01 02 00" prints "1 refused 5" ∷ "" prints "tuples 0" ∷ [])
    ∷ ("04 01 00" prints "board 4 1 0" ∷ "01 02 07 05 05 05 05 05 05 05" prints "1 refused 5" ∷ "" prints "tuples 0" ∷ [])
    ∷ ("04 01 00" prints "board 4 1 0" ∷ "01 01 01 05" prints "1 refused 5" ∷ "" prints "tuples 0" ∷ [])
    -- offsets 100,001 and -100,001, and a process set of 2,147,483,648; one of 32,768 is read, and the record behind it too
    ∷ ("04 01 00" prints "board 4 1 0" ∷ "01 01 01 0C C3 9A 0C" prints "1 refused 3" ∷ "" prints "tuples 0" ∷ [])
    ∷ ("04 01 00" prints "board 4 1 0" ∷ "01 01 01 0C C2 9A 0C" prints "1 refused 3" ∷ "" prints "tuples 0" ∷ [])
    ∷ ("04 01 00" prints "board 4 1 0" ∷ "01 01 01 10 80 80 80 80 08" prints "1 refused 3" ∷ "" prints "tuples 0" ∷ [])
    ∷ ("04 01 00" prints "board 4 1 0"
    ∷ "01 01 01 10 80 80 02" prints "1 done"
    ∷ "01 02 01 11" prints "2 found s32768"
    ∷ "" prints "tuples 1"
    ∷ [])
    -- 2^32 + 1 as a count is read and printed; as a code, a head (2^32 + 4), a field count, a word, an offset and a process set it is refused by the rule of each
    ∷ ("04 01 00" prints "board 4 1 0"
    ∷ "01 01 01 08 81 80 80 80 10" prints "1 done"
    ∷ "01 02 01 0A" prints "2 found c4294967297"
    ∷ "" prints "tuples 1"
    ∷ [])
    ∷ ("04 01 00" prints "board 4 1 0" ∷ "01 81 80 80 80 10 01 04 01" prints "1 refused 4" ∷ "" prints "tuples 0" ∷ [])
    ∷ ("04 01 00" prints "board 4 1 0" ∷ "01 01 01 84 80 80 80 10 01" prints "1 refused 4" ∷ "" prints "tuples 0" ∷ [])
    ∷ ("04 01 00" prints "board 4 1 0" ∷ "01 01 81 80 80 80 10 04 01" prints "1 refused 5" ∷ "" prints "tuples 0" ∷ [])
    ∷ ("04 01 00" prints "board 4 1 0" ∷ "01 01 01 04 81 80 80 80 10" prints "1 refused 3" ∷ "" prints "tuples 0" ∷ [])
    ∷ ("04 01 00" prints "board 4 1 0" ∷ "01 01 01 0C 81 80 80 80 10" prints "1 refused 3" ∷ "" prints "tuples 0" ∷ [])
    ∷ ("04 01 00" prints "board 4 1 0" ∷ "01 01 01 10 81 80 80 80 10" prints "1 refused 3" ∷ "" prints "tuples 0" ∷ [])
    -- the largest process of a record reads; 2^32 + 1 is refused where it stands, before a code 9 and where the script ends
    ∷ ("04 01 00" prints "board 4 1 0" ∷ "FF FF FF FF 0F 02 01 05" prints "1 refused 6" ∷ "00 02 01 05" prints "2 refused 6" ∷ "" prints "tuples 0" ∷ [])
    ∷ ("04 01 00" prints "board 4 1 0" ∷ "81 80 80 80 10 01 01 04 01" prints "1 refused 3" ∷ "" prints "tuples 0" ∷ [])
    ∷ ("04 01 00" prints "board 4 1 0" ∷ "81 80 80 80 10 09" prints "1 refused 3" ∷ "" prints "tuples 0" ∷ [])
    ∷ ("04 01 00" prints "board 4 1 0" ∷ "81 80 80 80 10" prints "1 refused 3" ∷ "" prints "tuples 0" ∷ [])
    -- counts that are cut after five bytes and after nine, and that have a tenth byte 02, a tenth byte 00, and eleven bytes
    ∷ ("04 01 00" prints "board 4 1 0" ∷ "01 01 01 08 FF FF FF FF FF" prints "1 refused 2" ∷ "" prints "tuples 0" ∷ [])
    ∷ ("04 01 00" prints "board 4 1 0" ∷ "01 01 01 08 FF FF FF FF FF FF FF FF FF" prints "1 refused 2" ∷ "" prints "tuples 0" ∷ [])
    ∷ ("04 01 00" prints "board 4 1 0" ∷ "01 01 01 08 FF FF FF FF FF FF FF FF FF 02" prints "1 refused 3" ∷ "" prints "tuples 0" ∷ [])
    ∷ ("04 01 00" prints "board 4 1 0" ∷ "01 01 01 08 80 80 80 80 80 80 80 80 80 00" prints "1 refused 3" ∷ "" prints "tuples 0" ∷ [])
    ∷ ("04 01 00" prints "board 4 1 0" ∷ "01 01 01 08 FF FF FF FF FF FF FF FF FF FF 01" prints "1 refused 3" ∷ "" prints "tuples 0" ∷ [])
    -- policy 1: any in the place of open, the mark, round 8 and rdp are denied; a second cas of a round is held
    ∷ ("04 01 01" prints "board 4 1 1"
    ∷ "01 04 03 04 02 08 00 0D 03 04 02 08 00 0C 51" prints "1 refused 7"
    ∷ "01 04 03 04 02 08 00 0E 03 04 02 08 00 0C 00" prints "2 refused 7"
    ∷ "01 04 03 04 02 08 00 0E 03 04 02 08 00 0C 51" prints "3 inserted"
    ∷ "02 04 03 04 02 08 00 0E 03 04 02 08 00 0C 50" prints "4 held w2 c0 o40"
    ∷ "01 04 03 04 02 08 07 0E 03 04 02 08 07 0C 50" prints "5 inserted"
    ∷ "01 04 03 04 02 08 08 0E 03 04 02 08 08 0C 50" prints "6 refused 7"
    ∷ "01 02 01 05" prints "7 refused 7"
    ∷ "" prints "tuples 2"
    ∷ [])
    -- policy 2: round 8 and inp are denied, a second proposal is refused 12; three proposals bear the mark, and two do not
    ∷ ("04 01 02" prints "board 4 1 2"
    ∷ "01 01 04 04 01 08 07 08 01 0C 51" prints "1 done"
    ∷ "01 01 04 04 01 08 08 08 01 0C 51" prints "2 refused 7"
    ∷ "01 01 04 04 01 08 07 08 01 0C 50" prints "3 refused 12"
    ∷ "02 01 04 04 01 08 07 08 02 0C 50" prints "4 done"
    ∷ "03 01 04 04 01 08 07 08 03 0C 01" prints "5 done"
    ∷ "03 03 04 04 01 08 07 09 0E" prints "6 refused 7"
    ∷ "01 04 04 04 02 08 07 0E 11 04 04 02 08 07 0C 00 10 03" prints "7 refused 13"
    ∷ "01 04 04 04 02 08 07 0E 11 04 04 02 08 07 0C 00 10 07" prints "8 inserted"
    ∷ "04 02 04 04 02 08 07 0E 11" prints "9 found w2 c7 o_ s7"
    ∷ "" prints "tuples 4"
    ∷ [])
    -- a proposal for another process and a set above n are denied; two proposals bear 40, so that the mark is not borne (13); once decided, a good cas is held
    ∷ ("04 01 02" prints "board 4 1 2"
    ∷ "01 01 04 04 01 08 00 08 01 0C 51" prints "1 done"
    ∷ "02 01 04 04 01 08 00 08 02 0C 51" prints "2 done"
    ∷ "03 01 04 04 01 08 00 08 03 0C 50" prints "3 done"
    ∷ "03 01 04 04 01 08 00 08 04 0C 50" prints "4 refused 7"
    ∷ "03 04 04 04 02 08 00 0E 11 04 04 02 08 00 0C 00 10 07" prints "5 refused 13"
    ∷ "03 04 04 04 02 08 00 0E 11 04 04 02 08 00 0C 51 10 13" prints "6 refused 7"
    ∷ "03 04 04 04 02 08 00 0E 11 04 04 02 08 00 0C 51 10 03" prints "7 inserted"
    ∷ "04 01 04 04 01 08 00 08 04 0C 50" prints "8 done"
    ∷ "04 04 04 04 02 08 00 0E 11 04 04 02 08 00 0C 50 10 0C" prints "9 held w2 c0 o40 s3"
    ∷ "04 04 04 04 02 08 00 0E 11 04 04 02 08 00 0C 51 10 0C" prints "10 refused 13"
    ∷ "" prints "tuples 5"
    ∷ [])
    -- policy 3, two choices: 2 and the mark are none, a second proposal is refused 12; two processes bear 1, and one does not
    ∷ ("04 01 03 02" prints "board 4 1 3 2"
    ∷ "01 01 04 04 01 08 00 08 01 0C 03" prints "1 done"
    ∷ "01 01 04 04 01 08 00 08 01 0C 01" prints "2 refused 12"
    ∷ "02 01 04 04 01 08 00 08 02 0C 05" prints "3 refused 7"
    ∷ "02 01 04 04 01 08 00 08 02 0C 03" prints "4 done"
    ∷ "02 04 04 04 02 08 00 0E 11 04 04 02 08 00 0C 00 10 03" prints "5 refused 7"
    ∷ "02 04 04 04 02 08 00 0E 11 04 04 02 08 00 0C 03 10 01" prints "6 refused 13"
    ∷ "02 04 04 04 02 08 00 0E 11 04 04 02 08 00 0C 03 10 03" prints "7 inserted"
    ∷ "03 02 04 04 02 08 00 0E 11" prints "8 found w2 c0 o1 s3"
    ∷ "" prints "tuples 3"
    ∷ [])
    -- policy 4: a taken position is held; position 3 before 2, the mark, an entry for another process, a serial twice, inp and out are denied
    ∷ ("04 01 04" prints "board 4 1 4"
    ∷ "01 04 05 04 03 08 01 09 09 0E 05 04 03 08 01 08 01 08 07 0C 50" prints "1 inserted"
    ∷ "03 04 05 04 03 08 01 09 09 0E 05 04 03 08 01 08 03 08 07 0C 51" prints "2 held w3 c1 c1 c7 o-40"
    ∷ "03 04 05 04 03 08 03 09 09 0E 05 04 03 08 03 08 03 08 07 0C 51" prints "3 refused 7"
    ∷ "03 04 05 04 03 08 02 09 09 0E 05 04 03 08 02 08 03 08 07 0C 00" prints "4 refused 7"
    ∷ "03 04 05 04 03 08 02 09 09 0E 05 04 03 08 02 08 02 08 07 0C 51" prints "5 refused 7"
    ∷ "01 04 05 04 03 08 02 09 09 0E 05 04 03 08 02 08 01 08 07 0C 51" prints "6 refused 7"
    ∷ "03 04 05 04 03 08 02 09 09 0E 05 04 03 08 02 08 03 08 07 0C 51" prints "7 inserted"
    ∷ "01 02 05 04 03 08 02 09 09 0E" prints "8 found w3 c2 c3 c7 o40"
    ∷ "01 03 05 04 03 08 02 09 09 0E" prints "9 refused 7"
    ∷ "02 01 05 04 03 08 03 08 02 08 07 0C 51" prints "10 refused 7"
    ∷ "" prints "tuples 2"
    ∷ [])
    -- policy 5: process 2 announces 40, once; at position 2, where it is preferred, process 1 may list that alone; only process 2 takes it off
    ∷ ("02 00 05" prints "board 2 0 5"
    ∷ "02 01 04 04 04 08 02 08 09 0C 00" prints "1 refused 7"
    ∷ "01 01 04 04 04 08 02 08 09 0C 51" prints "2 refused 7"
    ∷ "02 01 04 04 04 08 02 08 09 0C 51" prints "3 done"
    ∷ "02 01 04 04 04 08 02 08 0A 0C 51" prints "4 refused 7"
    ∷ "01 04 05 04 03 08 01 09 09 0E 05 04 03 08 01 08 01 08 07 0C 50" prints "5 inserted"
    ∷ "01 04 05 04 03 08 02 09 09 0E 05 04 03 08 02 08 01 08 08 0C 50" prints "6 refused 7"
    ∷ "01 04 05 04 03 08 02 09 09 0E 05 04 03 08 02 08 02 08 09 0C 51" prints "7 inserted"
    ∷ "01 03 04 04 04 08 02 09 0E" prints "8 refused 7"
    ∷ "02 03 04 04 04 08 02 09 0E" prints "9 found w4 c2 c9 o40"
    ∷ "02 02 05 04 03 08 02 09 09 0E" prints "10 found w3 c2 c2 c9 o40"
    ∷ "" prints "tuples 2"
    ∷ [])
    -- set-ups that stand: one process, fifteen, thirty-one of which ten may be faulty, also with two choices, eight choices
    ∷ ("01 00 00" prints "board 1 0 0" ∷ "" prints "tuples 0" ∷ [])
    ∷ ("0F 04 02" prints "board 15 4 2" ∷ "" prints "tuples 0" ∷ [])
    ∷ ("1F 0A 02" prints "board 31 10 2" ∷ "" prints "tuples 0" ∷ [])
    ∷ ("1F 0A 03 02" prints "board 31 10 3 2" ∷ "" prints "tuples 0" ∷ [])
    ∷ ("0A 01 03 08" prints "board 10 1 3 8" ∷ "" prints "tuples 0" ∷ [])
    -- set-ups that end too early: at once, inside t, before the policy number, before k, and before k where n would be refused 1
    ∷ ("" prints "refused 2" ∷ [])
    ∷ ("04 81" prints "refused 2" ∷ [])
    ∷ ("04 01" prints "refused 2" ∷ [])
    ∷ ("04 01 03" prints "refused 2" ∷ [])
    ∷ ("00 01 03" prints "refused 2" ∷ [])
    -- numbers of a set-up that are not shortest, or too long, with a tenth byte 02: n, t, the policy number, k
    ∷ ("84 00 01 02" prints "refused 3" ∷ [])
    ∷ ("04 82 00 02" prints "refused 3" ∷ [])
    ∷ ("04 FF FF FF FF FF FF FF FF FF 02 02" prints "refused 3" ∷ [])
    ∷ ("04 01 82 00" prints "refused 3" ∷ [])
    ∷ ("04 01 03 80 00" prints "refused 3" ∷ [])
    -- set-ups that are not sound: no process, thirty-two, n below 3t + 1 (also with the most processes, and where 3t + 1 would wrap), policy 6
    ∷ ("00 00 02" prints "refused 1" ∷ [])
    ∷ ("20 00 02" prints "refused 1" ∷ [])
    ∷ ("03 01 02" prints "refused 1" ∷ [])
    ∷ ("1F 0B 02" prints "refused 1" ∷ [])
    ∷ ("04 D5 AA D5 AA 05 02" prints "refused 1" ∷ [])
    ∷ ("04 01 06" prints "refused 1" ∷ [])
    -- long numbers of a set-up: n and t that are 4 and 1 in their low 32 bits, the policies 2 and 3 (no k follows), and k; a long t
    ∷ ("84 80 80 80 10 01 02" prints "refused 1" ∷ [])
    ∷ ("04 81 80 80 80 10 02" prints "refused 1" ∷ [])
    ∷ ("04 01 82 80 80 80 10" prints "refused 1" ∷ [])
    ∷ ("04 01 83 80 80 80 10" prints "refused 1" ∷ [])
    ∷ ("04 01 03 82 80 80 80 10" prints "refused 1" ∷ [])
    ∷ ("04 FF FF FF FF 10 02" prints "refused 1" ∷ [])
    -- a long n before a t that is cut, and before one that is not shortest
    ∷ ("84 80 80 80 10 81" prints "refused 2" ∷ [])
    ∷ ("84 80 80 80 10 81 00 02" prints "refused 3" ∷ [])
    -- t where 3t + 1, and with eight choices 9t + 1, would wrap at 64 bits
    ∷ ("04 D5 AA D5 AA D5 AA D5 AA 55 02" prints "refused 1" ∷ [])
    ∷ ("0A F2 B8 9C 8E C7 E3 F1 B8 1C 03 08" prints "refused 1" ∷ [])
    -- one choice, nine choices, and n below (k + 1)t + 1
    ∷ ("04 01 03 01" prints "refused 1" ∷ [])
    ∷ ("0F 01 03 09" prints "refused 1" ∷ [])
    ∷ ("09 01 03 08" prints "refused 1" ∷ [])
    ∷ []

-- the claim: each script prints these lines, and no other byte
abbrev pub ExampleTexts : Type 0
ExampleTexts = map (λ (parts : List Part). text (script_of parts)) rows ≡ map text_of rows
