-- Document 01, "Bytes" and "Fields and tuples": the number that stands for an offset, over the whole numbers.
use Rattle.std.specs.Prelude.{ℕ, ◌+◌, ◌*◌, ◌/◌, ◌%◌, Bool, true, cond, leb, eqb, pos, negsuc, neg_ℤ, nat_abs, Err, Ok, Result}
use Rattle.tuple.specs.declared.offset.Offset.{Offset}
use Rattle.tuple.specs.declared.offset.Offset.TheVariants.{Bottom, Hundredths}
use Rattle.tuple.specs.declared.refusal.Refusal.{Refusal}
use Rattle.tuple.specs.Bounds.{largest_offset, largest_code}
use Rattle.tuple.specs.Refusals.{refusal}

-- the number that stands for bottom (01's default mark)
abbrev pub bottom : ℕ
bottom = 0

-- bottom, or an offset from the least to the largest
abbrev pub in_range : Offset → Bool
in_range Bottom = true
in_range (Hundredths z) = leb (nat_abs z) largest_offset

-- 0 for bottom, 1 + 2z for z from zero up, -2z for z below zero; `negsuc k` is -(k + 1)
abbrev pub code_of : Offset → ℕ
code_of Bottom = bottom
code_of (Hundredths (pos z)) = 1 + 2 * z
code_of (Hundredths (negsuc k)) = 2 * (k + 1)

-- the offset that a number stands for
abbrev pub offset_of : ℕ → Offset
offset_of code =
    cond (eqb code bottom) Bottom (cond (eqb (code % 2) 1) (Hundredths (pos (code / 2))) (Hundredths (neg_ℤ (pos (code / 2)))))

-- what coding an offset answers, on every offset
unfoldable pub coded_of : Offset → Result ℕ Refusal
coded_of offset = cond (in_range offset) (Ok (code_of offset)) (Err (refusal 3))

-- what decoding a number answers, on every number
unfoldable pub decoded_of : ℕ → Result Offset Refusal
decoded_of code = cond (leb code largest_code) (Ok (offset_of code)) (Err (refusal 3))
