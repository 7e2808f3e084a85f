-- Document 01, "What is returned, and for what", and document 02, 2.3, 2.4 and 2.7: the number of each refusal, and the refusal of each number.
use Rattle.std.specs.Prelude.{ℕ, cond, Result, eqb}
use Rattle.tuple.specs.declared.refusal.Refusal.{Refusal}
use Rattle.tuple.specs.declared.refusal.Refusal.TheVariants.{Unsound, Cut, Beyond, Unknown, Misshapen, Stranger, Denied, Full, LongScript, NoRoom, Unfit, SecondProposal, Unborne, Unreached, Unscripted}

abbrev pub number_of : Refusal → ℕ
number_of Unsound = 1
number_of Cut = 2
number_of Beyond = 3
number_of Unknown = 4
number_of Misshapen = 5
number_of Stranger = 6
number_of Denied = 7
number_of Full = 8
number_of LongScript = 9
number_of NoRoom = 10
number_of Unfit = 11
number_of SecondProposal = 12
number_of Unborne = 13
number_of Unreached = 14
number_of Unscripted = 15

-- the definitions name a refusal by its number; what is no number of one is taken for the last
abbrev pub refusal : ℕ → Refusal
refusal number =
    cond (eqb number 1) Unsound
    (cond (eqb number 2) Cut
    (cond (eqb number 3) Beyond
    (cond (eqb number 4) Unknown
    (cond (eqb number 5) Misshapen
    (cond (eqb number 6) Stranger
    (cond (eqb number 7) Denied
    (cond (eqb number 8) Full
    (cond (eqb number 9) LongScript
    (cond (eqb number 10) NoRoom
    (cond (eqb number 11) Unfit
    (cond (eqb number 12) SecondProposal
    (cond (eqb number 13) Unborne
    (cond (eqb number 14) Unreached
    Unscripted)))))))))))))

-- that a test passes, or the refusal
abbrev pub Verdict : Type 0
Verdict = Result (Unit {0}) Refusal
