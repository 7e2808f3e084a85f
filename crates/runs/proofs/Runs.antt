-- The theorem over whole runs: its five fields, each from its own file.
use native.Mathlib.Omega.{arith}
use Rattle.runs.specs.Laws.{Firm}
use Rattle.runs.specs.Theorem.{RunTheorem}
use Rattle.runs.proofs.Agreement.{agreement}
use Rattle.runs.proofs.Demands.{demanded}
use Rattle.runs.proofs.Firmness as firmness
use Rattle.runs.proofs.Firmness.{unanimity}
use Rattle.runs.proofs.Going.{logged}
use Rattle.runs.proofs.Promptness.{promptness}
use Rattle.runs.proofs.Turning.{answered}
use Rattle.runs.proofs.Validity.{validity}

pub run-theorem : RunTheorem
run-theorem config calls safe =
    record {
      answered = λ before behind call split. (answered config calls before behind call split, demanded safe before call);
      agreement = agreement safe (logged config calls safe);
      validity = validity safe (logged config calls safe);
      unanimity = unanimity safe (logged config calls safe);
      promptness = λ before within behind split process round correct own done enough many.
          promptness safe calls before within behind split process round correct own done (omega (arith, enough)) (omega (arith, many));
    }

pub firm : Firm
firm = firmness.firm logged
