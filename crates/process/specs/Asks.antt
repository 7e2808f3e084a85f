-- Document 01, "The procedure of a following seat": the calls that a process makes.
use Rattle.std.specs.Prelude.{ℕ}
use Rattle.tuple.specs.declared.field.Call.{Call}
use Rattle.tuple.specs.Fields.{out, rdp, cas, blank_tuple}
use Rattle.tuple.specs.Forms.{proposal, proposal_template, decision_template, decision_entry}

-- its proposal, the reading of process q's proposal, and its cas
abbrev pub out_call : ℕ → ℕ → ℕ → Call
out_call process round code = record { process = process; code = out; template = blank_tuple; entry = proposal round process code }

abbrev pub rdp_call : ℕ → ℕ → ℕ → Call
rdp_call process round q = record { process = process; code = rdp; template = proposal_template round q; entry = blank_tuple }

abbrev pub cas_call : ℕ → ℕ → ℕ → ℕ → Call
cas_call process round code set = record { process = process; code = cas; template = decision_template round; entry = decision_entry round code set }
