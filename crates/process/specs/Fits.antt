-- Document 01, "The procedure of a following seat", and document 02, 2.1: which replies fit. The tuple beside a reply that has none is blank.
use Rattle.std.specs.Prelude.{ℕ, Bool, false, ◌&&◌, eqb}
use Rattle.process.specs.declared.process.Phase.{Phase}
use Rattle.process.specs.declared.process.Phase.TheVariants.{Proposing, Reading, Deciding, Decided}
use Rattle.process.specs.declared.process.Process.{Process}
use Rattle.policy.specs.Shapes.{is_decision, decided_code, set_of}
use Rattle.space.specs.declared.config.Config.{Config}
use Rattle.space.specs.Members.{within}
use Rattle.space.specs.Proposals.{offered, decidable}
use Rattle.space.specs.Shapes.{process_of, proposed_code, round_of, is_proposal}
use Rattle.tuple.specs.declared.field.Tuple.{Tuple}
use Rattle.tuple.specs.declared.reply.Outcome.{Outcome}
use Rattle.tuple.specs.declared.reply.Outcome.TheVariants.{Done, None, Found, Inserted, Held, Refused}
use Rattle.tuple.specs.declared.reply.Reply.{Reply}
use Rattle.tuple.specs.Faults.{is_entry, rest_blank}

-- a proposal of the asked round and process, of an offset that may be proposed, which a well-formed space can hold
unfoldable pub is_asked_proposal : Config → ℕ → ℕ → Tuple → Bool
is_asked_proposal config round asked tuple =
    is_entry tuple && is_proposal tuple && eqb (round_of tuple) round && eqb (process_of tuple) asked && offered config (proposed_code tuple)

-- (word 2, the asked round, what may be decided, seats in 1 to n), which a well-formed space can hold
unfoldable pub is_round_decision : Config → ℕ → Tuple → Bool
is_round_decision config round tuple =
    is_entry tuple && is_decision tuple && eqb (round_of tuple) round && decidable config (decided_code tuple) && within config.n (set_of tuple)

-- done after out
abbrev pub fits_out : Tuple → Outcome → Bool
fits_out tuple Done = rest_blank tuple false
fits_out tuple None = false
fits_out tuple Found = false
fits_out tuple Inserted = false
fits_out tuple Held = false
fits_out tuple (Refused why) = false

-- none, or such a proposal, after rdp
abbrev pub fits_rdp : Config → ℕ → ℕ → Tuple → Outcome → Bool
fits_rdp config round asked tuple Done = false
fits_rdp config round asked tuple None = rest_blank tuple false
fits_rdp config round asked tuple Found = is_asked_proposal config round asked tuple
fits_rdp config round asked tuple Inserted = false
fits_rdp config round asked tuple Held = false
fits_rdp config round asked tuple (Refused why) = false

-- inserted, or held with such a decision, after cas
abbrev pub fits_cas : Config → ℕ → Tuple → Outcome → Bool
fits_cas config round tuple Done = false
fits_cas config round tuple None = false
fits_cas config round tuple Found = false
fits_cas config round tuple Inserted = rest_blank tuple false
fits_cas config round tuple Held = is_round_decision config round tuple
fits_cas config round tuple (Refused why) = false

abbrev pub fits_in : Config → ℕ → Reply → Phase → Bool
fits_in config round reply Proposing = fits_out reply.tuple reply.outcome
fits_in config round reply (Reading asked) = fits_rdp config round asked reply.tuple reply.outcome
fits_in config round reply Deciding = fits_cas config round reply.tuple reply.outcome
fits_in config round reply (Decided code) = false

unfoldable pub fits : Process → Reply → Bool
fits process reply = fits_in process.config process.round reply process.phase
