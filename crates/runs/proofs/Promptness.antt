-- Promptness as the theorem states it, from the sweep over whole lists of calls.
use mathlib.Core.Path.{◌≡◌, subst}
use mathlib.Core.Logic.{⊎_elim}
use Prim.Native.Nat.{ℕ, ◌+◌, ◌-◌, ◌≤◌}
use native.Mathlib.Omega.{arith}
use mathlib.Core.Bool.{Bool, true}
use mathlib.Core.List.{List, ◌++◌}
use Rattle.runs.specs.Correct.{Standing, listed, Correct, amount}
use Rattle.runs.specs.Decisions.{DoneProposal, has_done_proposal, GivenOut, HasDecided, calls_of}
use Rattle.runs.specs.Decisions.GivenOut.{by_state}
use Rattle.runs.specs.Theorem.{SoundConfig}
use Rattle.runs.proofs.Following.{Busy}
use Rattle.runs.proofs.Following.Busy.{reading, deciding}
use Rattle.runs.proofs.Going.{DecidedIn, decided-or-busy}
use Rattle.runs.proofs.Knowing.{asks}
use Rattle.runs.proofs.Monitoring as monitoring
use Rattle.runs.proofs.Monitoring.{has_more}
use Rattle.runs.proofs.Prompt.{Stood, Pending, prompt}
use Rattle.runs.proofs.Prompt.Pending.{reads, casts}
use Rattle.runs.proofs.Proposing.{proposed-stands}
use Rattle.runs.proofs.Sweep.{leg-start}
use Rattle.runs.proofs.Tests.{proposed-rule}
use Rattle.runs.proofs.Watching.{here, held-here}
use Rattle.space.specs.declared.config.Config.{Config}
use Rattle.calls.specs.Turns.{turns}
use Rattle.space.specs.Proposals as space
use Rattle.tuple.specs.declared.field.Tuple.{Tuple}
use Rattle.tuple.specs.declared.field.Call.{Call}
use Rattle.tuple.specs.declared.offset.Offset.{Offset}
use Rattle.tuple.specs.Offsets.{code_of}

module _ {config : Config} (s : SoundConfig config) {calls : List Call} {q : ℕ} (c : Correct config calls q) (round : ℕ) where
  abbrev pub tuples : List Tuple
  tuples = (here s c).tuples

  -- a proposal of the calls stands there
  pub there : {k : ℕ} {v : Offset} → DoneProposal (turns config calls) round k v → space.Proposed config tuples round k (code_of v)
  there {k} {v} p = subst (λ (l : List Tuple). space.Proposed config l round k (code_of v)) (held-here s c) ((proposed-stands s calls v).0 p)

  -- its own proposal done, it has begun the round
  pub own-begun : {v : Offset} → DoneProposal (turns config calls) round q v → listed round c.watch.entered ≡ true
  own-begun p =
      let mine = there p in
      subst (λ (r : ℕ). listed r c.watch.entered ≡ true) mine.placed.in-round ((here s c).now.good.owns mine.placed.tuple mine.placed.stands mine.placed.shape mine.placed.by)

  module _ (enough : config.n - config.t ≤ amount (has_done_proposal (λ code. true) (turns config calls) round) config.n 1) where
    abbrev test : ℕ → Bool
    test = has_done_proposal (λ code. true) (turns config calls) round

    stood : Stood round test tuples
    stood k t =
        let p = (there ((proposed-rule (λ code. true) (turns config calls) round k).0 t).1).placed in (p.tuple, p.stands, p.shape, p.in-round, p.by)

    -- busy there, it waits for n + 1 calls at most
    waits : {standing : Standing} → Busy config q tuples round standing → (m : ℕ) × (m ≤ config.n + 1) × Pending config q round test tuples standing m
    waits (reading asked found k) =
        let a = asks k in
        (config.n + 1, omega arith, reads asked asked config.n found k a.least a.most (leg-start test config.n asked a.least a.most found))
    waits (deciding found k) = (1, omega arith, casts found k)

-- with n + 1 calls more it has its decision
pub has_within : {config : Config} (s : SoundConfig config) (calls more : List Call) {q : ℕ} → Correct config (calls ++ more) q
    → (round : ℕ) {own : Offset} → DoneProposal (turns config calls) round q own
    → config.n - config.t ≤ amount (has_done_proposal (λ code. true) (turns config calls) round) config.n 1
    → config.n + 1 ≤ calls_of q more
    → DecidedIn config (calls ++ more) q round
has_within {config} s calls more {q} later round p enough many =
    let b = monitoring.before config q calls more later in
    let c = b.early in
    let at = here s c in
    ⊎_elim (λ (d : DecidedIn config calls q round). (d.0, has_more config q calls more d.1 later))
    (λ (busy : Busy config q at.tuples round c.watch.standing).
    let w = waits s c round enough busy in
    let d = prompt s c.some c.few round (test s c round enough) enough more at.now (b.goes.0, rw at.space at b.goes.1) (stood s c round enough) w.2
    (omega (arith, w.1)) in
    (d.0, record { correct = later; given = rw (b.gives, at.space) d.1 }))
    (decided-or-busy s c round (own-begun s c round p))

pub promptness : {config : Config} → SoundConfig config → (calls before within behind : List Call) → calls ≡ before ++ within ++ behind
    → (process round : ℕ) → Correct config calls process
    → (own : Offset) → DoneProposal (turns config before) round process own
    → config.n - config.t ≤ amount (has_done_proposal (λ code. true) (turns config before) round) config.n 1
    → config.n + 1 ≤ calls_of process within
    → (offset : Offset) × HasDecided config (before ++ within) process (record { round = round; offset = offset })
    × GivenOut config calls (record { round = round; offset = offset })
promptness {config} s calls before within behind split process round c own p enough many =
    let whole = rw split at c in
    let d = has_within s before within (monitoring.before config process (before ++ within) behind whole).early round p enough many in
    (d.0, d.1, by_state process (record { round = round; offset = d.0 }) (rw split (has_more config process (before ++ within) behind d.1 whole)))
