-- Document 02, 2.11: the laws of the first stray, as claims over the definitions. All but that of refusals speak of a script that is not refused, in numbers.
use Rattle.std.specs.Prelude.{◌≡◌, true, false, List, [], ◌∷◌, ◌++◌, ◌↔◌, ◌⊎◌, ℕ, ◌+◌, ◌-◌, ◌≤◌, ◌<◌, length, take, Err, None, Ok, Some}
use Rattle.std.specs.Int.Count.{ones}
use Rattle.monitor.specs.Strays.{stray_of}
use Rattle.calls.specs.Turns.{last, Turn, turns}
use Rattle.policy.specs.Policies.{verdict_on}
use Rattle.record.specs.Reading.{place}
use Rattle.record.specs.Writing.{Typed}
use Rattle.runs.specs.Correct.{Correct}
use Rattle.runs.specs.Correct.Standing.{idle}
use Rattle.runs.specs.Laws.{MayCall}
use Rattle.runs.specs.Theorem.{SoundConfig, FewFaulty}
use Rattle.script.specs.Scripts.{config_of, records_at}
use Rattle.space.specs.declared.config.Config.{Config}
use Rattle.space.specs.Configs.{sound}
use Rattle.space.specs.Members.{Member}
use Rattle.space.specs.Spaces.{held}
use Rattle.tuple.specs.declared.field.Call.{Call}
use Rattle.tuple.specs.declared.refusal.Refusal.{Refusal}
use Rattle.tuple.specs.declared.reply.Outcome.TheVariants as outcome
use Rattle.tuple.specs.Faults.{call_fault}
use Rattle.tuple.specs.Refusals.{number_of, refusal}
use Rattle.varint.specs.Reading.{Bytes}

-- policy 2 or 3
abbrev pub Decides : Config → Type 0
Decides config = (config.policy ≡ 2) ⊎ (config.policy ≡ 3)

-- a script that is not refused: at most 65,536 bytes, a set-up that reads and is sound under policy 2 or 3, and no member above n; and the calls that it reads as
pub record Judged (s : List ℕ) (set : ℕ) (config : Config) (calls : List Call) : Type 0 where
  pub short : length s ≤ 65_536
  pub at : ℕ
  pub set-up : config_of s ≡ Ok (config, place at)
  pub good : sound config ≡ true
  pub policy : Decides config
  pub members : (k : ℕ) → Member k set → k ≤ config.n
  pub reads : (records_at s at).calls ≡ calls

-- ---- yes and no

-- all follow exactly when every member is correct on these calls
abbrev pub FollowRule : Type 0
FollowRule =
    (s : List ℕ) (set : ℕ) (config : Config) (calls : List Call)
    → Judged s set config calls
    → (stray_of s set ≡ Ok None) ↔ ((k : ℕ) → Member k set → Correct config calls k)

-- the first record in which a member makes a call that the procedure would not make there: every member is correct on the calls before it, and the one
-- under whose number it stands is not with it
pub record FirstStray (config : Config) (calls : List Call) (set i : ℕ) : Type 0 where
  pub before : List Call
  pub call : Call
  pub behind : List Call
  pub split : calls ≡ before ++ (call ∷ behind)
  pub counted : length before + 1 ≡ i
  pub all : (k : ℕ) → Member k set → Correct config before k
  pub member : Member call.process set
  pub strays : Correct config (before ++ (call ∷ [])) call.process → ⊥

abbrev pub StrayRule : Type 0
StrayRule =
    (s : List ℕ) (set : ℕ) (config : Config) (calls : List Call) (i : ℕ)
    → Judged s set config calls
    → (stray_of s set ≡ Ok (Some i)) ↔ FirstStray config calls set i

-- the number is at least 1 and at most 65,536: a script has no more records than bytes
abbrev pub NumberRule : Type 0
NumberRule = (s : List ℕ) (set i : ℕ) → stray_of s set ≡ Ok (Some i) → (1 ≤ i) × (i ≤ 65_536)

-- ---- refusals

-- in this order: 9 for more than 65,536 bytes, whatever they are; 2 or 3 for a set-up that can't be read; 1 for one that is not sound, and for every policy but
-- 2 and 3; and 6 for a member above n, whatever the records are
pub data RefusedFor (s : List ℕ) (set : ℕ) : Refusal → Type 0 where
  long : 65_536 < length s → RefusedFor s set (refusal 9)
  unreadable : (why : Refusal) → length s ≤ 65_536 → config_of s ≡ Err why → (number_of why ≡ 2) ⊎ (number_of why ≡ 3) → RefusedFor s set why
  unsound : (config : Config) (at : ℕ) → length s ≤ 65_536 → config_of s ≡ Ok (config, place at)
      → (sound config ≡ false) ⊎ (Decides config → ⊥) → RefusedFor s set (refusal 1)
  beyond : (config : Config) (at : ℕ) → length s ≤ 65_536 → config_of s ≡ Ok (config, place at) → sound config ≡ true → Decides config
      → (k : ℕ) → Member k set → config.n < k → RefusedFor s set (refusal 6)

abbrev pub RefusalOrder : Type 0
RefusalOrder = (s : List ℕ) (set : ℕ) (why : Refusal) → (stray_of s set ≡ Err why) ↔ RefusedFor s set why

-- ---- the proposal is the process's free choice

-- between rounds a correct process may make an out (1) without fault exactly if the policy permits it on the space as it is: any round and offset that this lets it
-- propose, and that it has not begun the round before is that no proposal of its own stands there
abbrev pub FreeChoice : Type 0
FreeChoice =
    (config : Config) (calls : List Call) (process : ℕ) (call : Call)
    → SoundConfig config
    → (c : Correct config calls process)
    → c.watch.standing ≡ idle
    → Typed call
    → call.process ≡ process
    → call.code ≡ 1
    → call_fault call ≡ Ok tt
    → MayCall config process c.watch.entered call c.watch.standing ↔ (verdict_on config (held (last config calls)) call ≡ Ok tt)

-- ---- scripts that stop

-- where all follow, they follow in every script that ends earlier behind the set-up, between two records or within one, which then can't be read
abbrev pub Halfway : Type 0
Halfway =
    (s : List ℕ) (config : Config) (set at bytes : ℕ)
    → Bytes s
    → config_of s ≡ Ok (config, place at)
    → at ≤ bytes
    → stray_of s set ≡ Ok None
    → stray_of (take bytes s) set ≡ Ok None

-- ---- refused calls

-- if a call is under a member's number and is answered refused, the answer is its number among all calls, from 1 on, or a smaller one
abbrev pub RefusedStrays : Type 0
RefusedStrays =
    (s : List ℕ) (set : ℕ) (config : Config) (calls : List Call) (before behind : List Turn) (turn : Turn) (why : Refusal)
    → Judged s set config calls
    → turns config calls ≡ before ++ (turn ∷ behind)
    → Member turn.call.process set
    → turn.reply.outcome ≡ outcome.Refused why
    → (j : ℕ) × (stray_of s set ≡ Ok (Some j)) × (j ≤ length before + 1)

-- ---- what a yes gives

-- if all follow, and the set holds at least n - t processes, at most t are faulty in these calls, so that the theorem over runs speaks of them
abbrev pub Certificate : Type 0
Certificate =
    (s : List ℕ) (set : ℕ) (config : Config) (calls : List Call)
    → Judged s set config calls
    → stray_of s set ≡ Ok None
    → config.n - config.t ≤ ones set
    → FewFaulty config calls
