-- What becomes of announcements under policy 5, over every list of calls from a fresh space: who puts one, who takes it off, and what is listed of it, in
-- document 02's words.
use Rattle.std.specs.Prelude.{◌≡◌, true, ◌↔◌, ◌⊎◌, ℕ, ◌+◌, ◌≤◌, ◌<◌, length, get_or}
use mathlib.Core.List.{List, [], ◌∷◌, ◌++◌, Memᴰ}
use Rattle.calls.specs.Lists.{list_after, announce_out, OwnCas, Standing, ListedWithin}
use Rattle.calls.specs.Turns.{applied, turns, last}
use Rattle.space.specs.declared.config.Config.{Config}
use Rattle.space.specs.Announcements.{is_announcement}
use Rattle.space.specs.Configs.{sound}
use Rattle.space.specs.Laws.{Announcement}
use Rattle.space.specs.Lists.{Listed}
use Rattle.space.specs.Spaces.{held}
use Rattle.tuple.specs.declared.field.Tuple.{Tuple}
use Rattle.tuple.specs.declared.field.Call.{Call}
use Rattle.tuple.specs.declared.reply.Outcome.TheVariants.{Done, Found, Inserted}
use Rattle.tuple.specs.Fields.{blank_tuple}
use Rattle.tuple.specs.Forms.{announcement}
use Rattle.tuple.specs.Shapes.{field}

-- ---- the words, exactly

-- an announcement stands from its out on exactly if that out was done, its process and serial were not listed then, and it is held in each space behind it, up
-- to the end of the calls
abbrev pub StandingWhen : Type 0
StandingWhen =
    (config : Config) (before calls : List Call) (process serial code : ℕ)
    → Standing config before calls process serial code
    ↔ (((applied (last config before) (announce_out process serial code)).reply.outcome ≡ Done)
    × (Listed (held (last config before)) process serial → ⊥)
    × ((early late : List Call)
    → calls ≡ early ++ late
    → Memᴰ (announcement process serial code) (held (last config (before ++ (announce_out process serial code ∷ early))))))

-- a process and a serial are listed within these positions exactly if the list's tuple at a position behind those filled before, up to the last one, has them
-- in its third and fourth field
abbrev pub WithinWhen : Type 0
WithinWhen =
    (config : Config) (before end : List Call) (last_one process serial : ℕ)
    → ListedWithin config before end last_one process serial
    ↔ ((i : ℕ)
    × (length (list_after config before) ≤ i)
    × (i < last_one)
    × (i < length (list_after config end))
    × ((field (get_or (list_after config end) i blank_tuple) 2).value ≡ process)
    × ((field (get_or (list_after config end) i blank_tuple) 3).value ≡ serial))

-- ---- who puts one

-- the tuple was put by an out (1), answered done, under the number in its second field
pub record AnnouncedBy (config : Config) (calls : List Call) (tuple : Tuple) : Type 0 where
  pub before : List Call
  pub call : Call
  pub behind : List Call
  pub split : calls ≡ before ++ (call ∷ behind)
  pub code : call.code ≡ 1
  pub entry : call.entry ≡ tuple
  pub own : call.process ≡ (field tuple 1).value
  pub done : (applied (last config before) call).reply.outcome ≡ Done

-- each announcement that stands was put by a done out of its own process
abbrev pub AnnouncedByRule : Type 0
AnnouncedByRule =
    (config : Config) (calls : List Call) (tuple : Tuple)
    → sound config ≡ true
    → config.policy ≡ 5
    → Memᴰ tuple (held (last config calls))
    → is_announcement tuple ≡ true
    → AnnouncedBy config calls tuple

-- ---- who takes it off

-- an inp (3) under the number in its second field is answered found with it
pub record TakenOff (config : Config) (before : List Call) (call : Call) (tuple : Tuple) : Type 0 where
  pub code : call.code ≡ 3
  pub own : call.process ≡ (field tuple 1).value
  pub found : (applied (last config before) call).reply ≡ record { outcome = Found; tuple = tuple }

-- an announcement leaves at a call exactly if that is such an inp, of its own process
abbrev pub LeavesRule : Type 0
LeavesRule =
    (config : Config) (before : List Call) (call : Call) (tuple : Tuple)
    → sound config ≡ true
    → config.policy ≡ 5
    → Memᴰ tuple (held (last config before))
    → is_announcement tuple ≡ true
    → (Memᴰ tuple (held (last config (before ++ (call ∷ [])))) → ⊥) ↔ TakenOff config before call tuple

-- and so its standing is in the hands of its own process alone: it stands in every space up to the end of the calls exactly if no inp of that process among
-- them is answered found
abbrev pub OwnHands : Type 0
OwnHands =
    (config : Config) (before calls : List Call) (process serial code : ℕ)
    → sound config ≡ true
    → config.policy ≡ 5
    → (applied (last config before) (announce_out process serial code)).reply.outcome ≡ Done
    → (Listed (held (last config before)) process serial → ⊥)
    → Standing config before calls process serial code
    ↔ ((early : List Call) (call : Call) (late : List Call)
    → calls ≡ early ++ (call ∷ late)
    → call.code ≡ 3
    → call.process ≡ process
    → (applied (last config (before ++ (announce_out process serial code ∷ early))) call).reply.outcome ≡ Found
    → ⊥)

-- ---- what is listed of it

-- while it stands, what is listed of its process and serial has the announced shift, or its own process listed it, by a cas of its own
abbrev pub ShiftListed : Type 0
ShiftListed =
    (config : Config) (before calls : List Call) (process serial code i : ℕ)
    → sound config ≡ true
    → config.policy ≡ 5
    → Standing config before calls process serial code
    → let list = list_after config (before ++ (announce_out process serial code ∷ calls)) in
    i < length list
    → (field (get_or list i blank_tuple) 2).value ≡ process
    → (field (get_or list i blank_tuple) 3).value ≡ serial
    → ((field (get_or list i blank_tuple) 4).value ≡ code) ⊎ OwnCas (turns config (before ++ (announce_out process serial code ∷ calls))) (get_or list i blank_tuple)

-- and so `Helped` with the shift: one of the first n positions behind the out lists that process and serial, with the shift that was announced, or by a cas
-- of its own process
abbrev pub HelpedShift : Type 0
HelpedShift =
    (config : Config) (before calls : List Call) (process serial code : ℕ)
    → sound config ≡ true
    → config.policy ≡ 5
    → Standing config before calls process serial code
    → let end = before ++ (announce_out process serial code ∷ calls) in
    length (list_after config before) + config.n ≤ length (list_after config end)
    → (within : ListedWithin config before end (length (list_after config before) + config.n) process serial)
    × (((field (get_or (list_after config end) within.i blank_tuple) 4).value ≡ code) ⊎ OwnCas (turns config end) (get_or (list_after config end) within.i blank_tuple))

-- what a tuple lists was announced: an announcement of its process, serial and shift stands, which that process's own done out put
pub record AnnouncedFor (config : Config) (calls : List Call) (tuple : Tuple) : Type 0 where
  pub announced : Tuple
  pub stands : Memᴰ announced (held (last config calls))
  pub parts : Announcement announced (field tuple 2).value (field tuple 3).value (field tuple 4).value
  pub by : AnnouncedBy config calls announced

-- an entry that another process lists is one that its own process had announced, serial and shift and all, and that stood then
abbrev pub OthersListed : Type 0
OthersListed =
    (config : Config) (before : List Call) (call : Call)
    → sound config ≡ true
    → config.policy ≡ 5
    → call.code ≡ 4
    → (applied (last config before) call).reply.outcome ≡ Inserted
    → (call.process ≡ (field call.entry 2).value → ⊥)
    → AnnouncedFor config before call.entry

-- ---- so that none of this is empty

-- all that `Helped` asks: an announcement stands while the first n positions behind its out are filled, here by cas calls of one helper alone
pub record Waited (config : Config) (process helper : ℕ) : Type 0 where
  pub before : List Call
  pub calls : List Call
  pub serial : ℕ
  pub code : ℕ
  pub standing : Standing config before calls process serial code
  pub filled : length (list_after config before) + config.n ≤ length (list_after config (before ++ (announce_out process serial code ∷ calls)))
  pub helping : (call : Call) → Memᴰ call calls → (call.code ≡ 4) × (call.process ≡ helper)

-- for every process and every helper, be it another one or itself
abbrev pub EveryWait : Type 0
EveryWait =
    (config : Config) (process helper : ℕ)
    → sound config ≡ true
    → config.policy ≡ 5
    → 1 ≤ process
    → process ≤ config.n
    → 1 ≤ helper
    → helper ≤ config.n
    → Waited config process helper
