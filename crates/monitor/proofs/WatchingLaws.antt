-- The loop over the records, one turn at a time: what is kept of each member stands for what the monitor keeps behind the calls made so far, so that the end, or
-- the first call that is not due, is the answer. From the laws of the answer, of the monitor and of records.
use mathlib.Core.Path.{◌≡◌, refl, sym, ap, ◌∙◌, subst}
use mathlib.Core.Bool.{Bool, true, false, cond, not, false≢true}
use mathlib.Core.List.{List, [], ◌∷◌, ◌++◌, append-nil}
use Prim.Native.Nat.{ℕ, ◌+◌, ◌-◌, ◌/◌, ◌%◌, ◌^◌, ◌≤◌, ◌<◌}
use native.Mathlib.Omega.{arith}
use lib.Dec.{ltb, leb, eqb}
use lib.ListN.{length, get_or, replicate, length-append, length-set, length-replicate, get_or-replicate}
use lib.ListN.{set as set·}
use lib.Seq.{append_snoc, get_or-set_same, get_or-set_other}
use borrow.Author.Tests.{eq-eqb, ne_eqb, lt-ltb, le-ltb, leb-true, leb-false, eqb-true, eqb-false, not-true, not-false}
use borrow.Table.Steps.{cases}
use Rattle.std.proofs.Common.{Option, Some, None, Ok, Err, Result}
use Rattle.std.proofs.Math.Nat.{div-eq_of_lt}
use Rattle.std.proofs.Math.Pow.{pow_mono}
use Rattle.monitor.specs.declared.tracked.Tracked.{Tracked}
use Rattle.monitor.specs.Laws.{Judged, FirstStray}
use Rattle.monitor.specs.Private.{untracked, is_member, took_by, judged_turn}
use Rattle.monitor.specs.Strays.{stray_of}
use Rattle.monitor.proofs.StrayLaws.{follow-rule, stray-rule}
use Rattle.monitor.proofs.WatchLaws.{Kept, kept-first, kept-other, due-same, kept-took}
use Rattle.calls.specs.declared.turn.Applied.{Applied}
use Rattle.calls.specs.Changes.{carried_out}
use Rattle.calls.specs.Turns.{carried_by, applied, turns_from, last_of, last}
use Rattle.calls.proofs.RunSteps.{fresh-space, run-formed, fresh-run, after_run}
use Rattle.record.specs.declared.reader.Cursor.{Cursor}
use Rattle.runs.specs.Correct.{Watch, due, Correct}
use Rattle.runs.proofs.Monitoring.{right-same}
use Rattle.runs.proofs.MonitorLaws.{monitor-rules}
use Rattle.runs.proofs.Starting.{due-rule}
use Rattle.runs.proofs.Turning.{last_more}
use Rattle.script.specs.declared.steps.Stepped.{Stepped}
use Rattle.script.specs.Laws.{Goes, StepRule}
use Rattle.script.specs.Scripts.{Records, script_head, records_at, ran}
use Rattle.script.specs.Steps.{step_at}
use Rattle.script.proofs.RecordLaws.{records-end}
use Rattle.script.proofs.ScriptLaws.{Standing, head-stands}
use Rattle.script.proofs.StepLaws.{step-rules}
use Rattle.space.specs.declared.config.Config.{Config}
use Rattle.space.specs.declared.space.Space.{Space}
use Rattle.space.specs.Bounds.{processes}
use Rattle.space.specs.Configs.{sound, has_proposals}
use Rattle.space.specs.Members.{Member, every, within}
use Rattle.space.specs.Spaces.{space_of, well_formed}
use Rattle.space.proofs.ConfigLaws.{sound-range, proposals-rule}
use Rattle.space.proofs.MemberLaws.{within-rule, every-rule}
use Rattle.tuple.specs.declared.field.Call.{Call}
use Rattle.tuple.specs.declared.refusal.Refusal.{Refusal}
use Rattle.tuple.specs.declared.reply.Reply.{Reply}
use Rattle.varint.specs.Reading.{Bytes}

-- ---- members

-- a process that passes the test is a member of the set, and one that does not is another than every member of 1 to n
member-not : (n set process : ℕ) → is_member n set process ≡ false → (k : ℕ) → Member k set → k ≤ n → process ≡ k → ⊥
member-not n set process none k member few same =
    let all : every (λ j. not (eqb j process)) n 1 set ≡ true = not-false _ none in
    eqb-false k process (not-true _ ((every-rule (λ j. not (eqb j process)) n set).0 all k member few)) (sym same)

pub no-member : (n set process : ℕ) → (Member process set → process ≤ n → ⊥) → is_member n set process ≡ false
no-member n set process out =
    let all : every (λ j. not (eqb j process)) n 1 set ≡ true =
    (every-rule (λ j. not (eqb j process)) n set).1 (λ k member few. cases (eqb k process)
    (λ same. let here = eqb-true k process same in absurd (out (subst (λ (j : ℕ). Member j set) here member) (subst (λ (j : ℕ). j ≤ n) here few)))
    (λ other. rw other)) in
    ap not all

pub member_is : (n set process : ℕ) → is_member n set process ≡ true → Member process set
member_is n set process is =
    cases (leb 1 process)
    (λ some. cases (eqb (set / 2 ^ (process - 1) % 2) 1)
    (λ bit. record { some = leb-true 1 process some; bit = eqb-true _ 1 bit })
    (λ bit. absurd (no_other (λ (m : Member process set). eqb-false _ 1 bit m.bit))))
    (λ none. absurd (no_other (λ (m : Member process set). omega (arith, m.some, leb-false 1 process none))))
  where
    no_other : (Member process set → ⊥) → ⊥
    no_other out = false≢true (sym (no-member n set process (λ member few. out member)) ∙ is)

-- a number of 64 bits has no member behind them
pub member-low : (set process : ℕ) → set < 2 ^ 64 → Member process set → process ≤ 64
member-low set process small member =
    cases (leb process 64)
    (λ e. leb-true process 64 e)
    (λ e. let above : set < 2 ^ (process - 1) = omega (arith, small, pow_mono {i = 64} {j = process - 1} (omega (arith, leb-false process 64 e))) in
    absurd (omega (arith, rw (div-eq_of_lt above) at member.bit)))

-- of 1 to n a process is a member if its bit is set
pub member-test : (n set process : ℕ) → 1 ≤ process → process ≤ n → eqb (set / 2 ^ (process - 1) % 2) 1 ≡ is_member n set process
member-test n set process some few =
    cases (is_member n set process)
    (λ is. rw is (eq-eqb _ 1 (member_is n set process is).bit))
    (λ is-not. rw is-not (ne_eqb _ 1 (λ (bit : set / 2 ^ (process - 1) % 2 ≡ 1). member-not n set process is-not process (record { some = some; bit = bit }) few refl)))

-- ---- what a turn keeps

due-none : (test : Bool) (kept : Tracked) → cond test (Some kept) None ≡ None → test ≡ false
due-none true kept e = cc e
due-none false kept e = refl

due-some : (test : Bool) (kept after : Tracked) → cond test (Some kept) None ≡ Some after → (test ≡ true) × (kept ≡ after)
due-some true kept after e = (refl, cc e)
due-some false kept after e = cc e

some-none : {kept : Tracked} → Some kept ≡ None → ⊥
some-none e = cc e

-- ---- behind so many calls

-- the head of a script was read, and the members of the set are of 1 to n
pub record Begins (s : List ℕ) (config : Config) (set : ℕ) (start : Cursor) : Type 0 where
  pub bytes : Bytes s
  pub head : script_head s ≡ Ok (config, start)
  pub policy : has_proposals config ≡ true
  pub inside : within config.n set ≡ true

pub record Watching (s : List ℕ) (config : Config) (set : ℕ) (start : Cursor) (here number : ℕ) (space : Space) (watches : List Tracked) : Type 0 where
  pub begins : Begins s config set start
  pub before : List Call
  pub whole : (records_at s start.at).calls ≡ before ++ (records_at s here).calls
  pub numbered : length before + 1 ≡ number
  pub few : number ≤ here + 1
  pub at : space ≡ last config before
  pub long : length watches ≡ processes + 1
  pub kept : (k : ℕ) (none : Tracked) → Member k set → Kept config before k (get_or watches (k - 1) none)

module _ {s : List ℕ} {config : Config} {set : ℕ} {start : Cursor} (b : Begins s config set start) where
  stands : Standing s config start (ran s)
  stands = head-stands s b.head

  good : sound config ≡ true
  good = stands.good

  most : config.n ≤ processes
  most = (sound-range config good).1

  in-n : (k : ℕ) → Member k set → k ≤ config.n
  in-n = (within-rule config.n set).0 b.inside

  judged : Judged s set config (records_at s start.at).calls
  judged =
      record {
        short = stands.short;
        at = start.at;
        set-up = stands.set-up;
        good = good;
        policy = (proposals-rule config).0 b.policy;
        members = in-n;
        reads = refl;
      }

  -- each place is one of those that are kept
  pub place-few : (process : ℕ) {place : ℕ} → place ≡ cond (is_member config.n set process) (process - 1) processes → place < processes + 1
  place-few process {place} placed =
      cases (is_member config.n set process)
      (λ is. let there : place ≡ process - 1 = placed ∙ rw is in omega (arith, in-n process (member_is config.n set process is), most))
      (λ is-not. let nowhere : place ≡ processes = placed ∙ rw is-not in omega arith)

  pub watching-first : {space : Space} {one : Tracked} → space ≡ space_of config [] → one ≡ untracked → Watching s config set start start.at 1 space (replicate (processes + 1) one)
  unfolding last_of turns_from
  watching-first {one = one} fresh is =
      record {
        begins = b;
        before = [];
        whole = refl;
        numbered = refl;
        few = omega arith;
        at = fresh ∙ sym (fresh-space config good);
        long = length-replicate (processes + 1) one;
        kept = λ k none member. let place : k - 1 < processes + 1 = omega (arith, in-n k member, most) in
            rw (get_or-replicate (processes + 1) (k - 1) one none place, is) (kept-first config k);
      }

module _ {s : List ℕ} {config : Config} {set : ℕ} {start : Cursor} {here number : ℕ} {space : Space} {watches : List Tracked}
    (w : Watching s config set start here number space watches)
  where
    formed : well_formed space ≡ true
    formed = rw w.at (run-formed (good w.begins) (after_run w.before (fresh-run config (good w.begins))))

    correct-so-far : (k : ℕ) → Member k set → Correct config w.before k
    correct-so-far k member =
        let kept = w.kept k untracked member in record { some = member.some; few = in-n w.begins k member; watch = kept.watch; stands = kept.stands }

    -- no call is left: all follow
    ends : (records_at s here).calls ≡ [] → Ok None ≡ stray_of s set
    ends none =
        let all : (records_at s start.at).calls ≡ w.before = w.whole ∙ rw none (append-nil w.before) in
        sym ((follow-rule s set config _ (judged w.begins)).1 (rw all correct-so-far))

    pub finished : length s ≤ here → Ok None ≡ stray_of s set
    finished end = ends (ap (λ (r : Records). r.calls) (records-end s here end))

    -- one record more
    module _ (before-end : here < length s) {stepped : Result Stepped Refusal} (made : stepped ≡ step_at s here space) where
      rule : StepRule s here space stepped
      rule = subst (StepRule s here space) (sym made) (step-rules s here space w.begins.bytes before-end formed)

      -- one that can't be read ends them
      pub unread : {why : Refusal} → stepped ≡ Err why → Ok None ≡ stray_of s set
      unread {why} e = ends (ap (λ (r : Records). r.calls) (rule.ends why e))

      -- one that reads, with the turn that it makes
      module _ {step : Stepped} (read : stepped ≡ Ok step) where
        abbrev call : Call
        call = step.call

        abbrev behind : List Call
        behind = (records_at s step.next.at).calls

        on : Goes s here space step
        on = rule.goes step read

        pub further : here < step.next.at
        further = on.further

        left : (records_at s here).calls ≡ call ∷ behind
        left = ap (λ (r : Records). r.calls) on.first

        makes : carried_by space call step.effect ≡ applied (last config w.before) call
        makes = on.turn ∙ ap (λ (space : Space). applied space call) w.at

        module _ {place : ℕ} (none : Tracked) {watched : Option Tracked}
            (placed : place ≡ cond (is_member config.n set call.process) (call.process - 1) processes)
            (told : watched ≡ judged_turn config call step.effect.reply (get_or watches place none) (ltb place processes))
          where
            module _ (is : is_member config.n set call.process ≡ true) where
              member : Member call.process set
              member = member_is config.n set call.process is

              there : place ≡ call.process - 1
              there = placed ∙ rw is

              kept_there : Kept config w.before call.process (get_or watches place none)
              kept_there = rw there (w.kept call.process none member)

              told-there : watched ≡ judged_turn config call step.effect.reply (get_or watches place none) true
              told-there = told ∙ ap (judged_turn config call step.effect.reply (get_or watches place none)) (lt-ltb place processes (omega (arith, there, in-n w.begins call.process member, most w.begins, member.some)))

            module _ (is-not : is_member config.n set call.process ≡ false) where
              nowhere : place ≡ processes
              nowhere = placed ∙ rw is-not

              told-other : watched ≡ judged_turn config call step.effect.reply (get_or watches place none) false
              told-other = told ∙ ap (judged_turn config call step.effect.reply (get_or watches place none)) (le-ltb place processes (omega (arith, nowhere)))

            -- a call that is not due
            strays-there : watched ≡ None → (is : is_member config.n set call.process ≡ true) → FirstStray config (records_at s start.at).calls set number
            strays-there wrong is =
                let kept = kept_there is in
                record {
                  before = w.before;
                  call = call;
                  behind = behind;
                  split = w.whole ∙ ap (λ (l : List Call). w.before ++ l) left;
                  counted = w.numbered;
                  all = correct-so-far;
                  member = member is;
                  strays = λ c. let own = ((monitor-rules config call.process).own w.before call refl).0 c in
                      let same : own.0.watch ≡ kept.watch = right-same (sym own.0.stands ∙ kept.stands) in
                      let may = (due-rule config call.process own.0.watch.entered own.0.watch.standing call).1 own.1 in
                      let right-call = subst (λ (watch : Watch). due config call.process watch.entered watch.standing call ≡ true) same may in
                      false≢true (sym (due-none _ _ (sym (told-there is) ∙ wrong)) ∙ sym (due-same kept call) ∙ right-call);
                }

            pub strays : watched ≡ None → Ok (Some number) ≡ stray_of s set
            strays wrong =
                cases (is_member config.n set call.process)
                (λ is. sym ((stray-rule s set config _ number (judged w.begins)).1 (strays-there wrong is)))
                (λ is-not. absurd (some-none (sym (told-other is-not) ∙ wrong)))

            -- one that is
            module _ {tracked : Tracked} (right-call : watched ≡ Some tracked) where
              kept-own : (is : is_member config.n set call.process ≡ true) → Kept config (w.before ++ (call ∷ [])) call.process tracked
              kept-own is =
                  let kept = kept_there is in
                  let m = member is in
                  let passed = due-some _ _ tracked (sym (told-there is) ∙ right-call) in
                  subst (Kept config (w.before ++ (call ∷ [])) call.process) (ap (λ (r : Reply). took_by config call.process (get_or watches place none) call r) (sym (ap (λ (a : Applied). a.reply) makes)) ∙ passed.1)
                  (kept-took kept call m.some (in-n w.begins call.process m) refl passed.0)

              -- what is kept of another member is not touched
              kept-else : (k : ℕ) (other : Tracked) → Member k set → (k - 1 ≡ place → ⊥) → (call.process ≡ k → ⊥)
                  → Kept config (w.before ++ (call ∷ [])) k (get_or (set· watches place tracked) (k - 1) other)
              kept-else k other m apart not_own = rw (get_or-set_other watches place (k - 1) tracked other apart) (kept-other call not_own (w.kept k other m))

              kept_more : (k : ℕ) (other : Tracked) → Member k set → Kept config (w.before ++ (call ∷ [])) k (get_or (set· watches place tracked) (k - 1) other)
              kept_more k other m =
                  cases (is_member config.n set call.process)
                  (λ is. cases (eqb k call.process)
                  (λ e. let same : k ≡ call.process = eqb-true k call.process e in
                  let here_place : k - 1 ≡ place = ap (λ (j : ℕ). j - 1) same ∙ sym (there is) in
                  rw (here_place, get_or-set_same watches place tracked other (omega (arith, w.long, here_place, in-n w.begins k m, most w.begins)), same) (kept-own is))
                  (λ e. let apart = eqb-false k call.process e in
                  kept-else k other m (λ (at_place : k - 1 ≡ place). apart (omega (arith, at_place, there is, m.some, (member is).some))) (λ (own : call.process ≡ k). apart (sym own))))
                  (λ is-not. kept-else k other m (λ (at_place : k - 1 ≡ place). omega (arith, at_place, nowhere is-not, in-n w.begins k m, most w.begins, m.some)) (member-not config.n set call.process is-not k m (in-n w.begins k m)))

              pub goes : (after : Space) → after ≡ carried_out space call.entry step.effect.change
                  → Watching s config set start step.next.at (number + 1) after (set· watches place tracked)
              goes after carried =
                  record {
                    begins = w.begins;
                    before = w.before ++ (call ∷ []);
                    whole = w.whole ∙ ap (λ (l : List Call). w.before ++ l) left ∙ sym (append_snoc w.before call behind);
                    numbered = simp length-append (omega (arith, w.numbered));
                    few = omega (arith, w.few, further);
                    at = carried ∙ ap (λ (a : Applied). a.space) makes ∙ sym (last_more config w.before call);
                    long = length-set watches place tracked ∙ w.long;
                    kept = kept_more;
                  }
