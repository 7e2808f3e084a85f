-- Where all follow in a script, they follow in every script that ends earlier behind the set-up: its calls are the first ones, for a record that reads reads
-- whatever follows. From the laws of records and the rule of those that follow.
use mathlib.Core.Path.{◌≡◌, refl, sym, ap, ◌∙◌, subst}
use mathlib.Core.List.{List, [], ◌∷◌, ◌++◌, append_assoc}
use Prim.Native.Nat.{ℕ, zero, suc, ◌+◌, ◌-◌, ◌≤◌, ◌<◌}
use native.Mathlib.Omega.{arith}
use lib.Dec.{ltb}
use lib.ListN.{length, take, drop, length-append, length-take, take-append-drop}
use lib.Seq.{drop-append-le, take-append-add}
use borrow.Author.Tests.{ltb-true, ltb-false}
use borrow.Table.Steps.{cases}
use Rattle.std.specs.Prelude.{Err, None, Ok, Option, Result}
use Rattle.tuple.specs.declared.refusal.Refusal.{Refusal}
use Rattle.monitor.specs.Laws.{Judged, Halfway}
use Rattle.monitor.specs.Strays.{stray_of}
use Rattle.monitor.proofs.RefusalLaws.{Comes, comes}
use Rattle.monitor.proofs.RefusalLaws.Comes.{refused, judged}
use Rattle.monitor.proofs.StrayLaws.{follow-rule}
use Rattle.record.specs.declared.reader.Cursor.{Cursor}
use Rattle.record.specs.Reading.{Reading, place, call_at}
use Rattle.record.specs.Writing.{call_bytes}
use Rattle.record.proofs.ReadBack.{read_back}
use Rattle.runs.specs.Correct.{Correct}
use Rattle.runs.proofs.Monitoring.{before}
use Rattle.script.specs.Laws.{SetUpStands}
use Rattle.script.specs.Scripts.{Records, config_of, records_at}
use Rattle.script.proofs.RecordLaws.{call-read, read-inside, records-end, records-on, records-stop}
use Rattle.script.proofs.SetUpLaws.{set-up-read, set-up-only}
use Rattle.space.specs.declared.config.Config.{Config}
use Rattle.tuple.specs.declared.field.Call.{Call}
use Rattle.varint.specs.Reading.{Bytes}

-- ---- the calls of the first bytes

first-bytes : (a b : List ℕ) → Bytes (a ++ b) → Bytes a
first-bytes [] b bytes = tt
first-bytes (byte ∷ a) b bytes = (bytes.0, first-bytes a b bytes.1)

module _ (s rest : List ℕ) (bytes : Bytes (s ++ rest)) where
  -- those of more bytes go on
  abbrev Goes : ℕ → Type 0
  Goes at = (more : List Call) × ((records_at (s ++ rest) at).calls ≡ (records_at s at).calls ++ more)

  none : (at : ℕ) → (records_at s at).calls ≡ [] → Goes at
  none at e = ((records_at (s ++ rest) at).calls, rw e)

  -- one record, if those behind it do
  by-record : (at : ℕ) → at < length s → ((next : ℕ) → at + 2 ≤ next → Goes next) → (read : Reading Call) → call_at s at ≡ read → Goes at
  by-record at inside later (Ok (call, cursor)) e =
      let read = call-read (first-bytes s rest bytes) e in
      let stands : drop at (s ++ rest) ≡ call_bytes call ++ (drop cursor.at s ++ rest) =
      drop-append-le at s rest (omega arith) ∙ ap (λ (l : List ℕ). l ++ rest) read.bytes ∙ append_assoc (call_bytes call) (drop cursor.at s) rest in
      let again : call_at (s ++ rest) at ≡ Ok (call, cursor) =
      read_back call (s ++ rest) (drop cursor.at s ++ rest) at read.typed read.sound stands ∙ rw read.taken in
      let more = later cursor.at (read-inside inside read).0 in (
        more.0,
        ap (λ (r : Records). r.calls) (records-on (s ++ rest) at (simp length-append (omega arith)) bytes again)
            ∙ ap (λ (l : List Call). call ∷ l) more.1
            ∙ ap (λ (r : Records). r.calls ++ more.0) (sym (records-on s at inside (first-bytes s rest bytes) e)),
      )
  by-record at inside later (Err why) e = none at (ap (λ (r : Records). r.calls) (records-stop s at inside e))

  goes : (left at : ℕ) → length s ≤ at + left → Goes at
  goes zero at enough = none at (ap (λ (r : Records). r.calls) (records-end s at (omega arith)))
  goes (suc left) at enough =
      cases (ltb at (length s))
      (λ e. by-record at (ltb-true at (length s) e) (λ next behind. goes left next (omega arith)) (call_at s at) refl)
      (λ e. none at (ap (λ (r : Records). r.calls) (records-end s at (ltb-false at (length s) e))))

-- those of a script cut anywhere
cut-calls : (s : List ℕ) (m at : ℕ) → Bytes s → (more : List Call) × ((records_at s at).calls ≡ (records_at (take m s) at).calls ++ more)
cut-calls s m at bytes =
    let whole = take-append-drop m s in
    let found = goes (take m s) (drop m s) (rw whole bytes) (length (take m s)) at (omega arith) in
    (found.0, ap (λ (l : List ℕ). (records_at l at).calls) (sym whole) ∙ found.1)

-- ---- the script

-- a set-up reads, wherever the script ends behind it
cut-read : {s : List ℕ} {config : Config} {at : ℕ} → SetUpStands s config at → (m : ℕ) → at ≤ m → config_of (take m s) ≡ Ok (config, place at)
cut-read {s} {config} {at} f m behind =
    let long : m ≡ length f.bytes + (m - length f.bytes) = omega (arith, f.taken) in
    let rest = take (m - length f.bytes) (drop at s) in
    let cut : take m s ≡ f.bytes ++ rest =
    ap (take m) f.first ∙ ap (λ (n : ℕ). take n (f.bytes ++ drop at s)) long ∙ take-append-add f.bytes (drop at s) (m - length f.bytes) in
    ap config_of cut ∙ set-up-read config f.bytes rest f.form ∙ ap (λ (n : ℕ). Ok (config, place n)) (sym f.taken)

module _ (s : List ℕ) (set : ℕ) (bytes : Bytes s) where
  -- a script that is not refused, cut behind its set-up, is not either
  shorter : {config : Config} {calls : List Call} (j : Judged s set config calls) (m : ℕ) → j.at ≤ m → Judged (take m s) set config (records_at (take m s) j.at).calls
  shorter {config} j m behind =
      record {
        short = omega (arith, length-take m s, j.short);
        at = j.at;
        set-up = cut-read (set-up-only s config j.at bytes j.set-up) m behind;
        good = j.good;
        policy = j.policy;
        members = j.members;
        reads = refl;
      }

  module _ (first-config : Config) (at m : ℕ) (stands : config_of s ≡ Ok (first-config, place at)) (behind : at ≤ m) (n : stray_of s set ≡ Ok None) where
    follows : {stray : Result (Option ℕ) Refusal} → Comes s set stray → stray ≡ Ok None → stray_of (take m s) set ≡ Ok None
    follows (refused r) e = let z : ◌≡◌ {A = ℕ} 0 1 = cc in absurd (omega arith)
    follows (judged config calls j) e =
        let read : ◌≡◌ {A = Reading Config} (Ok (first-config, place at)) (Ok (config, place j.at)) = sym stands ∙ j.set-up in
        let both : ◌≡◌ {A = Config × Cursor} (first-config, place at) (config, place j.at) = cc in
        let same : at ≡ j.at = ap (λ (r : Config × Cursor). r.1.at) both in
        let first = (records_at (take m s) j.at).calls in
        let more = cut-calls s m j.at bytes in
        let split : calls ≡ first ++ more.0 = sym j.reads ∙ more.1 in
        (follow-rule (take m s) set config first (shorter j m (omega arith))).1 (λ k member.
        (before config k first more.0 (subst (λ (l : List Call). Correct config l k) split ((follow-rule s set config calls j).0 n k member))).early)

pub halfway : Halfway
halfway s config set at m bytes stands behind n = follows s set bytes config at m stands behind n (comes s set) n
