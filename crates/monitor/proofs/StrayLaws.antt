-- All follow exactly when every member is correct, and the first stray's record is the answer. From the law of the first wrong turn and the earliest of a set.
use mathlib.Core.Path.{◌≡◌, refl, sym, ap, ◌∙◌, subst}
use mathlib.Core.List.{List, [], ◌∷◌, ◌++◌}
use mathlib.Core.Logic.{◌↔◌, ◌⊎◌, inl, inr, ⊎_elim}
use Prim.Native.Nat.{ℕ, ◌+◌, ◌≤◌, ◌<◌}
use native.Mathlib.Omega.{arith}
use lib.Dec.{eqb, ltb}
use lib.ListN.{length, length-append}
use lib.Seq.{append_snoc}
use borrow.Author.Tests.{eqb-true, eqb-false, ltb-true, ltb-false, le-leb}
use borrow.Table.Steps.{cases}
use Rattle.std.specs.Prelude.{None, Ok, Some}
use Rattle.monitor.specs.Laws.{Judged, FollowRule, FirstStray, StrayRule}
use Rattle.monitor.specs.Strays.{wrong_at, stray_at, stray_in, stray_on, stray_of}
use Rattle.monitor.proofs.EarliestLaws.{wrong_of, first, least-member, some-member}
use Rattle.runs.specs.Correct.{Finding, right, wrong, monitored, Correct}
use Rattle.runs.specs.Laws.{FirstWrong}
use Rattle.runs.proofs.Monitoring.{wrong-right, monitored-append, before}
use Rattle.runs.proofs.Wrong.{wrong-rule}
use Rattle.script.specs.Scripts.{script_bytes, script_head}
use Rattle.space.specs.declared.config.Config.{Config}
use Rattle.space.specs.Members.{Member}
use Rattle.space.proofs.ConfigLaws.{proposals-rule}
use Rattle.space.proofs.MemberLaws.{within-rule}
use Rattle.tuple.specs.declared.field.Call.{Call}

-- ---- a script that is not refused

pub strays-in : {s : List ℕ} {set : ℕ} {config : Config} {calls : List Call} → Judged s set config calls → stray_of s set ≡ stray_in config calls set
unfolding stray_of stray_on script_head
strays-in {s} {set} {config} j =
    rw (le-leb (length s) script_bytes j.short, j.set-up, j.good, (proposals-rule config).1 j.policy, (within-rule config.n set).1 j.members, j.reads)

-- ---- one process

-- of two calls of a list, the one with fewer before it is among those before the other
prefix : (a : List Call) (x : Call) (c b : List Call) (y : Call) (d : List Call) → a ++ (x ∷ c) ≡ b ++ (y ∷ d) → length a < length b
    → (more : List Call) × (b ≡ a ++ (x ∷ more))
prefix a x c [] y d e less = absurd (omega arith)
prefix [] x c (w ∷ b) y d e less = let same : w ≡ x = cc in (b, ap (λ (z : Call). z ∷ b) same)
prefix (v ∷ a) x c (w ∷ b) y d e less =
    let same : w ≡ v = cc in
    let rest = prefix a x c b y d (cc) (omega arith) in
    (rest.0, cc rest.1)

module _ (config : Config) (q : ℕ) where
  -- correct on calls, correct up to each of them
  pub correct-up : (before : List Call) (call : Call) (behind : List Call) → Correct config (before ++ (call ∷ behind)) q → Correct config (before ++ (call ∷ [])) q
  correct-up early call behind c =
      let whole : Correct config (early ++ (call ∷ []) ++ behind) q = rw append_snoc c in (before config q (early ++ (call ∷ [])) behind whole).early

  module _ (some : 1 ≤ q) (few : q ≤ config.n) (calls : List Call) where
    -- a wrong turn is one of the calls, and stays the first whatever follows
    record Early (number : ℕ) : Type 0 where
      least : 1 ≤ number
      most : number ≤ length calls
      stays : (more : List Call) → monitored config (calls ++ more) q ≡ wrong number

    early : {number : ℕ} → monitored config calls q ≡ wrong number → Early number
    early {number} w =
        let f = (wrong-rule config calls q number some few).0 w in
        record {
          least = omega (arith, f.counted);
          most = omega (arith, f.counted, simp length-append at (ap length f.split));
          stays = λ more. monitored-append config q calls more ∙ rw w;
        }

    -- it is correct, or it has a first wrong turn
    found : Correct config calls q ⊎ ((number : ℕ) × (monitored config calls q ≡ wrong number) × Early number)
    found = of (monitored config calls q) refl
      where
        of : (f : Finding) → monitored config calls q ≡ f → Correct config calls q ⊎ ((number : ℕ) × (monitored config calls q ≡ wrong number) × Early number)
        of (right watch) e = inl (record { some = some; few = few; watch = watch; stands = e })
        of (wrong number) e = inr (number, e, early e)

-- ---- all members

module _ (config : Config) (calls : List Call) (set : ℕ) (members : (k : ℕ) → Member k set → k ≤ config.n) where
  abbrev number : ℕ
  number = first config calls set members

  all-follow : number ≡ 0 → (k : ℕ) → Member k set → Correct config calls k
  all-follow none k member =
      ⊎_elim (λ c. c)
      (λ f. let here : wrong_of config calls k ≡ f.0 = ap wrong_at f.1 in
      absurd (omega (arith, f.2.least, (least-member config calls set members k member (omega (arith, f.2.least))).0)))
      (found config k member.some (members k member) calls)

  none-strays : ((k : ℕ) → Member k set → Correct config calls k) → number ≡ 0
  none-strays all =
      cases (eqb number 0) (λ e. eqb-true number 0 e)
      (λ e. let one = some-member config calls set members (omega (arith, eqb-false number 0 e)) in
      let right : wrong_of config calls one.0 ≡ 0 = ap wrong_at (all one.0 one.1).stands in omega (arith, one.2))

  -- the wrong turn of the one with the least number
  stray-of : (q : ℕ) (member : Member q set) → FirstWrong config calls q number → FirstStray config calls set number
  stray-of q member f =
      record {
        before = f.before;
        call = f.call;
        behind = f.behind;
        split = f.split;
        counted = f.counted;
        all = λ k other. ⊎_elim (λ c. c)
            (λ e. let there : wrong_of config calls k ≡ e.0 = ap wrong_at (ap (λ (l : List Call). monitored config l k) f.split ∙ e.2.stays (f.call ∷ f.behind)) in
            let least = least-member config calls set members k other (omega (arith, e.2.least)) in
            absurd (omega (arith, e.2.most, f.counted)))
            (found config k other.some (members k other) f.before);
        member = rw f.own member;
        strays = λ c.
            let gone = (wrong-rule config (f.before ++ (f.call ∷ [])) q number member.some (members q member)).1
            (record { before = f.before; call = f.call; behind = []; split = refl; counted = f.counted; correct = f.correct; own = f.own; undue = f.undue }) in
            wrong-right (sym gone ∙ (subst (Correct config (f.before ++ (f.call ∷ []))) f.own c).stands);
      }

  pub first-stray : 1 ≤ number → FirstStray config calls set number
  first-stray some =
      let one = some-member config calls set members some in
      let few = members one.0 one.1 in
      ⊎_elim (λ c. let right : wrong_of config calls one.0 ≡ 0 = ap wrong_at c.stands in absurd (omega (arith, one.2)))
      (λ w. let same : w.0 ≡ number = sym (ap wrong_at w.1) ∙ one.2 in
      stray-of one.0 one.1 ((wrong-rule config calls one.0 number one.1.some few).0 (w.1 ∙ ap wrong same)))
      (found config one.0 one.1.some few calls)

  -- up to a call before the first stray's all members are correct
  pub earlier : {i : ℕ} → FirstStray config calls set i → (before : List Call) (call : Call) (behind : List Call) → calls ≡ before ++ (call ∷ behind) → length before + 1 < i
      → (k : ℕ) → Member k set → Correct config (before ++ (call ∷ [])) k
  earlier f before call behind split less k member =
      let more = prefix before call behind f.before f.call f.behind (sym split ∙ f.split) (omega (arith, f.counted)) in
      correct-up config k before call more.0 (rw more.1 at (f.all k member))

  only-stray : {i : ℕ} → FirstStray config calls set i → number ≡ i
  only-stray {i} f =
      cases (eqb number 0)
      (λ e. absurd (f.strays (correct-up config f.call.process f.before f.call f.behind
      (rw f.split at (all-follow (eqb-true number 0 e) f.call.process f.member)))))
      (λ e. let g = first-stray (omega (arith, eqb-false number 0 e)) in
      cases (ltb number i)
      (λ l. absurd (g.strays (earlier f g.before g.call g.behind g.split (omega (arith, g.counted, ltb-true number i l)) g.call.process g.member)))
      (λ l. cases (ltb i number)
      (λ m. absurd (f.strays (earlier g f.before f.call f.behind f.split (omega (arith, f.counted, ltb-true i number m)) f.call.process f.member)))
      (λ m. omega (arith, ltb-false number i l, ltb-false i number m))))

-- ---- the rules

at_none : (number : ℕ) → (stray_at number ≡ Ok None) ↔ (number ≡ 0)
at_none number =
    cases (eqb number 0)
    (λ e. rw e (λ h. eqb-true number 0 e, λ n. refl))
    (λ e. rw e (λ h. let z : ◌≡◌ {A = ℕ} 0 1 = cc in absurd (omega arith), λ n. absurd (eqb-false number 0 e n)))

at_some : (number i : ℕ) → (stray_at number ≡ Ok (Some i)) ↔ ((1 ≤ number) × (number ≡ i))
at_some number i =
    cases (eqb number 0)
    (λ e. rw e (λ h. let z : ◌≡◌ {A = ℕ} 0 1 = cc in absurd (omega arith), λ n. absurd (omega (arith, eqb-true number 0 e, n.0))))
    (λ e. rw e (λ h. (omega (arith, eqb-false number 0 e), cc), λ n. ap (λ (j : ℕ). Ok (Some j)) n.1))

pub follow-rule : FollowRule
follow-rule s set config calls j =
    rw (strays-in j) (
      λ h. all-follow config calls set j.members ((at_none _).0 h),
      λ all. (at_none _).1 (none-strays config calls set j.members all),
    )

pub stray-rule : StrayRule
stray-rule s set config calls i j =
    rw (strays-in j) (
      λ h. let at = (at_some _ i).0 h in subst (FirstStray config calls set) at.1 (first-stray config calls set j.members at.0),
      λ f. (at_some _ i).1 (let same = only-stray config calls set j.members f in (omega (arith, f.counted), same)),
    )
