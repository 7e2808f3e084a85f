-- What a state that knows only what stands makes of the space's replies to its reading and its cas. From the replies of the space and the laws of
-- the procedure.
use mathlib.Core.Path.{◌≡◌, refl, sym, ap, ◌∙◌, subst}
use mathlib.Core.Logic.{⊎_elim}
use Prim.Native.Nat.{ℕ, ◌^◌, ◌-◌, ◌≤◌, ◌<◌}
use native.Mathlib.Omega.{arith}
use mathlib.Core.Bool.{true, false, false≢true}
use mathlib.Core.List.Memᴰ
use mathlib.Core.List.{List, [], ◌∷◌, ◌++◌, Memᴰ}
use lib.ListN.{length, set, length-set}
use lib.Seq.{get_or-set_same, get_or-set_other}
use lib.Dec.{eqb}
use borrow.Author.Tests.{eqb-true, eqb-false, ltb-true}
use borrow.Table.Steps.{cases}
use Rattle.std.specs.Prelude.{Ok}
use Rattle.process.specs.declared.process.Phase.{Phase}
use Rattle.process.specs.declared.process.Phase.TheVariants.{Reading, Deciding}
use Rattle.process.specs.declared.process.Process.{Process}
use Rattle.process.specs.declared.process.Step.{Step}
use Rattle.process.specs.Asks.{rdp_call, cas_call}
use Rattle.process.specs.Fits.{fits}
use Rattle.process.specs.Procedure.{reads, casts, decides, read_on, advanced, resumed}
use Rattle.process.specs.States.{well_formed}
use Rattle.process.specs.Tallies.{found_of, backing_set, backed, settled, next_after}
use Rattle.process.proofs.FitLaws.{answer-rule, held-rule}
use Rattle.process.proofs.KeptLaws.{resumed-advanced, advanced-formed}
use Rattle.space.proofs.CodeLaws.{offered-some, decidable-small}
use Rattle.process.proofs.ChoiceLaws.{backed-decidable}
use Rattle.process.proofs.StateLaws.{Reads, startable-parts, formed-parts, reading-rule, deciding-rule}
use Rattle.process.proofs.TallySteps.{set-most}
use Rattle.runs.specs.Theorem.{SoundConfig}
use Rattle.runs.proofs.BottomCast.{permitted}
use Rattle.runs.proofs.Casting.{Seen}
use Rattle.runs.proofs.Configs.{config-startable}
use Rattle.runs.proofs.Fair.{Fair}
use Rattle.runs.proofs.Replies as space
use Rattle.runs.proofs.Standing.{Stands}
use Rattle.space.specs.declared.config.Config.{Config}
use Rattle.calls.specs.declared.turn.Applied.{Applied}
use Rattle.space.specs.Bounds.{processes, rounds}
use Rattle.policy.specs.Shapes.{decided_code}
use Rattle.space.specs.Proposals.{Proposed}
use Rattle.space.specs.Shapes.{process_of, proposed_code, is_proposal, round_of}
use Rattle.space.specs.Spaces.{space_of}
use Rattle.calls.specs.Turns.{applied}
use Rattle.tuple.specs.declared.field.Tuple.{Tuple}
use Rattle.tuple.specs.declared.field.Call.{Call}
use Rattle.tuple.specs.declared.reply.Reply.{Reply}
use Rattle.tuple.specs.Faults.{rest_from, rest_blank, place_blank, is_blank}
use Rattle.tuple.specs.Fields.{blank_tuple}
use Rattle.tuple.specs.Bounds.{largest_code}
use Rattle.tuple.specs.Forms.{decision_entry}
use Rattle.tuple.specs.Offsets.{offset_of}
use Rattle.tuple.specs.Shapes.{has_shape}

-- a state of process q
abbrev pub at : Config → ℕ → ℕ → Phase → List ℕ → Process
at config q round phase found = record { config = config; process = q; round = round; phase = phase; found = found }

-- its cas
abbrev pub cast_by : Config → ℕ → ℕ → List ℕ → Call
cast_by config q round found = cas_call q round (backed config.t found) (backing_set (backed config.t found) found)

-- it knows only what stands
pub record Knows (config : Config) (q : ℕ) (tuples : List Tuple) (round : ℕ) (phase : Phase) (found : List ℕ) : Type 0 where
  pub long : length found ≡ processes
  pub formed : well_formed (at config q round phase found) ≡ true
  pub seen : Seen config tuples round found

pub blank-fits : rest_blank blank_tuple false ≡ true
unfolding rest_blank rest_from place_blank is_blank
blank-fits = refl

-- ---- more tuples

abbrev pub Grows : List Tuple → List Tuple → Type 0
Grows tuples next = (tuple : Tuple) → Memᴰ tuple tuples → Memᴰ tuple next

seen_more : (config : Config) {tuples next : List Tuple} → Grows tuples next → (round : ℕ) (found : List ℕ) → Seen config tuples round found → Seen config next round found
seen_more config grows round found seen k some there =
    let p = seen k some there in
    let at = p.placed in
    record { placed = record { tuple = at.tuple; stands = grows at.tuple at.stands; shape = at.shape; in-round = at.in-round; by = at.by }; of = p.of; may = p.may }

pub knows_more : {config : Config} {q : ℕ} {tuples next : List Tuple} → Grows tuples next → {round : ℕ} {phase : Phase} {found : List ℕ}
    → Knows config q tuples round phase found → Knows config q next round phase found
knows_more {config} grows {round} {found = found} k = record { long = k.long; formed = k.formed; seen = seen_more config grows round found k.seen }

-- ---- a reading

-- what it reads next
pub asks : {config : Config} {q : ℕ} {tuples : List Tuple} {round asked : ℕ} {found : List ℕ}
    → Knows config q tuples round (Reading asked) found → Reads config found asked
asks {config} {q} {round = round} {asked} {found} knows =
    (reading-rule config found asked).0 ((formed-parts (at config q round (Reading asked) found)).0 knows.formed).1

-- what a reading of process `asked` finds: its proposal if that stands, and nothing else is changed
pub record Noted (config : Config) (tuples : List Tuple) (round asked : ℕ) (found noticed : List ℕ) : Type 0 where
  pub long : length noticed ≡ processes
  pub seen : Seen config tuples round noticed
  pub others : (k : ℕ) → 1 ≤ k → (k ≡ asked → ⊥) → found_of noticed k ≡ found_of found k
  pub this : (tuple : Tuple) → Memᴰ tuple tuples → is_proposal tuple ≡ true → round_of tuple ≡ round → process_of tuple ≡ asked
      → found_of noticed asked ≡ 0 → ⊥

-- what comes next: it casts its value, or reads on
pub data After (config : Config) (q : ℕ) (tuples : List Tuple) (round asked : ℕ) (noticed : List ℕ) : Step → Type 0 where
  stops : Knows config q tuples round Deciding noticed
      → After config q tuples round asked noticed (casts (at config q round Deciding noticed) noticed (backed config.t noticed))
  goes_on : (next : ℕ) → next ≡ next_after config.n noticed asked → settled config noticed ≡ false → Knows config q tuples round (Reading next) noticed
      → After config q tuples round asked noticed (reads (at config q round (Reading next) noticed) noticed next)

module _ {config : Config} (s : SoundConfig config) {q : ℕ} (low : 1 ≤ q) (high : q ≤ config.n) {tuples : List Tuple} (fair : Fair config tuples)
    (round asked : ℕ) (found : List ℕ) (knows : Knows config q tuples round (Reading asked) found) where
  abbrev p : Process
  p = at config q round (Reading asked) found

  pub record ReadsOn (reply : Reply) : Type 0 where
    pub fit : fits p reply ≡ true
    pub noticed : List ℕ
    pub noted : Noted config tuples round asked found noticed
    pub goes : advanced p reply (Reading asked) ≡ read_on p noticed asked

  early : round < rounds
  early = ltb-true round rounds ((formed-parts p).0 knows.formed).0.in-rounds

  reads_on : (reply : Reply) → space.Read s fair round asked reply → ReadsOn reply
  unfolding fits
  reads_on reply (space.Read.nothing none) =
      record {
        fit = blank-fits;
        noticed = found;
        noted = record {
          long = knows.long;
          seen = knows.seen;
          others = λ k some apart. refl;
          this = λ tuple m shape r by. absurd (none tuple m shape r by);
        };
        goes = refl;
      }
  reads_on reply (space.Read.some tuple there entry shape r by) =
      let fit : fits p reply ≡ true = (answer-rule config round asked tuple).1
      (record { entry = entry; shape = shape.shape; in-round = r; by = by; may = shape.may }) in
      let code = proposed_code tuple in
      let noticed = set found (asked - 1) code in
      let same : found_of noticed asked ≡ code =
      get_or-set_same found (asked - 1) code 0 (omega (arith, (asks knows).least, (asks knows).most, s.most, knows.long)) in
      let others : (k : ℕ) → 1 ≤ k → (k ≡ asked → ⊥) → found_of noticed k ≡ found_of found k =
      λ k some apart. get_or-set_other found (asked - 1) (k - 1) code 0 (λ e. apart (omega (arith, (asks knows).least))) in
      record {
        fit = fit;
        noticed = noticed;
        noted = record {
          long = length-set found (asked - 1) code ∙ knows.long;
          seen = λ k some found-k. cases (eqb k asked)
              (λ e. let here : k ≡ asked = eqb-true k asked e in
              rw (here, same) (record { placed = record { tuple = tuple; stands = there; shape = shape.shape; in-round = r; by = by }; of = refl; may = shape.may }))
              (λ e. let apart = eqb-false k asked e in
              subst (Proposed config tuples round k) (sym (others k some apart)) (knows.seen k some (λ z. found-k (others k some apart ∙ z))));
          others = others;
          this = λ t m sh ro pr z. offered-some config code shape.may (sym same ∙ z);
        };
        goes = refl;
      }

  after : (reply : Reply) (r : ReadsOn reply) → After config q tuples round asked r.noticed (read_on p r.noticed asked)
  after reply r =
      let formed = rw r.goes at (advanced-formed p reply knows.long knows.formed r.fit).0 in
      cases (settled config r.noticed)
      (λ e. rw e (stops (record { long = r.noted.long; formed = rw e at formed; seen = r.noted.seen })))
      (λ e. rw e (goes_on _ refl e (record { long = r.noted.long; formed = rw e at formed; seen = r.noted.seen })))

  pub read : ReadsOn (applied (space_of config tuples) (rdp_call q round asked)).reply
  read = reads_on _ (space.reads s fair q round asked low high early (asks knows).most).0

  pub read-goes : resumed p (applied (space_of config tuples) (rdp_call q round asked)).reply ≡ Ok (read_on p read.noticed asked)
  read-goes = resumed-advanced p _ knows.formed read.fit ∙ ap Ok read.goes

  pub read-after : After config q tuples round asked read.noticed (read_on p read.noticed asked)
  read-after = after _ read

  pub read-space : (applied (space_of config tuples) (rdp_call q round asked)).space ≡ space_of config tuples
  read-space = (space.reads s fair q round asked low high early (asks knows).most).1

-- ---- a cas

module _ {config : Config} (s : SoundConfig config) {q : ℕ} (low : 1 ≤ q) (high : q ≤ config.n) {tuples : List Tuple} (fair : Fair config tuples)
    (round : ℕ) (found : List ℕ) (knows : Knows config q tuples round Deciding found) where
  abbrev state : Process
  state = at config q round Deciding found

  abbrev value : ℕ
  value = backed config.t found

  -- it decides what then stands
  pub record Settles (done : Applied) : Type 0 where
    pub fit : fits state done.reply ≡ true
    pub next : List Tuple
    pub space : done.space ≡ space_of config next
    pub code : ℕ
    pub then : resumed state done.reply ≡ Ok (decides state code)
    pub grows : Grows tuples next
    pub old : (tuple : Tuple) → Memᴰ tuple next → is_proposal tuple ≡ true → Memᴰ tuple tuples
    pub stands : Stands next (record { round = round; offset = offset_of code })

  settles : (done : Applied) → space.Cast s fair q round value (backing_set value found) done → Settles done
  unfolding fits has_shape
  settles done space.Cast.puts =
      let entry = decision_entry round value (backing_set value found) in
      record {
        fit = blank-fits;
        next = tuples ++ (entry ∷ []);
        space = refl;
        code = value;
        then = resumed-advanced state done.reply knows.formed blank-fits;
        grows = λ tuple m. Memᴰ.append_left (entry ∷ []) m;
        old = λ tuple m shape. ⊎_elim (λ (there : Memᴰ tuple tuples). there)
            (λ (new : Memᴰ tuple (entry ∷ [])). absurd (false≢true (rw (Memᴰ.eq_of_singleton new) at shape))) (Memᴰ.append_cases tuples m);
        stands = record { tuple = entry; there = Memᴰ.append_right tuples (Memᴰ.head refl); shape = refl; in-round = refl; of = refl };
      }
  settles done (space.Cast.holds tuple there entry shape r inside may) =
      let fit : fits state done.reply ≡ true = (held-rule config round tuple).1
      (record { entry = entry; shape = shape; in-round = r; may = may; inside = inside }) in
      record {
        fit = fit;
        next = tuples;
        space = refl;
        code = decided_code tuple;
        then = resumed-advanced state done.reply knows.formed fit;
        grows = λ tuple m. m;
        old = λ tuple m shape. m;
        stands = record { tuple = tuple; there = there; shape = shape; in-round = r; of = refl };
      }

  pub settled-by : Settles (applied (space_of config tuples) (cast_by config q round found))
  unfolding backed
  settled-by =
      let parts = (formed-parts state).0 knows.formed in
      let casts = (deciding-rule config found).0 parts.1 in
      let early : round < rounds = ltb-true round rounds parts.0.in-rounds in
      let small : value ≤ largest_code = decidable-small config value (backed-decidable config found (startable-parts config (config-startable s)) casts.codes casts.enough) in
      let few : backing_set value found < 2 ^ processes = set-most value found processes (omega (arith, knows.long)) in
      settles _ (space.casts s fair q round value (backing_set value found) low high early small (omega arith)
      (permitted s fair q round early found casts.codes knows.seen casts.enough))
