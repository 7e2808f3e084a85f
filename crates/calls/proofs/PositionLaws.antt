-- When a process has read positions and who listed a tuple, exactly; and what rdp of a position answers. From the definitions and what a run leaves.
use mathlib.Core.Path.{◌≡◌, refl, sym, ap, ◌∙◌}
use Prim.Native.Nat.{ℕ, ◌+◌, ◌-◌, ◌≤◌, ◌<◌}
use native.Mathlib.Omega.{arith}
use mathlib.Core.Bool.{true}
use mathlib.Core.List.{List, Memᴰ}
use lib.ListN.{length, get_or}
use borrow.Author.Tests.{le-leb}
use borrow.Table.Steps.{cases}
use Rattle.calls.specs.Laws.{Obeyed}
use Rattle.calls.specs.Lists.{list_of}
use Rattle.calls.specs.ReadingLaws.{ReadToWhen, OwnCasWhen, ListedByWhen, read_at, PositionReads}
use Rattle.calls.proofs.ListSteps.{listed-mem, mem-listed, orderly-all, Kind, key, apart-differ, Shared}
use Rattle.calls.proofs.ListingLaws.{left, five-other}
use Rattle.calls.proofs.ObeyedLaws.{obeyed-rules}
use Rattle.policy.proofs.ListingLaws.{list-template, list-match, match-list, list-rdp-rule}
use Rattle.space.specs.declared.config.Config.{Config}
use Rattle.space.specs.Lists.{is_list_tuple, position_of, Filled}
use Rattle.space.specs.Spaces.{space_of}
use Rattle.space.proofs.SpaceRules.{held_of, formed-of, stands, place}
use Rattle.std.specs.Prelude.{None, Ok, Some}
use Rattle.tuple.specs.declared.field.Tuple.{Tuple}
use Rattle.tuple.specs.Bounds.{largest_count}
use Rattle.tuple.specs.Faults.{call_fault, used_fault, uses_template, uses_entry, part_fault, tuple_fault, fields_fault, field_fault, known_head, rest_blank, rest_from, place_blank, is_blank}
use Rattle.tuple.specs.Fields.{largest_of, blank_tuple}
use Rattle.tuple.specs.Forms.{list_template}
use Rattle.tuple.specs.Matching.{matches, oldest_of}
use Rattle.tuple.proofs.MatchRules.{oldest-rule}

-- ---- the words

pub read-to-when : ReadToWhen
read-to-when config calls process m tuples = (λ read. (read.many, read.each), λ h. record { many = h.0; each = h.1 })

pub own-cas-when : OwnCasWhen
own-cas-when made tuple = (
  λ own. (own.turn, own.occurs, own.code, own.entry, own.own, own.inserted),
  λ h. record { turn = h.0; occurs = h.1; code = h.2; entry = h.3; own = h.4; inserted = h.5 },
)

pub listed-by-when : ListedByWhen
listed-by-when config calls tuple = (
  λ by. (by.before, by.call, by.behind, by.split, by.code, by.entry, by.inserted, by.by),
  λ h. record { before = h.0; call = h.1; behind = h.2; split = h.3; code = h.4; entry = h.5; inserted = h.6; by = h.7 },
)

-- ---- rdp of a position

pub read-faultless : (process position : ℕ) → position ≤ largest_count → call_fault (read_at process position) ≡ Ok tt
unfolding call_fault used_fault uses_template uses_entry part_fault tuple_fault fields_fault field_fault known_head largest_of rest_blank rest_from place_blank is_blank
read-faultless process position small = rw (le-leb position largest_count small)

module _ {config : Config} {tuples : List Tuple} (keeps : Shared config tuples) (position : ℕ) where
  -- one that matches the template of a position is the list tuple there
  matched : (tuple : Tuple) → Memᴰ tuple tuples → matches (list_template position) tuple ≡ true → (is_list_tuple tuple ≡ true) × (position_of tuple ≡ position)
  matched tuple m e = elim-kind (keeps.each tuple m)
    where
      elim-kind : Kind config tuple → (is_list_tuple tuple ≡ true) × (position_of tuple ≡ position)
      elim-kind (Kind.in_list shape first most) = (shape, sym (match-list (list_template position) tuple (list-template position) shape e))
      elim-kind (Kind.waits five shape some few) = let other = five-other position tuple shape in let z : ◌≡◌ {A = ℕ} 0 1 = cc in absurd (omega arith)

  -- the tuple of a filled position is the oldest that matches
  filled-found : Filled tuples position → (i : ℕ) × (oldest_of tuples (list_template position) ≡ Some i) × (get_or tuples i blank_tuple ≡ get_or (list_of tuples) (position - 1) blank_tuple)
      × (1 ≤ position) × (position ≤ length (list_of tuples))
  unfolding key
  filled-found filled =
      let at = place tuples filled.stands in
      let i = at.0 in
      let template = list_template position in
      let shape : is_list_tuple (get_or tuples i blank_tuple) ≡ true = ap is_list_tuple at.2 ∙ filled.shape in
      let here : position_of (get_or tuples i blank_tuple) ≡ position = ap position_of at.2 ∙ filled.at in
      let listed = orderly-all keeps.list filled.tuple (mem-listed tuples filled.stands filled.shape) in
      let is : position ≡ listed.0 + 1 = sym filled.at ∙ listed.3.at in
      let back : listed.0 ≡ position - 1 = omega (arith, is) in (
        i,
        (oldest-rule.at tuples template i).1 (
          at.1,
          list-match template (get_or tuples i blank_tuple) (list-template position) shape (sym here),
          λ j below. cases (matches template (get_or tuples j blank_tuple))
              (λ e. let other = matched (get_or tuples j blank_tuple) (stands tuples j (omega (arith, at.1))) e in
              let keys : key (get_or tuples j blank_tuple) ≡ key (get_or tuples i blank_tuple) = rw (other.0, shape, other.1, here) refl in
              absurd (omega (arith, apart-differ tuples keeps.apart j i (omega (arith, at.1)) at.1 keys)))
              (λ e. e),
        ),
        at.2 ∙ sym listed.2 ∙ ap (λ (k : ℕ). get_or (list_of tuples) k blank_tuple) back,
        omega (arith, is),
        omega (arith, is, listed.1),
      )

  -- a position up to the list's length is filled
  first-filled : 1 ≤ position → position ≤ length (list_of tuples) → Filled tuples position
  first-filled some few =
      let i = position - 1 in
      let below : i < length (list_of tuples) = omega arith in
      let entry = keeps.list.each i below in
      record {
        tuple = get_or (list_of tuples) i blank_tuple;
        stands = (listed-mem tuples (stands (list_of tuples) i below)).0;
        shape = entry.shape;
        at = omega (arith, entry.at);
      }

  vacant-nowhere : (Filled tuples position → ⊥) → oldest_of tuples (list_template position) ≡ None
  vacant-nowhere vacant =
      (oldest-rule.nowhere tuples (list_template position)).1 (λ j h.
      cases (matches (list_template position) (get_or tuples j blank_tuple))
      (λ e. let is = matched (get_or tuples j blank_tuple) (stands tuples j h) e in
      absurd (vacant (record { tuple = get_or tuples j blank_tuple; stands = stands tuples j h; shape = is.0; at = is.1 })))
      (λ e. e))

pub position-reads : PositionReads
position-reads config calls process position safe shares some few small =
    let end = left config safe shares calls in
    let tuples = end.tuples in
    let call = read_at process position in
    let space = space_of config tuples in
    let same = held_of config tuples in
    let asked : Obeyed space call =
    record {
      formed = formed-of config tuples safe end.lawful;
      sound = read-faultless process position small;
      known = (some, few);
      permitted = rw same (list-rdp-rule config tuples call shares refl);
    } in
    let does = obeyed-rules space call asked in
    record {
      first = rw (end.lists, end.holds) (λ filled. let at = filled-found end.shared position filled in (at.3, at.4), λ h. first-filled end.shared position h.0 h.1);
      found = λ filled.
          let at = filled-found end.shared position (rw end.holds at filled) in
          rw (end.lists, end.space, sym at.2) (rw same at (does.rdp-found refl at.0 (rw same at.1)).reply);
      none = λ vacant. rw end.space (does.rdp-none refl (rw same (vacant-nowhere end.shared position (rw end.holds at vacant)))).reply;
    }
