-- The parts are read one by one from their places among those that wait; a part has fewer species than its set.
use Rattle.std.proofs.Common.{ℕ, Bool, false, true, length, ◌≡◌, ◌≢◌, ◌+◌, ◌*◌, ◌-◌, ◌≤◌, ◌<◌, refl, sym, ap, ◌∙◌, subst, arith, slice_index_or}
use Rattle.std.proofs.lemmas.List.Edits.{sets}
use native.Mathlib.Numerals.{unary_clauses}
use Rattle.sets.specs.Sets.{has, lowest, size}
use Rattle.tables.proofs.Bytes.{entered_proper}
use Rattle.tables.specs.Bytes.{entered}
use Rattle.trees.specs.Build.{Outcome, build_by, ending}
use Rattle.trees.specs.Visits.{looked}
use Rattle.bodies.specs.Nodes.{inner_bytes, leaf_bytes, longest, width}
use Rattle.splitting.specs.Split.{parts_of}
use Rattle.growing.specs.Grows.{Stands, vetoes}
use Rattle.growing.specs.Waiting.{SameFrom}
use Rattle.growing.proofs.Finish.{kept, leaf_wrote}
use Rattle.growing.proofs.Numbered.{Splits, joined-looked, joined_rule, leaf_looked, leaf_rule}
use Rattle.growing.proofs.Waiting.{Lined, front-written, lined, lined_above, lined_part, same_both, same_later}
use Rattle.growing.proofs.Steps.{Counting, Turn, counting_end, counting_most, counting_start, counting_step, counting_stop, going_end, going_start, going_step, going_stop, next-part, part_beside, part_room, parts_within}
use Rattle.growing.proofs.+grow.Goals.{After-copy_within, After-grow-grown, Else-count-eq1, In-loop-k, Then-count-eq1}
use Rattle.growing.proofs.+grow.Goals as goal

-- ---- what is known at a place of the code

module _ {t : ℕ} where
  -- the set is joined
  one : (c : Then-count-eq1 t) → length (parts_of (entered c.args.t.now) c.args.s) ≡ 1
  one c = sym c.split-count.ensures.count_value ∙ c.if-count-eq1.true

  several : (c : Then-count-eq1 t) → size c.args.s ≢ 1
  several c = λ e. c.if-size-eq1.false (c.size.ensures ∙ e)

  joins : (c : Then-count-eq1 t) (b : Bool) → vetoes c.args.build ≡ b → build_by (vetoes c.args.build) (entered c.args.t.now) 64 (has c.args.s) ≡ ending b 64 (has c.args.s)
  joins c b e =
      let a = c.args in
      joined_rule (entered a.t.now) (entered_proper a.t.now) a.s c.ranges.s.fits c.requires.0 (several c) (vetoes c.args.build) (one c)
      ∙ ap (λ (v : Bool). ending v 64 (has a.s)) e

  -- its own triples are all that were looked at
  own : (c : Then-count-eq1 t) → c.split-count.result.looked ≡ looked (vetoes c.args.build) (entered c.args.t.now) 64 (has c.args.s)
  own c =
      let a = c.args in
      c.split-count.ensures.looked_value
      ∙ sym (joined-looked (entered a.t.now) (entered_proper a.t.now) a.s c.ranges.s.fits c.requires.0 (several c) (vetoes c.args.build) (one c))

  -- it was written to the front of those that wait
  front : (c : Then-count-eq1 t) → SameFrom c.args.free c.args.waiting.now c.split-count.new.parts
  front c =
      let a = c.args in
      front-written a.free (parts_of (entered a.t.now) a.s) a.waiting.now c.split-count.new.parts
      (omega (arith, one c, c.requires.0, c.requires.1)) c.requires.2 c.requires.3 c.split-count.ensures.parts_after

  -- the parts are two or more, and have places
  splits : (c : Else-count-eq1 t) → Splits (entered c.args.t.now) c.args.s
  splits c = record {
    proper = entered_proper c.args.t.now;
    fits = c.ranges.s.fits;
    some = c.requires.0;
    several = λ e. c.if-size-eq1.false (c.size.ensures ∙ e);
    more = λ e. c.if-count-eq1.false (c.split-count.ensures.count_value ∙ e);
  }

  places : (c : Else-count-eq1 t) → c.split-count.result.count ≤ c.args.free
  places c = omega (arith, c.split-count.ensures.count_value, parts_within (splits c), c.requires.1)

  -- they have been moved up, and their line there
  line : (c : After-copy_within t) → Splits (entered c.args.t.now) c.args.s
      → Lined (parts_of (entered c.args.t.now) c.args.s) (c.args.free - c.split-count.result.count) c.args.free c.args.waiting.now c.copy_within.new.self
  line c w =
      let a = c.args in
      let sp = c.split-count in
      lined (parts_of (entered a.t.now) a.s) sp.result.count (a.free - sp.result.count) a.free a.waiting.now sp.new.parts c.copy_within.new.self
      sp.ensures.count_value (omega (arith, sp.ensures.count_value, parts_within w, c.requires.1)) c.requires.2 c.requires.3 sp.ensures.parts_after (simp unary_clauses at c.copy_within.ensures.after)

  -- in the loop: the set that it reads is the next part
  going : (c : In-loop-k t) → Splits (entered c.args.t.now) c.args.s
      → Lined (parts_of (entered c.args.t.now) c.args.s) (c.args.free - c.split-count.result.count) c.args.free c.args.waiting.now c.copy_within.new.self
      → Turn (vetoes c.args.build) (entered c.args.t.now) c.args.s c.args.at c.put_inner.new.room c.loop-k.invariant.built c.loop-k.next c.loop-k.room
      (slice_index_or c.loop-k.waiting c.loop-k.k 0)
  going c w r =
      let i = c.loop-k.invariant in
      let k : i.built < length (parts_of (entered c.args.t.now) c.args.s) = omega (arith, c.loop-k-test.true, i.place, r.ends) in
      record { splits = w; going = i.going; left = k; part = lined_part r c.loop-k.waiting c.loop-k.k i.built i.place i.same k }

  -- behind the call on the part: it left the parts behind its own
  left : (c : After-grow-grown t) → SameFrom (c.loop-k.k + 1) c.copy_within.new.self c.grow-grown.new.waiting
  left c = same_both (same_later (omega arith) c.loop-k.invariant.same) c.grow-grown.ensures.same_from

-- ---- the answers

pub returns-then-size-eq1-clause-grows : goal.returns-then-size-eq1-clause-grows
returns-then-size-eq1-clause-grows t c =
    let a = c.args in
    let one : size a.s ≡ 1 = sym c.size.ensures ∙ c.if-size-eq1.true in
    let e = c.put_leaf.ensures ∙ ap (λ (x : ℕ). sets a.room.now (width * a.at) (leaf_bytes a.parent x)) c.lowest.ensures.is in
    leaf_wrote (build_by (vetoes c.args.build) (entered a.t.now) 64 (has a.s)) (size a.s) a.parent a.at (lowest a.s) a.room.now c.put_leaf.new.room
    (leaf_rule (entered a.t.now) (entered_proper a.t.now) a.s c.ranges.s.fits c.requires.0 (vetoes c.args.build) one) one e

pub returns-then-size-eq1-clause-looked_value : goal.returns-then-size-eq1-clause-looked_value
returns-then-size-eq1-clause-looked_value t c =
    let a = c.args in
    sym (leaf_looked (entered a.t.now) (entered_proper a.t.now) a.s c.ranges.s.fits c.requires.0 (vetoes c.args.build) (sym c.size.ensures ∙ c.if-size-eq1.true))

pub returns-in-Veto-clause-same_from : goal.returns-in-Veto-clause-same_from
returns-in-Veto-clause-same_from t c = front (goal.at.returns-in-Veto-clause-same_from t c).Then-count-eq1

pub returns-in-Veto-clause-grows : goal.returns-in-Veto-clause-grows
returns-in-Veto-clause-grows t c =
    let a = c.args in
    let y = (goal.at.returns-in-Veto-clause-grows t c).Then-count-eq1 in
    subst (λ (R : Outcome). Stands R (size a.s) a.parent a.at a.room.now c.spread.new.room c.spread.result) (sym (joins y true (ap vetoes c.in-Veto.is))) c.spread.ensures

pub returns-in-Veto-clause-looked_value : goal.returns-in-Veto-clause-looked_value
returns-in-Veto-clause-looked_value t c = own (goal.at.returns-in-Veto-clause-looked_value t c).Then-count-eq1

pub returns-in-Plain-clause-same_from : goal.returns-in-Plain-clause-same_from
returns-in-Plain-clause-same_from t c = front (goal.at.returns-in-Plain-clause-same_from t c).Then-count-eq1

pub returns-in-Plain-clause-grows : goal.returns-in-Plain-clause-grows
returns-in-Plain-clause-grows t c =
    joins (goal.at.returns-in-Plain-clause-grows t c).Then-count-eq1 false (ap vetoes c.in-Plain.is)

pub returns-in-Plain-clause-looked_value : goal.returns-in-Plain-clause-looked_value
returns-in-Plain-clause-looked_value t c = own (goal.at.returns-in-Plain-clause-looked_value t c).Then-count-eq1

pub overflow_sub-gap : goal.overflow_sub-gap
overflow_sub-gap t c = places (goal.at.overflow_sub-gap t c).Else-count-eq1

pub copy_within-requires-clause-in_bounds : goal.copy_within-requires-clause-in_bounds
copy_within-requires-clause-in_bounds t c =
    omega (arith, places (goal.at.copy_within-requires-clause-in_bounds t c).Else-count-eq1, c.requires.2, c.split-count.array_long)

pub copy_within-requires-clause-dest_in_bounds : goal.copy_within-requires-clause-dest_in_bounds
copy_within-requires-clause-dest_in_bounds t c =
    omega (arith, places (goal.at.copy_within-requires-clause-dest_in_bounds t c).Else-count-eq1, c.requires.2, c.split-count.array_long)

pub loop-k-init : goal.loop-k-init
loop-k-init t c =
    let a = c.args in
    let o = c.put_inner in
    let w = splits (goal.at.loop-k-init t c).Else-count-eq1 in
    record {
      built = 0;
      place = omega arith;
      going = going_start (vetoes c.args.build) (entered a.t.now) a.s w a.at o.new.room (kept a.room.now o.new.room (inner_bytes a.parent) (width * a.at) longest o.ensures c.requires.5);
      same = record { long = c.copy_within.ensures.len ∙ c.split-count.array_long; same = refl };
      counting = counting_start (vetoes c.args.build) (entered a.t.now) a.s w c.split-count.result.looked c.split-count.ensures.looked_value;
    }

pub grow-grown-requires : goal.grow-grown-requires
grow-grown-requires t c =
    let i = goal.at.grow-grown-requires t c in
    let w = splits i.Else-count-eq1 in
    let r = line i.After-copy_within w in
    let p = going i.In-loop-k w r in (
      omega (arith, c.decreases, (next-part p).fewer),
      (
        (next-part p).some,
        omega (arith, part_beside p, r.ends, c.requires.1, c.loop-k.invariant.place),
        omega (arith, c.requires.2),
        c.loop-k.invariant.same.long,
        part_room p c.requires.4,
        c.loop-k.invariant.going.long,
      ),
    )

-- with those of before the triples looked at are not too many
pub overflow_add-looked : goal.overflow_add-looked
overflow_add-looked t c =
    let i = goal.at.overflow_add-looked t c in
    let w = splits i.Else-count-eq1 in
    let p = going i.In-loop-k w (line i.After-copy_within w) in
    omega (arith, c.grow-grown.ensures.looked_value, counting_most p c.loop-k.looked c.loop-k.invariant.counting)

pub returns-in-Err-clause-same_from : goal.returns-in-Err-clause-same_from
returns-in-Err-clause-same_from t c =
    let i = goal.at.returns-in-Err-clause-same_from t c in
    let w = splits i.Else-count-eq1 in
    let r = line i.After-copy_within w in
    let k = c.loop-k.invariant in
    lined_above r c.grow-grown.new.waiting (c.loop-k.k + 1) (k.built + 1) (omega (arith, k.place)) (left i.After-grow-grown) (omega (arith, (going i.In-loop-k w r).left))

pub returns-in-Err-clause-grows : goal.returns-in-Err-clause-grows
returns-in-Err-clause-grows t c =
    let i = goal.at.returns-in-Err-clause-grows t c in
    let w = splits i.Else-count-eq1 in
    let p = going i.In-loop-k w (line i.After-copy_within w) in
    rw c.in-Err.is (going_stop p c.in-Err.field-0 (rw c.in-Err.is at c.grow-grown.ensures.grows))

pub returns-in-Err-clause-looked_value : goal.returns-in-Err-clause-looked_value
returns-in-Err-clause-looked_value t c =
    let i = goal.at.returns-in-Err-clause-looked_value t c in
    let w = splits i.Else-count-eq1 in
    let p = going i.In-loop-k w (line i.After-copy_within w) in
    ap (λ (j : ℕ). c.loop-k.looked + j) c.grow-grown.ensures.looked_value
    ∙ counting_stop p c.loop-k.looked c.loop-k.invariant.counting c.in-Err.field-0 (rw c.in-Err.is at c.grow-grown.ensures.grows)

pub loop-k-preserved : goal.loop-k-preserved
loop-k-preserved t c =
    let i = goal.at.loop-k-preserved t c in
    let w = splits i.Else-count-eq1 in
    let p = going i.In-loop-k w (line i.After-copy_within w) in
    let a = c.args in
    let k = c.loop-k.invariant in
    let r = c.grow-grown.ensures in
    let q = rw c.in-Ok.is at r.grows in
    record {
      built = k.built + 1;
      place = omega (arith, k.place);
      going = going_step p c.in-Ok.m c.grow-grown.new.room r.room_len q;
      same = left i.After-grow-grown;
      counting = subst (Counting (vetoes c.args.build) (entered a.t.now) a.s (k.built + 1))
          (ap (λ (j : ℕ). c.loop-k.looked + j) (sym r.looked_value))
          (counting_step p c.loop-k.looked k.counting c.in-Ok.m c.grow-grown.new.room q);
    }

pub returns-clause-same_from : goal.returns-clause-same_from
returns-clause-same_from t c =
    let i = goal.at.returns-clause-same_from t c in
    let l = c.loop-k in
    let k = l.invariant in
    lined_above (line i.After-copy_within (splits i.Else-count-eq1)) l.waiting l.k k.built k.place k.same k.going.within

pub returns-clause-grows : goal.returns-clause-grows
returns-clause-grows t c =
    let i = goal.at.returns-clause-grows t c in
    let w = splits i.Else-count-eq1 in
    let a = c.args in
    let l = c.loop-k in
    let k = l.invariant in
    let o = c.put_inner in
    let all : length (parts_of (entered a.t.now) a.s) ≤ k.built = omega (arith, c.loop-k-test.false, k.place, (line i.After-copy_within w).ends) in
    going_end (vetoes c.args.build) (entered a.t.now) a.s w a.at o.new.room k.built l.next a.parent a.room.now l.room all k.going o.ensures

pub returns-clause-looked_value : goal.returns-clause-looked_value
returns-clause-looked_value t c =
    let i = goal.at.returns-clause-looked_value t c in
    let w = splits i.Else-count-eq1 in
    let a = c.args in
    let l = c.loop-k in
    let k = l.invariant in
    let all : length (parts_of (entered a.t.now) a.s) ≤ k.built = omega (arith, c.loop-k-test.false, k.place, (line i.After-copy_within w).ends) in
    counting_end (vetoes c.args.build) (entered a.t.now) a.s w k.built l.looked k.going.within all k.counting
