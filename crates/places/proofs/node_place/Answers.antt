-- What is still to be passed, from the spot and the nodes so far, comes to the whole. Assumes nothing.
use Rattle.std.proofs.Common.{◌≡◌, ◌∙◌, length, sym, arith, get_or}
use Rattle.newick.specs.Place.{onward}
use Rattle.newick.specs.Signs.{sign}
use Rattle.places.proofs.NodePlaces.{place_none, place_passed, place_reached}
use Rattle.places.proofs.node_place.Goals.{then-begins+else-left-eq0, else-begins}
use Rattle.places.proofs.node_place.Goals as goal

pub returns-then-left-eq0 : goal.returns-then-left-eq0
returns-then-left-eq0 c =
    let l = c.loop-i in
    let p = l.invariant.0 in
    sym (place_reached c.args.text.now l.i p l.left 1 (omega arith) (rw c.if-begins.true at (c.begins.ensures p l.invariant.1)) (omega arith)) ∙ l.invariant.2

pub loop-i-preserved : goal.loop-i-preserved
loop-i-preserved c =
    let l = c.loop-i in
    let w = c.args.text.now in
    let p = l.invariant.0 in
    let e = c.begins.ensures p l.invariant.1 in (
      onward p (sign (get_or w l.i 0)),
      c.fresh_behind-fresh.ensures p l.invariant.1,
      elim c.if-begins.branch [
        | then-begins+else-left-eq0 b ↦ place_passed w l.i p l.left 1 (omega arith) (rw b.if-begins.true at e) _ (omega arith)
        | else-begins b ↦ place_passed w l.i p l.left 0 (omega arith) (rw b.if-begins.false at e) _ (omega arith)
      ] ∙ l.invariant.2,
    )

pub returns : goal.returns
returns c =
    let l = c.loop-i in
    let e : l.i ≡ length c.args.text.now = omega arith in
    sym e ∙ sym (place_none c.args.text.now l.i l.invariant.0 l.left (omega arith) (omega arith)) ∙ l.invariant.2
