-- `collections::all_trees` meets its contract: each turn reads one tree, or ends with its refusal. Assumes nothing.
use Rattle.std.proofs.Common.{◌≡◌, ◌≤◌, ◌+◌, ◌-◌, ◌∙◌, ℕ, suc, List, take, drop, ap, sym, refl, arith, rules, add-one, Ok, Err}
use Rattle.sets.specs.Sets.{number}
use Rattle.answers.specs.Looks.{Look, answered, first_refusal}
use Rattle.collections.specs.Layout.{body_at, start, trees}
use Rattle.collections.specs.Occurs.{occurring, occurs_up_to}
use Rattle.collections.specs.Reads.{counts_of, looks_from, next_of}
use Rattle.collections.proofs.Occurring.{occurs_next, occurs_none, sound_body}
use Rattle.collections.proofs.Starts.{part_is, start-suc, start-zero}
use Rattle.collections.proofs.Steps.{Sound, turn_stop, turn_on, next-at, end_left, end_good}
use Rattle.collections.proofs.all_trees.Goals as goal

pub loop-k-init : goal.loop-k-init
loop-k-init c =
    let z : c.args.m - 0 ≡ c.args.m = omega arith in
    record { starts = sym (start-zero c.args.b.now); inside = omega arith; rest = rw z refl; species = occurs_none c.args.b.now }

-- tree k was read: where the next one starts, and the body that was judged
record Turn (b : List ℕ) (k at to : ℕ) : Type 0 where
  next : to ≡ start b (suc k)
  sound : Sound b k
  from : at + 2 ≤ to
  is : take (to - (at + 2)) (drop (at + 2) b) ≡ body_at b k

turn : (b : List ℕ) (k at to : ℕ) → at ≡ start b k → next_of b k ≡ Ok to → Turn b k at to
turn b k at to e h =
    let j = next-at b k to h in
    let f : at + 2 ≡ start b k + 2 = ap (λ (x : ℕ). x + 2) e in
    record { next = j.0; sound = j.1; from = omega (arith, j.0, start-suc b k); is = part_is b k (at + 2) to f j.0 }

pub returns-in_err-to : goal.returns-in_err-to
returns-in_err-to c =
    let l = c.loop-k in
    let b = c.args.b.now in
    let e = ap (λ (k : Look). answered Ok Err k (counts_of b))
    (ap (λ (j : ℕ). first_refusal (looks_from b 0 j)) (sym c.requires.2) ∙ l.invariant.rest ∙ turn_stop b c.args.m l.k _ c.loop-k-test.true (sym c.one_tree.ensures ∙ c.in_err-to.was)) in
    rw e (search rules)

pub slice_bounds-tree_set-count : goal.slice_bounds-tree_set-count
slice_bounds-tree_set-count c = (turn c.args.b.now c.loop-k.k c.loop-k.at c.in_ok-to.to c.loop-k.invariant.starts (sym c.one_tree.ensures ∙ c.in_ok-to.was)).from

pub slice_bounds-tree_set-start : goal.slice_bounds-tree_set-start
slice_bounds-tree_set-start c = (turn c.args.b.now c.loop-k.k c.loop-k.at c.in_ok-to.to c.loop-k.invariant.starts (sym c.one_tree.ensures ∙ c.in_ok-to.was)).from

pub slice_bounds-tree_set-end : goal.slice_bounds-tree_set-end
slice_bounds-tree_set-end c =
    let t = turn c.args.b.now c.loop-k.k c.loop-k.at c.in_ok-to.to c.loop-k.invariant.starts (sym c.one_tree.ensures ∙ c.in_ok-to.was) in
    omega (arith, t.next, t.sound.0)

pub tree_set-requires : goal.tree_set-requires
tree_set-requires c =
    let t = turn c.args.b.now c.loop-k.k c.loop-k.at c.in_ok-to.to c.loop-k.invariant.starts (sym c.one_tree.ensures ∙ c.in_ok-to.was) in
    sound_body c.args.b.now c.loop-k.k _ t.is (omega (arith, c.requires.1, c.requires.3)) t.sound

pub loop-k-preserved : goal.loop-k-preserved
loop-k-preserved c =
    let b = c.args.b.now in
    let k = c.loop-k.k in
    let g = sym c.one_tree.ensures ∙ c.in_ok-to.was in
    let t = turn b k c.loop-k.at c.in_ok-to.to c.loop-k.invariant.starts g in
    record {
      starts = t.next ∙ ap (start b) (sym (add-one k));
      inside = omega (arith, t.next, t.sound.0);
      rest = c.loop-k.invariant.rest ∙ turn_on b c.args.m k c.in_ok-to.to c.loop-k-test.true g;
      species = occurs_next b k _ t.is c.loop-k.set c.tree_set.result c.union-set.result c.loop-k.invariant.species c.tree_set.ensures c.union-set.ensures;
    }

-- all trees were read
done : (b : List ℕ) (m k : ℕ) → m ≡ trees b → m ≤ k → first_refusal (looks_from b 0 m) ≡ first_refusal (looks_from b k (m - k)) → first_refusal (looks_from b 0 (trees b)) ≡ first_refusal (looks_from b k 0)
done b m k e l r =
    let z : m - k ≡ 0 = omega arith in
    ap (λ (j : ℕ). first_refusal (looks_from b 0 j)) (sym e) ∙ r ∙ ap (λ (j : ℕ). first_refusal (looks_from b k j)) z

pub returns-then-at-b : goal.returns-then-at-b
returns-then-at-b c =
    let l = c.loop-k in
    let b = c.args.b.now in
    sym (ap (λ (k : Look). answered Ok Err k (counts_of b)) (done b c.args.m l.k c.requires.2 c.loop-k-test.false l.invariant.rest ∙ end_left b l.k l.at l.invariant.starts c.if-at-b.true))

pub returns : goal.returns
returns c =
    let l = c.loop-k in
    let b = c.args.b.now in
    let m : l.k ≡ trees b = omega (arith, c.requires.2) in
    let o : l.set ≡ occurring b = l.invariant.species ∙ ap (λ (k : ℕ). number 64 (occurs_up_to b k)) m in
    rw (c.requires.1, c.requires.2, o)
    (sym (ap (λ (k : Look). answered Ok Err k (counts_of b)) (done b c.args.m l.k c.requires.2 c.loop-k-test.false l.invariant.rest ∙ end_good b l.k l.at l.invariant.starts c.if-at-b.false)))
