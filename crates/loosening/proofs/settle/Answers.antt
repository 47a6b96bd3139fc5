-- `loosening::settle` meets its contract: PC first, then what is lent, and then the tree is loosened. Assumes nothing.
use mathlib.Core.Bool.{false}
use mathlib.Core.List.{List}
use mathlib.Core.Path.{◌∙◌, ◌≡◌, refl, sym}
use Prim.Native.Nat.{◌≤◌, ℕ}
use borrow.Author.Rules.{rules}
use borrow.Author.Tests.{le-ltb, lt-ltb}
use lib.ListN.{length}
use Rattle.trees.specs.Trees.{Tree}
use Rattle.bodies.specs.Draws.{tree_of}
use Rattle.bodies.specs.Nodes.{Good, bad_length, nodes}
use Rattle.groups.specs.Groups.{Candidate, Drawn}
use Rattle.refusals.specs.declared.Refusal.TheVariants.{ShortRoom}
use Rattle.answers.proofs.Answered.{is_done, is_refused}
use Rattle.answers.specs.Looks.{Look}
use Rattle.checking.proofs.Judged.{candidate}
use Rattle.checking.specs.Checks.{look_pc}
use Rattle.loosening.proofs.settle.Goals as goal

-- what the look at PC said of the drawing, said of the body's tree
looked : (n : ℕ) (t b : List ℕ) → (n ≤ 64) × Good n (nodes b) × (bad_length (length b) ≡ false) → {whole : ℕ} {meets : List ℕ} → Drawn (tree_of b) whole meets → {r : Look}
    → ((T : Tree) → Candidate n T whole meets → r ≡ look_pc n t T) → {s : Look} → r ≡ s → look_pc n t (tree_of b) ≡ s
looked n t b (small, g, l) d said e = sym (said (tree_of b) (candidate n b small g l d)) ∙ e

pub look_pc-requires : goal.look_pc-requires
look_pc-requires c = let (small, g, l) = c.requires in let b = c.args.body.now in (small, (tree_of b, candidate c.args.n b small g l c.draw-whole.ensures.drawn))

pub returns-in_err-look_pc : goal.returns-in_err-look_pc
returns-in_err-look_pc c = rw (looked c.args.n c.args.t.now c.args.body.now c.requires c.draw-whole.ensures.drawn c.look_pc.ensures c.in_err-look_pc.was) (search rules)

pub returns-then-room-body : goal.returns-then-room-body
returns-then-room-body c =
    let agreed = looked c.args.n c.args.t.now c.args.body.now c.requires c.draw-whole.ensures.drawn c.look_pc.ensures c.in_ok-look_pc.was in
    is_refused ShortRoom (rw (agreed, lt-ltb (length c.args.room.now) (length c.args.body.now) c.if-room-body.true) refl)

pub returns-then-list-lt-MOST_DROPPED : goal.returns-then-list-lt-MOST_DROPPED
returns-then-list-lt-MOST_DROPPED c =
    let agreed = looked c.args.n c.args.t.now c.args.body.now c.requires c.draw-whole.ensures.drawn c.look_pc.ensures c.in_ok-look_pc.was in
    let fits = le-ltb (length c.args.room.now) (length c.args.body.now) c.if-room-body.false in
    is_refused ShortRoom (rw (agreed, fits, lt-ltb (length c.args.list.now) 62 c.if-list-lt-MOST_DROPPED.true) refl)

pub returns : goal.returns
returns c =
    let agreed = looked c.args.n c.args.t.now c.args.body.now c.requires c.draw-whole.ensures.drawn c.look_pc.ensures c.in_ok-look_pc.was in
    let fits = le-ltb (length c.args.room.now) (length c.args.body.now) c.if-room-body.false in
    is_done (rw (agreed, fits, le-ltb (length c.args.list.now) 62 c.if-list-lt-MOST_DROPPED.false) refl) c.ease.ensures.value c.ease.ensures.list_after
