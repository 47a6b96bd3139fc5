-- `listing::fill` meets its contract. Assumes nothing.
use Rattle.std.proofs.Common.{◌≡◌, ◌∙◌, List, add-one, ap, arith, length, refl, replicate, subst, ℕ}
use Rattle.std.proofs.lemmas.List.{length-replicate}
use Rattle.collections.specs.Layout.{species, trees}
use Rattle.tables.proofs.Adding.{adds_table}
use Rattle.tables.specs.Adds.{Adds}
use Rattle.tables.specs.Filled.{byte_for}
use Rattle.triples.specs.Index.{C}
use Rattle.listing.proofs.Collected.{part_good, said_next, said_none}
use Rattle.listing.specs.Lists.{said_up_to}
use Rattle.listing.proofs.fill.Goals as goal

pub loop-k-init : goal.loop-k-init
loop-k-init c = (
  ap length c.clear.ensures ∙ length-replicate {A = ℕ} (length c.args.t.now) 0 ∙ c.requires.3,
  said_none c.args.b.now _ (C c.args.n 3),
  refl,
  refl,
)

pub tree-requires-clause-n_bound : goal.tree-requires-clause-n_bound
tree-requires-clause-n_bound c = part_good c.args.b.now c.requires.0 c.loop-k.k (omega (arith, c.loop-k-test.true, c.requires.2)) c.args.n _ c.requires.1 c.body.ensures

pub loop-k-preserved : goal.loop-k-preserved
loop-k-preserved c =
    let l = c.loop-k in (
      c.tree.ensures.t_len.0,
      rw (add-one l.k) (said_next c.args.b.now c.requires.0 l.k (omega (arith, c.loop-k-test.true, c.requires.2)) c.args.n _ _ l.t _ c.body.ensures l.invariant.1 c.tree.ensures.t_len.1),
      c.tree.ensures.groups_len_2.0,
      c.tree.ensures.groups_len_2.1,
    )

pub returns : goal.returns
returns c =
    let l = c.loop-k in
    let b = c.args.b.now in
    let n = c.args.n in
    let e : l.k ≡ trees b = omega (arith, c.loop-k-test.false, c.requires.2) in
    let d : C n 3 ≡ C (species b) 3 = ap (λ (x : ℕ). C x 3) c.requires.1 in
    adds_table (species b) (said_up_to b (trees b)) l.t
    (subst (λ (x : ℕ). Adds (byte_for (said_up_to b (trees b))) 0 x (replicate x 0) l.t) d
    (subst (λ (k : ℕ). Adds (byte_for (said_up_to b k)) 0 (C n 3) (replicate (C n 3) 0) l.t) e
    (subst (λ (t : List ℕ). Adds (byte_for (said_up_to b l.k)) 0 (C n 3) t l.t) (c.clear.ensures ∙ ap (λ (x : ℕ). replicate x 0) c.requires.3) l.invariant.1)))
