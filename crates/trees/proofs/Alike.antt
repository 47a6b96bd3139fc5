-- For a tree that passes PC, the two other triplets on a triple that it resolves are possible or impossible together. Assumes nothing.
use mathlib.Core.Bool.{So}
use mathlib.Core.Logic.{◌↔◌, ◌≢◌}
use mathlib.Core.Path.{subst, sym}
use Prim.Native.Nat.{ℕ}
use Rattle.sets.proofs.Bools.{or_case, or_l, or_r}
use Rattle.sets.specs.Species.{Below, Inside, Species, either}
use Rattle.trees.proofs.Agreement.{Agrees, R-proper, agrees_held, exclusive}
use Rattle.trees.proofs.Chain.{Barred, grown_pair, pair-joins, way}
use Rattle.trees.proofs.Criterion.{no_tree}
use Rattle.trees.proofs.Formed.{Formed}
use Rattle.trees.proofs.Parts.{part-least, part_sym, part_trans}
use Rattle.trees.proofs.Siblings.{Lie, between, find, lie, made, siblings_swap}
use Rattle.trees.proofs.Splits.{holds_e, holds_swap}
use Rattle.trees.specs.Check.{R, pair}
use Rattle.trees.specs.Links.{Closed, part}
use Rattle.trees.specs.Trees.{Siblings, Tree, under}
use Rattle.trees.specs.Triplets.{Proper, Triplets, holds}

module _ (E : Triplets) (pr : Proper E) (N : ℕ) (T : Tree) (w : Formed T) (bd : Below N (under T)) (ag : Agrees E T) where
  module _ (s s' : Tree) (sib : Siblings T s s') where
    abbrev S : Species
    S = either (under s) (under s')

    pub lies : Lie T s s'
    lies = lie T s s' w sib

    -- no link between siblings
    pub closed : Closed (R E T) S (under s')
    closed x y z p hx hy hz e = let k = ag x y z e in let o = holds_e T x y z k in or_case (under s y) (under s' y) hy
        (λ q. absurd (or_case (under s z) (under s' z) hz
        (λ i. exclusive T w y x z (holds_swap T x y z k) (made T s s' w sib y z x q i p o.bc))
        (λ i. exclusive T w x y z k (made T s' s w (siblings_swap T s s' sib) x z y p i q o.ac))))
        (λ q. q)

    -- what bars ac|b bars bc|a: on the set that stands in the way a and b are in one part
    turned : (a b c : ℕ) → So (under s a) → So (under s b) → So (under s' c) → a ≢ b → Barred (R E T) (under T) a b c → Barred (R E T) (under T) b a c
    turned a b c ha hb hc ab h =
        let rp = R-proper E pr T in
        let l = lies in
        let other : (x : ℕ) → So (under s x) → x ≢ c = λ x hx e. l.apart c (subst (λ (z : ℕ). So (under s z)) e hx) hc in
        let (U, blk, ua, ub, uc, g) = way (R E T) N rp (under T) bd a c (l.in_s a ha) (l.in_s' c hc) b (l.in_s b hb) (other a ha) ab (other b hb) (agrees_held E pr T w ag) h in
        let ubd : Below N U = λ x q. bd x (blk.inside x q) in
        let uS : Inside U S = between (R E T) T s s' w (λ x y z hx hy hz q. (holds_e T x y z (ag x y z q)).splits) sib a c ha hc U blk.inside g in
        let all : Inside U (pair (R E T) N U a c) = grown_pair (R E T) N rp U ubd a c ua uc U (λ x q. q) g in
        let same : So (part (R E T) N U a b) = or_case (part (R E T) N U a b) (part (R E T) N U c b) (all b ub) (λ q. q)
        (λ q. absurd (l.apart b hb (part-least (R E T) N U ubd rp (under s') (λ x y z p hx hy hz e. closed x y z p (uS x hx) (uS y hy) (uS z hz) e) c b q hc))) in
        no_tree _ (under T) U (record {
          inside = blk.inside;
          join = pair-joins (R E T) N rp U ubd b c ub uc a ua (λ x hx. or_case (part (R E T) N U a x) (part (R E T) N U c x) (all x hx)
              (λ q. or_l (part (R E T) N U b x) _ (part_trans (R E T) N U ubd rp b a x ua (part_sym (R E T) N U ubd rp a b same) q))
              (λ q. or_r (part (R E T) N U b x) _ q));
          two = blk.two;
        })

  pub alike : (a b c : ℕ) → So (holds T a b c) → Barred (R E T) (under T) a b c ↔ Barred (R E T) (under T) b a c
  alike a b c h = let (s, s', q, ha, hb, hc) = find T a b c h in let o = holds_e T a b c h in
      (turned s s' q a b c ha hb hc o.ab, turned s s' q b a c hb ha hc (λ e. o.ab (sym e)))
