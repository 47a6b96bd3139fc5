-- For a tree that passes PC, each of its triplets is forced exactly when each of its groups, the root's aside, is earned. Assumes nothing.
use mathlib.Core.Bool.{So}
use mathlib.Core.Logic.{◌↔◌, ◌≢◌}
use mathlib.Core.Path.{subst}
use Prim.Native.Nat.{ℕ}
use borrow.Author.Tests.{eqb-true}
use lib.Dec.{eqb}
use Rattle.sets.proofs.Bools.{and_i, and_l, ne_e, or_case, or_l, or_r, test}
use Rattle.sets.specs.Species.{Below, Inside, Species, either}
use Rattle.trees.proofs.Agreement.{Agrees, R-proper, agrees_held}
use Rattle.trees.proofs.Alike.{closed, lies}
use Rattle.trees.proofs.Chain.{Barred, barred_up, grown_pair, narrow, pair_bars}
use Rattle.trees.proofs.Core.{core_bars, sure_forced}
use Rattle.trees.proofs.Formed.{Formed}
use Rattle.trees.proofs.Lowest.{some_species}
use Rattle.trees.proofs.Parts.{part_closed, part-least, part_refl}
use Rattle.trees.proofs.Siblings.{between, find, made, siblings_swap}
use Rattle.trees.proofs.Splits.{holds_e, holds_swap}
use Rattle.trees.specs.Check.{Earned, Joins, PI, R, core, pair}
use Rattle.trees.specs.Links.{part}
use Rattle.trees.specs.Trees.{Siblings, Tree, under}
use Rattle.trees.specs.Triplets.{Proper, Triplets, holds}

module _ (E : Triplets) (pr : Proper E) (N : ℕ) (T : Tree) (w : Formed T) (bd : Below N (under T)) (ag : Agrees E T) where
  rp : Proper (R E T)
  rp = R-proper E pr T

  module _ (s s' : Tree) (sib : Siblings T s s') where
    abbrev both-sides : Species
    both-sides = either (under s) (under s')

    inn : Inside both-sides (under T)
    inn x h = or_case (under s x) (under s' x) h ((lies E pr N T w bd ag s s' sib).in_s x) ((lies E pr N T w bd ag s s' sib).in_s' x)

    sbd : Below N both-sides
    sbd x h = bd x (inn x h)

    module _ (a b c : ℕ) (ha : So (under s a)) (hb : So (under s b)) (hc : So (under s' c)) (ab : a ≢ b) where
      other : (x : ℕ) → So (under s x) → x ≢ c
      other x hx e = (lies E pr N T w bd ag s s' sib).apart c (subst (λ (z : ℕ). So (under s z)) e hx) hc

      -- what is barred is joined on the two siblings
      barred-joined : Barred (R E T) (under T) a b c → So (part (R E T) N both-sides a b)
      barred-joined h =
          let l = lies E pr N T w bd ag s s' sib in
          or_case (part (R E T) N both-sides a b) (part (R E T) N both-sides c b)
          (narrow (R E T) N rp (under T) bd a c (l.in_s a ha) (l.in_s' c hc) b (l.in_s b hb) (other a ha) ab (other b hb) (agrees_held E pr T w ag) (pair (R E T) N both-sides a c)
          (λ U sub g. grown_pair (R E T) N rp both-sides sbd a c (or_l (under s a) _ ha) (or_r (under s c) _ hc) U
          (between (R E T) T s s' w (λ x y z hx hy hz q. (holds_e T x y z (ag x y z q)).splits) sib a c ha hc U sub g) g) h).0
          (λ q. q)
          (λ q. absurd (l.apart b hb (part-least (R E T) N both-sides sbd rp (under s') (closed E pr N T w bd ag s s' sib) c b q hc)))

      -- where each sibling is joined, it is barred
      joined-barred : Joins (R E T) both-sides (under s) → Joins (R E T) both-sides (under s') → Barred (R E T) (under T) a b c
      joined-barred j j' =
          let l = lies E pr N T w bd ag s s' sib in
          let whole : (u : ℕ) (P : Species) → So (P u) → Joins (R E T) both-sides P → Inside P (part (R E T) N both-sides u)
          = λ u P hu k. k (part (R E T) N both-sides u) (part_closed (R E T) N both-sides sbd rp u) u hu (part_refl (R E T) N both-sides sbd rp u) in
          barred_up (R E T) N rp (under T) bd a c (l.in_s a ha) (l.in_s' c hc) b (l.in_s b hb) (other a ha) ab (other b hb) both-sides inn (or_l (under s a) _ ha)
          (pair_bars (R E T) N rp both-sides sbd a c (or_l (under s a) _ ha) (or_r (under s c) _ hc) b (or_l (under s b) _ hb) (other a ha)
          (λ x h. or_case (under s x) (under s' x) h
          (λ q. or_l (part (R E T) N both-sides a x) _ (whole a (under s) ha j x q))
          (λ q. or_r (part (R E T) N both-sides a x) _ (whole c (under s') hc j' x q))))

  -- on trees with exactly the species S, of which T has some
  module _ (S : Species) (kbd : Below N S) (sub : Inside (under T) S) where
    pi_earned : PI E S T → Earned (R E T) T
    pi_earned pi s s' sib X cl u hu xu x hx = test (eqb u x)
        (λ e. subst (λ (z : ℕ). So (X z)) (eqb-true u x e) xu)
        (λ e.
        let c = some_species s' (lies E pr N T w bd ag s s' sib).formed' in
        let ne = ne_e u x e in
        let h = made T s s' w sib u x c.0 hu hx c.1 ne in
        let k = (sure_forced E pr N T w bd ag S kbd sub u x c.0 h).1 (pi u x c.0 h) in
        part-least (R E T) N (either (under s) (under s')) (sbd s s' sib) rp X cl u x
        (barred-joined s s' sib u x c.0 hu hx c.1 ne ((core_bars E pr N T w bd ag u x c.0 h).0 (and_l (core (R E T) N N (under T) u c.0 x) _ k))) xu)

    earned_barred : Earned (R E T) T → (a b c : ℕ) → So (holds T a b c) → Barred (R E T) (under T) a b c
    earned_barred er a b c h =
        let (s, s', q, ha, hb, hc) = find T a b c h in
        let turn : Inside (either (under s') (under s)) (either (under s) (under s')) = λ x k. or_case (under s' x) (under s x) k (or_r (under s x) (under s' x)) (or_l (under s x) (under s' x)) in
        joined-barred s s' q a b c ha hb hc (holds_e T a b c h).ab (er s s' q)
        (λ X cl. er s' s (siblings_swap T s s' q) X (λ x y z p hx hy hz e. cl x y z p (turn x hx) (turn y hy) (turn z hz) e))

    pub earned_pi : PI E S T ↔ Earned (R E T) T
    earned_pi = (
      pi_earned,
      λ er a b c h. (sure_forced E pr N T w bd ag S kbd sub a b c h).0 (and_i (core (R E T) N N (under T) a c b) _
          ((core_bars E pr N T w bd ag a b c h).1 (earned_barred er a b c h))
          (let h' = holds_swap T a b c h in (core_bars E pr N T w bd ag b a c h').1 (earned_barred er b a c h'))),
    )
