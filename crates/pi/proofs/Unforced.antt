-- For a tree that nothing contradicts, one look at the core of two species decides the triplet on a triple. Assumes nothing.
use mathlib.Core.Bool.{Bool, So, ◌&&◌, false, not, or-false, true}
use mathlib.Core.List.{List}
use mathlib.Core.Logic.{◌≢◌}
use mathlib.Core.Path.{◌∙◌, ◌≡◌, ap, refl, subst, sym}
use Prim.Native.Nat.{◌+◌, ℕ}
use native.Mathlib.Omega.{arith}
use borrow.Author.Tests.{not-true}
use lib.ListN.{length}
use Rattle.sets.proofs.Bools.{and_i, not_i, or_case, or_l, or_r, test}
use Rattle.sets.proofs.Tests.{number_is}
use Rattle.sets.specs.Sets.{has}
use Rattle.sets.specs.Species.{Below, Inside, Species, either, members}
use Rattle.trees.proofs.Agreement.{Agrees, R-proper, agrees_held, exclusive}
use Rattle.trees.proofs.Core.{Core, core-right}
use Rattle.trees.proofs.Criterion.{held_inside}
use Rattle.trees.proofs.Formed.{Formed, formed_e}
use Rattle.trees.proofs.Near.{core_near, core_turn, part_ways, sure-core}
use Rattle.trees.proofs.Siblings.{lie, made, siblings_swap}
use Rattle.trees.proofs.Splits.{holds_e, holds_i, holds_proper, holds_swap}
use Rattle.trees.proofs.Triples.{swap_same}
use Rattle.trees.specs.Check.{R, core, sure, unsure}
use Rattle.trees.specs.Trees.{Siblings, Tree, under}
use Rattle.trees.specs.Triplets.{Triplets, different, holds, on_triple}
use Rattle.groups.proofs.Common.{common_e, common_i}
use Rattle.groups.proofs.Meant.{says_exactly}
use Rattle.groups.specs.Groups.{SaysRight, common, cell, says}
use Rattle.groups.specs.declared.Says.{Says}
use Rattle.groups.specs.declared.Says.TheVariants.{AB, AC, BC}
use Rattle.pi.specs.Cores.{IsCore, Uncontradicted}

-- the smallest common group of two species has the two siblings where they part ways
common_near : (T s s' : Tree) → Formed T → Siblings T s s' → (a c : ℕ) → So (under s a) → So (under s' c) → Inside (either (under s) (under s')) (common T a c)
common_near T s s' w sib a c ha hc x h =
    let l = lie T s s' w sib in
    let ac : a ≢ c = λ e. l.apart a ha (rw e hc) in
    let tx = or_case (under s x) (under s' x) h (l.in_s x) (l.in_s' x) in
    common_i T a c x (record {
      left = l.in_s a ha;
      right = l.in_s' c hc;
      own = tx;
      uncut = λ q.
          let k = holds_i T a c x ac tx q in
          let o = holds_e T a c x k in
          or_case (under s x) (under s' x) h
          (λ i. exclusive T w a x c (made T s s' w sib a x c ha i hc o.ac) k)
          (λ i. exclusive T w c x a (made T s' s w (siblings_swap T s s' sib) c x a hc i ha o.bc) (holds_swap T a c x k));
    })

-- of the three triplets on a triple at most one is held, and is sure or not
module _ (H S : Triplets) (a b c : ℕ) where
  abbrev speaks : Bool
  speaks = on_triple (λ i j k. H i j k && not (S i j k)) a b c

  one : (x : Bool) → H a b c ≡ true → H a c b ≡ false → H b c a ≡ false → S a b c ≡ x → not x ≡ speaks
  one x e f g k = rw (e, f, g, k) (sym (or-false (not x)))

  two : (x : Bool) → H a b c ≡ false → H a c b ≡ true → H b c a ≡ false → S a c b ≡ x → not x ≡ speaks
  two x e f g k = rw (e, f, g, k) (sym (or-false (not x)))

  three : (x : Bool) → H a b c ≡ false → H a c b ≡ false → H b c a ≡ true → S b c a ≡ x → not x ≡ speaks
  three x e f g k = rw (e, f, g, k) refl

module _ (E : Triplets) (n : ℕ) (T : Tree) (whole : ℕ) (meets masks : List ℕ) (u : Uncontradicted E n T whole meets masks) where
  w : Formed T
  w = formed_e T u.tree.drawn.formed

  agrees : Agrees E T
  agrees a b c h = test (holds T a b c) (λ q. q) (λ q. absurd (u.none a b c (and_i (R E T a b c) _ h q)))

  bd : Below 64 (under T)
  bd x h = let l = u.tree.below x h in omega (arith, u.few)

  -- the core in the smallest common group is the core
  near_core : (a c x : ℕ) → a ≢ c → So (under T a) → So (under T c) → IsCore (R E T) (cell meets a c) a c x → Core (R E T) (under T) a c (has x)
  near_core a c x ac ha hc k =
      let G = common T a c in
      let rp = R-proper E u.proper T in
      let (s, s', sib, sa, sc) = part_ways T a c ac ha hc in
      let near = common_near T s s' w sib a c sa sc in
      let sub : Inside G (under T) = λ i h. (common_e T a c i h).own in
      let gbd : Below 64 G = λ i h. bd i (sub i h) in
      let ga : So (G a) = near a (or_l (under s a) _ sa) in
      let gc : So (G c) = near c (or_r (under s c) _ sc) in
      let is : has (cell meets a c) ≡ G = ap has (u.tree.drawn.meet.pair a c (bd a ha) (bd c hc)) ∙ number_is 64 G gbd in
      let r = k (ap (λ (Z : Species). Z a) is ∙ ga) (ap (λ (Z : Species). Z c) is ∙ gc) in
      let m = r.0 + length (members 64 G) in
      core_near E u.proper n T w u.tree.below agrees s s' sib a c sa sc G (has x) sub near
      (subst (Core (R E T) G a c) (sym (r.1 (length (members 64 G)) ∙ ap (λ (Z : Species). core (R E T) 64 m Z a c) is))
      (core-right (R E T) 64 rp a c ac m G gbd ga gc (held_inside (R E T) n rp (under T) G u.tree.below sub a ga (agrees_held E u.proper T w agrees)) (omega arith)))

  -- ab|c and ac|b are not both held
  other : (a b c : ℕ) → So (holds T a b c) → holds T a c b ≡ false
  other a b c h = not-true (holds T a c b) (not_i (holds T a c b) (exclusive T w a b c h))

  other_swap : (a b c : ℕ) → So (holds T a b c) → holds T b c a ≡ false
  other_swap a b c h = other b a c (holds_swap T a b c h)

  -- s is what T says of a, b and c, and x the core that is looked at
  module _ (a b c : ℕ) (d : So (different a b c)) (s : Says) (is : s ≡ says T a b c) where
    meant : SaysRight T a b c s
    meant = subst (SaysRight T a b c) (sym is) (says_exactly T a b c u.tree.drawn.formed d)

    pub look_ab : s ≡ AB → (x : ℕ) → IsCore (R E T) (cell meets a c) a c x → not (has x b) ≡ on_triple (unsure E n T) a b c
    look_ab e x k = let h = meant.ab.0 e in let o = holds_e T a b c h in
        one (holds T) (sure E n T) a b c (has x b) h (other a b c h) (other_swap a b c h)
        (sure-core E u.proper n T w u.tree.below agrees a b c (has x) (near_core a c x o.ac o.in_a o.in_c k) h)

    pub look_ac : s ≡ AC → (x : ℕ) → IsCore (R E T) (cell meets a b) a b x → not (has x c) ≡ on_triple (unsure E n T) a b c
    look_ac e x k = let h = meant.ac.0 e in let o = holds_e T a c b h in
        two (holds T) (sure E n T) a b c (has x c) (other a c b h) h (swap_same (holds T) (holds_proper T) b c a ∙ other_swap a c b h)
        (sure-core E u.proper n T w u.tree.below agrees a c b (has x) (near_core a b x o.ac o.in_a o.in_c k) h)

    pub look_bc : s ≡ BC → (x : ℕ) → IsCore (R E T) (cell meets a b) a b x → not (has x c) ≡ on_triple (unsure E n T) a b c
    look_bc e x k = let h = meant.bc.0 e in let o = holds_e T b c a h in
        three (holds T) (sure E n T) a b c (has x c) (swap_same (holds T) (holds_proper T) a b c ∙ other b c a h) (swap_same (holds T) (holds_proper T) a c b ∙ other_swap b c a h) h
        (sure-core E u.proper n T w u.tree.below agrees b c a (has x)
        (core_turn (R E T) (under T) a b (has x) (near_core a b x (λ q. o.ac (sym q)) o.in_c o.in_a k)) h)
