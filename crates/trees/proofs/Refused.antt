-- A set of two or more species that its links join lies in no tree that holds its triplets: the species of a node's first child form a closed
-- set, so that the set lies in that child or in the others. Assumes nothing.
use mathlib.Core.Bool.{So, ◌||◌, false≢true}
use mathlib.Core.Path.{◌∙◌, sym}
use Prim.Native.Nat.{ℕ}
use borrow.Author.Tests.{eqb-true}
use Rattle.sets.proofs.Bools.{or_case}
use Rattle.sets.specs.Species.{Inside, Species, Two}
use Rattle.trees.proofs.Formed.{Formed, FormedF}
use Rattle.trees.proofs.Splits.{holds_e, node_splits, splits, splits_in, splits_f, splits_f_in}
use Rattle.trees.specs.Links.{Joined}
use Rattle.trees.specs.Trees.{Forest, Tree, cons, leaf, nil, node, under, under_f}
use Rattle.trees.specs.Triplets.{Triplets, holds}

module _ (E : Triplets) (U : Species) (two : Two U) (join : Joined E U) where
  abbrev All : Triplets → Type 0
  All P = (a b c : ℕ) → So (U a) → So (U b) → So (U c) → So (E a b c) → So (P a b c)

  mutual
    no_tree : (t : Tree) → Formed t → Inside U (under t) → All (splits t) → ⊥
    no_tree (leaf x) w sub all = let (u, v, hu, hv, ne) = two in ne (sym (eqb-true x u (sub u hu)) ∙ eqb-true x v (sub v hv))
    no_tree (node f) w sub all = no_forest f w.1 sub (λ a b c ha hb hc e. node_splits f a b c (sub c hc) (all a b c ha hb hc e))

    no_forest : (f : Forest) → FormedF f → Inside U (under_f f) → All (splits_f f) → ⊥
    no_forest nil w sub all = false≢true (sub two.0 two.2)
    no_forest (cons t f) w sub all =
        let u = two.0 in
        let hu = two.2 in
        let in-t : (a b c : ℕ) → So (under t a) → So (splits t a b c || splits_f f a b c) → So (splits t a b c)
        = λ a b c p h. or_case (splits t a b c) (splits_f f a b c) h (λ k. k) (λ k. absurd (w.1 a p (splits_f_in f a b c k).0)) in
        let in_f : (a b c : ℕ) → So (under_f f a) → So (splits t a b c || splits_f f a b c) → So (splits_f f a b c)
        = λ a b c p h. or_case (splits t a b c) (splits_f f a b c) h (λ k. absurd (w.1 a (splits_in t a b c k).0 p)) (λ k. k) in
        or_case (under t u) (under_f f u) (sub u hu)
        (λ p. let s : Inside U (under t) = join (under t) (λ a b c xa ha hb hc e. (splits_in t a b c (in-t a b c xa (all a b c ha hb hc e))).1) u hu p in
        no_tree t w.0 s (λ a b c ha hb hc e. in-t a b c (s a ha) (all a b c ha hb hc e)))
        (λ p. let s : Inside U (under_f f) = join (under_f f) (λ a b c xa ha hb hc e. (splits_f_in f a b c (in_f a b c xa (all a b c ha hb hc e))).1) u hu p in
        no_forest f w.2 s (λ a b c ha hb hc e. in_f a b c (s a ha) (all a b c ha hb hc e)))

  pub refused : (t : Tree) → Formed t → Inside U (under t) → All (holds t) → ⊥
  refused t w sub all = no_tree t w sub (λ a b c ha hb hc e. (holds_e t a b c (all a b c ha hb hc e)).splits)
