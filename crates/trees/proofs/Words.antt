-- Where no tree holds R the paper's words and document 01's differ: an example, proved. n=4, document 01's table 3 0 0 0, which says 01|2 and 02|1; the candidate is
-- (((0,1),2),3). PC fails by both. With R any triplet "can be held by no tree", so that document 01's PI holds; but no part of R that a tree holds says
-- anything of 3, so that R does not induce 02|3, and the paper's PI fails. Assumes nothing.
use mathlib.Core.Bool.{So}
use mathlib.Core.Logic.{◌⊎◌, inl, inr}
use mathlib.Core.Path.{◌≡◌, refl}
use Prim.Native.Nat.{ℕ}
use Rattle.sets.proofs.Bools.{and_l, not_e, or_case, or_l, or_r, test}
use Rattle.sets.proofs.Members.{all_below}
use Rattle.sets.specs.Species.{below, members}
use Rattle.trees.proofs.Agreement.{two-not_held}
use Rattle.trees.proofs.Criterion.{held_fewer}
use Rattle.trees.proofs.Formed.{leaves_in}
use Rattle.trees.proofs.Induced.{only_back}
use Rattle.trees.proofs.Paper.{pc_paper}
use Rattle.trees.proofs.Theorems.{build_decides}
use Rattle.trees.proofs.Triplets.{both_proper, different_e, only_proper}
use Rattle.trees.proofs.VetoRuns.{quarrel}
use Rattle.trees.specs.Build.{build, build_by, build_in, tree}
use Rattle.trees.specs.Check.{PC, PI}
use Rattle.trees.specs.Held.{CanBeHeld}
use Rattle.trees.specs.Induced.{Among, PaperPC, PaperPI}
use Rattle.trees.specs.Links.{leads, part, parts}
use Rattle.trees.specs.Trees.{Tree, cons, leaf, nil, node}
use Rattle.trees.specs.Triplets.{Proper, Triplets, both, different, only}

abbrev two : Tree → Tree → Tree
two t u = node (cons t (cons u nil))

abbrev pub nested : Tree
nested = two (two (two (leaf 0) (leaf 1)) (leaf 2)) (leaf 3)

-- a part that a tree holds has one of the two triplets at most
one_side : (P : Triplets) → Proper P → Among P quarrel → CanBeHeld P (below 4) → Among P (only 0 1 2) ⊎ Among P (only 0 2 1)
one_side P pr le held = test (P 0 1 2)
    (λ h. inl (λ x y z p. or_case (only 0 1 2 x y z) (only 0 2 1 x y z) (le x y z p) (λ q. q)
    (λ q. absurd (two-not_held P (below 4) 0 1 2 refl refl refl h (only_back P pr 0 2 1 x y z q p) held))))
    (λ h. inr (λ x y z p. or_case (only 0 1 2 x y z) (only 0 2 1 x y z) (le x y z p) (λ q. absurd (not_e (P 0 1 2) h (only_back P pr 0 1 2 x y z q p))) (λ q. q)))

one : (a b c : ℕ) → So (different a b c) → Proper (only a b c)
one a b c d = let n = different_e a b c d in only_proper a b c n.0 n.1 n.2

-- what the build finds a tree for together with 23|0 can be held with it, and so can each part of it
with_23 : (a b c : ℕ) → So (different a b c) → (t : Tree) → build (both (only a b c) (only 2 3 0)) 4 (below 4) ≡ tree t
    → (P : Triplets) → Among P (only a b c) → CanBeHeld (both P (only 2 3 0)) (below 4)
with_23 a b c d t e P le =
    held_fewer (both (only a b c) (only 2 3 0)) (both P (only 2 3 0)) (below 4)
    (λ x y z hx hy hz q. or_case (P x y z) _ q (λ r. or_l (only a b c x y z) _ (le x y z r)) (λ r. or_r (only a b c x y z) _ r))
    ((build_decides (both (only a b c) (only 2 3 0)) (both_proper _ _ (one a b c d) (one 2 3 0 refl)) 4 (below 4) (all_below 4) 0 refl).0 (t, e))

-- by ((0,1),(2,3)), and by ((0,(2,3)),1)
beside_23 : (P : Triplets) → Among P (only 0 1 2) ⊎ Among P (only 0 2 1) → CanBeHeld (both P (only 2 3 0)) (below 4)
unfolding build_by build_in parts part leads members
beside_23 P (inl le) = with_23 0 1 2 refl (two (two (leaf 0) (leaf 1)) (two (leaf 2) (leaf 3))) refl P le
beside_23 P (inr le) = with_23 0 2 1 refl (two (two (leaf 0) (two (leaf 2) (leaf 3))) (leaf 1)) refl P le

-- R has both triplets, and with them all that it is put together with
pub words_differ : (PC quarrel (below 4) nested → ⊥) × (PaperPC quarrel (below 4) nested → ⊥) × PI quarrel (below 4) nested × (PaperPI quarrel (below 4) nested → ⊥)
words_differ =
    let no-pc : PC quarrel (below 4) nested → ⊥ = two-not_held _ (below 4) 0 1 2 refl refl refl refl refl in (
      no-pc,
      λ pc. no-pc ((pc_paper quarrel (both_proper (only 0 1 2) (only 0 2 1) (one 0 1 2 refl) (one 0 2 1 refl)) 4 (below 4) (all_below 4) nested refl (leaves_in nested (below 4) refl)).1 pc),
      (λ a b c h. record { no_ac = two-not_held _ (below 4) 0 1 2 refl refl refl refl refl; no_bc = two-not_held _ (below 4) 0 1 2 refl refl refl refl refl }),
      λ pi. let n = pi 0 2 3 refl in
          n.forced.no_bc (beside_23 n.some (one_side n.some n.proper (λ x y z p. and_l (quarrel x y z) _ (n.among x y z p)) n.held)),
    )
