-- The set that occurs, tree by tree: a body that has been judged, and its species. Assumes nothing.
use mathlib.Core.Bool.{false}
use mathlib.Core.List.{List}
use mathlib.Core.Path.{◌∙◌, ◌≡◌, ap, ap₂, sym}
use Prim.Native.Nat.{◌+◌, ◌≤◌, ℕ}
use native.Mathlib.Numerals.{add-one}
use lib.ListN.{length}
use Rattle.sets.proofs.Tests.{number_empty, number-union}
use Rattle.sets.specs.Sets.{number, union}
use Rattle.trees.specs.Trees.{under}
use Rattle.bodies.proofs.Good.{good_more}
use Rattle.bodies.specs.Draws.{tree_of}
use Rattle.bodies.specs.Nodes.{Good, bad_length, nodes}
use Rattle.groups.specs.Groups.{set_of}
use Rattle.collections.proofs.Starts.{body_length_lem}
use Rattle.collections.proofs.Steps.{Sound}
use Rattle.collections.specs.Layout.{body_at, species}
use Rattle.collections.specs.Occurs.{occurs_up_to}

pub occurs_none : (b : List ℕ) → 0 ≡ number 64 (occurs_up_to b 0)
unfolding occurs_up_to
occurs_none b = sym (number_empty 64)

-- u is the body of tree k
module _ (b : List ℕ) (k : ℕ) (u : List ℕ) (e : u ≡ body_at b k) where
  pub sound_body : species b ≤ 64 → Sound b k → Good 64 (nodes u) × (bad_length (length u) ≡ false)
  sound_body h s = rw e (good_more (species b) 64 (nodes (body_at b k)) h s.2, ap bad_length (body_length_lem b k s.0) ∙ s.1)

  pub occurs_next : (s v w : ℕ) → s ≡ number 64 (occurs_up_to b k) → v ≡ set_of (tree_of u) → w ≡ union s v → w ≡ number 64 (occurs_up_to b (k + 1))
  unfolding occurs_up_to
  occurs_next s v w p q r =
      r ∙ ap₂ union p (q ∙ ap (λ (x : List ℕ). set_of (tree_of x)) e) ∙ sym (number-union 64 (occurs_up_to b k) (under (tree_of (body_at b k))))
      ∙ ap (λ (j : ℕ). number 64 (occurs_up_to b j)) (sym (add-one k))
