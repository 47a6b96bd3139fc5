-- What a paper says of the species of a set u, where its body is good: from three shared species on the cut tree. Assumes nothing.
use mathlib.Core.List.{List}
use mathlib.Core.Path.{◌∙◌, ◌≡◌, ap, refl}
use Prim.Native.Nat.{ℕ, ◌<◌, ◌≤◌}
use native.Mathlib.Omega.{arith}
use lib.ListN.{get_or}
use Rattle.sets.proofs.Sizes.{size_empty}
use Rattle.sets.specs.Sets.{has, meet, size}
use Rattle.trees.specs.Cut.{Touches}
use Rattle.bodies.proofs.Drawn.{tree_below}
use Rattle.bodies.proofs.Good.{length_good}
use Rattle.bodies.specs.Draws.{tree_of}
use Rattle.bodies.specs.Nodes.{nodes}
use Rattle.groups.specs.Groups.{Groups, set_of}
use Rattle.answers.specs.Inputs.{Body}
use Rattle.cutting.proofs.Touching.{meet_touches}
use Rattle.papers_text.specs.Lines.{shared}

module _ (b : List ℕ) (g : Body 64 b) where
  pub some_nodes : 0 < (nodes b).count
  some_nodes = (length_good b g.long).0

  -- as the code counts them, from the group of node 0
  pub counted : (l : List ℕ) (u m r : ℕ) → Groups (nodes b) l → m ≡ meet (get_or l 0 0) u → r ≡ size m → r ≡ shared u b
  counted l u m r h p q = q ∙ ap size (p ∙ ap (λ (s : ℕ). meet s u) (h.group 0 some_nodes))

  module _ (u : ℕ) where
    -- three species are shared, or more
    module _ (h : 3 ≤ shared u b) where
      pub shares : Touches (has u) (tree_of b)
      shares = meet_touches (tree_of b) (tree_below 64 (nodes b) g.good some_nodes) (set_of (tree_of b)) refl u (λ z. omega (arith, h, ap size z, size_empty))
