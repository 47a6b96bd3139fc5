-- The first node that is not earned names the first unearned group of the tree, by R of that tree. Assumes nothing.
use mathlib.Core.Bool.{So, false}
use mathlib.Core.List.{List, []}
use mathlib.Core.Path.{◌∙◌, ◌≡◌, ap, subst, sym}
use Prim.Native.Nat.{◌<◌, ◌≤◌, ℕ}
use lib.ListN.{get_or, length}
use Rattle.std.proofs.Common.{None, Option, Some}
use Rattle.sets.specs.Species.{Below}
use Rattle.trees.proofs.Agreement.{R-proper}
use Rattle.trees.specs.Check.{R}
use Rattle.trees.specs.Loosen.{unearned}
use Rattle.trees.specs.Trees.{Tree, under, well_formed}
use Rattle.trees.specs.Triplets.{Proper, Triplets}
use Rattle.tables.proofs.Bytes.{entered_proper}
use Rattle.tables.specs.Bytes.{entered}
use Rattle.bodies.proofs.Back.{body_back}
use Rattle.bodies.specs.Draws.{body_of, subtree, tree_of}
use Rattle.bodies.specs.Nodes.{Good, bad_length, nodes}
use Rattle.groups.specs.Groups.{Candidate, Drawn, Groups, set_of}
use Rattle.masks.specs.Masks.{Masks}
use Rattle.earned.proofs.Named.{first_named, none_named}
use Rattle.earned.specs.Siblings.{FirstUnearnedNode}
use Rattle.checking.proofs.Judged.{candidate}
use Rattle.easing.specs.Turns.{UnearnedGroup}

module _ (t : List ℕ) (n : ℕ) (b : List ℕ) (small : n ≤ 64) (g : Good n (nodes b)) (l : bad_length (length b) ≡ false) {whole : ℕ} {meets masks : List ℕ}
    (d : Drawn (tree_of b) whole meets) (r : (T : Tree) → Candidate n T whole meets → Masks (R (entered t) T) masks) where
  -- what is known of the node that was looked for
  module _ (k : Option ℕ) (first : (E : Triplets) → Proper E → Masks E masks → FirstUnearnedNode E (nodes b) k) (T : Tree) (w : So (well_formed T)) (bd : Below n (under T)) (e : b ≡ body_of T) where
    first_of : FirstUnearnedNode (R (entered t) T) (nodes (body_of T)) k
    first_of =
        let is : tree_of b ≡ T = ap tree_of e ∙ body_back n T w bd small in
        let cand : Candidate n T whole meets = subst (λ (u : Tree). Candidate n u whole meets) is (candidate n b small g l d) in
        subst (λ (o : List ℕ). FirstUnearnedNode (R (entered t) T) (nodes o) k) e (first (R (entered t) T) (R-proper (entered t) (entered_proper t) T) (r T cand))

  pub none_unearned : ((E : Triplets) → Proper E → Masks E masks → FirstUnearnedNode E (nodes b) None)
      → (T : Tree) → So (well_formed T) → Below n (under T) → b ≡ body_of T → unearned (R (entered t) T) n T ≡ []
  none_unearned first T w bd e = none_named (R (entered t) T) (R-proper (entered t) (entered_proper t) T) n small T w bd (first_of None first T w bd e)

  pub one_unearned : (k : ℕ) → ((E : Triplets) → Proper E → Masks E masks → FirstUnearnedNode E (nodes b) (Some k)) → {groups : List ℕ} → Groups (nodes b) groups
      → (T : Tree) → So (well_formed T) → Below n (under T) → b ≡ body_of T → UnearnedGroup (entered t) n T (record { node = k; group = get_or groups k 0 })
  one_unearned k first q T w bd e =
      let f = first_of (Some k) first T w bd e in
      record {
        later = f.later;
        first = first_named (R (entered t) T) (R-proper (entered t) (entered_proper t) T) n small T w bd k f;
        inner = f.inner;
        group = q.group k (subst (λ (o : List ℕ). k < (nodes o).count) (sym e) f.within) ∙ ap (λ (o : List ℕ). set_of (subtree (nodes o) k)) e;
      }
