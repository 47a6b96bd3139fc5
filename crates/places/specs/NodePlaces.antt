-- The place where a node begins: "nodes in the text's order: each bracket and each species number is a node, where it begins".
use Rattle.std.specs.Prelude.{Bool, cond, false, true, List, [], ◌∷◌, ◌≡◌, ℕ, suc, ◌-◌, ltb, get_or, take}
use Rattle.newick.specs.Place.{Spot, elsewhere, fresh, in_number, node_begins, nodes_begun, onward, spot}
use Rattle.newick.specs.Signs.{sign}
use Rattle.places.specs.declared.Cause.{Cause}
use Rattle.places.specs.declared.Cause.TheVariants.{AtNode, AtPlace, Other}

-- may a subtree begin there?
abbrev pub fresh_at : Spot → Bool
fresh_at fresh = true
fresh_at (in_number v) = false
fresh_at elsewhere = false

-- where the node begins before which m others begin in w, from the spot p on; the length of w where there is none
unfoldable pub node_place_from : Spot → ℕ → List ℕ → ℕ
node_place_from p m [] = 0
node_place_from p m (b ∷ w) = cond (ltb m (node_begins p (sign b))) 0 (suc (node_place_from (onward p (sign b)) (m - node_begins p (sign b)) w))

-- where node m begins in the text t
abbrev pub node_place : List ℕ → ℕ → ℕ
node_place t m = node_place_from fresh m t

-- the place in the text t: "refusal 14 at place q of the text: the place is the text's start + q"; "refusal 6 at node m: the place is where node m begins in the text"
abbrev pub place_in : List ℕ → Cause → ℕ
place_in t (AtPlace q) = q
place_in t (AtNode x) = node_place t x.node
place_in t Other = 0

-- a node begins at place r of w, read from the spot p on, and m others begin before it
pub record NodeAt (p : Spot) (m : ℕ) (w : List ℕ) (r : ℕ) : Type 0 where
  pub before : nodes_begun p (take r w) ≡ m
  pub begins : node_begins (spot p (take r w)) (sign (get_or w r 0)) ≡ 1
