-- One node written, and the first nodes of a longer list of bytes: what is read there. Assumes nothing.
use mathlib.Core.List.{List, ◌++◌}
use mathlib.Core.Logic.{◌≢◌}
use mathlib.Core.Path.{◌∙◌, ◌≡◌, ap, refl}
use Prim.Native.Nat.{◌*◌, ◌+◌, ◌<◌, ◌≤◌, suc, ℕ}
use native.Mathlib.Omega.{arith}
use lib.ListN.{drop, get_or, length, length-append, length-set, set, take}
use lib.Seq.{get_or-set_other, get_or-set_same, get_or-take, length-take-le, sets, sets-eq, take_at}
use Rattle.bodies.specs.declared.Node.{Node}
use Rattle.bodies.specs.Nodes.{Nodes, body_length, inner_bytes, leaf_bytes, node_at', nodes, none, under_bytes, width}

-- ---- the bytes of a node

pub leaf_width : (p x : ℕ) → length (leaf_bytes p x) ≡ width
leaf_width p x = refl

pub inner_width : (p : ℕ) → length (inner_bytes p) ≡ width
inner_width p = refl

-- a node of a body under another parent: a leaf stays a leaf, and a node with children one with children
pub under_leaf : (p : ℕ) (v : Nodes) (i : ℕ) → under_bytes p (node_at' v i) ≡ leaf_bytes p (v.species i)
under_leaf p v i = refl

pub under_inner : (p : ℕ) (v : Nodes) (i : ℕ) → v.species i ≡ none → under_bytes p (node_at' v i) ≡ inner_bytes p
under_inner p v i e = rw e refl

-- ---- node u written as node `at` of o, under p

module _ (o : List ℕ) (at p : ℕ) (u : Node) where
  abbrev pub put_under : List ℕ
  put_under = sets o (width * at) (under_bytes p u)

  module _ (fits : body_length (suc at) ≤ length o) where
    pub put_parent : (nodes put_under).parent at ≡ p
    put_parent =
        get_or-set_other (set o (width * at) p) (suc (width * at)) (width * at) u.species 0 (λ e. omega arith) ∙ get_or-set_same o (width * at) p 0 (omega arith)

    pub put-species : (nodes put_under).species at ≡ u.species
    put-species =
        let e : width * at + 1 ≡ suc (width * at) = omega arith in
        ap (λ (z : ℕ). get_or put_under z 0) e ∙ get_or-set_same (set o (width * at) p) (suc (width * at)) u.species 0 (omega (arith, length-set o (width * at) p))

  -- the other nodes stay
  module _ (i : ℕ) (ne : i ≢ at) where
    pub other_parent : (nodes put_under).parent i ≡ (nodes o).parent i
    other_parent =
        get_or-set_other (set o (width * at) p) (suc (width * at)) (width * i) u.species 0 (λ e. omega arith)
        ∙ get_or-set_other o (width * at) (width * i) p 0 (λ e. ne (omega arith))

    pub other_species : (nodes put_under).species i ≡ (nodes o).species i
    other_species =
        get_or-set_other (set o (width * at) p) (suc (width * at)) (width * i + 1) u.species 0 (λ e. ne (omega arith))
        ∙ get_or-set_other o (width * at) (width * i + 1) p 0 (λ e. omega arith)

-- ---- the first k nodes of o

module _ (o : List ℕ) (k : ℕ) where
  pub front_count : body_length k ≤ length o → (nodes (take (body_length k) o)).count ≡ k
  front_count h = omega (arith, length-take-le (body_length k) o h)

  module _ (i : ℕ) (l : i < k) where
    pub front_parent : (nodes (take (body_length k) o)).parent i ≡ (nodes o).parent i
    front_parent = get_or-take (body_length k) o (width * i) 0 (omega arith)

    pub front-species : (nodes (take (body_length k) o)).species i ≡ (nodes o).species i
    front-species = get_or-take (body_length k) o (width * i + 1) 0 (omega arith)

  -- one more behind them, of the bytes e
  pub front_more : (e : List ℕ) → length e ≡ width → body_length (suc k) ≤ length o → take (body_length (suc k)) (sets o (width * k) e) ≡ take (body_length k) o ++ e
  front_more e w h =
      let t = length-take-le (body_length k) o (omega arith) in
      ap (take (body_length (suc k))) (sets-eq e o (width * k) (omega arith))
      ∙ take_at (take (body_length k) o ++ e) (drop (width * k + length e) o) (body_length (suc k)) (omega (arith, length-append (take (body_length k) o) e, t))
