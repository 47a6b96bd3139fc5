-- The children of a node, written one by one in house order: what was written and what is left make the whole. Assumes nothing.
use mathlib.Core.Bool.{cond}
use mathlib.Core.List.{List}
use mathlib.Core.Path.{◌∙◌, ◌≡◌, ap, ap₂, refl, sym}
use Prim.Native.Nat.{◌*◌, ◌+◌, ◌<◌, ◌≤◌, suc, ℕ}
use native.Mathlib.Omega.{arith}
use lib.Dec.{eqb}
use lib.ListN.{get_or}
use lib.Seq.{sets}
use Rattle.trees.specs.Trees.{Forest, house, house_f}
use Rattle.bodies.proofs.Housed.{house_count, house_f_count}
use Rattle.bodies.proofs.Puts.{under_inner, under_leaf}
use Rattle.bodies.proofs.Stores.{forest_stores, node_stores}
use Rattle.bodies.specs.Draws.{bytes, bytes_f, forest_of, node_count, node_count_f, subtree}
use Rattle.groups.specs.Groups.{Groups}
use Rattle.bodies.specs.Nodes.{Good, Nodes, children, node_at', none, under_bytes, width}
use Rattle.bodies.specs.declared.Node.{Node}
use Rattle.std.proofs.Common.{None, Some}
use Rattle.children.specs.Children.{Gives}
use Rattle.children.proofs.Left.{Left, Opened, alone, housed, left_end, left-next, left-start, opened, parted}

-- the room once the children of node i, as node `at`, were written behind it
abbrev pub with_kids : Nodes → ℕ → List ℕ → ℕ → List ℕ
with_kids v i room at = sets room (width * suc at) (bytes_f (housed v (children v i)) at (suc at))

-- ---- what is still to be written, so that the room holds `whole` at the end

pub record Todo (v : Nodes) (i at : ℕ) (whole : List ℕ) (end : ℕ) (room : List ℕ) (next rest : ℕ) : Type 0 where
  pub forest : Forest
  pub left : Left v i rest forest
  pub write : sets room (width * next) (bytes_f forest at next) ≡ whole
  pub ends : next + node_count_f forest ≡ end

-- the next child is c, and what is to do once it was written
pub record Next {v : Nodes} {i at end : ℕ} {whole room : List ℕ} {next rest : ℕ} (t : Todo v i at whole end room next rest) (c rest' : ℕ) : Type 0 where
  pub later : i < c
  pub within : c < v.count
  pub fits : next + node_count (subtree v c) ≤ end
  pub again : (room' : List ℕ) (next' : ℕ) → room' ≡ sets room (width * next) (bytes (house (subtree v c)) at next) → next' ≡ next + node_count (subtree v c)
      → Todo v i at whole end room' next' rest'

module _ (v : Nodes) (g : Good 64 v) where
  module _ (groups : List ℕ) (q : Groups v groups) {i at end : ℕ} {whole room : List ℕ} {next rest : ℕ} (t : Todo v i at whole end room next rest) where
    -- the child that comes
    pub todo_next : (c rest' : ℕ) → Gives v groups i rest (Some c) rest' → Next t c rest'
    todo_next c rest' s =
        let k = left-next v g groups q t.left c s in
        let n : node_count_f t.forest ≡ node_count (subtree v c) + node_count_f k.others = ap node_count_f k.is ∙ ap (λ (z : ℕ). z + node_count_f k.others) (house_count (subtree v c)) in
        record {
          later = k.later;
          within = k.within;
          fits = omega (arith, t.ends, n);
          again = λ room' next' er en. record {
            forest = k.others;
            left = k.left;
            write =
                ap₂ (λ (o : List ℕ) (z : ℕ). sets o (width * z) (bytes_f k.others at z)) er (en ∙ ap (λ (z : ℕ). next + z) (sym (house_count (subtree v c))))
                ∙ forest_stores room (house (subtree v c)) k.others at next ∙ ap (λ (z : Forest). sets room (width * next) (bytes_f z at next)) (sym k.is) ∙ t.write;
            ends = omega (arith, t.ends, n, en);
          };
        }

    -- no child is left
    pub todo_end : (rest' : ℕ) → Gives v groups i rest None rest' → (next ≡ end) × (room ≡ whole)
    todo_end rest' s =
        let e = left_end v g groups q t.left rest' s in
        (omega (arith, t.ends, ap node_count_f e), sym (ap (λ (f : Forest). sets room (width * next) (bytes_f f at next)) e) ∙ t.write)

  module _ (i : ℕ) (h : i < v.count) where
    -- a node and its children
    count_kids : Opened v i → node_count (subtree v i) ≡ suc (node_count_f (housed v (children v i)))
    count_kids (alone n e t) = rw (e, t) refl
    count_kids (parted n t) = ap node_count t ∙ ap suc (sym (house_f_count (forest_of (subtree v) (children v i))))

    whole : Opened v i → (o : List ℕ) (p at : ℕ) → with_kids v i (sets o (width * at) (under_bytes p (node_at' v i))) at ≡ sets o (width * at) (bytes (house (subtree v i)) p at)
    whole (alone n e t) o p at = ap (λ (b : List ℕ). with_kids v i (sets o (width * at) b) at) (under_leaf p v i) ∙ rw (e, t) refl
    whole (parted n t) o p at =
        ap (λ (b : List ℕ). with_kids v i (sets o (width * at) b) at) (under_inner p v i n) ∙ rw t (node_stores o (house_f (forest_of (subtree v) (children v i))) p at)

    pub todo_start : (groups : List ℕ) → Groups v groups → (at : ℕ) (room : List ℕ) (next rest : ℕ)
        → next ≡ at + 1 → rest ≡ cond (eqb (v.species i) none) (get_or groups i 0) 0
        → Todo v i at (with_kids v i room at) (at + node_count (subtree v i)) room next rest
    todo_start groups q at room next rest en er =
        let n : next ≡ suc at = omega arith in
        record { forest = housed v (children v i); left = left-start v g i h groups q (v.species i) rest refl er; write = rw n refl; ends = omega (arith, count_kids (opened v g i h)) }

    -- the room once the whole tree was written
    pub todo_whole : (o : List ℕ) (p at : ℕ) (u : Node) → u ≡ node_at' v i
        → with_kids v i (sets o (width * at) (under_bytes p u)) at ≡ sets o (width * at) (bytes (house (subtree v i)) p at)
    todo_whole o p at u e = rw e (whole (opened v g i h) o p at)
