-- The body of a tree: it is good, the tree is read back from it, and it has its room. Assumes nothing.
use mathlib.Core.Path.{◌≡◌, refl, sym, ap, fun_ext, ◌∙◌}
use mathlib.Core.Bool.{false, So}
use mathlib.Core.List.{List, [], ◌∷◌, ◌++◌, append-nil, append_assoc}
use Prim.Native.Nat.{ℕ, suc, ◌+◌, ◌*◌, ◌%◌, ◌^◌, ◌≤◌, ◌<◌}
use native.Mathlib.Omega.{arith}
use borrow.Author.Tests.{eq-eqb, ne_eqb, le-ltb}
use lib.ListN.{length, get_or, drop, length-append}
use lib.Seq.{get_or-drop, drop-drop, drop_at}
use Rattle.sets.specs.Species.{Species, Below, members}
use Rattle.sets.specs.Sets.{has, size}
use Rattle.sets.proofs.Members.{members_bound}
use Rattle.sets.proofs.Sizes.{size-members}
use Rattle.sets.proofs.Tests.{has-below}
use Rattle.trees.specs.Trees.{Tree, Forest, leaf, node, nil, cons, under, leaves, leaves_f, degree, well_formed}
use Rattle.trees.proofs.Formed.{Formed, FormedF, formed_e}
use Rattle.trees.proofs.Sizes.{size-under}
use Rattle.bodies.specs.Nodes.{nodes, width, most_nodes, body_length, longest, bad_length, room_for, Good, inner_bytes, leaf_bytes}
use Rattle.bodies.specs.Draws.{tree_of, node_count, node_count_f, bytes, bytes_f, body_of}
use Rattle.bodies.proofs.Laid.{good_back, Lays, LaysF, count_pos, laid_good, laid_back}

-- ---- the bytes lay the tree out

mutual
  pub bytes-length : (t : Tree) (p at : ℕ) → length (bytes t p at) ≡ body_length (node_count t)
  bytes-length (leaf x) p at = refl
  bytes-length (node f) p at = omega (arith, bytes_f-length f at (suc at))

  pub bytes_f-length : (f : Forest) (p at : ℕ) → length (bytes_f f p at) ≡ body_length (node_count_f f)
  bytes_f-length nil p at = refl
  bytes_f-length (cons t f) p at =
      omega (arith, length-append (bytes t p at) (bytes_f f p (at + node_count t)), bytes-length t p at, bytes_f-length f p (at + node_count t))

-- the byte k places behind the start of a stretch
byte : (b r : List ℕ) (m k : ℕ) → drop m b ≡ r → get_or b (m + k) 0 ≡ get_or r k 0
byte b r m k e = sym (get_or-drop m b k 0) ∙ ap (λ (z : List ℕ). get_or z k 0) e

onward : (b q r : List ℕ) (m k : ℕ) → drop m b ≡ q ++ r → length q ≡ k → drop (m + k) b ≡ r
onward b q r m k e h = sym (drop-drop k m b) ∙ ap (drop k) e ∙ drop_at q r k h

byte_0 : (b : List ℕ) (p : ℕ) (r : List ℕ) (at : ℕ) → drop (width * at) b ≡ p ∷ r → get_or b (width * at) 0 ≡ p
byte_0 b p r at e = let z : width * at + 0 ≡ width * at = omega arith in rw z at (byte b (p ∷ r) (width * at) 0 e)

mutual
  lays_bytes : (b rest : List ℕ) (t : Tree) (p at : ℕ) → drop (width * at) b ≡ bytes t p at ++ rest → Lays (nodes b) t p at
  lays_bytes b rest (leaf x) p at e = (byte_0 b p (x ∷ rest) at e, byte b (leaf_bytes p x ++ rest) (width * at) 1 e)
  lays_bytes b rest (node f) p at e =
      let s : width * suc at ≡ width * at + width = omega arith in (
        byte_0 b p _ at e,
        byte b (inner_bytes p ++ bytes_f f at (suc at) ++ rest) (width * at) 1 e,
        lays_bytes_f b rest f at (suc at) (ap (λ (z : ℕ). drop z b) s ∙ onward b (inner_bytes p) (bytes_f f at (suc at) ++ rest) (width * at) width e refl),
      )

  lays_bytes_f : (b rest : List ℕ) (f : Forest) (p at : ℕ) → drop (width * at) b ≡ bytes_f f p at ++ rest → LaysF (nodes b) f p at
  lays_bytes_f b rest nil p at e = tt
  lays_bytes_f b rest (cons t f) p at e =
      let q = e ∙ append_assoc (bytes t p at) (bytes_f f p (at + node_count t)) rest in
      let s : width * (at + node_count t) ≡ width * at + width * node_count t = omega arith in (
        lays_bytes b (bytes_f f p (at + node_count t) ++ rest) t p at q,
        lays_bytes_f b rest f p (at + node_count t)
            (ap (λ (z : ℕ). drop z b) s ∙ onward b (bytes t p at) (bytes_f f p (at + node_count t) ++ rest) (width * at) (width * node_count t) q (bytes-length t p at)),
      )

-- ---- a tree has fewer than two nodes a leaf, and no more leaves than species

mutual
  few : (t : Tree) → Formed t → node_count t + 1 ≤ 2 * length (leaves t)
  few (leaf x) w = omega arith
  few (node f) w = omega (arith, few_f f w.1, w.0)

  few_f : (f : Forest) → FormedF f → node_count_f f + degree f ≤ 2 * length (leaves_f f)
  few_f nil w = omega arith
  few_f (cons t f) w = omega (arith, few t w.0, few_f f w.2, length-append (leaves t) (leaves_f f))

pub nodes_few : (t : Tree) → So (well_formed t) → node_count t + 1 ≤ 2 * length (leaves t)
nodes_few t w = few t (formed_e t w)

pub leaves_few : (n : ℕ) (t : Tree) → So (well_formed t) → Below n (under t) → length (leaves t) ≤ n
leaves_few n t w bd = omega (arith, size-under n t (formed_e t w) bd, members_bound n (under t))

-- ---- the body

pub body_length_lem : (t : Tree) → length (body_of t) ≡ body_length (node_count t)
body_length_lem t = bytes-length t 255 0

pub body_count : (t : Tree) → (nodes (body_of t)).count ≡ node_count t
body_count t = omega (arith, body_length_lem t)

pub good_length : (k : ℕ) → 0 < k → k ≤ most_nodes → bad_length (body_length k) ≡ false
good_length k p h =
    let z : body_length k ≡ 0 → ⊥ = λ e. omega arith in
    let m : body_length k % width ≡ 0 = omega arith in
    rw (ne_eqb (body_length k) 0 z, eq-eqb (body_length k % width) 0 m) (le-ltb longest (body_length k) (omega arith))

pub lays_body : (t : Tree) → Lays (nodes (body_of t)) t 255 0
lays_body t = lays_bytes (body_of t) [] t 255 0 (sym (append-nil (body_of t)))

-- a body of a tree, if it is good, draws that tree
pub drawn_back : (n : ℕ) (t : Tree) → n ≤ 64 → Good n (nodes (body_of t)) → tree_of (body_of t) ≡ t
drawn_back n t small g = good_back (nodes (body_of t)) n (omega arith) g t (lays_body t) (body_count t)

module _ (n : ℕ) (t : Tree) (w : So (well_formed t)) (bd : Below n (under t)) where
  pub body_room : length (body_of t) ≤ room_for n
  body_room = omega (arith, body_length_lem t, nodes_few t w, leaves_few n t w bd)

  module _ (small : n ≤ 64) where
    pub body_good : Good n (nodes (body_of t))
    body_good = laid_good (nodes (body_of t)) n t (omega arith) (formed_e t w) bd (lays_body t) (body_count t)

    pub body_back : tree_of (body_of t) ≡ t
    body_back = laid_back (nodes (body_of t)) n t (omega arith) (formed_e t w) bd (lays_body t) (body_count t)

    pub body_bad_length : bad_length (length (body_of t)) ≡ false
    body_bad_length = ap bad_length (body_length_lem t) ∙ good_length (node_count t) (count_pos t) (omega (arith, nodes_few t w, leaves_few n t w bd))

-- a tree with exactly the species of a set
pub set_room : (n s : ℕ) → s < 2 ^ n → (t : Tree) → So (well_formed t) → ((x : ℕ) → under t x ≡ has s x) → length (body_of t) ≤ room_for (size s)
set_room n s h t w e =
    let bd : Below n (under t) = λ x i. has-below n s h x (sym (e x) ∙ i) in
    let l : length (members n (under t)) ≡ size s = ap (λ (S : Species). length (members n S)) (fun_ext e) ∙ sym (size-members n s h) in
    omega (arith, body_length_lem t, nodes_few t w, size-under n t (formed_e t w) bd)
