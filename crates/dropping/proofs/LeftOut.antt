-- Nodes written one by one, without one of them. Assumes nothing.
use mathlib.Core.List.{List}
use mathlib.Core.Path.{◌∙◌, ◌≡◌, ap}
use Prim.Native.Nat.{◌*◌, ◌+◌, ◌-◌, ◌<◌, ◌≤◌, suc, ℕ}
use native.Mathlib.Decide.{ℕ_discrete}
use native.Mathlib.Omega.{arith}
use lib.ListN.{length, take}
use lib.Seq.{length-sets}
use Rattle.bodies.proofs.Puts.{front_count, front_parent, front-species, other_parent, other_species, put_parent, put-species, put_under}
use Rattle.bodies.specs.Nodes.{Nodes, body_length, longest, most_nodes, node_at', nodes, none, under_bytes, width}
use Rattle.bodies.specs.declared.Node.{Node}
use Rattle.dropping.specs.Without.{Without, new_parent, old_number}

-- the first nodes of o are those of v without node k, up to node at
pub record LeftOut (v : Nodes) (k : ℕ) (o : List ℕ) (at : ℕ) : Type 0 where
  pub size : length o ≡ longest
  pub some : 0 < at
  pub root : (nodes o).parent 0 ≡ none
  pub parent : (i : ℕ) → 0 < i → i < at → (nodes o).parent i ≡ new_parent k (v.parent k) (v.parent (old_number k i))
  pub species : (i : ℕ) → i < at → (nodes o).species i ≡ v.species (old_number k i)

module _ (v : Nodes) (k : ℕ) where
  pub left_more : (o o' : List ℕ) (at p : ℕ) (u : Node) → LeftOut v k o at → at < most_nodes → p ≡ new_parent k (v.parent k) (v.parent (old_number k at)) → u ≡ node_at' v (old_number k at)
      → o' ≡ put_under o at p u → LeftOut v k o' (at + 1)
  left_more o o' at p u d h ep eu put =
      let fits : body_length (suc at) ≤ length o = omega (arith, d.size) in
      rw put (record {
        size = length-sets o (width * at) (under_bytes p u) ∙ d.size;
        some = omega arith;
        root = other_parent o at p u 0 (λ e. omega (arith, d.some)) ∙ d.root;
        parent = λ i q l. go_parent fits i q (omega arith) (ℕ_discrete i at);
        species = λ i l. go_species fits i (omega arith) (ℕ_discrete i at);
      })
    where
      go_parent : body_length (suc at) ≤ length o → (i : ℕ) → 0 < i → i ≤ at → Dec (i ≡ at) → (nodes (put_under o at p u)).parent i ≡ new_parent k (v.parent k) (v.parent (old_number k i))
      go_parent fits i q l (yes e) = rw e (put_parent o at p u fits ∙ ep)
      go_parent fits i q l (no ne) = other_parent o at p u i ne ∙ d.parent i q (omega arith)

      go_species : body_length (suc at) ≤ length o → (i : ℕ) → i ≤ at → Dec (i ≡ at) → (nodes (put_under o at p u)).species i ≡ v.species (old_number k i)
      go_species fits i l (yes e) = rw e (put-species o at p u fits ∙ ap (λ (w : Node). w.species) eu)
      go_species fits i l (no ne) = other_species o at p u i ne ∙ d.species i (omega arith)

  pub left_end : (o : List ℕ) (at : ℕ) → LeftOut v k o at → at + 1 ≡ v.count → v.count ≤ most_nodes → Without v k (nodes (take (body_length (v.count - 1)) o))
  left_end o at d e l =
      let z : v.count - 1 ≡ at = omega arith in
      let c : (nodes (take (body_length at) o)).count ≡ at = front_count o at (omega (arith, d.size)) in
      rw z (record {
        count = omega (arith, c);
        root = front_parent o at 0 d.some ∙ d.root;
        parent = λ i p h. let m : i < at = omega (arith, c) in front_parent o at i m ∙ d.parent i p m;
        species = λ i h. let m : i < at = omega (arith, c) in front-species o at i m ∙ d.species i m;
      })
