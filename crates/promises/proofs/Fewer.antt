-- A tree all of whose groups are another tree's has no more nodes than that one. Assumes nothing.
use mathlib.Core.List.Memᴰ
use mathlib.Core.List.{List, Memᴰ, [], ◌++◌, ◌∷◌}
use mathlib.Core.Logic.{⊎_elim}
use mathlib.Core.Path.{◌≡◌, ap, refl, subst, sym}
use Prim.Native.Nat.{◌≤◌}
use native.Mathlib.Omega.{arith}
use lib.ListN.{length, length-append}
use Rattle.sets.specs.Species.{Species}
use Rattle.trees.proofs.FirstUnearned.{groups-different}
use Rattle.trees.proofs.Formed.{Formed}
use Rattle.trees.specs.Loosen.{Different}
use Rattle.trees.specs.Trees.{Forest, Group, Tree, cons, groups, groups_f, leaf, nil, node}
use Rattle.bodies.specs.Draws.{node_count, node_count_f}

-- each node has its group
mutual
  groups_count : (t : Tree) → length (groups t) ≡ node_count t
  groups_count (leaf x) = refl
  groups_count (node f) = omega (arith, groups_f_count f)

  groups_f_count : (f : Forest) → length (groups_f f) ≡ node_count_f f
  groups_f_count nil = refl
  groups_f_count (cons t f) = omega (arith, length-append (groups t) (groups_f f), groups_count t, groups_f_count f)

cut : (G : Species) (m : List Species) → Memᴰ G m → (a : List Species) × (b : List Species) × (m ≡ a ++ (G ∷ b))
cut G [] h = absurd (Memᴰ.not-nil h)
cut G (H ∷ m) h = ⊎_elim
    (λ e. ([], m, ap (λ (K : Species). K ∷ m) (sym e)))
    (λ k. let (a, b, e) = cut G m k in (H ∷ a, b, ap (λ (l : List Species). H ∷ l) e))
    (Memᴰ.cases_cons h)

-- a list without repeats is no longer than one that has all that it has
no_longer : (l m : List Species) → Different l → ((G : Species) → Memᴰ G l → Memᴰ G m) → length l ≤ length m
no_longer [] m d s = omega arith
no_longer (G ∷ l) m d s =
    let (a, b, e) = cut G m (s G (Memᴰ.head refl)) in
    let ih = no_longer l (a ++ b) d.1 (λ H h. ⊎_elim (λ k. Memᴰ.append_left b k)
    (λ k. ⊎_elim (λ q. absurd (d.0 (subst (λ (K : Species). Memᴰ K l) q h))) (λ q. Memᴰ.append_right a q) (Memᴰ.cases_cons k))
    (Memᴰ.append_cases a (subst (Memᴰ H) e (s H (Memᴰ.tail h))))) in
    omega (arith, ih, length-append a b, length-append a (G ∷ b), ap length e)

pub fewer_nodes : (T T' : Tree) → Formed T' → ((H : Species) → Group T' H → Group T H) → node_count T' ≤ node_count T
fewer_nodes T T' w s = omega (arith, groups_count T, groups_count T', no_longer (groups T') (groups T) (groups-different T' w) s)
