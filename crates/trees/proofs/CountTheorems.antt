-- The theorems of the sets that a build visits and of the number of triples that it looks at, each to be read alone. Request T-09. E: the entered triplets;
-- S: the set that is built; N: a number that its species are below; u: one of them; v: false for the plain build, true for the veto build. Assumes nothing.
use mathlib.Core.Bool.{Bool, So, false, true}
use mathlib.Core.List.{List, [], ◌++◌, ◌∷◌, append-nil}
use mathlib.Core.Path.{◌∙◌, ◌≡◌, ap, fun_ext, refl, sym}
use Prim.Native.Nat.{◌≤◌, suc, ℕ}
use native.Mathlib.Omega.{arith}
use lib.ListN.{length}
use Rattle.sets.proofs.Members.{all_below, members_bound}
use Rattle.sets.specs.Species.{Below, Species, below, members}
use Rattle.trees.proofs.Built.{built}
use Rattle.trees.proofs.Combinations.{C-more, fours_65}
use Rattle.trees.proofs.Formed.{formed_e, formed_i}
use Rattle.trees.proofs.House.{house_formed, house-under}
use Rattle.trees.proofs.Lowest.{some_species}
use Rattle.trees.proofs.Nested.{nest_formed, nest-leaves, nest_nested, nest-under, nested_house, nested_weight}
use Rattle.trees.proofs.Sizes.{size, size-under}
use Rattle.trees.proofs.Splits.{holds_proper}
use Rattle.trees.proofs.Theorems.{rebuild}
use Rattle.trees.proofs.VetoTheorems.{veto_tree}
use Rattle.trees.proofs.VisitRule.{triples-append}
use Rattle.trees.proofs.Visits.{first_visited, stops_visited, trees-visited}
use Rattle.trees.proofs.Weights.{weight_most}
use Rattle.trees.specs.Build.{build, build_by, stop, tree, veto}
use Rattle.trees.specs.Combinations.{C}
use Rattle.trees.specs.Trees.{Tree, house, under, well_formed}
use Rattle.trees.specs.Triplets.{Proper, Triplets, holds}
use Rattle.trees.specs.Visits.{Nested, inner_groups, looked, nest, triples, visited}

-- ---- the sets visited

module _ (E : Triplets) (N : ℕ) (S : Species) where
  -- The plain build visits the first ones of the sets that the veto build visits, in the same order.
  pub plain_first : (l : List Species) × (visited true E N S ≡ visited false E N S ++ l)
  plain_first = let r = first_visited E N S in (r.0, r.1)

  -- Where it gives a tree, it visits all of them.
  pub plain_visits : (t : Tree) → build E N S ≡ tree t → visited false E N S ≡ visited true E N S
  plain_visits t e = let r = first_visited E N S in sym (r.1 ∙ ap (λ (l : List Species). visited false E N S ++ l) (r.2 t e) ∙ append-nil (visited false E N S))

  -- Where it stops, the set at which it stops is the last one visited.
  pub stop_visited : (U : Species) → build E N S ≡ stop U → (l : List Species) × (visited false E N S ≡ l ++ (U ∷ []))
  stop_visited = stops_visited E N S

module _ (E : Triplets) (pr : Proper E) (N : ℕ) (S : Species) (bd : Below N S) (u : ℕ) (hu : So (S u)) where
  -- Where a build gives a tree, the sets visited are the groups of its inner nodes, in preorder:
  pub tree_visits : (v : Bool) (t : Tree) → build_by v E N S ≡ tree t → visited v E N S ≡ inner_groups t
  tree_visits v = trees-visited v E N pr S bd u hu

  -- so always for the veto build.
  pub veto_visits : (T : Tree) × (veto E N S ≡ tree T) × (visited true E N S ≡ inner_groups T)
  veto_visits = let (T, e) = veto_tree E N S in (T, e, tree_visits true T e)

  -- the plain build's tree, which the veto build gives too
  both-visit : (t : Tree) → build E N S ≡ tree t → (v : Bool) → visited v E N S ≡ inner_groups t
  both-visit t e false = tree_visits false t e
  both-visit t e true = sym (plain_visits E N S t e) ∙ tree_visits false t e

  -- ---- the triples looked at

  veto_most : triples N (visited true E N S) ≤ C (suc (size N S)) 4
  veto_most =
      let (T, e, q) = veto_visits in
      let b = built true E N pr S bd u hu T e in
      let n : C (suc (size N (under T))) 4 ≡ C (suc (size N S)) 4 = ap (λ (P : Species). C (suc (size N P)) 4) (fun_ext b.species) in
      rw q (omega (arith, n, weight_most N T b.formed (λ x h. bd x (sym (b.species x) ∙ h))))

  -- "For s species it is at most C(s+1,4)", by either build,
  pub looked_most : (v : Bool) → looked v E N S ≤ C (suc (length (members N S))) 4
  unfolding looked
  looked_most true = veto_most
  looked_most false =
      let (l, e) = plain_first E N S in
      omega (arith, veto_most, ap (triples N) e, triples-append N (visited false E N S) l)

  -- "677,040 at 64".
  pub looked_64 : N ≤ 64 → (v : Bool) → looked v E N S ≤ 677040
  looked_64 h v = omega (arith, looked_most v, C-more 4 (suc (length (members N S))) 65 (omega (arith, members_bound N S)), fours_65)

-- "fully nested trees reach it": where the entered triplets are those of such a tree with exactly the species S, either build looks at so many.
pub nested_reach : (E : Triplets) → Proper E → (N : ℕ) (S : Species) → Below N S → (t : Tree) → So (well_formed t) → Nested t → ((x : ℕ) → under t x ≡ S x)
    → ((a b c : ℕ) → So (S a) → So (S b) → So (S c) → E a b c ≡ holds t a b c) → (v : Bool) → looked v E N S ≡ C (suc (length (members N S))) 4
unfolding looked
nested_reach E pr N S bd t f q sp says v =
    let w = formed_e t f in
    let x = some_species t w in
    let h : under (house t) ≡ S = fun_ext (λ y. house-under t y ∙ sp y) in
    ap (triples N) (both-visit E pr N S bd x.0 (sym (sp x.0) ∙ x.1) (house t) (rebuild E pr N S bd t f sp says) v)
    ∙ nested_weight N (house t) (nested_house t q) (house_formed t w) (rw h bd) ∙ ap (λ (P : Species). C (suc (size N P)) 4) h

-- So it is reached for every number of species, k + 1: by the triplets of `nest k`.
pub reached : (k : ℕ) (v : Bool) → looked v (holds (nest k)) (suc k) (below (suc k)) ≡ C (suc (suc k)) 4
reached k v =
    let e : under (nest k) ≡ below (suc k) = fun_ext (nest-under k) in
    let n : length (members (suc k) (below (suc k))) ≡ suc k = rw (← e) (size-under (suc k) (nest k) (nest_formed k) (rw e (all_below (suc k))) ∙ nest-leaves k) in
    nested_reach (holds (nest k)) (holds_proper (nest k)) (suc k) (below (suc k)) (all_below (suc k)) (nest k) (formed_i (nest k) (nest_formed k)) (nest_nested k) (nest-under k)
    (λ a b c ha hb hc. refl) v ∙ ap (λ (s : ℕ). C (suc s) 4) n
