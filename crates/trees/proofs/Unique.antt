-- A tree is known by its triplets: built again from them it is the tree in house order, and two trees with the same species and triplets have the
-- same groups. Assumes nothing.
use mathlib.Core.Bool.{So, false≢true}
use mathlib.Core.Logic.Iff
use mathlib.Core.Path.{◌∙◌, ◌≡◌, ap, fun_ext, refl, sym}
use Prim.Native.Nat.{◌+◌, suc, ℕ}
use native.Mathlib.Omega.{arith}
use borrow.Author.Tests.{eqb-true}
use Rattle.sets.proofs.Bools.{or_case}
use Rattle.sets.specs.Species.{Below}
use Rattle.trees.proofs.Formed.{Formed}
use Rattle.trees.proofs.Groups.{same_holds, same_species}
use Rattle.trees.proofs.House.{house_formed, house-groups, house_housed, house-under}
use Rattle.trees.proofs.Lowest.{Housed}
use Rattle.trees.proofs.Rebuild.{Agree, rebuilt}
use Rattle.trees.proofs.Splits.{holds_e, holds_i, holds_proper}
use Rattle.trees.specs.Build.{build, tree}
use Rattle.trees.specs.Trees.{Forest, SameGroups, Tree, cons, house, leaf, nil, node, under, under_f}
use Rattle.trees.specs.Triplets.{Proper, Triplets, holds}

-- a bound on the species of a tree
mutual
  pub bounded : (t : Tree) → (n : ℕ) × Below n (under t)
  bounded (leaf y) = (suc y, λ x h. omega (arith, eqb-true y x h))
  bounded (node f) = bounded_f f

  bounded_f : (f : Forest) → (n : ℕ) × Below n (under_f f)
  bounded_f nil = (0, λ x h. absurd (false≢true h))
  bounded_f (cons t f) =
      let p = bounded t in
      let q = bounded_f f in
      (p.0 + q.0, λ x h. or_case (under t x) (under_f f x) h (λ k. omega (arith, p.1 x k)) (λ k. omega (arith, q.1 x k)))

-- the entered triplets are those of t
abbrev pub Says : Triplets → Tree → Type 0
Says E t = (a b c : ℕ) → So (under t a) → So (under t b) → So (under t c) → E a b c ≡ holds t a b c

agree_says : (E : Triplets) (t u : Tree) → SameGroups u t → Says E t → Agree E u
agree_says E t u same s a b c ne ha hb hc =
    let e : E a b c ≡ holds u a b c = s a b c (sym (same_species u t same a) ∙ ha) (sym (same_species u t same b) ∙ hb) (sym (same_species u t same c) ∙ hc) ∙ sym (same_holds u t same a b c) in
    ((λ h. (holds_e u a b c (sym e ∙ h)).splits), λ h. e ∙ holds_i u a b c ne hc h)

pub rebuilt_house : (E : Triplets) (N : ℕ) → Proper E → (t : Tree) → Below N (under t) → Formed t → Says E t → build E N (under t) ≡ tree (house t)
rebuilt_house E N pr t bd w s =
    rw (← (fun_ext (house-under t))) (rebuilt E N pr (house t) (λ x h. bd x (sym (house-under t x) ∙ h)) (house_formed t w) (house_housed t w) (agree_says E t (house t) (house-groups t) s))

-- the same species and triplets: the same tree, once both are put in house order
pub same_house : (t t' : Tree) → Formed t → Formed t' → ((x : ℕ) → under t x ≡ under t' x) → ((a b c : ℕ) → holds t a b c ≡ holds t' a b c) → house t ≡ house t'
same_house t t' w w' sp tr =
    let n = bounded t in
    let e₁ : build (holds t) n.0 (under t) ≡ tree (house t) = rebuilt_house (holds t) n.0 (holds_proper t) t n.1 w (λ a b c ha hb hc. refl) in
    let e₂ : build (holds t) n.0 (under t') ≡ tree (house t')
    = rebuilt_house (holds t) n.0 (holds_proper t) t' (λ x h. n.1 x (sp x ∙ h)) w' (λ a b c ha hb hc. tr a b c) in
    let e₃ : tree (house t) ≡ tree (house t') = sym e₁ ∙ ap (build (holds t) n.0) (fun_ext sp) ∙ e₂ in
    cc e₃

pub same_groups : (t t' : Tree) → Formed t → Formed t' → ((x : ℕ) → under t x ≡ under t' x) → ((a b c : ℕ) → holds t a b c ≡ holds t' a b c) → SameGroups t t'
same_groups t t' w w' sp tr G =
    let e = same_house t t' w w' sp tr in
    Iff.trans (Iff.symm (house-groups t G)) (Iff.trans (rw e Iff.rfl) (house-groups t' G))

-- a tree that is in house order stays as it is
pub house_same : (t : Tree) → Formed t → Housed t → house t ≡ t
house_same t w h =
    let n = bounded t in
    let e₁ = rebuilt_house (holds t) n.0 (holds_proper t) t n.1 w (λ a b c ha hb hc. refl) in
    let e₂ = rebuilt (holds t) n.0 (holds_proper t) t n.1 w h (agree_says (holds t) t t (λ G. Iff.rfl) (λ a b c ha hb hc. refl)) in
    let e₃ : tree (house t) ≡ tree t = sym e₁ ∙ e₂ in
    cc e₃
