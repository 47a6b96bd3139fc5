-- A tree is known by its table: two trees with exactly the species of one set have the same table exactly when they have the same groups. Assumes nothing.
use mathlib.Core.Bool.{So, ◌&&◌, not}
use mathlib.Core.List.{List}
use mathlib.Core.Logic.{◌↔◌}
use mathlib.Core.Path.{◌∙◌, ◌≡◌, ap, ap₂, fun_ext, sym}
use Prim.Native.Nat.{◌<◌, ℕ}
use Rattle.sets.proofs.Bools.{bool_ext}
use Rattle.sets.specs.Species.{Below, Species}
use Rattle.trees.proofs.Splits.{holds_e, holds_proper}
use Rattle.trees.proofs.Theorems.{known_by_triplets}
use Rattle.trees.specs.Trees.{SameGroups, Tree, under, well_formed}
use Rattle.trees.specs.Triplets.{Triplets, different, holds, on_triple}
use Rattle.tables.proofs.Fillings.{table_says}
use Rattle.tables.specs.Bytes.{entered}
use Rattle.tables.specs.Filled.{said_by, table_for}

module _ (n : ℕ) (S : Species) (bd : Below n S) (t t' : Tree) (f : So (well_formed t)) (f' : So (well_formed t')) (s : (x : ℕ) → under t x ≡ S x) (s' : (x : ℕ) → under t' x ≡ S x) where
  within : (u : Tree) → ((x : ℕ) → under u x ≡ S x) → (a b c : ℕ) → So (holds u a b c) → (a < n) × (b < n) × (c < n)
  within u e a b c h = let o = holds_e u a b c h in (bd a (sym (e a) ∙ o.in_a), bd b (sym (e b) ∙ o.in_b), bd c (sym (e c) ∙ o.in_c))

  over_to : (u v : Tree) → ((x : ℕ) → under u x ≡ S x) → table_for n (said_by u) ≡ table_for n (said_by v) → (a b c : ℕ) → So (holds u a b c) → So (holds v a b c)
  over_to u v e q a b c h =
      let w = within u e a b c h in
      sym (sym (table_says n (said_by u) (holds_proper u) a b c w.0 w.1 w.2) ∙ ap (λ (x : List ℕ). entered x a b c) q ∙ table_says n (said_by v) (holds_proper v) a b c w.0 w.1 w.2) ∙ h

  -- the same triplets on the same species leave the same fans
  said_same : holds t ≡ holds t' → said_by t ≡ said_by t'
  said_same e = ap₂ (λ (P : Species) (H : Triplets). record {
    triplets = H;
    fans = λ a b c. (P a && (P b && P c)) && (different a b c && not (on_triple H a b c));
  }) (fun_ext (λ x. s x ∙ sym (s' x))) e

  pub known_by_table : (table_for n (said_by t) ≡ table_for n (said_by t')) ↔ SameGroups t t'
  known_by_table =
      let k = known_by_triplets t t' f f' (λ x. s x ∙ sym (s' x)) in (
        (λ q. k.0 (λ a b c. bool_ext (holds t a b c) (holds t' a b c) (over_to t t' s q a b c) (over_to t' t s' (sym q) a b c))),
        λ g. ap (table_for n) (said_same (fun_ext (λ a. fun_ext (λ b. fun_ext (λ c. k.1 g a b c))))),
      )
