-- What a tree says of three different species, from its species and the smallest common groups as numbers. Assumes nothing.
use mathlib.Core.Path.{◌≡◌, refl, sym, ap, ap₂, ◌∙◌}
use mathlib.Core.Logic.{◌≢◌}
use mathlib.Core.Bool.{Bool, true, false, So, cond, not, ◌&&◌, ◌||◌, and_assoc, and_comm}
use mathlib.Core.List.{List}
use Prim.Native.Nat.{ℕ, ◌<◌}
use Rattle.sets.specs.Sets.{has}
use Rattle.sets.proofs.Tests.{has-number}
use Rattle.trees.specs.Trees.{Tree, under}
use Rattle.trees.specs.Triplets.{holds, different}
use Rattle.trees.proofs.Triplets.{different_e}
use Rattle.groups.specs.declared.Says.{Says}
use Rattle.groups.specs.declared.Says.TheVariants.{AB, AC, BC, Absent, Fan}
use Rattle.groups.specs.Groups.{set_of, common, cell, Meets, says}
use Rattle.groups.proofs.Common.{asked}

abbrev pub three : ℕ → ℕ → ℕ → ℕ → Bool
three s a b c = has s a && (has s b && has s c)

-- one test whether all three are in the tree serves the three triplets
abbrev answer : Bool → Bool → Bool → Bool → Says
answer p q r s = cond p (cond q AB (cond r AC (cond s BC Fan))) Absent

choose : (p q r s : Bool)
    → cond (p && q) AB (cond (p && r) AC (cond (p && s) BC (cond (p && (true && not ((p && q) || ((p && r) || (p && s))))) Fan Absent))) ≡ answer p q r s
choose true true r s = refl
choose true false true s = refl
choose true false false true = refl
choose true false false false = refl
choose false q r s = refl

module _ (t : Tree) (m : List ℕ) (meets : Meets t m) (whole : ℕ) (w : whole ≡ set_of t) where
  here : (a b c : ℕ) → a < 64 → b < 64 → c < 64 → (under t a && (under t b && under t c)) ≡ three whole a b c
  here a b c ha hb hc = sym (rw (w, has-number 64 (under t) a ha, has-number 64 (under t) b hb, has-number 64 (under t) c hc) refl)

  pub holds_by : (a b c : ℕ) → a < 64 → b < 64 → c < 64 → a ≢ b → holds t a b c ≡ (three whole a b c && not (has (cell m a b) c))
  holds_by a b c ha hb hc n =
      asked t a b c n
      ∙ sym (rw (← (here a b c ha hb hc), meets.pair a b ha hb, has-number 64 (common t a b) c hc) refl)

  pub says_by : (a b c : ℕ) → So (different a b c) × (a < 64) × (b < 64) × (c < 64) → (p q r s : Bool)
      → p ≡ three whole a b c → q ≡ not (has (cell m a b) c) → r ≡ not (has (cell m a c) b) → s ≡ not (has (cell m b c) a)
      → answer p q r s ≡ says t a b c
  says_by a b c pre p q r s e f g h =
      let n = different_e a b c pre.0 in
      let ac : three whole a c b ≡ three whole a b c = ap (λ (z : Bool). has whole a && z) (and_comm (has whole c) (has whole b)) in
      let bc : three whole b c a ≡ three whole a b c = sym (and_assoc (has whole b) (has whole c) (has whole a)) ∙ and_comm (has whole b && has whole c) (has whole a) in
      sym (
      rw (
        holds_by a b c pre.1 pre.2 pre.3 n.0 ∙ ap₂ (λ (x y : Bool). x && y) (sym e) (sym f),
        holds_by a c b pre.1 pre.3 pre.2 n.1 ∙ ap₂ (λ (x y : Bool). x && y) (ac ∙ sym e) (sym g),
        holds_by b c a pre.2 pre.3 pre.1 n.2 ∙ ap₂ (λ (x y : Bool). x && y) (bc ∙ sym e) (sym h),
        here a b c pre.1 pre.2 pre.3 ∙ sym e,
        pre.0,
      ) (choose p q r s)
      )
