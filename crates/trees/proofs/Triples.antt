-- A statement on all triples a < b < c is one on three species in any order: what a search through the triples rests on. Assumes nothing.
use mathlib.Core.Bool.{So, and_comm, not}
use mathlib.Core.Logic.{◌≢◌}
use mathlib.Core.Path.{◌∙◌, ◌≡◌, ap, sym}
use Prim.Native.Nat.{◌<◌, ℕ}
use Rattle.sets.proofs.Bools.{and_i, and_l, and_r, bool_ext, by_order, not_e, not_i, or_case, or_l, or_r}
use Rattle.trees.proofs.Agreement.{R-in, R-proper}
use Rattle.trees.proofs.Splits.{holds_e, holds_swap}
use Rattle.trees.specs.Check.{R, core, differs, unsure}
use Rattle.trees.specs.Trees.{Tree, under}
use Rattle.trees.specs.Triplets.{Proper, Triplets, holds, on_triple}

-- P is so of one of the three triplets on no triple of species below N
abbrev pub Nowhere : ℕ → Triplets → Type 0
Nowhere N P = (a b c : ℕ) → a < b → b < c → c < N → So (on_triple P a b c) → ⊥

pub nowhere_i : (N : ℕ) (P : Triplets) → ((a b c : ℕ) → So (P a b c) → ⊥) → Nowhere N P
nowhere_i N P f a b c l m hc h = or_case (P a b c) _ h (f a b c) (λ k. or_case (P a c b) (P b c a) k (f a c b) (f b c a))

module _ (N : ℕ) (P : Triplets) (pr : Proper P) (inn : (a b c : ℕ) → So (P a b c) → (a < N) × (b < N) × (c < N)) where
  in_order : Nowhere N P → (a b c : ℕ) → a < b → So (P a b c) → ⊥
  in_order nw a b c lt h = let i = inn a b c h in by_order b c
      (λ l. nw a b c lt l i.2 (or_l (P a b c) _ h))
      (λ e. pr.third b a c (pr.swap a b c h) e)
      (λ l. by_order a c
      (λ m. nw a c b m l i.1 (or_r (P a c b) _ (or_l (P a b c) _ h)))
      (λ e. pr.third a b c h e)
      (λ m. nw c a b m lt i.1 (or_r (P c a b) _ (or_r (P c b a) _ h))))

  pub nowhere_e : Nowhere N P → (a b c : ℕ) → So (P a b c) → ⊥
  nowhere_e nw a b c h = by_order a b (λ l. in_order nw a b c l h) (λ e. pr.two a b c h e) (λ l. in_order nw b a c l (pr.swap a b c h))

-- ---- what the check looks for speaks of three species of the candidate, and does not mind the order of the close pair

module _ (E : Triplets) (pr : Proper E) (T : Tree) where
  pub differs_proper : Proper (differs E T)
  differs_proper = let rp = R-proper E pr T in record {
    swap = λ a b c h. and_i (R E T b a c) _ (rp.swap a b c (and_l (R E T a b c) _ h))
        (not_i (holds T b a c) (λ k. not_e (holds T a b c) (and_r (R E T a b c) _ h) (holds_swap T b a c k)));
    two = λ a b c h. rp.two a b c (and_l (R E T a b c) _ h);
    third = λ a b c h. rp.third a b c (and_l (R E T a b c) _ h);
  }

  pub differs_in : (a b c : ℕ) → So (differs E T a b c) → So (under T a) × So (under T b) × So (under T c)
  differs_in a b c h = R-in E pr T a b c (and_l (R E T a b c) _ h)

module _ (E : Triplets) (N : ℕ) (T : Tree) where
  pub unsure_proper : Proper (unsure E N T)
  unsure_proper = record {
    swap = λ a b c h. and_i (holds T b a c) _ (holds_swap T a b c (and_l (holds T a b c) _ h))
        (ap not (and_comm (core (R E T) N N (under T) b c a) (core (R E T) N N (under T) a c b)) ∙ and_r (holds T a b c) _ h);
    two = λ a b c h. (holds_e T a b c (and_l (holds T a b c) _ h)).ab;
    third = λ a b c h. (holds_e T a b c (and_l (holds T a b c) _ h)).ac;
  }

  pub unsure_in : (a b c : ℕ) → So (unsure E N T a b c) → So (under T a) × So (under T b) × So (under T c)
  unsure_in a b c h = let o = holds_e T a b c (and_l (holds T a b c) _ h) in (o.in_a, o.in_b, o.in_c)

-- ---- two kinds of triplets that agree on every triple a < b < c agree on three different species in any order

module _ (N : ℕ) (P Q : Triplets) (ps : (a b c : ℕ) → P a b c ≡ P b a c) (qs : (a b c : ℕ) → Q a b c ≡ Q b a c)
    (sorted : (a b c : ℕ) → a < b → b < c → c < N → (P a b c ≡ Q a b c) × (P a c b ≡ Q a c b) × (P b c a ≡ Q b c a)) where
  agree_up : (a b c : ℕ) → a < b → a ≢ c → b ≢ c → b < N → c < N → P a b c ≡ Q a b c
  agree_up a b c lt ac bc hb hc = by_order b c (λ l. (sorted a b c lt l hc).0) (λ e. absurd (bc e))
      (λ l. by_order a c (λ m. (sorted a c b m l hb).1) (λ e. absurd (ac e)) (λ m. (sorted c a b m lt hb).2))

  pub agree_all : (a b c : ℕ) → a ≢ b → a ≢ c → b ≢ c → a < N → b < N → c < N → P a b c ≡ Q a b c
  agree_all a b c ab ac bc ha hb hc = by_order a b (λ l. agree_up a b c l ac bc hb hc) (λ e. absurd (ab e))
      (λ l. ps a b c ∙ agree_up b a c l bc ac ha hc ∙ sym (qs a b c))

-- a swap that keeps a triplet is an equation
pub swap_same : (E : Triplets) → Proper E → (a b c : ℕ) → E a b c ≡ E b a c
swap_same E pr a b c = bool_ext (E a b c) (E b a c) (pr.swap a b c) (pr.swap b a c)
