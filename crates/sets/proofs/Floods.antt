-- Reaching species step by step ends at the least set that is closed. Assumes nothing.
use mathlib.Core.Bool.{So}
use Rattle.std.proofs.Common.{◌≡◌, ℕ, ◌-◌, ◌^◌, ◌<◌, ◌≢◌, sym, ap, ◌∙◌, subst, arith}
use borrow.Author.Tests.{not-true}
use Rattle.sets.proofs.Bools.{not_e, not_i, test}
use Rattle.sets.proofs.Facts.{empty_e, minus_e, minus_i, single_e, single_i, union_case, union_l, union_r}
use Rattle.sets.proofs.Sizes.{size-le, size_with}
use Rattle.sets.proofs.Tests.{has-below, has_false, has-number, number_lt, true_has}
use Rattle.sets.specs.Floods.{Flooded, Kept}
use Rattle.sets.specs.Sets.{Lowest, has, minus, number, single, size, union}
use Rattle.sets.specs.Species.{Species}

-- x has a and no more than is reached from it; d is done: all that is linked to it is in x
pub record Spread (L : ℕ → Species) (a x d : ℕ) : Type 0 where
  pub start : So (has x a)
  pub near : (i j : ℕ) → So (has d i) → j < 64 → So (L i j) → So (has x j)
  pub least : (X : Species) → Kept L X → So (X a) → (j : ℕ) → So (has x j) → So (X j)

pub spread_start : (L : ℕ → Species) (a x : ℕ) → x ≡ single a → Spread L a x 0
spread_start L a x e = record {
  start = subst (λ (z : ℕ). So (has z a)) (sym e) (single_i a);
  near = λ i j h. absurd (empty_e i h);
  least = λ X c p j h. subst (λ (z : ℕ). So (X z)) (single_e a j (subst (λ (z : ℕ). So (has z j)) e h)) p;
}

pub spread_next : (L : ℕ → Species) (a x d i n x' d' : ℕ) → So (has x i) → n ≡ number 64 (L i) → x' ≡ union x n → d' ≡ union d (single i)
    → Spread L a x d → Spread L a x' d'
spread_next L a x d i n x' d' xi en ex ed s = record {
  start = union_l x' x n a ex s.start;
  near = λ k j h l f. union_case d' d (single i) k ed h
      (λ q. union_l x' x n j ex (s.near k j q l f))
      (λ q. union_r x' x n j ex (subst (λ (z : ℕ). So (has z j)) (sym en)
      (has-number 64 (L i) j l ∙ subst (λ (z : ℕ). So (L z j)) (sym (single_e i k q)) f)));
  least = λ X c p j h. union_case x' x n j ex h (s.least X c p j)
      (λ q. let m = subst (λ (z : ℕ). So (has z j)) en q in
      let l = has-below 64 (number 64 (L i)) (number_lt 64 (L i)) j m in
      c i j (s.least X c p i xi) l (sym (has-number 64 (L i) j l) ∙ m));
}

-- the lowest of what is to do
module _ (x d todo i : ℕ) (e : todo ≡ minus x d) (n : todo ≢ 0) (lo : Lowest todo i) where
  todo_e : So (has x i) × (So (has d i) → ⊥)
  todo_e = minus_e x d i (subst (λ (z : ℕ). So (has z i)) e (true_has todo i (lo.member n)))

  pub todo_in : So (has x i)
  todo_in = todo_e.0

  pub todo_less : (d' : ℕ) → d' < 2 ^ 64 → d' ≡ union d (single i) → 64 - size d' < 64 - size d
  todo_less d' l q = omega (
    arith,
    ap size q,
    size_with d i (has_false d i (not-true (has d i) (not_i (has d i) todo_e.1))),
    size-le 64 d' l,
  )

pub spread_end : (L : ℕ → Species) (a x d : ℕ) → minus x d ≡ 0 → Spread L a x d → Flooded L a x
spread_end L a x d e s = record {
  start = s.start;
  kept = λ i j h. s.near i j (test (has d i) (λ q. q) (λ q. absurd (empty_e i (subst (λ (z : ℕ). So (has z i)) e (minus_i x d i h (not_e (has d i) q))))));
  least = s.least;
}
