-- What is entered of the resolved triples, over all triples of species below n, is R. Assumes nothing.
use mathlib.Core.Bool.{Bool, So, ◌&&◌, ◌||◌, and-false, and-true, false, true}
use mathlib.Core.List.{List}
use mathlib.Core.Logic.{inl, inr, ⊎_elim}
use mathlib.Core.Path.{◌∙◌, ◌≡◌, ap, refl, sym}
use Prim.Native.Nat.{◌*◌, ◌+◌, ◌<◌, ◌≤◌, ℕ}
use native.Mathlib.Omega.{arith}
use lib.ListN.{length, replicate}
use Rattle.sets.proofs.Bools.{and_i, and_l, and_r, bool_ext, not_e, or_case, test}
use Rattle.sets.proofs.Digits.{lt_of_has}
use Rattle.sets.proofs.Members.{any_e, any_i}
use Rattle.sets.proofs.Tests.{has_empty, number_unique, true_has}
use Rattle.sets.proofs.Zeros.{zero-at}
use Rattle.sets.specs.Sets.{has}
use Rattle.trees.proofs.Agreement.{R-in, R-proper}
use Rattle.trees.proofs.Splits.{holds_swap}
use Rattle.trees.proofs.Triples.{nowhere_e}
use Rattle.trees.proofs.Triplets.{on_swap, on_turn, only_e, only_i, only_l}
use Rattle.trees.specs.Check.{R}
use Rattle.trees.specs.Trees.{Tree}
use Rattle.trees.specs.Triplets.{Proper, Triplets, holds, only, resolves}
use Rattle.tables.proofs.Bytes.{entered_proper}
use Rattle.tables.specs.Bytes.{entered}
use Rattle.groups.specs.Groups.{Candidate, cell, cells}
use Rattle.masks.proofs.Growth.{grown_as, grown_both, grown_none}
use Rattle.masks.specs.Filling.{Masked, Noted, in_level, in_row, in_triple, in_triples, shown}
use Rattle.masks.specs.Masks.{Masks}

-- ---- one triple

module _ (T : Tree) (a b c : ℕ) where
  -- the order of the three species does not matter
  on_ac : resolves T a c b ≡ resolves T a b c
  on_ac = bool_ext (resolves T a c b) (resolves T a b c) (on_turn (holds T) (holds_swap T) a c b) (on_turn (holds T) (holds_swap T) a b c)

  on_bc : resolves T b c a ≡ resolves T a b c
  on_bc = bool_ext (resolves T b c a) (resolves T a b c)
      (λ h. on_swap (holds T) (holds_swap T) b a c (on_turn (holds T) (holds_swap T) b c a h))
      (λ h. on_turn (holds T) (holds_swap T) b a c (on_swap (holds T) (holds_swap T) a b c h))

  module _ (E : Triplets) where
    pub note_off : {m : List ℕ} → resolves T a b c ≡ false → Masked (in_triple (R E T) a b c) m m
    note_off e = grown_none (λ x y z. rw (on_ac, on_bc, e, and-false (E a b c), and-false (E a c b), and-false (E b c a)) refl)

    pub note_on : {p q r : Bool} {m m₁ m₂ m₃ : List ℕ} → resolves T a b c ≡ true → p ≡ E a b c → q ≡ E a c b → r ≡ E b c a
        → Masked (λ x y z. p && only a b c x y z) m m₁ → Masked (λ x y z. q && only a c b x y z) m₁ m₂ → Masked (λ x y z. r && only b c a x y z) m₂ m₃
        → Masked (in_triple (R E T) a b c) m m₃
    note_on e ep eq er g₁ g₂ g₃ = grown_as
        (λ x y z. rw (on_ac, on_bc, e, and-true (E a b c), and-true (E a c b), and-true (E b c a), ep, eq, er) refl)
        (grown_both g₁ (grown_both g₂ g₃))

-- ---- all triples

module _ (E : Triplets) (pr : Proper E) (x y z : ℕ) where
  shown_e : (a b c : ℕ) → So (shown E x y z a b c) → So (E x y z)
  shown_e a b c h =
      let e = and_l (E a b c) _ h in
      let o = only_e a b c x y z (and_r (E a b c) _ h) in
      rw o.0 (⊎_elim (λ p. rw (p.0, p.1) e) (λ p. rw (p.0, p.1) (pr.swap a b c e)) o.1)

  shown_i : So (E x y z) → So (shown E x y z x y z)
  shown_i h = and_i (E x y z) _ h (only_l x y z)

  shown_proper : Proper (shown E x y z)
  shown_proper = record {
    swap = λ a b c h. and_i (E b a c) _ (pr.swap a b c (and_l (E a b c) _ h))
        (let o = only_e a b c x y z (and_r (E a b c) _ h) in only_i b a c x y z o.0 (⊎_elim inr inl o.1));
    two = λ a b c h. pr.two a b c (and_l (E a b c) _ h);
    third = λ a b c h. pr.third a b c (and_l (E a b c) _ h);
  }

  triples_e : (n : ℕ) → So (in_triples E n x y z) → So (E x y z)
  triples_e n h =
      let (c, _, hc) = any_e n (λ c. in_level E c c x y z) h in
      let (b, _, hb) = any_e c (λ b. in_row E b b c x y z) hc in
      let (a, _, ha) = any_e b (λ a. in_triple E a b c x y z) hb in
      or_case (shown E x y z a b c) _ ha (shown_e a b c) (λ k. or_case (shown E x y z a c b) _ k (shown_e a c b) (shown_e b c a))

  triples_i : (n : ℕ) → ((a b c : ℕ) → So (E a b c) → (a < n) × (b < n) × (c < n)) → So (E x y z) → So (in_triples E n x y z)
  triples_i n inn h = test (in_triples E n x y z) (λ k. k) (λ k. absurd (nowhere_e n (shown E x y z) shown_proper
      (λ a b c j. inn a b c (and_l (E a b c) _ j))
      (λ a b c ab bc cn j. not_e (in_triples E n x y z) k (any_i n (λ c. in_level E c c x y z) c cn
      (any_i c (λ b. in_row E b b c x y z) b bc (any_i b (λ a. in_triple E a b c x y z) a ab j))))
      x y z (shown_i h)))

  pub triples_all : (n : ℕ) → ((a b c : ℕ) → So (E a b c) → (a < n) × (b < n) × (c < n)) → in_triples E n x y z ≡ E x y z
  triples_all n inn = bool_ext (in_triples E n x y z) (E x y z) (triples_e n) (triples_i n inn)

-- ---- from no triplet to R

grown_masks : (E : Triplets) → Proper E → (n : ℕ) → n ≤ 64 → ((a b c : ℕ) → So (E a b c) → (a < n) × (b < n) × (c < n)) → (m : List ℕ) → length m ≡ cells
    → Masked (in_triples E n) (replicate cells 0) m → Masks E m
grown_masks E pr n hn inn m s g = record {
  size = s;
  mask = λ x y hx hy.
      let is : (z : ℕ) → has (cell m x y) z ≡ E x y z = λ z. g.cells x y z hy
      ∙ ap (λ (w : Bool). w || in_triples E n x y z) (ap (λ (v : ℕ). has v z) (zero-at cells (x * 64 + y)) ∙ has_empty z)
      ∙ triples_all E pr x y z n inn in
      number_unique 64 (cell m x y) (E x y) (lt_of_has 64 (cell m x y) (λ z h. omega (arith, (inn x y z (sym (is z) ∙ true_has (cell m x y) z h)).2))) (λ z _. is z);
}

pub relate_masks : {t : List ℕ} {whole : ℕ} {meets m : List ℕ} (n : ℕ) (T : Tree) → n ≤ 64 → Candidate n T whole meets
    → (c : ℕ) → c ≡ n → Noted t whole meets (λ E. in_triples E c) (replicate cells 0) m → Masks (R (entered t) T) m
relate_masks {t} n T hn d c e k =
    let E = entered t in
    let pr = entered_proper t in
    grown_masks (R E T) (R-proper E pr T) n hn (λ a b c h. let w = R-in E pr T a b c h in (d.below a w.0, d.below b w.1, d.below c w.2)) _ k.size
    (rw (← e) (k.grown T d.drawn.meet d.drawn.all))
