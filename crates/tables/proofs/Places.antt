-- Where a triplet stands: the order of its three species, the place of its triple, and its bit. Assumes nothing.
use mathlib.Core.Bool.{Bool, So, ◌&&◌, cond, false, true}
use mathlib.Core.Logic.{◌≢◌, ◌⊎◌, inl, inr, ⊎_elim}
use mathlib.Core.Path.{◌∙◌, ◌≡◌, ap, ap₂, refl, subst, sym}
use Prim.Native.Nat.{◌+◌, ◌-◌, ◌<◌, ◌≤◌, max, min, suc, zero, ℕ}
use native.Mathlib.Nat.{add_comm, le_of_lt, le_trans, max_comm, max-eq_left, max-eq_right, min_comm, min-eq_left, min-eq_right}
use native.Mathlib.Omega.{arith}
use borrow.Author.Tests.{eq-eqb, eqb-true, le-ltb, lt-ltb}
use lib.Dec.{eqb, ltb}
use Rattle.sets.proofs.Bools.{and_i, and_l, and_r, bool_ext, by_order, ne_e, test}
use Rattle.trees.proofs.Triplets.{different_e, different_swap, only_e, only_i}
use Rattle.trees.specs.Triplets.{different, only}
use Rattle.triples.proofs.Indices.{index_inj, index-lt}
use Rattle.tables.specs.Bytes.{bit_of, place_of}
use Rattle.triples.specs.Index.{C, high, index, low, mid}

-- ---- the bit, by the order of the third species and the other two

module _ (a b c : ℕ) where
  pub bit_high : max a b < c → bit_of a b c ≡ 0
  unfolding bit_of
  bit_high h = ap (λ (x : Bool). cond x 0 (cond (ltb (min a b) c) 1 2)) (lt-ltb (max a b) c h)

  pub bit_mid : c ≤ max a b → min a b < c → bit_of a b c ≡ 1
  unfolding bit_of
  bit_mid h l = ap₂ (λ (x y : Bool). cond x 0 (cond y 1 2)) (le-ltb (max a b) c h) (lt-ltb (min a b) c l)

  pub bit_low : c ≤ max a b → c ≤ min a b → bit_of a b c ≡ 2
  unfolding bit_of
  bit_low h l = ap₂ (λ (x y : Bool). cond x 0 (cond y 1 2)) (le-ltb (max a b) c h) (le-ltb (min a b) c l)

pub bit_most : (a b c : ℕ) → bit_of a b c < 3
unfolding bit_of
bit_most a b c = go (ltb (max a b) c) (ltb (min a b) c)
  where
    go : (x y : Bool) → cond x 0 (cond y 1 2) < 3
    go true y = omega arith
    go false true = omega arith
    go false false = omega arith

-- ---- low, mid and high by the lower and the higher of the first two

low-pair : (a b c : ℕ) → low a b c ≡ min (min a b) c
low-pair a b c = omega arith

high-pair : (a b c : ℕ) → high a b c ≡ max (max a b) c
high-pair a b c = omega arith

sum_pair : (a b c : ℕ) → a + b + c ≡ min a b + max a b + c
sum_pair a b c = omega arith

pair_lt : (a b : ℕ) → a ≢ b → min a b < max a b
pair_lt a b h = omega arith

min-not : (a b c : ℕ) → a ≢ c → b ≢ c → min a b ≢ c
min-not a b c h k e = omega arith

max-not : (a b c : ℕ) → a ≢ c → b ≢ c → max a b ≢ c
max-not a b c h k e = omega arith

pub high_lt : (a b c n : ℕ) → a < n → b < n → c < n → high a b c < n
high_lt a b c n p q r = omega arith

mid_sum : (a b c l m h : ℕ) → low a b c ≡ l → high a b c ≡ h → a + b + c ≡ l + m + h → mid a b c ≡ m
mid_sum a b c l m h el eh s = ap₂ (λ (i j : ℕ). i - j) s (ap₂ (λ (i j : ℕ). i + j) el eh) ∙ sub l m h
  where
    sub : (l m h : ℕ) → l + m + h - (l + h) ≡ m
    sub l m h = omega arith

-- ab|c and ba|c stand at the same place and bit
pub place_swap : (a b c : ℕ) → place_of a b c ≡ place_of b a c
unfolding place_of
place_swap a b c =
    let l : low a b c ≡ low b a c = low-pair a b c ∙ ap (λ (x : ℕ). min x c) (min_comm a b) ∙ sym (low-pair b a c) in
    let h : high a b c ≡ high b a c = high-pair a b c ∙ ap (λ (x : ℕ). max x c) (max_comm a b) ∙ sym (high-pair b a c) in
    let m : mid a b c ≡ mid b a c = ap₂ (λ (x y : ℕ). x + c - y) (add_comm a b) (ap₂ (λ (x y : ℕ). x + y) l h) in
    cc

pub bit_swap : (a b c : ℕ) → bit_of a b c ≡ bit_of b a c
unfolding bit_of
bit_swap a b c = ap₂ (λ (x y : ℕ). cond (ltb x c) 0 (cond (ltb y c) 1 2)) (max_comm a b) (min_comm a b)

-- ---- the three triplets on a < b < c

place_is : (x y z l m h : ℕ) → low x y z ≡ l → high x y z ≡ h → x + y + z ≡ l + m + h → place_of x y z ≡ index l m h
unfolding place_of
place_is x y z l m h el eh s = let em = mid_sum x y z l m h el eh s in rw (em, el, eh)

module _ (a b c : ℕ) (p : a < b) (q : b < c) where
  pub place_ab : place_of a b c ≡ index a b c
  place_ab = place_is a b c a b c (omega arith) (omega arith) refl

  pub place_ac : place_of a c b ≡ index a b c
  place_ac = place_is a c b a b c (omega arith) (omega arith) (omega arith)

  pub place_bc : place_of b c a ≡ index a b c
  place_bc = place_is b c a a b c (omega arith) (omega arith) (omega arith)

  pub bit_ab : bit_of a b c ≡ 0
  bit_ab = bit_high a b c (omega arith)

  pub bit_ac : bit_of a c b ≡ 1
  bit_ac = bit_mid a c b (omega arith) (omega arith)

  pub bit_bc : bit_of b c a ≡ 2
  bit_bc = bit_low b c a (omega arith) (omega arith)

-- ---- three different species: the place and the bit tell the triplet

-- the one of three that a bit stands for
abbrev pub pick3 : ℕ → ℕ → ℕ → ℕ → ℕ
pick3 zero x y z = x
pick3 (suc zero) x y z = y
pick3 (suc (suc k)) x y z = z

pub record Placed (a b c : ℕ) : Type 0 where
  pub below : low a b c < mid a b c
  pub above : mid a b c < high a b c
  pub least : min a b ≡ pick3 (bit_of a b c) (low a b c) (low a b c) (mid a b c)
  pub most : max a b ≡ pick3 (bit_of a b c) (mid a b c) (high a b c) (high a b c)
  pub third : c ≡ pick3 (bit_of a b c) (high a b c) (mid a b c) (low a b c)

placed_as : (a b c k l m h : ℕ) → bit_of a b c ≡ k → low a b c ≡ l → high a b c ≡ h → a + b + c ≡ l + m + h → l < m → m < h
    → min a b ≡ pick3 k l l m → max a b ≡ pick3 k m h h → c ≡ pick3 k h m l → Placed a b c
placed_as a b c k l m h ek el eh s p q x y z =
    let em = mid_sum a b c l m h el eh s in
    record {
      below = rw (em, el) p;
      above = rw (em, eh) q;
      least = x ∙ rw (ek, em, el);
      most = y ∙ rw (ek, em, eh);
      third = z ∙ rw (ek, em, el, eh);
    }

pub placed : (a b c : ℕ) → So (different a b c) → Placed a b c
placed a b c d =
    let n = different_e a b c d in
    go (min a b) (max a b) refl refl (low-pair a b c) (high-pair a b c) (sum_pair a b c) (pair_lt a b n.0) (min-not a b c n.1 n.2) (max-not a b c n.1 n.2)
  where
    swap : (p q c s : ℕ) → s ≡ p + q + c → (s ≡ p + c + q) × (s ≡ c + p + q)
    swap p q c s e = (omega arith, omega arith)

    go : (p q : ℕ) → min a b ≡ p → max a b ≡ q → low a b c ≡ min p c → high a b c ≡ max q c → a + b + c ≡ p + q + c → p < q → p ≢ c → q ≢ c → Placed a b c
    go p q ep eq l h s lt np nq = by_order q c
        (λ k. placed_as a b c 0 p q c (bit_high a b c (subst (λ (x : ℕ). x < c) (sym eq) k)) (l ∙ min-eq_left (le_trans (le_of_lt lt) (le_of_lt k))) (h ∙ max-eq_right (le_of_lt k)) s lt k ep eq refl)
        (λ e. absurd (nq e))
        (λ k. by_order p c
        (λ j. placed_as a b c 1 p c q
        (bit_mid a b c (subst (λ (x : ℕ). c ≤ x) (sym eq) (le_of_lt k)) (subst (λ (x : ℕ). x < c) (sym ep) j))
        (l ∙ min-eq_left (le_of_lt j)) (h ∙ max-eq_left (le_of_lt k)) (swap p q c _ s).0 j k ep eq refl)
        (λ e. absurd (np e))
        (λ j. placed_as a b c 2 c p q
        (bit_low a b c (subst (λ (x : ℕ). c ≤ x) (sym eq) (le_of_lt k)) (subst (λ (x : ℕ). c ≤ x) (sym ep) (le_of_lt j)))
        (l ∙ min-eq_right (le_of_lt j)) (h ∙ max-eq_left (le_of_lt k)) (swap p q c _ s).1 j lt ep eq refl))

-- among n species the place is in their table
pub place_lt : (a b c n : ℕ) → So (different a b c) → a < n → b < n → c < n → place_of a b c < C n 3
unfolding place_of
place_lt a b c n d p q r =
    let s = placed a b c d in
    index-lt (low a b c) (mid a b c) (high a b c) n s.below s.above (high_lt a b c n p q r)

-- the same place and bit: the same triplet
pair_cases : (a b x y : ℕ) → min a b ≡ min x y → max a b ≡ max x y → ((x ≡ a) × (y ≡ b)) ⊎ ((x ≡ b) × (y ≡ a))
pair_cases a b x y p q = test (eqb x a)
    (λ e. let f = eqb-true x a e in inl (f, omega arith))
    (λ e. let f = ne_e x a e in inr (omega arith, omega arith))

-- xy|z stands where ab|c does
abbrev pub same : ℕ → ℕ → ℕ → ℕ → ℕ → ℕ → Bool
same a b c x y z = different x y z && (eqb (place_of x y z) (place_of a b c) && eqb (bit_of a b c) (bit_of x y z))

same_of : (a b c x y z : ℕ) → So (different x y z) → place_of x y z ≡ place_of a b c → bit_of a b c ≡ bit_of x y z → So (same a b c x y z)
same_of a b c x y z d p q = and_i (different x y z) _ d (and_i (eqb (place_of x y z) (place_of a b c)) _ (eq-eqb _ _ p) (eq-eqb (bit_of a b c) (bit_of x y z) q))

pub same_only : (a b c x y z : ℕ) → So (different a b c) → same a b c x y z ≡ only a b c x y z
unfolding place_of
same_only a b c x y z d = bool_ext (same a b c x y z) (only a b c x y z)
    (λ h. let d' = and_l (different x y z) _ h in
    let r = and_r (different x y z) _ h in
    let s = placed a b c d in
    let s' = placed x y z d' in
    let e = eqb-true (place_of x y z) (place_of a b c) (and_l (eqb (place_of x y z) (place_of a b c)) _ r) in
    let k : bit_of a b c ≡ bit_of x y z = eqb-true _ _ (and_r (eqb (place_of x y z) (place_of a b c)) _ r) in
    let i = index_inj (low x y z) (mid x y z) (high x y z) (low a b c) (mid a b c) (high a b c) s'.below s'.above s.below s.above e in
    only_i a b c x y z (s'.third ∙ rw (← k, i.1, i.0, i.2) (sym s.third)) (pair_cases a b x y (s.least ∙ rw (k, ← i.1, ← i.0) (sym s'.least)) (s.most ∙ rw (k, ← i.1, ← i.2) (sym s'.most))))
    (λ h. let r = only_e a b c x y z h in
    rw r.0 (⊎_elim (λ p. rw (p.0, p.1) (same_of a b c a b c d refl refl))
    (λ p. rw (p.0, p.1) (same_of a b c b a c (different_swap a b c d) (place_swap b a c) (bit_swap a b c))) r.1))
