-- The members of a set as a list: in increasing order, each species of the set below the bound and no other; and a walk from the lowest species up.
-- Assumes nothing.
use Rattle.std.proofs.Common.{◌≡◌, ℕ, zero, suc, ◌+◌, ◌^◌, ◌<◌, ◌≤◌, Bool, true, false, ◌≢◌, ◌⊎◌, List, [], ◌∷◌, get_or, sym, refl, ap, ◌∙◌, subst, inl, inr, ⊎_elim, zero-le, le_refl, arith}
use mathlib.Core.Bool.{So, false≢true}
use mathlib.Core.List.Memᴰ
use mathlib.Core.List.{Memᴰ}
use native.Mathlib.Decide.{ℕ_discrete}
use Rattle.sets.specs.Species.{Species, put, from, members, Ascending}
use Rattle.sets.specs.Sets.{has, lowest, rest, Lowest, Rest}
use Rattle.sets.specs.Walks.{in_order}
use Rattle.sets.proofs.Digits.{minus_same, minus_other}
use Rattle.sets.proofs.Tests.{true_has, false_has, has_empty}
use Rattle.sets.proofs.Least.{lowest_in, lowest-lt, lowest-least}

-- ---- increasing

put_ascend : (b : Bool) (i : ℕ) (l : List ℕ) → Ascending (suc i) l → Ascending i (put b i l)
put_ascend true i l a = (le_refl i, a)
put_ascend false i [] a = tt
put_ascend false i (x ∷ l) a = (omega arith, a.1)

pub from_ascend : (S : Species) (n i : ℕ) → Ascending i (from i n S)
from_ascend S zero i = tt
from_ascend S (suc n) i = put_ascend (S i) i (from (suc i) n S) (from_ascend S n (suc i))

-- ---- which numbers

of_put : (b : Bool) (i : ℕ) (l : List ℕ) (x : ℕ) → Memᴰ x (put b i l) → ((x ≡ i) × So b) ⊎ Memᴰ x l
of_put true i l x m = ⊎_elim (λ e. inl (e, refl)) (λ k. inr k) (Memᴰ.cases_cons m)
of_put false i l x m = inr m

pub of_from : (S : Species) (x n i : ℕ) → Memᴰ x (from i n S) → (i ≤ x) × (x < i + n) × So (S x)
of_from S x zero i m = absurd (Memᴰ.not-nil m)
of_from S x (suc n) i m = ⊎_elim
    (λ p. (omega (arith, p.0), omega (arith, p.0), subst (λ (k : ℕ). So (S k)) (sym p.0) p.1))
    (λ k. let r = of_from S x n (suc i) k in (omega (arith, r.0), omega (arith, r.1), r.2))
    (of_put (S i) i (from (suc i) n S) x m)

put_here : (b : Bool) (i : ℕ) (l : List ℕ) (x : ℕ) → x ≡ i → So b → Memᴰ x (put b i l)
put_here true i l x e h = Memᴰ.head e
put_here false i l x e h = absurd (false≢true h)

put_later : (b : Bool) (i : ℕ) (l : List ℕ) (x : ℕ) → Memᴰ x l → Memᴰ x (put b i l)
put_later true i l x m = Memᴰ.tail m
put_later false i l x m = m

pub in_from : (S : Species) (x n i : ℕ) → i ≤ x → x < i + n → So (S x) → Memᴰ x (from i n S)
in_from S x zero i le lt h = absurd (omega arith)
in_from S x (suc n) i le lt h = go (ℕ_discrete x i) (λ l. in_from S x n (suc i) l (omega arith) h)
  where
    go : Dec (x ≡ i) → (suc i ≤ x → Memᴰ x (from (suc i) n S)) → Memᴰ x (from i (suc n) S)
    go (yes e) ih = put_here (S i) i _ x e (subst (λ (k : ℕ). So (S k)) e h)
    go (no f) ih = put_later (S i) i _ x (ih (omega arith))

-- ---- lists of two sets

from_same : (P Q : Species) (n i : ℕ) → ((j : ℕ) → i ≤ j → j < i + n → P j ≡ Q j) → from i n P ≡ from i n Q
from_same P Q zero i h = refl
from_same P Q (suc n) i h = rw (h i (le_refl i) (omega arith), from_same P Q n (suc i) (λ j l k. h j (omega arith) (omega arith)))

-- only the species below n matter
pub members_same : (n : ℕ) (P Q : Species) → ((x : ℕ) → x < n → P x ≡ Q x) → members n P ≡ members n Q
unfolding members
members_same n P Q h = from_same P Q n 0 (λ j l k. h j (omega arith))

from_empty : (n i : ℕ) → from i n (has 0) ≡ []
from_empty zero i = refl
from_empty (suc n) i = rw (has_empty i) (from_empty n (suc i))

pub members_empty : (n : ℕ) → members n (has 0) ≡ []
unfolding members
members_empty n = from_empty n 0

-- m is the least of P, and Q is P without it
module _ (P Q : Species) (m : ℕ) (here : P m ≡ true) (before : (j : ℕ) → j < m → P j ≡ false)
    (gone : Q m ≡ false) (other : (j : ℕ) → m ≢ j → Q j ≡ P j) where
  from_walk : (n i : ℕ) → i ≤ m → m < i + n → from i n P ≡ m ∷ from i n Q
  from_walk zero i le lt = absurd (omega arith)
  from_walk (suc n) i le lt = go (ℕ_discrete m i) (λ l. from_walk n (suc i) l (omega arith))
    where
      go : Dec (m ≡ i) → (suc i ≤ m → from (suc i) n P ≡ m ∷ from (suc i) n Q) → from i (suc n) P ≡ m ∷ from i (suc n) Q
      go (no f) ih = let z = before i (omega arith) in rw (z, other i f ∙ z) (ih (omega arith))
      go (yes e) ih = rw (← e, here, gone) (ap (λ l. m ∷ l) (from_same P Q n (suc m) (λ j l k. sym (other j (omega arith)))))

  pub members_pop : (n : ℕ) → m < n → members n P ≡ m ∷ members n Q
  unfolding members
  members_pop n lt = from_walk n 0 zero-le (omega arith)

-- the first of the list is the lowest, and the others are the list of the rest
pub members_walk : (s : ℕ) → s < 2 ^ 64 → s ≢ 0 → members 64 (has s) ≡ lowest s ∷ members 64 (has (rest s))
members_walk s h n =
    let m = lowest s in
    members_pop (has s) (has (rest s)) m (true_has s m (lowest_in s h n)) (λ j l. false_has s j (lowest-least s j l))
    (false_has (rest s) m (minus_same s m)) (λ j f. rw (minus_other s m j f)) 64 (lowest-lt s h n)

pub lowest-members : (s : ℕ) → s < 2 ^ 64 → s ≢ 0 → get_or (members 64 (has s)) 0 0 ≡ lowest s
lowest-members s h n = rw (members_walk s h n)

-- ---- a walk's turns, as of the list

pub in_order-none : {s : ℕ} → s ≡ 0 → in_order s ≡ []
in_order-none e = ap in_order e ∙ members_empty 64

pub in_order-first : {s i t : ℕ} → s < 2 ^ 64 → s ≢ 0 → Lowest s i → Rest s t → in_order s ≡ i ∷ in_order t
in_order-first {s} {i} {t} h n lo re = rw (lo.is, re.is) (members_walk s h n)
