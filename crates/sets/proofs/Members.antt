-- The members of a set of species below a bound, in increasing order. Assumes nothing.
use Rattle.std.proofs.Common.{◌≡◌, ℕ, zero, suc, ◌+◌, ◌<◌, ◌≤◌, Bool, true, false, not, ◌&&◌, ◌||◌, eqb, ◌≢◌, ◌⊎◌, List, [], ◌∷◌, map, length, get_or, sym, refl, ap, subst, ap₂, inl, inr, ⊎_elim, arith, ltb-true, eqb-true}
use mathlib.Core.Bool.{So, false≢true}
use borrow.Author.Tests.{not-true}
use Rattle.sets.proofs.Bools.{and_i, and_l, and_r, by_order, lt_of_ne, ne_e, not_e, not_i, or_case, or_l, or_r, test}
use Rattle.sets.specs.Species.{Below, Inside, Species, any, below, from, inside, members, put}

pub any_i : (n : ℕ) (P : Species) (i : ℕ) → i < n → So (P i) → So (any n P)
any_i zero P i h p = absurd (omega arith)
any_i (suc n) P i h p = test (eqb i n)
    (λ e. or_l (P n) (any n P) (subst (λ (k : ℕ). So (P k)) (eqb-true i n e) p))
    (λ e. or_r (P n) (any n P) (any_i n P i (lt_of_ne i n h e) p))

pub any_e : (n : ℕ) (P : Species) → So (any n P) → (i : ℕ) × (i < n) × So (P i)
any_e zero P h = absurd (false≢true h)
any_e (suc n) P h = or_case (P n) (any n P) h
    (λ p. (n, omega arith, p))
    (λ q. let r = any_e n P q in (r.0, omega (arith, r.1), r.2))

-- the lowest
pub least_of_lem : (n : ℕ) (P : Species) → So (any n P) → (j : ℕ) × (j < n) × So (P j) × So (not (any j P))
least_of_lem zero P h = absurd (false≢true h)
least_of_lem (suc n) P h = test (any n P)
    (λ k. let r = least_of_lem n P k in (r.0, omega (arith, r.1), r.2, r.3))
    (λ k. (n, omega arith, or_case (P n) (any n P) h (λ p. p) (λ p. absurd (not_e (any n P) k p)), k))

-- all species below n
pub all_below : (n : ℕ) → Below n (below n)
all_below n x h = ltb-true x n h

pub inside_e : (n : ℕ) (P Q : Species) → Below n P → So (inside n P Q) → Inside P Q
inside_e n P Q bd h x p = test (Q x) (λ q. q) (λ q. absurd (not_e _ h (any_i n (λ z. P z && not (Q z)) x (bd x p) (and_i (P x) _ p q))))

pub inside_i : (n : ℕ) (P Q : Species) → Inside P Q → So (inside n P Q)
inside_i n P Q h = not_i _ (λ k. let w = any_e n (λ z. P z && not (Q z)) k in not_e (Q w.0) (and_r (P w.0) _ w.2) (h w.0 (and_l (P w.0) _ w.2)))

-- ---- lists of sets: their union, pairwise apart, each of them

abbrev pub any_of : List Species → Species
any_of [] x = false
any_of (p ∷ ps) x = p x || any_of ps x

abbrev pub Apart : List Species → Type 0
Apart [] = Unit {0}
Apart (p ∷ ps) = ((x : ℕ) → So (p x) → So (any_of ps x) → ⊥) × Apart ps

abbrev pub Every : (Species → Type 0) → List Species → Type 0
Every Q [] = Unit {0}
Every Q (p ∷ ps) = Q p × Every Q ps

put_e : (b : Bool) (i : ℕ) (l : List ℕ) (g : ℕ → Species) (x : ℕ) → So (any_of (map g (put b i l)) x) → (So b × So (g i x)) ⊎ So (any_of (map g l) x)
put_e true i l g x h = or_case (g i x) (any_of (map g l) x) h (λ p. inl (refl, p)) (λ p. inr p)
put_e false i l g x h = inr h

put_l : (b : Bool) (i : ℕ) (l : List ℕ) (g : ℕ → Species) (x : ℕ) → So b → So (g i x) → So (any_of (map g (put b i l)) x)
put_l true i l g x h p = or_l (g i x) _ p
put_l false i l g x h p = absurd (false≢true h)

put_r : (b : Bool) (i : ℕ) (l : List ℕ) (g : ℕ → Species) (x : ℕ) → So (any_of (map g l) x) → So (any_of (map g (put b i l)) x)
put_r true i l g x p = or_r (g i x) _ p
put_r false i l g x p = p

pub from_e : (g : ℕ → Species) (P : Species) (x n i : ℕ) → So (any_of (map g (from i n P)) x) → (j : ℕ) × (i ≤ j) × (j < i + n) × So (P j) × So (g j x)
from_e g P x zero i h = absurd (false≢true h)
from_e g P x (suc n) i h = ⊎_elim
    (λ p. (i, omega arith, omega arith, p.0, p.1))
    (λ p. let r = from_e g P x n (suc i) p in (r.0, omega (arith, r.1), omega (arith, r.2), r.3, r.4))
    (put_e (P i) i (from (suc i) n P) g x h)

pub from_i : (g : ℕ → Species) (P : Species) (x n i j : ℕ) → i ≤ j → j < i + n → So (P j) → So (g j x) → So (any_of (map g (from i n P)) x)
from_i g P x zero i j le lt p q = absurd (omega arith)
from_i g P x (suc n) i j le lt p q = test (eqb i j)
    (λ e. let eq = sym (eqb-true i j e) in put_l (P i) i _ g x (subst (λ (z : ℕ). So (P z)) eq p) (subst (λ (z : ℕ). So (g z x)) eq q))
    (λ e. let ne : i ≡ j → ⊥ = ne_e i j e in put_r (P i) i _ g x (from_i g P x n (suc i) j (omega arith) (omega arith) p q))

pub from-apart : (g : ℕ → Species) (P : Species) → ((i j x : ℕ) → i < j → So (P i) → So (P j) → So (g i x) → So (g j x) → ⊥) → (n i : ℕ) → Apart (map g (from i n P))
from-apart g P d zero i = tt
from-apart g P d (suc n) i = go (P i) (λ h. h) (from-apart g P d n (suc i))
  where
    go : (b : Bool) → (So b → So (P i)) → Apart (map g (from (suc i) n P)) → Apart (map g (put b i (from (suc i) n P)))
    go true f ih = ((λ x p q. let r = from_e g P x n (suc i) q in d i r.0 x (omega (arith, r.1)) (f refl) r.3 p r.4), ih)
    go false f ih = ih

pub from_every : (g : ℕ → Species) (P : Species) (Q : Species → Type 0) → ((j : ℕ) → So (P j) → Q (g j)) → (n i : ℕ) → Every Q (map g (from i n P))
from_every g P Q d zero i = tt
from_every g P Q d (suc n) i = go (P i) (λ h. h) (from_every g P Q d n (suc i))
  where
    go : (b : Bool) → (So b → So (P i)) → Every Q (map g (from (suc i) n P)) → Every Q (map g (put b i (from (suc i) n P)))
    go true f ih = (d i (f refl), ih)
    go false f ih = ih

length-put : (b : Bool) (i : ℕ) (l : List ℕ) → length l ≤ length (put b i l)
length-put true i l = omega arith
length-put false i l = omega arith

length-put_true : (b : Bool) (i : ℕ) (l : List ℕ) → So b → length (put b i l) ≡ suc (length l)
length-put_true true i l h = refl
length-put_true false i l h = absurd (false≢true h)

pub from_one : (P : Species) (n i j : ℕ) → i ≤ j → j < i + n → So (P j) → 1 ≤ length (from i n P)
from_one P zero i j le lt p = absurd (omega arith)
from_one P (suc n) i j le lt p = test (eqb i j)
    (λ e. omega (arith, length-put_true (P i) i (from (suc i) n P) (subst (λ (z : ℕ). So (P z)) (sym (eqb-true i j e)) p)))
    (λ e. let ne : i ≡ j → ⊥ = ne_e i j e in omega (arith, length-put (P i) i (from (suc i) n P), from_one P n (suc i) j (omega arith) (omega arith) p))

pub from-two : (P : Species) (n i j k : ℕ) → i ≤ j → j < k → k < i + n → So (P j) → So (P k) → 2 ≤ length (from i n P)
from-two P zero i j k le lt lt' p q = absurd (omega arith)
from-two P (suc n) i j k le lt lt' p q = test (eqb i j)
    (λ e. let eq = eqb-true i j e in
    omega (arith, length-put_true (P i) i (from (suc i) n P) (subst (λ (z : ℕ). So (P z)) (sym eq) p), from_one P n (suc i) k (omega arith) (omega arith) q))
    (λ e. let ne : i ≡ j → ⊥ = ne_e i j e in omega (arith, length-put (P i) i (from (suc i) n P), from-two P n (suc i) j k (omega arith) lt (omega arith) p q))

from-none : (P : Species) (n i : ℕ) → ((j : ℕ) → i ≤ j → So (P j) → ⊥) → length (from i n P) ≡ 0
from-none P zero i f = refl
from-none P (suc n) i f = go (P i) (λ p. p) (from-none P n (suc i) (λ j le p. f j (omega arith) p))
  where
    go : (b : Bool) → (So b → So (P i)) → length (from (suc i) n P) ≡ 0 → length (put b i (from (suc i) n P)) ≡ 0
    go true g e = absurd (f i (omega arith) (g refl))
    go false g e = e

pub from_uniq : (P : Species) → ((a b : ℕ) → So (P a) → So (P b) → a ≡ b) → (n i : ℕ) → length (from i n P) ≤ 1
from_uniq P uq zero i = omega arith
from_uniq P uq (suc n) i = go (P i) (λ p. p) (from_uniq P uq n (suc i))
  where
    go : (b : Bool) → (So b → So (P i)) → length (from (suc i) n P) ≤ 1 → length (put b i (from (suc i) n P)) ≤ 1
    go true g h = omega (arith, from-none P n (suc i) (λ j le p. omega (arith, uq j i p (g refl))))
    go false g h = h

pub from_bound : (P : Species) (n i : ℕ) → length (from i n P) ≤ n
from_bound P zero i = omega arith
from_bound P (suc n) i = go (P i) (from_bound P n (suc i))
  where
    go : (b : Bool) → length (from (suc i) n P) ≤ n → length (put b i (from (suc i) n P)) ≤ suc n
    go true h = omega arith
    go false h = omega arith

pub two_from : (N : ℕ) (S : Species) → Below N S → (a b : ℕ) → So (S a) → So (S b) → a ≢ b → 2 ≤ length (from 0 N S)
two_from N S bd a b ha hb ne = by_order a b
    (λ l. from-two S N 0 a b (omega arith) l (omega (arith, bd b hb)) ha hb)
    (λ e. absurd (ne e))
    (λ l. from-two S N 0 b a (omega arith) l (omega (arith, bd a ha)) hb ha)

put-le : (b b' : Bool) (i : ℕ) (l l' : List ℕ) → (So b → So b') → length l ≤ length l' → length (put b i l) ≤ length (put b' i l')
put-le true true i l l' f h = omega arith
put-le true false i l l' f h = absurd (false≢true (f refl))
put-le false true i l l' f h = omega arith
put-le false false i l l' f h = h

put-lt : (b b' : Bool) (i : ℕ) (l l' : List ℕ) → So (not b) → So b' → length l ≤ length l' → length (put b i l) < length (put b' i l')
put-lt true b' i l l' f g h = absurd (false≢true f)
put-lt false true i l l' f g h = omega arith
put-lt false false i l l' f g h = absurd (false≢true g)

put-le-lt : (b b' : Bool) (i : ℕ) (l l' : List ℕ) → (So b → So b') → length l < length l' → length (put b i l) < length (put b' i l')
put-le-lt true true i l l' f h = omega arith
put-le-lt true false i l l' f h = absurd (false≢true (f refl))
put-le-lt false true i l l' f h = omega arith
put-le-lt false false i l l' f h = h

from_le : (P Q : Species) → Inside P Q → (n i : ℕ) → length (from i n P) ≤ length (from i n Q)
from_le P Q f zero i = omega arith
from_le P Q f (suc n) i = put-le (P i) (Q i) i (from (suc i) n P) (from (suc i) n Q) (f i) (from_le P Q f n (suc i))

-- a proper part has fewer members
pub from-lt : (P Q : Species) → Inside P Q → (n i j : ℕ) → i ≤ j → j < i + n → So (not (P j)) → So (Q j) → length (from i n P) < length (from i n Q)
from-lt P Q f zero i j le lt p q = absurd (omega arith)
from-lt P Q f (suc n) i j le lt p q = test (eqb i j)
    (λ e. let eq = sym (eqb-true i j e) in put-lt (P i) (Q i) i (from (suc i) n P) (from (suc i) n Q)
    (subst (λ (z : ℕ). So (not (P z))) eq p) (subst (λ (z : ℕ). So (Q z)) eq q) (from_le P Q f n (suc i)))
    (λ e. let ne : i ≡ j → ⊥ = ne_e i j e in
    put-le-lt (P i) (Q i) i (from (suc i) n P) (from (suc i) n Q) (f i) (from-lt P Q f n (suc i) j (omega arith) (omega arith) p q))

-- the head of what is kept is one of them
head_from : (P : Species) (n i : ℕ) → 1 ≤ length (from i n P) → So (P (get_or (from i n P) 0 0))
head_from P zero i h = absurd (omega arith)
head_from P (suc n) i h = go (P i) (λ p. p) (λ k. head_from P n (suc i) k) h
  where
    go : (b : Bool) → (So b → So (P i)) → (1 ≤ length (from (suc i) n P) → So (P (get_or (from (suc i) n P) 0 0)))
        → 1 ≤ length (put b i (from (suc i) n P)) → So (P (get_or (put b i (from (suc i) n P)) 0 0))
    go true f r k = f refl
    go false f r k = r k

pub members_one : (N : ℕ) (S : Species) (u : ℕ) → u < N → So (S u) → 1 ≤ length (members N S)
unfolding members
members_one N S u lt hu = from_one S N 0 u (omega arith) (omega arith) hu

pub members-two : (N : ℕ) (S : Species) → Below N S → (a b : ℕ) → So (S a) → So (S b) → a ≢ b → 2 ≤ length (members N S)
unfolding members
members-two N S bd a b ha hb ne = two_from N S bd a b ha hb ne

pub members_uniq : (N : ℕ) (S : Species) → ((a b : ℕ) → So (S a) → So (S b) → a ≡ b) → length (members N S) ≤ 1
unfolding members
members_uniq N S uq = from_uniq S uq N 0

pub members-lt : (N : ℕ) (P Q : Species) → Inside P Q → (j : ℕ) → j < N → So (not (P j)) → So (Q j) → length (members N P) < length (members N Q)
unfolding members
members-lt N P Q f j lt p q = from-lt P Q f N 0 j (omega arith) (omega arith) p q

pub members_bound : (N : ℕ) (S : Species) → length (members N S) ≤ N
unfolding members
members_bound N S = from_bound S N 0

pub members_head : (N : ℕ) (S : Species) → 1 ≤ length (members N S) → So (S (get_or (members N S) 0 0))
unfolding members
members_head N S h = head_from S N 0 h

-- a higher bound adds nothing

from_above : (P : Species) (n i : ℕ) → ((j : ℕ) → So (P j) → j < i) → from i n P ≡ []
from_above P zero i h = refl
from_above P (suc n) i h = ap₂ (λ (b : Bool) (l : List ℕ). put b i l) (not-true (P i) (not_i (P i) (λ q. omega (arith, h i q)))) (from_above P n (suc i) (λ j q. omega (arith, h j q)))

from_more : (P : Species) (n m i : ℕ) → n ≤ m → ((j : ℕ) → So (P j) → j < i + n) → from i m P ≡ from i n P
from_more P zero m i le h = from_above P m i (λ j q. omega (arith, h j q))
from_more P (suc n) zero i le h = absurd (omega arith)
from_more P (suc n) (suc m) i le h = ap (λ (l : List ℕ). put (P i) i l) (from_more P n m (suc i) (omega arith) (λ j q. omega (arith, h j q)))

pub members_more : (n m : ℕ) (S : Species) → n ≤ m → Below n S → members m S ≡ members n S
unfolding members
members_more n m S le bd = from_more S n m 0 le (λ j q. omega (arith, bd j q))
