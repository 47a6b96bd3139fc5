-- The size of a set, which is what `u64::count_ones` gives. Assumes nothing.
use Rattle.std.proofs.Common.{◌≡◌, ℕ, zero, suc, ◌+◌, ◌/◌, ◌^◌, ◌<◌, ◌≤◌, eqb, ◌≢◌, List, length, sym, refl, ap, ◌∙◌, div-one, add-one, arith, shr-shr}
use native.Mathlib.Decide.{ℕ_discrete}
use lib.Arith.{bin_ind}
use lib.Bits.{and_shr, or_shr, and_step, or_step, and_comm, or_comm}
use lib.Count.{ones, ones_step, ones-ones, ones-le}
use Rattle.sets.specs.Species.{put, from, members}
use Rattle.sets.specs.Sets.{digit, has, Has, Lacks, Subset, union, meet, minus, single, upto, size}
use Rattle.sets.proofs.Digits.{half_lt, digit_lt, digit-minus, digit_empty, ext, subset_le, meet_of_subset}
use Rattle.sets.proofs.Digits.{parts, parts-apart, single_subset, single-apart}

pub size_empty : size 0 ≡ 0
unfolding ones
size_empty = refl

pub not_empty : (s : ℕ) → 0 < size s → s ≢ 0
not_empty s h e = omega (arith, ap size e, size_empty)

pub size-zero : (s : ℕ) → size s ≡ 0 → s ≡ 0
size-zero =
    bin_ind (λ (s : ℕ). size s ≡ 0 → s ≡ 0) (λ h. refl)
    (λ s ih h. let z = ih (omega (arith, ones_step s)) in omega (arith, ones_step s))

pub size-union-meet : (s t : ℕ) → size (union s t) + size (meet s t) ≡ size s + size t
size-union-meet =
    bin_ind (λ (s : ℕ). (t : ℕ) → size (union s t) + size (meet s t) ≡ size s + size t) (λ t. omega arith)
    (λ s ih t. omega (
      arith,
      rw (or_shr s t 1) at (ones_step (union s t)),
      rw (and_shr s t 1) at (ones_step (meet s t)),
      ones_step s,
      ones_step t,
      or_step s t,
      and_step s t,
      ih (t / 2),
    ))

-- nothing in common: the sizes add
pub size-apart : (s t : ℕ) → meet s t ≡ 0 → size (union s t) ≡ size s + size t
size-apart s t h = omega (arith, size-union-meet s t, ap ones h, size_empty)

pub size-parts : (s t : ℕ) → size (meet s t) + size (minus s t) ≡ size s
size-parts s t = omega (arith, size-apart (meet s t) (minus s t) (parts-apart s t), ap ones (parts s t))

pub size-single : (i : ℕ) → size (single i) ≡ 1
unfolding ones
size-single zero = refl
size-single (suc i) =
    let e : 2 ^ suc i / 2 ≡ 2 ^ i = omega arith in
    omega (arith, rw e at (ones_step (2 ^ suc i)), size-single i)

pub size-upto : (n : ℕ) → size (upto n) ≡ n
size-upto n = ones-ones n

pub size-le : (k s : ℕ) → s < 2 ^ k → size s ≤ k
size-le k s h = ones-le k s h

-- a set that holds s has the size of s and of what it has more
pub size-over : (s t : ℕ) → Subset s t → size s + size (minus t s) ≡ size t
size-over s t h = omega (arith, size-parts t s, ap ones (and_comm t s ∙ meet_of_subset s t h))

pub size_mono : (s t : ℕ) → Subset s t → size s ≤ size t
size_mono s t h = omega (arith, size-over s t h)

-- a subset of the same size is the same set
pub size_same : (s t : ℕ) → Subset s t → size s ≡ size t → s ≡ t
size_same s t h e =
    let z = size-zero (minus t s) (omega (arith, size-over s t h)) in
    ext s t (λ i. omega (arith, ap (λ x. digit x i) z, digit-minus t s i, digit_empty i, subset_le s t h i))

-- a proper subset is smaller
pub size_proper : (s t : ℕ) → Subset s t → s ≢ t → size s < size t
size_proper s t h n = go (ℕ_discrete (size s) (size t))
  where
    go : Dec (size s ≡ size t) → size s < size t
    go (yes e) = absurd (n (size_same s t h e))
    go (no f) = omega (arith, size_mono s t h)

-- a set that has a species more is larger
pub size_more : (s t i : ℕ) → Subset s t → Lacks s i → Has t i → size s < size t
size_more s t i h n m = size_proper s t h (λ e. omega (arith, ap (λ x. digit x i) e))

pub size_with : (s i : ℕ) → Lacks s i → size (union s (single i)) ≡ size s + 1
size_with s i n = omega (arith, ap ones (or_comm s (single i)), size-apart (single i) s (single-apart s i n), size-single i)

pub size_without : (s i : ℕ) → Has s i → size (minus s (single i)) + 1 ≡ size s
size_without s i m = omega (arith, size-over (single i) s (single_subset s i m), size-single i)

-- ---- the size is the number of members

length-put : (d i : ℕ) (l : List ℕ) → d < 2 → length (put (eqb d 1) i l) ≡ d + length l
length-put zero i l h = omega arith
length-put (suc zero) i l h = omega arith
length-put (suc (suc d)) i l h = absurd (omega arith)

length_from : (n i s : ℕ) → s / 2 ^ i < 2 ^ n → length (from i n (has s)) ≡ size (s / 2 ^ i)
unfolding digit
length_from zero i s h = let z : s / 2 ^ i ≡ 0 = omega arith in sym (ap ones z ∙ size_empty)
length_from (suc n) i s h =
    let e : s / 2 ^ suc i ≡ s / 2 ^ i / 2 = sym (shr-shr s i 1 ∙ ap (λ x. s / 2 ^ x) (add-one i)) in
    length-put (digit s i) i (from (suc i) n (has s)) (digit_lt s i)
    ∙ ap (λ x. digit s i + x) (length_from n (suc i) s (rw e (half_lt n (s / 2 ^ i) h)) ∙ ap ones e) ∙ sym (ones_step (s / 2 ^ i))

pub size-members : (n s : ℕ) → s < 2 ^ n → size s ≡ length (members n (has s))
unfolding members
size-members n s h = sym (rw div-one at (length_from n 0 s (rw div-one h)))
