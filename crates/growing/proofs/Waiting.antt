-- The list of the sets that wait: its front is moved up, a set is read from it, and what stands behind stays. Assumes nothing.
use mathlib.Core.List.{List, ◌++◌, append_assoc}
use mathlib.Core.Path.{◌∙◌, ◌≡◌, ap, ap₂, sym}
use Prim.Native.Nat.{◌+◌, ◌<◌, ◌≤◌, ◌-◌, ℕ}
use native.Mathlib.Nat.{add-zero}
use native.Mathlib.Omega.{arith}
use lib.ListN.{get_or-append, drop, get_or, length, take}
use lib.Seq.{drop-append_seam, drop_at, drop-drop, get_or-drop, length-paste, length-sets, length-take-le, paste, sets}
use Rattle.bodies.proofs.Written.{written_behind, written_body}
use Rattle.growing.specs.Waiting.{SameFrom}

-- ---- what stays

pub same_later : {i j : ℕ} {w w' : List ℕ} → i ≤ j → SameFrom i w w' → SameFrom j w w'
same_later {i} {j} {w} {w'} h r = record { long = r.long; same = cut w' ∙ ap (drop (j - i)) r.same ∙ sym (cut w) }
  where
    cut : (l : List ℕ) → drop j l ≡ drop (j - i) (drop i l)
    cut l = let e : j ≡ i + (j - i) = omega arith in ap (λ (k : ℕ). drop k l) e ∙ sym (drop-drop (j - i) i l)

pub same_both : {i : ℕ} {u v w : List ℕ} → SameFrom i u v → SameFrom i v w → SameFrom i u w
same_both r q = record { long = q.long; same = q.same ∙ r.same }

-- the sets l were written to the front of w
pub front-written : (i : ℕ) (l w w' : List ℕ) → length l ≤ i → i ≤ 64 → length w ≡ 64 → w' ≡ sets w 0 l → SameFrom i w w'
front-written i l w w' h k n e = same_later h (record {
  long = ap length e ∙ length-sets w 0 l ∙ n;
  same = ap (drop (length l)) e ∙ written_behind w l (omega arith);
})

-- ---- the parts of one set

-- the parts l stand from place `gap` on, and end where those begin that wait in w from `free` on
pub record Lined (l : List ℕ) (gap free : ℕ) (w u : List ℕ) : Type 0 where
  pub long : length u ≡ 64
  pub ends : gap + length l ≡ free
  pub parts : drop gap u ≡ l ++ drop free w

-- they were written to the front, and moved up
pub lined : (l : List ℕ) (count gap free : ℕ) (w w' u : List ℕ) → count ≡ length l → gap + count ≡ free → free ≤ 64 → length w ≡ 64
    → w' ≡ sets w 0 l → u ≡ paste w' gap w' count → Lined l gap free w u
lined l count gap free w w' u n f h k e q =
    let s = front-written free l w w' (omega arith) h k e in
    let t : take count w' ≡ l = ap (λ (j : ℕ). take j w') n ∙ ap (take (length l)) e ∙ written_body w l (omega arith) in
    record {
      long = ap length q ∙ length-paste w' gap w' count (omega (arith, s.long)) (omega (arith, s.long)) ∙ s.long;
      ends = omega arith;
      parts = ap (drop gap) (q ∙ append_assoc (take gap w') (take count w') (drop (gap + count) w'))
          ∙ drop_at (take gap w') (take count w' ++ drop (gap + count) w') gap (length-take-le gap w' (omega (arith, s.long)))
          ∙ ap₂ ◌++◌ t (ap (λ (j : ℕ). drop j w') f ∙ s.same);
    }

-- place i is that of part k
module _ {l : List ℕ} {gap free : ℕ} {w u : List ℕ} (r : Lined l gap free w u) (v : List ℕ) (i k : ℕ) (at : i ≡ gap + k) (s : SameFrom i u v) where
  -- a part that waits is read
  pub lined_part : k < length l → get_or v i 0 ≡ get_or l k 0
  lined_part h =
      first v ∙ ap (λ (x : List ℕ). get_or x 0 0) s.same ∙ sym (first u) ∙ ap (λ (j : ℕ). get_or u j 0) at
      ∙ sym (get_or-drop gap u k 0) ∙ ap (λ (x : List ℕ). get_or x k 0) r.parts ∙ get_or-append l (drop free w) 0 k h
    where
      first : (x : List ℕ) → get_or x i 0 ≡ get_or (drop i x) 0 0
      first x = ap (λ (j : ℕ). get_or x j 0) (sym (add-zero i)) ∙ sym (get_or-drop i x 0 0)

  -- what waits behind the parts is as it was
  pub lined_above : k ≤ length l → SameFrom free w v
  lined_above h = same_both (record {
    long = r.long;
    same = ap (λ (j : ℕ). drop j u) (sym r.ends) ∙ sym (drop-drop (length l) gap u) ∙ ap (drop (length l)) r.parts ∙ drop-append_seam l (drop free w);
  }) (same_later (omega (arith, r.ends)) s)
