-- The core of two species: the chain of sets that leads to it, step by step, and where found cores are kept. Assumes nothing.
use mathlib.Core.Bool.{Bool, So, ◌&&◌, ◌||◌}
use mathlib.Core.List.{List}
use mathlib.Core.Logic.{◌≢◌}
use mathlib.Core.Path.{◌∙◌, ◌≡◌, ap, ap₂, fun_ext, subst, sym}
use Prim.Native.Nat.{◌*◌, ◌+◌, ◌<◌, ◌^◌, suc, ℕ}
use native.Mathlib.Decide.{ℕ_discrete}
use native.Mathlib.Omega.{arith}
use lib.ListN.{length-replicate, length-set, replicate, set}
use lib.Seq.{get_or-set_other, get_or-set_same}
use Rattle.sets.proofs.Bools.{and_i, and_r, bool_ext}
use Rattle.sets.proofs.Digits.{digit_lt, digit-meet}
use Rattle.sets.proofs.Tests.{has-below, has_meet, has-union}
use Rattle.sets.proofs.Zeros.{zero-at}
use Rattle.sets.specs.Sets.{Subset, has, meet, union}
use Rattle.sets.specs.Species.{Species}
use Rattle.trees.proofs.Chain.{pair_a, pair_c, pair_in}
use Rattle.trees.proofs.Core.{core_stays}
use Rattle.trees.specs.Check.{core, pair}
use Rattle.trees.specs.Links.{part}
use Rattle.trees.specs.Triplets.{Proper, Triplets}
use Rattle.groups.specs.Groups.{cell, cells}
use Rattle.pi.specs.Cores.{IsCore, Memo}

-- ---- one step

pub pair-number : (E : Triplets) → Proper E → (s a c p q : ℕ) → s < 2 ^ 64 → So (has s a) → So (has s c) → has p ≡ part E 64 (has s) a → has q ≡ part E 64 (has s) c
    → has (meet s (union p q)) ≡ pair E 64 (has s) a c
pair-number E pr s a c p q l ha hc e f = fun_ext (λ x.
    let P : Species = pair E 64 (has s) a c in
    has_meet s (union p q) x
    ∙ ap (λ (z : Bool). has s x && z) (has-union p q x ∙ ap₂ (λ (y z : Species). y x || z x) e f)
    ∙ bool_ext (has s x && P x) (P x) (λ h. and_r (has s x) _ h) (λ h. and_i (has s x) _ (pair_in E 64 pr (has s) (has-below 64 s l) a c ha hc x h) h))

pub pair_inside : (s p r : ℕ) → r ≡ meet s p → Subset r s
pair_inside s p r e i h = let z = digit-meet s p i in omega (arith, rw e at h, digit_lt p i, digit_lt s i)

-- ---- the chain

-- the chain of a and c in s came to x, and y is next
pub record Chain (E : Triplets) (s a c x y : ℕ) : Type 0 where
  pub done : ℕ
  pub left : (k : ℕ) → core E 64 (done + k) (has s) a c ≡ core E 64 k (has x) a c
  pub next : has y ≡ pair E 64 (has x) a c
  pub in_a : So (has x a)
  pub in_c : So (has x c)

pub chain_start : (E : Triplets) (s a c y : ℕ) → So (has s a) → So (has s c) → has y ≡ pair E 64 (has s) a c → Chain E s a c s y
chain_start E s a c y ha hc e = record { done = 0; left = λ k. let z : 0 + k ≡ k = omega arith in ap (λ (m : ℕ). core E 64 m (has s) a c) z; next = e; in_a = ha; in_c = hc }

module _ (E : Triplets) (pr : Proper E) (s a c x y : ℕ) (l : x < 2 ^ 64) (h : Chain E s a c x y) where
  pub next_a : So (has y a)
  next_a = ap (λ (Z : Species). Z a) h.next ∙ pair_a E 64 pr (has x) (has-below 64 x l) a c h.in_a h.in_c

  pub next_c : So (has y c)
  next_c = ap (λ (Z : Species). Z c) h.next ∙ pair_c E 64 pr (has x) (has-below 64 x l) a c h.in_a h.in_c

  pub chain_next : (z : ℕ) → has z ≡ pair E 64 (has y) a c → Chain E s a c y z
  chain_next z e = record {
    done = suc h.done;
    left = λ k.
        let i : suc h.done + k ≡ h.done + suc k = omega arith in
        ap (λ (m : ℕ). core E 64 m (has s) a c) i ∙ h.left (suc k) ∙ ap (λ (Z : Species). core E 64 k Z a c) (sym h.next);
    next = e;
    in_a = next_a;
    in_c = next_c;
  }

pub chain_end : (E : Triplets) (s a c x y : ℕ) → y ≡ x → Chain E s a c x y → (j : ℕ) × ((k : ℕ) → has x ≡ core E 64 (j + k) (has s) a c)
chain_end E s a c x y e h = (h.done, λ k. sym (h.left k ∙ core_stays E 64 a c (has x) (sym h.next ∙ ap has e) k))

-- ---- what is kept

pub memo_none : (E : Triplets) (meets : List ℕ) → Memo E meets (replicate cells 0)
memo_none E meets = record { size = length-replicate {A = ℕ} cells 0; known = λ a c _ _ n. absurd (n (zero-at cells (a * 64 + c))) }

pub memo_store : (E : Triplets) (meets cores : List ℕ) (a c x : ℕ) → a < 64 → c < 64 → IsCore E (cell meets a c) a c x → Memo E meets cores → Memo E meets (set cores (a * 64 + c) x)
memo_store E meets cores a c x ha hc k m = record {
  size = length-set cores (a * 64 + c) x ∙ m.size;
  known = λ b d hb hd n. go b d hb hd n (ℕ_discrete b a) (ℕ_discrete d c);
}
  where
    same : cell (set cores (a * 64 + c) x) a c ≡ x
    same = get_or-set_same cores (a * 64 + c) x 0 (omega (arith, m.size))

    other : (b d : ℕ) → b * 64 + d ≢ a * 64 + c → b < 64 → d < 64 → cell (set cores (a * 64 + c) x) b d ≢ 0 → IsCore E (cell meets b d) b d (cell (set cores (a * 64 + c) x) b d)
    other b d ne hb hd n = let e = get_or-set_other cores (a * 64 + c) (b * 64 + d) x 0 ne in
        subst (IsCore E (cell meets b d) b d) (sym e) (m.known b d hb hd (λ z. n (e ∙ z)))

    go : (b d : ℕ) → b < 64 → d < 64 → cell (set cores (a * 64 + c) x) b d ≢ 0 → Dec (b ≡ a) → Dec (d ≡ c) → IsCore E (cell meets b d) b d (cell (set cores (a * 64 + c) x) b d)
    go b d hb hd n (yes p) (yes q) = rw (p, q) (subst (IsCore E (cell meets a c) a c) (sym same) k)
    go b d hb hd n (yes p) (no q) = other b d (λ e. q (omega arith)) hb hd n
    go b d hb hd n (no p) q = other b d (λ e. p (omega arith)) hb hd n
