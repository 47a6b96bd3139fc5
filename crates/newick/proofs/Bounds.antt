-- A tree whose text the scan takes is within the limits. Assumes nothing.
use mathlib.Core.Bool.{Bool, So, cond, false, true}
use mathlib.Core.List.{List, [], ◌∷◌, ◌++◌}
use mathlib.Core.Path.{◌∙◌, ◌≡◌, ap, refl, sym}
use Prim.Native.Nat.{ℕ, suc, ◌+◌, ◌-◌, ◌*◌, ◌<◌, ◌≤◌}
use native.Mathlib.Omega.{arith}
use borrow.Author.Tests.{eqb-false, leb-true, ltb-false, not-true}
use lib.Dec.{eqb, leb}
use lib.ListN.{length}
use Rattle.sets.proofs.Bools.{and_l, and_r, or-none}
use Rattle.trees.specs.Trees.{Forest, Tree}
use Rattle.bodies.specs.Draws.{bytes, node_count}
use Rattle.bodies.specs.Nodes.{inner_bytes, most_nodes}
use Rattle.newick.specs.Form.{Form, Further, Subtrees, Number, Subtree, bracket, digit, last_one, no_further, nought, one_further, one_more, other, lone, text}
use Rattle.newick.specs.Scan.{State, act, follow, taken, number, past_limit, scan, scan_from, start, state, halt, innermost}
use Rattle.newick.specs.Signs.{sign}
use Rattle.newick.specs.Within.{Within}
use Rattle.newick.proofs.Signs.{digit-sign}
use Rattle.newick.proofs.Takes.{Room, RoomF, clear_blanks, number-digit, on, skips, start-digit, subtree_taken}

-- the reading goes well from here, with the limits kept
abbrev Taken : State → List ℕ → List ℕ → Type 0
Taken s w b = scan_from true s w ≡ taken b

-- then the next byte passes none
low : (s : State) (c : ℕ) (w b : List ℕ) → Taken s (c ∷ w) b → past_limit s (sign c) ≡ false
unfolding scan_from
low s c w b h = by (past_limit s (sign c)) refl h
  where
    by : (o : Bool) → past_limit s (sign c) ≡ o → follow (suc (length w)) (λ s'. scan_from true s' w) (cond o halt (act s (sign c))) ≡ taken b → past_limit s (sign c) ≡ false
    by true e x = absurd (let z : ◌≡◌ {A = ℕ} 0 1 = cc in omega arith)
    by false e x = e

module _ (ps : List ℕ) (n : ℕ) (d b : List ℕ) where
  first_low : (c : ℕ) (w : List ℕ) → So (digit c) → n ≤ most_nodes → Taken (state start ps n d) (c ∷ w) b → n < most_nodes
  unfolding past_limit
  first_low c w t l h = let e = eqb-false n most_nodes (sym (ap (past_limit (state start ps n d)) (digit-sign c t)) ∙ low _ c w b h) in omega arith

  further_bound : {x v : ℕ} {w r : List ℕ} → Further x v w r → 0 < x → x ≤ 254 → Taken (state (number x) ps n d) w b → v ≤ 254
  unfolding past_limit
  further_bound no_further p l h = l
  further_bound (one_further {x} {v} {b = c} {w} {r} t g) p l h =
      let o = low (state (number x) ps n d) c w b h in
      further_bound g (omega arith) (ltb-false 254 (10 * x + (c - 48)) (sym (ap (past_limit (state (number x) ps n d)) (digit-sign c t)) ∙ o))
      (sym (on true _ _ c w (λ e. o) (number-digit ps n d x c p t)) ∙ h)

  number_bound : {v : ℕ} {w r : List ℕ} → Number v w r → n ≤ most_nodes → Taken (state start ps n d) w b → (n < most_nodes) × (v ≤ 254)
  number_bound (nought {r}) l h = (first_low 48 r refl l h, omega arith)
  number_bound (other {v} {b = c} {w} {r} t z g) l h =
      let lo : 48 ≤ c = leb-true 48 c (and_l (leb 48 c) (leb c 57) t) in
      let hi : c ≤ 57 = leb-true c 57 (and_r (leb 48 c) (leb c 57) t) in
      let ne : c ≡ 48 → ⊥ = eqb-false c 48 (not-true (eqb c 48) z) in
      let o = low (state start ps n d) c w b h in
      (first_low c w t l h, further_bound g (omega arith) (omega arith) (sym (on true _ _ c w (λ e. o) (start-digit ps n d c t)) ∙ h))

  open_bound : (w : List ℕ) → length ps ≤ 63 → n ≤ most_nodes → Taken (state start ps n d) (40 ∷ w) b
      → (length ps < 63) × (n < most_nodes) × Taken (state start (n ∷ ps) (suc n) (d ++ inner_bytes (innermost ps))) w b
  unfolding act past_limit sign
  open_bound w l m h =
      let o = or-none (eqb (length ps) 63) (eqb n most_nodes) (low _ 40 w b h) in
      let p = eqb-false (length ps) 63 o.0 in
      let q = eqb-false n most_nodes o.1 in
      (omega arith, omega arith, sym (on true _ _ 40 w (λ e. low _ 40 w b h) refl) ∙ h)

mutual
  unfolding act past_limit sign

  subtree_bound : {t : Tree} {w r : List ℕ} → Subtree t w r → (ps : List ℕ) (n : ℕ) (d b : List ℕ) → length ps ≤ 63 → n ≤ most_nodes → Taken (state start ps n d) w b → Room (length ps) n t
  subtree_bound (lone a m g) ps n d b l p h =
      let k = number_bound ps n d b m p (sym (skips true _ refl refl a) ∙ h) in
      (omega arith, omega (arith, k.0), k.1)
  subtree_bound (bracket {f} {w} {u} a m g) ps n d b l p h =
      let k = open_bound ps n d b u l p (sym (skips true _ refl refl a) ∙ h) in
      let j = listed_bound m n ps (suc n) (d ++ inner_bytes (innermost ps)) b (omega (arith, k.0)) (omega (arith, k.1)) k.2 in
      (omega (arith, j.0), omega (arith, j.1), j.2)

  listed_bound : {f : Forest} {w r : List ℕ} → Subtrees f w r → (p : ℕ) (ps : List ℕ) (n : ℕ) (d b : List ℕ) → suc (length ps) ≤ 63 → n ≤ most_nodes → Taken (state start (p ∷ ps) n d) w b → RoomF (length ps) n f
  listed_bound (last_one m a) p ps n d b l q h =
      let k = subtree_bound m (p ∷ ps) n d b l q h in
      (omega (arith, k.0), omega (arith, k.1), omega (arith, k.2))
  listed_bound (one_more {t} {f} {w} {u} {x} {r} m a g) p ps n d b l q h =
      let k = subtree_bound m (p ∷ ps) n d b l q h in
      let e = subtree_taken m true (p ∷ ps) n d (λ z. k) (clear_blanks a tt) in
      let j = listed_bound g p ps (n + node_count t) (d ++ bytes t p n) b l k.1 (sym (on true _ _ 44 x (λ z. refl) refl) ∙ sym (skips true _ refl refl a) ∙ sym e.1 ∙ h) in
      (omega (arith, k.0, j.0), omega (arith, j.1), omega (arith, k.2, j.2))

pub taken_within : {t : Tree} {w : List ℕ} → Form t w → (b : List ℕ) → scan w ≡ taken b → Within t
taken_within (text m a c) b h =
    let k = subtree_bound m [] 0 [] b (omega arith) (omega arith) h in
    record { depth = omega (arith, k.0); count = omega (arith, k.1); numbers = k.2 }
