-- The walks over the nodes, step by step and what they find; a fault is answered exactly when the nodes are not good. Assumes nothing.
use mathlib.Core.Bool.{Bool, So, ◌&&◌, cond, false, false≢true, not, true}
use mathlib.Core.Logic.{◌↔◌}
use mathlib.Core.Path.{◌∙◌, ◌≡◌, ap, refl, subst, sym}
use Prim.Native.Nat.{◌+◌, ◌-◌, ◌<◌, ◌≤◌, suc, zero, ℕ}
use native.Mathlib.Numerals.{add-one}
use native.Mathlib.Omega.{arith}
use borrow.Author.Tests.{eq-eqb, eqb-false, eqb-true, le-ltb, lt-ltb, ltb-false, ltb-true, ne_eqb, not-false, not-true}
use lib.Dec.{eqb, eqb-suc-zero, ltb}
use lib.ListN.{length}
use Rattle.sets.proofs.Bools.{and_i, and_l, and_r, ne_e, test}
use Rattle.rules.specs.Faults.{earlier, fault, first_break, node_fault, or_else, parent_fault, right_species, seen}
use Rattle.bodies.specs.Nodes.{Good, Nodes, children_among, children}
use Rattle.bodies.specs.declared.Broken.{Broken}
use Rattle.std.specs.Prelude.{Ok, Err, Result}

-- ---- one step of each walk over the nodes j to c - 1

left : (c j : ℕ) → j < c → c - j ≡ suc (c - (j + 1))
left c j h = omega arith

none : (c j : ℕ) → c ≤ j → c - j ≡ 0
none c j h = omega arith

pub among_hit : (v : Nodes) (i c j : ℕ) → j < c → v.parent j ≡ i → length (children_among v i (c - j) j) ≡ suc (length (children_among v i (c - (j + 1)) (j + 1)))
among_hit v i c j h e = rw (left c j h, eq-eqb _ _ e, add-one j) refl

pub among_miss : (v : Nodes) (i c j : ℕ) → j < c → (v.parent j ≡ i → ⊥) → length (children_among v i (c - j) j) ≡ length (children_among v i (c - (j + 1)) (j + 1))
among_miss v i c j h e = rw (left c j h, ne_eqb _ _ e, add-one j) refl

-- node j is a leaf with species s
abbrev pub leaf_of : Nodes → ℕ → ℕ → Bool
leaf_of v s j = eqb (v.species j) s && eqb (length (children v j)) 0

leaf_i : (v : Nodes) (s j : ℕ) → v.species j ≡ s → length (children v j) ≡ 0 → So (leaf_of v s j)
leaf_i v s j e z = and_i _ _ (eq-eqb _ _ e) (eq-eqb _ _ z)

leaf_e : (v : Nodes) (s j : ℕ) → So (leaf_of v s j) → (v.species j ≡ s) × (length (children v j) ≡ 0)
leaf_e v s j h = (eqb-true _ _ (and_l _ _ h), eqb-true _ _ (and_r (eqb (v.species j) s) _ h))

pub seen_hit : (v : Nodes) (s c j : ℕ) → j < c → So (leaf_of v s j) → seen v s (c - j) j ≡ j
unfolding seen
seen_hit v s c j h e = rw (left c j h, e) refl

pub seen_miss : (v : Nodes) (s c j : ℕ) → j < c → leaf_of v s j ≡ false → seen v s (c - j) j ≡ seen v s (c - (j + 1)) (j + 1)
unfolding seen
seen_miss v s c j h e = rw (left c j h, e, add-one j) refl

pub seen_end : (v : Nodes) (s c j : ℕ) → c ≤ j → seen v s (c - j) j ≡ j
unfolding seen
seen_end v s c j h = rw (none c j h) refl

-- the same from what is known of node j: it is a leaf with species s, it has another species, or it has children
pub seen_here : (v : Nodes) (s c j : ℕ) → j < c → v.species j ≡ s → length (children v j) ≡ 0 → seen v s (c - j) j ≡ j
seen_here v s c j h e z = seen_hit v s c j h (leaf_i v s j e z)

pub seen_other : (v : Nodes) (s c j : ℕ) → j < c → (v.species j ≡ s → ⊥) → seen v s (c - j) j ≡ seen v s (c - (j + 1)) (j + 1)
seen_other v s c j h e = seen_miss v s c j h (rw (ne_eqb _ _ e) refl)

pub seen_inner : (v : Nodes) (s c j : ℕ) → j < c → (length (children v j) ≡ 0 → ⊥) → seen v s (c - j) j ≡ seen v s (c - (j + 1)) (j + 1)
seen_inner v s c j h z = test (eqb (v.species j) s)
    (λ e. seen_miss v s c j h (rw (e, ne_eqb _ _ z) refl))
    (λ e. seen_other v s c j h (ne_e _ _ e))

pub first_stop : (f : ℕ → Result (Unit {0}) Broken) (c i : ℕ) (b : Broken) → i < c → f i ≡ Err b → first_break f (c - i) i ≡ Err b
unfolding first_break
first_stop f c i b h e = rw (left c i h, e) refl

pub first_on : (f : ℕ → Result (Unit {0}) Broken) (c i : ℕ) → i < c → f i ≡ Ok tt → first_break f (c - i) i ≡ first_break f (c - (i + 1)) (i + 1)
unfolding first_break
first_on f c i h e = rw (left c i h, e, add-one i) refl

pub first_end : (f : ℕ → Result (Unit {0}) Broken) (c i : ℕ) → c ≤ i → first_break f (c - i) i ≡ Ok tt
unfolding first_break
first_end f c i h = rw (none c i h) refl

-- ---- what each walk finds

-- where the walk stops early, there is a leaf with species s ..
pub seen_leaf : (v : Nodes) (s m j : ℕ) → seen v s m j < j + m → So (leaf_of v s (seen v s m j))
unfolding seen
seen_leaf v s zero j h = absurd (omega arith)
seen_leaf v s (suc m) j h = go (leaf_of v s j) refl (seen_leaf v s m (suc j)) h
  where
    go : (b : Bool) → leaf_of v s j ≡ b → (seen v s m (suc j) < suc j + m → So (leaf_of v s (seen v s m (suc j))))
        → cond b j (seen v s m (suc j)) < j + suc m → So (leaf_of v s (cond b j (seen v s m (suc j))))
    go true e ih h = e
    go false e ih h = ih (omega arith)

-- .. and none before it
pub seen-least : (v : Nodes) (s m j x : ℕ) → j ≤ x → x < j + m → So (leaf_of v s x) → seen v s m j ≤ x
unfolding seen
seen-least v s zero j x l h p = absurd (omega arith)
seen-least v s (suc m) j x l h p = go (leaf_of v s j) refl (λ l h. seen-least v s m (suc j) x l h p)
  where
    go : (b : Bool) → leaf_of v s j ≡ b → (suc j ≤ x → x < suc j + m → seen v s m (suc j) ≤ x) → cond b j (seen v s m (suc j)) ≤ x
    go true e ih = l
    go false e ih = test (eqb j x)
        (λ q. absurd (false≢true (sym e ∙ subst (λ (y : ℕ). So (leaf_of v s y)) (sym (eqb-true j x q)) p)))
        (λ q. let ne : j ≡ x → ⊥ = ne_e j x q in ih (omega arith) (omega arith))

or_fine : (a b : Result (Unit {0}) Broken) → or_else a b ≡ Ok tt → (a ≡ Ok tt) × (b ≡ Ok tt)
or_fine (Ok _) b h = (refl, h)
or_fine (Err x) b h = let z : ◌≡◌ {A = ℕ} 0 1 = cc in absurd (omega arith)

-- a walk is fine exactly when each node on it is
pub first_fine : (f : ℕ → Result (Unit {0}) Broken) (m i : ℕ) → first_break f m i ≡ Ok tt → (j : ℕ) → i ≤ j → j < i + m → f j ≡ Ok tt
unfolding first_break
first_fine f zero i h j l lt = absurd (omega arith)
first_fine f (suc m) i h j l lt =
    let p = or_fine (f i) (first_break f m (suc i)) h in
    test (eqb i j)
    (λ e. ap f (sym (eqb-true i j e)) ∙ p.0)
    (λ e. let ne : i ≡ j → ⊥ = ne_e i j e in first_fine f m (suc i) p.1 j (omega arith) (omega arith))

pub fine_first : (f : ℕ → Result (Unit {0}) Broken) (m i : ℕ) → ((j : ℕ) → i ≤ j → j < i + m → f j ≡ Ok tt) → first_break f m i ≡ Ok tt
unfolding first_break
fine_first f zero i h = refl
fine_first f (suc m) i h = rw (h i (omega arith) (omega arith)) (fine_first f m (suc i) (λ j l lt. h j (omega arith) (omega arith)))

-- ---- no fault exactly when good

both : (b : Bool) (w : Result (Unit {0}) Broken) (x : Broken) → cond b w (Err x) ≡ Ok tt → (b ≡ true) × (w ≡ Ok tt)
both true w x h = (refl, h)
both false w x h = let z : ◌≡◌ {A = ℕ} 0 1 = cc in absurd (omega arith)

-- a rule that is not broken, and the rules behind it
past : (b : Bool) (x : Broken) (w : Result (Unit {0}) Broken) → cond b (Err x) w ≡ Ok tt → (b ≡ false) × (w ≡ Ok tt)
past false x w h = (refl, h)
past true x w h = let z : ◌≡◌ {A = ℕ} 0 1 = cc in absurd (omega arith)

-- a node whose parent is right, and one that breaks no other rule
record Hung (v : Nodes) (i : ℕ) : Type 0 where
  root : i ≡ 0 → v.parent 0 ≡ 255
  later : 0 < i → v.parent i < i

record Kept (n : ℕ) (v : Nodes) (i : ℕ) : Type 0 where
  inner : 0 < length (children v i) → v.species i ≡ 255
  two : 0 < length (children v i) → 2 ≤ length (children v i)
  outer : length (children v i) ≡ 0 → v.species i < n
  once : length (children v i) ≡ 0 → (j : ℕ) → j < i → length (children v j) ≡ 0 → v.species j ≡ v.species i → ⊥

module _ (k n : ℕ) (v : Nodes) where
  fine_hung : (i : ℕ) → parent_fault k v i ≡ Ok tt → Hung v i
  fine_hung zero h = record { root = λ e. eqb-true _ _ (both _ (Ok tt) _ h).0; later = λ l. absurd (omega arith) }
  fine_hung (suc i) h = record { root = λ e. absurd (omega arith); later = λ l. ltb-true _ _ (both _ (Ok tt) _ (rw (eqb-suc-zero i) at h)).0 }

  hung_fine : (i : ℕ) → Hung v i → parent_fault k v i ≡ Ok tt
  hung_fine zero g = rw (eq-eqb _ _ (g.root refl)) refl
  hung_fine (suc i) g = rw (eqb-suc-zero i, lt-ltb _ _ (g.later (omega arith))) refl

  fine_kept : (i : ℕ) → node_fault k v n i ≡ Ok tt → Kept n v i
  fine_kept i h =
      let a = past (not (right_species n (v.species i) (length (children v i)))) _ _ h in
      let b = past (ltb (earlier v (v.species i) (length (children v i)) i) i) _ _ a.1 in
      test (eqb (length (children v i)) 0) (leaf (not-false _ a.0) b.0) (inner (not-false _ a.0) (past (eqb (length (children v i)) 1) _ _ b.1).0)
    where
      leaf : So (right_species n (v.species i) (length (children v i))) → ltb (earlier v (v.species i) (length (children v i)) i) i ≡ false
          → So (eqb (length (children v i)) 0) → Kept n v i
      leaf a b e =
          let z = eqb-true (length (children v i)) 0 e in
          let q : i ≤ seen v (v.species i) i 0 = ltb-false _ _ (rw e at b) in
          record {
            inner = λ l. absurd (omega arith);
            two = λ l. absurd (omega arith);
            outer = λ l. ltb-true _ _ (rw e at a);
            once = λ l j lt m s. omega (arith, seen-least v (v.species i) i 0 j (omega arith) (omega arith) (leaf_i v (v.species i) j s m));
          }

      inner : So (right_species n (v.species i) (length (children v i))) → eqb (length (children v i)) 1 ≡ false → So (not (eqb (length (children v i)) 0)) → Kept n v i
      inner a b e =
          let z = ne_e (length (children v i)) 0 e in
          let q = eqb-false (length (children v i)) 1 b in
          record {
            inner = λ l. eqb-true _ _ (rw (not-true (eqb (length (children v i)) 0) e) at a);
            two = λ l. omega (arith, z, q);
            outer = λ l. absurd (z l);
            once = λ l. absurd (z l);
          }

  kept_fine : (i : ℕ) → Kept n v i → node_fault k v n i ≡ Ok tt
  kept_fine i g = test (eqb (length (children v i)) 0) leaf inner
    where
      fresh : length (children v i) ≡ 0 → i ≤ seen v (v.species i) i 0
      fresh z = test (ltb (seen v (v.species i) i 0) i)
          (λ l. let j = seen v (v.species i) i 0 in
          let lt = ltb-true j i l in
          let p = leaf_e v (v.species i) j (seen_leaf v (v.species i) i 0 (omega arith)) in
          absurd (g.once z j lt p.1 p.0))
          (λ l. ltb-false (seen v (v.species i) i 0) i (not-true (ltb (seen v (v.species i) i 0) i) l))

      leaf : So (eqb (length (children v i)) 0) → node_fault k v n i ≡ Ok tt
      leaf e =
          let z = eqb-true (length (children v i)) 0 e in
          rw (e, lt-ltb _ _ (g.outer z), le-ltb _ _ (fresh z), z) refl

      inner : So (not (eqb (length (children v i)) 0)) → node_fault k v n i ≡ Ok tt
      inner e =
          let z = ne_e (length (children v i)) 0 e in
          let l : 0 < length (children v i) = omega (arith, z) in
          let q : length (children v i) ≡ 1 → ⊥ = λ w. omega (arith, g.two l) in
          rw (not-true (eqb (length (children v i)) 0) e, eq-eqb _ _ (g.inner l), le-ltb i i (omega arith), ne_eqb _ _ q) refl

  fine_good : fault k v n ≡ Ok tt → Good n v
  unfolding fault
  fine_good h =
      let p = or_fine (first_break (parent_fault k v) v.count 0) (first_break (node_fault k v n) v.count 0) h in
      let hung : (i : ℕ) → i < v.count → Hung v i = λ i l. fine_hung i (first_fine (parent_fault k v) v.count 0 p.0 i (omega arith) (omega arith)) in
      let kept : (i : ℕ) → i < v.count → Kept n v i = λ i l. fine_kept i (first_fine (node_fault k v n) v.count 0 p.1 i (omega arith) (omega arith)) in
      record {
        root = λ l. (hung 0 l).root refl;
        later = λ i l lt. (hung i lt).later l;
        inner = λ i l. (kept i l).inner;
        two = λ i l. (kept i l).two;
        outer = λ i l. (kept i l).outer;
        once = λ i j l lt p q e. (kept j lt).once q i l p e;
      }

  good_fine : Good n v → fault k v n ≡ Ok tt
  unfolding fault
  good_fine g =
      rw (fine_first (parent_fault k v) v.count 0 (λ i l lt. hung_fine i (record { root = λ e. g.root (omega arith); later = λ l. g.later i l (omega arith) })))
      (fine_first (node_fault k v n) v.count 0 (λ i l lt. kept_fine i (record {
        inner = g.inner i (omega arith);
        two = g.two i (omega arith);
        outer = g.outer i (omega arith);
        once = λ q j l p e. g.once j i l (omega arith) p q e;
      })))

-- a fault is answered exactly when the nodes are not good
pub no_fault : (k n : ℕ) (v : Nodes) → (fault k v n ≡ Ok tt) ↔ Good n v
no_fault k n v = (fine_good k n v, good_fine k n v)
