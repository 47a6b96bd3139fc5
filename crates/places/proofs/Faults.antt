-- Refusal 6 names a node that begins in the text, and beside 14 and 6 there is no refusal. Assumes nothing.
use mathlib.Core.Bool.{Bool, cond, false, not, true}
use mathlib.Core.List.{List}
use mathlib.Core.Path.{◌∙◌, ◌≡◌, ap, refl, subst, sym}
use Prim.Native.Nat.{ℕ, zero, suc, ◌+◌, ◌<◌, ◌≤◌}
use native.Mathlib.Omega.{arith}
use borrow.Author.Tests.{ltb-true}
use lib.Dec.{eqb, ltb}
use lib.ListN.{length}
use Rattle.trees.specs.Trees.{Tree}
use Rattle.bodies.proofs.Back.{body_length_lem}
use Rattle.bodies.specs.Draws.{body_of}
use Rattle.rules.specs.Faults.{breaks, earlier, fault, first_break, node_fault, or_else, parent_fault, right_parent, right_species, rule_fault}
use Rattle.bodies.specs.Nodes.{Nodes, children, longest, nodes}
use Rattle.bodies.specs.declared.Broken.{Broken}
use Rattle.bodies.specs.declared.Fault.TheVariants.{BadParent, BadSpecies, OnlyChild, SeenBefore}
use Rattle.answers.specs.Looks.{look_then, answered, first_refusal, refuse_if, ruled}
use Rattle.answers.specs.Looks.{Look}
use Rattle.refusals.specs.declared.Refusal.{Refusal}
use Rattle.refusals.specs.declared.Refusal.TheVariants.{BadTree, ShortRoom}
use Rattle.newick.proofs.Theorems.{takes_within}
use Rattle.newick.specs.Place.{fresh, nodes_begun}
use Rattle.newick.specs.Texts.{Readable}
use Rattle.parsing.proofs.Texts.{text_body_lem, text_fourteen, text_pass, text_looks}
use Rattle.parsing.specs.Parses.{parse_answer, parse_done, text_body}
use Rattle.places.specs.Causes.{cause_of, most_species}
use Rattle.places.specs.NodePlaces.{NodeAt, node_place}
use Rattle.places.specs.declared.Cause.TheVariants.{AtNode, AtPlace, Other}
use Rattle.places.proofs.Answers.{looks}
use Rattle.places.proofs.Counts.{nodes_begun_lem}
use Rattle.places.proofs.NodePlaces.{node_at, place_inside}
use Rattle.std.specs.Prelude.{Ok, Err, Result}

-- a rule that is broken at node i
abbrev NodeIs : ℕ → Result (Unit {0}) Broken → Type 0
NodeIs i (Ok _) = Unit {0}
NodeIs i (Err x) = x.node ≡ i

-- and at a node below m
abbrev Under : ℕ → Result (Unit {0}) Broken → Type 0
Under m (Ok _) = Unit {0}
Under m (Err x) = x.node < m

either_node : (i : ℕ) (c : Bool) (a b : Result (Unit {0}) Broken) → NodeIs i a → NodeIs i b → NodeIs i (cond c a b)
either_node i true a b h k = h
either_node i false a b h k = k

first_under : (f : ℕ → Result (Unit {0}) Broken) → ((j : ℕ) → NodeIs j (f j)) → (m k i : ℕ) → i + k ≤ m → Under m (first_break f k i)
unfolding first_break
first_under f h m zero i l = tt
first_under f h m (suc k) i l = by (f i) (h i) (first_break f k (suc i)) (first_under f h m k (suc i) (omega arith))
  where
    by : (v : Result (Unit {0}) Broken) → NodeIs i v → (w : Result (Unit {0}) Broken) → Under m w → Under m (or_else v w)
    by (Ok _) n w u = u
    by (Err x) n w u = omega arith

either-under : (m : ℕ) (v w : Result (Unit {0}) Broken) → Under m v → Under m w → Under m (or_else v w)
either-under m (Ok _) w h k = k
either-under m (Err x) w h k = h

fault-under : (k n : ℕ) (v : Nodes) → Under v.count (fault k v n)
unfolding fault
fault-under k n v =
    either-under v.count (first_break (parent_fault k v) v.count 0) (first_break (node_fault k v n) v.count 0)
    (first_under (parent_fault k v) (λ j. either_node j (right_parent v j) (Ok tt) (breaks k v j (BadParent (v.parent j))) tt refl) v.count v.count 0 (omega arith))
    (first_under (node_fault k v n) (λ j. rule_node j (v.species j) (length (children v j))) v.count v.count 0 (omega arith))
  where
    rule_node : (j s m : ℕ) → NodeIs j (rule_fault k v n s m j)
    rule_node j s m =
        either_node j (not (right_species n s m)) (breaks k v j (BadSpecies s)) _ refl
        (either_node j (ltb (earlier v s m j) j) (breaks k v j (SeenBefore (earlier v s m j))) _ refl
        (either_node j (eqb m 1) (breaks k v j OnlyChild) (Ok tt) refl tt))

-- of the looks at a text w and at its body, where they refuse with 6: the text is read, and its body judged
judged_by : (w : List ℕ) (l : ℕ) (x : Broken) (f : Look) → first_refusal (text_looks w) ≡ f → (v : Result (Unit {0}) Broken) → fault 0 (nodes (text_body w)) most_species ≡ v → (o : Bool) → ltb l (length (text_body w)) ≡ o
    → answered Ok Err (look_then f (look_then (ruled v) (look_then (refuse_if o ShortRoom) (Ok tt)))) (parse_done w) ≡ Err (BadTree x)
    → (t : Tree) × Readable w t × (ruled (fault 0 (nodes (text_body w)) most_species) ≡ Err (BadTree x))
judged_by w l x (Ok _) e (Ok _) u true q a = let z : ◌≡◌ {A = ℕ} 0 1 = cc in absurd (omega arith)
judged_by w l x (Ok _) e (Ok _) u false q a = let z : ◌≡◌ {A = ℕ} 0 1 = cc in absurd (omega arith)
judged_by w l x (Ok _) e (Err y) u o q a = let z : y ≡ x = cc in let r = (text_pass w).0 e in (r.0, r.1, ap ruled u ∙ ap (λ (b : Broken). Err (BadTree b)) z)
judged_by w l x (Err y) e v u o q a =
    let k = text_fourteen w y e in
    let i = k.1 in
    let z : ◌≡◌ {A = ℕ} 0 1 = cc in absurd (omega arith)

-- ---- of a text w that is read, and refused with 6

module _ (w : List ℕ) (l : ℕ) (x : Broken) (h : parse_answer most_species w l ≡ Err (BadTree x)) where
  -- its tree's body is judged
  judged : (t : Tree) × Readable w t × (ruled (fault 0 (nodes (text_body w)) most_species) ≡ Err (BadTree x))
  judged = judged_by w l x (first_refusal (text_looks w)) refl (fault 0 (nodes (text_body w)) most_species) refl (ltb l (length (text_body w))) refl (sym (looks w l) ∙ h)

  node_inside : x.node < nodes_begun fresh w
  node_inside =
      let j = judged in
      let e = nodes_begun_lem w (body_of j.0) ((takes_within w (body_of j.0)).1 (j.0, j.1.form, j.1.within, refl)) in
      let c : (nodes (text_body w)).count ≡ nodes_begun fresh w = ap (λ (b : List ℕ). (nodes b).count) (text_body_lem w j.0 j.1) ∙ omega (arith, e) in
      omega (arith, c, by (fault 0 (nodes (text_body w)) most_species) j.2 (fault-under 0 most_species (nodes (text_body w))))
    where
      by : (v : Result (Unit {0}) Broken) → ruled v ≡ Err (BadTree x) → Under (nodes (text_body w)).count v → x.node < (nodes (text_body w)).count
      by (Ok _) e u = let z : ◌≡◌ {A = ℕ} 0 1 = cc in absurd (omega arith)
      by (Err y) e u = let z : y ≡ x = cc in subst (λ (b : Broken). b.node < (nodes (text_body w)).count) z u

  -- the node begins at the place that is told
  pub fault-at : NodeAt fresh x.node w (node_place w x.node)
  fault-at = node_at w x.node (place_inside w fresh x.node node_inside)

-- the body of every text that is read has room in 254 bytes: there is no other refusal
pub no_other : (w : List ℕ) (x : Refusal) → parse_answer most_species w longest ≡ Err x → cause_of x ≡ Other → ⊥
no_other w x h c = by (first_refusal (text_looks w)) refl (fault 0 (nodes (text_body w)) most_species) (ltb longest (length (text_body w))) refl (sym (looks w longest) ∙ h)
  where
    short : first_refusal (text_looks w) ≡ Ok tt → length (text_body w) ≤ longest
    short e = let r = (text_pass w).0 e in omega (arith, ap length (text_body_lem w r.0 r.1), body_length_lem r.0, r.1.within.count)

    by : (f : Look) → first_refusal (text_looks w) ≡ f → (v : Result (Unit {0}) Broken) (o : Bool) → ltb longest (length (text_body w)) ≡ o
        → answered Ok Err (look_then f (look_then (ruled v) (look_then (refuse_if o ShortRoom) (Ok tt)))) (parse_done w) ≡ Err x → ⊥
    by (Ok _) e (Ok _) true q a = omega (arith, ltb-true longest (length (text_body w)) q, short e)
    by (Ok _) e (Ok _) false q a = let z : ◌≡◌ {A = ℕ} 0 1 = cc in omega arith
    by (Ok _) e (Err y) o q a = let z : BadTree y ≡ x = cc in let k : AtNode y ≡ Other = ap cause_of z ∙ c in let i : ◌≡◌ {A = ℕ} 0 1 = cc in omega arith
    by (Err y) e v o q a =
        let p = text_fourteen w y e in
        let z : y ≡ x = cc in
        let k : AtPlace p.0 ≡ Other = ap cause_of (sym p.1 ∙ z) ∙ c in
        let i : ◌≡◌ {A = ℕ} 0 1 = cc in
        omega arith
