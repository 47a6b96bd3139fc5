-- A body with its two length bytes, laid into the store. Assumes nothing.
use mathlib.Core.List.{List, [], ◌∷◌, ◌++◌, append_assoc, append-nil}
use mathlib.Core.Path.{◌∙◌, ◌≡◌, ap, refl, sym}
use Prim.Native.Nat.{ℕ, suc, ◌+◌, ◌-◌, ◌<◌, ◌≤◌}
use native.Mathlib.Numerals.{add-one}
use native.Mathlib.Omega.{arith}
use lib.ListN.{drop, drop_of_length-le, length, length-drop, length-set, set, take}
use lib.Seq.{drop_at, drop-drop, length-take-le, set_comm, sets, sets-eq, take_all, take_at}
use Rattle.bodies.specs.Nodes.{longest}
use Rattle.papers.specs.Bundled.{with_length}

-- the part of o from place f on, as it is lent, and o when it is back with a in its place
abbrev pub part_of : List ℕ → ℕ → List ℕ
part_of o f = take (length o - f) (drop f o)

abbrev pub back_in : List ℕ → ℕ → List ℕ → List ℕ
back_in o f a = take f o ++ (a ++ drop (length o - f) (drop f o))

part_is : (o : List ℕ) (f : ℕ) → part_of o f ≡ drop f o
part_is o f = take_all (length o - f) (drop f o) (omega (arith, length-drop f o))

pub part_long : (o : List ℕ) (p : ℕ) → p + 2 + longest ≤ length o → longest ≤ length (part_of o (p + 2))
part_long o p h = let e = ap length (part_is o (p + 2)) in omega (arith, length-drop (p + 2) o)

front_sets : (o b : List ℕ) → length b ≤ length o → sets o 0 b ≡ b ++ drop (length b) o
front_sets o b h = let z : 0 + length b ≡ length b = omega arith in sets-eq b o 0 (omega arith) ∙ ap (λ (k : ℕ). b ++ drop k o) z

pub back_sets : (o b : List ℕ) (f : ℕ) → f + length b ≤ length o → back_in o f (sets (part_of o f) 0 b) ≡ sets o f b
back_sets o b f h =
    let z : drop (length o - f) (drop f o) ≡ [] = drop_of_length-le (drop f o) {i = length o - f} (omega (arith, length-drop f o)) in
    ap (λ (x : List ℕ). take f o ++ (sets (part_of o f) 0 b ++ x)) z
    ∙ ap (λ (x : List ℕ). take f o ++ x) (append-nil (sets (part_of o f) 0 b) ∙ ap (λ (x : List ℕ). sets x 0 b) (part_is o f) ∙ front_sets (drop f o) b (omega (arith, length-drop f o)))
    ∙ ap (λ (x : List ℕ). take f o ++ (b ++ x)) (drop-drop (length b) f o)
    ∙ sym (append_assoc (take f o) b (drop (f + length b) o)) ∙ sym (sets-eq b o f h)

-- a byte before a run of stores may be stored behind it
set_sets : (b o : List ℕ) (i j v : ℕ) → j < i → set (sets o i b) j v ≡ sets (set o j v) i b
set_sets [] o i j v h = refl
set_sets (x ∷ b) o i j v h = set_sets b (set o i x) (suc i) j v (omega arith) ∙ ap (λ (l : List ℕ). sets l (suc i) b) (set_comm o i j x v (λ e. omega arith))

-- the two length bytes may be stored behind the body
pub with_length_lem : (o b : List ℕ) (p : ℕ) → set (set (sets o (p + 2) b) p 0) (p + 1) (length b) ≡ sets o p (with_length b)
with_length_lem o b p =
    let q : p + 2 ≡ suc (suc p) = omega arith in
    rw (q, add-one p) (ap (λ (l : List ℕ). set l (suc p) (length b)) (set_sets b o (suc (suc p)) p 0 (omega arith)) ∙ set_sets b (set o p 0) (suc (suc p)) (suc p) (length b) (omega arith))

-- where the body then lies
pub laid_body : (o b : List ℕ) (p : ℕ) → p + 2 + length b ≤ length o → take (length b) (drop (p + 2) (sets o p (with_length b))) ≡ b
laid_body o b p h =
    let u = set (set o p 0) (suc p) (length b) in
    let n : length u ≡ length o = length-set (set o p 0) (suc p) (length b) ∙ length-set o p 0 in
    let q : p + 2 ≡ suc (suc p) = omega arith in
    let k : length (take (suc (suc p)) u) ≡ p + 2 = length-take-le (suc (suc p)) u (omega arith) ∙ sym q in
    let rest = drop (suc (suc p) + length b) u in
    ap (λ (l : List ℕ). take (length b) (drop (p + 2) l)) (sets-eq b u (suc (suc p)) (omega arith) ∙ append_assoc (take (suc (suc p)) u) b rest)
    ∙ ap (take (length b)) (drop_at (take (suc (suc p)) u) (b ++ rest) (p + 2) k)
    ∙ take_at b rest (length b) refl
