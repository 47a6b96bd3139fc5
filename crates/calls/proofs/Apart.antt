-- The bytes of a call say where it ends, and which call it is. Assumes nothing.
use mathlib.Core.List.{List, [], ◌∷◌, ◌++◌, append_assoc}
use mathlib.Core.Path.{◌∙◌, ◌≡◌, ap, ap₂, refl, subst, sym}
use Prim.Native.Nat.{ℕ, zero, suc, ◌*◌, ◌<◌}
use lib.ListN.{drop, get_or, length, take}
use lib.Seq.{drop_at, take_at}
use Rattle.calls.specs.Calls.{CallBytes, FieldBytes, FieldsBytes, HeadBytes, ItemBytes, NumberBytes, Then}
use Rattle.shapes.specs.Shapes.{shape}
use Rattle.shapes.specs.declared.Shape.{Shape}
use Rattle.std.specs.Prelude.{Some}
use Rattle.shapes.specs.Numbers.{eight_at, four_at}

-- two fronts of one list that are equally long are the same
split : (p q u v : List ℕ) → length p ≡ length q → p ++ u ≡ q ++ v → (p ≡ q) × (u ≡ v)
split p q u v l e = (
  sym (take_at p u (length p) refl) ∙ ap (λ (s : List ℕ). take (length p) s) e ∙ take_at q v (length p) (sym l),
  sym (drop_at p u (length p) refl) ∙ ap (λ (s : List ℕ). drop (length p) s) e ∙ drop_at q v (length p) (sym l),
)

items_apart : (item : ℕ) (x x' t t' u u' : List ℕ) → ItemBytes item x t → ItemBytes item x' t' → t ++ u ≡ t' ++ u' → (x ≡ x') × (u ≡ u')
items_apart item x x' t t' u u' f g e =
    let d = sym (append_assoc f.count x u) ∙ ap (λ (s : List ℕ). s ++ u) (sym f.same) ∙ e ∙ ap (λ (s : List ℕ). s ++ u') g.same ∙ append_assoc g.count x' u' in
    let c = split f.count g.count (x ++ u) (x' ++ u') (f.is_count.0 ∙ sym g.is_count.0) d in
    let n = f.is_count.1 ∙ ap (λ (s : List ℕ). four_at s 0) c.0 ∙ sym g.is_count.1 in
    split x x' u u' (f.long ∙ ap (λ (m : ℕ). item * m) n ∙ sym g.long) c.1

field_apart : (item : ℕ) (x x' t t' u u' : List ℕ) → FieldBytes item x t → FieldBytes item x' t' → t ++ u ≡ t' ++ u' → (x ≡ x') × (u ≡ u')
field_apart zero x x' t t' u u' f g e = (f.0 ∙ sym g.0, ap (λ (s : List ℕ). s ++ u) (sym f.1) ∙ e ∙ ap (λ (s : List ℕ). s ++ u') g.1)
field_apart (suc item) x x' t t' u u' f g e = items_apart (suc item) x x' t t' u u' f g e

-- what stands behind the one stands behind the other
then_order : {P Q : List ℕ → Type 0} {t : List ℕ} (f : Then P Q t) (u : List ℕ) → t ++ u ≡ f.front ++ (f.back ++ u)
then_order f u = ap (λ (s : List ℕ). s ++ u) f.same ∙ append_assoc f.front f.back u

fields_apart : (sizes : List ℕ) (xs xs' : List (List ℕ)) (t t' u u' : List ℕ) → FieldsBytes sizes xs t → FieldsBytes sizes xs' t' → t ++ u ≡ t' ++ u' → (xs ≡ xs') × (u ≡ u')
fields_apart [] [] [] t t' u u' f g e = (refl, ap (λ (s : List ℕ). s ++ u) (sym f) ∙ e ∙ ap (λ (s : List ℕ). s ++ u') g)
fields_apart [] [] (x' ∷ xs') t t' u u' f g e = absurd g
fields_apart [] (x ∷ xs) xs' t t' u u' f g e = absurd f
fields_apart (item ∷ sizes) [] xs' t t' u u' f g e = absurd f
fields_apart (item ∷ sizes) (x ∷ xs) [] t t' u u' f g e = absurd g
fields_apart (item ∷ sizes) (x ∷ xs) (x' ∷ xs') t t' u u' f g e =
    let a = field_apart item x x' f.front g.front (f.back ++ u) (g.back ++ u') f.is_front g.is_front (sym (then_order f u) ∙ e ∙ then_order g u') in
    let b = fields_apart sizes xs xs' f.back g.back u u' f.is_back g.is_back a.1 in
    (ap₂ (λ (y : List ℕ) (ys : List (List ℕ)). y ∷ ys) a.0 b.0, b.1)

head_apart : (s s' : Shape) (k k' : ℕ) (ns ns' t t' u u' : List ℕ) → HeadBytes s k ns t → HeadBytes s' k' ns' t' → t ++ u ≡ t' ++ u' → (k ≡ k') × (s ≡ s') × ((j : ℕ) → j < s.numbers → get_or ns j 0 ≡ get_or ns' j 0) × (u ≡ u')
head_apart s s' k k' ns ns' t t' u u' f g e =
    let d = ap (λ (s : List ℕ). s ++ u) (sym f.same) ∙ e ∙ ap (λ (s : List ℕ). s ++ u') g.same in
    let h = ap (λ (s : List ℕ). get_or s 0 0) d in
    let v : s ≡ s' = let x = f.known in let y = g.known in cc in
    let n = subst (λ (z : Shape). NumberBytes z.numbers ns' g.numbers) (sym v) g.are_numbers in
    let a = split f.numbers g.numbers u u' (f.are_numbers.0 ∙ sym n.0) (ap (λ (s : List ℕ). drop 1 s) d) in
    (h, v, λ j i. f.are_numbers.1 j i ∙ ap (λ (s : List ℕ). eight_at s (8 * j)) a.0 ∙ sym (n.1 j i), a.1)

-- where two calls begin with the same bytes, whatever follows them, they are the same, and the same follows
pub calls_apart : (k k' : ℕ) (ns ns' : List ℕ) (xs xs' : List (List ℕ)) (t t' u u' : List ℕ) → CallBytes k ns xs t → CallBytes k' ns' xs' t' → t ++ u ≡ t' ++ u' → (k ≡ k') × ((s : Shape) → shape k ≡ Some s → (j : ℕ) → j < s.numbers → get_or ns j 0 ≡ get_or ns' j 0) × (xs ≡ xs') × (u ≡ u')
calls_apart k k' ns ns' xs xs' t t' u u' p q e =
    let f = p.bytes in
    let g = q.bytes in
    let a = head_apart p.s q.s k k' ns ns' f.front g.front (f.back ++ u) (g.back ++ u') f.is_front g.is_front (sym (then_order f u) ∙ e ∙ then_order g u') in
    let h = subst (λ (z : Shape). FieldsBytes z.items xs' g.back) (sym a.1) g.is_back in
    let b = fields_apart p.s.items xs xs' f.back g.back u u' f.is_back h a.3 in
    (a.0, λ s w j i. a.2 j (let v : p.s ≡ s = let x = f.is_front.known in cc in rw v i), b.0, b.1)
