-- The bytes of a call, put together. Assumes nothing.
use mathlib.Core.List.{List, [], ◌∷◌, ◌++◌}
use mathlib.Core.Path.{◌∙◌, ◌≡◌, refl, sym}
use Prim.Native.Nat.{ℕ, zero, suc, ◌+◌, ◌*◌, ◌<◌, ◌≤◌, ◌/◌}
use native.Mathlib.Nat.{mul-div-le, mul-le-mul_left, le_trans}
use native.Mathlib.Omega.{arith}
use lib.ListN.{get_or, get_or-append, length}
use Rattle.std.specs.Prelude.{Some, true}
use Rattle.input.proofs.Reading.{some_both, some_none, some_took, took_both}
use Rattle.calls.specs.Calls.{CallBytes, CountBytes, FieldBytes, FieldsBytes, NumberBytes, Then, ReadCall, read_fields}
use Rattle.shapes.specs.Shapes.{shape}
use Rattle.input.specs.Inputs.{Took, TookSome, whole}
use Rattle.shapes.specs.Numbers.{eight_at}
use Rattle.calls.specs.declared.Call.{Call}
use Rattle.calls.specs.declared.Fields.{Fields}
use Rattle.shapes.specs.declared.Shape.{Shape}
use Rattle.input.specs.declared.Reader.{Reader}

-- the bytes of a number stand in the front of a list as they stand in the list
eight_front : (t u : List ℕ) (i : ℕ) → i + 8 ≤ length t → eight_at (t ++ u) i ≡ eight_at t i
eight_front t u i h = rw (
  get_or-append t u 0 i (omega arith),
  get_or-append t u 0 (i + 1) (omega arith),
  get_or-append t u 0 (i + 2) (omega arith),
  get_or-append t u 0 (i + 3) (omega arith),
  get_or-append t u 0 (i + 4) (omega arith),
  get_or-append t u 0 (i + 4 + 1) (omega arith),
  get_or-append t u 0 (i + 4 + 2) (omega arith),
  get_or-append t u 0 (i + 4 + 3) (omega arith),
) refl

each : (p q r : ℕ) (b : List ℕ) → p ≡ eight_at b 0 → q ≡ eight_at b 8 → r ≡ eight_at b 16 → (j : ℕ) → j < 3 → get_or (p ∷ q ∷ r ∷ []) j 0 ≡ eight_at b (8 * j)
each p q r b d e f zero h = d
each p q r b d e f (suc zero) h = e
each p q r b d e f (suc (suc zero)) h = f
each p q r b d e f (suc (suc (suc j))) h = absurd (omega arith)

-- the first m of three numbers
pub numbers_front : (m p q r : ℕ) (t u : List ℕ) → m ≤ 3 → length t ≡ 8 * m → p ≡ eight_at (t ++ u) 0 → q ≡ eight_at (t ++ u) 8 → r ≡ eight_at (t ++ u) 16 → NumberBytes m (p ∷ q ∷ r ∷ []) t
numbers_front m p q r t u h l d e f = (l, λ j i. each p q r (t ++ u) d e f j (omega arith) ∙ eight_front t u (8 * j) (omega arith))

-- so many items of so many bytes are no more bytes than there is room for
pub fits : (most item n : ℕ) → n ≤ most / item → item * n ≤ most
fits most item n h = le_trans (mul-le-mul_left item h) (mul-div-le most item)

items : (item n : ℕ) (x s : List ℕ) → (item ≡ 0 → ⊥) → CountBytes n s → length x ≡ item * n → FieldBytes item x (s ++ x)
items zero n x s h c e = absurd (h refl)
items (suc item) n x s h c e = record { items = n; long = e; count = s; is_count = c; same = refl }

-- how many items, and then these
pub field_both : {i j k : Reader} (item n : ℕ) (x : List ℕ) → (item ≡ 0 → ⊥) → length x ≡ item * n → TookSome (CountBytes n) i j → Took j x k → TookSome (FieldBytes item x) i k
field_both item n x h e p q = some_both {Q = λ (t : List ℕ). t ≡ x} (λ s t y z. rw z (items item n x s h y e)) p (some_took q refl)

-- first the ones, and then the others
then_both : {P Q : List ℕ → Type 0} {i j k : Reader} → TookSome P i j → TookSome Q j k → TookSome (Then P Q) i k
then_both = some_both λ s t p q. record { front = s; back = t; is_front = p; is_back = q; same = refl }

-- the fields, one after the other
pub fields_all : {f g h j l : Reader} (x y z w ns : List ℕ) → length ns ≡ 4 →
    TookSome (FieldBytes (get_or ns 0 0) x) f g → TookSome (FieldBytes (get_or ns 1 0) y) g h → TookSome (FieldBytes (get_or ns 2 0) z) h j → TookSome (FieldBytes (get_or ns 3 0) w) j l → TookSome (FieldsBytes ns (x ∷ y ∷ z ∷ w ∷ [])) f l
fields_all {l = l} x y z w (a ∷ b ∷ c ∷ d ∷ []) e p q r s = then_both p (then_both q (then_both r (then_both s (some_none l refl))))
fields_all x y z w [] e p q r s = absurd (omega arith)
fields_all x y z w (a ∷ []) e p q r s = absurd (omega arith)
fields_all x y z w (a ∷ b ∷ []) e p q r s = absurd (omega arith)
fields_all x y z w (a ∷ b ∷ c ∷ []) e p q r s = absurd (omega arith)
fields_all x y z w (a ∷ b ∷ c ∷ d ∷ k ∷ ns) e p q r s = absurd (omega arith)

-- behind the byte of a call its numbers, and then the fields
pub rest_both : {i j l : Reader} {ns : List ℕ} {xs : List (List ℕ)} (k : ℕ) (s : Shape) → Some s ≡ shape k → TookSome (NumberBytes s.numbers ns) i j → TookSome (FieldsBytes s.items xs) j l → TookSome (λ t. CallBytes k ns xs (k ∷ t)) i l
rest_both k s e = some_both λ t u p q. record {
  s = s;
  bytes = record { front = k ∷ t; back = u; is_front = record { known = sym e; numbers = t; are_numbers = p; same = refl }; is_back = q; same = refl };
}

-- the byte of a call, and what follows it
pub call_read : {r q : Reader} {k : ℕ} (s : Reader) (f : Fields) (c : Call) → whole s ≡ true → Took r (k ∷ []) q → TookSome (λ t. CallBytes c.byte c.numbers (read_fields c f) (k ∷ t)) q s → ReadCall r c s (read_fields c f)
call_read s f c w p q = let b = took_both p q.took in record { whole = sym b.uncut ∙ w; bytes = some_took b q.are }
