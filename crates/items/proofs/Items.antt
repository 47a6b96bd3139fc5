-- The items of a field, laid out one by one, and how many there are. Assumes nothing.
use mathlib.Core.List.{List, [], ◌∷◌, ◌++◌}
use mathlib.Core.Path.{◌∙◌, ◌≡◌, ap, ap₂, refl}
use Prim.Native.Nat.{ℕ, zero, suc, ◌+◌, ◌*◌, ◌<◌, ◌≤◌}
use native.Mathlib.Nat.{suc-mul}
use native.Mathlib.Numerals.{add-one}
use native.Mathlib.Omega.{arith}
use lib.ListN.{drop, length, length-append, set, take}
use lib.Seq.{drop-cons, drop-drop, take-suc-set}
use Rattle.std.specs.Simd.{first_chunks}
use Rattle.items.specs.Items.{items_up_to, record_at}

-- one item more
pub items_more : {A : Type 0} (item : ℕ → A) (rs : List A) (i : ℕ) → i < length rs → take i rs ≡ items_up_to item i → take (i + 1) (set rs i (item i)) ≡ items_up_to item (i + 1)
unfolding items_up_to
items_more item rs i h e = rw (add-one, take-suc-set, e)

pub items_count : {A : Type 0} (item : ℕ → A) (m : ℕ) → length (items_up_to item m) ≡ m
unfolding items_up_to
items_count item zero = refl
items_count item (suc m) = simp length-append (omega (arith, items_count item m))

-- one chunk more, behind those before it
chunks_more : (n k : ℕ) (l : List ℕ) → first_chunks n (suc k) l ≡ first_chunks n k l ++ (take n (drop (k * n) l) ∷ [])
chunks_more n zero l = let z : 0 ≡ 0 * n = omega arith in ap (λ (j : ℕ). take n (drop j l) ∷ []) z
chunks_more n (suc k) l =
    let e : n + k * n ≡ suc k * n = omega (arith, suc-mul k n) in
    let d : drop (k * n) (drop n l) ≡ drop (suc k * n) l = drop-drop (k * n) n l ∙ ap (λ (j : ℕ). drop j l) e in
    ap (λ (c : List (List ℕ)). take n l ∷ c) (chunks_more n k (drop n l) ∙ ap (λ (r : List ℕ). first_chunks n k (drop n l) ++ (take n r ∷ [])) d)

three : (b : List ℕ) (i : ℕ) → i * 3 + 2 < length b → take 3 (drop (i * 3) b) ≡ record_at b i
three b i h =
    let e : i * 3 ≡ 3 * i = omega arith in
    let one : suc (3 * i) ≡ 3 * i + 1 = omega arith in
    let two : suc (3 * i + 1) ≡ 3 * i + 2 = omega arith in
    rw (e, drop-cons b (3 * i) 0 (omega arith), drop-cons b (suc (3 * i)) 0 (omega arith), drop-cons b (suc (suc (3 * i))) 0 (omega arith), one, two) refl

-- the chunks of three bytes are the records
pub chunks_records : (b : List ℕ) (m : ℕ) → m * 3 ≤ length b → first_chunks 3 m b ≡ items_up_to (record_at b) m
unfolding items_up_to
chunks_records b zero h = refl
chunks_records b (suc m) h =
    chunks_more 3 m b ∙ ap₂ (λ (c : List (List ℕ)) (r : List ℕ). c ++ (r ∷ [])) (chunks_records b m (omega arith)) (three b m (omega arith))
