-- Numbers after spaces, one by one, and how long they are. Assumes nothing.
use Rattle.std.proofs.Common.{ℕ, ◌+◌, ◌*◌, ◌<◌, ◌≤◌, ◌≡◌, List, [], ◌∷◌, ◌++◌, length, get_or, map, take, ap, sym, ◌∙◌, arith, append_assoc, append-nil, length-append}
use Rattle.std.proofs.lemmas.List.{map-append, take_more}
use Rattle.writing.proofs.Digits.{decimal_few}
use Rattle.writing.specs.Texts.{decimal, spaced}

spaced_last : (l : List ℕ) (x : ℕ) → spaced (l ++ (x ∷ [])) ≡ spaced l ++ (32 ∷ decimal x)
spaced_last [] x = ap (λ (d : List ℕ). 32 ∷ d) (append-nil (decimal x))
spaced_last (n ∷ l) x =
    ap (λ (d : List ℕ). 32 ∷ (decimal n ++ d)) (spaced_last l x) ∙ ap (λ (d : List ℕ). 32 ∷ d) (sym (append_assoc (decimal n) (spaced l) (32 ∷ decimal x)))

-- the number x at i, behind those before it
pub spaced_more : {A : Type 0} (f : A → ℕ) (l : List A) (i : ℕ) (x : A) → i < length l → x ≡ get_or l i x
    → spaced (map f (take (i + 1) l)) ≡ spaced (map f (take i l)) ++ (32 ∷ decimal (f x))
spaced_more f l i x h e =
    rw (take_more l i x h, ← e, map-append f (take i l) (x ∷ [])) (spaced_last (map f (take i l)) (f x))

-- each takes at most 21 bytes
pub spaced_few : (l : List ℕ) → length (spaced l) ≤ 21 * length l
spaced_few [] = omega arith
spaced_few (n ∷ l) = omega (arith, length-append (decimal n) (spaced l), decimal_few n, spaced_few l)
