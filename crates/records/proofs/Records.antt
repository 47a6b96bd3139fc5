-- Bad records: what a good one has, the search for the first bad one, and what its place tells. Assumes nothing.
use Rattle.std.proofs.lemmas.List.{get_or-map}
use Rattle.std.proofs.lemmas.List.Recursion.{is_position_or_len}
use Rattle.std.specs.List.{position}
use Rattle.std.specs.Prelude.{None, Some}
use mathlib.Core.Bool.{Bool, So, ◌&&◌, cond, false, false≢true, not, true}
use mathlib.Core.List.{List, [], ◌∷◌, map}
use mathlib.Core.Path.{◌∙◌, ◌≡◌, ap, refl, sym}
use Prim.Native.Nat.{◌+◌, ◌<◌, ◌≤◌, suc, zero, ℕ}
use native.Mathlib.Omega.{arith}
use borrow.Author.Tests.{lt-ltb, ltb-false, ltb-true, not-false, not-true}
use lib.Dec.{ltb}
use lib.ListN.{get_or, length, length-map}
use Rattle.sets.proofs.Bools.{and_l, and_r, not_i, or_l, or_r, test}
use Rattle.trees.specs.Triplets.{different}
use Rattle.records.specs.Records.{bad, bad_at, bad_record, first_bad}

-- ---- three numbers

module _ (n a b c : ℕ) where
  -- what three good numbers have
  pub record Good : Type 0 where
    pub apart : So (different a b c)
    pub first : a < n
    pub second : b < n
    pub third : c < n

  pub good_e : bad n a b c ≡ false → Good
  unfolding bad
  good_e e =
      let h : So (ltb a n && (ltb b n && ltb c n)) = not-false _ (not-true _ (not_i _ (λ k. false≢true (sym e ∙ or_r (not (different a b c)) _ k)))) in
      record {
        apart = not-false (different a b c) (not-true _ (not_i _ (λ k. false≢true (sym e ∙ or_l (not (different a b c)) _ k))));
        first = ltb-true a n (and_l (ltb a n) _ h);
        second = ltb-true b n (and_l (ltb b n) _ (and_r (ltb a n) _ h));
        third = ltb-true c n (and_r (ltb b n) _ (and_r (ltb a n) _ h));
      }

  pub good_i : Good → bad n a b c ≡ false
  unfolding bad
  good_i g = rw (g.apart, lt-ltb a n g.first, lt-ltb b n g.second, lt-ltb c n g.third)

  -- what is not good is bad
  pub bad_i : (Good → ⊥) → So (bad n a b c)
  bad_i f = test (bad n a b c) (λ h. h) (λ h. absurd (f (good_e (not-true _ h))))

-- ---- the search from the front

module _ (n : ℕ) (r : List ℕ) (rs : List (List ℕ)) where
  pub first_yes : So (bad_record n r) → first_bad n (r ∷ rs) ≡ 0
  unfolding first_bad
  first_yes h = ap (λ (q : Bool). cond q 0 (suc (first_bad n rs))) h

  pub first_no : bad_record n r ≡ false → first_bad n (r ∷ rs) ≡ suc (first_bad n rs)
  unfolding first_bad
  first_no h = ap (λ (q : Bool). cond q 0 (suc (first_bad n rs))) h

-- ---- what the place tells

pub first_bad-le : (n : ℕ) (rs : List (List ℕ)) → first_bad n rs ≤ length rs
unfolding first_bad
first_bad-le n [] = omega arith
first_bad-le n (r ∷ rs) = test (bad_record n r)
    (λ h. omega (arith, first_yes n r rs h))
    (λ h. omega (arith, first_no n r rs (not-true _ h), first_bad-le n rs))

-- every record before it is good
pub first_bad-before : (n : ℕ) (rs : List (List ℕ)) (i : ℕ) → i < first_bad n rs → bad_record n (get_or rs i []) ≡ false
first_bad-before n [] i l = absurd (omega (arith, first_bad-le n []))
first_bad-before n (r ∷ rs) i l = test (bad_record n r)
    (λ h. absurd (omega (arith, first_yes n r rs h)))
    (λ h. at i (not-true _ h) (λ j k. first_bad-before n rs j (omega (arith, first_no n r rs (not-true _ h)))))
  where
    at : (i : ℕ) → bad_record n r ≡ false → ((j : ℕ) → suc j ≡ i → bad_record n (get_or rs j []) ≡ false) → bad_record n (get_or (r ∷ rs) i []) ≡ false
    at zero h f = h
    at (suc j) h f = f j refl

-- where there is one, it is bad
pub first_bad-found : (n : ℕ) (rs : List (List ℕ)) → first_bad n rs < length rs → So (bad_record n (get_or rs (first_bad n rs) []))
unfolding first_bad
first_bad-found n [] l = absurd (omega arith)
first_bad-found n (r ∷ rs) l = test (bad_record n r)
    (λ h. rw (first_yes n r rs h) h)
    (λ h. let e = first_no n r rs (not-true _ h) in rw e (first_bad-found n rs (omega arith)))

-- there is none exactly where every record is good
pub first_bad-none : (n : ℕ) (rs : List (List ℕ)) → first_bad n rs ≡ length rs → (i : ℕ) → i < length rs → bad_record n (get_or rs i []) ≡ false
first_bad-none n rs e i l = first_bad-before n rs i (omega arith)

pub none-first_bad : (n : ℕ) (rs : List (List ℕ)) → ((i : ℕ) → i < length rs → bad_record n (get_or rs i []) ≡ false) → first_bad n rs ≡ length rs
none-first_bad n rs f = test (ltb (first_bad n rs) (length rs))
    (λ h. let l = ltb-true _ _ h in absurd (false≢true (sym (f (first_bad n rs) l) ∙ first_bad-found n rs l)))
    (λ h. omega (arith, first_bad-le n rs, ltb-false (first_bad n rs) (length rs) (not-true _ h)))

-- ---- what is read as records

-- the record that the one at place i is read as
pub record_at : {X : Type 0} (f : X → List ℕ) (xs : List X) (i : ℕ) (x : X) (r : List ℕ) → i < length xs → x ≡ get_or xs i x → r ≡ f x → r ≡ get_or (map f xs) i []
record_at f xs i x r l e h = h ∙ ap f e ∙ sym (get_or-map f xs i x [] l)

-- the search for the first bad one by std's words
pub bad_at_is : {X : Type 0} (n : ℕ) (f : X → List ℕ) (xs : List X) → position (λ (x : X). bad_record n (f x)) xs ≡ bad_at n (map f xs)
unfolding first_bad
bad_at_is {X} n f xs =
    rw (length-map xs f)
    (ap (λ (k : ℕ). cond (ltb k (length xs)) (Some k) None) (sym (is_position_or_len (λ (ys : List X). first_bad n (map f ys)) (λ (x : X). bad_record n (f x)) refl
    (λ x ys. let e : suc (first_bad n (map f ys)) ≡ 1 + first_bad n (map f ys) = omega arith in ap (λ (k : ℕ). cond (bad_record n (f x)) 0 k) e) xs)))

-- where it finds none, none is bad
pub bad_at-none : (n : ℕ) (rs : List (List ℕ)) → bad_at n rs ≡ None → first_bad n rs ≡ length rs
bad_at-none n rs e = go (ltb (first_bad n rs) (length rs)) refl e
  where
    go : (b : Bool) → ltb (first_bad n rs) (length rs) ≡ b → cond b (Some (first_bad n rs)) None ≡ None → first_bad n rs ≡ length rs
    go true h f = cc
    go false h f = omega (arith, first_bad-le n rs, ltb-false _ _ h)
