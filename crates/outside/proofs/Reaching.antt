-- What it means that a triple reaches outside a set; its three species stand in any order. Assumes nothing.
use mathlib.Core.Bool.{Bool, So, ◌&&◌, ◌||◌, false, not, true}
use mathlib.Core.List.{List}
use mathlib.Core.Logic.{◌↔◌}
use mathlib.Core.Path.{◌∙◌, ◌≡◌, ap, refl, sym}
use Prim.Native.Nat.{ℕ, ◌<◌}
use borrow.Author.Tests.{ne_eqb}
use lib.Dec.{eqb}
use lib.ListN.{get_or}
use Rattle.sets.proofs.Bools.{and_i, and_l, and_r, ne_e, not_e, test}
use Rattle.sets.proofs.Tests.{has_true, true_has}
use Rattle.sets.specs.Sets.{has}
use Rattle.trees.specs.Triplets.{on_triple}
use Rattle.triples.proofs.Find.{first_none}
use Rattle.tables.proofs.Places.{place_ab, place_ac, place_bc}
use Rattle.triples.specs.Find.{first_triple}
use Rattle.triples.specs.Index.{C, index}
use Rattle.outside.specs.Reaches.{Enclosed, reaches}

-- ---- over any tests: d tells whether the byte is not 0; p, q and r whether a, b and c are in the set

abbrev out : Bool → Bool → Bool → Bool → Bool
out d p q r = d && not (p && (q && r))

alike : (d p q r : Bool) → (out d p q r || (out d p r q || out d q r p)) ≡ out d p q r
alike false p q r = refl
alike true true true true = refl
alike true true true false = refl
alike true true false true = refl
alike true true false false = refl
alike true false true true = refl
alike true false true false = refl
alike true false false r = refl

all_in : (d p q r : Bool) → ((p && q) && r) ≡ true → false ≡ out d p q r
all_in false p q r e = refl
all_in true true true r e = ap not (sym e)
all_in true true false r e = e
all_in true false q r e = e

one_out : (d p q r : Bool) → ((p && q) && r) ≡ false → d ≡ out d p q r
one_out false p q r e = refl
one_out true true true r e = ap not (sym e)
one_out true true false r e = refl
one_out true false q r e = refl

-- ---- of a table and a set

-- the byte of the triple a < b < c is not 0
abbrev filled : List ℕ → ℕ → ℕ → ℕ → Bool
filled t a b c = not (eqb (get_or t (index a b c) 0) 0)

module _ (t : List ℕ) (s a b c : ℕ) (p : a < b) (q : b < c) where
  reaches_out : reaches t s a b c ≡ out (filled t a b c) (has s a) (has s b) (has s c)
  unfolding reaches
  reaches_out = rw (place_ab a b c p q) refl

  pub reaches-any : on_triple (reaches t s) a b c ≡ reaches t s a b c
  unfolding reaches
  reaches-any = rw (place_ab a b c p q, place_ac a b c p q, place_bc a b c p q) (alike (filled t a b c) (has s a) (has s b) (has s c))

  module _ {x y z : Bool} (ea : x ≡ has s a) (eb : y ≡ has s b) (ec : z ≡ has s c) where
    pub reaches-not : ((x && y) && z) ≡ true → false ≡ reaches t s a b c
    reaches-not e = rw reaches_out (all_in (filled t a b c) (has s a) (has s b) (has s c) (rw (← ea, ← eb, ← ec) e))

    pub reaches_by : ((x && y) && z) ≡ false → (v : ℕ) → v ≡ get_or t (index a b c) 0 → not (eqb v 0) ≡ reaches t s a b c
    reaches_by e v ev = rw (ev, reaches_out) (one_out (filled t a b c) (has s a) (has s b) (has s c) (rw (← ea, ← eb, ← ec) e))

-- nothing is found exactly where no triple reaches outside
pub none_outside : (n s : ℕ) (t : List ℕ) → (first_triple n (reaches t s) ≡ C n 3) ↔ Enclosed n s t
none_outside n s t =
    let f = first_none n (reaches t s) in (
      (λ e a b c p q r h.
          let d : So (filled t a b c) = ap not (ne_eqb (get_or t (index a b c) 0) 0 h) in
          let k : So (has s a && (has s b && has s c)) = test _ (λ x. x) (λ x. absurd (f.0 e a b c p q r (reaches-any t s a b c p q ∙ reaches_out t s a b c p q ∙ and_i (filled t a b c) _ d x))) in
          let l = and_r (has s a) _ k in
          (has_true s a (and_l (has s a) _ k), has_true s b (and_l (has s b) _ l), has_true s c (and_r (has s b) _ l))),
      λ g. f.1 (λ a b c p q r h.
          let k = sym (reaches_out t s a b c p q) ∙ sym (reaches-any t s a b c p q) ∙ h in
          let l = g a b c p q r (ne_e (get_or t (index a b c) 0) 0 (and_l (filled t a b c) _ k)) in
          not_e _ (and_r (filled t a b c) _ k) (and_i (has s a) _ (true_has s a l.0) (and_i (has s b) _ (true_has s b l.1) (true_has s c l.2)))),
    )
