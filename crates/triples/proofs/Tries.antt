-- The calls of a test that a search for the first triple makes, one after another in index order; and what it finds where each call decides whether
-- something speaks of its triple, by a fact about the test that each call keeps. Assumes nothing.
use mathlib.Core.Bool.{Bool, So, false, not, true}
use mathlib.Core.Path.{◌∙◌, ◌≡◌, ap, refl, subst, sym}
use Prim.Native.Nat.{◌+◌, ◌<◌, ◌≤◌, suc, zero, ℕ}
use native.Mathlib.Omega.{arith}
use Rattle.std.specs.Prelude.{None, Option, Some}
use borrow.Author.Tests.{eqb-true}
use lib.Dec.{eqb}
use Rattle.sets.proofs.Bools.{lt_of_ne, test}
use Rattle.trees.specs.Triplets.{Triplets, on_triple}
use Rattle.triples.proofs.Indices.{high_of, index-lt, low_of, mid_of, triple_back}
use Rattle.triples.proofs.Search.{Clear, finds_at, finds_none, last, level_end, next, row_end, start}
use Rattle.triples.specs.Find.{at}
use Rattle.triples.specs.Finds.{Finds}
use Rattle.triples.specs.Index.{C, high_at, index, low_at, mid_at}
use Rattle.triples.specs.Tries.{Passes, Tries}
use Rattle.triples.specs.declared.Triple.{Triple}

-- ---- the places of the loops

module _ {F : Type 0} (n : ℕ) (R : F → ℕ → ℕ → ℕ → Bool → F → Type 0) where
  pub passes_start : (f : F) → Passes n R (index 0 0 0) f f
  unfolding Passes
  passes_start f = subst (λ (k : ℕ). Passes n R k f f) (sym start) refl

  -- one more triple of which the test does not hold
  pub passes_next : (a b c : ℕ) (f g h : F) → a < b → b < c → c < n → Passes n R (index a b c) f g → R g a b c false h → Passes n R (index (a + 1) b c) f h
  unfolding Passes
  passes_next a b c f g h p q r s e =
      subst (λ (k : ℕ). Passes n R k f h) (sym (next a b c)) (g, s, rw (low_of a b c n p q r, mid_of a b c n p q r, high_of a b c n p q r) e)

  -- all a below b are done: on to the next b
  pub passes_row : (a b c : ℕ) (f g : F) → a ≡ b → Passes n R (index a b c) f g → Passes n R (index 0 (b + 1) c) f g
  passes_row a b c f g e s = subst (λ (k : ℕ). Passes n R k f g) (ap (λ (x : ℕ). index x b c) e ∙ row_end b c) s

  -- all b below c are done: on to the next c
  pub passes_level : (b c : ℕ) (f g : F) → b ≡ c → Passes n R (index 0 b c) f g → Passes n R (index 0 0 (c + 1)) f g
  passes_level b c f g e s = subst (λ (k : ℕ). Passes n R k f g) (ap (λ (x : ℕ). index 0 x c) e ∙ level_end c) s

  -- the search came through
  pub tries_none : (c : ℕ) (f g : F) → c ≡ n → Passes n R (index 0 0 c) f g → Tries n R f None
  tries_none c f g e s = (g, subst (λ (k : ℕ). Passes n R k f g) (ap (index 0 0) e ∙ last n) s)

-- ---- what is found

module _ {F : Type 0} (n : ℕ) (R : F → ℕ → ℕ → ℕ → Bool → F → Type 0) (I : F → Type 0) where
  -- each call keeps what is so of the test
  abbrev Kept : Type 0
  Kept = (f g : F) (a b c : ℕ) (r : Bool) → a < b → b < c → c < n → I f → R f a b c r g → I g

  kept_to : (k : ℕ) (f g : F) → k ≤ C n 3 → Passes n R k f g → I f → Kept → I g
  unfolding Passes
  kept_to zero f g l s i h = subst I s i
  kept_to (suc k) f g l s i h =
      let t = triple_back n k (omega arith) in
      h s.0 g (low_at n k) (mid_at n k) (high_at n k) false t.0 t.1 t.2 (kept_to k f s.0 (omega arith) s.1 i h) s.2

  -- so it is so wherever the test is asked
  pub keeps : (f g : F) (a b c : ℕ) → a < b → b < c → c < n → Passes n R (index a b c) f g → I f → Kept → I g
  keeps f g a b c p q r s i h = kept_to (index a b c) f g (omega (arith, index-lt a b c n p q r)) s i h

  module _ (P : Triplets) where
    -- and decides whether P speaks of the triple
    abbrev Decided : Type 0
    Decided = (f g : F) (a b c : ℕ) (r : Bool) → a < b → b < c → c < n → I f → R f a b c r g → I g × (r ≡ on_triple P a b c)

    kept : Decided → Kept
    kept h = λ f g a b c r p q l i e. (h f g a b c r p q l i e).0

    passed : (k : ℕ) (f g : F) → k ≤ C n 3 → Passes n R k f g → I f → Decided → Clear n P k
    unfolding Passes at
    passed zero f g l s i h j m = absurd (omega arith)
    passed (suc k) f g l s i h j m =
        let t = triple_back n k (omega arith) in
        let o = kept_to k f s.0 (omega arith) s.1 i (kept h) in
        test (eqb j k)
        (λ x. subst (λ (z : ℕ). So (not (at n P z))) (sym (eqb-true j k x)) (ap not (sym (h s.0 g (low_at n k) (mid_at n k) (high_at n k) false t.0 t.1 t.2 o s.2).1)))
        (λ x. passed k f s.0 (omega arith) s.1 i h j (lt_of_ne j k m x))

    pub tries_finds : (f : F) (x : Option Triple) → Tries n R f x → I f → Decided → Finds n P x
    tries_finds f None s i h = finds_none n P (passed (C n 3) f s.0 (omega arith) s.1 i h)
    tries_finds f (Some x) s i h =
        let l = index-lt x.low x.mid x.high n s.low_mid s.mid_high s.high_below in
        let o = keeps f s.before x.low x.mid x.high s.low_mid s.mid_high s.high_below s.passed i (kept h) in
        let d = h s.before s.after x.low x.mid x.high true s.low_mid s.mid_high s.high_below o s.held in
        finds_at n P x.low x.mid x.high s.low_mid s.mid_high s.high_below (sym d.1) (passed (index x.low x.mid x.high) f s.before (omega (arith, l)) s.passed i h)

-- the same where a call leaves the test as it is
pub tries_same : {F : Type 0} (n : ℕ) (R : F → ℕ → ℕ → ℕ → Bool → F → Type 0) (P : Triplets) (f : F) (x : Option Triple) → Tries n R f x
    → ((a b c : ℕ) (r : Bool) (g : F) → a < b → b < c → c < n → R f a b c r g → (g ≡ f) × (r ≡ on_triple P a b c)) → Finds n P x
tries_same {F} n R P f x s same =
    tries_finds n R (λ (g : F). g ≡ f) P f x s refl (λ g h a b c r p q l e k. same a b c r h p q l (subst (λ (j : F). R j a b c r h) e k))
