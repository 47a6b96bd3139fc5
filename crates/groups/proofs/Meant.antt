-- What each of the five answers means, where a good tree is asked about three different species. Assumes nothing.
use mathlib.Core.Bool.{Bool, So, ◌&&◌, ◌||◌, cond, false, false≢true, not, true}
use mathlib.Core.Path.{◌∙◌, ◌≡◌, ap, refl, subst, sym}
use Prim.Native.Nat.{ℕ}
use borrow.Author.Tests.{not-true}
use Rattle.sets.proofs.Bools.{and_i, and_l, and_r, not_i, or-none}
use Rattle.trees.proofs.Agreement.{exclusive}
use Rattle.trees.proofs.Formed.{Formed, formed_e}
use Rattle.trees.proofs.Splits.{holds_e, holds_swap}
use Rattle.trees.specs.Trees.{Tree, under, well_formed}
use Rattle.trees.specs.Triplets.{different, fan, holds, resolves}
use Rattle.groups.specs.declared.Says.{Says}
use Rattle.groups.specs.declared.Says.TheVariants.{AB, AC, BC, Absent, Fan}
use Rattle.groups.specs.Groups.{SaysRight, says}

-- the first of four tests that is true gives the answer, and this is what each answer tells of them
abbrev Means : Bool → Bool → Bool → Bool → Says → Type 0
Means h i j f AB = So h
Means h i j f AC = So i
Means h i j f BC = So j
Means h i j f Fan = So f
Means h i j f Absent = ((h || (i || j)) ≡ false) × (f ≡ false)

means : (h i j f : Bool) → Means h i j f (cond h AB (cond i AC (cond j BC (cond f Fan Absent))))
means true i j f = refl
means false true j f = refl
means false false true f = refl
means false false false true = refl
means false false false false = (refl, refl)

no : (x : Bool) → (So x → ⊥) → x ≡ false
no x n = not-true x (not_i x n)

module _ (t : Tree) (a b c : ℕ) (w : So (well_formed t)) (d : So (different a b c)) where
  -- all three are in the tree
  abbrev here : Bool
  here = under t a && (under t b && under t c)

  told : (s : Says) → says t a b c ≡ s → Means (holds t a b c) (holds t a c b) (holds t b c a) (fan t a b c) s
  told s e = subst (Means (holds t a b c) (holds t a c b) (holds t b c a) (fan t a b c)) e (means (holds t a b c) (holds t a c b) (holds t b c a) (fan t a b c))

  -- so that `exclusive` tells: of the three triplets at most one is held
  f : Formed t
  f = formed_e t w

  pub says_exactly : SaysRight t a b c (says t a b c)
  says_exactly = record {
    ab = (told AB, λ h. rw h refl);
    ac = (told AC, λ h. rw (no (holds t a b c) (λ k. exclusive t f a b c k h), h) refl);
    bc = (
      told BC,
      λ h. rw (
        no (holds t a b c) (λ k. exclusive t f b a c (holds_swap t a b c k) h),
        no (holds t a c b) (λ k. exclusive t f c a b (holds_swap t a c b k) (holds_swap t b c a h)),
        h,
      ) refl,
    );
    fan = (
      told Fan,
      λ h.
          let q = or-none (holds t a b c) _ (not-true (resolves t a b c) (and_r (different a b c) _ (and_r here _ h))) in
          let r = or-none (holds t a c b) (holds t b c a) q.1 in
          rw (h, q.0, r.0, r.1) refl,
    );
    absent = (
      (λ e k.
          let m = told Absent e in
          false≢true (sym m.1 ∙ and_i here _ (and_i (under t a) _ k.0 (and_i (under t b) _ k.1 k.2)) (and_i (different a b c) _ d (ap not m.0)))),
      λ n. rw (
        no (fan t a b c) (λ k. let o = and_l here _ k in n (and_l (under t a) _ o, and_l (under t b) _ (and_r (under t a) _ o), and_r (under t b) _ (and_r (under t a) _ o))),
        no (holds t a b c) (λ k. let o = holds_e t a b c k in n (o.in_a, o.in_b, o.in_c)),
        no (holds t a c b) (λ k. let o = holds_e t a c b k in n (o.in_a, o.in_c, o.in_b)),
        no (holds t b c a) (λ k. let o = holds_e t b c a k in n (o.in_c, o.in_a, o.in_b)),
      ) refl,
    );
  }
