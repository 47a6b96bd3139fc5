-- The triples of a set, each with what is entered of it, give exactly the links on the set from a lower species to a higher one; with the
-- other direction of each they are all. Assumes nothing.
use mathlib.Core.Bool.{So}
use mathlib.Core.Logic.{inl, inr, ⊎_elim}
use mathlib.Core.Path.{◌≡◌, refl, subst, sym}
use Prim.Native.Nat.{◌<◌, ◌^◌, ℕ}
use native.Mathlib.Omega.{arith}
use lib.ListN.{replicate}
use Rattle.sets.proofs.Bools.{bool_ext, by_order}
use Rattle.sets.proofs.Facts.{empty_e, under_e, under_i}
use Rattle.sets.proofs.Tests.{has-below}
use Rattle.sets.proofs.Zeros.{zero-at}
use Rattle.sets.specs.Sets.{has, meet, upto}
use Rattle.sets.specs.Species.{Below}
use Rattle.trees.proofs.Parts.{linked_e, linked_i}
use Rattle.trees.specs.Links.{linked}
use Rattle.trees.specs.Triplets.{Proper, Triplets}
use Rattle.splitting.specs.Rows.{Flagged, InLevel, Mirrored, Pair, Rows, RowsShow, Some, Ties, flag}

-- m: the species of s below k
module _ (s k m : ℕ) (e : m ≡ meet s (upto k)) where
  pub under-below : Below k (has m)
  under-below x p = (under_e s k x (subst (λ (z : ℕ). So (has z x)) e p)).1

  pub grown_under : (R : ℕ → ℕ → ℕ → Type 0) {g g' : Rows} → Flagged (R m) g g' → Flagged (R (meet s (upto k))) g g'
  grown_under R {g} {g'} r = subst (λ (z : ℕ). Flagged (R z) g g') e r

-- what all triples of s tell
abbrev pub InTriples : Triplets → ℕ → ℕ → ℕ → Type 0
InTriples E s = Some s (λ c. InLevel E (meet s (upto c)) c)

module _ (E : Triplets) (pr : Proper E) (s : ℕ) (hs : s < 2 ^ 64) where
  abbrev bd : Below 64 (has s)
  bd = has-below 64 s hs

  abbrev Linked : ℕ → ℕ → Type 0
  Linked x y = So (linked E 64 (has s) x y)

  pair_link : (a b c x y : ℕ) → So (has s a) → So (has s b) → So (has s c) → Pair (E a b c) a b x y → Linked x y
  pair_link a b c x y ha hb hc p =
      subst (λ (z : ℕ). Linked z y) (sym p.1) (subst (Linked a) (sym p.2) (linked_i E 64 (has s) bd a b c ha hb hc p.0))

  triple_link : (x y : ℕ) → InTriples E s x y → Linked x y
  triple_link x y (c, hc, (b, mb, (a, ma, h))) =
      let hb = (under_e s c b mb).0 in
      let ha = (under_e s c a (under_e (meet s (upto c)) b a ma).0).0 in
      ⊎_elim (pair_link a b c x y ha hb hc) (λ k. ⊎_elim (pair_link a c b x y ha hc hb) (pair_link b c a x y hb hc ha) k) h

  triple_i : (a b c x y : ℕ) → a < b → b < c → So (has s a) → So (has s b) → So (has s c) → Ties E a b c x y → InTriples E s x y
  triple_i a b c x y p q ha hb hc h = (c, hc, (b, under_i s c b hb q, (a, under_i (meet s (upto c)) b a (under_i s c a ha (omega arith)) p, h)))

  -- wherever the third species stands
  close_triple : (a b c x y : ℕ) → a < b → So (has s a) → So (has s b) → So (has s c) → Pair (E a b c) a b x y → InTriples E s x y
  close_triple a b c x y l ha hb hc p = by_order b c
      (λ k. triple_i a b c x y l k ha hb hc (inl p))
      (λ e. absurd (pr.third b a c (pr.swap a b c p.0) e))
      (λ k. by_order a c
      (λ j. triple_i a c b x y j k ha hc hb (inr (inl p)))
      (λ e. absurd (pr.third a b c p.0 e))
      (λ j. triple_i c a b x y j l hc ha hb (inr (inr p))))

  linked_sym : (x y : ℕ) → Linked x y → Linked y x
  linked_sym x y h = let w = linked_e E 64 (has s) bd x y h in linked_i E 64 (has s) bd y x w.2.0 w.1 w.0 w.2.1 (pr.swap x y w.2.0 w.2.2)

  link_triple : (x y : ℕ) → x < y → Linked x y → InTriples E s x y
  link_triple x y l h = let w = linked_e E 64 (has s) bd x y h in close_triple x y w.2.0 x y l w.0 w.1 w.2.1 (w.2.2, refl, refl)

  -- from empty rows
  module _ {g : Rows} (r : Flagged (InTriples E s) (replicate 64 0) g) where
    flag_link : (x y : ℕ) → So (flag g x y) → Linked x y
    flag_link x y h =
        ⊎_elim (λ k. absurd (empty_e y (subst (λ (z : ℕ). So (has z y)) (zero-at 64 x) k))) (triple_link x y) ((r.flags x y).0 h)

    link_flag : (x y : ℕ) → x < y → Linked x y → So (flag g x y)
    link_flag x y l h = (r.flags x y).1 (inr (link_triple x y l h))

    -- and with the other direction of each link
    pub triples_show : {g' : Rows} → Flagged (Mirrored g s) g g' → RowsShow g' E s
    unfolding RowsShow
    triples_show {g'} m x y = bool_ext (flag g' x y) (linked E 64 (has s) x y)
        (λ h. ⊎_elim (flag_link x y) (λ k. linked_sym y x (flag_link y x k.1)) ((m.flags x y).0 h))
        (λ h. let w = linked_e E 64 (has s) bd x y h in
        (m.flags x y).1 (by_order x y
        (λ l. inl (link_flag x y l h))
        (λ e. absurd (pr.two x y w.2.0 w.2.2 e))
        (λ l. inr (w.1, link_flag y x l (linked_sym x y h), omega arith))))
