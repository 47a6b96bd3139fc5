-- Numbers and lengths that the scan takes, limits aside, are numbers and lengths of the form. Assumes nothing.
use mathlib.Core.Bool.{So, false, true}
use mathlib.Core.List.{List, [], ◌∷◌, ◌++◌}
use mathlib.Core.Logic.{◌⊎◌, inl, inr}
use mathlib.Core.Path.{◌∙◌, ◌≡◌, refl, subst, sym}
use Prim.Native.Nat.{ℕ, zero, suc, ◌+◌, ◌-◌, ◌*◌, ◌<◌, ◌≤◌}
use native.Mathlib.Decide.{ℕ_discrete}
use native.Mathlib.Omega.{arith}
use borrow.Author.Tests.{eqb-true, leb-true}
use lib.Dec.{eqb, leb}
use lib.ListN.{length}
use Rattle.sets.proofs.Bools.{and_l, not_i}
use Rattle.bodies.specs.Nodes.{leaf_bytes}
use Rattle.newick.specs.Form.{Blanks, Digits, Further, Number, digit, last_digit, no_blank, no_further, nought, one_blank, one_digit, one_further, other}
use Rattle.newick.specs.Scan.{State, act, at_end, stuck, behind, due, follow, taken, number, parted, pointed, scan_from, state, innermost, whole}
use Rattle.newick.specs.Signs.{Sign, closing, colon, comma, figure, foreign, opening, point, semicolon, sign, space}
use Rattle.newick.proofs.Signs.{Shows, shows}
use Rattle.newick.proofs.Takes.{Clear, alike, number-over, parted_over, whole_over}

pub never : {A : Type 0} {l : ℕ} {b : List ℕ} → stuck l ≡ taken b → A
never e = absurd (let z : ◌≡◌ {A = ℕ} 0 1 = cc in omega arith)

-- the reading goes well from here
abbrev pub Taken : State → List ℕ → List ℕ → Type 0
Taken s w b = scan_from false s w ≡ taken b

-- the same behind one sign
abbrev pub TakenBy : State → Sign → List ℕ → List ℕ → Type 0
TakenBy s g w b = follow (suc (length w)) (λ s'. scan_from false s' w) (act s g) ≡ taken b

pub by_sign : (s : State) (c : ℕ) (w b : List ℕ) → Taken s (c ∷ w) b → TakenBy s (sign c) w b
unfolding scan_from
by_sign s c w b h = h

pub at_end_lem : (s : State) (b : List ℕ) → Taken s [] b → at_end s ≡ taken b
unfolding scan_from
at_end_lem s b h = h

-- a digit, a point, or neither
data SignCase (g : Sign) : Type 0 where
  clear : Clear g → SignCase g
  figured : (x : ℕ) → g ≡ figure x → SignCase g
  dotted : g ≡ point → SignCase g

look : (g : Sign) → SignCase g
look space = clear tt
look (figure x) = figured x refl
look opening = clear tt
look closing = clear tt
look comma = clear tt
look colon = clear tt
look point = dotted refl
look semicolon = clear tt
look foreign = clear tt

-- ---- numbers

module _ (ps : List ℕ) (n : ℕ) (d b : List ℕ) where
  digit_goes : (v x : ℕ) (w : List ℕ) → 0 < v → TakenBy (state (number v) ps n d) (figure x) w b → Taken (state (number (10 * v + x)) ps n d) w b
  unfolding act
  digit_goes zero x w p h = absurd (omega arith)
  digit_goes (suc v) x w p h = h

  point_stops : (v : ℕ) (w : List ℕ) → TakenBy (state (number v) ps n d) point w b → stuck (suc (length w)) ≡ taken b
  unfolding act
  point_stops v w h = h

  -- a species number once it has begun
  further_found : (w : List ℕ) (v : ℕ) → 0 < v → Taken (state (number v) ps n d) w b
      → (x : ℕ) × (r : List ℕ) × Further v x w r × (length r ≤ length w) × Taken (state (behind true) ps (suc n) (d ++ leaf_bytes (innermost ps) x)) r b
  further_found [] v p h = never (at_end_lem _ b h)
  further_found (c ∷ w) v p h = by (look (sign c)) (shows c) (λ x q. further_found w x q)
    where
      by : SignCase (sign c) → Shows c (sign c)
          → ((x : ℕ) → 0 < x → Taken (state (number x) ps n d) w b
          → (y : ℕ) × (r : List ℕ) × Further x y w r × (length r ≤ length w) × Taken (state (behind true) ps (suc n) (d ++ leaf_bytes (innermost ps) y)) r b)
          → (x : ℕ) × (r : List ℕ) × Further v x (c ∷ w) r × (length r ≤ suc (length w)) × Taken (state (behind true) ps (suc n) (d ++ leaf_bytes (innermost ps) x)) r b
      by (clear k) s f = (v, c ∷ w, no_further, omega arith, sym (alike false _ _ (number-over ps n d v) refl (c ∷ w) k) ∙ h)
      by (figured x e) s f =
          let t : So (digit c) × (x ≡ c - 48) = subst (Shows c) e s in
          let r = f (10 * v + x) (omega arith) (digit_goes v x w p (subst (λ (g : Sign). TakenBy (state (number v) ps n d) g w b) e (by_sign _ c w b h))) in
          (r.0, r.1, one_further t.0 (subst (λ (y : ℕ). Further (10 * v + y) r.0 w r.1) t.1 r.2), omega (arith, r.3), r.4)
      by (dotted e) s f = never (point_stops v w (subst (λ (g : Sign). TakenBy (state (number v) ps n d) g w b) e (by_sign _ c w b h)))

  nought_digit : (x : ℕ) (w : List ℕ) → TakenBy (state (number 0) ps n d) (figure x) w b → stuck (suc (length w)) ≡ taken b
  unfolding act
  nought_digit x w h = h

  -- nothing follows the digit 0
  nought_found : (w : List ℕ) → Taken (state (number 0) ps n d) w b → Taken (state (behind true) ps (suc n) (d ++ (innermost ps ∷ 0 ∷ []))) w b
  nought_found [] h = never (at_end_lem _ b h)
  nought_found (c ∷ w) h = by (look (sign c))
    where
      by : SignCase (sign c) → Taken (state (behind true) ps (suc n) (d ++ (innermost ps ∷ 0 ∷ []))) (c ∷ w) b
      by (clear k) = sym (alike false _ _ (number-over ps n d 0) refl (c ∷ w) k) ∙ h
      by (figured x e) = never (nought_digit x w (subst (λ (g : Sign). TakenBy (state (number 0) ps n d) g w b) e (by_sign _ c w b h)))
      by (dotted e) = never (point_stops 0 w (subst (λ (g : Sign). TakenBy (state (number 0) ps n d) g w b) e (by_sign _ c w b h)))

  -- a species number whose first digit is c
  pub number-found : (c : ℕ) (w : List ℕ) → So (digit c) → Taken (state (number (c - 48)) ps n d) w b
      → (x : ℕ) × (r : List ℕ) × Number x (c ∷ w) r × (length r ≤ length w) × Taken (state (behind true) ps (suc n) (d ++ leaf_bytes (innermost ps) x)) r b
  number-found c w h q = by (ℕ_discrete c 48)
    where
      lo : 48 ≤ c
      lo = leb-true 48 c (and_l (leb 48 c) (leb c 57) h)

      by : Dec (c ≡ 48) → (x : ℕ) × (r : List ℕ) × Number x (c ∷ w) r × (length r ≤ length w) × Taken (state (behind true) ps (suc n) (d ++ leaf_bytes (innermost ps) x)) r b
      by (yes e) = (
        0,
        w,
        subst (λ (y : ℕ). Number 0 (y ∷ w) w) (sym e) nought,
        omega arith,
        nought_found w (subst (λ (y : ℕ). Taken (state (number (y - 48)) ps n d) w b) e q),
      )
      by (no e) =
          let r = further_found w (c - 48) (let k = lo in omega arith) q in
          (r.0, r.1, other h (not_i (eqb c 48) (λ s. e (eqb-true c 48 s))) r.2, r.3, r.4)

  -- ---- lengths

  parted_goes : (x : ℕ) (w : List ℕ) → TakenBy (state parted ps n d) (figure x) w b → Taken (state parted ps n d) w b
  unfolding act
  parted_goes x w h = h

  parted_point : (w : List ℕ) → TakenBy (state parted ps n d) point w b → stuck (suc (length w)) ≡ taken b
  unfolding act
  parted_point w h = h

  -- the digits behind the point, of which c is one
  parted_found : (w : List ℕ) (c : ℕ) → So (digit c) → Taken (state parted ps n d) w b → (r : List ℕ) × Digits (c ∷ w) r × (length r ≤ length w) × Taken (state (behind false) ps n d) r b
  parted_found [] c t h = never (at_end_lem _ b h)
  parted_found (e ∷ w) c t h = by (look (sign e)) (shows e) (λ u. parted_found w e u)
    where
      by : SignCase (sign e) → Shows e (sign e) → (So (digit e) → Taken (state parted ps n d) w b → (r : List ℕ) × Digits (e ∷ w) r × (length r ≤ length w) × Taken (state (behind false) ps n d) r b)
          → (r : List ℕ) × Digits (c ∷ e ∷ w) r × (length r ≤ suc (length w)) × Taken (state (behind false) ps n d) r b
      by (clear k) s f = (e ∷ w, last_digit t, omega arith, sym (alike false _ _ (parted_over ps n d) refl (e ∷ w) k) ∙ h)
      by (figured x q) s f =
          let z : So (digit e) × (x ≡ e - 48) = subst (Shows e) q s in
          let r = f z.0 (parted_goes x w (subst (λ (g : Sign). TakenBy (state parted ps n d) g w b) q (by_sign _ e w b h))) in
          (r.0, one_digit t r.1, omega (arith, r.2), r.3)
      by (dotted q) s f = never (parted_point w (subst (λ (g : Sign). TakenBy (state parted ps n d) g w b) q (by_sign _ e w b h)))

  -- behind a point
  pointed_found : (w : List ℕ) → Taken (state pointed ps n d) w b → (r : List ℕ) × Digits w r × (length r < length w) × Taken (state (behind false) ps n d) r b
  unfolding act
  pointed_found [] h = never (at_end_lem _ b h)
  pointed_found (c ∷ w) h = by (sign c) (shows c) (by_sign _ c w b h)
    where
      by : (g : Sign) → Shows c g → TakenBy (state pointed ps n d) g w b → (r : List ℕ) × Digits (c ∷ w) r × (length r < suc (length w)) × Taken (state (behind false) ps n d) r b
      by space s q = never q
      by (figure x) s q = let r = parted_found w c s.0 q in (r.0, r.1, omega (arith, r.2), r.3)
      by opening s q = never q
      by closing s q = never q
      by comma s q = never q
      by colon s q = never q
      by point s q = never q
      by semicolon s q = never q
      by foreign s q = never q

  -- a length from its first digit c on, and what it leads to
  abbrev pub Lengthy : ℕ → List ℕ → Type 0
  Lengthy c w = (r : List ℕ) × (Digits (c ∷ w) r ⊎ ((y : List ℕ) × Digits (c ∷ w) (46 ∷ y) × Digits y r)) × (length r ≤ length w) × Taken (state (behind false) ps n d) r b

  one_longer : (c e : ℕ) (w r : List ℕ) → So (digit c) → Digits (e ∷ w) r ⊎ ((y : List ℕ) × Digits (e ∷ w) (46 ∷ y) × Digits y r)
      → Digits (c ∷ e ∷ w) r ⊎ ((y : List ℕ) × Digits (c ∷ e ∷ w) (46 ∷ y) × Digits y r)
  one_longer c e w r t (inl k) = inl (one_digit t k)
  one_longer c e w r t (inr k) = inr (k.0, one_digit t k.1, k.2)

  whole_goes : (x : ℕ) (w : List ℕ) → TakenBy (state whole ps n d) (figure x) w b → Taken (state whole ps n d) w b
  unfolding act
  whole_goes x w h = h

  whole_point : (w : List ℕ) → TakenBy (state whole ps n d) point w b → Taken (state pointed ps n d) w b
  unfolding act
  whole_point w h = h

  pub whole_found : (w : List ℕ) (c : ℕ) → So (digit c) → Taken (state whole ps n d) w b → Lengthy c w
  whole_found [] c t h = never (at_end_lem _ b h)
  whole_found (e ∷ w) c t h = by (look (sign e)) (shows e) (λ u. whole_found w e u)
    where
      by : SignCase (sign e) → Shows e (sign e) → (So (digit e) → Taken (state whole ps n d) w b → Lengthy e w) → Lengthy c (e ∷ w)
      by (clear k) s f = (e ∷ w, inl (last_digit t), omega arith, sym (alike false _ _ (whole_over ps n d) refl (e ∷ w) k) ∙ h)
      by (figured x q) s f =
          let z : So (digit e) × (x ≡ e - 48) = subst (Shows e) q s in
          let r = f z.0 (whole_goes x w (subst (λ (g : Sign). TakenBy (state whole ps n d) g w b) q (by_sign _ e w b h))) in
          (r.0, one_longer c e w r.0 t r.1, omega (arith, r.2), r.3)
      by (dotted q) s f =
          let z : e ≡ 46 = subst (Shows e) q s in
          let r = pointed_found w (whole_point w (subst (λ (g : Sign). TakenBy (state whole ps n d) g w b) q (by_sign _ e w b h))) in
          (r.0, inr (w, subst (λ (y : ℕ). Digits (c ∷ y ∷ w) (46 ∷ w)) (sym z) (last_digit t), r.1), omega (arith, r.2), r.3)

  -- behind a colon
  pub due_found : (w : List ℕ) → Taken (state due ps n d) w b → (c : ℕ) × (u : List ℕ) × Blanks w (c ∷ u) × So (digit c) × (length u < length w) × Taken (state whole ps n d) u b
  unfolding act
  due_found [] h = never (at_end_lem _ b h)
  due_found (c ∷ w) h = by (sign c) (shows c) (by_sign _ c w b h) (due_found w)
    where
      by : (g : Sign) → Shows c g → TakenBy (state due ps n d) g w b
          → (Taken (state due ps n d) w b → (e : ℕ) × (u : List ℕ) × Blanks w (e ∷ u) × So (digit e) × (length u < length w) × Taken (state whole ps n d) u b)
          → (e : ℕ) × (u : List ℕ) × Blanks (c ∷ w) (e ∷ u) × So (digit e) × (length u < suc (length w)) × Taken (state whole ps n d) u b
      by space s q f = let r = f q in (r.0, r.1, one_blank s r.2, r.3, omega (arith, r.4), r.5)
      by (figure x) s q f = (c, w, no_blank, s.0, omega arith, q)
      by opening s q f = never q
      by closing s q f = never q
      by comma s q f = never q
      by colon s q f = never q
      by point s q f = never q
      by semicolon s q f = never q
      by foreign s q f = never q
