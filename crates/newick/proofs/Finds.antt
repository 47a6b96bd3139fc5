-- Whatever the scan takes, limits aside, is a text of the form, and the body is that of its tree. Assumes nothing.
use mathlib.Core.Bool.{Bool, So, false, false≢true, true}
use mathlib.Core.List.{List, [], ◌∷◌, ◌++◌, append_assoc, append-nil}
use mathlib.Core.Logic.{◌⊎◌, inl, inr}
use mathlib.Core.Path.{◌≡◌, ap, refl, subst, sym}
use Prim.Native.Nat.{ℕ, zero, suc, ◌+◌, ◌-◌, ◌*◌, ◌<◌, ◌≤◌}
use native.Mathlib.Omega.{arith}
use lib.ListN.{length}
use Rattle.trees.specs.Trees.{Forest, Tree, cons, leaf, nil, node}
use Rattle.bodies.specs.Draws.{body_of, bytes, bytes_f, node_count, node_count_f}
use Rattle.bodies.specs.Nodes.{inner_bytes, none}
use Rattle.newick.specs.Form.{Blanks, BranchLength, Digits, Form, Subtrees, Subtree, blank, bracket, digit, last_one, no_blank, no_length, one_blank, one_more, parted_length, lone, text, whole_length}
use Rattle.newick.specs.Scan.{Mode, act, behind, due, ended, outset, taken, number, scan_from, start, state, innermost}
use Rattle.newick.specs.Signs.{Sign, closing, colon, comma, figure, foreign, opening, point, semicolon, sign, space}
use Rattle.newick.proofs.Signs.{Shows, shows}
use Rattle.newick.proofs.Numbers.{Taken, TakenBy, at_end_lem, by_sign, due_found, never, number-found, whole_found}

-- ---- what stands behind a subtree

-- what closes it, and the reading from there on
data Closed (ps : List ℕ) (n : ℕ) (d b r : List ℕ) : Type 0 where
  by_bracket : (p : ℕ) (qs u : List ℕ) → ps ≡ p ∷ qs → Blanks r (41 ∷ u) → length u < length r → Taken (state (behind true) qs n d) u b → Closed ps n d b r
  by_comma : (p : ℕ) (qs u : List ℕ) → ps ≡ p ∷ qs → Blanks r (44 ∷ u) → length u < length r → Taken (state start ps n d) u b → Closed ps n d b r
  by_semicolon : (u : List ℕ) → ps ≡ [] → Blanks r (59 ∷ u) → Taken (state ended [] n d) u b → Closed ps n d b r

-- a colon first, or what closes it
data Behind (l : Bool) (ps : List ℕ) (n : ℕ) (d b r : List ℕ) : Type 0 where
  closed : Closed ps n d b r → Behind l ps n d b r
  longer : (u : List ℕ) → l ≡ true → Blanks r (58 ∷ u) → length u < length r → Taken (state due ps n d) u b → Behind l ps n d b r

blank_behind : {l : Bool} {ps : List ℕ} {n : ℕ} {d b w : List ℕ} (c : ℕ) → So (blank c) → Behind l ps n d b w → Behind l ps n d b (c ∷ w)
blank_behind c s (closed (by_bracket p qs u e k h g)) = closed (by_bracket p qs u e (one_blank s k) (omega arith) g)
blank_behind c s (closed (by_comma p qs u e k h g)) = closed (by_comma p qs u e (one_blank s k) (omega arith) g)
blank_behind c s (closed (by_semicolon u e k g)) = closed (by_semicolon u e (one_blank s k) g)
blank_behind c s (longer u e k h g) = longer u e (one_blank s k) (omega arith) g

module _ (n : ℕ) (d b : List ℕ) where
  shut-found : (l : Bool) (ps w : List ℕ) (c : ℕ) → c ≡ 41 → TakenBy (state (behind l) ps n d) closing w b → Behind l ps n d b (c ∷ w)
  unfolding act
  shut-found l [] w c e h = never h
  shut-found l (p ∷ ps) w c e h = rw e (closed (by_bracket p ps w refl no_blank (omega arith) h))

  again-found : (l : Bool) (ps w : List ℕ) (c : ℕ) → c ≡ 44 → TakenBy (state (behind l) ps n d) comma w b → Behind l ps n d b (c ∷ w)
  unfolding act
  again-found l [] w c e h = never h
  again-found l (p ∷ ps) w c e h = rw e (closed (by_comma p ps w refl no_blank (omega arith) h))

  finish-found : (l : Bool) (ps w : List ℕ) (c : ℕ) → c ≡ 59 → TakenBy (state (behind l) ps n d) semicolon w b → Behind l ps n d b (c ∷ w)
  unfolding act
  finish-found l [] w c e h = rw e (closed (by_semicolon w refl no_blank h))
  finish-found l (p ∷ ps) w c e h = never h

  colon_found : (l : Bool) (ps w : List ℕ) (c : ℕ) → c ≡ 58 → TakenBy (state (behind l) ps n d) colon w b → Behind l ps n d b (c ∷ w)
  unfolding act
  colon_found true ps w c e h = rw e (longer w refl no_blank (omega arith) h)
  colon_found false ps w c e h = never h

  behind_found : (w : List ℕ) (l : Bool) (ps : List ℕ) → Taken (state (behind l) ps n d) w b → Behind l ps n d b w
  unfolding act
  behind_found [] l ps h = never (at_end_lem _ b h)
  behind_found (c ∷ w) l ps h = by (sign c) (shows c) (by_sign _ c w b h) (behind_found w l ps)
    where
      by : (g : Sign) → Shows c g → TakenBy (state (behind l) ps n d) g w b → (Taken (state (behind l) ps n d) w b → Behind l ps n d b w) → Behind l ps n d b (c ∷ w)
      by space s q f = blank_behind c s (f q)
      by (figure x) s q f = never q
      by opening s q f = never q
      by closing s q f = shut-found l ps w c s q
      by comma s q f = again-found l ps w c s q
      by colon s q f = colon_found l ps w c s q
      by point s q f = never q
      by semicolon s q f = finish-found l ps w c s q
      by foreign s q f = never q

  -- a length or none, and what closes the subtree
  branch_found : (w ps : List ℕ) → Taken (state (behind true) ps n d) w b → (r : List ℕ) × BranchLength w r × (length r ≤ length w) × Closed ps n d b r
  branch_found w ps h = by (behind_found w true ps h)
    where
      without : (r : List ℕ) → Behind false ps n d b r → Closed ps n d b r
      without r (closed k) = k
      without r (longer u e k z g) = absurd (false≢true e)

      given : (c : ℕ) (u v x : List ℕ) → Blanks w (58 ∷ u) → Blanks u (c ∷ v) → (Digits (c ∷ v) x ⊎ ((y : List ℕ) × Digits (c ∷ v) (46 ∷ y) × Digits y x)) → BranchLength w x
      given c u v x k k' (inl g) = whole_length k k' g
      given c u v x k k' (inr g) = parted_length k k' g.1 g.2

      by : Behind true ps n d b w → (r : List ℕ) × BranchLength w r × (length r ≤ length w) × Closed ps n d b r
      by (closed k) = (w, no_length, omega arith, k)
      by (longer u e k z g) =
          let q = due_found ps n d b u g in
          let x = whole_found ps n d b q.1 q.0 q.3 q.5 in
          (x.0, given q.0 u q.1 x.0 k q.2 x.1, omega (arith, x.2, q.4), without x.0 (behind_found x.0 false ps x.3))

-- ---- subtrees

-- how a subtree begins
data Begun (ps : List ℕ) (n : ℕ) (d b w : List ℕ) : Type 0 where
  by_digit : (c : ℕ) (u : List ℕ) → Blanks w (c ∷ u) → So (digit c) → length u < length w → Taken (state (number (c - 48)) ps n d) u b → Begun ps n d b w
  by_opening : (u : List ℕ) → Blanks w (40 ∷ u) → length u < length w → Taken (state start (n ∷ ps) (suc n) (d ++ inner_bytes (innermost ps))) u b → Begun ps n d b w

blank_begun : {ps : List ℕ} {n : ℕ} {d b w : List ℕ} (c : ℕ) → So (blank c) → Begun ps n d b w → Begun ps n d b (c ∷ w)
blank_begun c s (by_digit e u k t h g) = by_digit e u (one_blank s k) t (omega arith) g
blank_begun c s (by_opening u k h g) = by_opening u (one_blank s k) (omega arith) g

begun_found : (ps : List ℕ) (n : ℕ) (d b w : List ℕ) → Taken (state start ps n d) w b → Begun ps n d b w
unfolding act
begun_found ps n d b [] h = never (at_end_lem _ b h)
begun_found ps n d b (c ∷ w) h = by (sign c) (shows c) (by_sign _ c w b h) (begun_found ps n d b w)
  where
    by : (g : Sign) → Shows c g → TakenBy (state start ps n d) g w b → (Taken (state start ps n d) w b → Begun ps n d b w) → Begun ps n d b (c ∷ w)
    by space s q f = blank_begun c s (f q)
    by (figure x) s q f = by_digit c w no_blank s.0 (omega arith) (subst (λ (y : ℕ). Taken (state (number y) ps n d) w b) s.1 q)
    by opening s q f = subst (λ (y : ℕ). Begun ps n d b (y ∷ w)) (sym s) (by_opening w no_blank (omega arith) q)
    by closing s q f = never q
    by comma s q f = never q
    by colon s q f = never q
    by point s q f = never q
    by semicolon s q f = never q
    by foreign s q f = never q

record Found (ps : List ℕ) (n : ℕ) (d b w : List ℕ) : Type 0 where
  tree : Tree
  rest : List ℕ
  is : Subtree tree w rest
  shorter : length rest < length w
  then : Closed ps (n + node_count tree) (d ++ bytes tree (innermost ps) n) b rest

record FoundList (p : ℕ) (ps : List ℕ) (n : ℕ) (d b w : List ℕ) : Type 0 where
  forest : Forest
  rest : List ℕ
  is : Subtrees forest w rest
  shorter : length rest < length w
  then : Taken (state (behind true) ps (n + node_count_f forest) (d ++ bytes_f forest p n)) rest b

same_closed : {ps : List ℕ} {n n' : ℕ} {d d' b r : List ℕ} → n ≡ n' → d ≡ d' → Closed ps n d b r → Closed ps n' d' b r
same_closed {ps} {n} {n'} {d} {d'} {b} {r} e f k = subst (λ (x : List ℕ). Closed ps n' x b r) f (subst (λ (m : ℕ). Closed ps m d b r) e k)

same_good : (m : Mode) (ps : List ℕ) {n n' : ℕ} {d d' : List ℕ} (r b : List ℕ) → n ≡ n' → d ≡ d' → Taken (state m ps n d) r b → Taken (state m ps n' d') r b
same_good m ps {n} {n'} {d} {d'} r b e f k = subst (λ (x : List ℕ). Taken (state m ps n' x) r b) f (subst (λ (y : ℕ). Taken (state m ps y d) r b) e k)

-- a subtree that begins with a digit
leaf_found : (ps : List ℕ) (n : ℕ) (d b w : List ℕ) (c : ℕ) (u : List ℕ) → Blanks w (c ∷ u) → So (digit c) → length u < length w → Taken (state (number (c - 48)) ps n d) u b → Found ps n d b w
leaf_found ps n d b w c u k t h g =
    let x = number-found ps n d b c u t g in
    let z = branch_found (suc n) (d ++ (innermost ps ∷ x.0 ∷ [])) b x.1 ps x.4 in
    record { tree = leaf x.0; rest = z.0; is = lone k x.2 z.1; shorter = omega (arith, x.3, z.2); then = same_closed (omega arith) refl z.3 }

-- a subtree that is a bracket
node_found : (ps : List ℕ) (n : ℕ) (d b w u : List ℕ) → Blanks w (40 ∷ u) → length u < length w → FoundList n ps (suc n) (d ++ inner_bytes (innermost ps)) b u → Found ps n d b w
node_found ps n d b w u k h x =
    let z = branch_found (suc n + node_count_f x.forest) ((d ++ inner_bytes (innermost ps)) ++ bytes_f x.forest n (suc n)) b x.rest ps x.then in
    record {
      tree = node x.forest;
      rest = z.0;
      is = bracket k x.is z.1;
      shorter = omega (arith, x.shorter, z.2);
      then = same_closed (omega arith) (append_assoc d (inner_bytes (innermost ps)) (bytes_f x.forest n (suc n))) z.3;
    }

-- a list that goes on or ends behind its first subtree
list_goes : (p : ℕ) (ps : List ℕ) (n : ℕ) (d b w : List ℕ) (x : Found (p ∷ ps) n d b w)
    → ((u : List ℕ) → length u < length x.rest → Taken (state start (p ∷ ps) (n + node_count x.tree) (d ++ bytes x.tree p n)) u b → FoundList p ps (n + node_count x.tree) (d ++ bytes x.tree p n) b u)
    → Closed (p ∷ ps) (n + node_count x.tree) (d ++ bytes x.tree p n) b x.rest → FoundList p ps n d b w
list_goes p ps n d b w x f (by_bracket q qs u e k h g) =
    let z : qs ≡ ps = cc in
    record {
      forest = cons x.tree nil;
      rest = u;
      is = last_one x.is k;
      shorter = omega (arith, x.shorter);
      then = same_good (behind true) ps u b (omega arith) (ap (λ (l : List ℕ). d ++ l) (sym (append-nil (bytes x.tree p n)))) (subst (λ (l : List ℕ). Taken (state (behind true) l (n + node_count x.tree) (d ++ bytes x.tree p n)) u b) z g);
    }
list_goes p ps n d b w x f (by_comma q qs u e k h g) =
    let y = f u h g in
    record {
      forest = cons x.tree y.forest;
      rest = y.rest;
      is = one_more x.is k y.is;
      shorter = omega (arith, x.shorter, y.shorter);
      then = same_good (behind true) ps y.rest b (omega arith) (append_assoc d (bytes x.tree p n) (bytes_f y.forest p (n + node_count x.tree))) y.then;
    }
list_goes p ps n d b w x f (by_semicolon u e k g) = absurd (let z : ◌≡◌ {A = ℕ} 0 1 = cc in omega arith)

begun_on : (ps : List ℕ) (n : ℕ) (d b w : List ℕ) → Begun ps n d b w
    → ((u : List ℕ) → length u < length w → Taken (state start (n ∷ ps) (suc n) (d ++ inner_bytes (innermost ps))) u b → FoundList n ps (suc n) (d ++ inner_bytes (innermost ps)) b u)
    → Found ps n d b w
begun_on ps n d b w (by_digit c u k t h g) f = leaf_found ps n d b w c u k t h g
begun_on ps n d b w (by_opening u k h g) f = node_found ps n d b w u k h (f u h g)

-- the bytes left and the kind of the call bound how deep the search goes
mutual
  subtree-found : (f : ℕ) (ps : List ℕ) (n : ℕ) (d b w : List ℕ) → 2 * length w < f → Taken (state start ps n d) w b → Found ps n d b w
  subtree-found zero ps n d b w l h = absurd (omega arith)
  subtree-found (suc f) ps n d b w l h = begun_on ps n d b w (begun_found ps n d b w h) (λ u q g. listed_found f n ps (suc n) (d ++ inner_bytes (innermost ps)) b u (omega arith) g)

  listed_found : (f : ℕ) (p : ℕ) (ps : List ℕ) (n : ℕ) (d b w : List ℕ) → 2 * length w + 1 < f → Taken (state start (p ∷ ps) n d) w b → FoundList p ps n d b w
  listed_found zero p ps n d b w l h = absurd (omega arith)
  listed_found (suc f) p ps n d b w l h =
      let x = subtree-found f (p ∷ ps) n d b w (omega arith) h in
      list_goes p ps n d b w x (λ u q g. listed_found f p ps (n + node_count x.tree) (d ++ bytes x.tree p n) b u (omega (arith, x.shorter)) g) x.then

ended-found : (ps : List ℕ) (n : ℕ) (d b w : List ℕ) → Taken (state ended ps n d) w b → Blanks w [] × (d ≡ b)
unfolding act
ended-found ps n d b [] h = (no_blank, let e = at_end_lem (state ended ps n d) b h in cc)
ended-found ps n d b (c ∷ w) h = by (sign c) (shows c) (by_sign _ c w b h) (ended-found ps n d b w)
  where
    by : (g : Sign) → Shows c g → TakenBy (state ended ps n d) g w b → (Taken (state ended ps n d) w b → Blanks w [] × (d ≡ b)) → Blanks (c ∷ w) [] × (d ≡ b)
    by space s q f = let r = f q in (one_blank s r.0, r.1)
    by (figure x) s q f = never q
    by opening s q f = never q
    by closing s q f = never q
    by comma s q f = never q
    by colon s q f = never q
    by point s q f = never q
    by semicolon s q f = never q
    by foreign s q f = never q

-- a text that is taken has the form, and its body is that of its tree
pub form_found : (w b : List ℕ) → scan_from false outset w ≡ taken b → (t : Tree) × Form t w × (b ≡ body_of t)
form_found w b h = by x.then
  where
    x : Found [] 0 [] b w
    x = subtree-found (suc (2 * length w)) [] 0 [] b w (omega arith) h

    by : Closed [] (0 + node_count x.tree) (bytes x.tree none 0) b x.rest → (t : Tree) × Form t w × (b ≡ body_of t)
    by (by_bracket p qs u e k l g) = absurd (let z : ◌≡◌ {A = ℕ} 0 1 = cc in omega arith)
    by (by_comma p qs u e k l g) = absurd (let z : ◌≡◌ {A = ℕ} 0 1 = cc in omega arith)
    by (by_semicolon u e k g) =
        let y = ended-found [] (0 + node_count x.tree) (body_of x.tree) b u g in
        (x.tree, text x.is k y.0, sym y.1)
