-- The scan takes each text of the form, and its body is that of the text's tree: limits aside (k is false), or kept (k is true) where the tree is within
-- them. Assumes nothing.
use mathlib.Core.Bool.{Bool, So, false, false≢true, true, ◌&&◌}
use mathlib.Core.List.{List, [], ◌∷◌, ◌++◌, append_assoc, append-nil}
use mathlib.Core.Path.{◌∙◌, ◌≡◌, ap, refl}
use Prim.Native.Nat.{ℕ, zero, suc, ◌+◌, ◌-◌, ◌*◌, ◌<◌, ◌≤◌}
use native.Mathlib.Omega.{arith}
use borrow.Author.Tests.{eqb-false, le-ltb, leb-true, ne_eqb, not-true}
use lib.Dec.{eqb, leb}
use lib.ListN.{length}
use Rattle.sets.proofs.Bools.{and_l}
use Rattle.trees.specs.Trees.{Forest, Tree}
use Rattle.bodies.specs.Draws.{body_of, bytes, bytes_f, node_count, node_count_f}
use Rattle.bodies.specs.Nodes.{inner_bytes, leaf_bytes, most_nodes}
use Rattle.newick.specs.Form.{Blanks, BranchLength, Digits, Form, Further, Subtrees, Number, Subtree, bracket, digit, last_digit, last_one, no_blank, no_further, no_length, nought, one_blank, one_digit, one_further, one_more, other, parted_length, lone, text, whole_length}
use Rattle.newick.specs.Scan.{Mode, State, act, at_end, behind, due, ended, outset, go, taken, number, past_limit, parted, pointed, scan, scan_from, start, state, innermost, whole}
use Rattle.newick.specs.Signs.{Sign, closing, colon, comma, figure, foreign, opening, point, semicolon, sign, space}
use Rattle.newick.specs.Within.{Within, height, height_f, largest_species, largest_species_f}
use Rattle.newick.proofs.Signs.{blank-sign, digit-sign}

-- neither a digit nor a point stands first
abbrev pub Clear : Sign → Type 0
Clear space = Unit {0}
Clear (figure x) = ⊥
Clear opening = Unit {0}
Clear closing = Unit {0}
Clear comma = Unit {0}
Clear colon = Unit {0}
Clear point = ⊥
Clear semicolon = Unit {0}
Clear foreign = Unit {0}

abbrev pub ClearFirst : List ℕ → Type 0
ClearFirst [] = Unit {0}
ClearFirst (b ∷ w) = Clear (sign b)

pub clear_blanks : {w r : List ℕ} → Blanks w r → ClearFirst r → ClearFirst w
clear_blanks no_blank c = c
clear_blanks (one_blank {b} h k) c = rw (blank-sign b h) tt

-- a limit that is not passed
pub kept : (k o : Bool) → (k ≡ true → o ≡ false) → (k && o) ≡ false
kept true o f = f refl
kept false o f = refl

-- one byte
pub on : (k : Bool) (s s' : State) (b : ℕ) (w : List ℕ) → (k ≡ true → past_limit s (sign b) ≡ false) → act s (sign b) ≡ go s' → scan_from k s (b ∷ w) ≡ scan_from k s' w
unfolding scan_from
on k s s' b w f e = rw (kept k (past_limit s (sign b)) f, e) refl

-- blanks, where they are skipped
pub skips : (k : Bool) (s : State) → act s space ≡ go s → past_limit s space ≡ false → {w r : List ℕ} → Blanks w r → scan_from k s w ≡ scan_from k s r
skips k s e f no_blank = refl
skips k s e f (one_blank {b} {w} {r} h x) = on k s s b w (λ t. ap (past_limit s) (blank-sign b h) ∙ f) (ap (act s) (blank-sign b h) ∙ e) ∙ skips k s e f x

-- two states that a digit or a point alone could tell apart
pub alike : (k : Bool) (s s' : State) → ((g : Sign) → Clear g → (act s g ≡ act s' g) × (past_limit s g ≡ past_limit s' g)) → at_end s ≡ at_end s' → (w : List ℕ) → ClearFirst w → scan_from k s w ≡ scan_from k s' w
unfolding scan_from
alike k s s' f e [] c = e
alike k s s' f e (b ∷ w) c = rw ((f (sign b) c).0, (f (sign b) c).1) refl

-- further digits never make a number less
further_most : {x v : ℕ} {w r : List ℕ} → Further x v w r → x ≤ v
further_most no_further = omega arith
further_most (one_further h g) = let m = further_most g in omega arith

module _ (ps : List ℕ) (n : ℕ) (d : List ℕ) where
  pub number-over : (v : ℕ) (g : Sign) → Clear g → (act (state (number v) ps n d) g ≡ act (state (behind true) ps (suc n) (d ++ leaf_bytes (innermost ps) v)) g) × (past_limit (state (number v) ps n d) g ≡ past_limit (state (behind true) ps (suc n) (d ++ leaf_bytes (innermost ps) v)) g)
  unfolding act past_limit
  number-over v space c = (refl, refl)
  number-over v (figure x) c = absurd c
  number-over v opening c = (refl, refl)
  number-over v closing c = (refl, refl)
  number-over v comma c = (refl, refl)
  number-over v colon c = (refl, refl)
  number-over v point c = (refl, refl)
  number-over v semicolon c = (refl, refl)
  number-over v foreign c = (refl, refl)

  pub whole_over : (g : Sign) → Clear g → (act (state whole ps n d) g ≡ act (state (behind false) ps n d) g) × (past_limit (state whole ps n d) g ≡ past_limit (state (behind false) ps n d) g)
  unfolding act past_limit
  whole_over space c = (refl, refl)
  whole_over (figure x) c = absurd c
  whole_over opening c = (refl, refl)
  whole_over closing c = (refl, refl)
  whole_over comma c = (refl, refl)
  whole_over colon c = (refl, refl)
  whole_over point c = absurd c
  whole_over semicolon c = (refl, refl)
  whole_over foreign c = (refl, refl)

  pub parted_over : (g : Sign) → Clear g → (act (state parted ps n d) g ≡ act (state (behind false) ps n d) g) × (past_limit (state parted ps n d) g ≡ past_limit (state (behind false) ps n d) g)
  unfolding act past_limit
  parted_over space c = (refl, refl)
  parted_over (figure x) c = absurd c
  parted_over opening c = (refl, refl)
  parted_over closing c = (refl, refl)
  parted_over comma c = (refl, refl)
  parted_over colon c = (refl, refl)
  parted_over point c = (refl, refl)
  parted_over semicolon c = (refl, refl)
  parted_over foreign c = (refl, refl)

  pub number-digit : (v b : ℕ) → 0 < v → So (digit b) → act (state (number v) ps n d) (sign b) ≡ go (state (number (10 * v + (b - 48))) ps n d)
  unfolding act
  number-digit zero b p h = absurd (omega arith)
  number-digit (suc v) b p h = rw (digit-sign b h) refl

  number-low : (v b : ℕ) → So (digit b) → 10 * v + (b - 48) ≤ 254 → past_limit (state (number v) ps n d) (sign b) ≡ false
  unfolding past_limit
  number-low v b h l = ap (past_limit (state (number v) ps n d)) (digit-sign b h) ∙ le-ltb 254 (10 * v + (b - 48)) l

  -- the further digits of a species number
  further_taken : (k : Bool) {x v : ℕ} {w r : List ℕ} → Further x v w r → 0 < x → (k ≡ true → v ≤ 254) → ClearFirst r
      → scan_from k (state (number x) ps n d) w ≡ scan_from k (state (behind true) ps (suc n) (d ++ leaf_bytes (innermost ps) v)) r
  further_taken k (no_further {v} {r}) p l c = alike k _ _ (number-over v) refl r c
  further_taken k (one_further {x} {v} {b} {w} {r} h g) p l c =
      on k _ _ b w (λ t. number-low x b h (let m = further_most g in omega (arith, l t))) (number-digit x b p h) ∙ further_taken k g (omega arith) l c

  pub start-digit : (b : ℕ) → So (digit b) → act (state start ps n d) (sign b) ≡ go (state (number (b - 48)) ps n d)
  unfolding act
  start-digit b h = rw (digit-sign b h) refl

  start-low : (b : ℕ) → So (digit b) → n < most_nodes → past_limit (state start ps n d) (sign b) ≡ false
  unfolding past_limit
  start-low b h l = ap (past_limit (state start ps n d)) (digit-sign b h) ∙ ne_eqb n most_nodes (λ e. omega arith)

  number_taken : (k : Bool) {v : ℕ} {w r : List ℕ} → Number v w r → (k ≡ true → (n < most_nodes) × (v ≤ 254)) → ClearFirst r
      → scan_from k (state start ps n d) w ≡ scan_from k (state (behind true) ps (suc n) (d ++ leaf_bytes (innermost ps) v)) r
  number_taken k (nought {r}) l c = on k _ _ 48 r (λ t. start-low 48 refl (l t).0) (start-digit 48 refl) ∙ alike k _ _ (number-over 0) refl r c
  number_taken k (other {v} {b} {w} {r} h z g) l c =
      let lo : 48 ≤ b = leb-true 48 b (and_l (leb 48 b) (leb b 57) h) in
      let ne : b ≡ 48 → ⊥ = eqb-false b 48 (not-true (eqb b 48) z) in
      on k _ _ b w (λ t. start-low b h (l t).0) (start-digit b h) ∙ further_taken k g (omega arith) (λ t. (l t).1) c

  due_digit : (b : ℕ) → So (digit b) → (act (state due ps n d) (sign b) ≡ go (state whole ps n d)) × (past_limit (state due ps n d) (sign b) ≡ false)
  unfolding act past_limit
  due_digit b h = (rw (digit-sign b h) refl, refl)

  whole_digit : (b : ℕ) → So (digit b) → (act (state whole ps n d) (sign b) ≡ go (state whole ps n d)) × (past_limit (state whole ps n d) (sign b) ≡ false)
  unfolding act past_limit
  whole_digit b h = (rw (digit-sign b h) refl, refl)

  pointed_digit : (b : ℕ) → So (digit b) → (act (state pointed ps n d) (sign b) ≡ go (state parted ps n d)) × (past_limit (state pointed ps n d) (sign b) ≡ false)
  unfolding act past_limit
  pointed_digit b h = (rw (digit-sign b h) refl, refl)

  parted_digit : (b : ℕ) → So (digit b) → (act (state parted ps n d) (sign b) ≡ go (state parted ps n d)) × (past_limit (state parted ps n d) (sign b) ≡ false)
  unfolding act past_limit
  parted_digit b h = (rw (digit-sign b h) refl, refl)

  -- a run of digits, from any state that the first one leads into s, where s stays with digits
  digits_taken : (k : Bool) (s₀ s : State) → ((b : ℕ) → So (digit b) → (act s₀ (sign b) ≡ go s) × (past_limit s₀ (sign b) ≡ false)) → ((b : ℕ) → So (digit b) → (act s (sign b) ≡ go s) × (past_limit s (sign b) ≡ false))
      → {w r : List ℕ} → Digits w r → scan_from k s₀ w ≡ scan_from k s r
  digits_taken k s₀ s e f (last_digit {b} {r} h) = on k s₀ s b r (λ t. (e b h).1) (e b h).0
  digits_taken k s₀ s e f (one_digit {b} {w} {r} h g) = on k s₀ s b w (λ t. (e b h).1) (e b h).0 ∙ digits_taken k s s f f g

  -- a length, or none
  branch_taken : (k : Bool) {w r : List ℕ} → BranchLength w r → ClearFirst r → (l : Bool) × (scan_from k (state (behind true) ps n d) w ≡ scan_from k (state (behind l) ps n d) r)
  unfolding act past_limit sign
  branch_taken k no_length c = (true, refl)
  branch_taken k (whole_length {w} {u} {x} {r} a b g) c = (
    false,
    skips k _ refl refl a ∙ on k _ _ 58 u (λ t. refl) refl ∙ skips k _ refl refl b ∙ digits_taken k (state due ps n d) (state whole ps n d) due_digit whole_digit g
        ∙ alike k _ _ whole_over refl r c,
  )
  branch_taken k (parted_length {w} {u} {x} {y} {r} a b g g') c = (
    false,
    skips k _ refl refl a ∙ on k _ _ 58 u (λ t. refl) refl ∙ skips k _ refl refl b ∙ digits_taken k (state due ps n d) (state whole ps n d) due_digit whole_digit g
        ∙ on k _ _ 46 y (λ t. refl) refl ∙ digits_taken k (state pointed ps n d) (state parted ps n d) pointed_digit parted_digit g' ∙ alike k _ _ parted_over refl r c,
  )

  open_low : length ps < 63 → n < most_nodes → past_limit (state start ps n d) opening ≡ false
  unfolding past_limit
  open_low a b = rw (ne_eqb (length ps) 63 (λ e. omega arith), ne_eqb n most_nodes (λ e. omega arith)) refl

pub clear_branch : {w r : List ℕ} → BranchLength w r → ClearFirst r → ClearFirst w
unfolding sign
clear_branch no_length c = c
clear_branch (whole_length a b g) c = clear_blanks a tt
clear_branch (parted_length a b g g') c = clear_blanks a tt

-- the state behind a subtree, from its draft
same_state : (k : Bool) (m : Mode) (ps : List ℕ) {n n' : ℕ} {d d' : List ℕ} → n ≡ n' → d ≡ d' → (r : List ℕ) → scan_from k (state m ps n d) r ≡ scan_from k (state m ps n' d') r
same_state k m ps e f r = rw (e, f) refl

-- below a depth of p, and with n nodes before it, a tree keeps the limits
abbrev pub Room : ℕ → ℕ → Tree → Type 0
Room p n t = (p + height t ≤ 63) × (n + node_count t ≤ most_nodes) × (largest_species t ≤ 254)

abbrev pub RoomF : ℕ → ℕ → Forest → Type 0
RoomF p n f = (suc p + height_f f ≤ 63) × (n + node_count_f f ≤ most_nodes) × (largest_species_f f ≤ 254)

mutual
  unfolding act past_limit sign

  pub subtree_taken : {t : Tree} {w r : List ℕ} → Subtree t w r → (k : Bool) (ps : List ℕ) (n : ℕ) (d : List ℕ) → (k ≡ true → Room (length ps) n t) → ClearFirst r
      → (l : Bool) × (scan_from k (state start ps n d) w ≡ scan_from k (state (behind l) ps (n + node_count t) (d ++ bytes t (innermost ps) n)) r)
  subtree_taken (lone {v} {w} {u} {x} {r} a m g) k ps n d h c =
      let e = branch_taken ps (suc n) (d ++ leaf_bytes (innermost ps) v) k g c in
      (e.0, skips k _ refl refl a ∙ number_taken ps n d k m (λ t. (omega (arith, (h t).1), (h t).2)) (clear_branch g c) ∙ e.1 ∙ same_state k (behind e.0) ps (omega arith) refl r)
  subtree_taken (bracket {f} {w} {u} {x} {r} a m g) k ps n d h c =
      let e = branch_taken ps (suc n + node_count_f f) ((d ++ inner_bytes (innermost ps)) ++ bytes_f f n (suc n)) k g c in (
        e.0,
        skips k _ refl refl a ∙ on k _ _ 40 u (λ t. open_low ps n d (omega (arith, (h t).0)) (omega (arith, (h t).1))) refl
            ∙ subtrees_taken m k n ps (suc n) (d ++ inner_bytes (innermost ps)) (λ t. (omega (arith, (h t).0), omega (arith, (h t).1), (h t).2)) ∙ e.1
            ∙ same_state k (behind e.0) ps (omega arith) (append_assoc d (inner_bytes (innermost ps)) (bytes_f f n (suc n))) r,
      )

  subtrees_taken : {f : Forest} {w r : List ℕ} → Subtrees f w r → (k : Bool) (p : ℕ) (ps : List ℕ) (n : ℕ) (d : List ℕ) → (k ≡ true → RoomF (length ps) n f)
      → scan_from k (state start (p ∷ ps) n d) w ≡ scan_from k (state (behind true) ps (n + node_count_f f) (d ++ bytes_f f p n)) r
  subtrees_taken (last_one {t} {w} {u} {r} m a) k p ps n d h =
      let e = subtree_taken m k (p ∷ ps) n d (λ t. (omega (arith, (h t).0), omega (arith, (h t).1), omega (arith, (h t).2))) (clear_blanks a tt) in
      e.1 ∙ skips k _ refl refl a ∙ on k _ _ 41 r (λ t. refl) refl ∙ same_state k (behind true) ps (omega arith) (rw append-nil refl) r
  subtrees_taken (one_more {t} {f} {w} {u} {x} {r} m a g) k p ps n d h =
      let e = subtree_taken m k (p ∷ ps) n d (λ t. (omega (arith, (h t).0), omega (arith, (h t).1), omega (arith, (h t).2))) (clear_blanks a tt) in
      e.1 ∙ skips k _ refl refl a ∙ on k _ _ 44 x (λ t. refl) refl
      ∙ subtrees_taken g k p ps (n + node_count t) (d ++ bytes t p n) (λ t. (omega (arith, (h t).0), omega (arith, (h t).1), omega (arith, (h t).2)))
      ∙ same_state k (behind true) ps (omega arith) (append_assoc d (bytes t p n) (bytes_f f p (n + node_count t))) r

ended_taken : (k : Bool) (ps : List ℕ) (n : ℕ) (d : List ℕ) → scan_from k (state ended ps n d) [] ≡ taken d
unfolding scan_from
ended_taken k ps n d = refl

both_taken : {t : Tree} {w : List ℕ} → Form t w → (k : Bool) → (k ≡ true → Within t) → scan_from k outset w ≡ taken (body_of t)
unfolding act past_limit sign
both_taken (text {t} {w} {u} {x} m a b) k h =
    let e = subtree_taken m k [] 0 [] (λ t. (omega (arith, (h t).depth), omega (arith, (h t).count), (h t).numbers)) (clear_blanks a tt) in
    e.1 ∙ skips k _ refl refl a ∙ on k _ _ 59 x (λ t. refl) refl ∙ skips k _ refl refl b ∙ ended_taken k [] (0 + node_count t) (body_of t)

-- the text of a tree, limits aside
pub form_taken : {t : Tree} {w : List ℕ} → Form t w → scan_from false outset w ≡ taken (body_of t)
form_taken h = both_taken h false (λ e. absurd (false≢true e))

-- the text of a tree within the limits
pub within_taken : {t : Tree} {w : List ℕ} → Form t w → Within t → scan w ≡ taken (body_of t)
within_taken h l = both_taken h true (λ e. l)
