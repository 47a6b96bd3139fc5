-- Texts of the form with their bodies, and texts of refusal 14 with their places: computed on the scan, said of `Form` and `Place`. Assumes nothing.
use mathlib.Core.List.{List, [], ◌∷◌, ◌++◌}
use mathlib.Core.Path.{◌≡◌, refl}
use Prim.Native.Nat.{ℕ, zero, suc, ◌-◌, ◌≤◌}
use native.Mathlib.Omega.{arith}
use lib.ListN.{length}
use Rattle.trees.specs.Trees.{Tree}
use Rattle.bodies.specs.Draws.{body_of}
use Rattle.newick.specs.Form.{Form}
use Rattle.newick.specs.Place.{Place}
use Rattle.newick.specs.Scan.{act, stuck, taken, past_limit, scan, scan_from}
use Rattle.newick.specs.Signs.{sign}
use Rattle.newick.specs.Within.{Within}
use Rattle.newick.proofs.Theorems.{refuses_exactly, takes_within}

-- w is a text of a tree within the limits, whose body is b
abbrev pub TextOf : List ℕ → List ℕ → Type 0
TextOf w b = (t : Tree) × Form t w × Within t × (b ≡ body_of t)

tells : (w b : List ℕ) → scan w ≡ taken b → TextOf w b
tells w b e = (takes_within w b).0 e

placed : (w : List ℕ) (p : ℕ) → p ≤ length w → scan w ≡ stuck (length w - p) → Place w p
placed w p l e = (refuses_exactly w p).1 (l, e)

-- k times the bytes u, and then v
abbrev pub times : ℕ → List ℕ → List ℕ → List ℕ
times zero u v = v
times (suc k) u v = u ++ times k u v

pub texts-read :
    -- ((0,1),2);
    TextOf (40 ∷ 40 ∷ 48 ∷ 44 ∷ 49 ∷ 41 ∷ 44 ∷ 50 ∷ 41 ∷ 59 ∷ []) (255 ∷ 255 ∷ 0 ∷ 255 ∷ 1 ∷ 0 ∷ 1 ∷ 1 ∷ 0 ∷ 2 ∷ [])
    -- (5);
    × TextOf (40 ∷ 53 ∷ 41 ∷ 59 ∷ []) (255 ∷ 255 ∷ 0 ∷ 5 ∷ [])
    -- 5;
    × TextOf (53 ∷ 59 ∷ []) (255 ∷ 5 ∷ [])
    -- 5:1;
    × TextOf (53 ∷ 58 ∷ 49 ∷ 59 ∷ []) (255 ∷ 5 ∷ [])
    --  5 : 1 ; \n\r
    × TextOf (32 ∷ 53 ∷ 32 ∷ 58 ∷ 32 ∷ 49 ∷ 32 ∷ 59 ∷ 32 ∷ 10 ∷ 13 ∷ []) (255 ∷ 5 ∷ [])
    -- 0:003;
    × TextOf (48 ∷ 58 ∷ 48 ∷ 48 ∷ 51 ∷ 59 ∷ []) (255 ∷ 0 ∷ [])
    -- 0: 1.50;
    × TextOf (48 ∷ 58 ∷ 32 ∷ 49 ∷ 46 ∷ 53 ∷ 48 ∷ 59 ∷ []) (255 ∷ 0 ∷ [])
    -- (0:1,(7,12):2.5):3;
    × TextOf (40 ∷ 48 ∷ 58 ∷ 49 ∷ 44 ∷ 40 ∷ 55 ∷ 44 ∷ 49 ∷ 50 ∷ 41 ∷ 58 ∷ 50 ∷ 46 ∷ 53 ∷ 41 ∷ 58 ∷ 51 ∷ 59 ∷ []) (255 ∷ 255 ∷ 0 ∷ 0 ∷ 0 ∷ 255 ∷ 2 ∷ 7 ∷ 2 ∷ 12 ∷ [])
    -- 254;
    × TextOf (50 ∷ 53 ∷ 52 ∷ 59 ∷ []) (255 ∷ 254 ∷ [])
    -- ( 0 , 1 ) ;
    × TextOf (40 ∷ 32 ∷ 48 ∷ 32 ∷ 44 ∷ 32 ∷ 49 ∷ 32 ∷ 41 ∷ 32 ∷ 59 ∷ []) (255 ∷ 255 ∷ 0 ∷ 0 ∷ 0 ∷ 1 ∷ [])
unfolding scan_from act past_limit sign
texts-read = (
  tells _ _ refl,
  tells _ _ refl,
  tells _ _ refl,
  tells _ _ refl,
  tells _ _ refl,
  tells _ _ refl,
  tells _ _ refl,
  tells _ _ refl,
  tells _ _ refl,
  tells _ _ refl,
)

pub texts-refused :
    -- the empty text
    Place ([]) 0
    -- 00;
    × Place (48 ∷ 48 ∷ 59 ∷ []) 1
    -- 01;
    × Place (48 ∷ 49 ∷ 59 ∷ []) 1
    -- 0 1;
    × Place (48 ∷ 32 ∷ 49 ∷ 59 ∷ []) 2
    -- 0:;
    × Place (48 ∷ 58 ∷ 59 ∷ []) 2
    -- 0:.5;
    × Place (48 ∷ 58 ∷ 46 ∷ 53 ∷ 59 ∷ []) 2
    -- 0:1.;
    × Place (48 ∷ 58 ∷ 49 ∷ 46 ∷ 59 ∷ []) 4
    -- 0:1.5;
    × Place (48 ∷ 58 ∷ 49 ∷ 32 ∷ 46 ∷ 53 ∷ 59 ∷ []) 4
    -- 0:1. 5;
    × Place (48 ∷ 58 ∷ 49 ∷ 46 ∷ 32 ∷ 53 ∷ 59 ∷ []) 4
    -- (0,1
    × Place (40 ∷ 48 ∷ 44 ∷ 49 ∷ []) 4
    -- ();
    × Place (40 ∷ 41 ∷ 59 ∷ []) 1
    -- (0,);
    × Place (40 ∷ 48 ∷ 44 ∷ 41 ∷ 59 ∷ []) 3
    -- (0,1)x;
    × Place (40 ∷ 48 ∷ 44 ∷ 49 ∷ 41 ∷ 120 ∷ 59 ∷ []) 5
    -- 0;;
    × Place (48 ∷ 59 ∷ 59 ∷ []) 2
    -- \t0;
    × Place (9 ∷ 48 ∷ 59 ∷ []) 0
    -- 255;
    × Place (50 ∷ 53 ∷ 53 ∷ 59 ∷ []) 2
    -- 1234;
    × Place (49 ∷ 50 ∷ 51 ∷ 52 ∷ 59 ∷ []) 3
    -- 0
    × Place (48 ∷ []) 1
    -- (0,1));
    × Place (40 ∷ 48 ∷ 44 ∷ 49 ∷ 41 ∷ 41 ∷ 59 ∷ []) 5
    -- 0,1;
    × Place (48 ∷ 44 ∷ 49 ∷ 59 ∷ []) 1
    -- 0:1:2;
    × Place (48 ∷ 58 ∷ 49 ∷ 58 ∷ 50 ∷ 59 ∷ []) 3
    -- (
    × Place (40 ∷ []) 1
    -- 64 brackets
    × Place (times 64 (40 ∷ []) (48 ∷ [])) 63
    -- a bracket of 128 leaves
    × Place (40 ∷ times 127 (48 ∷ 44 ∷ []) (48 ∷ 41 ∷ 59 ∷ [])) 253
unfolding scan_from act past_limit sign
texts-refused = (
  placed _ _ (omega arith) refl,
  placed _ _ (omega arith) refl,
  placed _ _ (omega arith) refl,
  placed _ _ (omega arith) refl,
  placed _ _ (omega arith) refl,
  placed _ _ (omega arith) refl,
  placed _ _ (omega arith) refl,
  placed _ _ (omega arith) refl,
  placed _ _ (omega arith) refl,
  placed _ _ (omega arith) refl,
  placed _ _ (omega arith) refl,
  placed _ _ (omega arith) refl,
  placed _ _ (omega arith) refl,
  placed _ _ (omega arith) refl,
  placed _ _ (omega arith) refl,
  placed _ _ (omega arith) refl,
  placed _ _ (omega arith) refl,
  placed _ _ (omega arith) refl,
  placed _ _ (omega arith) refl,
  placed _ _ (omega arith) refl,
  placed _ _ (omega arith) refl,
  placed _ _ (omega arith) refl,
  placed _ _ (omega arith) refl,
  placed _ _ (omega arith) refl,
)
