-- How long the lines are: a species takes three bytes at most, and a tree no more than the longest text. Assumes nothing.
use mathlib.Core.Bool.{Bool, false, true}
use mathlib.Core.List.{List, [], ◌∷◌, ◌++◌}
use Prim.Native.Nat.{ℕ, zero, suc, ◌+◌, ◌*◌, ◌<◌, ◌≤◌}
use native.Mathlib.Nat.{pow-suc}
use native.Mathlib.Omega.{arith}
use lib.ListN.{length, length-append}
use Rattle.sets.specs.Sets.{has}
use Rattle.sets.specs.Species.{Species, from, members, put}
use Rattle.answers.specs.Inputs.{Body, Count}
use Rattle.writing.proofs.Digits.{decimal_short}
use Rattle.writing.specs.Texts.{decimal, spaced}
use Rattle.rendering.proofs.Texts.{body_longest}
use Rattle.rendering.specs.Texts.{newick_text, text_room}
use Rattle.species_text.specs.Lines.{species_line, tree_line}

-- the species below 64 have two digits at most
digits_few : (x : ℕ) → x < 64 → length (decimal x) ≤ 2
digits_few x h = decimal_short 1 x (omega (arith, pow-suc 10 1, pow-suc 10 0))

put_few : (b : Bool) (x : ℕ) (l : List ℕ) → x < 64 → length (spaced (put b x l)) ≤ 3 + length (spaced l)
put_few true x l h = omega (arith, length-append (decimal x) (spaced l), digits_few x h)
put_few false x l h = omega arith

from_few : (S : Species) (k at : ℕ) → at + k ≤ 64 → length (spaced (from at k S)) ≤ 3 * k
from_few S zero at h = omega arith
from_few S (suc k) at h = omega (arith, put_few (S at) at (from (suc at) k S) (omega arith), from_few S k (suc at) (omega arith))

members_few : (S : Species) → length (spaced (members 64 S)) ≤ 192
unfolding members
members_few S = from_few S 64 0 (omega arith)

pub species_few : (w : List ℕ) (s : ℕ) → length (species_line w s) ≤ length w + 193
species_few w s = omega (arith, length-append (w ++ spaced (members 64 (has s))) (10 ∷ []), length-append w (spaced (members 64 (has s))), members_few (has s))

pub tree_few : {n : ℕ} {b : List ℕ} → Count n → Body n b → (w : List ℕ) → length (tree_line w b) ≤ length w + text_room + 1
tree_few {b = b} c g w = omega (arith, length-append (w ++ newick_text b) (10 ∷ []), length-append w (newick_text b), body_longest c g)
