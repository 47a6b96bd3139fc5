-- Bodies with their texts, and a body whose text is as long as a text can be: computed on the definitions. Assumes nothing.
use mathlib.Core.Bool.{So, false≢true}
use mathlib.Core.List.{List, [], ◌∷◌}
use mathlib.Core.Path.{◌∙◌, ◌≡◌, ap, refl}
use Prim.Native.Nat.{ℕ, zero, suc, ◌+◌, ◌<◌}
use native.Mathlib.Omega.{arith}
use borrow.Author.Tests.{eqb-true}
use lib.Dec.{eqb}
use lib.ListN.{length}
use Rattle.sets.proofs.Bools.{or_case}
use Rattle.sets.specs.Species.{Below}
use Rattle.trees.proofs.Formed.{formed_e}
use Rattle.trees.proofs.Lowest.{housed_e}
use Rattle.trees.proofs.Unique.{house_same}
use Rattle.trees.specs.Trees.{Tree, cons, house, in_house_order, leaf, nil, node, under, well_formed}
use Rattle.bodies.proofs.Back.{body_back, body_bad_length, body_good}
use Rattle.bodies.specs.Draws.{body_of, tree_at, tree_of}
use Rattle.bodies.specs.Nodes.{children}
use Rattle.answers.specs.Inputs.{Body}
use Rattle.writing.specs.Texts.{digits_in}
use Rattle.rendering.specs.Texts.{newick_text, text_of, text_room}

pub texts-written :
    -- 5;
    (newick_text (255 ∷ 5 ∷ []) ≡ 53 ∷ 59 ∷ [])
    -- (10,63);
    × (newick_text (255 ∷ 255 ∷ 0 ∷ 63 ∷ 0 ∷ 10 ∷ []) ≡ 40 ∷ 49 ∷ 48 ∷ 44 ∷ 54 ∷ 51 ∷ 41 ∷ 59 ∷ [])
    -- (0,1,2);
    × (newick_text (255 ∷ 255 ∷ 0 ∷ 1 ∷ 0 ∷ 2 ∷ 0 ∷ 0 ∷ []) ≡ 40 ∷ 48 ∷ 44 ∷ 49 ∷ 44 ∷ 50 ∷ 41 ∷ 59 ∷ [])
    -- (0,(1,2)); from ((2,1),0)
    × (newick_text (255 ∷ 255 ∷ 0 ∷ 255 ∷ 1 ∷ 2 ∷ 1 ∷ 1 ∷ 0 ∷ 0 ∷ []) ≡ 40 ∷ 48 ∷ 44 ∷ 40 ∷ 49 ∷ 44 ∷ 50 ∷ 41 ∷ 41 ∷ 59 ∷ [])
    -- ((0,9),(1,7)); its groups in another order of nodes
    × (newick_text (255 ∷ 255 ∷ 0 ∷ 255 ∷ 0 ∷ 255 ∷ 1 ∷ 7 ∷ 2 ∷ 0 ∷ 1 ∷ 1 ∷ 2 ∷ 9 ∷ []) ≡ 40 ∷ 40 ∷ 48 ∷ 44 ∷ 57 ∷ 41 ∷ 44 ∷ 40 ∷ 49 ∷ 44 ∷ 55 ∷ 41 ∷ 41 ∷ 59 ∷ [])
unfolding tree_at children digits_in
texts-written = (refl, refl, refl, refl, refl)

-- ---- 64 species, fully nested

abbrev chain : ℕ → ℕ → Tree
chain zero x = leaf x
chain (suc k) x = node (cons (leaf x) (cons (chain k (suc x)) nil))

chain_below : (k x y : ℕ) → So (under (chain k x) y) → y < x + suc k
chain_below zero x y h = let e = eqb-true x y h in omega arith
chain_below (suc k) x y h = or_case (eqb x y) _ h (λ q. let e = eqb-true x y q in omega arith)
    (λ q. or_case (under (chain k (suc x)) y) _ q (λ r. omega (arith, chain_below k (suc x) y r)) (λ r. absurd (false≢true r)))

unfoldable nested : Tree
nested = chain 63 0

nested_below : Below 64 (under nested)
unfolding nested
nested_below x h = omega (arith, chain_below 63 0 x h)

nested_formed : So (well_formed nested)
unfolding nested
nested_formed = refl

nested_housed : So (in_house_order nested)
unfolding nested
nested_housed = refl

nested_length : length (text_of nested) ≡ text_room
unfolding nested digits_in
nested_length = refl

-- a good body of 64 species has the longest text
pub longest_reached : (b : List ℕ) × Body 64 b × (length (newick_text b) ≡ text_room)
longest_reached =
    let w = formed_e nested nested_formed in
    let e : house (tree_of (body_of nested)) ≡ nested = ap house (body_back 64 nested nested_formed nested_below (omega arith)) ∙ house_same nested w (housed_e nested w nested_housed) in (
      body_of nested,
      record { good = body_good 64 nested nested_formed nested_below (omega arith); long = body_bad_length 64 nested nested_formed nested_below (omega arith) },
      ap (λ (t : Tree). length (text_of t)) e ∙ nested_length,
    )
