-- Each useless loosener breaks what is promised of loosening. Assumes nothing.
use mathlib.Core.Bool.{So, false≢true}
use mathlib.Core.List.Memᴰ
use mathlib.Core.List.{List, [], ◌∷◌}
use mathlib.Core.Logic.{◌≢◌}
use mathlib.Core.Path.{◌∙◌, ◌≡◌, ap, refl, subst, sym}
use Prim.Native.Nat.{ℕ}
use native.Mathlib.Omega.{arith}
use lib.ListN.{length-replicate, replicate, take}
use Rattle.sets.specs.Sets.{digit, number}
use Rattle.sets.specs.Species.{Species, below, members}
use Rattle.trees.specs.Check.{PC}
use Rattle.trees.specs.Links.{leads, part}
use Rattle.trees.specs.Loosen.{Loosened, loosen_in, loosened}
use Rattle.trees.specs.Trees.{Group, Tree, cons, groups, house, leaf, nil, node, under}
use Rattle.trees.specs.Triplets.{Triplets}
use Rattle.tables.specs.Bytes.{bit_of, entered, over, place_of}
use Rattle.triples.specs.Find.{at, first_from, first_triple}
use Rattle.triples.specs.Index.{C, high_at, index, largest, low_at, mid_at}
use Rattle.rules.proofs.Rules.{no_fault}
use Rattle.bodies.specs.Draws.{node_count, tree_at, tree_of, written}
use Rattle.rules.specs.Faults.{fault, first_break, seen}
use Rattle.bodies.specs.Nodes.{children, nodes}
use Rattle.refusals.specs.Told.{dropped_count, number_of_nodes, told, value}
use Rattle.checking.specs.Checks.{first_differs}
use Rattle.easing.specs.Eases.{Lent, lent, numbers}
use Rattle.promises.specs.Demand2.{front}
use Rattle.promises.specs.Inputs.{Loosenable}
use Rattle.promises.specs.Loosening.{LoosensAll}
use Rattle.promises.specs.Operations.{GivenOf, Loosener, gives, loosens}
use Rattle.promises.specs.Runs.{cherry_body, room}
use Rattle.promises.specs.UselessLooseners.{DroppingAllBreaks, DroppingNoneBreaks, EachBreaks, OnePassBreaks, Strays, StrayingBreaks, flattened, in_order', laying, passed_over, swept, untouched}
use Rattle.promises.proofs.Accepted.{pc_pass}
use Rattle.promises.proofs.Chosen.{value_is}
use Rattle.promises.proofs.Loosened.{good_loosened, loosens_is, one_loosening}
use Rattle.promises.proofs.Runs.{all_good}
use Rattle.promises.proofs.Useless.{cherry_full, on_zero_lem}

pub straying_breaks : StrayingBreaks
straying_breaks f s a = s.other (one_loosening f loosens a good_loosened s.n s.t s.b s.o s.d s.good s.pc)

-- ---- good input: a list of 62 places, and a room of zeros

abbrev places : List ℕ
places = replicate 62 0

-- ((0,1),2), where 01|2 is entered: nothing is dropped
said_good : Loosenable 3 (1 ∷ []) cherry_body (room 3) places
unfolding C over
said_good = record {
  count = (all_good 3 (1 ∷ []) (omega arith) (omega arith) refl refl).count;
  table = (all_good 3 (1 ∷ []) (omega arith) (omega arith) refl refl).table;
  body = cherry_full.body;
  tree_room = omega arith;
  list = omega (arith, length-replicate {A = ℕ} 62 0);
}

said_pc : PC (entered (1 ∷ [])) (below 3) (tree_of cherry_body)
unfolding digit bit_of entered place_of first_differs at first_triple first_from C high_at index largest low_at mid_at tree_at children
said_pc = (pc_pass 3 (1 ∷ []) cherry_body (record { count = said_good.count; table = said_good.table; body = said_good.body })).0 refl

-- and where nothing is entered: the group goes
unsaid_good : Loosenable 3 (0 ∷ []) cherry_body (room 3) places
unfolding C over
unsaid_good = record {
  count = (all_good 3 (0 ∷ []) (omega arith) (omega arith) refl refl).count;
  table = (all_good 3 (0 ∷ []) (omega arith) (omega arith) refl refl).table;
  body = cherry_full.body;
  tree_room = omega arith;
  list = omega (arith, length-replicate {A = ℕ} 62 0);
}

unsaid_pc : PC (entered (0 ∷ [])) (below 3) (tree_of cherry_body)
unfolding digit bit_of entered place_of first_differs at first_triple first_from C high_at index largest low_at mid_at tree_at children
unsaid_pc = (pc_pass 3 (0 ∷ []) cherry_body (record { count = unsaid_good.count; table = unsaid_good.table; body = unsaid_good.body })).0 refl

-- ((0,1),(2,3)), where 01|2 alone is entered: {0,1} is earned beside {2,3}, which is not; once that one is gone {0,1} stands beside 3, and goes too
abbrev two_pairs : List ℕ
two_pairs = 255 ∷ 255 ∷ 0 ∷ 255 ∷ 1 ∷ 0 ∷ 1 ∷ 1 ∷ 0 ∷ 255 ∷ 4 ∷ 2 ∷ 4 ∷ 3 ∷ []

abbrev one_said : List ℕ
one_said = 1 ∷ 0 ∷ 0 ∷ 0 ∷ []

pairs_good : Loosenable 4 one_said two_pairs (room 4) places
unfolding C over fault first_break seen children
pairs_good = record {
  count = (all_good 4 one_said (omega arith) (omega arith) refl refl).count;
  table = (all_good 4 one_said (omega arith) (omega arith) refl refl).table;
  body = record { good = (no_fault 0 4 (nodes two_pairs)).0 refl; long = refl };
  tree_room = omega arith;
  list = omega (arith, length-replicate {A = ℕ} 62 0);
}

pairs_pc : PC (entered one_said) (below 4) (tree_of two_pairs)
unfolding digit bit_of entered place_of first_differs at first_triple first_from C high_at index largest low_at mid_at tree_at children
pairs_pc = (pc_pass 4 one_said two_pairs (record { count = pairs_good.count; table = pairs_good.table; body = pairs_good.body })).0 refl

-- ---- what ours gives there, and so whatever keeps the promise

module _ (f : Loosener) (a : LoosensAll f) where
  said_given : f 3 (1 ∷ []) cherry_body (room 3) places ≡ gives (told 0 (value number_of_nodes 5 ∷ value dropped_count 0 ∷ [])) (lent (written (room 3) cherry_body) places)
  unfolding loosened loosen_in part members leads digit bit_of entered place_of index C tree_at children
  said_given = one_loosening f loosens a good_loosened 3 (1 ∷ []) cherry_body (room 3) places said_good said_pc ∙ loosens_is 3 (1 ∷ []) cherry_body (room 3) places said_good said_pc

  unsaid_told : (f 3 (0 ∷ []) cherry_body (room 3) places).told ≡ told 0 (value number_of_nodes 4 ∷ value dropped_count 1 ∷ [])
  unfolding loosened loosen_in part members leads digit bit_of entered place_of index C tree_at children
  unsaid_told = ap (λ (g : GivenOf Lent). g.told)
      (one_loosening f loosens a good_loosened 3 (0 ∷ []) cherry_body (room 3) places unsaid_good unsaid_pc ∙ loosens_is 3 (0 ∷ []) cherry_body (room 3) places unsaid_good unsaid_pc)

  pairs_given : ((f 4 one_said two_pairs (room 4) places).told ≡ told 0 (value number_of_nodes 5 ∷ value dropped_count 2 ∷ [])) × ((f 4 one_said two_pairs (room 4) places).after.list ≡ written places (12 ∷ 3 ∷ []))
  unfolding loosened loosen_in part members leads number digit bit_of entered place_of index C tree_at children
  pairs_given =
      let e = one_loosening f loosens a good_loosened 4 one_said two_pairs (room 4) places pairs_good pairs_pc ∙ loosens_is 4 one_said two_pairs (room 4) places pairs_good pairs_pc in
      (ap (λ (g : GivenOf Lent). g.told) e, ap (λ (g : GivenOf Lent). g.after.list) e)

-- ---- the kinds

pub dropping_all_breaks : DroppingAllBreaks
unfolding tree_at children
dropping_all_breaks f all a =
    let e = said_given f a in
    let G : Species = under (node (cons (leaf 0) (cons (leaf 1) nil))) in
    let g : Group (tree_of (front 5 (f 3 (1 ∷ []) cherry_body (room 3) places).after.room)) G = subst (λ (h : GivenOf Lent). Group (tree_of (front 5 h.after.room)) G) (sym e) (Memᴰ.tail (Memᴰ.head refl)) in
    false≢true (ap (λ (H : Species). H 2)
    (all 3 (1 ∷ []) cherry_body (room 3) places said_good said_pc 5 0 (ap (λ (h : GivenOf Lent). h.told) e) G g (0, 1, refl, refl, λ z. omega (arith, z))))

pub dropping_none-breaks : DroppingNoneBreaks
dropping_none-breaks f none a = let z = none 3 (0 ∷ []) cherry_body (room 3) places unsaid_good unsaid_pc 4 1 (unsaid_told f a) in omega (arith, z)

pub one_pass_breaks : OnePassBreaks
unfolding number tree_at children
one_pass_breaks f pass a =
    let (e, l) = pairs_given f a in
    false≢true (subst (λ (x : List ℕ). So (in_order' (take 2 x) (numbers (groups (house (tree_of two_pairs)))))) l (pass 4 one_said two_pairs (room 4) places pairs_good pairs_pc 5 2 e))

-- ---- one of each kind: it has another number of nodes

module _ (r : ℕ → Triplets → Tree → Loosened) (n : ℕ) (t b o d : List ℕ) (g : Loosenable n t b o d) (pc : PC (entered t) (below n) (tree_of b)) where
  strays : node_count (r n (entered t) (house (tree_of b))).final ≢ node_count (loosened (entered t) n (tree_of b)).final → Strays (laying r)
  strays ne =
      let ours = loosens_is n t b o d g pc in
      record {
        n = n;
        t = t;
        b = b;
        o = o;
        d = d;
        good = g;
        pc = pc;
        other = λ e. ne (value_is _ _ (sym (ap (λ (h : GivenOf Lent). h.told) (on_zero_lem (loosens n t b o d) _ (ap (λ (h : GivenOf Lent). h.told.number) ours)))
            ∙ ap (λ (h : GivenOf Lent). h.told) (e ∙ ours)));
      }

pub each_breaks : EachBreaks
unfolding loosened loosen_in part members leads digit bit_of entered place_of index C tree_at children
each_breaks = record {
  flat = straying_breaks (laying flattened) (strays flattened 3 (1 ∷ []) cherry_body (room 3) places said_good said_pc (λ z. omega (arith, z)));
  still = straying_breaks (laying untouched) (strays untouched 3 (0 ∷ []) cherry_body (room 3) places unsaid_good unsaid_pc (λ z. omega (arith, z)));
  old = straying_breaks (laying swept) (strays swept 4 one_said two_pairs (room 4) places pairs_good pairs_pc (λ z. omega (arith, z)));
  once = straying_breaks (laying passed_over) (strays passed_over 4 one_said two_pairs (room 4) places pairs_good pairs_pc (λ z. omega (arith, z)));
}
