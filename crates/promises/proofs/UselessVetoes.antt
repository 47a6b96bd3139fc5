-- Each useless veto build breaks the promise that it is named with. Assumes nothing.
use mathlib.Core.Bool.{So, false≢true}
use mathlib.Core.List.{List, [], ◌∷◌}
use mathlib.Core.Logic.{⊎_elim}
use mathlib.Core.Path.{◌∙◌, ◌≡◌, ap, refl, sym}
use Prim.Native.Nat.{ℕ}
use native.Mathlib.Omega.{arith}
use Rattle.sets.proofs.Bools.{and_i, not_i, or_case, or_l, or_r, test}
use Rattle.sets.specs.Sets.{digit, has}
use Rattle.trees.proofs.Agreement.{exclusive}
use Rattle.trees.proofs.Formed.{Formed, formed_e}
use Rattle.trees.proofs.Splits.{holds_swap}
use Rattle.trees.specs.Build.{build, tree}
use Rattle.trees.specs.Check.{R, differs}
use Rattle.trees.specs.Trees.{Tree}
use Rattle.trees.specs.Triplets.{Triplets, holds, resolves}
use Rattle.tables.specs.Bytes.{bit_of, entered, over, place_of}
use Rattle.triples.specs.Index.{C, index}
use Rattle.bodies.proofs.Houses.{good_formed}
use Rattle.bodies.specs.Draws.{node_count, tree_at, tree_of}
use Rattle.bodies.specs.Nodes.{children}
use Rattle.building.specs.Builds.{outcome_by}
use Rattle.promises.specs.Demand2.{BuildsAll, Contradicts, front}
use Rattle.promises.specs.Inputs.{Buildable}
use Rattle.promises.specs.Operations.{Builder, Given, builds, vetoes}
use Rattle.promises.specs.Runs.{cherry_body, fan_body}
use Rattle.promises.specs.Useless.{Gives, star, starry}
use Rattle.promises.specs.UselessVetoes.{FixedBreaksVeto, PlainBreaks, SidingBreaks, StarryBreaksVeto, TakesSide, TakingSideBreaks, siding}
use Rattle.promises.specs.Veto.{AsBuilt}
use Rattle.promises.proofs.Built.{builds_tree}
use Rattle.promises.proofs.Checked.{good_checked}
use Rattle.promises.proofs.Runs.{all_good}
use Rattle.promises.proofs.Useless.{cherry_built, cherry_full, fan_built, starry-gives, ten_bytes, three_built, unsaid, unsaid_good}
use Rattle.promises.proofs.Wrote.{tree_back}

-- ---- 01|2 and 02|1

abbrev pub quarrel : List ℕ
quarrel = 3 ∷ []

pub quarrel_good : Buildable 3 7 quarrel ten_bytes
unfolding C over
quarrel_good = all_good 3 quarrel (omega arith) (omega arith) refl refl

quarrel_one : So (entered quarrel 0 1 2)
unfolding entered place_of bit_of index C digit
quarrel_one = refl

quarrel_other : So (entered quarrel 0 2 1)
unfolding entered place_of bit_of index C digit
quarrel_other = refl

-- no tree holds both, so a plain build answers 10
pub quarrel_ten : (f : Builder) → BuildsAll f → (f 3 7 quarrel ten_bytes).told.number ≡ 10
unfolding digit
quarrel_ten f d =
    let r = d 3 7 quarrel ten_bytes quarrel_good in
    ⊎_elim
    (λ z.
    let T = tree_of (front (r.keeps z).count (f 3 7 quarrel ten_bytes).after) in
    let h = (r.keeps z).held in
    absurd (exclusive T (formed_e T h.formed) 0 1 2 (h.keeps 0 1 2 refl refl refl quarrel_one) (h.keeps 0 2 1 refl refl refl quarrel_other)))
    (λ z. z)
    r.one_of

pub plain-breaks : PlainBreaks
plain-breaks f d never = never 3 7 quarrel ten_bytes (quarrel_ten f d)

-- ---- a fixed tree: of nothing said, and of 01|2

module _ (f : Builder) (T : ℕ → Tree) (same : Gives T f) (d : AsBuilt f builds) where
  fixed_is : (t : List ℕ) → Buildable 3 7 t ten_bytes → (U : Tree) → build (entered t) 3 (has 7) ≡ tree U → T 7 ≡ U
  unfolding outcome_by
  fixed_is t g U e =
      let h = (three_built t U e).0 in
      let q = d 3 7 t ten_bytes g (U, h) ∙ builds_tree 3 7 t ten_bytes g U e in
      sym (same 3 7 t ten_bytes g (node_count U) _ (ap (λ (x : Given). x.told) q))
      ∙ ap (λ (x : Given). tree_of (front (node_count U) x.after)) q
      ∙ tree_back 3 7 t ten_bytes g U h.formed h.species

pub fixed_breaks-veto : FixedBreaksVeto
unfolding C over children tree_at
fixed_breaks-veto f T same d =
    let e = fixed_is f T same d unsaid unsaid_good (tree_of fan_body) fan_built in
    let e' = fixed_is f T same d (1 ∷ []) (all_good 3 (1 ∷ []) (omega arith) (omega arith) refl refl) (tree_of cherry_body) cherry_built in
    false≢true (ap (λ (u : Tree). holds u 0 1 2) (sym e ∙ e'))

pub starry-breaks-veto : StarryBreaksVeto
starry-breaks-veto = fixed_breaks-veto (starry vetoes) star (starry-gives vetoes)

-- ---- a side that is taken

-- a tree holds one triplet of a triple at most, and so contradicts one of two
module _ (E : Triplets) (T : Tree) (w : Formed T) (a b c : ℕ) (one : So (E a b c)) (other : So (E a c b)) (r : So (resolves T a b c)) where
  turned : So (resolves T a c b)
  turned = or_case (holds T a b c) _ r (λ h. or_r (holds T a c b) _ (or_l (holds T a b c) _ h))
      (λ k. or_case (holds T a c b) (holds T b c a) k (λ h. or_l (holds T a c b) _ h) (λ h. or_r (holds T a c b) _ (or_r (holds T a b c) _ (holds_swap T b c a h))))

  two_contradict : Contradicts E T a b c
  two_contradict = test (holds T a b c)
      (λ h. or_r (differs E T a b c) _ (or_l (differs E T a c b) _ (and_i (R E T a c b) _ (and_i (E a c b) _ other turned) (not_i (holds T a c b) (exclusive T w a b c h)))))
      (λ h. or_l (differs E T a b c) _ (and_i (R E T a b c) _ (and_i (E a b c) _ one r) h))

pub taking_side_breaks : TakingSideBreaks
taking_side_breaks f k u =
    let g = k.good in
    let b = front k.count (f k.n k.s k.t k.o).after in
    let r = good_checked k.n k.t b (record { count = g.count; table = g.table; body = k.body }) in
    let d = two_contradict (entered k.t) (tree_of b) (formed_e (tree_of b) (good_formed k.n g.count.most b k.body.good k.body.long)) k.a k.b k.c k.one k.other k.resolved in
    ⊎_elim (λ z. (r.passes.0 z).0 k.a k.b k.c d) (⊎_elim
    (u k.n k.s k.count k.looked k.t k.o k.told_is)
    (λ z. (r.unforced z).2 k.a k.b k.c d)) r.one_of

pub siding-sides : TakesSide siding
unfolding children tree_at
siding-sides = record {
  n = 3;
  s = 7;
  t = quarrel;
  o = ten_bytes;
  good = quarrel_good;
  count = 5;
  looked = 1;
  told_is = refl;
  body = cherry_full.body;
  a = 0;
  b = 1;
  c = 2;
  one = quarrel_one;
  other = quarrel_other;
  resolved = refl;
}

pub siding-breaks : SidingBreaks
siding-breaks = taking_side_breaks siding siding-sides
