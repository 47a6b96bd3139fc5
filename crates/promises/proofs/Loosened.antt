-- Loosening keeps what is promised of it. Assumes nothing.
use mathlib.Core.Bool.{So}
use mathlib.Core.List.{List, Memᴰ, [], ◌++◌, ◌∷◌}
use mathlib.Core.Logic.{◌↔◌, inl}
use mathlib.Core.Path.{◌∙◌, ◌≡◌, ap, ap₂, refl, subst, sym}
use Prim.Native.Nat.{◌≤◌, suc, ℕ}
use native.Mathlib.Omega.{arith}
use borrow.Author.Tests.{lt-ltb}
use lib.ListN.{drop, length, take, take-append-drop}
use lib.Seq.{sets}
use Rattle.sets.proofs.Members.{all_below}
use Rattle.sets.specs.Species.{Below, Inside, Species, below}
use Rattle.trees.proofs.Formed.{formed_e}
use Rattle.trees.proofs.LooseTheorems.{dropped_62, dropped_few, dropped_groups, dropped_once, final_formed, final_groups, final_ordered, final_pc, final_pi, final_species, passed_stays}
use Rattle.trees.specs.Check.{PC, PI}
use Rattle.trees.specs.Loosen.{Loosened, loosened}
use Rattle.trees.specs.Trees.{Group, Tree, house, in_house_order, under, well_formed}
use Rattle.trees.specs.Triplets.{Proper, Triplets}
use Rattle.tables.proofs.Bytes.{entered_proper}
use Rattle.tables.specs.Bytes.{entered}
use Rattle.bodies.proofs.Back.{body_back, body_bad_length, body_good, body_length_lem}
use Rattle.bodies.proofs.Counts.{all_nodes}
use Rattle.bodies.proofs.Drawn.{tree_below, tree_formed}
use Rattle.bodies.proofs.Housed.{house_count}
use Rattle.bodies.proofs.Good.{length_good}
use Rattle.bodies.proofs.Written.{written_behind, written_body}
use Rattle.bodies.specs.Draws.{body_of, node_count, tree_of, written}
use Rattle.bodies.specs.Nodes.{body_length, nodes}
use Rattle.answers.proofs.Answered.{number-zero}
use Rattle.refusals.specs.Told.{Told, dropped_count, number_of_nodes, told, value}
use Rattle.answers.specs.Inputs.{Body}
use Rattle.answers.specs.Looks.{first_refusal, look_told}
use Rattle.answers.specs.Looks.{Look}
use Rattle.checking.specs.Checks.{check_looks}
use Rattle.easing.specs.Eases.{Lent, eased, laid_out, lent, numbers, tally}
use Rattle.loosening.specs.Loosens.{tally_values}
use Rattle.promises.specs.Demand2.{HouseBody, front}
use Rattle.promises.specs.Inputs.{Loosenable}
use Rattle.promises.specs.Loosening.{ComesBack, Drops, FinalPasses, Loosening, LoosensRight, OneLoosening}
use Rattle.promises.specs.Operations.{GivenOf, checks, gives, koodhaxil, loosens}
use Rattle.promises.proofs.Accepted.{loosen_pass}
use Rattle.promises.proofs.AsCheck.{refuses_as_check, then_nine}
use Rattle.promises.proofs.Checked.{checked_passes}
use Rattle.promises.proofs.Chosen.{value_is}
use Rattle.promises.proofs.Drops.{drops_one, loosened_drops}
use Rattle.promises.proofs.Fewer.{fewer_nodes}
use Rattle.promises.proofs.Promises.{accepted, demand1}
use Rattle.promises.proofs.Wrote.{front_is, wrote}

numbers-length : (l : List Species) → length (numbers l) ≡ length l
numbers-length [] = refl
numbers-length (G ∷ l) = ap suc (numbers-length l)

-- a check that answers 0 tells nothing else
passes_told : (n : ℕ) (t b : List ℕ) → (checks n t b).number ≡ 0 → checks n t b ≡ told 0 []
passes_told n t b z =
    let e = demand1.checking n t b in
    e ∙ ap (λ (a : Look). look_told a []) ((number-zero (first_refusal (check_looks n t b)) []).0 (sym (ap (λ (r : Told). r.number) e) ∙ z))

module _ (n : ℕ) (t b o d : List ℕ) (g : Loosenable n t b o d) (pc : PC (entered t) (below n) (tree_of b)) where
  abbrev E : Triplets
  E = entered t

  abbrev T : Tree
  T = tree_of b

  abbrev L : Loosened
  L = loosened E n T

  abbrev F : Tree
  F = L.final

  abbrev pr : Proper E
  pr = entered_proper t

  pub loosens_is : loosens n t b o d ≡ gives (told 0 (tally_values (tally L))) (laid_out L (lent o d))
  unfolding eased
  loosens_is = rw ((loosen_pass n t b o d).1 (g, pc)) refl

  formed : So (well_formed T)
  formed = tree_formed n (nodes b) g.body.good (length_good b g.body.long).0

  bd : Below n (under T)
  bd = tree_below n (nodes b) g.body.good (length_good b g.body.long).0

  sub : Inside (under T) (below n)
  sub x h = lt-ltb x n (bd x h)

  -- ---- the final tree, at the front of the room

  final_good : So (well_formed F)
  final_good = final_formed E pr n T formed bd

  final_below : Below n (under F)
  final_below x h = bd x (sym (final_species E pr n T formed bd x) ∙ h)

  fits : length (body_of F) ≤ length o
  fits = omega (
    arith,
    g.tree_room,
    body_length_lem F,
    fewer_nodes T F (formed_e F final_good) (λ H m. ((final_groups E pr n T formed bd H).0 m).0),
    all_nodes n (nodes b) g.body.good (length_good b g.body.long).0,
    (length_good b g.body.long).2,
  )

  final_body_lem : Body n (body_of F)
  final_body_lem = record { good = body_good n F final_good final_below g.count.most; long = body_bad_length n F final_good final_below g.count.most }

  back : tree_of (body_of F) ≡ F
  back = body_back n F final_good final_below g.count.most

  stands : front (node_count F) (written o (body_of F)) ≡ body_of F
  stands = front_is n (node_count F) o (body_of F) (body_length_lem F) fits

  is : tree_of (front (node_count F) (written o (body_of F))) ≡ F
  is = ap tree_of stands ∙ back

  -- ---- the dropped sets, at the front of the list

  few : length L.dropped ≤ 62
  few = dropped_62 E pr n T formed bd g.count.most

  list_fits : length (numbers L.dropped) ≤ length d
  list_fits = omega (arith, g.list, few, numbers-length L.dropped)

  tree_loosened : LoosensRight n t b o d (gives (told 0 (tally_values (tally L))) (laid_out L (lent o d)))
  tree_loosened = record {
    count = node_count F;
    dropped = L.dropped;
    told_is = refl;
    wrote = wrote n (node_count F) o (body_of F) (body_length_lem F) fits final_body_lem;
    housed = subst HouseBody (sym stands) (record {
      preorder = ap body_of (sym back);
      children = subst (λ (u : Tree). So (in_house_order u)) (sym back) (final_ordered E pr n T formed bd);
    });
    listed = ap (λ (k : ℕ). take k (sets d 0 (numbers L.dropped))) (sym (numbers-length L.dropped)) ∙ written_body d (numbers L.dropped) list_fits;
    behind = subst (λ (k : ℕ). drop k (sets d 0 (numbers L.dropped)) ≡ drop k d) (numbers-length L.dropped) (written_behind d (numbers L.dropped) list_fits);
    went = subst (Drops E (house T) L.dropped) (sym is) (loosened_drops E pr n T formed bd);
    species = λ x. ap (λ (u : Tree). under u x) is ∙ final_species E pr n T formed bd x;
    were = dropped_groups E pr n T formed bd;
    once = dropped_once E pr n T formed bd;
    groups = λ H. subst (λ (u : Tree). Group u H ↔ (Group T H × (Memᴰ H L.dropped → ⊥))) (sym is) (final_groups E pr n T formed bd H);
    few = dropped_few E pr n T formed bd;
    most = few;
  }

  pub good_loosened : LoosensRight n t b o d (loosens n t b o d)
  good_loosened = subst (LoosensRight n t b o d) (sym loosens_is) tree_loosened

  -- ---- the check of it

  both : PC E (below n) F × PI E (below n) F
  both = (final_pc E pr n T formed bd (below n) (all_below n) sub pc, final_pi E pr n T formed bd (below n) (all_below n) sub pc)

  final_checked : checks n t (front (node_count F) (written o (body_of F))) ≡ told 0 []
  final_checked = ap (checks n t) stands
      ∙ passes_told n t (body_of F) ((checked_passes n t (body_of F) (record { count = g.count; table = g.table; body = final_body_lem })).1
      (subst (λ (u : Tree). PC E (below n) u × PI E (below n) u) (sym back) both))

  -- where it passed already
  came_back : PI E (below n) T → loosens n t b o d ≡ gives (told 0 (value number_of_nodes (nodes b).count ∷ value dropped_count 0 ∷ [])) (lent (written o (body_of (house T))) d)
  came_back pi =
      let k = house_count T ∙ all_nodes n (nodes b) g.body.good (length_good b g.body.long).0 in
      loosens_is
      ∙ ap (λ (r : Loosened). gives (told 0 (tally_values (tally r))) (laid_out r (lent o d))) (passed_stays E pr n T formed bd (below n) (all_below n) sub pc pi)
      ∙ ap (λ (m : ℕ). gives (told 0 (value number_of_nodes m ∷ value dropped_count 0 ∷ [])) (lent (written o (body_of (house T))) d)) k

-- ---- where two keep it, what they give is one

-- a list is known by its first k places and what stands behind
list_is : (k : ℕ) (u v x y : List ℕ) → take k u ≡ x → take k v ≡ x → drop k u ≡ drop k y → drop k v ≡ drop k y → u ≡ v
list_is k u v x y a b c d = sym (take-append-drop k u) ∙ ap₂ (λ (p q : List ℕ). p ++ q) (a ∙ sym b) (c ∙ sym d) ∙ take-append-drop k v

pub one_loosening : OneLoosening
one_loosening f h a a' n t b o d g pc =
    let r = a n t b o d g pc in
    let r' = a' n t b o d g pc in
    let x = (f n t b o d).after in
    let x' = (h n t b o d).after in
    let (l, F) = drops_one r.went r'.went in
    let u : front r.count x.room ≡ front r'.count x'.room = r.housed.preorder ∙ ap body_of F ∙ sym r'.housed.preorder in
    let k : r.count ≡ r'.count = sym r.wrote.count ∙ ap (λ (z : List ℕ). (nodes z).count) u ∙ r'.wrote.count in
    let room : x.room ≡ x'.room = list_is (body_length r.count) x.room x'.room (front r.count x.room) o refl
    (ap (λ (j : ℕ). front j x'.room) k ∙ sym u) r.wrote.behind (subst (λ (j : ℕ). drop (body_length j) x'.room ≡ drop (body_length j) o) (sym k) r'.wrote.behind) in
    let list : x.list ≡ x'.list = list_is (length r.dropped) x.list x'.list (numbers r.dropped) d r.listed
    (subst (λ (z : List Species). take (length z) x'.list ≡ numbers z) (sym l) r'.listed) r.behind
    (subst (λ (z : List Species). drop (length z) x'.list ≡ drop (length z) d) (sym l) r'.behind) in
    ap₂ gives
    (r.told_is ∙ ap₂ (λ (j : ℕ) (z : List Species). told 0 (value number_of_nodes j ∷ value dropped_count (length z) ∷ [])) k l ∙ sym r'.told_is)
    (ap₂ lent room list)

-- ---- the promises

final_passes : FinalPasses loosens checks
final_passes n m k t b o d e =
    let (g, pc) = (accepted.loosening n t b o d).0 (ap (λ (r : Told). r.number) e) in
    let q = loosens_is n t b o d g pc in
    let c = value_is _ m (sym (ap (λ (h : GivenOf Lent). h.told) q) ∙ e) in
    ap₂ (λ (j : ℕ) (h : GivenOf Lent). checks n t (front j h.after.room)) (sym c) q ∙ final_checked n t b o d g pc

comes_back : ComesBack loosens checks
comes_back n t b o d z room list =
    let g = (accepted.checking n t b).0 (inl z) in
    let (pc, pi) = (checked_passes n t b g).0 z in
    came_back n t b o d (record { count = g.count; table = g.table; body = g.body; tree_room = room; list = list }) pc pi

-- To good input that nothing contradicts: the final tree and the dropped sets, each the first in house order that was not earned as the tree then was. The final tree passes
-- the check; what passed comes back with nothing dropped; and what the check refuses before 12 is refused in its words.
pub loosening_keeps : Loosening koodhaxil
loosening_keeps = record {
  loosening = good_loosened;
  passes = final_passes;
  comes_back = comes_back;
  as_check = refuses_as_check koodhaxil demand1;
  then_9 = then_nine koodhaxil demand1;
}
