-- Turn after turn: what is still to be dropped gives what the whole gives. Assumes nothing.
use mathlib.Core.Bool.{So}
use mathlib.Core.List.{List, [], ◌∷◌}
use mathlib.Core.Path.{◌∙◌, ◌≡◌, ap, ap₂, refl, subst, sym}
use Prim.Native.Nat.{◌+◌, ◌<◌, ◌≤◌, suc, ℕ}
use native.Mathlib.Omega.{arith}
use lib.ListN.{length, length-set, set}
use lib.Seq.{sets}
use Rattle.sets.specs.Species.{Below, Species}
use Rattle.trees.proofs.Formed.{formed_e}
use Rattle.trees.proofs.LooseTheorems.{dropped_62}
use Rattle.trees.proofs.Loosened.{loosen_rule}
use Rattle.trees.proofs.Lowest.{housed_e}
use Rattle.trees.proofs.Unique.{house_same}
use Rattle.trees.specs.Check.{R}
use Rattle.trees.specs.Loosen.{Loosened, drop, loosen_in, loosened, step, unearned}
use Rattle.trees.specs.Trees.{Tree, in_house_order, under, well_formed}
use Rattle.trees.specs.Triplets.{Proper, Triplets}
use Rattle.bodies.specs.Draws.{body_of, node_count}
use Rattle.bodies.specs.Nodes.{longest, none}
use Rattle.dropping.specs.Drafts.{HouseDraft, NodeDropped, draft_tree, group_at}
use Rattle.easing.specs.Turns.{Turned, UnearnedGroup}
use Rattle.easing.specs.Eases.{numbers}
use Rattle.easing.specs.declared.Unearned.{Unearned}

module _ (E : Triplets) (pr : Proper E) (n : ℕ) where
  abbrev rest : Tree → Loosened
  rest = loosen_in E n n

  -- ---- one turn

  module _ (T : Tree) (w : So (well_formed T)) (bd : Below n (under T)) where
    rest-none : unearned (R E T) n T ≡ [] → rest T ≡ record { final = T; dropped = [] }
    rest-none e = loosen_rule E pr n T (formed_e T w) bd ∙ ap (λ (l : List Species). step l T (λ G. rest (drop n G T))) e

    rest_some : (G : Species) (l : List Species) → unearned (R E T) n T ≡ G ∷ l → rest T ≡ record { final = (rest (drop n G T)).final; dropped = G ∷ (rest (drop n G T)).dropped }
    rest_some G l e = loosen_rule E pr n T (formed_e T w) bd ∙ ap (λ (l : List Species). step l T (λ G. rest (drop n G T))) e

    rest_few : n ≤ 64 → So (in_house_order T) → length (rest T).dropped ≤ 62
    unfolding loosened
    rest_few small h = subst (λ (t : Tree). length (rest t).dropped ≤ 62) (house_same T (formed_e T w) (housed_e T (formed_e T w) h)) (dropped_62 E pr n T w bd small)

  -- ---- on the way to L from m₀ nodes: the draft has a tree of m nodes, and `gone` sets stand in the list, which was list₀

  pub record Going (L : Loosened) (m₀ : ℕ) (list₀ draft : List ℕ) (m : ℕ) (list : List ℕ) (gone : ℕ) : Type 0 where
    pub size : length draft ≡ longest
    pub long : length list ≡ length list₀
    pub few : length L.dropped ≤ 62
    pub less : m ≤ m₀
    pub house : HouseDraft n m draft
    pub final : (rest (draft_tree m draft)).final ≡ L.final
    pub count : gone + length (rest (draft_tree m draft)).dropped ≡ length L.dropped
    pub stores : sets list gone (numbers (rest (draft_tree m draft)).dropped) ≡ sets list₀ 0 (numbers L.dropped)

  pub going_start : n ≤ 64 → (draft : List ℕ) (m : ℕ) (list : List ℕ) → HouseDraft n m draft → length draft ≡ longest → Going (rest (draft_tree m draft)) m list draft m list 0
  going_start small draft m list h l = record {
    size = l;
    long = refl;
    few = rest_few (draft_tree m draft) h.formed h.below small h.ordered;
    less = omega arith;
    house = h;
    final = refl;
    count = omega arith;
    stores = refl;
  }

  module _ {L : Loosened} {list₀ draft list : List ℕ} {m₀ m gone : ℕ} (g : Going L m₀ list₀ draft m list gone) where
    abbrev T : Tree
    T = draft_tree m draft

    -- each group is earned
    pub going_end : unearned (R E T) n T ≡ [] → Turned L list₀ (record { nodes = m; dropped = gone }) draft list
    going_end none =
        let r = rest-none T g.house.formed g.house.below none in
        let f : T ≡ L.final = sym (ap (λ (l : Loosened). l.final) r) ∙ g.final in
        let d : length (rest T).dropped ≡ 0 = ap (λ (l : Loosened). length l.dropped) r in
        let z : gone ≡ length L.dropped = omega (arith, d, g.count) in
        record {
          counts = ap₂ (λ (a b : ℕ). record { nodes = a; dropped = b }) (sym g.house.count ∙ ap node_count f) z;
          body = g.house.body ∙ ap body_of f;
          stored = sym (ap (λ (l : Loosened). sets list gone (numbers l.dropped)) r) ∙ g.stores;
        }

    -- one is not
    module _ (x : Unearned) (q : UnearnedGroup E n T x) where
      -- there is a place for its group
      pub going_place : gone < 62
      going_place =
          let (l, e) = q.first in
          let r = ap (λ (l : Loosened). length l.dropped) (rest_some T g.house.formed g.house.below (group_at T x.node) l e) in
          omega (arith, r, g.count, g.few)

      pub going_more : (draft' : List ℕ) → NodeDropped n m x.node draft draft' → (m' : ℕ) → m' + 1 ≡ m → Going L m₀ list₀ draft' m' (set list gone x.group) (gone + 1)
      going_more draft' d m' em =
          let (l, e) = q.first in
          let G = group_at T x.node in
          let r = rest_some T g.house.formed g.house.below G l e in
          let t : draft_tree m' draft' ≡ drop n G T = d.tree m' em in
          let next : gone + 1 ≡ suc gone = omega arith in
          record {
            size = d.size ∙ g.size;
            long = length-set list gone x.group ∙ g.long;
            few = g.few;
            less = omega (arith, g.less);
            house = d.house m' em;
            final = ap (λ (u : Tree). (rest u).final) t ∙ sym (ap (λ (l : Loosened). l.final) r) ∙ g.final;
            count = omega (arith, ap (λ (u : Tree). length (rest u).dropped) t, ap (λ (l : Loosened). length l.dropped) r, g.count);
            stores =
                ap₂ (λ (i : ℕ) (u : Tree). sets (set list gone x.group) i (numbers (rest u).dropped)) next t
                ∙ ap (λ (y : ℕ). sets (set list gone y) (suc gone) (numbers (rest (drop n G T)).dropped)) q.group
                ∙ sym (ap (λ (l : Loosened). sets list gone (numbers l.dropped)) r) ∙ g.stores;
          }
