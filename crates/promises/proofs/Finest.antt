-- The final tree is the finest one that passes with groups of the candidate alone, and so the same whichever unearned group goes first. Assumes nothing.
use mathlib.Core.Bool.{So}
use mathlib.Core.List.{List}
use mathlib.Core.Logic.{inl}
use mathlib.Core.Path.{◌∙◌, ◌≡◌, ap, refl, subst, sym}
use Prim.Native.Nat.{ℕ}
use borrow.Author.Tests.{lt-ltb}
use Rattle.sets.proofs.Bools.{bool_ext}
use Rattle.sets.proofs.Members.{all_below}
use Rattle.sets.specs.Species.{Species, below}
use Rattle.trees.proofs.Finest.{never_kept}
use Rattle.trees.proofs.Formed.{Formed, formed_e}
use Rattle.trees.proofs.Groups.{in_root, root_group}
use Rattle.trees.proofs.Theorems.{earned_exactly, house_order, known_in_house}
use Rattle.trees.proofs.Unearned.{sibling_proper}
use Rattle.trees.specs.Check.{Earned, R}
use Rattle.trees.specs.Loosen.{NotEarned}
use Rattle.trees.specs.Trees.{Group, Tree, house, in_house_order, under, well_formed}
use Rattle.trees.specs.Triplets.{Triplets}
use Rattle.tables.proofs.Bytes.{entered_proper}
use Rattle.tables.specs.Bytes.{entered}
use Rattle.bodies.proofs.Drawn.{tree_below}
use Rattle.bodies.proofs.Houses.{good_formed}
use Rattle.bodies.proofs.Good.{length_good}
use Rattle.bodies.specs.Draws.{tree_of}
use Rattle.bodies.specs.Nodes.{nodes}
use Rattle.refusals.specs.Told.{Told}
use Rattle.promises.specs.Demand2.{front}
use Rattle.promises.specs.Finest.{DropsAny, Finest, OneLeft, any_done, any_next}
use Rattle.promises.specs.Loosening.{Drops, TreeWithout, done, next}
use Rattle.promises.specs.Operations.{koodhaxil, loosens}
use Rattle.promises.proofs.Checked.{checked_passes}
use Rattle.promises.proofs.Chosen.{value_is}
use Rattle.promises.proofs.Loosened.{good_loosened}
use Rattle.promises.proofs.Promises.{accepted}

-- the root's group is none of those that go
without_species : (E : Triplets) (T U : Tree) (G : Species) → Formed T → NotEarned E T G → TreeWithout G T U → (x : ℕ) → under U x ≡ under T x
without_species E T U G f n w x =
    let (s, s', q, e, z) = n in
    bool_ext (under U x) (under T x)
    (in_root T (under U) ((w.groups (under U)).0 (root_group U)).0 x)
    (in_root U (under T) ((w.groups (under T)).1 (root_group T, λ h. sibling_proper T s s' f q (sym e ∙ sym h))) x)

-- ---- what is left

any_formed : {E : Triplets} {T F : Tree} {l : List Species} → DropsAny E T l F → So (well_formed T) → So (well_formed F)
any_formed (any_done a) f = f
any_formed (any_next n w d) f = any_formed d w.formed

any_housed : {E : Triplets} {T F : Tree} {l : List Species} → DropsAny E T l F → So (in_house_order T) → So (in_house_order F)
any_housed (any_done a) h = h
any_housed (any_next n w d) h = any_housed d w.housed

any_earned : {E : Triplets} {T F : Tree} {l : List Species} → DropsAny E T l F → Earned (R E F) F
any_earned (any_done a) = a
any_earned (any_next n w d) = any_earned d

any_among : {E : Triplets} {T F : Tree} {l : List Species} → DropsAny E T l F → (H : Species) → Group F H → Group T H
any_among (any_done a) H g = g
any_among (any_next n w d) H g = ((w.groups H).0 (any_among d H g)).0

any-species : {E : Triplets} {T F : Tree} {l : List Species} → DropsAny E T l F → So (well_formed T) → (x : ℕ) → under F x ≡ under T x
any-species (any_done a) f x = refl
any-species {E} (any_next {T = T} {U = U} {G = G} n w d) f x = any-species d w.formed x ∙ without_species (R E T) T U G (formed_e T f) n w x

-- a tree P with the species of T and groups of T alone, each earned, keeps its groups
any_keeps : {E : Triplets} {T F : Tree} {l : List Species} → DropsAny E T l F → So (well_formed T) → (P : Tree) → So (well_formed P) → ((x : ℕ) → under P x ≡ under T x)
    → ((H : Species) → Group P H → Group T H) → Earned (R E P) P → (H : Species) → Group P H → Group F H
any_keeps (any_done a) f P v s among e H g = among H g
any_keeps {E} (any_next {T = T} {U = U} {G = G} n w d) f P v s among e H g = any_keeps d w.formed P v
    (λ x. s x ∙ sym (without_species (R E T) T U G (formed_e T f) n w x))
    (λ K k. (w.groups K).1 (among K k, λ z. never_kept E T P (formed_e T f) (formed_e P v) s among e G n (subst (Group P) z k)))
    e H g

pub one_left : OneLeft
one_left E T F F' l l' f h d d' = known_in_house F F' (any_formed d f) (any_formed d' f) (any_housed d h) (any_housed d' h) (λ H. (
  any_keeps d' f F (any_formed d f) (any-species d f) (any_among d) (any_earned d) H,
  any_keeps d f F' (any_formed d' f) (any-species d' f) (any_among d') (any_earned d') H,
))

-- the first that is not earned is one that is not
drops_any : {E : Triplets} {T F : Tree} {l : List Species} → Drops E T l F → DropsAny E T l F
drops_any (done a) = any_done a
drops_any (next f w d) = any_next f.unearned w (drops_any d)

-- ---- ours

pub finest : Finest koodhaxil
finest = record {
  any_order = λ n m k t b o d e l F q.
      let (g, pc) = (accepted.loosening n t b o d).0 (ap (λ (r : Told). r.number) e) in
      let r = good_loosened n t b o d g pc in
      let h = house_order (tree_of b) (good_formed n g.count.most b g.body.good g.body.long) in
      let c = value_is r.count m (sym r.told_is ∙ e) in
      subst (λ (j : ℕ). tree_of (front j (loosens n t b o d).after.room) ≡ F) c (one_left (entered t) (house (tree_of b)) _ F _ l h.formed h.ordered (drops_any r.went) q);
  all_groups = λ n m k t b o d e p z s among H x.
      let (g, pc) = (accepted.loosening n t b o d).0 (ap (λ (r : Told). r.number) e) in
      let r = good_loosened n t b o d g pc in
      let c = value_is r.count m (sym r.told_is ∙ e) in
      let h = house_order (tree_of b) (good_formed n g.count.most b g.body.good g.body.long) in
      let a = (accepted.checking n t p).0 (inl z) in
      let v = good_formed n a.count.most p a.body.good a.body.long in
      let (pc', pi) = (checked_passes n t p a).0 z in
      let earned = (earned_exactly (entered t) (entered_proper t) n (below n) (all_below n) (tree_of p) v
      (λ y i. lt-ltb y n (tree_below n (nodes p) a.body.good (length_good p a.body.long).0 y i)) pc').0 pi in
      subst (λ (j : ℕ). Group (tree_of (front j (loosens n t b o d).after.room)) H) c
      (any_keeps (drops_any r.went) h.formed (tree_of p) v (λ y. s y ∙ sym (h.species y)) (λ K q. (h.groups K).1 (among K q)) earned H x);
}
