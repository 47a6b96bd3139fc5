-- `shelf` prints one of document 01's three forms, and no other line. Assumes nothing.
use mathlib.Core.Bool.{Bool, So, false, false≢true, true}
use mathlib.Core.List.{List, [], ◌∷◌, ◌++◌, append-nil}
use mathlib.Core.Logic.{◌≢◌, ◌⊎◌, inl, inr, ⊎_elim}
use mathlib.Core.Path.{◌∙◌, ◌≡◌, ap, ap₂, refl, subst, sym}
use Prim.Native.Nat.{ℕ, zero, suc, ◌-◌, ◌≤◌}
use native.Mathlib.Omega.{arith}
use borrow.Author.Tests.{eqb-false, eqb-true}
use lib.Dec.{eqb, ltb}
use lib.ListN.{length, length-replicate, replicate, take}
use contract.Monad.{fact_mono}
use Rattle.sets.proofs.Least.{some_member}
use Rattle.sets.proofs.Sizes.{not_empty, size-le}
use Rattle.sets.proofs.Tests.{has_empty, number_lt, true_has}
use Rattle.sets.specs.Sets.{has}
use Rattle.sets.specs.Species.{Species}
use Rattle.trees.proofs.Formed.{formed_e}
use Rattle.trees.proofs.Lowest.{lowest_in}
use Rattle.trees.specs.Trees.{lowest}
use Rattle.tables.specs.Bytes.{entered}
use Rattle.triples.specs.Index.{C}
use Rattle.bodies.specs.Draws.{tree_of}
use Rattle.rules.specs.Faults.{fault}
use Rattle.bodies.specs.Nodes.{bad_length, body_length, longest, nodes}
use Rattle.answers.proofs.Answered.{Each, first_among, refuse_one}
use Rattle.refusals.specs.Told.{Name, Told, Value, left_over, looked_count, number_of_nodes, node_number, stopping_set, told, tree_number, unnamed, value}
use Rattle.answers.specs.Inputs.{Count, Table}
use Rattle.answers.specs.Looks.{first_refusal, refuse_if, ruled}
use Rattle.refusals.specs.Refusals.{refusal_told}
use Rattle.answers.specs.Looks.{Look}
use Rattle.refusals.specs.declared.Refusal.{Refusal}
use Rattle.refusals.specs.declared.Refusal.TheVariants.{BadCounts, BadLength, BadTree, BadVersion, EndsEarly, LeftOver}
use Rattle.collections.proofs.Whole.{read_pass}
use Rattle.collections.specs.Collection.{Collection}
use Rattle.collections.specs.Layout.{body_at, length_at, no_byte, short_body, short_header, short_length, species, start, trees, wrong_counts, wrong_version}
use Rattle.collections.specs.Occurs.{occurring, occurs_up_to}
use Rattle.collections.specs.Reads.{count_values, counts_of, looks_from, read_looks}
use Rattle.listing.specs.Lists.{list_of}
use Rattle.outside.specs.Reaches.{Enclosed}
use Rattle.building.specs.Builds.{build_answer, build_told}
use Rattle.checking.specs.Checks.{check_answer, check_told}
use Rattle.shelf_text.specs.Shelf.{body_text, build_word, built_text, node_in, read_word, shelf_text, shown_numbers, tree_in}
use Rattle.shelf_text.specs.Texts.{line}
use Rattle.promises.specs.Operations.{Given, builds, checks, gives, koodhaxil, lists}
use Rattle.promises.specs.Demand2.{BuildsRight, Keeps, front}
use Rattle.promises.specs.Inputs.{Buildable}
use Rattle.ties.specs.Forms.{Among, CheckShown, Forms, ShowsForms, ShowsNobody, ShowsStop, ShowsTree, ShowsUnread, ValueOr0, shelf_built, shelf_room, shelf_table}
use Rattle.promises.proofs.Built.{good_built}
use Rattle.promises.proofs.Checked.{good_checked}
use Rattle.promises.proofs.Chosen.{last_same, refused_some, value_is}
use Rattle.promises.proofs.Listed.{good_listed, listed_good, lists_is, occurring-has, occurs_some}
use Rattle.promises.proofs.Occurring.{empty_refused, good_set, occurring-below, occurring_enclosed}
use Rattle.promises.proofs.Own.{built_checked}
use Rattle.std.specs.Prelude.{Ok, Err, Result}
use Rattle.answers.specs.declared.Written.{Written}
use Rattle.bodies.specs.declared.Broken.{Broken}
use Rattle.writing.specs.Pages.{Page}

-- ---- a refusal of reading, in its three numbers

record Read (x : Refusal) : Type 0 where
  number : (1 ≤ (refusal_told x).number) × ((refusal_told x).number ≤ 6)
  tree_is : ValueOr0 tree_number (refusal_told x).values (tree_in (refusal_told x).number (unnamed (refusal_told x).values))
  node_is : ValueOr0 node_number (refusal_told x).values (node_in (refusal_told x).number (unnamed (refusal_told x).values))

one : (c : Bool) (y : Refusal) → Read y → (x : Refusal) → refuse_if c y ≡ Err x → Read x
one c y h = refuse_one Read c y h

read_version : Read BadVersion
read_version = record { number = (omega arith, omega arith); tree_is = inr ((λ y h. h), refl); node_is = inr ((λ y h. h), refl) }

read_counts : Read BadCounts
read_counts = record { number = (omega arith, omega arith); tree_is = inr ((λ y h. h), refl); node_is = inr ((λ y h. h), refl) }

-- a value of another name is the only one
other : {j k : Name} (x : ℕ) → (k ≡ j → ⊥) → (y : ℕ) → Among (value k y) (value j x ∷ []) → ⊥
other x d y (inl e) = d (ap (λ (v : Value). v.name) e)
other x d y (inr h) = h

node_no_tree : node_number ≡ tree_number → ⊥
node_no_tree e = let z : ◌≡◌ {A = ℕ} 0 1 = cc in omega arith

node_no_rest : node_number ≡ left_over → ⊥
node_no_rest e = let z : ◌≡◌ {A = ℕ} 0 1 = cc in omega arith

tree_no_rest : tree_number ≡ left_over → ⊥
tree_no_rest e = let z : ◌≡◌ {A = ℕ} 0 1 = cc in omega arith

read_early : (k : ℕ) → Read (EndsEarly k)
read_early k = record {
  number = (omega arith, omega arith);
  tree_is = inl (inl refl);
  node_is = inr (other k node_no_tree, refl);
}

read_over : (m : ℕ) → Read (LeftOver m)
read_over m = record {
  number = (omega arith, omega arith);
  tree_is = inr (other m tree_no_rest, refl);
  node_is = inr (other m node_no_rest, refl);
}

read_length : (k : ℕ) → Read (BadLength k)
read_length k = record {
  number = (omega arith, omega arith);
  tree_is = inl (inl refl);
  node_is = inr (other k node_no_tree, refl);
}

rules : (v : Result (Unit {0}) Broken) (x : Refusal) → ruled v ≡ Err x → Read x
rules (Ok _) x e = let z : ◌≡◌ {A = ℕ} 0 1 = cc in absurd (omega arith)
rules (Err y) x e =
    let z : BadTree y ≡ x = cc in
    subst Read z (record { number = (omega arith, omega arith); tree_is = inl (inl refl); node_is = inl (inr (inl refl)) })

module _ (b : List ℕ) where
  from_read : (k j : ℕ) → Each Read (looks_from b k j)
  unfolding looks_from
  from_read k zero = (one (ltb (start b k) (length b)) (LeftOver (length b - start b k)) (read_over _), tt)
  from_read k (suc j) = (
    one (short_length b k) (EndsEarly k) (read_early k),
    (
      one (bad_length (length_at b (start b k))) (BadLength k) (read_length k),
      (one (short_body b k) (EndsEarly k) (read_early k), (rules (fault k (nodes (body_at b k)) (species b)), from_read (suc k) j)),
    ),
  )

  all_read : Each Read (read_looks b)
  unfolding read_looks
  all_read = (
    one (no_byte b) (EndsEarly 0) (read_early 0),
    (
      one (wrong_version b) BadVersion read_version,
      (one (short_header b) (EndsEarly 0) (read_early 0), (one (wrong_counts b) BadCounts read_counts, from_read 0 (trees b))),
    ),
  )

-- ---- the lines of the build and of the check, by what they tell

abbrev shown : Told → List ℕ
shown r = shown_numbers r.number (unnamed r.values)

module _ (n : ℕ) (t o : List ℕ) where
  told_tree : (a : Result Written Refusal) (k c d : ℕ) → build_told (record { answer = a; looked = c }) ≡ told 0 (value number_of_nodes k ∷ value looked_count d ∷ [])
      → built_text n t o a ≡ line build_word (0 ∷ k ∷ []) ++ body_text n t (take (body_length k) o)
  told_tree (Ok w) k c d e = ap (λ (m : ℕ). line build_word (0 ∷ m ∷ []) ++ body_text n t (take (body_length m) o)) (value_is w.nodes k e)
  told_tree (Err x) k c d e = absurd (refused_some x (ap (λ (r : Told). r.number) e))

  told_stop : (a : Result Written Refusal) (u c d : ℕ) → build_told (record { answer = a; looked = c }) ≡ told 10 (value stopping_set u ∷ value looked_count d ∷ []) → built_text n t o a ≡ line build_word (10 ∷ u ∷ [])
  told_stop (Ok w) u c d e = absurd (omega (arith, ap (λ (r : Told). r.number) e))
  told_stop (Err x) u c d e =
      let q = (last_same (refusal_told x).values (value stopping_set u ∷ []) _ _ (ap (λ (r : Told). r.values) e)).0 in
      append-nil _ ∙ ap₂ (λ (k : ℕ) (vs : List Value). line build_word (shown (told k vs))) (ap (λ (r : Told). r.number) e) q

told-passed : (a : Result (Unit {0}) Refusal) → (check_told a).number ≡ 0 → check_told a ≡ told 0 []
told-passed (Ok _) e = refl
told-passed (Err x) e = absurd (refused_some x e)

-- ---- a collection

module _ (b : List ℕ) (w : Collection b) where
  abbrev n : ℕ
  n = species b

  abbrev zeros : List ℕ
  zeros = replicate (C n 3) 0

  abbrev t : List ℕ
  t = shelf_table koodhaxil b

  abbrev o : List ℕ
  o = shelf_room koodhaxil b

  count : Count n
  count = record { some = w.some; most = w.most }

  table : Table n t
  table = listed_good b w (koodhaxil.list b zeros) (good_listed b zeros (record { collection = w; long = length-replicate (C n 3) 0 }))

  abbrev u : ℕ
  u = occurring b

  listed : lists b zeros ≡ gives (told 0 (count_values (counts_of b))) (list_of b)
  listed = lists_is b zeros (record { collection = w; long = length-replicate (C n 3) 0 })

  text_is : shelf_text b ≡ built_text n t (builds n u t o).after (build_answer n u t (length o)).answer
  unfolding shelf_text
  text_is = rw ((read_pass b).1 w) refl

  -- ---- where nothing occurs

  nobody_shown : u ≡ 0 → ShowsNobody koodhaxil b (shelf_text b)
  nobody_shown e = record {
    collection = w;
    nobody = λ x k. false≢true (sym (has_empty x) ∙ ap (λ (s : ℕ). has s x) (sym e) ∙ ap (λ (S : Species). S x) (occurring-has b w) ∙ (occurs_some b (trees b) x).1 k);
    is = text_is ∙ ap (built_text n t (builds n u t o).after) (empty_refused n u t count table o e) ∙ append-nil _;
  }

  -- ---- where something does

  module _ (some : u ≢ 0) where
    buildable : Buildable n u t o
    buildable = record {
      count = count;
      table = table;
      set = good_set n u (occurring-below b w) some;
      enclosed = subst (Enclosed n u) (sym (ap (λ (h : Given). h.after) listed)) (occurring_enclosed b w);
      room = omega (arith, length-replicate {A = ℕ} longest 0, size-le 64 u (number_lt 64 (occurs_up_to b (trees b))));
    }

    right : BuildsRight (entered t) n (has u) o (builds n u t o)
    right = good_built n u t o buildable

    module _ (k : Keeps (entered t) n (has u) o (builds n u t o)) where
      abbrev body : List ℕ
      body = front k.count (builds n u t o).after

      -- nothing entered contradicts the tree, which holds all of it
      check_shown : CheckShown (checks n t body) (shown (checks n t body))
      check_shown = ⊎_elim
          (λ z. let e = told-passed (check_answer n t body) z in inl (e, ap (λ (r : Told). shown r) e))
          (λ z.
          let f = (good_checked n t body (record { count = count; table = table; body = k.wrote.body })).unforced z in
          inr (record { index = f.0; told_is = f.1; shown = ap (λ (r : Told). shown r) f.1 }))
          (built_checked n u k.count k.looked t o k.told_is)

      tree_shown : ShowsTree koodhaxil b (shelf_text b)
      tree_shown = record {
        collection = w;
        keeps = k;
        check = shown (checks n t body);
        checked = check_shown;
        is = text_is ∙ told_tree n t _ (build_answer n u t (length o)).answer k.count _ k.looked k.told_is;
      }

    stop_shown : (builds n u t o).told.number ≡ 10 → ShowsStop koodhaxil b (shelf_text b)
    stop_shown z =
        let s = right.shows z in
        record { collection = w; no_tree = right.refuses.0 z; stops = s; is = text_is ∙ told_stop n t _ (build_answer n u t (length o)).answer s.set _ s.looked s.told_is }

    some_shown : ShowsStop koodhaxil b (shelf_text b) ⊎ ShowsTree koodhaxil b (shelf_text b)
    some_shown = ⊎_elim (λ z. inr (tree_shown (right.keeps z))) (λ z. inl (stop_shown z)) right.one_of

  collection_shown : Forms koodhaxil b (shelf_text b)
  collection_shown = go (eqb u 0) refl
    where
      go : (p : Bool) → eqb u 0 ≡ p → Forms koodhaxil b (shelf_text b)
      go true e = inr (inl (nobody_shown (eqb-true u 0 e)))
      go false e = inr (inr (some_shown (eqb-false u 0 e)))

-- ---- what is no collection

unread_shown : (b : List ℕ) (x : Refusal) → first_refusal (read_looks b) ≡ Err x → ShowsUnread koodhaxil b (shelf_text b)
unfolding shelf_text
unread_shown b x e =
    let r = first_among Read (read_looks b) (all_read b) x e in
    let q : koodhaxil.read b ≡ refusal_told x = rw e refl in
    let y = tree_in (refusal_told x).number (unnamed (refusal_told x).values) in
    let z = node_in (refusal_told x).number (unnamed (refusal_told x).values) in
    let text : shelf_text b ≡ line read_word ((refusal_told x).number ∷ y ∷ z ∷ []) = rw e refl in
    record {
      unread = λ w. let d : Err x ≡ Ok tt = sym e ∙ (read_pass b).1 w in let i : ◌≡◌ {A = ℕ} 0 1 = cc in absurd (omega arith);
      number = subst (λ (t : Told). (1 ≤ t.number) × (t.number ≤ 6)) (sym q) r.number;
      tree = y;
      tree_is = subst (λ (t : Told). ValueOr0 tree_number t.values y) (sym q) r.tree_is;
      node = z;
      node_is = subst (λ (t : Told). ValueOr0 node_number t.values z) (sym q) r.node_is;
      is = text ∙ ap (λ (t : Told). line read_word (t.number ∷ y ∷ z ∷ [])) (sym q);
    }

-- ---- no two forms of one collection

-- where a species occurs, that is not the form of nobody
nobody_has : (b x : List ℕ) → ShowsNobody koodhaxil b x → (v : ℕ) → So (has (occurring b) v) → ⊥
nobody_has b x p v h = p.nobody v ((occurs_some b (trees b) v).0 (ap (λ (S : Species). S v) (sym (occurring-has b p.collection)) ∙ h))

nobody_stops : (b x y : List ℕ) → ShowsNobody koodhaxil b x → ShowsStop koodhaxil b y → ⊥
nobody_stops b x y p q =
    let m = some_member q.stops.set (not_empty q.stops.set (omega (arith, q.stops.three))) in
    nobody_has b x p m.0 (q.stops.inside m.0 (true_has q.stops.set m.0 m.1))

nobody_tree : (b x y : List ℕ) → ShowsNobody koodhaxil b x → ShowsTree koodhaxil b y → ⊥
nobody_tree b x y p q =
    let h = q.keeps.held in
    let T = tree_of (front q.keeps.count (shelf_built koodhaxil b).after) in
    nobody_has b x p (lowest T) (sym (h.species (lowest T)) ∙ lowest_in T (formed_e T h.formed))

pub forms : (b : List ℕ) → Forms koodhaxil b (shelf_text b)
forms b = go (first_refusal (read_looks b)) refl
  where
    go : (k : Look) → first_refusal (read_looks b) ≡ k → Forms koodhaxil b (shelf_text b)
    go (Ok _) e = collection_shown b ((read_pass b).0 e)
    go (Err x) e = inl (unread_shown b x e)

pub shows_forms : ShowsForms koodhaxil
shows_forms = record {
  one_of = λ M 𝓤 𝓛 mem run κs a g r s. fact_mono 𝓤 _ _ (λ h. subst (Forms koodhaxil a.0.now) (sym (ap (λ (p : Page). p.text) h)) (forms a.0.now));
  unread_alone = λ b x y p q. ⊎_elim (λ s. p.unread s.collection) (⊎_elim (λ s. p.unread s.collection) (λ s. p.unread s.collection)) q;
  nobody_alone = λ b x y p q. ⊎_elim (nobody_stops b x y p) (nobody_tree b x y p) q;
  stop_alone = λ b x y p q. p.no_tree (_, q.keeps.held);
}
