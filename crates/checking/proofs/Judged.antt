-- What the searches found, as the looks and the answer of the check. Assumes nothing.
use mathlib.Core.Bool.{So, false}
use mathlib.Core.List.{List, [], ◌∷◌}
use mathlib.Core.Path.{◌∙◌, ◌≡◌, ap, ap₂, refl, sym}
use Prim.Native.Nat.{◌<◌, ◌≤◌, ℕ}
use native.Mathlib.Omega.{arith}
use borrow.Author.Tests.{le-ltb, lt-ltb, ltb-false}
use lib.Dec.{ltb}
use lib.ListN.{get_or, length}
use Rattle.sets.proofs.Members.{all_below}
use Rattle.sets.specs.Species.{Below, Inside, below}
use Rattle.trees.proofs.Theorems.{earned_exactly, pc_exactly}
use Rattle.trees.specs.Check.{Earned, PC, R, differs, unsure}
use Rattle.trees.specs.Trees.{Tree, under, well_formed}
use Rattle.tables.proofs.Bytes.{entered_proper}
use Rattle.triples.proofs.Indices.{index-lt}
use Rattle.tables.specs.Bytes.{entered}
use Rattle.triples.specs.Find as Find
use Rattle.triples.specs.Index.{C, index}
use Rattle.triples.specs.declared.Triple.{Triple}
use Rattle.bodies.proofs.Drawn.{tree_below, tree_formed}
use Rattle.bodies.proofs.Good.{length_good}
use Rattle.bodies.specs.Draws.{tree_of}
use Rattle.groups.specs.Groups.{Candidate, Drawn}
use Rattle.bodies.specs.Nodes.{Good, bad_length, most_nodes, nodes}
use Rattle.answers.proofs.Answered.{first_append, pass_false, then_nothing, then_pass}
use Rattle.answers.proofs.Good.{body_pass, count_pass}
use Rattle.answers.specs.Inputs.{Body, Count}
use Rattle.answers.specs.Looks.{first_refusal, look_bytes, look_count, look_length, look_rules, look_table, refuse_if}
use Rattle.refusals.specs.declared.Refusal.TheVariants.{Contradicted, Unforced}
use Rattle.checking.specs.Checks.{answer_of, candidate_looks, first_differs, first_unsure, look_pc, triples_looks}
use Rattle.masks.specs.Masks.{Masks}
use Rattle.pi.specs.Cores.{Uncontradicted}
use Rattle.checking.proofs.Passing.{pc_first, pi_first}
use Rattle.triples.specs.Finds.{Hit}
use Rattle.std.specs.Prelude.{Ok, Err}

-- the place of a triple that was found
abbrev pub placed : Triple → ℕ
placed x = index x.low x.mid x.high

module _ (n : ℕ) (t : List ℕ) (T : Tree) (f : So (well_formed T)) (bd : Below n (under T)) where
  inside : Inside (under T) (below n)
  inside x h = lt-ltb x n (bd x h)

  -- the triple that was found, as the look
  pub is_contradicted : (x : Triple) → Hit n (differs (entered t) T) x → (i v : ℕ) → i ≡ placed x → v ≡ get_or t (placed x) 0
      → Err (Contradicted (record { index = i; byte = v })) ≡ look_pc n t T
  unfolding first_differs
  is_contradicted x h i v ei ev =
      let l = index-lt x.low x.mid x.high n h.low_mid h.mid_high h.high_below in
      ap₂ (λ (j w : ℕ). Err (Contradicted (record { index = j; byte = w }))) ei ev ∙ sym (rw (h.is, lt-ltb (placed x) (C n 3) l) refl)

  pub is_agreed : Find.first_triple n (differs (entered t) T) ≡ C n 3 → (Ok tt) ≡ look_pc n t T
  unfolding first_differs
  is_agreed e = sym (rw (e, le-ltb (C n 3) (C n 3) (omega arith)) refl)

  -- nothing differs
  module _ (none : look_pc n t T ≡ Ok tt) where
    pub agreed : PC (entered t) (below n) T
    agreed = (pc_first n t T f inside).1 (ltb-false (first_differs n t T) (C n 3) (pass_false _ _ none))

    pub nothing_differs : (a b c : ℕ) → So (differs (entered t) T a b c) → ⊥
    nothing_differs = (pc_exactly (entered t) (entered_proper t) n (below n) (all_below n) T f inside).0 agreed

    -- where PC passes, PI decides
    undecided : (j : ℕ) → first_unsure n t T ≡ j → first_refusal (triples_looks n t T) ≡ refuse_if (ltb j (C n 3)) (Unforced j)
    undecided j e = rw (none, e) (then_nothing _)

    at_last : (j : ℕ) → first_unsure n t T ≡ j → C n 3 ≤ j → (Ok tt) ≡ answer_of (triples_looks n t T)
    at_last j e l = sym (rw (undecided j e, le-ltb j (C n 3) l) refl)

    pub is_unforced : (x : Triple) → Hit n (unsure (entered t) n T) x → (i : ℕ) → i ≡ placed x → Err (Unforced i) ≡ answer_of (triples_looks n t T)
    unfolding first_unsure
    is_unforced x h i e =
        let l = index-lt x.low x.mid x.high n h.low_mid h.mid_high h.high_below in
        ap (λ (j : ℕ). Err (Unforced j)) e ∙ sym (rw (undecided (placed x) h.is, lt-ltb (placed x) (C n 3) l) refl)

    pub is_sure : Find.first_triple n (unsure (entered t) n T) ≡ C n 3 → (Ok tt) ≡ answer_of (triples_looks n t T)
    unfolding first_unsure
    is_sure e = at_last (C n 3) e (omega arith)

    pub is_earned : Earned (R (entered t) T) T → (Ok tt) ≡ answer_of (triples_looks n t T)
    is_earned er = at_last (first_unsure n t T) refl
        ((pi_first n t T f inside agreed).0 ((earned_exactly (entered t) (entered_proper t) n (below n) (all_below n) T f inside agreed).1 er))

-- ---- what is known of a good body, and that the looks pass no other

pub candidate_pass : (n : ℕ) (t b : List ℕ) → first_refusal (candidate_looks n t b) ≡ Ok tt → Count n × Body n b
candidate_pass n t b e =
    let table = look_count n ∷ look_table n (length t) ∷ look_bytes t ∷ [] in
    let tree = look_length 0 (length b) ∷ look_rules 0 n b ∷ [] in
    let p = (then_pass (first_refusal table) (first_refusal tree)).0 (sym (first_append table tree) ∙ e) in
    ((count_pass n).0 ((then_pass (look_count n) _).0 p.0).0, (body_pass 0 n b).0 p.1)

module _ (n : ℕ) (b : List ℕ) (small : n ≤ 64) (g : Good n (nodes b)) (l : bad_length (length b) ≡ false) where
  pub some_nodes : (0 < (nodes b).count) × ((nodes b).count ≤ most_nodes)
  some_nodes = let k = length_good b l in (k.0, k.1)

  pub formed : So (well_formed (tree_of b))
  formed = tree_formed n (nodes b) g some_nodes.0

  pub within : Below n (under (tree_of b))
  within = tree_below n (nodes b) g some_nodes.0

  pub candidate : {whole : ℕ} {meets : List ℕ} → Drawn (tree_of b) whole meets → Candidate n (tree_of b) whole meets
  candidate d = record { drawn = d; below = within }

  -- what the search for a triplet that is not forced asks for, once PC has passed
  pub unopposed : (t : List ℕ) {whole : ℕ} {meets masks : List ℕ} → Drawn (tree_of b) whole meets → look_pc n t (tree_of b) ≡ Ok tt → Masks (R (entered t) (tree_of b)) masks
      → Uncontradicted (entered t) n (tree_of b) whole meets masks
  unopposed t d none m = record { few = small; proper = entered_proper t; tree = candidate d; masked = m; none = nothing_differs n t (tree_of b) formed within none }
