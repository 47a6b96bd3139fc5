-- Every run that document 01 marks as proved holds: the build, the tree of each body and the check are computed, and the laws of the answers do the
-- rest. Assumes nothing.
use mathlib.Core.Bool.{false}
use mathlib.Core.List.{List, [], ◌∷◌}
use mathlib.Core.Path.{◌∙◌, ◌≡◌, ap, refl}
use Prim.Native.Nat.{ℕ, ◌<◌, ◌≤◌}
use native.Mathlib.Omega.{arith}
use lib.ListN.{length, length-replicate}
use Rattle.sets.proofs.Sizes.{size-upto}
use Rattle.sets.specs.Sets.{digit, number, upto}
use Rattle.sets.specs.Species.{Species, members}
use Rattle.trees.specs.Build.{build_by, build_in, stop, tree}
use Rattle.trees.specs.Links.{leads, part, parts}
use Rattle.trees.specs.Trees.{Tree, cons, leaf, nil, node}
use Rattle.trees.specs.Visits.{looked, visited, visited_in}
use Rattle.tables.proofs.Limits.{small_exactly}
use Rattle.tables.specs.Bytes.{bit_of, entered, over, place_of, wrong_byte}
use Rattle.triples.specs.Find.{at, first_triple, first_from}
use Rattle.triples.specs.Index.{C, high_at, index, largest, low_at, mid_at}
use Rattle.rules.proofs.Rules.{no_fault}
use Rattle.bodies.specs.Draws.{body_of, node_count, tree_at, tree_of, written}
use Rattle.rules.specs.Faults as Faults
use Rattle.bodies.specs.Nodes.{bad_length, children, nodes, room_for}
use Rattle.refusals.specs.Told.{looked_count, number_of_nodes, stopping_set, told, value}
use Rattle.answers.specs.Looks as Looks
use Rattle.answers.specs.Looks.{look_told}
use Rattle.answers.specs.Looks.{Look}
use Rattle.refusals.specs.declared.Refusal.TheVariants.{Contradicted, Unforced}
use Rattle.building.specs.Builds.{looked_by, outcome, outcome_by}
use Rattle.checking.specs.Checks.{first_differs, first_unsure, triples_looks}
use Rattle.promises.specs.Operations.{builds, checks, gives}
use Rattle.answers.specs.Inputs.{Count, Table}
use Rattle.promises.specs.Inputs.{Buildable}
use Rattle.promises.specs.Runs.{CallsHold, cherry_body, fan_body, nested_body, room, starred}
use Rattle.promises.proofs.Built.{builds_stop, builds_tree}
use Rattle.promises.proofs.Checked.{checks_tree}
use Rattle.promises.proofs.Everyone.{all_enclosed, all_set}
use Rattle.std.specs.Prelude.{Ok, Err}

module _ (n : ℕ) (t : List ℕ) (some : 0 < n) (most : n ≤ 64) (long : length t ≡ C n 3) (small : wrong_byte t ≡ false) where
  count : Count n
  count = record { some = some; most = most }

  table : Table n t
  table = record { long = long; small = (small_exactly t).0 small }

  pub all_good : Buildable n (upto n) t (room n)
  all_good = record {
    count = count;
    table = table;
    set = all_set n some;
    enclosed = all_enclosed n t;
    room = omega (arith, length-replicate {A = ℕ} (room_for n) 0, size-upto n);
  }

  by_tree : (T : Tree) → outcome n (upto n) t ≡ tree T → builds n (upto n) t (room n) ≡ gives (told 0 (value number_of_nodes (node_count T) ∷ value looked_count (looked_by false n (upto n) t) ∷ [])) (written (room n) (body_of T))
  by_tree T e = builds_tree n (upto n) t (room n) all_good T e

  by_stop : (U : Species) → outcome n (upto n) t ≡ stop U → builds n (upto n) t (room n) ≡ gives (told 10 (value stopping_set (number 64 U) ∷ value looked_count (looked_by false n (upto n) t) ∷ [])) (room n)
  by_stop U e = builds_stop n (upto n) t (room n) all_good U e

  by_check : (b : List ℕ) → bad_length (length b) ≡ false → Faults.fault 0 (nodes b) n ≡ Ok tt → (T : Tree) → tree_of b ≡ T → (k : Look) → Looks.first_refusal (triples_looks n t T) ≡ k → checks n t b ≡ look_told k []
  by_check b l f T e k q = checks_tree n t b (record { count = count; table = table; body = record { good = (no_fault 0 n (nodes b)).0 f; long = l } })
      ∙ ap (λ (u : Tree). look_told (Looks.first_refusal (triples_looks n t u)) []) e ∙ ap (λ (j : Look). look_told j []) q

-- ---- the trees of the runs

abbrev pair : Tree → Tree → Tree
pair t u = node (cons t (cons u nil))

abbrev Cherry : Tree
Cherry = pair (pair (leaf 0) (leaf 1)) (leaf 2)

abbrev Fan : Tree
Fan = node (cons (leaf 0) (cons (leaf 1) (cons (leaf 2) nil)))

pub starred_given : CallsHold starred
unfolding digit number members build_by build_in leads part parts bit_of entered over place_of first_differs first_unsure at first_triple first_from C high_at index largest low_at mid_at tree_at Faults.fault Faults.first_break Faults.seen children outcome_by looked_by looked visited visited_in
starred_given = (
  by_tree 1 [] (omega arith) (omega arith) refl refl (leaf 0) refl,
  (
    by_tree 2 [] (omega arith) (omega arith) refl refl (pair (leaf 0) (leaf 1)) refl,
    (
      by_tree 3 (0 ∷ []) (omega arith) (omega arith) refl refl Fan refl,
      (
        by_tree 4 (1 ∷ 0 ∷ 0 ∷ 1 ∷ []) (omega arith) (omega arith) refl refl (pair Cherry (leaf 3)) refl,
        (
          by_check 4 (1 ∷ 0 ∷ 0 ∷ 1 ∷ []) (omega arith) (omega arith) refl refl nested_body refl refl (pair Cherry (leaf 3)) refl (Ok tt) refl,
          (
            by_stop 4 (3 ∷ 0 ∷ 0 ∷ 0 ∷ []) (omega arith) (omega arith) refl refl _ refl,
            (
              by_stop 4 (1 ∷ 2 ∷ 0 ∷ 1 ∷ []) (omega arith) (omega arith) refl refl _ refl,
              (
                by_check 3 (2 ∷ []) (omega arith) (omega arith) refl refl cherry_body refl refl Cherry refl (Err (Contradicted (record { index = 0; byte = 2 }))) refl,
                (
                  by_check 3 (3 ∷ []) (omega arith) (omega arith) refl refl cherry_body refl refl Cherry refl (Err (Contradicted (record { index = 0; byte = 3 }))) refl,
                  (
                    by_check 3 (0 ∷ []) (omega arith) (omega arith) refl refl cherry_body refl refl Cherry refl (Err (Unforced 0)) refl,
                    (
                      by_check 3 (1 ∷ []) (omega arith) (omega arith) refl refl cherry_body refl refl Cherry refl (Ok tt) refl,
                      (by_check 3 (3 ∷ []) (omega arith) (omega arith) refl refl fan_body refl refl Fan refl (Ok tt) refl, (refl, tt)),
                    ),
                  ),
                ),
              ),
            ),
          ),
        ),
      ),
    ),
  ),
)
