-- The collection of one good tree: it is a good collection, the tree's body is the body, and its table is the table of what the tree says.
-- Assumes nothing.
use mathlib.Core.Bool.{false}
use mathlib.Core.List.{List}
use mathlib.Core.Path.{◌∙◌, ◌≡◌, ap, refl, subst, sym}
use Prim.Native.Nat.{◌+◌, ◌<◌, ◌≤◌, suc, zero, ℕ}
use native.Mathlib.Omega.{arith}
use lib.ListN.{length}
use lib.Seq.{take-length}
use Rattle.tables.specs.Filled.{said_by, table_for}
use Rattle.triples.specs.Index.{C}
use Rattle.bodies.specs.Draws.{tree_of}
use Rattle.bodies.specs.Nodes.{Good, bad_length, nodes}
use Rattle.collections.specs.Collection.{Collection}
use Rattle.collections.specs.Layout.{body_at, length_at, start}
use Rattle.listing.specs.Lists.{said_up_to}
use Rattle.promises.specs.Operations.{Given, lists}
use Rattle.answers.specs.Inputs.{Body, Count}
use Rattle.promises.specs.Demand3.{alone, table_of}
use Rattle.promises.proofs.Listed.{lists_is}

module _ (n : ℕ) (b : List ℕ) where
  alone_long : length_at (alone n b) (start (alone n b) 0) ≡ length b
  unfolding start
  alone_long = omega arith

  alone-start : start (alone n b) 1 ≡ 5 + length b
  unfolding start
  alone-start = omega arith

  pub alone_body : body_at (alone n b) 0 ≡ b
  unfolding start
  alone_body = rw alone_long (take-length b)

  module _ (c : Count n) (g : Body n b) where
    pub alone_collection : Collection (alone n b)
    alone_collection = record {
      header = omega arith;
      one = refl;
      some = c.some;
      most = c.most;
      few = omega arith;
      inside = inside;
      long = long;
      good = good;
      end = omega (arith, alone-start);
    }
      where
        inside : (k : ℕ) → k < 1 → start (alone n b) (suc k) ≤ length (alone n b)
        inside zero l = omega (arith, alone-start)
        inside (suc k) l = absurd (omega arith)

        long : (k : ℕ) → k < 1 → bad_length (length_at (alone n b) (start (alone n b) k)) ≡ false
        long zero l = ap bad_length alone_long ∙ g.long
        long (suc k) l = absurd (omega arith)

        good : (k : ℕ) → k < 1 → Good n (nodes (body_at (alone n b) k))
        good zero l = subst (λ (u : List ℕ). Good n (nodes u)) (sym alone_body) g.good
        good (suc k) l = absurd (omega arith)

    alone_said : said_up_to (alone n b) 1 ≡ said_by (tree_of b)
    unfolding said_up_to
    alone_said = ap (λ (u : List ℕ). said_by (tree_of u)) alone_body

    pub alone_table : (t : List ℕ) → length t ≡ C n 3 → table_of lists n b t ≡ table_for n (said_by (tree_of b))
    alone_table t l = ap (λ (h : Given). h.after) (lists_is (alone n b) t (record { collection = alone_collection; long = l })) ∙ ap (table_for n) alone_said
