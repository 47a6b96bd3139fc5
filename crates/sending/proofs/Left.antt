-- What loosening left in the room and the list, answer by answer. Assumes nothing.
use mathlib.Core.List.{List}
use mathlib.Core.Path.{◌∙◌, ◌≡◌, ap, ap₂, refl, subst, sym}
use Prim.Native.Nat.{ℕ, ◌≤◌}
use native.Mathlib.Omega.{arith}
use lib.ListN.{length, replicate, take}
use Rattle.bodies.proofs.Back.{body_length_lem}
use Rattle.bodies.proofs.Written.{written_body}
use Rattle.bodies.specs.Draws.{body_of, node_count}
use Rattle.bodies.specs.Nodes.{body_length, longest, most_nodes}
use Rattle.answers.specs.Inputs.{Body, Count}
use Rattle.answers.specs.Looks.{after, answered, first_refusal}
use Rattle.answers.specs.Looks.{Look}
use Rattle.easing.specs.Eases.{Lent, eased, laid_out, lent, numbers, tally}
use Rattle.loosening.specs.Loosens.{loosen_answer, loosen_looks}
use Rattle.easing.specs.declared.Tally.{Tally}
use Rattle.sending.proofs.Final.{final_body_lem, final_dropped, final_long, final_nodes, final_preorder}
use Rattle.sending.proofs.Pulled.{numbers-length}
use Rattle.sending.specs.Pulls.{InPreorder}
use Rattle.sending.specs.Sends.{final_body, dropped_sets, left_in', left_text, lines_text, sent_text}
use Rattle.std.specs.Prelude.{Ok, Err, Result}
use Rattle.refusals.specs.declared.Refusal.{Refusal}

-- o has a tree and its dropped sets
pub record LeftGood (n : ℕ) (o : Lent) (w : Tally) : Type 0 where
  pub few : w.nodes ≤ most_nodes
  pub few_dropped : w.dropped ≤ 62
  pub body : Body n (final_body o w)
  pub preorder : InPreorder (final_body o w)

-- a look that is answered `Done` passes
done_passes : (k : Look) (v w : Tally) → answered Ok Err k v ≡ Ok w → (k ≡ Ok tt) × (w ≡ v)
done_passes (Ok _) v w e = (refl, cc)
done_passes (Err x) v w e = let z : ◌≡◌ {A = ℕ} 0 1 = cc in absurd (omega arith)

-- loosening answered a, and left o
module _ (n : ℕ) (t b : List ℕ) (a : Result Tally Refusal) (p : a ≡ loosen_answer n t b longest 62) (o : Lent) (q : o ≡ left_in' n t b) where
  sent_is : left_text o a ≡ sent_text n t b
  sent_is = ap₂ left_text q p

  module _ (w : Tally) (e : a ≡ Ok w) where
    pub done_told : (k : ℕ) → k ≡ body_length w.nodes → lines_text (take k o.room) (dropped_sets o w) ≡ sent_text n t b
    done_told k h = rw h (ap (left_text o) (sym e) ∙ sent_is)

    passes : (first_refusal (loosen_looks n t b longest 62) ≡ Ok tt) × (w ≡ tally (eased n t b))
    passes = done_passes (first_refusal (loosen_looks n t b longest 62)) (tally (eased n t b)) w (sym p ∙ e)

    -- the final tree's body, and the dropped sets, at the front of zeros
    lies : o ≡ laid_out (eased n t b) (lent (replicate longest 0) (replicate 62 0))
    lies = q ∙ ap (λ (k : Look). after k (laid_out (eased n t b) (lent (replicate longest 0) (replicate 62 0))) (lent (replicate longest 0) (replicate 62 0))) passes.0

    module _ (c : Count n) (g : Body n b) where
      nodes_is : w.nodes ≡ node_count (eased n t b).final
      nodes_is = ap (λ (v : Tally). v.nodes) passes.1

      dropped_is : w.dropped ≡ length (eased n t b).dropped
      dropped_is = ap (λ (v : Tally). v.dropped) passes.1

      pub left_body : final_body o w ≡ body_of (eased n t b).final
      left_body =
          let k : body_length w.nodes ≡ length (body_of (eased n t b).final) = omega (arith, nodes_is, body_length_lem (eased n t b).final) in
          ap₂ (λ (j : ℕ) (l : Lent). take j l.room) k lies ∙ written_body (replicate longest 0) (body_of (eased n t b).final) (final_long g c t)

      pub left_dropped : dropped_sets o w ≡ numbers (eased n t b).dropped
      left_dropped =
          let d = numbers (eased n t b).dropped in
          let k : w.dropped ≡ length d = dropped_is ∙ sym (numbers-length (eased n t b).dropped) in
          ap₂ (λ (j : ℕ) (l : Lent). take j l.list) k lies ∙ written_body (replicate 62 0) d (omega (arith, numbers-length (eased n t b).dropped, final_dropped g c t))

      -- so what was left is a tree that can be written, with its dropped sets
      pub left_good : LeftGood n o w
      left_good = record {
        few = omega (arith, nodes_is, final_nodes g c t);
        few_dropped = omega (arith, dropped_is, final_dropped g c t);
        body = subst (Body n) (sym left_body) (final_body_lem g c t);
        preorder = subst InPreorder (sym left_body) (final_preorder g c t);
      }
