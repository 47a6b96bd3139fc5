-- `papers::one_text` meets its contract: what parsing answers, and its body behind the two length bytes. Assumes nothing.
use Rattle.std.proofs.Common.{arith, rules, List, ℕ, ◌+◌, ◌-◌, ◌≤◌, ◌≡◌, ◌∙◌, ap, ap₂, sym, length, drop, take, slice_set}
use Rattle.std.proofs.lemmas.List.Edits.{sets}
use Rattle.bodies.proofs.Good.{length_good}
use Rattle.bodies.specs.Nodes.{longest, most_nodes}
use Rattle.bodies.specs.Nodes as N
use Rattle.answers.specs.Inputs.{Body}
use Rattle.answers.specs.declared.Written.{Written}
use Rattle.parsing.specs.Parses.{Parses, text_body}
use Rattle.highest.specs.Bound.{top_of}
use Rattle.papers.specs.Bundled.{with_length}
use Rattle.papers.specs.Reads.{text_answer}
use Rattle.papers.proofs.Bodies.{answer_is, next_read, next_stop, room_is, text_read, text_short}
use Rattle.papers.proofs.Stores.{back_sets, back_in, laid_body, part_long, part_of, with_length_lem}
use Rattle.papers.proofs.one_text.Goals as goal
use Rattle.refusals.specs.declared.Refusal.{Refusal}
use Rattle.std.specs.Prelude.{Ok, Err, Result}

-- once the text t was parsed
module _ (t o : List ℕ) (p : ℕ) (h : p + 2 + longest ≤ length o) (r : Result Written Refusal) (o' : List ℕ) (s : Parses 64 t (part_of o (p + 2)) r o') where
  answered_so : r ≡ text_answer t
  answered_so = answer_is t (part_of o (p + 2)) (part_long o p h) r o' s

  -- once it was taken, with these nodes
  module _ (x : Written) (e : r ≡ Ok x) where
    read : text_answer t ≡ Ok x
    read = sym answered_so ∙ e

    good : (x.nodes ≡ (N.nodes (text_body t)).count) × Body 64 (text_body t)
    good = text_read t x read

    few : x.nodes ≤ most_nodes
    few = let l = length_good (text_body t) good.1.long in omega (arith, good.0, l.1)

    room : p + 2 + length (text_body t) ≤ length o
    room = let z = text_short t in omega arith

    back : back_in o (p + 2) o' ≡ sets o (p + 2) (text_body t)
    back = ap (back_in o (p + 2)) (room_is t (part_of o (p + 2)) (part_long o p h) r o' s x e) ∙ back_sets o (text_body t) (p + 2) room

    -- and once its length is known
    module _ (l : ℕ) (k : l ≡ N.body_length x.nodes) where
      long : l ≡ length (text_body t)
      long = let z = length_good (text_body t) good.1.long in omega (arith, good.0, z.2)

      laid : slice_set (slice_set (back_in o (p + 2) o') p 0) (p + 1) l ≡ sets o p (with_length (text_body t))
      laid = ap₂ (λ (u : List ℕ) (j : ℕ). slice_set (slice_set u p 0) (p + 1) j) back long ∙ with_length_lem o (text_body t) p

pub body_length-l-requires : goal.body_length-l-requires
body_length-l-requires c = few c.args.text.now c.args.store.now c.args.p c.requires _ _ c.parse.ensures _ c.in_ok-parsed.was

pub overflow_cast-store : goal.overflow_cast-store
overflow_cast-store c = let f = few c.args.text.now c.args.store.now c.args.p c.requires _ _ c.parse.ensures _ c.in_ok-parsed.was in omega (arith, c.body_length-l.ensures)

pub returns-clause-value : goal.returns-clause-value
returns-clause-value c =
    let t = c.args.text.now in
    let o = c.args.store.now in
    let p = c.args.p in
    let b = text_body t in
    let n = c.body_length-l.result in
    let d = laid t o p c.requires _ _ c.parse.ensures _ c.in_ok-parsed.was n c.body_length-l.ensures in
    let l = long t o p c.requires _ _ c.parse.ensures _ c.in_ok-parsed.was n c.body_length-l.ensures in
    let k : p + 2 + n - (p + 2) ≡ length b = omega arith in
    let q : p + 2 + n ≡ p + length (with_length b) = omega arith in
    let e = c.top-top.ensures ∙ ap top_of (ap₂ (λ (k : ℕ) (u : List ℕ). take k (drop (p + 2) u)) k d ∙ laid_body o b p (room t o p c.requires _ _ c.parse.ensures _ c.in_ok-parsed.was)) in
    (ap₂ (λ (a b : ℕ). Ok (record { next = a; top = b })) q e ∙ sym (next_read t p _ (read t o p c.requires _ _ c.parse.ensures _ c.in_ok-parsed.was)), d)

pub returns-in_err-parsed-clause-value : goal.returns-in_err-parsed-clause-value
returns-in_err-parsed-clause-value c =
    let e = next_stop c.args.text.now c.args.p _ (sym (answered_so c.args.text.now c.args.store.now c.args.p c.requires _ _ c.parse.ensures) ∙ c.in_err-parsed.was) in
    let q : c.from_residual.result ≡ Err c.in_err-parsed.field-0.0 = search rules in
    (q ∙ sym e, rw q tt)
