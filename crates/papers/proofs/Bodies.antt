-- The body of one text: what the answer of reading it says. Assumes nothing.
use mathlib.Core.Bool.{false}
use mathlib.Core.List.{List}
use mathlib.Core.Path.{◌∙◌, ◌≡◌, ap, refl, sym}
use Prim.Native.Nat.{ℕ, ◌+◌, ◌≤◌}
use native.Mathlib.Omega.{arith}
use borrow.Author.Tests.{le-ltb}
use lib.ListN.{length}
use Rattle.bodies.proofs.Back.{body_length_lem, good_length}
use Rattle.bodies.proofs.Laid.{count_pos}
use Rattle.bodies.specs.Draws.{node_count, written}
use Rattle.bodies.specs.Nodes.{bad_length, longest, nodes}
use Rattle.answers.proofs.Answered.{then_pass}
use Rattle.answers.proofs.Good.{rules_pass}
use Rattle.answers.specs.Inputs.{Body}
use Rattle.answers.specs.Looks.{after, answered, first_refusal, look_count, look_rules}
use Rattle.answers.specs.Looks.{Look}
use Rattle.refusals.specs.declared.Refusal.{Refusal}
use Rattle.answers.specs.declared.Written.{Written}
use Rattle.newick.proofs.Theorems.{takes_within}
use Rattle.newick.specs.Scan.{Scanned, scan, stuck, taken}
use Rattle.parsing.proofs.Texts.{text_body_lem, text_pass}
use Rattle.parsing.specs.Parses.{Parses, body_in, look_form, look_long, parse_answer, parse_done, parse_looks, text_body}
use Rattle.highest.specs.Bound.{top_of}
use Rattle.papers.specs.Bundled.{with_length}
use Rattle.papers.specs.OneText.{next_of}
use Rattle.papers.specs.Reads.{text_answer}
use Rattle.std.specs.Prelude.{Ok, Err, Result}

-- no text has a longer body
pub text_short : (t : List ℕ) → length (text_body t) ≤ longest
text_short t = by (scan t) refl
  where
    by : (r : Scanned) → scan t ≡ r → length (body_in r) ≤ longest
    by (taken b) e = let k = (takes_within t b).0 e in let z = ap length k.3 in omega (arith, body_length_lem k.0, k.2.count)
    by (stuck l) e = omega arith

-- a room that holds the longest body is as good as any longer one
room_enough : (n : ℕ) (t : List ℕ) (l m : ℕ) → longest ≤ l → longest ≤ m → first_refusal (parse_looks n t l) ≡ first_refusal (parse_looks n t m)
room_enough n t l m h k =
    let s = text_short t in
    rw (le-ltb l (length (text_body t)) (omega arith), le-ltb m (length (text_body t)) (omega arith)) refl

-- parsing with n = 64 answers the same in any such room
pub any-room : (t : List ℕ) (l : ℕ) → longest ≤ l → parse_answer 64 t l ≡ text_answer t
unfolding text_answer
any-room t l h = ap (λ (k : Look). answered Ok Err k (parse_done t)) (room_enough 64 t l longest h (omega arith))

-- ---- what it answers, and leaves in the room

done_look : (k : Look) (w m : Written) → answered Ok Err k w ≡ Ok m → (k ≡ Ok tt) × (m ≡ w)
done_look (Ok _) w m e = let z : w ≡ m = cc in (refl, sym z)
done_look (Err x) w m e = let z : ◌≡◌ {A = ℕ} 0 1 = cc in absurd (omega arith)

module _ (t o : List ℕ) (h : longest ≤ length o) (r : Result Written Refusal) (o' : List ℕ) (s : Parses 64 t o r o') where
  pub answer_is : r ≡ text_answer t
  answer_is = s.is ∙ any-room t (length o) h

  pub room_is : (m : Written) → r ≡ Ok m → o' ≡ written o (text_body t)
  room_is m e =
      let p = (done_look (first_refusal (parse_looks 64 t (length o))) (parse_done t) m (sym s.is ∙ e)).0 in
      s.holds ∙ ap (λ (k : Look). after k (written o (text_body t)) o) p

-- a text that is read has a good body, with as many nodes as are answered
pub text_read : (t : List ℕ) (m : Written) → text_answer t ≡ Ok m → (m.nodes ≡ (nodes (text_body t)).count) × Body 64 (text_body t)
unfolding text_answer
text_read t m e =
    let d = done_look (first_refusal (parse_looks 64 t longest)) (parse_done t) m e in
    let a = (then_pass (look_count 64) _).0 d.0 in
    let b = (then_pass (look_long (length t)) _).0 a.1 in
    let c = (then_pass (look_form t) _).0 b.1 in
    let g = (then_pass (look_rules 0 64 (text_body t)) _).0 c.1 in
    let q = (text_pass t).0 ((then_pass (look_long (length t)) _).1 (b.0, (then_pass (look_form t) (Ok tt)).1 (c.0, refl))) in
    let l : bad_length (length (text_body t)) ≡ false = ap (λ (b : List ℕ). bad_length (length b)) (text_body_lem t q.0 q.1) ∙ ap bad_length (body_length_lem q.0) ∙ good_length (node_count q.0) (count_pos q.0) q.1.within.count in
    (ap (λ (w : Written). w.nodes) d.1, record { good = (rules_pass 0 64 (text_body t)).0 g.0; long = l })

-- ---- and what comes of it for the loop

pub next_read : (t : List ℕ) (p : ℕ) (m : Written) → text_answer t ≡ Ok m → next_of t p ≡ Ok (record { next = p + length (with_length (text_body t)); top = top_of (text_body t) })
next_read t p m e = rw e refl

pub next_stop : (t : List ℕ) (p : ℕ) (x : Refusal) → text_answer t ≡ Err x → next_of t p ≡ Err x
next_stop t p x e = rw e refl
