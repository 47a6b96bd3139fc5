-- Reading passes exactly what is a collection, in document 01's sentences; and a collection has at most 4,099 bytes. Assumes nothing.
use mathlib.Core.Bool.{false}
use mathlib.Core.List.{List}
use mathlib.Core.Logic.{◌↔◌}
use mathlib.Core.Path.{◌≡◌, ap, refl, subst, sym}
use Prim.Native.Nat.{◌*◌, ◌+◌, ◌<◌, ◌≤◌, suc, zero, ℕ}
use native.Mathlib.Omega.{arith}
use borrow.Author.Tests.{eq-eqb, eqb-false, eqb-true, le-ltb, ltb-false, ne_eqb, not-false}
use lib.Dec.{eqb, ltb}
use lib.ListN.{length}
use Rattle.sets.proofs.Bools.{ne_e, or-none, test}
use Rattle.bodies.proofs.Good.{length_most}
use Rattle.rules.proofs.Rules.{no_fault}
use Rattle.bodies.specs.Nodes.{bad_length, longest, nodes}
use Rattle.answers.proofs.Answered.{pass_false, then_pass}
use Rattle.answers.proofs.Good.{rules_pass}
use Rattle.answers.specs.Looks.{answered, first_refusal, look_length, look_rules, refuse_if}
use Rattle.answers.specs.Looks.{Look}
use Rattle.refusals.specs.declared.Refusal.{Refusal}
use Rattle.refusals.specs.declared.Refusal.TheVariants.{BadCounts, BadVersion, EndsEarly}
use Rattle.collections.proofs.Starts.{body_length_lem, start-suc}
use Rattle.collections.proofs.Steps.{Sound, end_good}
use Rattle.collections.specs.Collection.{Collection}
use Rattle.collections.specs.Layout.{body_at, length_at, longest_collection, no_byte, short_body, short_header, short_length, species, start, trees, version, wrong_counts, wrong_version}
use Rattle.collections.specs.Reads.{counts_of, looks_from, read_answer, read_looks}
use Rattle.collections.specs.declared.Counts.{Counts}
use Rattle.std.specs.Prelude.{Ok, Err}

module _ (b : List ℕ) where
  -- every tree from k on is good, and what follows the last one is nothing
  from_pass : (k j : ℕ) → k + j ≡ trees b → start b k ≤ length b → first_refusal (looks_from b k j) ≡ Ok tt → ((m : ℕ) → k ≤ m → m < trees b → Sound b m) × (length b ≡ start b (trees b))
  unfolding looks_from
  from_pass k zero e le h =
      let p = (then_pass (refuse_if (ltb (start b k) (length b)) _) (Ok tt)).0 h in
      let q : k ≡ trees b = omega arith in
      ((λ m l r. absurd (omega arith)), omega (arith, ltb-false (start b k) (length b) (pass_false (ltb (start b k) (length b)) _ p.0), ap (start b) q))
  from_pass k (suc j) e le h =
      let p = (then_pass (refuse_if (short_length b k) (EndsEarly k)) _).0 h in
      let q = (then_pass (look_length k (length_at b (start b k))) _).0 p.1 in
      let r = (then_pass (refuse_if (short_body b k) (EndsEarly k)) _).0 q.1 in
      let u = (then_pass (look_rules k (species b) (body_at b k)) _).0 r.1 in
      let l = ltb-false _ _ (pass_false (short_body b k) _ r.0) in
      let s : Sound b k = (l, pass_false (bad_length (length_at b (start b k))) _ q.0, (rules_pass k (species b) (body_at b k)).0 u.0) in
      let rest = from_pass (suc k) j (omega arith) l u.1 in (
        (λ m a z. test (eqb k m) (λ x. subst (Sound b) (eqb-true k m x) s) (λ x. let n = ne_e k m x in rest.0 m (omega arith) z)),
        rest.1,
      )

  pass_whole : first_refusal (read_looks b) ≡ Ok tt → Collection b
  unfolding read_looks start
  pass_whole h =
      let p = (then_pass (refuse_if (no_byte b) (EndsEarly 0)) _).0 h in
      let q = (then_pass (refuse_if (wrong_version b) BadVersion) _).0 p.1 in
      let r = (then_pass (refuse_if (short_header b) (EndsEarly 0)) _).0 q.1 in
      let s = (then_pass (refuse_if (wrong_counts b) BadCounts) _).0 r.1 in
      let long = ltb-false _ _ (pass_false (short_header b) _ r.0) in
      let f = from_pass 0 (trees b) (omega arith) long s.1 in
      let n = or-none (eqb (species b) 0) _ (pass_false (wrong_counts b) _ s.0) in
      let m = or-none (ltb 64 (species b)) (ltb 16 (trees b)) n.1 in
      record {
        header = long;
        one = eqb-true (version b) 1 (not-false _ (pass_false (wrong_version b) _ q.0));
        some = let z = eqb-false (species b) 0 n.0 in omega arith;
        most = ltb-false _ _ m.0;
        few = ltb-false _ _ m.1;
        inside = λ k l. (f.0 k (omega arith) l).0;
        long = λ k l. (f.0 k (omega arith) l).1;
        good = λ k l. (f.0 k (omega arith) l).2;
        end = f.1;
      }

  -- each tree adds at most the two bytes of its length and the longest body
  start_most : (k : ℕ) → ((m : ℕ) → m < k → length_at b (start b m) ≤ longest) → start b k ≤ 3 + (2 + longest) * k
  unfolding start
  start_most zero h = omega arith
  start_most (suc k) h = omega (arith, start_most k (λ m l. h m (omega arith)), h k (omega arith))

-- ---- and a collection passes

module _ (b : List ℕ) (w : Collection b) where
  rest_pass : (k j : ℕ) → k + j ≡ trees b → first_refusal (looks_from b k j) ≡ Ok tt
  unfolding looks_from
  rest_pass k zero e = let q : k ≡ trees b = omega arith in end_good b k (start b k) refl (omega (arith, w.end, ap (start b) q))
  rest_pass k (suc j) e =
      let l : k < trees b = omega arith in
      let i = w.inside k l in
      rw (
        le-ltb (length b) (start b k + 2) (omega (arith, start-suc b k)),
        w.long k l,
        le-ltb (length b) (start b (suc k)) i,
        (no_fault k (species b) (nodes (body_at b k))).1 (w.good k l),
      ) (rest_pass (suc k) j (omega arith))

  whole_pass : first_refusal (read_looks b) ≡ Ok tt
  unfolding read_looks
  whole_pass =
      let i = w.some in
      let z : species b ≡ 0 → ⊥ = λ e. omega arith in
      let some : length b ≡ 0 → ⊥ = λ e. omega (arith, w.header) in
      rw (
        ne_eqb (length b) 0 some,
        eq-eqb (version b) 1 w.one,
        le-ltb (length b) 3 w.header,
        ne_eqb (species b) 0 z,
        le-ltb 64 (species b) w.most,
        le-ltb 16 (trees b) w.few,
      ) (rest_pass 0 (trees b) (omega arith))

  pub whole_most : length b ≤ longest_collection
  whole_most = omega (arith, w.end, w.few, start_most b (trees b) (λ m l. length_most (length_at b (start b m)) (w.long m l)))

  -- each body has a good length
  pub whole_long : (k : ℕ) → k < trees b → bad_length (length (body_at b k)) ≡ false
  whole_long k l = rw (body_length_lem b k (w.inside k l)) (w.long k l)

-- ---- what an answer says

done_pass : (k : Look) (c w : Counts) → answered Ok Err k w ≡ Ok c → (k ≡ Ok tt) × (c ≡ w)
done_pass (Ok _) c w e = let z : w ≡ c = cc in (refl, sym z)
done_pass (Err x) c w e = let z : ◌≡◌ {A = ℕ} 0 1 = cc in absurd (omega arith)

pub read_refused : (b : List ℕ) (x : Refusal) → read_answer b ≡ Err x → first_refusal (read_looks b) ≡ Err x
read_refused b x e = go (first_refusal (read_looks b)) e
  where
    go : (k : Look) → answered Ok Err k (counts_of b) ≡ Err x → k ≡ Err x
    go (Ok _) e = let z : ◌≡◌ {A = ℕ} 0 1 = cc in absurd (omega arith)
    go (Err y) e = let z : y ≡ x = cc in ap Err z

pub read_done : (b : List ℕ) (c : Counts) → read_answer b ≡ Ok c → (c ≡ counts_of b) × Collection b
read_done b c e = let p = done_pass (first_refusal (read_looks b)) c (counts_of b) e in (p.1, pass_whole b p.0)

pub read_pass : (b : List ℕ) → (first_refusal (read_looks b) ≡ Ok tt) ↔ Collection b
read_pass b = (pass_whole b, whole_pass b)
