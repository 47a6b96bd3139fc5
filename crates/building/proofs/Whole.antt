-- The answer of building any set, and what the room then holds. Assumes nothing.
use mathlib.Core.Bool.{Bool}
use mathlib.Core.List.{List, [], ◌++◌, ◌∷◌}
use mathlib.Core.Path.{◌∙◌, ◌≡◌, ap, refl, subst, sym}
use Prim.Native.Nat.{◌<◌, ◌^◌, ◌≤◌, ℕ}
use native.Mathlib.Omega.{arith}
use lib.Dec.{ltb}
use lib.ListN.{length, take}
use Rattle.sets.proofs.Least.{some_member}
use Rattle.sets.proofs.Tests.{number-has, true_has}
use Rattle.sets.proofs.Sizes.{not_empty}
use Rattle.sets.specs.Sets.{has, size}
use Rattle.trees.proofs.Bound.{both_bound}
use Rattle.trees.proofs.VetoTheorems.{veto_tree}
use Rattle.trees.proofs.VisitBound.{looked_bound}
use Rattle.trees.specs.Build.{Outcome, build_by, stop}
use Rattle.trees.specs.Combinations.{C}
use Rattle.trees.specs.Visits.{looked}
use Rattle.tables.proofs.Bytes.{entered_proper}
use Rattle.tables.specs.Bytes.{entered, over, wrong_byte, wrong_length}
use Rattle.bodies.proofs.Back.{body_length_lem}
use Rattle.bodies.proofs.Written.{written_body}
use Rattle.bodies.specs.Draws.{body_of, node_count, written}
use Rattle.answers.proofs.Answered.{Each, first_among, first_append, is_done, is_refused, is_rest, refuse_one, then_nothing}
use Rattle.answers.specs.Looks.{first_refusal, look_then, wrong_count}
use Rattle.answers.specs.Looks.{Look}
use Rattle.refusals.specs.declared.Refusal.{Refusal}
use Rattle.refusals.specs.declared.Refusal.TheVariants.{BadByte, BadCounts, BadSet, BadTable, NoTree, Outside, ShortRoom}
use Rattle.admitting.specs.GoodSet.{GoodSet, bad_set, first_outside, input_looks}
use Rattle.building.specs.Builds.{Raises, counted_refused, look_outcome, looked_by, outcome_by}
use Rattle.growing.specs.Grows.{Stands}
use Rattle.building.specs.Vetoes.{Vetoes, veto_looked, vetoed}
use Rattle.bodies.specs.Nodes.{body_length, none, room_for}
use Rattle.building.specs.declared.Counted.{Counted}
use Rattle.admitting.proofs.Chosen.{input_good, set_below}
use Rattle.std.specs.Prelude.{Ok, Err}

-- the tree was written to the front of a draft d, and from there to the room
pub raise_done : (R : Outcome) (k m : ℕ) (d d' o o' : List ℕ) → Stands R k none 0 d d' m → body_length m ≤ length d → body_length m ≤ length o → o' ≡ written o (take (body_length m) d')
    → (c c' : ℕ) → c' ≡ c → Raises c R [] o (record { answer = Ok (record { nodes = m }); looked = c' }) o'
raise_done R k m d d' o o' w hd ho e c c' q =
    let T = w.drawn in
    let n : m ≡ node_count T = omega (arith, w.next) in
    let l : length (body_of T) ≡ body_length m = omega (arith, body_length_lem T) in
    let b : take (body_length m) d' ≡ body_of T = ap (take (body_length m)) w.body ∙ ap (λ (j : ℕ). take j (written d (body_of T))) (sym l) ∙ written_body d (body_of T) (omega arith) in
    rw (w.is, q) (is_done refl (ap (λ (j : ℕ). record { nodes = j }) n) (e ∙ ap (written o) b))

pub raise_stop : (R : Outcome) (u : ℕ) (o : List ℕ) → u < 2 ^ 64 → R ≡ stop (has u) → (c c' : ℕ) → c' ≡ c → Raises c R [] o (record { answer = Err (NoTree u); looked = c' }) o
raise_stop R u o h e c c' q = rw (e, q) (is_refused (NoTree u) (ap (λ (v : ℕ). Err (NoTree v)) (number-has 64 u h)))

-- a look at the end that passes changes nothing
pass_behind : (l : List Look) (k : Look) → k ≡ Ok tt → first_refusal (l ++ (k ∷ [])) ≡ first_refusal l
pass_behind l k e = first_append l (k ∷ []) ∙ ap (λ (z : Look). look_then (first_refusal l) (look_then z (Ok tt))) e ∙ then_nothing (first_refusal l)

-- what is so of each refusal that a look at what is handed in can give, and of those of the looks behind, is so of the first one
pub input_each : (P : Refusal → Type 0) (n s : ℕ) (t : List ℕ) (l : ℕ) → P BadCounts → P BadTable → P (BadByte (over t)) → P BadSet → P (Outside (first_outside n s t)) → P ShortRoom
    → (later : List Look) → Each P later → (x : Refusal) → first_refusal (input_looks n s t l ++ later) ≡ Err x → P x
input_each P n s t l two seven eight fifteen sixteen nine later h =
    let p₂ = refuse_one P (wrong_count n) BadCounts two in
    let p₇ = refuse_one P (wrong_length n (length t)) BadTable seven in
    let p₈ = refuse_one P (wrong_byte t) (BadByte (over t)) eight in
    let p₁₅ = refuse_one P (bad_set n s) BadSet fifteen in
    let p₁₆ = refuse_one P (ltb (first_outside n s t) (C n 3)) (Outside (first_outside n s t)) sixteen in
    let p₉ = refuse_one P (ltb l (room_for (size s))) ShortRoom nine in
    first_among P (input_looks n s t l ++ later) (p₂, (p₇, (p₈, (p₁₅, (p₁₆, (p₉, h))))))

-- no look at what is handed in gives refusal 10: where c triples are looked at, 0 is returned for them
pub input_uncounted : (c n s : ℕ) (t : List ℕ) (l : ℕ) (x : Refusal) → first_refusal (input_looks n s t l) ≡ Err x → (counted_refused c x).looked ≡ 0
input_uncounted c n s t l = input_each (λ x. (counted_refused c x).looked ≡ 0) n s t l refl refl refl refl refl refl [] tt

module _ (n s : ℕ) (t : List ℕ) where
  -- either build over 64 species is that over n, for a set of species below n
  same_outcome : (v : Bool) → GoodSet n s → n ≤ 64 → build_by v (entered t) 64 (has s) ≡ outcome_by v n s t
  unfolding outcome_by
  same_outcome v g h =
      let m = some_member s (not_empty s g.some) in
      both_bound (entered t) (entered_proper t) n 64 h v (has s) (set_below n s g) m.0 (true_has s m.0 m.1)

  -- and so are the triples looked at
  same_looked : (v : Bool) → GoodSet n s → n ≤ 64 → looked v (entered t) 64 (has s) ≡ looked_by v n s t
  unfolding looked_by
  same_looked v g h =
      let m = some_member s (not_empty s g.some) in
      looked_bound (entered t) (entered_proper t) n 64 h v (has s) (set_below n s g) m.0 (true_has s m.0 m.1)

  -- the veto build always has a tree
  veto_pass : look_outcome (vetoed n s t) ≡ Ok tt
  unfolding outcome_by
  veto_pass = ap look_outcome (veto_tree (entered t) n (has s)).1

  -- the veto build refuses no more than what is handed in
  pub vetoes : (o : List ℕ) (r : Counted) (o' : List ℕ) → Raises (veto_looked n s t) (vetoed n s t) (input_looks n s t (length o)) o r o' → Vetoes n s t o r o'
  vetoes o r o' w =
      let e = pass_behind (input_looks n s t (length o)) (look_outcome (vetoed n s t)) veto_pass in
      record { is = rw e at w.is; holds = rw e at w.holds }

  -- either build, where nothing that was handed in is refused, for the room o
  pub raises : (v : Bool) (o : List ℕ) (r : Counted) (o' : List ℕ) → first_refusal (input_looks n s t (length o)) ≡ Ok tt
      → Raises (looked v (entered t) 64 (has s)) (build_by v (entered t) 64 (has s)) [] o r o' → Raises (looked_by v n s t) (outcome_by v n s t) (input_looks n s t (length o)) o r o'
  raises v o r o' passed w =
      let g = input_good n s t (length o) passed in
      is_rest (input_looks n s t (length o)) passed
      (subst (λ (c : ℕ). Raises c (outcome_by v n s t) [] o r o') (same_looked v g.1 g.0.most)
      (subst (λ (R : Outcome). Raises (looked v (entered t) 64 (has s)) R [] o r o') (same_outcome v g.1 g.0.most) w))
