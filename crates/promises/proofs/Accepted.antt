-- Every look of an operation passes exactly where its input is good: each law is put together as the order is. Assumes nothing.
use mathlib.Core.Bool.{Bool, So, ◌&&◌, false, false≢true, not, true}
use mathlib.Core.List.{List, [], ◌∷◌, ◌++◌}
use mathlib.Core.Logic.Iff
use mathlib.Core.Logic.{◌≢◌, ◌↔◌, ◌⊎◌, inl, inr, ⊎_elim}
use mathlib.Core.Path.{◌∙◌, ◌≡◌, ap, refl, subst, sym}
use Prim.Native.Nat.{◌<◌, ◌≤◌, ℕ}
use native.Mathlib.Omega.{arith}
use borrow.Author.Tests.{le-ltb, lt-ltb, ltb-false, ltb-true}
use lib.Dec.{eqb, ltb}
use lib.ListN.{get_or, length}
use Rattle.trees.proofs.Triplets.{different_e, different_i}
use Rattle.sets.specs.Sets.{size}
use Rattle.sets.specs.Species.{below}
use Rattle.tables.specs.Bytes.{entered, over, wrong_byte, wrong_length}
use Rattle.triples.specs.Index.{C}
use Rattle.bodies.proofs.Drawn.{tree_below, tree_formed}
use Rattle.bodies.proofs.Good.{length_good}
use Rattle.bodies.specs.Draws.{tree_of}
use Rattle.rules.specs.Faults.{fault}
use Rattle.bodies.specs.Nodes.{Good, bad_length, nodes, room_for}
use Rattle.answers.proofs.Answered.{Each, first_among, first_append, first_on, first_stop, number-zero, pass_both, pass_false, pass_one, refuse_one, then_pass}
use Rattle.answers.proofs.Good.{body_pass, count_pass, length_pass, room_pass, rules_pass, table_pass}
use Rattle.refusals.specs.Told.{Told, Value, number_of_nodes, value}
use Rattle.answers.specs.Inputs.{Body, Count, Table}
use Rattle.answers.specs.Looks.{first_refusal, look_told, look_bytes, look_count, look_length, look_room, look_rules, look_table, refuse_if, ruled, wrong_count}
use Rattle.refusals.specs.Refusals.{refusal_told}
use Rattle.answers.specs.Looks.{Look}
use Rattle.refusals.specs.declared.Refusal.{Refusal}
use Rattle.refusals.specs.declared.Refusal.TheVariants.{BadByte, BadCounts, BadLength, BadRecord, BadSet, BadTable, BadTree, Contradicted, Outside, ShortRoom, Unforced}
use Rattle.refusals.specs.declared.Contradiction.{Contradiction}
use Rattle.collections.proofs.Whole.{read_pass}
use Rattle.collections.specs.Collection.{Collection}
use Rattle.collections.specs.Layout.{species}
use Rattle.collections.specs.Reads.{read_looks}
use Rattle.records.proofs.Records.{first_bad-le, first_bad-none, good_e, good_i, none-first_bad}
use Rattle.records.specs.Records.{first_bad}
use Rattle.entering.specs.Enters.{enter_looks}
use Rattle.listing.specs.Lists.{list_looks}
use Rattle.ordering.specs.Orders.{order_looks}
use Rattle.admitting.proofs.Chosen.{outside_pass, set_pass}
use Rattle.admitting.specs.GoodSet.{bad_set, first_outside, input_looks, look_outside, look_set}
use Rattle.building.specs.Builds.{build_looks, look_outcome, nodes_in, outcome}
use Rattle.building.specs.Vetoes.{vetoed}
use Rattle.checking.proofs.Passing.{pc_first}
use Rattle.checking.specs.Checks.{candidate_looks, first_differs, first_unsure, look_pc, triples_looks}
use Rattle.loosening.specs.Loosens.{loosen_looks}
use Rattle.trees.specs.Build.{Outcome, stop, tree}
use Rattle.trees.specs.Check.{PC}
use Rattle.trees.specs.Trees.{Tree}
use Rattle.newick.specs.Texts.{Readable}
use Rattle.parsing.proofs.Texts.{text_body_lem, text_pass, text_looks}
use Rattle.parsing.specs.Parses.{parse_looks, text_body}
use Rattle.rendering.specs.Renders.{render_looks}
use Rattle.rendering.specs.Texts.{newick_text}
use Rattle.promises.specs.Operations.{Operations}
use Rattle.promises.specs.Demand1.{Demand1}
use Rattle.promises.specs.Together.{RefusesBadAlone}
use Rattle.promises.specs.Veto.{NeverTen}
use Rattle.promises.specs.Inputs.{Buildable, Checkable, Enterable, Listable, Loosenable, Orderable, Parsable, Renderable, Triplet}
use Rattle.std.specs.Prelude.{Ok, Err, Result}
use Rattle.bodies.specs.declared.Broken.{Broken}

-- every look of l passes exactly where P is so
abbrev Passed : List Look → Type 0 → Type 0
Passed l P = (first_refusal l ≡ Ok tt) ↔ P

-- the laws below are put together from such parts
record Exactly (l : List Look) (P : Type 0) : Type 0 where
  so : Passed l P

one_look : (a : Look) {P : Type 0} → (a ≡ Ok tt) ↔ P → Exactly (a ∷ []) P
one_look a p = record { so = pass_one a p }

infixr 20 ◌then◌
◌then◌ : {l m : List Look} {P Q : Type 0} → Exactly l P → Exactly m Q → Exactly (l ++ m) (P × Q)
◌then◌ {l} {m} p q = record { so = pass_both l m p.so q.so }

-- and said of a record with the parts as fields
recorded : {l : List Look} {P Q : Type 0} → Exactly l P → (P → Q) → (Q → P) → Passed l Q
recorded p f g = Iff.trans p.so (f, g)

-- 13
record_pass : (n : ℕ) (rs : List (List ℕ)) → (refuse_if (ltb (first_bad n rs) (length rs)) (BadRecord (first_bad n rs)) ≡ Ok tt) ↔ ((i : ℕ) → i < length rs → Triplet n (get_or rs i []))
record_pass n rs = (
  (λ e i l.
      let b : first_bad n rs ≡ length rs = omega (arith, ltb-false (first_bad n rs) (length rs) (pass_false (ltb (first_bad n rs) (length rs)) _ e), first_bad-le n rs) in
      let g = good_e n _ _ _ (first_bad-none n rs b i l) in
      let d = different_e _ _ _ g.apart in
      record { left_below = g.first; right_below = g.second; outer_below = g.third; pair = d.0; left_outer = d.1; right_outer = d.2 }),
  λ g.
      let b = none-first_bad n rs (λ i l. let q = g i l in good_i n _ _ _ (record {
        apart = different_i _ _ _ q.pair q.left_outer q.right_outer;
        first = q.left_below;
        second = q.right_below;
        third = q.outer_below;
      })) in
      rw (le-ltb (first_bad n rs) (length rs) (omega (arith, b))) refl,
)

long : (n l : ℕ) → Exactly (look_table n l ∷ []) (l ≡ C n 3)
long n l = one_look (look_table n l) (length_pass n l)

whole : (b : List ℕ) → Exactly (read_looks b) (Collection b)
whole b = record { so = read_pass b }

counted : (n : ℕ) → Exactly (look_count n ∷ []) (Count n)
counted n = one_look (look_count n) (count_pass n)

tabled : (n : ℕ) (t : List ℕ) → Exactly (look_table n (length t) ∷ look_bytes t ∷ []) (Table n t)
tabled n t = record { so = table_pass n t }

bodied : (n : ℕ) (b : List ℕ) → Exactly (look_length 0 (length b) ∷ look_rules 0 n b ∷ []) (Body n b)
bodied n b = record { so = body_pass 0 n b }

texted : (w : List ℕ) → Exactly (text_looks w) ((t : Tree) × Readable w t)
texted w = record { so = text_pass w }

-- a body's rules alone
followed : (n : ℕ) (b : List ℕ) → Exactly (look_rules 0 n b ∷ []) (Good n (nodes b))
followed n b = one_look (look_rules 0 n b) (rules_pass 0 n b)

roomed : (k l : ℕ) → Exactly (look_room k l ∷ []) (k ≤ l)
roomed k l = one_look (look_room k l) (room_pass k l)

pub list_pass : (b t : List ℕ) → Passed (list_looks b (length t)) (Listable b t)
list_pass b t = recorded (whole b then long (species b) (length t)) (λ p. record { collection = p.0; long = p.1 }) (λ g. (g.collection, g.long))

pub enter_pass : (n : ℕ) (rs : List (List ℕ)) (t : List ℕ) → Passed (enter_looks n rs (length t)) (Enterable n rs t)
enter_pass n rs t = recorded (counted n then (long n (length t) then one_look _ (record_pass n rs)))
    (λ p. record { count = p.0; long = p.1.0; records = p.1.1 }) (λ g. (g.count, (g.long, g.records)))

pub order_pass : (n : ℕ) (b o : List ℕ) → Passed (order_looks n b (length o)) (Orderable n b o)
order_pass n b o = recorded (counted n then (bodied n b then roomed (length b) (length o)))
    (λ p. record { count = p.0; body = p.1.0; room = p.1.1 }) (λ g. (g.count, (g.body, g.room)))

pub build_pass : (n u : ℕ) (t o : List ℕ) → Passed (input_looks n u t (length o)) (Buildable n u t o)
build_pass n u t o = recorded (counted n then (tabled n t then (one_look (look_set n u) (set_pass n u) then (one_look (look_outside n u t) (outside_pass n u t) then roomed (room_for (size u)) (length o)))))
    (λ p. record { count = p.0; table = p.1.0; set = p.1.1.0; enclosed = p.1.1.1.0; room = p.1.1.1.1 }) (λ g. (g.count, (g.table, (g.set, (g.enclosed, g.room)))))

pub parse_pass : (n : ℕ) (w o : List ℕ) → Passed (parse_looks n w (length o)) (Parsable n w o)
parse_pass n w o = recorded (counted n then (texted w then (followed n (text_body w) then roomed (length (text_body w)) (length o)))) (λ p.
    let x = p.1.0 in
    let e = text_body_lem w x.0 x.1 in
    record {
      count = p.0;
      tree = x.0;
      text = x.1;
      rules = subst (λ (b : List ℕ). Good n (nodes b)) e p.1.1.0;
      room = subst (λ (b : List ℕ). length b ≤ length o) e p.1.1.1;
    }) (λ g.
    let e = sym (text_body_lem w g.tree g.text) in
    (g.count, ((g.tree, g.text), (subst (λ (b : List ℕ). Good n (nodes b)) e g.rules, subst (λ (b : List ℕ). length b ≤ length o) e g.room))))

pub render_pass : (n : ℕ) (b o : List ℕ) → Passed (render_looks n b (length o)) (Renderable n b o)
render_pass n b o = recorded (counted n then (bodied n b then roomed (length (newick_text b)) (length o)))
    (λ p. record { count = p.0; body = p.1.0; room = p.1.1 }) (λ g. (g.count, (g.body, g.room)))

-- 2, 7, 8, 5, 6 of the check, and of loosening
pub check_pass : (n : ℕ) (t b : List ℕ) → Passed (candidate_looks n t b) (Checkable n t b)
check_pass n t b = recorded (counted n then (tabled n t then bodied n b))
    (λ p. record { count = p.0; table = p.1.0; body = p.1.1 }) (λ g. (g.count, (g.table, g.body)))

-- 11: where the input is good, this look passes exactly where the table does not contradict the tree
module _ (n : ℕ) (t b : List ℕ) (g : Checkable n t b) where
  pc_none : PC (entered t) (below n) (tree_of b) ↔ (C n 3 ≤ first_differs n t (tree_of b))
  pc_none =
      let some = (length_good b g.body.long).0 in
      pc_first n t (tree_of b) (tree_formed n (nodes b) g.body.good some) (λ x h. lt-ltb x n (tree_below n (nodes b) g.body.good some x h))

  pub pc_pass : (look_pc n t (tree_of b) ≡ Ok tt) ↔ PC (entered t) (below n) (tree_of b)
  pc_pass = (
    (λ e. pc_none.1 (ltb-false (first_differs n t (tree_of b)) (C n 3) (pass_false (ltb (first_differs n t (tree_of b)) (C n 3)) _ e))),
    λ pc. rw (le-ltb (first_differs n t (tree_of b)) (C n 3) (pc_none.0 pc)) refl,
  )

-- looks m behind l, of which it is known what they say where all of l pass
pub then_known : (l m : List Look) {P Q : Type 0} → Passed l P → (P → Passed m Q) → Passed (l ++ m) (P × Q)
then_known l m p q =
    let r = then_pass (first_refusal l) (first_refusal m) in (
      (λ e. let k = r.0 (sym (first_append l m) ∙ e) in let h = p.0 k.0 in (h, (q h).0 k.1)),
      λ x. first_append l m ∙ r.1 (p.1 x.0, (q x.0).1 x.1),
    )

-- 11, then 9 for the room and for the list
abbrev lent_looks : ℕ → List ℕ → List ℕ → ℕ → ℕ → List Look
lent_looks n t b l k = look_pc n t (tree_of b) ∷ look_room (length b) l ∷ look_room 62 k ∷ []

pub loosen_pass : (n : ℕ) (t b o d : List ℕ) → Passed (loosen_looks n t b (length o) (length d)) (Loosenable n t b o d × PC (entered t) (below n) (tree_of b))
loosen_pass n t b o d = Iff.trans
    (then_known (candidate_looks n t b) (lent_looks n t b (length o) (length d)) (check_pass n t b)
    (λ g. (one_look (look_pc n t (tree_of b)) (pc_pass n t b g) then (roomed (length b) (length o) then roomed 62 (length d))).so)) (
      (λ p. let g = p.0 in (record { count = g.count; table = g.table; body = g.body; tree_room = p.1.1.0; list = p.1.1.1 }, p.1.0)),
      λ p. let g = p.0 in (record { count = g.count; table = g.table; body = g.body }, (p.1, (g.tree_room, g.list))),
    )

-- ---- 10, 11 and 12 speak of the outcome; every other refusal speaks of the input

abbrev of_input : ℕ → Bool
of_input k = not (eqb k 10) && (not (eqb k 11) && not (eqb k 12))

abbrev Input : Refusal → Type 0
Input x = So (of_input (refusal_told x).number)

one : (c : Bool) (y : Refusal) → Input y → (x : Refusal) → refuse_if c y ≡ Err x → Input x
one c y h = refuse_one Input c y h

rules : (v : Result (Unit {0}) Broken) (x : Refusal) → ruled v ≡ Err x → Input x
rules (Ok _) x e = let z : ◌≡◌ {A = ℕ} 0 1 = cc in absurd (omega arith)
rules (Err y) x e = let z : BadTree y ≡ x = cc in subst Input z refl

build_input : (n u : ℕ) (t : List ℕ) (l : ℕ) → Each Input (input_looks n u t l)
build_input n u t l = (
  one (wrong_count n) BadCounts refl,
  (
    one (wrong_length n (length t)) BadTable refl,
    (
      one (wrong_byte t) (BadByte (over t)) refl,
      (
        one (bad_set n u) BadSet refl,
        (one (ltb (first_outside n u t) (C n 3)) (Outside (first_outside n u t)) refl, (one (ltb l (room_for (size u))) ShortRoom refl, tt)),
      ),
    ),
  ),
)

check_input : (n : ℕ) (t b : List ℕ) → Each Input (candidate_looks n t b)
check_input n t b = (
  one (wrong_count n) BadCounts refl,
  (
    one (wrong_length n (length t)) BadTable refl,
    (one (wrong_byte t) (BadByte (over t)) refl, (one (bad_length (length b)) (BadLength 0) refl, (rules (fault 0 (nodes b) n), tt))),
  ),
)

-- ---- an operation that keeps demand 1 refuses input exactly when it is not good

pub zero_good : (r : Told) (k : Look) (vs : List Value) → r ≡ look_told k vs → {P : Type 0} → (k ≡ Ok tt) ↔ P → (r.number ≡ 0) ↔ P
zero_good r k vs e p =
    let n = ap (λ (t : Told). t.number) e in
    ((λ z. p.0 ((number-zero k vs).0 (sym n ∙ z))), λ x. n ∙ (number-zero k vs).1 (p.1 x))

-- the looks l at input come before others, m, whose numbers Q has; of those that speak of no outcome it has 0 alone
module _ (l m : List Look) (vs : List Value) (h : Each Input l) (Q : ℕ → Type 0) (none : (k : ℕ) → Q k → So (of_input k) → k ≡ 0) (last : Q (look_told (first_refusal m) vs).number) where
  input_pass : Q (look_told (first_refusal (l ++ m)) vs).number → first_refusal l ≡ Ok tt
  input_pass q = go (first_refusal l) refl
    where
      go : (k : Look) → first_refusal l ≡ k → first_refusal l ≡ Ok tt
      go (Ok _) e = e
      go (Err x) e =
          let s = first_stop l m x e in
          let z = (number-zero (first_refusal (l ++ m)) vs).0 (none _ q (subst (λ (k : Look). So (of_input (look_told k vs).number)) (sym s) (first_among Input l h x e))) in
          let w : Err x ≡ Ok tt = sym s ∙ z in
          let y : ◌≡◌ {A = ℕ} 0 1 = cc in
          absurd (omega arith)

  input_good : (r : Told) → r ≡ look_told (first_refusal (l ++ m)) vs → {P : Type 0} → (first_refusal l ≡ Ok tt) ↔ P → Q r.number ↔ P
  input_good r e p = (
    (λ q. p.0 (input_pass (subst (λ (t : Told). Q t.number) e q))),
    λ x. subst (λ (t : Told). Q t.number) (sym (e ∙ ap (λ (k : Look). look_told k vs) (first_on l m (p.1 x)))) last,
  )

-- a number of which the test is false is not that of a refusal of input
not_input : (m : ℕ) → of_input m ≡ false → (k : ℕ) → So (of_input k) → k ≡ m → ⊥
not_input m f k s e = false≢true (sym f ∙ subst (λ (j : ℕ). So (of_input j)) e s)

abbrev Ten : ℕ → Type 0
Ten k = (k ≡ 0) ⊎ (k ≡ 10)

ten : (R : Outcome) (vs : List Value) → Ten (look_told (first_refusal (look_outcome R ∷ [])) vs).number
ten (tree T) vs = inl refl
ten (stop U) vs = inr refl

-- what 0 returns of the outcome, the number of triples looked at aside
abbrev pub node_values : Outcome → List Value
node_values R = value number_of_nodes (nodes_in R) ∷ []

abbrev Eleven : ℕ → Type 0
Eleven k = (k ≡ 0) ⊎ ((k ≡ 11) ⊎ (k ≡ 12))

eleven : (p q : Bool) (x : Contradiction) (j : ℕ) → Eleven (look_told (first_refusal (refuse_if p (Contradicted x) ∷ refuse_if q (Unforced j) ∷ [])) []).number
eleven true q x j = inr (inl refl)
eleven false true x j = inr (inr refl)
eleven false false x j = inl refl

-- behind 11 there is 9 alone
no_eleven : (p q : Bool) (vs : List Value) → (look_told (first_refusal (refuse_if p ShortRoom ∷ refuse_if q ShortRoom ∷ [])) vs).number ≢ 11
no_eleven true q vs e = omega arith
no_eleven false true vs e = omega arith
no_eleven false false vs e = omega arith

loosen_eleven : (n : ℕ) (t b : List ℕ) (l k : ℕ) (vs : List Value) → ((look_told (first_refusal (loosen_looks n t b l k)) vs).number ≡ 11) ↔ (Checkable n t b × (PC (entered t) (below n) (tree_of b) → ⊥))
loosen_eleven n t b l k vs = ((λ z. go (first_refusal (candidate_looks n t b)) refl z), λ p. back p.0 p.1)
  where
    tail : Checkable n t b → (c : Bool) → ltb (first_differs n t (tree_of b)) (C n 3) ≡ c → (x : Contradiction)
        → (look_told (first_refusal (refuse_if c (Contradicted x) ∷ look_room (length b) l ∷ look_room 62 k ∷ [])) vs).number ≡ 11 → PC (entered t) (below n) (tree_of b) → ⊥
    tail g true e x z pc = let i = ltb-true (first_differs n t (tree_of b)) (C n 3) e in omega (arith, i, (pc_none n t b g).0 pc)
    tail g false e x z pc = no_eleven (ltb l (length b)) (ltb k 62) vs z

    go : (a : Look) → first_refusal (candidate_looks n t b) ≡ a → (look_told (first_refusal (loosen_looks n t b l k)) vs).number ≡ 11 → Checkable n t b × (PC (entered t) (below n) (tree_of b) → ⊥)
    go (Ok _) e z =
        let g = (check_pass n t b).0 e in
        (g, tail g (ltb (first_differs n t (tree_of b)) (C n 3)) refl _ (sym (ap (λ (a : Look). (look_told a vs).number) (first_on (candidate_looks n t b) (lent_looks n t b l k) e)) ∙ z))
    go (Err x) e z = absurd (not_input 11 refl (refusal_told x).number (first_among Input (candidate_looks n t b) (check_input n t b) x e)
        (sym (ap (λ (a : Look). (look_told a vs).number) (first_stop (candidate_looks n t b) (lent_looks n t b l k) x e)) ∙ z))

    back : Checkable n t b → (PC (entered t) (below n) (tree_of b) → ⊥) → (look_told (first_refusal (loosen_looks n t b l k)) vs).number ≡ 11
    back g fails = ap (λ (a : Look). (look_told a vs).number) (first_on (candidate_looks n t b) (lent_looks n t b l k) ((check_pass n t b).1 g)) ∙ last (ltb (first_differs n t (tree_of b)) (C n 3)) refl _
      where
        last : (c : Bool) → ltb (first_differs n t (tree_of b)) (C n 3) ≡ c → (x : Contradiction)
            → (look_told (first_refusal (refuse_if c (Contradicted x) ∷ look_room (length b) l ∷ look_room 62 k ∷ [])) vs).number ≡ 11
        last true e x = refl
        last false e x = absurd (fails ((pc_none n t b g).1 (ltb-false (first_differs n t (tree_of b)) (C n 3) e)))

pub accepts : RefusesBadAlone
accepts L keeps = record {
  reading = λ b. zero_good (L.read b) (first_refusal (read_looks b)) _ (keeps.reading b) (read_pass b);
  listing = λ b t. zero_good (L.list b t).told (first_refusal (list_looks b (length t))) _ (keeps.listing b t).told_is (list_pass b t);
  entering = λ n rs t. zero_good (L.enter n rs t).told (first_refusal (enter_looks n rs (length t))) _ (keeps.entering n rs t).told_is (enter_pass n rs t);
  ordering = λ n b o. zero_good (L.order n b o).told (first_refusal (order_looks n b (length o))) _ (keeps.ordering n b o).told_is (order_pass n b o);
  building = λ n u t o. subst (λ (r : Told). Ten r.number ↔ Buildable n u t o) (sym (keeps.building n u t o).told_is) (input_good (input_looks n u t (length o)) (look_outcome (outcome n u t) ∷ []) _ (build_input n u t (length o)) Ten
      (λ k q s. ⊎_elim (λ z. z) (λ z. absurd (not_input 10 refl k s z)) q) (ten (outcome n u t) _) (look_told (first_refusal (build_looks n u t (length o))) (node_values (outcome n u t))) refl (build_pass n u t o));
  vetoing = λ n u t o. subst (λ (r : Told). (r.number ≡ 0) ↔ Buildable n u t o) (sym (keeps.vetoing n u t o).told_is)
      (zero_good (look_told (first_refusal (input_looks n u t (length o))) (node_values (vetoed n u t))) (first_refusal (input_looks n u t (length o))) _ refl (build_pass n u t o));
  checking = λ n t b. input_good (candidate_looks n t b) (triples_looks n t (tree_of b)) [] (check_input n t b) Eleven
      (λ k q s. ⊎_elim (λ z. z) (⊎_elim (λ z. absurd (not_input 11 refl k s z)) (λ z. absurd (not_input 12 refl k s z))) q) (eleven (ltb (first_differs n t (tree_of b)) (C n 3)) (ltb (first_unsure n t (tree_of b)) (C n 3)) _ _) (L.check n t b) (keeps.checking n t b) (check_pass n t b);
  loosening = λ n t b o d. zero_good (L.loosen n t b o d).told (first_refusal (loosen_looks n t b (length o) (length d))) _ (keeps.loosening n t b o d).told_is (loosen_pass n t b o d);
  loosening_11 = λ n t b o d. subst (λ (r : Told). (r.number ≡ 11) ↔ (Checkable n t b × (PC (entered t) (below n) (tree_of b) → ⊥))) (sym (keeps.loosening n t b o d).told_is) (loosen_eleven n t b (length o) (length d) _);
  parsing = λ n w o. zero_good (L.parse n w o).told (first_refusal (parse_looks n w (length o))) _ (keeps.parsing n w o).told_is (parse_pass n w o);
  rendering = λ n b o. zero_good (L.render n b o).told (first_refusal (render_looks n b (length o))) _ (keeps.rendering n b o).told_is (render_pass n b o);
}

-- looks at input alone answer no number of an outcome
input_alone : (l : List Look) (vs : List Value) → Each Input l → (m : ℕ) → of_input m ≡ false → (look_told (first_refusal l) vs).number ≢ m
input_alone l vs h m f = go (first_refusal l) refl
  where
    go : (k : Look) → first_refusal l ≡ k → (look_told k vs).number ≢ m
    go (Ok _) e z = not_input m f 0 refl z
    go (Err x) e z = not_input m f (refusal_told x).number (first_among Input l h x e) z

-- so the veto build of any operations that keep demand 1 never answers 10
pub vetoes_never_10 : (L : Operations) → Demand1 L → NeverTen L.veto
vetoes_never_10 L d n u t o z = input_alone (input_looks n u t (length o)) (node_values (vetoed n u t)) (build_input n u t (length o)) 10 refl (sym (ap (λ (r : Told). r.number) (d.vetoing n u t o).told_is) ∙ z)
