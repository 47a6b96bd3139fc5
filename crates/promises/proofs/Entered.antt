-- Entering good records: the table says what some record says, and nothing else. Assumes nothing.
use mathlib.Core.Bool.{Bool, So, false≢true}
use mathlib.Core.List.{List, [], ◌∷◌}
use mathlib.Core.Logic.{◌↔◌, ◌≢◌, inl, inr, ⊎_elim}
use mathlib.Core.Path.{◌∙◌, ◌≡◌, ap, refl, subst, sym}
use Prim.Native.Nat.{◌<◌, suc, zero, ℕ}
use native.Mathlib.Omega.{arith}
use borrow.Author.Tests.{eq-eqb, eqb-true}
use lib.Dec.{eqb}
use lib.ListN.{get_or, length}
use Rattle.sets.proofs.Bools.{or_case, or_l, or_r}
use Rattle.sets.proofs.Tests.{number_is}
use Rattle.sets.specs.Sets.{has, number}
use Rattle.sets.specs.Species.{Below, Species}
use Rattle.trees.proofs.Triplets.{only_e, only_i}
use Rattle.trees.specs.Triplets.{Proper, only}
use Rattle.tables.proofs.Telling.{table_tells, told_as, told_is}
use Rattle.tables.specs.Bytes.{entered}
use Rattle.tables.specs.Filled.{plain, table_for}
use Rattle.refusals.specs.Told.{told}
use Rattle.records.specs.Records.{in_record, in_records, left, occurs_in, outer, right}
use Rattle.entering.specs.Enters.{entry, entry_values}
use Rattle.promises.specs.Operations.{Given, enters, gives}
use Rattle.answers.specs.Inputs.{Count, Table}
use Rattle.promises.specs.Inputs.{Enterable, Triplet}
use Rattle.promises.specs.Demand2.{EntersRight, IsSet, RecordHas, RecordSays, SomeRecordHas, SomeRecordSays}
use Rattle.promises.proofs.Accepted.{enter_pass}
use Rattle.promises.proofs.Tabled.{Speaks, table_exact, table_good}

-- one record
module _ (r : List ℕ) (x y z : ℕ) where
  record_e : So (only (left r) (right r) (outer r) x y z) → RecordSays r x y z
  record_e h = let p = only_e (left r) (right r) (outer r) x y z h in (⊎_elim (λ q. inl (sym q.0, sym q.1)) (λ q. inr (sym q.1, sym q.0)) p.1, sym p.0)

  record_i : RecordSays r x y z → So (only (left r) (right r) (outer r) x y z)
  record_i p = only_i (left r) (right r) (outer r) x y z (sym p.1) (⊎_elim (λ q. inl (sym q.0, sym q.1)) (λ q. inr (sym q.1, sym q.0)) p.0)

-- what the records say is what some of them says
records_e : (rs : List (List ℕ)) (x y z : ℕ) → So (in_records rs x y z) → SomeRecordSays rs x y z
unfolding in_records
records_e [] x y z h = absurd (false≢true h)
records_e (r ∷ rs) x y z h = or_case (only (left r) (right r) (outer r) x y z) (in_records rs x y z) h
    (λ p. (0, omega arith, record_e r x y z p))
    (λ p. let q = records_e rs x y z p in (suc q.0, omega (arith, q.1), q.2))

records_i : (rs : List (List ℕ)) (x y z i : ℕ) → i < length rs → RecordSays (get_or rs i []) x y z → So (in_records rs x y z)
unfolding in_records
records_i [] x y z i l h = absurd (omega arith)
records_i (r ∷ rs) x y z zero l h = or_l (only (left r) (right r) (outer r) x y z) (in_records rs x y z) (record_i r x y z h)
records_i (r ∷ rs) x y z (suc i) l h = or_r (only (left r) (right r) (outer r) x y z) (in_records rs x y z) (records_i rs x y z i (omega arith) h)

pub records_some : (rs : List (List ℕ)) (x y z : ℕ) → So (in_records rs x y z) ↔ SomeRecordSays rs x y z
records_some rs x y z = (records_e rs x y z, λ r. records_i rs x y z r.0 r.1 r.2)

-- the species of a record, and of some record
record_has : (r : List ℕ) (x : ℕ) → So (in_record r x) ↔ RecordHas r x
record_has r x = (
  (λ h. or_case (eqb (left r) x) _ h (λ p. inl (eqb-true (left r) x p)) (λ q. or_case (eqb (right r) x) _ q (λ p. inr (inl (eqb-true (right r) x p))) (λ p. inr (inr (eqb-true (outer r) x p))))),
  ⊎_elim (λ e. or_l (eqb (left r) x) _ (eq-eqb (left r) x e)) (⊎_elim
      (λ e. or_r (eqb (left r) x) _ (or_l (eqb (right r) x) _ (eq-eqb (right r) x e)))
      (λ e. or_r (eqb (left r) x) _ (or_r (eqb (right r) x) _ (eq-eqb (outer r) x e)))),
)

has_e : (rs : List (List ℕ)) (x : ℕ) → So (occurs_in rs x) → SomeRecordHas rs x
unfolding occurs_in
has_e [] x h = absurd (false≢true h)
has_e (r ∷ rs) x h = or_case (in_record r x) (occurs_in rs x) h
    (λ p. (0, omega arith, (record_has r x).0 p))
    (λ p. let q = has_e rs x p in (suc q.0, omega (arith, q.1), q.2))

has_i : (rs : List (List ℕ)) (x i : ℕ) → i < length rs → RecordHas (get_or rs i []) x → So (occurs_in rs x)
unfolding occurs_in
has_i [] x i l h = absurd (omega arith)
has_i (r ∷ rs) x zero l h = or_l (in_record r x) (occurs_in rs x) ((record_has r x).1 h)
has_i (r ∷ rs) x (suc i) l h = or_r (in_record r x) (occurs_in rs x) (has_i rs x i (omega arith) h)

module _ (n : ℕ) (rs : List (List ℕ)) (c : Count n) (g : (i : ℕ) → i < length rs → Triplet n (get_or rs i [])) where
  -- only species below n do
  pub occurs_in_below : Below n (occurs_in rs)
  occurs_in_below x h =
      let r = has_e rs x h in
      let q = g r.0 r.1 in
      ⊎_elim (λ e. omega (arith, e, q.left_below)) (⊎_elim (λ e. omega (arith, e, q.right_below)) (λ e. omega (arith, e, q.outer_below))) r.2

  pub occurring_in_has : has (number 64 (occurs_in rs)) ≡ occurs_in rs
  occurring_in_has = number_is 64 (occurs_in rs) (λ x h. omega (arith, occurs_in_below x h, c.most))

  occurring_in : IsSet (number 64 (occurs_in rs)) (SomeRecordHas rs)
  occurring_in x = subst (λ (S : Species). So (S x) ↔ SomeRecordHas rs x) (sym occurring_in_has) (has_e rs x, λ r. has_i rs x r.0 r.1 r.2)

module _ (n : ℕ) (rs : List (List ℕ)) (t : List ℕ) (g : Enterable n rs t) where
  pub enters_is : enters n rs t ≡ gives (told 0 (entry_values (entry n rs))) (table_for n (plain (in_records rs)))
  enters_is = rw ((enter_pass n rs t).1 g) refl

  pub good_entered : EntersRight n rs (enters n rs t)
  good_entered = subst (λ (h : Given). EntersRight n rs h) (sym enters_is) (record {
    set = number 64 (occurs_in rs);
    told_is = refl;
    occurs = occurring_in n rs g.count g.records;
    table = told_as n (table_for n (plain (in_records rs))) (records_some rs) (λ x y z. (false≢true, λ k. absurd k)) (table_tells n (plain (in_records rs)));
  })

module _ (n : ℕ) (rs : List (List ℕ)) (g : (i : ℕ) → i < length rs → Triplet n (get_or rs i [])) where
  -- what a good record says, it says of three species below n
  record_of : (x y z : ℕ) → So (in_records rs x y z) → (x < n) × (y < n) × (z < n) × (x ≢ y) × (x ≢ z)
  record_of x y z h =
      let r = records_e rs x y z h in
      let q = g r.0 r.1 in
      let p = r.2 in
      let o : outer (get_or rs r.0 []) ≡ z = p.1 in
      ⊎_elim
      (λ w. (
        omega (arith, w.0, q.left_below),
        omega (arith, w.1, q.right_below),
        omega (arith, o, q.outer_below),
        (λ e. q.pair (w.0 ∙ e ∙ sym w.1)),
        λ e. q.left_outer (w.0 ∙ e ∙ sym o),
      ))
      (λ w. (
        omega (arith, w.1, q.right_below),
        omega (arith, w.0, q.left_below),
        omega (arith, o, q.outer_below),
        (λ e. q.pair (w.0 ∙ sym e ∙ sym w.1)),
        λ e. q.right_outer (w.1 ∙ e ∙ sym o),
      ))
      p.0

  -- the three species of a triplet that a record says occur
  pub said_occurs : (x y z : ℕ) → So (in_records rs x y z) → So (occurs_in rs x) × So (occurs_in rs y) × So (occurs_in rs z)
  said_occurs x y z h =
      let r = records_e rs x y z h in
      let i : (u : ℕ) → RecordHas (get_or rs r.0 []) u → So (occurs_in rs u) = λ u k. has_i rs u r.0 r.1 k in
      ⊎_elim (λ w. (i x (inl w.0), i y (inr (inl w.1)), i z (inr (inr r.2.1)))) (λ w. (i x (inr (inl w.1)), i y (inl w.0), i z (inr (inr r.2.1)))) r.2.0

  pub records_speak : Speaks n (in_records rs)
  records_speak x y z h = let r = record_of x y z h in (r.0, r.1, r.2)

  pub records_proper : Proper (in_records rs)
  records_proper = record {
    swap = λ x y z h. let r = records_e rs x y z h in records_i rs y x z r.0 r.1 (⊎_elim inr inl r.2.0, r.2.1);
    two = λ x y z h. (record_of x y z h).3;
    third = λ x y z h. (record_of x y z h).4;
  }

  -- what the demand asks of the table tells all of it: it is a good table, and what is entered in it is what some record says
  module _ (o : Given) (r : EntersRight n rs o) where
    pub entered_is : o.after ≡ table_for n (plain (in_records rs))
    entered_is = told_is n (plain (in_records rs)) o.after (told_as n o.after (λ x y z. let s = records_some rs x y z in (s.1, s.0)) (λ x y z. ((λ k. absurd k), false≢true)) r.table)

    pub entered_good : Table n o.after
    entered_good = subst (Table n) (sym entered_is) (table_good n (plain (in_records rs)))

    pub entered_exact : (x y z : ℕ) → So (entered o.after x y z) ↔ SomeRecordSays rs x y z
    entered_exact x y z = subst (λ (q : Bool). So q ↔ SomeRecordSays rs x y z)
        (sym (ap (λ (t : List ℕ). entered t x y z) entered_is ∙ table_exact n (plain (in_records rs)) records_proper records_speak x y z)) (records_some rs x y z)
