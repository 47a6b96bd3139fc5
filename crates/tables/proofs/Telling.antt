-- What a table tells: the table that says given triplets and fans tells them, and no other table does. Assumes nothing.
use mathlib.Core.Bool.{So}
use mathlib.Core.List.{List}
use mathlib.Core.Logic.{◌↔◌}
use mathlib.Core.Path.{◌∙◌, ◌≡◌, ap, subst, sym}
use Prim.Native.Nat.{◌<◌, suc, zero, ℕ}
use native.Mathlib.Omega.{arith}
use lib.ListN.{get_or}
use lib.Seq.{ext_get_or}
use Rattle.sets.proofs.Bools.{bool_ext}
use Rattle.sets.proofs.Digits.{ext_has}
use Rattle.sets.proofs.Tests.{has-below}
use Rattle.sets.specs.Sets.{has}
use Rattle.trees.specs.Triplets.{Proper}
use Rattle.tables.proofs.Fillings.{byte_bits, byte_most, table_index, table_length, table_says, table_small}
use Rattle.triples.proofs.Indices.{triple_back}
use Rattle.tables.specs.Bytes.{Small, entered}
use Rattle.tables.specs.Filled.{Said, byte_for, table_for}
use Rattle.triples.specs.Index.{high_at, index, low_at, mid_at}
use Rattle.tables.specs.Tells.{TableTells, Tells}

-- the same told otherwise
tells_as : {P Q F G : ℕ → ℕ → ℕ → Type 0} → ((x y z : ℕ) → P x y z ↔ Q x y z) → ((x y z : ℕ) → F x y z ↔ G x y z) → (v a b c : ℕ) → Tells v P F a b c → Tells v Q G a b c
tells_as f g v a b c r = record {
  ab = ((λ h. (f a b c).0 (r.ab.0 h)), λ q. r.ab.1 ((f a b c).1 q));
  ac = ((λ h. (f a c b).0 (r.ac.0 h)), λ q. r.ac.1 ((f a c b).1 q));
  bc = ((λ h. (f b c a).0 (r.bc.0 h)), λ q. r.bc.1 ((f b c a).1 q));
  fan = ((λ h. (g a b c).0 (r.fan.0 h)), λ q. r.fan.1 ((g a b c).1 q));
  no_other = r.no_other;
}

pub told_as : {P Q F G : ℕ → ℕ → ℕ → Type 0} (n : ℕ) (t : List ℕ) → ((x y z : ℕ) → P x y z ↔ Q x y z) → ((x y z : ℕ) → F x y z ↔ G x y z) → TableTells n P F t → TableTells n Q G t
told_as n t f g r = record { long = r.long; bytes = λ a b c p q l. tells_as f g (get_or t (index a b c) 0) a b c (r.bytes a b c p q l) }

-- two bytes that tell the same of a triple are equal, and so are two tables
tells_same : {P F : ℕ → ℕ → ℕ → Type 0} (v w a b c : ℕ) → Tells v P F a b c → Tells w P F a b c → v ≡ w
tells_same v w a b c r s = ext_has v w bit
  where
    bit : (k : ℕ) → has v k ≡ has w k
    bit zero = bool_ext (has v 0) (has w 0) (λ h. s.ab.1 (r.ab.0 h)) (λ h. r.ab.1 (s.ab.0 h))
    bit (suc zero) = bool_ext (has v 1) (has w 1) (λ h. s.ac.1 (r.ac.0 h)) (λ h. r.ac.1 (s.ac.0 h))
    bit (suc (suc zero)) = bool_ext (has v 2) (has w 2) (λ h. s.bc.1 (r.bc.0 h)) (λ h. r.bc.1 (s.bc.0 h))
    bit (suc (suc (suc zero))) = bool_ext (has v 3) (has w 3) (λ h. s.fan.1 (r.fan.0 h)) (λ h. r.fan.1 (s.fan.0 h))
    bit (suc (suc (suc (suc k)))) = bool_ext (has v _) (has w _) (λ h. absurd (omega (arith, r.no_other _ h))) (λ h. absurd (omega (arith, s.no_other _ h)))

pub told_same : {P F : ℕ → ℕ → ℕ → Type 0} (n : ℕ) (t t' : List ℕ) → TableTells n P F t → TableTells n P F t' → t ≡ t'
told_same n t t' r s = ext_get_or 0 t t' (r.long ∙ sym s.long) (λ i h.
    let k = triple_back n i (omega (arith, r.long)) in
    let a = low_at n i in
    let b = mid_at n i in
    let c = high_at n i in
    subst (λ (j : ℕ). get_or t j 0 ≡ get_or t' j 0) k.3 (tells_same _ _ a b c (r.bytes a b c k.0 k.1 k.2) (s.bytes a b c k.0 k.1 k.2)))

-- the table tells S
abbrev pub Saying : Said → List ℕ → ℕ → Type 0
Saying S t n = TableTells n (λ x y z. So (S.triplets x y z)) (λ x y z. So (S.fans x y z)) t

module _ (n : ℕ) (S : Said) where
  byte_tells : (a b c : ℕ) → Tells (byte_for S a b c) (λ x y z. So (S.triplets x y z)) (λ x y z. So (S.fans x y z)) a b c
  byte_tells a b c =
      let r = byte_bits (S.triplets a b c) (S.triplets a c b) (S.triplets b c a) (S.fans a b c) in
      record {
        ab = ((λ h. sym r.0 ∙ h), λ h. r.0 ∙ h);
        ac = ((λ h. sym r.1 ∙ h), λ h. r.1 ∙ h);
        bc = ((λ h. sym r.2 ∙ h), λ h. r.2 ∙ h);
        fan = ((λ h. sym r.3 ∙ h), λ h. r.3 ∙ h);
        no_other = λ k h. omega (arith, has-below 4 (byte_for S a b c) (omega (arith, byte_most S a b c)) k h);
      }

  pub table_tells : Saying S (table_for n S) n
  table_tells = record {
    long = table_length n S;
    bytes = λ a b c p q l. subst (λ (v : ℕ). Tells v (λ x y z. So (S.triplets x y z)) (λ x y z. So (S.fans x y z)) a b c) (sym (table_index n S a b c p q l)) (byte_tells a b c);
  }

  -- a table that tells S is the one that says S, so that a table may hold each of its bytes, and what is entered in it are the triplets of S
  module _ (t : List ℕ) (r : Saying S t n) where
    pub told_is : t ≡ table_for n S
    told_is = told_same n t (table_for n S) r table_tells

    pub told_small : (i : ℕ) → Small (get_or t i 0)
    told_small i = subst (λ (u : List ℕ). Small (get_or u i 0)) (sym told_is) (table_small n S i)

    pub told-says : Proper S.triplets → (a b c : ℕ) → a < n → b < n → c < n → entered t a b c ≡ S.triplets a b c
    told-says pr a b c ha hb hc = ap (λ (u : List ℕ). entered u a b c) told_is ∙ table_says n S pr a b c ha hb hc
