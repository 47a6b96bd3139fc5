-- The collection of some bodies: where each of them lies in it. Assumes nothing.
use mathlib.Core.List.{List, [], ◌∷◌, ◌++◌, append_assoc, append-nil}
use mathlib.Core.Path.{◌∙◌, ◌≡◌, ap, ap₂, refl, subst, sym}
use Prim.Native.Nat.{ℕ, zero, suc, ◌+◌, ◌<◌, ◌≤◌}
use native.Mathlib.Omega.{arith}
use lib.ListN.{drop, get_or, length, length-append, take, take-append-drop}
use lib.Seq.{drop-append-add, get_or-append-add, get_or-append_seam, split_at, take-append_seam, take-length, take-suc}
use Rattle.bodies.proofs.Good.{length_good}
use Rattle.bodies.specs.Nodes.{Good, bad_length, nodes}
use Rattle.answers.specs.Inputs.{Body, Count}
use Rattle.collections.proofs.Starts.{start-step, start-zero}
use Rattle.collections.proofs.Whole.{whole_most}
use Rattle.collections.specs.Collection.{Collection}
use Rattle.collections.specs.Layout.{body_at, length_at, longest_collection, start}
use Rattle.highest.specs.Bound.{top_of_all}
use Rattle.highest.proofs.Bounds.{all_most, all_top, top_good, top_most, top_some}
use Rattle.papers.specs.Bundled.{bundled, chained, with_length}

chained_append : (bs cs : List (List ℕ)) → chained (bs ++ cs) ≡ chained bs ++ chained cs
unfolding chained
chained_append [] cs = refl
chained_append (b ∷ bs) cs = ap (λ (l : List ℕ). with_length b ++ l) (chained_append bs cs) ∙ sym (append_assoc (with_length b) (chained bs) (chained cs))

-- one body more
pub chained_more : (bs : List (List ℕ)) (b : List ℕ) → chained (bs ++ (b ∷ [])) ≡ chained bs ++ with_length b
unfolding chained
chained_more bs b = chained_append bs (b ∷ []) ∙ ap (λ (l : List ℕ). chained bs ++ l) (append-nil (with_length b))

-- ---- a number in two bytes, the first of them 0, and what stands behind it

module _ (g u r : List ℕ) (l : ℕ) (e : g ≡ u ++ (0 ∷ l ∷ r)) where
  there_length : length_at g (length u) ≡ l
  there_length =
      let a : get_or g (length u) 0 ≡ 0 = ap (λ (x : List ℕ). get_or x (length u) 0) e ∙ get_or-append_seam u 0 (l ∷ r) 0 in
      let b : get_or g (length u + 1) 0 ≡ l = ap (λ (x : List ℕ). get_or x (length u + 1) 0) e ∙ get_or-append-add u (0 ∷ l ∷ r) 1 0 in
      omega arith

  there_rest : drop (length u + 2) g ≡ r
  there_rest = ap (drop (length u + 2)) e ∙ drop-append-add u (0 ∷ l ∷ r) 2

-- ---- the collection

module _ (n : ℕ) (bs : List (List ℕ)) where
  -- up to body k
  abbrev up_to : ℕ → List ℕ
  up_to k = 1 ∷ n ∷ length bs ∷ chained (take k bs)

  up_within : (k : ℕ) → length (up_to k) ≤ length (bundled n bs)
  up_within k =
      let e = ap length (sym (chained_append (take k bs) (drop k bs)) ∙ ap chained (take-append-drop k bs)) in
      omega (arith, length-append (chained (take k bs)) (chained (drop k bs)))

  up_all : up_to (length bs) ≡ bundled n bs
  up_all = ap (λ (x : List (List ℕ)). 1 ∷ n ∷ length bs ∷ chained x) (take-length bs)

  module _ (k : ℕ) (h : k < length bs) where
    abbrev body : List ℕ
    body = get_or bs k []

    -- body k, and what stands before and behind it
    parted : bundled n bs ≡ up_to k ++ (0 ∷ length body ∷ (body ++ chained (drop (suc k) bs)))
    unfolding chained
    parted = ap (λ (l : List ℕ). 1 ∷ n ∷ length bs ∷ l) (ap chained (split_at bs k [] h) ∙ chained_append (take k bs) (body ∷ drop (suc k) bs))

    up_next : length (up_to (suc k)) ≡ length (up_to k) + 2 + length body
    up_next =
        let e = ap length (ap chained (take-suc bs k [] h) ∙ chained_more (take k bs) body) in
        omega (arith, length-append (chained (take k bs)) (with_length body))

  bundled-start : (k : ℕ) → k ≤ length bs → start (bundled n bs) k ≡ length (up_to k)
  unfolding chained
  bundled-start zero h = start-zero (bundled n bs)
  bundled-start (suc k) h =
      let i = bundled-start k (omega arith) in
      let l = ap (length_at (bundled n bs)) i ∙ there_length (bundled n bs) (up_to k) _ _ (parted k (omega arith)) in
      omega (arith, start-step (bundled n bs) k, up_next k (omega arith))

  bundled-length : (k : ℕ) → k < length bs → length_at (bundled n bs) (start (bundled n bs) k) ≡ length (get_or bs k [])
  bundled-length k h = ap (length_at (bundled n bs)) (bundled-start k (omega arith)) ∙ there_length (bundled n bs) (up_to k) _ _ (parted k h)

  -- body k of the collection is the k-th of the bodies
  pub bundled_body : (k : ℕ) → k < length bs → body_at (bundled n bs) k ≡ get_or bs k []
  bundled_body k h =
      ap₂ (λ (l p : ℕ). take l (drop (p + 2) (bundled n bs))) (bundled-length k h) (bundled-start k (omega arith))
      ∙ ap (take (length (body k h))) (there_rest (bundled n bs) (up_to k) _ _ (parted k h)) ∙ take-append_seam (body k h) (chained (drop (suc k) bs))

  bundled-inside : (k : ℕ) → k < length bs → start (bundled n bs) (suc k) ≤ length (bundled n bs)
  bundled-inside k h = omega (arith, bundled-start (suc k) (omega arith), up_within (suc k))

  -- and behind the last one nothing follows
  bundled_end : length (bundled n bs) ≡ start (bundled n bs) (length bs)
  bundled_end = sym (ap length up_all) ∙ sym (bundled-start (length bs) (omega arith))

-- ---- it is a good collection

module _ (n : ℕ) (bs : List (List ℕ)) (some : 0 < length bs) (few : length bs ≤ 16) (all : (k : ℕ) → k < length bs → Body 64 (get_or bs k [])) (top : n ≡ top_of_all bs) where
  -- n is that of a run
  bundled_count : Count n
  bundled_count =
      let b = all 0 some in
      let s = top_some 64 (nodes (get_or bs 0 [])) b.good (omega arith) (length_good (get_or bs 0 []) b.long).0 in
      record {
        some = omega (arith, all_top bs 0 some);
        most = omega (arith, all_most 64 bs (λ k l. top_most 64 (nodes (get_or bs k [])) (all k l).good));
      }

  -- bodies that are good with n = 64, 1 to 16 of them, and n one more than their highest species
  pub bundled_whole : Collection (bundled n bs)
  bundled_whole = record {
    header = omega arith;
    one = refl;
    some = bundled_count.some;
    most = bundled_count.most;
    few = few;
    inside = bundled-inside n bs;
    long = λ k l. ap bad_length (bundled-length n bs k l) ∙ (all k l).long;
    good = λ k l. subst (λ (b : List ℕ). Good n (nodes b)) (sym (bundled_body n bs k l)) (top_good 64 (nodes (get_or bs k [])) (all k l).good (omega arith) n (omega (arith, all_top bs k l)));
    end = bundled_end n bs;
  }

  -- no longer than the longest
  pub bundled_most : length (bundled n bs) ≤ longest_collection
  bundled_most = whole_most (bundled n bs) bundled_whole
