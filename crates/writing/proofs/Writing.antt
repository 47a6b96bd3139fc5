-- What is written behind what, as far as there is room. Assumes nothing.
use Rattle.std.specs.Borrow.{GName}
use Rattle.std.proofs.Common.{ℕ, zero, suc, ◌+◌, ◌-◌, ◌<◌, ◌≤◌, ◌≡◌, List, [], ◌∷◌, ◌++◌, length, take, refl, add-one, ap, sym, ◌∙◌, arith, append_assoc, append-nil, length-append}
use Rattle.std.proofs.lemmas.List.{map-id}
use Rattle.std.proofs.Math.ListN.{length-set, length-take, set}
use Rattle.std.proofs.Math.Nat.{sub-zero}
use Rattle.std.proofs.Math.Seq.{take_all, take-nil, take-suc-set}
use Rattle.writing.specs.Pages.{Page, wrote_on}
use Rattle.writing.specs.Texts.{wrote}

-- the room that a first text leaves is the second's
shared : (n : ℕ) (w v : List ℕ) → take n w ++ take (n - length (take n w)) v ≡ take n (w ++ v)
shared zero w v = refl
shared (suc n) [] v = rw sub-zero
shared (suc n) (x ∷ w) v = let e : suc n - suc (length (take n w)) ≡ n - length (take n w) = omega arith in rw e (ap (λ (z : List ℕ). x ∷ z) (shared n w v))

-- v behind w
pub wrote_both : (k : ℕ) (o w v : List ℕ) → wrote k (wrote k o w) v ≡ wrote k o (w ++ v)
unfolding wrote
wrote_both k o w v =
    let e : k - length (o ++ take (k - length o) w) ≡ (k - length o) - length (take (k - length o) w) = omega (arith, length-append o (take (k - length o) w)) in
    rw (e, append_assoc, shared (k - length o) w v)

-- nothing
pub wrote_nothing : (k : ℕ) (o : List ℕ) → wrote k o [] ≡ o
unfolding wrote
wrote_nothing k o = rw (take-nil (k - length o), append-nil o)

pub append_cons : (x : ℕ) (a b : List ℕ) → (x ∷ a) ++ b ≡ x ∷ (a ++ b)
append_cons x a b = refl

-- the same of text in lent bytes
pub wrote_on_both : (p : Page) (w v : List ℕ) → wrote_on (wrote_on p w) v ≡ wrote_on p (w ++ v)
unfolding wrote_on
wrote_on_both p w v = ap (λ (t : List ℕ). record p { text = t }) (wrote_both p.room p.text w v)

pub wrote_on_nothing : (p : Page) → wrote_on p [] ≡ p
unfolding wrote_on
wrote_on_nothing p = ap (λ (t : List ℕ). record p { text = t }) (wrote_nothing p.room p.text)

-- what is needed of writes one after the other
pub ruleset writes = (wrote_on_both, wrote_on_nothing, append_assoc, append_cons, map-id)

-- a text that fits stands there whole
pub wrote_whole : (k : ℕ) (o w : List ℕ) → length o + length w ≤ k → wrote k o w ≡ o ++ w
unfolding wrote
wrote_whole k o w h = ap (λ (z : List ℕ). o ++ z) (take_all (k - length o) w (omega arith))

-- also where nothing stood there
pub wrote_alone : (k : ℕ) (w : List ℕ) → length w ≤ k → wrote k [] w ≡ w
wrote_alone k w h = wrote_whole k [] w (omega arith)

-- one byte, while there is room
pub wrote_byte : (k : ℕ) (o : List ℕ) (b : ℕ) → length o < k → wrote k o (b ∷ []) ≡ o ++ (b ∷ [])
wrote_byte k o b h = wrote_whole k o (b ∷ []) (omega arith)

-- there is no room
pub wrote_full : (k : ℕ) (o w : List ℕ) → k ≤ length o → wrote k o w ≡ o
unfolding wrote
wrote_full k o w h = let e : k - length o ≡ 0 = omega arith in rw (e, append-nil o)

-- a byte put behind the first n of the room
pub wrote_pushed : (k : ℕ) (l : List ℕ) (n b : ℕ) → length l ≡ k → n < k → take (n + 1) (set l n b) ≡ wrote k (take n l) (b ∷ [])
wrote_pushed k l n b e h =
    ap (λ (j : ℕ). take j (set l n b)) (add-one n) ∙ take-suc-set l n b (omega arith) ∙ sym (wrote_byte k (take n l) b (simp length-take (omega arith)))

-- the same of lent bytes
pub page_pushed : (γ : GName) (l : List ℕ) (n b : ℕ) → n < length l
    → record { lent = γ; room = length (set l n b); text = take (n + 1) (set l n b) } ≡ wrote_on (record { lent = γ; room = length l; text = take n l }) (b ∷ [])
unfolding wrote_on
page_pushed γ l n b h =
    rw (length-set l n b) (ap (λ (t : List ℕ). record { lent = γ; room = length l; text = t }) (wrote_pushed (length l) l n b refl h))

pub page_full : (γ : GName) (l : List ℕ) (n b : ℕ) → length l ≤ n
    → record { lent = γ; room = length l; text = take n l } ≡ wrote_on (record { lent = γ; room = length l; text = take n l }) (b ∷ [])
unfolding wrote_on
page_full γ l n b h =
    ap (λ (t : List ℕ). record { lent = γ; room = length l; text = t }) (sym (wrote_full (length l) (take n l) (b ∷ []) (simp length-take (omega arith))))

-- a text that fits, where nothing stood
pub whole_on : (p : Page) (w : List ℕ) → length w ≤ p.room → wrote_on (record p { text = [] }) w ≡ record p { text = w }
unfolding wrote_on
whole_on p w h = ap (λ (t : List ℕ). record p { text = t }) (wrote_alone p.room w h)
