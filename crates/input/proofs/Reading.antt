-- Bytes are read one after the other. Assumes nothing.
use mathlib.Core.List.{List, [], ◌∷◌, ◌++◌, append_assoc, append-nil}
use mathlib.Core.Logic.{◌⊎◌, inl, inr}
use mathlib.Core.Path.{◌∙◌, ◌≡◌, ap, refl, subst, sym}
use Prim.Native.Nat.{ℕ, suc, ◌+◌, ◌-◌, ◌<◌, ◌≤◌}
use native.Mathlib.Numerals.{add-one}
use native.Mathlib.Omega.{arith}
use lib.ListN.{drop, get_or, length, take}
use lib.Seq.{drop-cons}
use Rattle.input.specs.Inputs.{Follows, SameBuffer, Took, TookSome, buffered, whole}
use Rattle.input.specs.declared.Reader.{Reader}

-- nothing was read
pub took_none : (r : Reader) → Took r [] r
took_none r = record { uncut = refl; follows = record { came = []; same = append-nil _ } }

-- what follows, and what follows that
pub follows_both : {r s t y z : List ℕ} → Follows r s y → Follows y t z → Follows r (s ++ t) z
follows_both {r} {s} {t} {y} {z} f g =
    record {
      came = f.came ++ g.came;
      same = sym (append_assoc r f.came g.came) ∙ ap (λ (l : List ℕ). l ++ g.came) f.same ∙ append_assoc s y g.came ∙ ap (λ (l : List ℕ). s ++ l) g.same ∙ sym (append_assoc s t z);
    }

-- first s was read, and then t
pub took_both : {i j k : Reader} {s t : List ℕ} → Took i s j → Took j t k → Took i (s ++ t) k
took_both p q = record { uncut = q.uncut ∙ p.uncut; follows = follows_both p.follows q.follows }

-- the same bytes were lent before and after, and in between
pub lent_both : {i j k : Reader} → SameBuffer i j → SameBuffer j k → SameBuffer i k
lent_both p q = record { lent = q.lent ∙ p.lent; long = q.long ∙ p.long }

-- where nothing is left, nothing stands in the buffer
pub none_left : (r : Reader) → r.at ≡ r.end → buffered r ≡ []
unfolding buffered
none_left r e = let n : r.end - r.at ≡ 0 = omega arith in rw n refl

-- the first of the bytes from a up to e
front : (b : List ℕ) (a e : ℕ) → a < e → e ≤ length b → take (e - a) (drop a b) ≡ get_or b a 0 ∷ take (e - (a + 1)) (drop (a + 1) b)
front b a e h l =
    let n : e - a ≡ suc (e - (a + 1)) = omega arith in
    rw (n, drop-cons b a 0 (omega arith), add-one)

-- the next byte of the buffer
pub follows_next : (r q : Reader) → r.at < r.end → q.buffer.now ≡ r.buffer.now → q.at ≡ r.at + 1 → q.end ≡ r.end → Follows (buffered r) (get_or r.buffer.now r.at 0 ∷ []) (buffered q)
unfolding buffered
follows_next r q h b a e = record { came = []; same = append-nil _ ∙ front r.buffer.now r.at r.end h r.in_buffer.1 ∙ rw (b, a, e) refl }

pub took_next : (r q : Reader) → r.at < r.end → q.buffer.now ≡ r.buffer.now → q.at ≡ r.at + 1 → q.end ≡ r.end → q.whole ≡ r.whole → Took r (get_or r.buffer.now r.at 0 ∷ []) q
took_next r q h b a e w = record { uncut = w; follows = follows_next r q h b a e }

-- what was read was read of the reader as it was, or of a new buffer, where the old one was used up
pub follows_from : {r q : Reader} {t z : List ℕ} → (q ≡ r) ⊎ (r.at ≡ r.end) → Follows (buffered q) t z → Follows (buffered r) t z
follows_from {t = t} {z} (inl e) p = subst (λ (x : Reader). Follows (buffered x) t z) e p
follows_from {r} {q} (inr e) p = record { came = buffered q ++ p.came; same = rw (none_left r e) p.same }

pub took_from : {r q s : Reader} {t : List ℕ} → (q ≡ r) ⊎ ((r.at ≡ r.end) × (whole q ≡ whole r)) → Took q t s → Took r t s
took_from {s = s} {t} (inl e) p = subst (λ (x : Reader). Took x t s) e p
took_from (inr (e, w)) p = record { uncut = p.uncut ∙ w; follows = follows_from (inr e) p.follows }

-- what was read is known
pub some_took : {P : List ℕ → Type 0} {r q : Reader} {t : List ℕ} → Took r t q → P t → TookSome P r q
some_took {t} h p = record { bytes = t; took = h; are = p }

-- nothing was read
pub some_none : {P : List ℕ → Type 0} (r : Reader) → P [] → TookSome P r r
some_none r p = some_took (took_none r) p

-- first some were read, and then others
pub some_both : {P Q R : List ℕ → Type 0} {i j k : Reader} → ((s t : List ℕ) → P s → Q t → R (s ++ t)) → TookSome P i j → TookSome Q j k → TookSome R i k
some_both f p q = some_took (took_both p.took q.took) (f p.bytes q.bytes p.are q.are)
