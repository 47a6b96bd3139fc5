-- What the reading of some texts comes to: all are read, or there are too many, or one is refused. Assumes nothing.
use mathlib.Core.List.{List, [], ◌∷◌, flatten}
use mathlib.Core.Path.{◌≡◌, refl, subst, sym}
use Prim.Native.Nat.{ℕ, zero, suc, ◌+◌, ◌<◌, ◌≤◌}
use native.Mathlib.Decide.{ℕ_discrete}
use native.Mathlib.Omega.{arith}
use lib.ListN.{get_or, length, length-append, take}
use Rattle.papers.specs.Papers.{IsRead}
use Rattle.papers.specs.Reads.{most_papers, read_from, text_answer}
use Rattle.papers.specs.declared.Bad as refused
use Rattle.papers.proofs.Turns.{read_bad, read_end, read_many, read_next}
use Rattle.refusals.specs.declared.Refusal.{Refusal}
use Rattle.answers.specs.declared.Written.{Written}
use Rattle.papers.specs.declared.Unread.TheVariants.{Bad, Many}
use Rattle.papers.specs.declared.Unread.{Unread}
use Rattle.std.specs.Prelude.{Ok, Err, Result}
use Rattle.papers.specs.declared.Found.{Found}

-- the answer r of the texts ts from place p on, with k papers before them; a is the answer where all are read
pub data Outcome (a : Result Found Unread) (k p : ℕ) (ts : List (List ℕ)) (r : Result Found Unread) : Type 0 where
  all : r ≡ a → k + length ts ≤ most_papers → ((j : ℕ) → j < length ts → IsRead (get_or ts j [])) → Outcome a k p ts r
  many : r ≡ (Err Many) → most_papers < k + length ts → ((j : ℕ) → k + j < most_papers → IsRead (get_or ts j [])) → Outcome a k p ts r
  bad : (x : refused.Bad) (j : ℕ) → r ≡ Err (Bad x) → x.paper ≡ k + j + 1 → j < length ts → k + j < most_papers → ((i : ℕ) → i < j → IsRead (get_or ts i [])) → text_answer (get_or ts j []) ≡ Err x.why
      → x.start ≡ p + length (flatten (take j ts)) → x.end ≡ x.start + length (get_or ts j []) → Outcome a k p ts r

-- one text that is read, before the others
read_first : (a : Result Found Unread) (k p : ℕ) (t : List ℕ) (ts : List (List ℕ)) (r : Result Found Unread) → k < most_papers → IsRead t → Outcome a (k + 1) (p + length t) ts r → Outcome a k p (t ∷ ts) r
unfolding flatten
read_first a k p t ts r h d (all e l f) = all e (omega arith) first
  where
    first : (j : ℕ) → j < suc (length ts) → IsRead (get_or (t ∷ ts) j [])
    first zero i = d
    first (suc j) i = f j (omega arith)
read_first a k p t ts r h d (many e l f) = many e (omega arith) first
  where
    first : (j : ℕ) → k + j < most_papers → IsRead (get_or (t ∷ ts) j [])
    first zero i = d
    first (suc j) i = f j (omega arith)
read_first a k p t ts r h d (bad x j e n l m f g u v) = bad x (suc j) e (omega arith) (omega arith) (omega arith) first g (omega (arith, length-append t (flatten (take j ts)))) v
  where
    first : (i : ℕ) → i < suc j → IsRead (get_or (t ∷ ts) i [])
    first zero i = d
    first (suc j) i = f j (omega arith)

pub outcome : (a : Result Found Unread) (k p : ℕ) (ts : List (List ℕ)) → k ≤ most_papers → Outcome a k p ts (read_from a k p ts)
unfolding flatten
outcome a k p [] h = all (read_end a k p) (omega arith) (λ j l. absurd (omega arith))
outcome a k p (t ∷ ts) h = by (ℕ_discrete k most_papers) (text_answer t) refl (outcome a (k + 1) (p + length t) ts)
  where
    by : Dec (k ≡ most_papers) → (r : Result Written Refusal) → text_answer t ≡ r → (k + 1 ≤ most_papers → Outcome a (k + 1) (p + length t) ts (read_from a (k + 1) (p + length t) ts)) → Outcome a k p (t ∷ ts) (read_from a k p (t ∷ ts))
    by (yes e) r q ih = many (read_many a k p t ts e) (omega arith) (λ j l. absurd (omega arith))
    by (no e) (Ok m) q ih = subst (Outcome a k p (t ∷ ts)) (sym (read_next a k p t ts e m q)) (read_first a k p t ts _ (omega (arith, e)) (m, q) (ih (omega (arith, e))))
    by (no e) (Err x) q ih = bad _ 0 (read_bad a k p t ts e x q) (omega arith) (omega arith) (omega (arith, e)) (λ i l. absurd (omega arith)) q (omega arith) refl
