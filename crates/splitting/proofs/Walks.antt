-- A walk over the species of a set, from the lowest up: what rows grow by. Assumes nothing.
use mathlib.Core.Bool.{So}
use mathlib.Core.Logic.{◌≢◌, inl, inr, ⊎_elim}
use mathlib.Core.Path.{◌∙◌, ◌≡◌, ap, subst, sym}
use Prim.Native.Nat.{ℕ}
use lib.ListN.{length}
use Rattle.sets.proofs.Bools.{not_e, test}
use Rattle.sets.proofs.Facts.{empty_e, minus_e, minus_i, single_e, single_i}
use Rattle.sets.proofs.Tests.{true_has}
use Rattle.sets.specs.Sets.{Lowest, Rest, has, minus, single}
use Rattle.sets.specs.Walks.{Turn}
use Rattle.splitting.proofs.Stores.{grown_none}
use Rattle.splitting.specs.Rows.{Flagged, Rows, Some}

-- a turn of a loop over what is left of a set
pub turn : {left i left' : ℕ} → left ≢ 0 → Lowest left i → Rest left left' → Turn left i left'
turn n l r = record { some = n; below = l.small n; member = l.member n; lowest = l; rest = r }

-- g grew from g₀ by what Q tells of the species of s that are not left
pub record Walked (s : ℕ) (Q : ℕ → ℕ → ℕ → Type 0) (g₀ g : Rows) (left : ℕ) : Type 0 where
  pub inside : (k : ℕ) → So (has left k) → So (has s k)
  pub grown : Flagged (λ x y. (k : ℕ) × So (has s k) × (So (has left k) → ⊥) × Q k x y) g₀ g

module _ {s : ℕ} {Q : ℕ → ℕ → ℕ → Type 0} where
  pub walk_start : {g : Rows} → length g ≡ 64 → Walked s Q g g s
  walk_start h = record { inside = λ k p. p; grown = grown_none h (λ x y p. p.2 p.1) }

  pub walk_in : {g₀ g : Rows} {left k : ℕ} → left ≢ 0 → Lowest left k → Walked s Q g₀ g left → So (has s k)
  walk_in {g₀} {g} {left} {k} n lo w = w.inside k (true_has left k (lo.member n))

  pub walk_next : {g₀ g g' : Rows} {left k left' : ℕ} → Turn left k left' → Flagged (Q k) g g' → Walked s Q g₀ g left → Walked s Q g₀ g' left'
  walk_next {g₀} {g} {g'} {left} {k} {left'} u q w =
      let m : So (has left k) = true_has left k u.member in
      let e : left' ≡ minus left (single k) = u.rest.is ∙ ap (λ (z : ℕ). minus left (single z)) (sym u.lowest.is) in
      let off : (j : ℕ) → So (has left' j) → So (has left j) × (So (has (single k) j) → ⊥)
      = λ j h. minus_e left (single k) j (subst (λ (z : ℕ). So (has z j)) e h) in
      record {
        inside = λ j h. w.inside j (off j h).0;
        grown = record {
          size = q.size;
          flags = λ x y. (
            λ h. ⊎_elim
                (λ p. ⊎_elim (λ o. inl o) (λ o. inr (o.0, o.1, λ l. o.2 (off o.0 l).0, o.3)) ((w.grown.flags x y).0 p))
                (λ p. inr (k, w.inside k m, λ l. (off k l).1 (single_i k), p))
                ((q.flags x y).0 h),
            λ h. (q.flags x y).1 (⊎_elim
                (λ p. inl ((w.grown.flags x y).1 (inl p)))
                (λ p. test (has left p.0)
                (λ l. test (has (single k) p.0)
                (λ o. inr (subst (λ (z : ℕ). Q z x y) (sym (single_e k p.0 o)) p.3))
                (λ o. absurd (p.2 (subst (λ (z : ℕ). So (has z p.0)) (sym e) (minus_i left (single k) p.0 l (not_e (has (single k) p.0) o))))))
                (λ l. inl ((w.grown.flags x y).1 (inr (p.0, p.1, not_e (has left p.0) l, p.3)))))
                h),
          );
        };
      }

  pub walk_end : {g₀ g : Rows} {left : ℕ} → left ≡ 0 → Walked s Q g₀ g left → Flagged (Some s Q) g₀ g
  walk_end e w = record {
    size = w.grown.size;
    flags = λ x y. (
      λ h. ⊎_elim (λ p. inl p) (λ p. inr (p.0, p.1, p.3)) ((w.grown.flags x y).0 h),
      λ h. (w.grown.flags x y).1
          (⊎_elim (λ p. inl p) (λ p. inr (p.0, p.1, λ l. empty_e p.0 (subst (λ (z : ℕ). So (has z p.0)) e l), p.2)) h),
    );
  }
