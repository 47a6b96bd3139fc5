-- The children of a node: each lies in its forest, splits what the forest splits of its species, and lacks a species of it. Assumes nothing.
use mathlib.Core.Bool.{So, false≢true, not}
use mathlib.Core.Logic.{inl, inr, ⊎_elim}
use mathlib.Core.Path.{◌∙◌, ◌≡◌, refl, subst, sym}
use Prim.Native.Nat.{◌≤◌, ℕ}
use native.Mathlib.Omega.{arith}
use Rattle.sets.proofs.Bools.{not_i, or_case, or_l, or_r}
use Rattle.sets.specs.Species.{Inside, Two}
use Rattle.trees.proofs.Formed.{Formed, FormedF}
use Rattle.trees.proofs.Lowest.{some_species, some_species_f}
use Rattle.trees.proofs.Splits.{splits, splits_in, splits_f, splits_f_in}
use Rattle.trees.specs.Trees.{Child, Forest, Tree, cons, degree, nil, under, under_f}

abbrev pub EveryF : (Tree → Type 0) → Forest → Type 0
EveryF Q nil = Unit {0}
EveryF Q (cons t f) = Q t × EveryF Q f

pub every_f_map : (P Q : Tree → Type 0) → ((t : Tree) → P t → Q t) → (f : Forest) → EveryF P f → EveryF Q f
every_f_map P Q g nil h = tt
every_f_map P Q g (cons t f) h = (g t h.0, every_f_map P Q g f h.1)

-- how a child lies in its forest
pub record Kid (F : Forest) (t : Tree) : Type 0 where
  pub formed : Formed t
  pub inside : Inside (under t) (under_f F)
  pub up : (a b c : ℕ) → So (splits t a b c) → So (splits_f F a b c)
  pub down : (a b c : ℕ) → So (under t a) → So (splits_f F a b c) → So (splits t a b c)

pub kids : (f : Forest) → FormedF f → EveryF (Kid f) f
kids nil w = tt
kids (cons t f) w = (
  record {
    formed = w.0;
    inside = λ x h. or_l (under t x) (under_f f x) h;
    up = λ a b c h. or_l (splits t a b c) (splits_f f a b c) h;
    down = λ a b c p h. or_case (splits t a b c) (splits_f f a b c) h (λ k. k) (λ k. absurd (w.1 a p (splits_f_in f a b c k).0));
  },
  every_f_map (Kid f) (Kid (cons t f))
      (λ s k. record {
        formed = k.formed;
        inside = λ x h. or_r (under t x) (under_f f x) (k.inside x h);
        up = λ a b c h. or_r (splits t a b c) (splits_f f a b c) (k.up a b c h);
        down = λ a b c p h. or_case (splits t a b c) (splits_f f a b c) h
            (λ q. absurd (w.1 a (splits_in t a b c q).0 (k.inside a p))) (λ q. k.down a b c p q);
      })
      f (kids f w.2),
)

abbrev pub Omits : Forest → Tree → Type 0
Omits F t = (c : ℕ) × So (under_f F c) × So (not (under t c))

-- of two or more children each lacks a species
pub omits : (f : Forest) → FormedF f → 2 ≤ degree f → EveryF (Omits f) f
omits nil w le = absurd (omega arith)
omits (cons t f) w le =
    let x = some_species t w.0 in
    let y = some_species_f f (omega arith) w.2 in (
      (y.0, or_r (under t y.0) (under_f f y.0) y.1, not_i (under t y.0) (λ h. w.1 y.0 h y.1)),
      every_f_map (Kid f) (Omits (cons t f))
          (λ s k. (x.0, or_l (under t x.0) (under_f f x.0) x.1, not_i (under s x.0) (λ h. w.1 x.0 x.1 (k.inside x.0 h))))
          f (kids f w.2),
    )

pub two-under : (f : Forest) → FormedF f → 2 ≤ degree f → Two (under_f f)
two-under nil w le = absurd (omega arith)
two-under (cons t f) w le =
    let x = some_species t w.0 in
    let y = some_species_f f (omega arith) w.2 in
    (x.0, y.0, or_l (under t x.0) (under_f f x.0) x.1, or_r (under t y.0) (under_f f y.0) y.1, λ e. w.1 x.0 x.1 (subst (λ (z : ℕ). So (under_f f z)) (sym e) y.1))

-- s is a child of the forest
pub every_child : (Q : Tree → Type 0) (s : Tree) (f : Forest) → EveryF Q f → Child s f → Q s
every_child Q s nil h m = absurd m
every_child Q s (cons t f) h m = ⊎_elim (λ e. subst Q (sym e) h.0) (λ k. every_child Q s f h.1 k) m

pub child_every : (Q : Tree → Type 0) (f : Forest) → ((s : Tree) → Child s f → Q s) → EveryF Q f
child_every Q nil h = tt
child_every Q (cons t f) h = (h t (inl refl), child_every Q f (λ s m. h s (inr m)))

pub child_of : (f : Forest) (x : ℕ) → So (under_f f x) → (s : Tree) × Child s f × So (under s x)
child_of nil x h = absurd (false≢true h)
child_of (cons t f) x h = or_case (under t x) (under_f f x) h (λ p. (t, inl refl, p)) (λ p. let r = child_of f x p in (r.0, inr r.1, r.2))

pub child_in : (f : Forest) (s : Tree) (x : ℕ) → Child s f → So (under s x) → So (under_f f x)
child_in nil s x m h = absurd m
child_in (cons t f) s x m h = ⊎_elim (λ e. or_l (under t x) (under_f f x) (subst (λ (z : Tree). So (under z x)) e h)) (λ k. or_r (under t x) (under_f f x) (child_in f s x k h)) m

pub child_uniq : (f : Forest) → FormedF f → (s s' : Tree) (x : ℕ) → Child s f → Child s' f → So (under s x) → So (under s' x) → s ≡ s'
child_uniq nil w s s' x m m' h h' = absurd m
child_uniq (cons t f) w s s' x m m' h h' = ⊎_elim
    (λ e. ⊎_elim (λ e'. e ∙ sym e') (λ k'. absurd (w.1 x (subst (λ (z : Tree). So (under z x)) e h) (child_in f s' x k' h'))) m')
    (λ k. ⊎_elim (λ e'. absurd (w.1 x (subst (λ (z : Tree). So (under z x)) e' h') (child_in f s x k h))) (λ k'. child_uniq f w.2 s s' x k k' h h') m')
    m
