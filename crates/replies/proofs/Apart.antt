-- Different answers of an operation have different numbers, values or rules. Assumes nothing.
use mathlib.Core.List.{List, [], ◌∷◌, ◌++◌}
use mathlib.Core.Path.{◌∙◌, ◌≡◌, ap, ap₂, refl, sym}
use Prim.Native.Nat.{ℕ}
use native.Mathlib.Omega.{arith}
use lib.ListN.{drop, get_or, length, length-append, take}
use lib.Seq.{drop_at, take_at}
use Rattle.refusals.proofs.Numbers.{number_some, refusal_apart}
use Rattle.refusals.specs.Told.{unnamed}
use Rattle.collections.specs.Reads.{read_told}
use Rattle.entering.specs.Enters.{enter_told}
use Rattle.ordering.specs.Orders.{order_told}
use Rattle.parsing.specs.Parses.{parse_told}
use Rattle.rendering.specs.Renders.{render_told}
use Rattle.building.specs.Builds.{answer_told, build_told}
use Rattle.checking.specs.Checks.{check_told}
use Rattle.loosening.specs.Loosens.{loosen_told}
use Rattle.replies.proofs.Counted.{counted_values}
use Rattle.refusals.specs.Replies.{ToldApart}
use Rattle.std.specs.Prelude.{Ok, Err, Result}
use Rattle.refusals.specs.declared.Refusal.{Refusal}
use Rattle.answers.specs.declared.Written.{Written}

-- ---- what 0 returns gives the answer again; and no refusal has the number 0

abbrev at : ℕ → List ℕ → ℕ
at i l = get_or l i 0

-- reading, and listing
pub read_apart : ToldApart read_told
read_apart (Ok u) (Ok v) p q r = ap (λ (l : List ℕ). Ok (record { n = at 0 l; trees = at 1 l; set = at 2 l })) q
read_apart (Ok u) (Err y) p q r = absurd (number_some y (sym p))
read_apart (Err x) (Ok v) p q r = absurd (number_some x p)
read_apart (Err x) (Err y) p q r = ap Err (refusal_apart x y p q r)

pub enter-apart : ToldApart enter_told
enter-apart (Ok u) (Ok v) p q r = ap (λ (l : List ℕ). Ok (record { n = at 0 l; set = at 1 l })) q
enter-apart (Ok u) (Err y) p q r = absurd (number_some y (sym p))
enter-apart (Err x) (Ok v) p q r = absurd (number_some x p)
enter-apart (Err x) (Err y) p q r = ap Err (refusal_apart x y p q r)

pub order_apart : ToldApart order_told
order_apart (Ok u) (Ok v) p q r = ap (λ (l : List ℕ). Ok (record { nodes = at 0 l })) q
order_apart (Ok u) (Err y) p q r = absurd (number_some y (sym p))
order_apart (Err x) (Ok v) p q r = absurd (number_some x p)
order_apart (Err x) (Err y) p q r = ap Err (refusal_apart x y p q r)

pub parse_apart : ToldApart parse_told
parse_apart (Ok u) (Ok v) p q r = ap (λ (l : List ℕ). Ok (record { nodes = at 0 l })) q
parse_apart (Ok u) (Err y) p q r = absurd (number_some y (sym p))
parse_apart (Err x) (Ok v) p q r = absurd (number_some x p)
parse_apart (Err x) (Err y) p q r = ap Err (refusal_apart x y p q r)

pub render_apart : ToldApart render_told
render_apart (Ok u) (Ok v) p q r = ap (λ (l : List ℕ). Ok (record { length = at 0 l })) q
render_apart (Ok u) (Err y) p q r = absurd (number_some y (sym p))
render_apart (Err x) (Ok v) p q r = absurd (number_some x p)
render_apart (Err x) (Err y) p q r = ap Err (refusal_apart x y p q r)

-- building, without the triples looked at
answer_apart : ToldApart answer_told
answer_apart (Ok u) (Ok v) p q r = ap (λ (l : List ℕ). Ok (record { nodes = at 0 l })) q
answer_apart (Ok u) (Err y) p q r = absurd (number_some y (sym p))
answer_apart (Err x) (Ok v) p q r = absurd (number_some x p)
answer_apart (Err x) (Err y) p q r = ap Err (refusal_apart x y p q r)

pub check_apart : ToldApart check_told
check_apart (Ok _) (Ok _) p q r = refl
check_apart (Ok _) (Err y) p q r = absurd (number_some y (sym p))
check_apart (Err x) (Ok _) p q r = absurd (number_some x p)
check_apart (Err x) (Err y) p q r = ap Err (refusal_apart x y p q r)

pub loosen_apart : ToldApart loosen_told
loosen_apart (Ok u) (Ok v) p q r = ap (λ (l : List ℕ). Ok (record { nodes = at 0 l; dropped = at 1 l })) q
loosen_apart (Ok u) (Err y) p q r = absurd (number_some y (sym p))
loosen_apart (Err x) (Ok v) p q r = absurd (number_some x p)
loosen_apart (Err x) (Err y) p q r = ap Err (refusal_apart x y p q r)

-- ---- the answer of a build, and the number behind its values

behind_same : (l m : List ℕ) (x y : ℕ) → l ++ (x ∷ []) ≡ m ++ (y ∷ []) → (l ≡ m) × (x ≡ y)
behind_same l m x y e =
    let k : length m ≡ length l = omega (arith, simp length-append at (ap length e)) in (
      sym (take_at l (x ∷ []) (length l) refl) ∙ ap (take (length l)) e ∙ take_at m (y ∷ []) (length l) k,
      ap (at 0) (sym (drop_at l (x ∷ []) (length l) refl) ∙ ap (drop (length l)) e ∙ drop_at m (y ∷ []) (length l) k),
    )

pub build-apart : ToldApart build_told
build-apart a b p q r =
    let vs : List ℕ = unnamed (answer_told a.answer).values in
    let ws : List ℕ = unnamed (answer_told b.answer).values in
    let i = behind_same vs ws a.looked b.looked (sym (counted_values a) ∙ q ∙ counted_values b) in
    ap₂ (λ (x : Result Written Refusal) (c : ℕ). record { answer = x; looked = c }) (answer_apart a.answer b.answer p i.0 r) i.1
