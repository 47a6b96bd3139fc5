-- What comes of entering where nothing is refused. Assumes nothing.
use mathlib.Core.Bool.{So}
use mathlib.Core.List.{List}
use mathlib.Core.Path.{◌∙◌, ◌≡◌, ap, refl}
use Prim.Native.Nat.{ℕ}
use native.Mathlib.Omega.{arith}
use borrow.Author.Tests.{eqb-true, le-ltb}
use lib.ListN.{length, replicate}
use Rattle.std.specs.Prelude.{None}
use Rattle.sets.specs.Sets.{number}
use Rattle.tables.specs.Bytes.{fits}
use Rattle.answers.proofs.Answered.{is_done}
use Rattle.answers.specs.Looks.{look_count}
use Rattle.records.proofs.Filling.{fill_table}
use Rattle.records.proofs.Records.{bad_at-none}
use Rattle.records.specs.Records.{bad_at, fill, first_bad, occurs_in}
use Rattle.entering.specs.Enters.{Enters}
use Rattle.std.specs.Prelude.{Ok, None}

-- each look passes, and t₁ is the table cleared
pub entered : (n : ℕ) (rs : List (List ℕ)) (t t₁ t₂ : List ℕ) (s : ℕ) → look_count n ≡ Ok tt → So (fits t n) → bad_at n rs ≡ None → t₁ ≡ replicate (length t) 0
    → s ≡ number 64 (occurs_in rs) → t₂ ≡ fill rs t₁ → Enters n rs t (Ok (record { n = n; set = s })) t₂
entered n rs t t₁ t₂ s p q none e f g =
    let h = bad_at-none n rs none in
    is_done (rw (p, q, le-ltb (first_bad n rs) (length rs) (omega arith)) refl)
    (ap (λ (k : ℕ). record { n = n; set = k }) f)
    (g ∙ ap (fill rs) (e ∙ ap (λ (k : ℕ). replicate k 0) (eqb-true _ _ q)) ∙ fill_table n rs h)
