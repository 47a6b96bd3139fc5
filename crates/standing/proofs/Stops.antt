-- The answer is 14 at a place exactly where the test says so. Assumes nothing.
use mathlib.Core.Bool.{false≢true, true}
use mathlib.Core.Path.{◌∙◌, ◌≡◌, ap, refl}
use Prim.Native.Nat.{ℕ}
use borrow.Author.Tests.{eq-eqb, eqb-true}
use Rattle.refusals.specs.declared.Refusal.{Refusal}
use Rattle.refusals.specs.declared.Refusal.TheVariants.{BadText}
use Rattle.places.specs.Causes.{cause_of}
use Rattle.places.specs.declared.Cause.{Cause}
use Rattle.places.specs.declared.Cause.TheVariants.{AtNode, AtPlace, Other}
use Rattle.standing.specs.Expected.{is_at, stops_at}
use Rattle.std.specs.Prelude.{Ok, Err, Result}
use Rattle.answers.specs.declared.Written.{Written}

is_place : (c : Cause) (q : ℕ) → is_at q c ≡ true → c ≡ AtPlace q
is_place (AtPlace p) q e = ap AtPlace (eqb-true p q e)
is_place (AtNode x) q e = absurd (false≢true e)
is_place Other q e = absurd (false≢true e)

pub stops_is : (q : ℕ) (a : Result Written Refusal) → stops_at q a ≡ true → (x : Refusal) × (a ≡ Err x) × (cause_of x ≡ AtPlace q)
stops_is q (Ok w) e = absurd (false≢true e)
stops_is q (Err x) e = (x, refl, is_place (cause_of x) q e)

pub is_stops : (q : ℕ) (a : Result Written Refusal) → a ≡ Err (BadText q) → stops_at q a ≡ true
is_stops q a e = ap (stops_at q) e ∙ eq-eqb q q refl
