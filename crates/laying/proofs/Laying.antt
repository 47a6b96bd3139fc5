-- Numbers written one after the other are laid. Assumes nothing.
use mathlib.Core.List.{List, [], ◌∷◌, ◌++◌, append_assoc}
use mathlib.Core.Path.{◌∙◌, ◌≡◌, ap, refl, sym}
use Prim.Native.Nat.{ℕ, ◌+◌}
use lib.ListN.{get_or, length, length-append, set}
use Rattle.bodies.specs.declared.Fault.{Fault}
use Rattle.bodies.specs.declared.Fault.TheVariants.{BadParent, BadSpecies, OnlyChild, SeenBefore}
use Rattle.laying.specs.Codes.{fault_code, laid, rule_code}
use Rattle.std.specs.Prelude.{Option, Some}

laid_more : (vs o : List ℕ) (v : ℕ) → set (laid vs o) (length vs) v ≡ laid (vs ++ (v ∷ [])) o
laid_more [] [] v = refl
laid_more [] (x ∷ o) v = refl
laid_more (w ∷ vs) [] v = refl
laid_more (w ∷ vs) (x ∷ o) v = ap (λ (l : List ℕ). w ∷ l) (laid_more vs o v)

-- one number more, written at its place
then_laid : (vs o : List ℕ) (v : ℕ) {p q : List ℕ} → p ≡ laid vs o → q ≡ set p (length vs) v → q ≡ laid (vs ++ (v ∷ [])) o
then_laid vs o v e f = f ∙ ap (λ (l : List ℕ). set l (length vs) v) e ∙ laid_more vs o v

-- ---- the values of a reply, and behind them the rule

pub laid_broken : (vs o : List ℕ) (i a b : ℕ) {x : Fault} {p q q' : List ℕ} {r : Option Fault} → r ≡ Some x → length vs ≡ i → p ≡ laid vs o → q ≡ set p i a → q' ≡ set q (i + 1) b → (a ∷ b ∷ []) ≡ fault_code x
    → q' ≡ laid (vs ++ rule_code r) o
laid_broken vs o i a b {p = p} {q = q} e n h f g c =
    let one = then_laid vs o a h (f ∙ ap (λ (j : ℕ). set p j a) (sym n)) in
    let two = then_laid (vs ++ (a ∷ [])) o b one (g ∙ ap (λ (j : ℕ). set q j b) (sym (length-append vs (a ∷ []) ∙ ap (λ (j : ℕ). j + 1) n))) in
    rw (e, ← c, ← append_assoc vs (a ∷ []) (b ∷ [])) two

-- a fault's two numbers, by their places
pub code_parts : (f : Fault) → (get_or (fault_code f) 0 0 ∷ get_or (fault_code f) 1 0 ∷ []) ≡ fault_code f
code_parts (BadParent p) = refl
code_parts (BadSpecies s) = refl
code_parts (SeenBefore i) = refl
code_parts OnlyChild = refl
