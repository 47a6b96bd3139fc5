-- What is told, without the names of the values. Document 01, "Numbers handed back".
use Rattle.std.specs.Prelude.{[], ◌∷◌, ◌++◌, ◌≡◌, ℕ, take}
use Rattle.refusals.specs.Told.{Told, unnamed}
use Rattle.refusals.specs.declared.Reply.{Reply}

-- r says what is told: the number, the values without their names, and the rule
pub record Replies (t : Told) (r : Reply) : Type 0 where
  pub number : r.number ≡ t.number
  pub values : r.values ≡ unnamed t.values
  pub rule : r.rule ≡ t.rule

-- q says what r says, and c behind the values; of five the first four
pub record Further (r : Reply) (c : ℕ) (q : Reply) : Type 0 where
  pub number : q.number ≡ r.number
  pub values : q.values ≡ take 4 (r.values ++ (c ∷ []))
  pub rule : q.rule ≡ r.rule

-- different answers are told differently, even without the names of the values
abbrev pub ToldApart : {A : Type 0} → (A → Told) → Type 0
ToldApart {A} tell = (a b : A) → (tell a).number ≡ (tell b).number → unnamed (tell a).values ≡ unnamed (tell b).values → (tell a).rule ≡ (tell b).rule → a ≡ b
