-- What may stand at a place of a text: "of the seven signs .., in this order, those for which the text's first q bytes and that sign behind them are not
-- refused (by `parse`, n = 64) with 14 at q; their names in words (`a digit`, ..) with ` or ` between; `nothing more` if there is none".
use Rattle.std.specs.Prelude.{Bool, cond, false, not, true, List, [], ◌∷◌, ◌++◌, ℕ, eqb, take}
use Rattle.bodies.specs.Nodes.{longest}
use Rattle.parsing.specs.Parses.{parse_answer}
use Rattle.places.specs.Causes.{cause_of, most_species}
use Rattle.places.specs.declared.Cause.{Cause}
use Rattle.places.specs.declared.Cause.TheVariants.{AtNode, AtPlace, Other}
use Rattle.standing.specs.Words.{closing_word, colon_word, comma_word, digit_word, nothing_word, opening_word, or_word, point_word, semicolon_word}
use Rattle.std.specs.Prelude.{Ok, Err, Result}
use Rattle.refusals.specs.declared.Refusal.{Refusal}
use Rattle.answers.specs.declared.Written.{Written}

-- is it "14 at q"?
abbrev pub is_at : ℕ → Cause → Bool
is_at q (AtPlace p) = eqb p q
is_at q (AtNode x) = false
is_at q Other = false

-- is this answer "14 at q"?
abbrev pub stops_at : ℕ → Result Written Refusal → Bool
stops_at q (Ok w) = false
stops_at q (Err x) = is_at q (cause_of x)

-- may byte b stand at place q of the text t?
unfoldable pub may_stand : List ℕ → ℕ → ℕ → Bool
may_stand t q b = not (stops_at q (parse_answer most_species (take q t ++ (b ∷ [])) longest))

-- "the seven signs `0` (a digit), `(` (an opening bracket), `)` (a closing bracket), `,` (a comma), `:` (a colon), `.` (a point), `;` (a semicolon)"
abbrev pub signs : List ℕ
signs = 48 ∷ 40 ∷ 41 ∷ 44 ∷ 58 ∷ 46 ∷ 59 ∷ []

abbrev pub sign_name : ℕ → List ℕ
sign_name b =
    cond (eqb b 48) digit_word
    (cond (eqb b 40) opening_word
    (cond (eqb b 41) closing_word
    (cond (eqb b 44) comma_word
    (cond (eqb b 58) colon_word
    (cond (eqb b 46) point_word semicolon_word)))))

-- those of the signs l that may stand there
unfoldable pub standing : List ℕ → ℕ → List ℕ → List ℕ
standing t q [] = []
standing t q (b ∷ l) = cond (may_stand t q b) (b ∷ standing t q l) (standing t q l)

-- what stands before a name, and what stands at the end, where there are names before or not
abbrev pub between : Bool → List ℕ
between true = or_word
between false = []

abbrev pub nameless : Bool → List ℕ
nameless true = []
nameless false = nothing_word

-- the names of the signs l, where there are names before or not
abbrev pub names_from : Bool → List ℕ → List ℕ
names_from some [] = nameless some
names_from some (b ∷ l) = between some ++ (sign_name b ++ names_from true l)

abbrev pub expected : List ℕ → ℕ → List ℕ
expected t q = names_from false (standing t q signs)
