-- Why a text is refused. Reading a Newick text for 64 species into a room of 254 bytes refuses with 14 and 6 alone (`no_other`).
use Rattle.std.specs.Prelude.{cond, List, ℕ, eqb, get_or}
use Rattle.refusals.specs.Told.{Told, unnamed}
use Rattle.refusals.specs.Refusals.{refusal_told}
use Rattle.refusals.specs.declared.Refusal.{Refusal}
use Rattle.places.specs.declared.Cause.{Cause}
use Rattle.places.specs.declared.Cause.TheVariants.{AtNode, AtPlace, Other}
use Rattle.std.specs.Prelude.{Option, Some, None}
use Rattle.bodies.specs.declared.Fault.{Fault}

-- "n = 64"
abbrev pub most_species : ℕ
most_species = 64

-- the tree number and the node number stand among the values vs, beside the rule
abbrev pub at_node : List ℕ → Option Fault → Cause
at_node vs None = Other
at_node vs (Some f) = AtNode (record { tree = get_or vs 0 0; node = get_or vs 1 0; fault = f })

-- 14 tells a byte place, 6 a node
abbrev pub cause_told : Told → Cause
cause_told a =
    cond (eqb a.number 14) (AtPlace (get_or (unnamed a.values) 0 0))
    (cond (eqb a.number 6) (at_node (unnamed a.values) a.rule) Other)

abbrev pub cause_of : Refusal → Cause
cause_of x = cause_told (refusal_told x)
