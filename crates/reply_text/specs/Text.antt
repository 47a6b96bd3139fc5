-- The text of a reply: document 01's number, then what its table lists with it, each after a space; and of what was lent: a space, a bar, and its bytes as they are afterwards, each after a space; so a list of sets, each as its number.
-- (The form is ours: `second/README.md`.)
use Rattle.std.specs.Prelude.{List, [], ◌∷◌, ◌++◌, ℕ}
use Rattle.bodies.specs.declared.Fault.{Fault}
use Rattle.bodies.specs.declared.Fault.TheVariants.{BadParent, BadSpecies, SeenBefore, OnlyChild}
use Rattle.refusals.specs.Told.{Told, unnamed}
use Rattle.refusals.specs.declared.Reply.{Reply}
use Rattle.writing.specs.Texts.{decimal, spaced}
use Rattle.std.specs.Prelude.{Option, Some, None}

-- a space, and the words parent, species, seen, only
abbrev pub parent_word : List ℕ
parent_word = 32 ∷ 112 ∷ 97 ∷ 114 ∷ 101 ∷ 110 ∷ 116 ∷ []

abbrev pub species_word : List ℕ
species_word = 32 ∷ 115 ∷ 112 ∷ 101 ∷ 99 ∷ 105 ∷ 101 ∷ 115 ∷ []

abbrev pub seen_word : List ℕ
seen_word = 32 ∷ 115 ∷ 101 ∷ 101 ∷ 110 ∷ []

abbrev pub only_word : List ℕ
only_word = 32 ∷ 111 ∷ 110 ∷ 108 ∷ 121 ∷ []

-- "bad parent (that parent), bad species (it), species seen before (the earlier node), or only child"
abbrev pub fault_text : Fault → List ℕ
fault_text (BadParent p) = parent_word ++ (32 ∷ decimal p)
fault_text (BadSpecies s) = species_word ++ (32 ∷ decimal s)
fault_text (SeenBefore i) = seen_word ++ (32 ∷ decimal i)
fault_text OnlyChild = only_word

-- where a rule is broken, which one
abbrev pub rule_text : Option Fault → List ℕ
rule_text None = []
rule_text (Some f) = fault_text f

-- the number, the values without their names, each after a space, and the rule
abbrev pub plain_text : ℕ → List ℕ → Option Fault → List ℕ
plain_text k vs e = decimal k ++ (spaced vs ++ rule_text e)

abbrev pub told_text : Told → List ℕ
told_text t = plain_text t.number (unnamed t.values) t.rule

abbrev pub reply_text : Reply → List ℕ
reply_text s = plain_text s.number (s.values) s.rule

-- a space, a bar, and each byte, or each set, after a space
abbrev pub barred : List ℕ → List ℕ
barred l = 32 ∷ 124 ∷ spaced l
