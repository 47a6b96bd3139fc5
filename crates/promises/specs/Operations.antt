-- Functions that claim to be the operations. The demands are stated of them, so that a useless one can be shown to break the very same words.
use Rattle.std.specs.Prelude.{List, ℕ, length}
use Rattle.refusals.specs.Told.{Told}
use Rattle.collections.specs.Reads.{read_answer, read_told}
use Rattle.listing.specs.Lists.{list_after, list_answer}
use Rattle.entering.specs.Enters.{enter_after, enter_answer, enter_told}
use Rattle.ordering.specs.Orders.{order_after, order_answer, order_told}
use Rattle.parsing.specs.Parses.{parse_after, parse_answer, parse_told}
use Rattle.rendering.specs.Renders.{render_after, render_answer, render_told}
use Rattle.building.specs.Builds.{build_after, build_answer, build_told}
use Rattle.building.specs.Vetoes.{veto_after, veto_answer}
use Rattle.checking.specs.Checks.{check_answer, check_told}
use Rattle.easing.specs.Eases.{Lent, lent}
use Rattle.loosening.specs.Loosens.{loosen_after, loosen_answer, loosen_told}

-- what a call gives back: document 01's number with its values, and what the lent memory, of the type B, holds afterwards
pub record GivenOf (B : Type 0) : Type 0 where
  pub told : Told
  pub after : B

-- where one table or one room is lent
abbrev pub Given : Type 0
Given = GivenOf (List ℕ)

abbrev pub gives : {B : Type 0} → Told → B → GivenOf B
gives r o = record { told = r; after = o }

-- from a collection
abbrev pub Reader : Type 0
Reader = List ℕ → Told

-- from a collection, and a lent table
abbrev pub Lister : Type 0
Lister = List ℕ → List ℕ → Given

-- from n, records, and a lent table
abbrev pub Enterer : Type 0
Enterer = ℕ → List (List ℕ) → List ℕ → Given

-- from n, a body, and lent room
abbrev pub Orderer : Type 0
Orderer = ℕ → List ℕ → List ℕ → Given

-- from n, a set of species, a table, and lent room
abbrev pub Builder : Type 0
Builder = ℕ → ℕ → List ℕ → List ℕ → Given

-- from n, a Newick text, and lent room
abbrev pub Parser : Type 0
Parser = ℕ → List ℕ → List ℕ → Given

-- from n, a body, and lent room, to Newick text
abbrev pub Renderer : Type 0
Renderer = ℕ → List ℕ → List ℕ → Given

-- from n, a table and a body
abbrev pub Checker : Type 0
Checker = ℕ → List ℕ → List ℕ → Told

-- from n, a table, a body, lent room, and a lent list of 64-bit numbers
abbrev pub Loosener : Type 0
Loosener = ℕ → List ℕ → List ℕ → List ℕ → List ℕ → GivenOf Lent

pub record Operations : Type 0 where
  pub read : Reader
  pub list : Lister
  pub enter : Enterer
  pub order : Orderer
  pub build : Builder
  pub veto : Builder
  pub check : Checker
  pub loosen : Loosener
  pub parse : Parser
  pub render : Renderer

-- ---- ours: by the contract of each public function, what it answers and leaves is this and nothing else (`at_most_one` of `answers`)

abbrev pub reads : Reader
reads b = read_told (read_answer b)

abbrev pub lists : Lister
lists b t = record { told = read_told (list_answer b (length t)); after = list_after b t }

abbrev pub enters : Enterer
enters n rs t = record { told = enter_told (enter_answer n rs (length t)); after = enter_after n rs t }

abbrev pub orders : Orderer
orders n b o = record { told = order_told (order_answer n b (length o)); after = order_after n b o }

abbrev pub builds : Builder
builds n s t o = record { told = build_told (build_answer n s t (length o)); after = build_after n s t o }

abbrev pub vetoes : Builder
vetoes n s t o = record { told = build_told (veto_answer n s t (length o)); after = veto_after n s t o }

abbrev pub checks : Checker
checks n t b = check_told (check_answer n t b)

abbrev pub loosens : Loosener
loosens n t b o d = record { told = loosen_told (loosen_answer n t b (length o) (length d)); after = loosen_after n t b (lent o d) }

abbrev pub parses : Parser
parses n w o = record { told = parse_told (parse_answer n w (length o)); after = parse_after n w o }

abbrev pub renders : Renderer
renders n b o = record { told = render_told (render_answer n b (length o)); after = render_after n b o }

abbrev pub koodhaxil : Operations
koodhaxil = record { read = reads; list = lists; enter = enters; order = orders; build = builds; veto = vetoes; check = checks; loosen = loosens; parse = parses; render = renders }
