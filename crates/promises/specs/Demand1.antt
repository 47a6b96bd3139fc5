-- Demand 1: every byte string and every number may be handed in. Bad input gets the numbered refusal of document 01, chosen by its stated order; a
-- refused call returns only what the table lists, and all lent memory holds what it held.
use Rattle.std.specs.Prelude.{cond, false, ◌||◌, List, [], ◌∷◌, ◌++◌, ◌≢◌, ◌≡◌, ℕ, eqb, length}
use Rattle.bodies.specs.Nodes.{nodes}
use Rattle.refusals.specs.Told.{Told, Value, looked_count, number_of_nodes, text_length, value}
use Rattle.answers.specs.Looks.{first_refusal, look_told}
use Rattle.answers.specs.Looks.{Look}
use Rattle.collections.specs.Reads.{count_values, counts_of, read_looks}
use Rattle.listing.specs.Lists.{list_looks}
use Rattle.entering.specs.Enters.{enter_looks, entry, entry_values}
use Rattle.ordering.specs.Orders.{order_looks}
use Rattle.parsing.specs.Parses.{parse_looks, text_body}
use Rattle.rendering.specs.Renders.{render_looks}
use Rattle.rendering.specs.Texts.{newick_text}
use Rattle.admitting.specs.GoodSet.{input_looks}
use Rattle.building.specs.Builds.{build_looks, looked_by, nodes_in, outcome}
use Rattle.building.specs.Vetoes.{veto_looked, vetoed}
use Rattle.checking.specs.Checks.{check_looks}
use Rattle.easing.specs.Eases.{eased, lent, tally}
use Rattle.loosening.specs.Loosens.{loosen_looks, tally_values}
use Rattle.promises.specs.Operations.{GivenOf, Operations}

-- what a call gives back, that was lent o: it tells x, and a refusal changes nothing
pub record ToldKept {B : Type 0} (x : Told) (o : B) (g : GivenOf B) : Type 0 where
  pub told_is : g.told ≡ x
  pub kept : g.told.number ≢ 0 → g.after ≡ o

-- it tells the number and the values of the first look of the order that refuses, else 0 with its values
abbrev pub Chosen : {B : Type 0} → List Look → List Value → B → GivenOf B → Type 0
Chosen order values o g = ToldKept (look_told (first_refusal order) values) o g

-- and, last, the number of triples looked at. Request T-09: "In demand 1 it counts as listed in the table: refusal 10 returns it, any other returns 0 for it"
abbrev pub with_looked : ℕ → Told → Told
with_looked c x = record { number = x.number; values = x.values ++ (value looked_count (cond (eqb x.number 0 || eqb x.number 10) c 0) ∷ []); rule = x.rule }

abbrev pub ChosenLooked : {B : Type 0} → ℕ → List Look → List Value → B → GivenOf B → Type 0
ChosenLooked c order values o g = ToldKept (with_looked c (look_told (first_refusal order) values)) o g

-- for all that may be handed in
pub record Demand1 (L : Operations) : Type 0 where
  pub reading : (b : List ℕ) → L.read b ≡ look_told (first_refusal (read_looks b)) (count_values (counts_of b))
  pub listing : (b t : List ℕ) → Chosen (list_looks b (length t)) (count_values (counts_of b)) t (L.list b t)
  pub entering : (n : ℕ) (rs : List (List ℕ)) (t : List ℕ) → Chosen (enter_looks n rs (length t)) (entry_values (entry n rs)) t (L.enter n rs t)
  pub ordering : (n : ℕ) (b o : List ℕ) → Chosen (order_looks n b (length o)) (value number_of_nodes (nodes b).count ∷ []) o (L.order n b o)
  pub building : (n s : ℕ) (t o : List ℕ) → ChosenLooked (looked_by false n s t) (build_looks n s t (length o)) (value number_of_nodes (nodes_in (outcome n s t)) ∷ []) o (L.build n s t o)
  pub vetoing : (n s : ℕ) (t o : List ℕ) → ChosenLooked (veto_looked n s t) (input_looks n s t (length o)) (value number_of_nodes (nodes_in (vetoed n s t)) ∷ []) o (L.veto n s t o)
  pub checking : (n : ℕ) (t b : List ℕ) → L.check n t b ≡ look_told (first_refusal (check_looks n t b)) []
  pub loosening : (n : ℕ) (t b o d : List ℕ) → Chosen (loosen_looks n t b (length o) (length d)) (tally_values (tally (eased n t b))) (lent o d) (L.loosen n t b o d)
  pub parsing : (n : ℕ) (w o : List ℕ) → Chosen (parse_looks n w (length o)) (value number_of_nodes (nodes (text_body w)).count ∷ []) o (L.parse n w o)
  pub rendering : (n : ℕ) (b o : List ℕ) → Chosen (render_looks n b (length o)) (value text_length (length (newick_text b)) ∷ []) o (L.render n b o)
