-- The three demands, each a theorem about the operations of this library, to be read with `specs/`. Assumes nothing.
use mathlib.Core.Bool.{false}
use mathlib.Core.Path.{refl}
use lib.ListN.{length}
use Rattle.bodies.specs.Nodes.{nodes}
use Rattle.answers.proofs.Answered.{told_first}
use Rattle.answers.specs.Looks.{first_refusal}
use Rattle.collections.specs.Reads.{counts_of, read_looks, read_told}
use Rattle.listing.specs.Lists.{list_looks}
use Rattle.entering.specs.Enters.{enter_looks, enter_told, entry}
use Rattle.ordering.specs.Orders.{order_looks, order_told}
use Rattle.parsing.specs.Parses.{parse_done, parse_looks, parse_told}
use Rattle.rendering.specs.Renders.{render_done, render_looks, render_told}
use Rattle.admitting.specs.GoodSet.{input_looks}
use Rattle.building.specs.Builds.{build_done, build_looks, looked_by, outcome}
use Rattle.building.specs.Vetoes.{veto_looked, vetoed}
use Rattle.checking.specs.Checks.{check_looks}
use Rattle.easing.specs.Eases.{eased, lent, tally}
use Rattle.loosening.specs.Loosens.{loosen_looks, loosen_told}
use Rattle.promises.specs.Accepts.{Accepts}
use Rattle.promises.specs.Operations.{koodhaxil}
use Rattle.promises.specs.Demand1.{Demand1}
use Rattle.promises.specs.Demand2.{Demand2}
use Rattle.promises.specs.Demand3.{Demand3}
use Rattle.promises.specs.Newick.{Newick}
use Rattle.promises.specs.Together.{AllDemands}
use Rattle.promises.proofs.Accepted.{accepts}
use Rattle.promises.proofs.Built.{good_built}
use Rattle.promises.proofs.Checked.{check_told_lem, good_checked}
use Rattle.promises.proofs.Chosen.{chosen, chosen_looked}
use Rattle.promises.proofs.Entered.{good_entered}
use Rattle.promises.proofs.Listed.{good_listed, good_read}
use Rattle.promises.proofs.Ordered.{good_ordered}
use Rattle.promises.proofs.Parsed.{good_parsed}
use Rattle.promises.proofs.Rebuilt.{full_known, full_rebuilt}
use Rattle.promises.proofs.Rendered.{good_rendered, longest_text_lem, reads_back, texts_same}
use Rattle.std.specs.Prelude.{Ok, Err}

-- Every bad input gets the numbered refusal of the stated order, and a refused call leaves what was lent as it was.
pub demand1 : Demand1 koodhaxil
demand1 = record {
  reading = λ b. told_first read_told Ok Err (counts_of b) refl (λ x. refl) (first_refusal (read_looks b));
  listing = λ b t. chosen read_told Ok Err (counts_of b) refl (λ x. refl) (list_looks b (length t)) _ t;
  entering = λ n rs t. chosen enter_told Ok Err (entry n rs) refl (λ x. refl) (enter_looks n rs (length t)) _ t;
  ordering = λ n b o. chosen order_told Ok Err (record { nodes = (nodes b).count }) refl (λ x. refl) (order_looks n b (length o)) _ o;
  building = λ n s t o. chosen_looked (looked_by false n s t) (build_done (outcome n s t)) (build_looks n s t (length o)) _ o;
  vetoing = λ n s t o. chosen_looked (veto_looked n s t) (build_done (vetoed n s t)) (input_looks n s t (length o)) _ o;
  checking = λ n t b. check_told_lem (first_refusal (check_looks n t b));
  loosening = λ n t b o d. chosen loosen_told Ok Err (tally (eased n t b)) refl (λ x. refl) (loosen_looks n t b (length o) (length d)) _ (lent o d);
  parsing = λ n w o. chosen parse_told Ok Err (parse_done w) refl (λ x. refl) (parse_looks n w (length o)) _ o;
  rendering = λ n b o. chosen render_told Ok Err (render_done b) refl (λ x. refl) (render_looks n b (length o)) _ o;
}

-- Input is refused exactly when it is not good: of any operations that keep demand 1, and so of these.
pub accepted : Accepts koodhaxil
accepted = accepts koodhaxil demand1

-- Reading answers 0 for collections alone, with the set that occurs; the table has the bits of all trees, or of all records, and no others; house order keeps the groups; the builder gives Aho's tree, which holds every
-- triplet entered, and refuses exactly when no tree does; the check passes a tree exactly when nothing contradicts it and each of its triplets is forced.
pub demand2 : Demand2 koodhaxil
demand2 = record {
  reading = λ b. (accepted.reading b, good_read b);
  listing = good_listed;
  entering = good_entered;
  ordering = good_ordered;
  building = good_built;
  checking = good_checked;
}

-- Listing loses nothing.
pub demand3 : Demand3 koodhaxil
demand3 = record {
  known = full_known;
  rebuilt = λ n s b t o c f l room. full_rebuilt n s b c f o room t l;
}

-- All three, of one and the same operations.
pub all_demands : AllDemands koodhaxil
all_demands = (demand1, demand2, demand3)

-- A Newick text of the form, within the limits, is read as its tree, in its order; every other one is refused at its place. A good body is written as such a
-- text, of its tree in house order, which reads back as the house-order body; two bodies have one text exactly when they have the same groups.
pub newick : Newick koodhaxil
newick = record { parsing = good_parsed; rendering = good_rendered; back = reads_back; same_text = texts_same; longest = longest_text_lem }
