-- Nothing is asked of who calls: the contract of each public function of an operation, and of each C function, has no `requires`. Document 01, demand 1: "Every byte string and every number may be handed in."
use Rattle.contracts.specs.AnyCall.{AsksNothing}
use Rattle.collections.specs.contracts.read as reading_of
use Rattle.listing.specs.contracts.list as listing_of
use Rattle.entering.specs.contracts.enter as entering_of
use Rattle.triplets.specs.contracts.enter as entering_named_of
use Rattle.ordering.specs.contracts.order as ordering_of
use Rattle.building.specs.contracts.build as building_of
use Rattle.building.specs.contracts.veto as vetoing_of
use Rattle.checking.specs.contracts.check as checking_of
use Rattle.loosening.specs.contracts.loosen as loosening_of
use Rattle.parsing.specs.contracts.parse as parsing_of
use Rattle.rendering.specs.contracts.render as rendering_of
use Rattle.exports.specs.contracts.koodhaxil_read as c_read
use Rattle.exports.specs.contracts.koodhaxil_list as c_list
use Rattle.exports.specs.contracts.koodhaxil_enter as c_enter
use Rattle.exports.specs.contracts.koodhaxil_order as c_order
use Rattle.exports.specs.contracts.koodhaxil_build as c_build
use Rattle.exports.specs.contracts.koodhaxil_veto as c_veto
use Rattle.exports.specs.contracts.koodhaxil_check as c_check
use Rattle.exports.specs.contracts.koodhaxil_loosen as c_loosen
use Rattle.exports.specs.contracts.koodhaxil_parse as c_parse
use Rattle.exports.specs.contracts.koodhaxil_render as c_render
use Rattle.exports.specs.contracts.koodhaxil_triple as c_triple

pub record Free : Type 2 where
  pub reading : AsksNothing reading_of.ended (λ M 𝓤. reading_of.clauses)
  pub listing : AsksNothing listing_of.ended (λ M 𝓤. listing_of.clauses)
  pub entering : AsksNothing entering_of.ended (λ M 𝓤. entering_of.clauses)
  pub entering_named : AsksNothing entering_named_of.ended (λ M 𝓤. entering_named_of.clauses)
  pub ordering : AsksNothing ordering_of.ended (λ M 𝓤. ordering_of.clauses)
  pub building : AsksNothing building_of.ended (λ M 𝓤. building_of.clauses)
  pub vetoing : AsksNothing vetoing_of.ended (λ M 𝓤. vetoing_of.clauses)
  pub checking : AsksNothing checking_of.ended (λ M 𝓤. checking_of.clauses)
  pub loosening : AsksNothing loosening_of.ended (λ M 𝓤. loosening_of.clauses)
  pub parsing : AsksNothing parsing_of.ended (λ M 𝓤. parsing_of.clauses)
  pub rendering : AsksNothing rendering_of.ended (λ M 𝓤. rendering_of.clauses)
  pub c_read_free : AsksNothing c_read.ended (λ M 𝓤. c_read.clauses)
  pub c_list_free : AsksNothing c_list.ended (λ M 𝓤. c_list.clauses)
  pub c_enter_free : AsksNothing c_enter.ended (λ M 𝓤. c_enter.clauses)
  pub c_order_free : AsksNothing c_order.ended (λ M 𝓤. c_order.clauses)
  pub c_build_free : AsksNothing c_build.ended (λ M 𝓤. c_build.clauses)
  pub c_veto_free : AsksNothing c_veto.ended (λ M 𝓤. c_veto.clauses)
  pub c_check_free : AsksNothing c_check.ended (λ M 𝓤. c_check.clauses)
  pub c_loosen_free : AsksNothing c_loosen.ended (λ M 𝓤. c_loosen.clauses)
  pub c_parse_free : AsksNothing c_parse.ended (λ M 𝓤. c_parse.clauses)
  pub c_render_free : AsksNothing c_render.ended (λ M 𝓤. c_render.clauses)
  pub c_triple_free : AsksNothing c_triple.ended (λ M 𝓤. c_triple.clauses)
