-- The contract of each function that C links is the contract of the function of `exports` under the same name: what is proved after any call of the one holds after
-- any call of the other. So what `Linked` says of `exports` is said of what a laboratory links. Assumes nothing.
use contract.Lifetimes.{Lfts}
use denote.Triple.Clauses.{AtExit, Ended}
use denote.Triple.Entry.{Args, Res}
use Rattle.contracts.specs.AnyCall.{After}
use Rattle.exports.specs.contracts.koodhaxil_read as our_read
use Rattle.exports.specs.contracts.koodhaxil_list as our_list
use Rattle.exports.specs.contracts.koodhaxil_enter as our_enter
use Rattle.exports.specs.contracts.koodhaxil_order as our_order
use Rattle.exports.specs.contracts.koodhaxil_build as our_build
use Rattle.exports.specs.contracts.koodhaxil_veto as our_veto
use Rattle.exports.specs.contracts.koodhaxil_check as our_check
use Rattle.exports.specs.contracts.koodhaxil_loosen as our_loosen
use Rattle.exports.specs.contracts.koodhaxil_parse as our_parse
use Rattle.exports.specs.contracts.koodhaxil_render as our_render
use Rattle.exports.specs.contracts.koodhaxil_triple as our_triple
use Rattle.exports_c.specs.contracts.koodhaxil_read as c_read
use Rattle.exports_c.specs.contracts.koodhaxil_list as c_list
use Rattle.exports_c.specs.contracts.koodhaxil_enter as c_enter
use Rattle.exports_c.specs.contracts.koodhaxil_order as c_order
use Rattle.exports_c.specs.contracts.koodhaxil_build as c_build
use Rattle.exports_c.specs.contracts.koodhaxil_veto as c_veto
use Rattle.exports_c.specs.contracts.koodhaxil_check as c_check
use Rattle.exports_c.specs.contracts.koodhaxil_loosen as c_loosen
use Rattle.exports_c.specs.contracts.koodhaxil_parse as c_parse
use Rattle.exports_c.specs.contracts.koodhaxil_render as c_render
use Rattle.exports_c.specs.contracts.koodhaxil_triple as c_triple

-- what may be said after a call
abbrev Said : Ended → Type 1
Said T = (κs : Lfts T.signature.lifetimes) → Args T.signature κs → Res T.signature κs → AtExit T κs → Type 0

pub c_read_same : (Q : Said our_read.ended) → After our_read.ended (λ M 𝓤. our_read.clauses) Q → After c_read.ended (λ M 𝓤. c_read.clauses) Q
c_read_same Q h = h

pub c_list_same : (Q : Said our_list.ended) → After our_list.ended (λ M 𝓤. our_list.clauses) Q → After c_list.ended (λ M 𝓤. c_list.clauses) Q
c_list_same Q h = h

pub c_enter_same : (Q : Said our_enter.ended) → After our_enter.ended (λ M 𝓤. our_enter.clauses) Q → After c_enter.ended (λ M 𝓤. c_enter.clauses) Q
c_enter_same Q h = h

pub c_order_same : (Q : Said our_order.ended) → After our_order.ended (λ M 𝓤. our_order.clauses) Q → After c_order.ended (λ M 𝓤. c_order.clauses) Q
c_order_same Q h = h

pub c_build_same : (Q : Said our_build.ended) → After our_build.ended (λ M 𝓤. our_build.clauses) Q → After c_build.ended (λ M 𝓤. c_build.clauses) Q
c_build_same Q h = h

pub c_veto_same : (Q : Said our_veto.ended) → After our_veto.ended (λ M 𝓤. our_veto.clauses) Q → After c_veto.ended (λ M 𝓤. c_veto.clauses) Q
c_veto_same Q h = h

pub c_check_same : (Q : Said our_check.ended) → After our_check.ended (λ M 𝓤. our_check.clauses) Q → After c_check.ended (λ M 𝓤. c_check.clauses) Q
c_check_same Q h = h

pub c_loosen_same : (Q : Said our_loosen.ended) → After our_loosen.ended (λ M 𝓤. our_loosen.clauses) Q → After c_loosen.ended (λ M 𝓤. c_loosen.clauses) Q
c_loosen_same Q h = h

pub c_parse_same : (Q : Said our_parse.ended) → After our_parse.ended (λ M 𝓤. our_parse.clauses) Q → After c_parse.ended (λ M 𝓤. c_parse.clauses) Q
c_parse_same Q h = h

pub c_render_same : (Q : Said our_render.ended) → After our_render.ended (λ M 𝓤. our_render.clauses) Q → After c_render.ended (λ M 𝓤. c_render.clauses) Q
c_render_same Q h = h

pub c_triple_same : (Q : Said our_triple.ended) → After our_triple.ended (λ M 𝓤. our_triple.clauses) Q → After c_triple.ended (λ M 𝓤. c_triple.clauses) Q
c_triple_same Q h = h
