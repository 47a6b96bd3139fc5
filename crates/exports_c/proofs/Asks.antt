-- No C function asks anything of its caller: "Every byte string and every number may be handed in." Assumes nothing.
use base.Logic.{emp, id⊢}
use Rattle.contracts.specs.AnyCall.{AsksNothing}
use Rattle.exports_c.specs.contracts.koodhaxil_read as c_read
use Rattle.exports_c.specs.contracts.koodhaxil_list as c_list
use Rattle.exports_c.specs.contracts.koodhaxil_enter as c_enter
use Rattle.exports_c.specs.contracts.koodhaxil_order as c_order
use Rattle.exports_c.specs.contracts.koodhaxil_build as c_build
use Rattle.exports_c.specs.contracts.koodhaxil_veto as c_veto
use Rattle.exports_c.specs.contracts.koodhaxil_check as c_check
use Rattle.exports_c.specs.contracts.koodhaxil_loosen as c_loosen
use Rattle.exports_c.specs.contracts.koodhaxil_parse as c_parse
use Rattle.exports_c.specs.contracts.koodhaxil_render as c_render
use Rattle.exports_c.specs.contracts.koodhaxil_triple as c_triple

pub c_read_asks_nothing : AsksNothing c_read.ended (λ M 𝓤. c_read.clauses)
c_read_asks_nothing M 𝓤 𝓛 mem run κs a = (tt, λ g. id⊢ 𝓤 (emp 𝓤))

pub c_list_asks_nothing : AsksNothing c_list.ended (λ M 𝓤. c_list.clauses)
c_list_asks_nothing M 𝓤 𝓛 mem run κs a = (tt, λ g. id⊢ 𝓤 (emp 𝓤))

pub c_enter_asks_nothing : AsksNothing c_enter.ended (λ M 𝓤. c_enter.clauses)
c_enter_asks_nothing M 𝓤 𝓛 mem run κs a = (tt, λ g. id⊢ 𝓤 (emp 𝓤))

pub c_order_asks_nothing : AsksNothing c_order.ended (λ M 𝓤. c_order.clauses)
c_order_asks_nothing M 𝓤 𝓛 mem run κs a = (tt, λ g. id⊢ 𝓤 (emp 𝓤))

pub c_build_asks_nothing : AsksNothing c_build.ended (λ M 𝓤. c_build.clauses)
c_build_asks_nothing M 𝓤 𝓛 mem run κs a = (tt, λ g. id⊢ 𝓤 (emp 𝓤))

pub c_veto_asks_nothing : AsksNothing c_veto.ended (λ M 𝓤. c_veto.clauses)
c_veto_asks_nothing M 𝓤 𝓛 mem run κs a = (tt, λ g. id⊢ 𝓤 (emp 𝓤))

pub c_check_asks_nothing : AsksNothing c_check.ended (λ M 𝓤. c_check.clauses)
c_check_asks_nothing M 𝓤 𝓛 mem run κs a = (tt, λ g. id⊢ 𝓤 (emp 𝓤))

pub c_loosen_asks_nothing : AsksNothing c_loosen.ended (λ M 𝓤. c_loosen.clauses)
c_loosen_asks_nothing M 𝓤 𝓛 mem run κs a = (tt, λ g. id⊢ 𝓤 (emp 𝓤))

pub c_parse_asks_nothing : AsksNothing c_parse.ended (λ M 𝓤. c_parse.clauses)
c_parse_asks_nothing M 𝓤 𝓛 mem run κs a = (tt, λ g. id⊢ 𝓤 (emp 𝓤))

pub c_render_asks_nothing : AsksNothing c_render.ended (λ M 𝓤. c_render.clauses)
c_render_asks_nothing M 𝓤 𝓛 mem run κs a = (tt, λ g. id⊢ 𝓤 (emp 𝓤))

pub c_triple_asks_nothing : AsksNothing c_triple.ended (λ M 𝓤. c_triple.clauses)
c_triple_asks_nothing M 𝓤 𝓛 mem run κs a = (tt, λ g. id⊢ 𝓤 (emp 𝓤))
