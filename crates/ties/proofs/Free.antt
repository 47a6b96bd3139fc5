-- Nothing is asked of who calls. Assumes nothing.
use base.Logic.{emp, id⊢}
use Rattle.exports.proofs.Asks.{c_build_asks_nothing, c_check_asks_nothing, c_enter_asks_nothing, c_list_asks_nothing, c_loosen_asks_nothing, c_order_asks_nothing, c_parse_asks_nothing, c_read_asks_nothing, c_render_asks_nothing, c_triple_asks_nothing, c_veto_asks_nothing}
use Rattle.ties.specs.Free.{Free}

pub free : Free
free = record {
  reading = λ M 𝓤 𝓛 mem run κs a. (tt, λ g. id⊢ 𝓤 (emp 𝓤));
  listing = λ M 𝓤 𝓛 mem run κs a. (tt, λ g. id⊢ 𝓤 (emp 𝓤));
  entering = λ M 𝓤 𝓛 mem run κs a. (tt, λ g. id⊢ 𝓤 (emp 𝓤));
  entering_named = λ M 𝓤 𝓛 mem run κs a. (tt, λ g. id⊢ 𝓤 (emp 𝓤));
  ordering = λ M 𝓤 𝓛 mem run κs a. (tt, λ g. id⊢ 𝓤 (emp 𝓤));
  building = λ M 𝓤 𝓛 mem run κs a. (tt, λ g. id⊢ 𝓤 (emp 𝓤));
  vetoing = λ M 𝓤 𝓛 mem run κs a. (tt, λ g. id⊢ 𝓤 (emp 𝓤));
  checking = λ M 𝓤 𝓛 mem run κs a. (tt, λ g. id⊢ 𝓤 (emp 𝓤));
  loosening = λ M 𝓤 𝓛 mem run κs a. (tt, λ g. id⊢ 𝓤 (emp 𝓤));
  parsing = λ M 𝓤 𝓛 mem run κs a. (tt, λ g. id⊢ 𝓤 (emp 𝓤));
  rendering = λ M 𝓤 𝓛 mem run κs a. (tt, λ g. id⊢ 𝓤 (emp 𝓤));
  c_read_free = c_read_asks_nothing;
  c_list_free = c_list_asks_nothing;
  c_enter_free = c_enter_asks_nothing;
  c_order_free = c_order_asks_nothing;
  c_build_free = c_build_asks_nothing;
  c_veto_free = c_veto_asks_nothing;
  c_check_free = c_check_asks_nothing;
  c_loosen_free = c_loosen_asks_nothing;
  c_parse_free = c_parse_asks_nothing;
  c_render_free = c_render_asks_nothing;
  c_triple_free = c_triple_asks_nothing;
}
