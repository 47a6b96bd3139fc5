-- What laboratories link and what `trial` prints: the C functions hand back the numbers and values of the demands' answers, and leave in what was lent what the
-- demands say; the lines of `trial` are those answers as text.
use Rattle.std.specs.Prelude.{List, ◌++◌, map, ◌≡◌, ℕ}
use Rattle.contracts.specs.AnyCall.{After}
use Rattle.writing.specs.Pages.{Page, wrote_on}
use Rattle.writing.specs.Texts.{ended}
use Rattle.table_lines.specs.contracts.build_line as build-line
use Rattle.tree_lines.specs.contracts.check_line as check-line
use Rattle.table_lines.specs.contracts.enter_line as enter-line
use Rattle.table_lines.specs.contracts.list_line as list-line
use Rattle.tree_lines.specs.contracts.loosen_line as loosen-line
use Rattle.tree_lines.specs.contracts.order_line as order-line
use Rattle.tree_lines.specs.contracts.parse_line as parse-line
use Rattle.table_lines.specs.contracts.read_line as read-line
use Rattle.tree_lines.specs.contracts.render_line as render-line
use Rattle.tree_lines.specs.Lines.{lent_text}
use Rattle.table_lines.specs.contracts.veto_line as veto-line
use Rattle.reply_text.specs.Text.{barred, told_text}
use Rattle.exports.specs.contracts.koodhaxil_build as c_build
use Rattle.exports.specs.contracts.koodhaxil_check as c_check
use Rattle.exports.specs.contracts.koodhaxil_enter as c_enter
use Rattle.exports.specs.contracts.koodhaxil_list as c_list
use Rattle.exports.specs.contracts.koodhaxil_loosen as c_loosen
use Rattle.exports.specs.contracts.koodhaxil_order as c_order
use Rattle.exports.specs.contracts.koodhaxil_parse as c_parse
use Rattle.exports.specs.contracts.koodhaxil_read as c_read
use Rattle.exports.specs.contracts.koodhaxil_render as c_render
use Rattle.exports.specs.contracts.koodhaxil_veto as c_veto
use Rattle.triplets.specs.Spelled.{spelled}
use Rattle.laying.specs.Codes.{Handed}
use Rattle.easing.specs.Eases.{lent}
use Rattle.promises.specs.Operations.{Given, GivenOf, Operations}

-- a C function was lent memory, which is o now, and `values`, which were vs and are vs' now; its result is r
pub record Hands {B : Type 0} (g : GivenOf B) (vs : List ℕ) (r : ℕ) (vs' : List ℕ) (o : B) : Type 0 where
  pub handed : Handed g.told vs r vs'
  pub left : o ≡ g.after

pub record Linked (L : Operations) : Type 2 where
  pub reading : After c_read.ended (λ M 𝓤. c_read.clauses) (λ κs a r s. Handed (L.read a.0.now) a.1.0.now r s.1.0.now)
  pub listing : After c_list.ended (λ M 𝓤. c_list.clauses)
      (λ κs a r s. Hands (L.list a.0.now a.1.0.now) a.1.1.0.now r s.1.1.0.now s.1.0.now)
  pub entering : After c_enter.ended (λ M 𝓤. c_enter.clauses)
      (λ κs a r s. Hands (L.enter a.0 (map spelled a.1.0.now) a.1.1.0.now) a.1.1.1.0.now r s.1.1.1.0.now s.1.1.0.now)
  pub ordering : After c_order.ended (λ M 𝓤. c_order.clauses)
      (λ κs a r s. Hands (L.order a.0 a.1.0.now a.1.1.0.now) a.1.1.1.0.now r s.1.1.1.0.now s.1.1.0.now)
  pub building : After c_build.ended (λ M 𝓤. c_build.clauses)
      (λ κs a r s. Hands (L.build a.0 a.1.0 a.1.1.0.now a.1.1.1.0.now) a.1.1.1.1.0.now r s.1.1.1.1.0.now s.1.1.1.0.now)
  pub vetoing : After c_veto.ended (λ M 𝓤. c_veto.clauses)
      (λ κs a r s. Hands (L.veto a.0 a.1.0 a.1.1.0.now a.1.1.1.0.now) a.1.1.1.1.0.now r s.1.1.1.1.0.now s.1.1.1.0.now)
  pub checking : After c_check.ended (λ M 𝓤. c_check.clauses)
      (λ κs a r s. Handed (L.check a.0 a.1.0.now a.1.1.0.now) a.1.1.1.0.now r s.1.1.1.0.now)
  pub loosening : After c_loosen.ended (λ M 𝓤. c_loosen.clauses)
      (λ κs a r s. Hands (L.loosen a.0 a.1.0.now a.1.1.0.now a.1.1.1.0.now a.1.1.1.1.0.now) a.1.1.1.1.1.0.now r s.1.1.1.1.1.0.now
      (lent s.1.1.1.0.now s.1.1.1.1.0.now))
  pub parsing : After c_parse.ended (λ M 𝓤. c_parse.clauses)
      (λ κs a r s. Hands (L.parse a.0 a.1.0.now a.1.1.0.now) a.1.1.1.0.now r s.1.1.1.0.now s.1.1.0.now)
  pub rendering : After c_render.ended (λ M 𝓤. c_render.clauses)
      (λ κs a r s. Hands (L.render a.0 a.1.0.now a.1.1.0.now) a.1.1.1.0.now r s.1.1.1.0.now s.1.1.0.now)

-- a line was written behind the text of the page x, which is x' now: the answer, and what was lent, which is o now and has the text `text`
pub record PrintsBy {B : Type 0} (text : B → List ℕ) (g : GivenOf B) (x x' : Page) (o : B) : Type 0 where
  pub line : x' ≡ wrote_on x (ended (told_text g.told ++ text g.after))
  pub left : o ≡ g.after

-- a table, or a room
abbrev pub Prints : Given → Page → Page → List ℕ → Type 0
Prints = PrintsBy barred

pub record Printed (L : Operations) : Type 2 where
  pub reading : After read-line.ended (λ M 𝓤. read-line.clauses)
      (λ κs a r s. s.0.now ≡ wrote_on a.0.now (ended (told_text (L.read a.1.0.now))))
  pub listing : After list-line.ended (λ M 𝓤. list-line.clauses)
      (λ κs a r s. Prints (L.list a.1.0.now a.1.1.0.now) a.0.now s.0.now s.1.1.0.now)
  pub entering : After enter-line.ended (λ M 𝓤. enter-line.clauses)
      (λ κs a r s. Prints (L.enter a.1.0 a.1.1.0.now a.1.1.1.0.now) a.0.now s.0.now s.1.1.1.0.now)
  pub ordering : After order-line.ended (λ M 𝓤. order-line.clauses)
      (λ κs a r s. Prints (L.order a.1.0 a.1.1.0.now a.1.1.1.0.now) a.0.now s.0.now s.1.1.1.0.now)
  pub building : After build-line.ended (λ M 𝓤. build-line.clauses)
      (λ κs a r s. Prints (L.build a.1.0 a.1.1.0 a.1.1.1.0.now a.1.1.1.1.0.now) a.0.now s.0.now s.1.1.1.1.0.now)
  pub vetoing : After veto-line.ended (λ M 𝓤. veto-line.clauses)
      (λ κs a r s. Prints (L.veto a.1.0 a.1.1.0 a.1.1.1.0.now a.1.1.1.1.0.now) a.0.now s.0.now s.1.1.1.1.0.now)
  pub checking : After check-line.ended (λ M 𝓤. check-line.clauses)
      (λ κs a r s. s.0.now ≡ wrote_on a.0.now (ended (told_text (L.check a.1.0 a.1.1.0.now a.1.1.1.0.now))))
  pub loosening : After loosen-line.ended (λ M 𝓤. loosen-line.clauses)
      (λ κs a r s. PrintsBy lent_text (L.loosen a.1.0 a.1.1.0.now a.1.1.1.0.now a.1.1.1.1.0.now a.1.1.1.1.1.0.now) a.0.now s.0.now (lent s.1.1.1.1.0.now s.1.1.1.1.1.0.now))
  pub parsing : After parse-line.ended (λ M 𝓤. parse-line.clauses)
      (λ κs a r s. Prints (L.parse a.1.0 a.1.1.0.now a.1.1.1.0.now) a.0.now s.0.now s.1.1.1.0.now)
  pub rendering : After render-line.ended (λ M 𝓤. render-line.clauses)
      (λ κs a r s. Prints (L.render a.1.0 a.1.1.0.now a.1.1.1.0.now) a.0.now s.0.now s.1.1.1.0.now)
