-- `rendering::render` meets its contract: what the looks refuse, a short room, and what is written where nothing is refused. Assumes nothing.
use Rattle.std.proofs.Common.{List, ℕ, ◌∷◌, [], length, ◌≡◌, ◌≤◌, refl, sym, ap, ◌∙◌, arith}
use borrow.Author.Tests.{le-ltb, lt-ltb}
use Rattle.bodies.specs.Draws.{written}
use Rattle.answers.proofs.Answered.{first_on, is_done, is_refused, then_pass}
use Rattle.answers.proofs.Good.{body_pass, count_pass}
use Rattle.answers.specs.Inputs.{Body, Count}
use Rattle.answers.specs.Looks.{first_refusal, look_count, look_length, look_room, look_rules}
use Rattle.answers.specs.Looks.{Look}
use Rattle.refusals.specs.declared.Refusal.TheVariants.{ShortRoom}
use Rattle.children.proofs.Ready.{Ready, is_ready}
use Rattle.writing.proofs.Writing.{whole_on, writes}
use Rattle.writing.specs.Pages.{Page}
use Rattle.rendering.specs.Texts.{newick_text, text_room}
use Rattle.rendering.proofs.Texts.{body_longest}
use Rattle.rendering.proofs.render.Goals.{After-push}
use Rattle.rendering.proofs.render.Goals as goal
use Rattle.std.specs.Prelude.{Ok}

-- 2, 5, 6; and 9
abbrev early : ℕ → List ℕ → List Look
early n body = look_count n ∷ look_length 0 (length body) ∷ look_rules 0 n body ∷ []

abbrev late : List ℕ → List ℕ → List Look
late body room = look_room (length (newick_text body)) (length room) ∷ []

passed : (n : ℕ) (body : List ℕ) → Count n → Body n body → first_refusal (early n body) ≡ Ok tt
passed n body k g = (then_pass (look_count n) _).1 ((count_pass n).1 k, (body_pass 0 n body).1 g)

ready : (n : ℕ) (body : List ℕ) → Count n → Body n body → Ready body
ready n body k g = is_ready n body k.most g.good g.long

-- once the text stands in the draft
module _ (c : After-push) (count : Count c.args.n) (good : Body c.args.n c.args.body.now) where
  -- it is whole, since it fits
  whole : c.push.new.self.text ≡ newick_text c.args.body.now
  whole = simp (c.push.ensures, c.put.ensures, c.new-draft.ensures, writes) (ap (λ (p : Page). p.text) (whole_on (record { lent = _; room = text_room; text = [] }) (newick_text c.args.body.now) (body_longest count good)))

-- ---- the answers

pub groups-requires-clause-good : goal.groups-requires-clause-good
groups-requires-clause-good c =
    let k = (count_pass c.args.n).0 (sym c.look_count.ensures ∙ c.in_ok-look_count.was) in
    (ready c.args.n c.args.body.now k ((body_pass 0 c.args.n c.args.body.now).0 (sym c.look_body.ensures ∙ c.in_ok-look_body.was))).good

pub invariant_of-tree-clause-good : goal.invariant_of-tree-clause-good
invariant_of-tree-clause-good c =
    let k = (count_pass c.args.n).0 (sym c.look_count.ensures ∙ c.in_ok-look_count.was) in
    (ready c.args.n c.args.body.now k ((body_pass 0 c.args.n c.args.body.now).0 (sym c.look_body.ensures ∙ c.in_ok-look_body.was))).good

pub returns-then-room-end : goal.returns-then-room-end
returns-then-room-end c =
    let n = c.args.n in
    let body = c.args.body.now in
    let room = c.args.room.now in
    let k = (count_pass n).0 (sym c.look_count.ensures ∙ c.in_ok-look_count.was) in
    let g = (body_pass 0 n body).0 (sym c.look_body.ensures ∙ c.in_ok-look_body.was) in
    let w = whole (goal.at.returns-then-room-end c).After-push k g in
    is_refused ShortRoom
    (first_on (early n body) (late body room) (passed n body k g) ∙ rw (lt-ltb (length room) (length (newick_text body)) (omega (arith, c.if-room-end.true, c.len-end.ensures, ap length w))) refl)

pub returns : goal.returns
returns c =
    let n = c.args.n in
    let body = c.args.body.now in
    let room = c.args.room.now in
    let k = (count_pass n).0 (sym c.look_count.ensures ∙ c.in_ok-look_count.was) in
    let g = (body_pass 0 n body).0 (sym c.look_body.ensures ∙ c.in_ok-look_body.was) in
    let w = whole (goal.at.returns c).After-push k g in
    let long : c.len-end.result ≡ length (newick_text body) = c.len-end.ensures ∙ ap length w in
    let fit : length (newick_text body) ≤ length room = omega (arith, c.if-room-end.false, long) in
    is_done (first_on (early n body) (late body room) (passed n body k g) ∙ rw (le-ltb (length room) (length (newick_text body)) fit) refl)
    (ap (λ (j : ℕ). record { length = j }) long)
    (c.copy.ensures ∙ ap (written room) (c.as_slice.ensures ∙ w))
