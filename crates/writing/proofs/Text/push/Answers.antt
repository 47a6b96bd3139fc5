-- A byte for which there is room, and one for which there is none. Assumes nothing.
use Rattle.writing.proofs.Writing.{page_full, page_pushed}
use Rattle.writing.proofs.Text.push.Goals as goal

pub returns-then-self : goal.returns-then-self
returns-then-self c =
    rw (← c.self.view_is) (page_pushed c.self.inside.room.ghost_name c.self.inside.room.now c.self.inside.len c.args.b c.if-self.true)

pub returns-else-self : goal.returns-else-self
returns-else-self c =
    rw (← c.self.view_is) (page_full c.self.inside.room.ghost_name c.self.inside.room.now c.self.inside.len c.args.b c.if-self.false)
