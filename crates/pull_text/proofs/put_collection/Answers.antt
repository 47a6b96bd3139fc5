-- The lines of a collection that can be read; a refusal writes nothing. Assumes nothing.
use Rattle.std.proofs.Common.{◌∙◌, ap, sym, take}
use Rattle.collections.proofs.Whole.{read_done}
use Rattle.collections.specs.declared.Counts.{Counts}
use Rattle.writing.proofs.Writing.{wrote_on_nothing}
use Rattle.writing.specs.Pages.{wrote_on}
use Rattle.pull_text.proofs.Told.{read_refused, read_story}
use Rattle.pull_text.proofs.put_collection.Goals as goal

pub put_story-requires : goal.put_story-requires
put_story-requires c =
    let w = read_done (take c.args.end c.args.store.now) c.in-Ok.x (sym c.read.ensures ∙ c.in-Ok.is) in
    record { table_len = c.requires.1; collection = (w.1, ap (λ (x : Counts). x.trees) w.0, ap (λ (x : Counts). x.n) w.0) }

pub returns-in-Ok : goal.returns-in-Ok
returns-in-Ok c =
    c.put_story.ensures ∙ ap (wrote_on c.args.out.now) (read_story (take c.args.end c.args.store.now) _ c.read.ensures _ c.in-Ok.is)

pub returns-in-Err : goal.returns-in-Err
returns-in-Err c =
    sym (wrote_on_nothing c.args.out.now) ∙ ap (wrote_on c.args.out.now) (read_refused (take c.args.end c.args.store.now) _ c.read.ensures _ c.in-Err.is)
