-- The line of a refusal, or the lines of the table of a collection. Assumes nothing.
use Rattle.std.proofs.Common.{◌∙◌, ap, ap₂, sym}
use Rattle.collections.proofs.Whole.{read_done}
use Rattle.collections.specs.declared.Counts.{Counts}
use Rattle.shelf_text.specs.Shelf.{unread_numbers}
use Rattle.shelf_text.proofs.Told.{shelf_listed, shelf_refused, shelf_written}
use Rattle.shelf_text.proofs.shelf.Goals as goal

pub listed_lines-requires : goal.listed_lines-requires
listed_lines-requires c =
    let w = read_done c.args.b.now c.in-Ok.c (sym c.read.ensures ∙ c.in-Ok.is) in
    record { table_len = c.requires.0; collection = (w.1, ap (λ (k : Counts). k.n) w.0) }

pub returns-in-Ok : goal.returns-in-Ok
returns-in-Ok c =
    let b = c.args.b.now in
    shelf_written b c.args.out.now _ _ _ c.requires.1 c.clear.ensures (shelf_listed b _ c.read.ensures _ c.in-Ok.is) c.listed_lines.ensures

pub returns-in-Err : goal.returns-in-Err
returns-in-Err c =
    let b = c.args.b.now in
    let e = shelf_refused b _ c.read.ensures _ _ c.in-Err.is (c.unread.ensures ∙ ap₂ unread_numbers c.from.ensures.number c.from.ensures.values) in
    shelf_written b c.args.out.now _ _ _ c.requires.1 c.clear.ensures e c.put_line.ensures
