-- `masks::add` meets its contract. Assumes nothing.
use borrow.Author.Rules.{rules}
use Rattle.masks.proofs.Growth.{add_grown, add-length}
use Rattle.masks.proofs.add.Statement.{statement}
use Rattle.masks.proofs.add.Tie as tie

mul-i : tie.Need-overflow_mul-i
mul-i c = search rules

add-i : tie.Need-overflow_add-i
add-i c = search rules

mul-with : tie.Need-offset_bounds-masks-i
mul-with c = search rules

element-copy-out-with : tie.Need-bounds-masks-i
element-copy-out-with c = search rules

with-requires : tie.Need-with-requires
with-requires c κs = search rules

mul-masks : tie.Need-offset_bounds-masks-i-2
mul-masks c = search rules

element-write-masks : tie.Need-bounds-masks-i-2
element-write-masks c = search rules

returns : tie.Need-returns
returns c =
    let s = c.before.before in
    let a = s.args in
    let p = s.requires in (
      add-length a.masks.now a.a a.b a.c c.with.result p.0 p.1 p.3 c.with.ensures,
      add_grown a.masks.now a.a a.b a.c c.with.result p.0 p.1 p.3 c.with.ensures,
    )

pub add_spec : {M : Type 1} → statement M
add_spec =
    tie.close
    (tie.spec
    mul-i
    add-i
    mul-with
    element-copy-out-with
    with-requires
    mul-masks
    element-write-masks
    returns)
