-- `pi::core_of` meets its contract. Assumes nothing.
use mathlib.Core.Path.{◌∙◌}
use borrow.Author.Rules.{rules}
use lib.ListN.{length-set}
use Rattle.pi.proofs.Cores.{memo_store}
use Rattle.pi.proofs.core_of.Statement.{statement}
use Rattle.pi.proofs.core_of.Tie as tie

mul_at : tie.Need-overflow_mul-at
mul_at c = search rules

add_at : tie.Need-overflow_add-at
add_at c = search rules

mul-known : tie.Need-offset_bounds-cores-at
mul-known c = search rules

element-copy-out-known : tie.Need-bounds-cores-at
element-copy-out-known c = search rules

returns : tie.Need-returns-then-known-ne0
returns c =
    let s = c.before.before in
    (s.requires.2, λ E pr m k. (k, k.known s.args.a s.args.c s.requires.0 s.requires.1 c.if-known-ne0.true))

mul-core : tie.Need-offset_bounds-meets-at
mul-core c = search rules

element-copy-out-core : tie.Need-bounds-meets-at
element-copy-out-core c = search rules

core-requires : tie.Need-core-found-requires
core-requires c κs = search rules

mul-cores : tie.Need-offset_bounds-cores-at-2
mul-cores c = search rules

element-write-cores : tie.Need-bounds-cores-at-2
element-write-cores c = search rules

returns_2 : tie.Need-returns
returns_2 c =
    let s = c.before.before.before.before in
    let a = s.args in (
      length-set a.cores.now _ c.core-found.result ∙ s.requires.2,
      λ E pr m k. let i = c.core-found.ensures E pr m in (memo_store E a.meets.now a.cores.now a.a a.c c.core-found.result s.requires.0 s.requires.1 i k, i),
    )

pub core_of_spec : {M : Type 1} → statement M
core_of_spec =
    tie.close
    (tie.spec
    mul_at
    add_at
    mul-known
    element-copy-out-known
    returns
    mul-core
    element-copy-out-core
    core-requires
    mul-cores
    element-write-cores
    returns_2)
