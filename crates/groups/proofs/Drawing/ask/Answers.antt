-- `groups::Drawing::ask` meets its contract. Assumes nothing.
use Rattle.std.proofs.Common.{refl, true, false}
use Rattle.groups.proofs.Asked.{says_by}
use Rattle.groups.proofs.Drawing.ask.Goals as goal

pub returns-then-not-all_in : goal.returns-then-not-all_in
returns-then-not-all_in c = λ t m w. says_by t c.args.self.meets.now m c.args.self.whole w c.args.a c.args.b c.args.c c.requires false _ _ _ (cc) refl refl refl

pub returns-then-closer : goal.returns-then-closer
returns-then-closer c = λ t m w. says_by t c.args.self.meets.now m c.args.self.whole w c.args.a c.args.b c.args.c c.requires true true _ _ (cc) (cc) refl refl

pub returns-then-closer-2 : goal.returns-then-closer-2
returns-then-closer-2 c = λ t m w. says_by t c.args.self.meets.now m c.args.self.whole w c.args.a c.args.b c.args.c c.requires true false true _ (cc) (cc) (cc) refl

pub returns-then-closer-3 : goal.returns-then-closer-3
returns-then-closer-3 c = λ t m w. says_by t c.args.self.meets.now m c.args.self.whole w c.args.a c.args.b c.args.c c.requires true false false true (cc) (cc) (cc) (cc)

pub returns : goal.returns
returns c = λ t m w. says_by t c.args.self.meets.now m c.args.self.whole w c.args.a c.args.b c.args.c c.requires true false false false (cc) (cc) (cc) (cc)
