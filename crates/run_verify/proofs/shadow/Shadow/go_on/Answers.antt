use Rattle.run_verify.proofs.Shadowing.{follows_on, went_on}
use Rattle.run_verify.proofs.shadow.Shadow.go_on.Goals as goal

pub returns-clause-follows : goal.returns-clause-follows
returns-clause-follows c =
    follows_on c.args.shape c.args.changes.now (record { number = c.args.number; space = c.write_all.new.space }) c.requires.within c.write_all.ensures.long
    (went_on c.args.shape c.args.changes.now c.args.self.now.number c.args.number c.args.self.now.space.items
    c.write_all.new.space.items c.requires.long c.requires.from c.requires.follows.space c.write_all.ensures.space)

pub returns-clause-space : goal.returns-clause-space
returns-clause-space c =
    went_on c.args.shape c.args.changes.now c.args.self.now.number c.args.number c.args.self.now.space.items
    c.write_all.new.space.items c.requires.long c.requires.from c.requires.follows.space c.write_all.ensures.space
