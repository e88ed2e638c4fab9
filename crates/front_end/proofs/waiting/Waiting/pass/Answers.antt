use Rattle.std.proofs.Common.{length, ap, sym, ◌∙◌, arith}
use Rattle.front_end.proofs.Stepping.{fewer-wait, first-passed, last-passed}
use Rattle.front_end.proofs.waiting.Waiting.pass.Goals as goal

pub overflow_add-self : goal.overflow_add-self
overflow_add-self c =
    omega (
      arith,
      ap length c.requests-given.ensures,
      fewer-wait c.self.inside.keys c.self.inside.answered
          c.self.inside.given _ c.self.view_is c.requires.some,
    )

pub returns-then-self-given : goal.returns-then-self-given
returns-then-self-given c = c.drop.view_is ∙ c.none.ensures
    ∙ sym (last-passed c.self.inside.keys c.self.inside.answered c.self.inside.given _ c.self.view_is
    (omega (arith, ap length c.requests-given.ensures, c.if-self-given.true)))

pub returns-else-self-given : goal.returns-else-self-given
returns-else-self-given c = first-passed c.self.inside.keys c.self.inside.answered c.self.inside.given _ c.self.view_is
