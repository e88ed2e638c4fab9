use Rattle.std.proofs.Common.{◌<◌, ◌≤◌, length, ap, arith}
use Rattle.std.proofs.lemmas.Bool.{ltb-true, ltb-false}
use Rattle.front_end.proofs.Stepping.{some-wait, none-wait}
use Rattle.front_end.proofs.waiting.Waiting.has_some.Goals as goal

pub returns-clause-some : goal.returns-clause-some
returns-clause-some c = λ yes. let test : c.self.inside.answered < length c.requests.result.now = ltb-true _ _ yes in
    some-wait c.self.inside.keys c.self.inside.answered c.self.inside.given _ c.self.view_is (omega (arith, test, ap length c.requests.ensures))

pub returns-clause-none : goal.returns-clause-none
returns-clause-none c = λ no. let test : length c.requests.result.now ≤ c.self.inside.answered = ltb-false _ _ no in
    none-wait c.self.inside.keys c.self.inside.answered c.self.inside.given _ c.self.view_is (omega (arith, test, ap length c.requests.ensures))
