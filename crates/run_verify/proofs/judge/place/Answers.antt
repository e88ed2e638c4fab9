use Rattle.std.proofs.Common.{List, Vec, Global, Option, None, Some, subst, arith}
use Rattle.scenario_run.specs.Lines.{lines_of}
use Rattle.run_verify.specs.Accounts.{account_of, lists_of}
use Rattle.run_verify.specs.Placings.{ArePlacedFrom}
use Rattle.run_verify.specs.declared.change.Change.{Change}
use Rattle.run_verify.proofs.Judged.{place_fails, placed_refused, placed_verified}
use Rattle.run_verify.proofs.judge.place.Goals as goal

pub overflow_add-result : goal.overflow_add-result
overflow_add-result c =
    let at = subst (λ (o : Option _). ArePlacedFrom c.args.shape (lists_of c.deref.result.now) 0
    (lines_of c.args.rest.now) o) c.in-Some.is c.in_ok-judge_places.ensures in
    let found = subst (λ (vs : List (Vec Change Global)). ArePlacedFrom c.args.shape (lists_of vs) 0
    (lines_of c.args.rest.now) (Some c.in-Some.n)) c.deref.ensures.value at in
    let bound = place_fails c.args.shape (account_of c.args.account.now) c.args.rest.now c.in-Some.n c.requires.within.placed found in
    omega (arith, bound, c.requires.few)

pub returns-in-None : goal.returns-in-None
returns-in-None c =
    let at = subst (λ (o : Option _). ArePlacedFrom c.args.shape (lists_of c.deref.result.now) 0
    (lines_of c.args.rest.now) o) c.in-None.is c.in_ok-judge_places.ensures in
    let found = subst (λ (vs : List (Vec Change Global)). ArePlacedFrom c.args.shape (lists_of vs) 0
    (lines_of c.args.rest.now) None) c.deref.ensures.value at in
    placed_verified c.args.shape (account_of c.args.account.now) (lines_of c.args.rest.now) c.args.done c.requires.within.placed found

pub returns-in-Some : goal.returns-in-Some
returns-in-Some c =
    let at = subst (λ (o : Option _). ArePlacedFrom c.args.shape (lists_of c.deref.result.now) 0
    (lines_of c.args.rest.now) o) c.in-Some.is c.in_ok-judge_places.ensures in
    let found = subst (λ (vs : List (Vec Change Global)). ArePlacedFrom c.args.shape (lists_of vs) 0
    (lines_of c.args.rest.now) (Some c.in-Some.n)) c.deref.ensures.value at in
    placed_refused c.args.shape (account_of c.args.account.now) (lines_of c.args.rest.now) c.args.done c.in-Some.n c.requires.within.placed found
