use Rattle.std.proofs.Common.{◌∙◌, [], ℕ, List, All, ap, subst, sym, arith}
use Rattle.std.proofs.lemmas.List.{length-map}
use Rattle.group_types.specs.Lists.{at}
use Rattle.run_verify.specs.Accounts.{lists_of}
use Rattle.run_verify.specs.Shadows.{Follows}
use Rattle.run_verify.specs.Showing.{IsFitChange}
use Rattle.run_verify.specs.declared.change.Change.{Change}
use Rattle.run_verify.proofs.Looking.{fit_at}
use Rattle.run_verify.proofs.Shadowing.{follow_set}
use Rattle.run_verify.proofs.spaces.go_to.Goals as goal

pub returns-in_err-grow-clause-follow : goal.returns-in_err-grow-clause-follow
returns-in_err-grow-clause-follow c = c.in_err-grow.ensures.follow (lists_of c.args.changes.now) c.requires.follow

pub go-requires-clause-fit : goal.go-requires-clause-fit
go-requires-clause-fit c =
    subst (All (IsFitChange c.args.shape)) (sym c.changes_of.ensures)
    (fit_at c.args.shape (lists_of c.args.changes.now) c.args.partition c.requires.fit
    (let long = length-map c.args.changes.now (λ v. v.items) in omega (arith, long, c.requires.partition)))

pub returns-in_err-go-clause-follow : goal.returns-in_err-go-clause-follow
returns-in_err-go-clause-follow c =
    follow_set (lists_of c.args.changes.now) c.grow.new.shadows.items c.place_for-place.result c.go.new.self c.in_ok-grow.ensures.there
    (subst (λ (cs : List Change). Follows cs c.go.new.self)
    (c.changes_of.ensures ∙ ap (λ (k : ℕ). at [] (lists_of c.args.changes.now) k) (sym c.place_for-place.ensures))
    c.in_err-go.ensures.follows)
    (c.in_ok-grow.ensures.follow (lists_of c.args.changes.now) c.requires.follow)

pub returns-clause-follow : goal.returns-clause-follow
returns-clause-follow c =
    follow_set (lists_of c.args.changes.now) c.grow.new.shadows.items c.place_for-place.result c.go.new.self c.in_ok-grow.ensures.there
    (subst (λ (cs : List Change). Follows cs c.go.new.self)
    (c.changes_of.ensures ∙ ap (λ (k : ℕ). at [] (lists_of c.args.changes.now) k) (sym c.place_for-place.ensures))
    c.in_ok-go.ensures.follows)
    (c.in_ok-grow.ensures.follow (lists_of c.args.changes.now) c.requires.follow)
