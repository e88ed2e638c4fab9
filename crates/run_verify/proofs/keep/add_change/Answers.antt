use Rattle.std.proofs.Common.{[], ◌++◌, ◌∷◌, ◌∙◌, refl, subst, sym}
use Rattle.std.proofs.lemmas.List.{append-nil}
use Rattle.group_types.specs.Lists.{at}
use Rattle.run_verify.specs.Accounts.{lists_of}
use Rattle.run_verify.specs.Shadows.{AreMore}
use Rattle.run_verify.proofs.Shadowing.{more_put}
use Rattle.run_verify.proofs.Vectors.{list_here, list_more, list_set}
use Rattle.run_verify.proofs.keep.add_change.Goals as goal

pub returns-clause-changes : goal.returns-clause-changes
returns-clause-changes c = list_more c.args.changes.now.items c.args.partition c.index_mut.result.now c.requires
    c.push.new.self _ c.index_mut.ensures.value c.in_ok-push.ensures.items

pub returns-clause-more : goal.returns-clause-more
returns-clause-more c =
    let lists = lists_of c.args.changes.now.items in
    let set = list_more c.args.changes.now.items c.args.partition c.index_mut.result.now c.requires c.push.new.self
    c.args.change c.index_mut.ensures.value c.in_ok-push.ensures.items in
    subst (AreMore lists) (sym set) (more_put lists c.args.partition (at [] lists c.args.partition ++ c.args.change ∷ []) (c.args.change ∷ []) refl)

pub returns-in_err-push-clause-more : goal.returns-in_err-push-clause-more
returns-in_err-push-clause-more c =
    let lists = lists_of c.args.changes.now.items in
    let set = list_set c.args.changes.now.items c.args.partition c.index_mut.result.now c.requires c.push.new.self in
    let here = list_here c.args.changes.now.items c.args.partition c.index_mut.result.now c.requires c.index_mut.ensures.value in
    subst (AreMore lists) (sym set)
    (more_put lists c.args.partition c.push.new.self.items [] (c.in_err-push.ensures.items ∙ here
    ∙ sym (append-nil (at [] lists c.args.partition))))
