use Rattle.std.proofs.Common.{ℕ, ◌≡◌, ◌≢◌, ◌||◌, sym, subst}
use Rattle.std.specs.Prelude.{slice_set}
use Rattle.group_types.specs.Lists.{at}
use Rattle.group_types.specs.Names.{IsProcess, index_of}
use Rattle.membership.specs.Members.{all_living, knows_dead}
use Rattle.group_member.specs.Standing.{OwnWords, heard_of}
use Rattle.group_member.proofs.Hearing.{heard-here, heard-others}
use Rattle.group_member.proofs.words.OwnWords.hear.Goals as goal

pub returns-clause-others : goal.returns-clause-others
returns-clause-others c =
    let n = c.self.inside in
    let w : OwnWords = record { shape = n.shape; name = n.name; cut = n.cut; heard = n.heard.items; permitted = n.permitted; taken = n.taken } in
    let member = subst (λ (v : OwnWords). IsProcess v.shape c.args.from) (sym c.self.view_is) c.requires in
    subst (λ (v : OwnWords). (q : ℕ) → q ≢ index_of v.shape c.args.from
    → at (all_living v.shape) (slice_set w.heard c.index_of-at.result c.add_all.new.self) q ≡ at (all_living v.shape) v.heard q) c.self.view_is
    (heard-others w c.args.from member c.self.invariant.many c.index_of-at.result c.index_of-at.ensures c.add_all.new.self)

pub returns-clause-heard : goal.returns-clause-heard
returns-clause-heard c = λ x.
    let n = c.self.inside in
    let w : OwnWords = record { shape = n.shape; name = n.name; cut = n.cut; heard = n.heard.items; permitted = n.permitted; taken = n.taken } in
    let member = subst (λ (v : OwnWords). IsProcess v.shape c.args.from) (sym c.self.view_is) c.requires in
    subst (λ (v : OwnWords). knows_dead (at (all_living w.shape) (slice_set w.heard c.index_of-at.result c.add_all.new.self) (index_of w.shape c.args.from)) x
    ≡ (knows_dead (heard_of v c.args.from) x || knows_dead c.args.set.now x)) c.self.view_is
    (heard-here w c.args.from member c.self.invariant.many c.index_of-at.result c.index_of-at.ensures c.add_all.new.self
    c.index_mut.result.now c.args.set.now x c.index_mut.ensures.value (c.add_all.ensures.known x))
