use Rattle.std.proofs.Common.{ℕ, ◌≡◌, ◌+◌, max, length, [], ◌∷◌, refl, sym, ap, subst, ◌∙◌, arith}
use Rattle.group_types.specs.Dimensions.{Dimensions}
use Rattle.group_types.specs.Lists.{at, put}
use Rattle.group_types.specs.Names.{index_of}
use Rattle.group_wire.specs.Actions.{Count}
use Rattle.group_member.specs.Acting.{ActsWhere, PongComes}
use Rattle.group_member.specs.Standing.{Member, OwnSigns}
use Rattle.group_member.specs.Words.{CanReadFrom}
use Rattle.group_types.proofs.Lists.{length-put}
use Rattle.group_types.proofs.Names.{index-below}
use Rattle.group_member.proofs.Signed.{count-acts}
use Rattle.group_member.proofs.Wholes.{counted-whole, rest-whole}
use Rattle.group_member.proofs.member.Member.count.Goals as goal

pub returns : goal.returns
returns c =
    let n = c.self.inside in
    let v : Member = record { words = n.words; signs = n.signs; callers = n.callers; parked = n.parked.items; node = n.node.node } in
    let can = subst (λ (old : Member). CanReadFrom old.words c.args.from) (sym c.self.view_is) c.requires.reads in
    let i : c.index_of.result ≡ index_of n.words.shape c.args.from = c.index_of.ensures ∙ ap (λ (s : Dimensions). index_of s c.args.from) c.shape.ensures in
    let at-index : record v.signs {
      answered = put 0 v.signs.answered c.index_of.result
          (max (at 0 v.signs.answered c.index_of.result) (c.args.ping + 1));
    }
    ≡ record v.signs {
      answered = put 0 v.signs.answered (index_of n.words.shape c.args.from)
          (max (at 0 v.signs.answered (index_of n.words.shape c.args.from)) (c.args.ping + 1));
    } = ap
    (λ (x : ℕ). record v.signs {
      answered = put 0 v.signs.answered x
          (max (at 0 v.signs.answered x) (c.args.ping + 1));
    }) i in
    subst (λ (old : Member). ActsWhere (PongComes c.args.from old.words.name c.args.ping) (Count c.args.from old.words.name ∷ []) (λ out. out) old
    (record v { signs = c.count.new.self })) c.self.view_is
    (subst (λ (s : OwnSigns). ActsWhere (PongComes c.args.from v.words.name c.args.ping)
    (Count c.args.from v.words.name ∷ []) (λ out. out) v (record v { signs = s }))
    (sym (c.count.ensures ∙ at-index)) (count-acts v c.args.from c.args.ping can))

pub invariant_of-self : goal.invariant_of-self
invariant_of-self c =
    let n = c.self.inside in
    let can = subst (λ (old : Member). CanReadFrom old.words c.args.from) (sym c.self.view_is) c.requires.reads in
    let below = index-below n.words.shape c.args.from can.member in
    let i : c.index_of.result ≡ index_of n.words.shape c.args.from = c.index_of.ensures ∙ ap (λ (s : Dimensions). index_of s c.args.from) c.shape.ensures in
    let counts = c.self.invariant.member.counts in
    rest-whole c.self.invariant refl refl (counted-whole n.node.shape n.words n.signs c.count.new.self n.node.node
    (ap (λ (s : OwnSigns). length s.answered) c.count.ensures ∙ length-put 0 n.signs.answered c.index_of.result _
    (omega (arith, below, i, counts))) c.self.invariant.member)
