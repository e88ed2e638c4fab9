use Rattle.std.proofs.Common.{◌≡◌, ◌∙◌, List, set, sym, subst, ap}
use Rattle.std.specs.List.{remove}
use Rattle.std.proofs.lemmas.List.{get_or-set_same}
use Rattle.group_run.specs.Process.{Copy}
use Rattle.group_run.specs.Rows.{is_marked}
use Rattle.row_copies.specs.Row.{CopyStandsAt, IsWholeCopy, Marking}
use Rattle.row_copies.proofs.Marked.{is_done, waits, whole_marked}
use Rattle.row_copies.proofs.copies.mark.Goals as goal

pub returns-then-not-mark-clause-copies : goal.returns-then-not-mark-clause-copies
returns-then-not-mark-clause-copies c =
    let stands : CopyStandsAt c.args.leader c.args.number c.args.copies.now.items c.in_ok-place.place =
    subst (λ (cs : List Copy). CopyStandsAt c.args.leader c.args.number cs c.in_ok-place.place) c.deref.ensures.value c.in_ok-place.ensures.some in
    let test = ap (is_marked c.args.shape) (sym c.mark.ensures.copy) ∙ (sym c.mark.ensures.all ∙ c.if-not-mark.true) in
    ap (λ (y : Copy). set c.args.copies.now.items c.in_ok-place.place y) c.mark.ensures.copy
    ∙ ap (λ (m : Marking). m.copies)
    (waits c.args.shape c.args.d.0 c.args.n c.args.leader c.args.number c.args.copies.now.items c.in_ok-place.place
    c.index_mut.result.now stands c.index_mut.ensures.value c.requires.each test)

pub returns-clause-copies : goal.returns-clause-copies
returns-clause-copies c =
    let stands : CopyStandsAt c.args.leader c.args.number c.args.copies.now.items c.in_ok-place.place =
    subst (λ (cs : List Copy). CopyStandsAt c.args.leader c.args.number cs c.in_ok-place.place) c.deref.ensures.value c.in_ok-place.ensures.some in
    let test = ap (is_marked c.args.shape) (sym c.mark.ensures.copy) ∙ (sym c.mark.ensures.all ∙ c.if-not-mark.false) in
    c.remove.ensures.items
    ∙ (ap (λ (y : Copy). remove (set c.args.copies.now.items c.in_ok-place.place y) c.in_ok-place.place) c.mark.ensures.copy
    ∙ ap (λ (m : Marking). m.copies)
    (is_done c.args.shape c.args.d.0 c.args.n c.args.leader c.args.number c.args.copies.now.items c.in_ok-place.place
    c.index_mut.result.now stands c.index_mut.ensures.value c.requires.each test))

pub returns-clause-whole : goal.returns-clause-whole
returns-clause-whole c =
    let stands : CopyStandsAt c.args.leader c.args.number c.args.copies.now.items c.in_ok-place.place =
    subst (λ (cs : List Copy). CopyStandsAt c.args.leader c.args.number cs c.in_ok-place.place) c.deref.ensures.value c.in_ok-place.ensures.some in
    let whole : IsWholeCopy c.args.shape c.index_mut.result.now =
    subst (IsWholeCopy c.args.shape) (sym c.index_mut.ensures.value)
    (c.requires.whole c.in_ok-place.place c.index_mut.result.now stands.within) in
    let is : c.remove.result ≡ c.mark.new.self = c.remove.ensures.value ∙ get_or-set_same c.args.copies.now.items
    c.in_ok-place.place c.mark.new.self c.remove.result stands.within in
    subst (IsWholeCopy c.args.shape) (sym (is ∙ c.mark.ensures.copy))
    (whole_marked c.args.shape c.args.d.0 c.args.n c.index_mut.result.now c.requires.partition whole)
