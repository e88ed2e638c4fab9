use Rattle.std.proofs.Common.{◌≡◌, ◌<◌, List, [], length, replicate, subst, sym, ap, ap₂, ◌∙◌, arith}
use Rattle.page_map.specs.Pages.{PageContents, no_pages}
use Rattle.block_sessions.specs.declared.session.OpenSession.{OpenSession}
use Rattle.block_sessions.specs.Leading.{AreSessions, leader_state_of}
use Rattle.block_sessions.specs.Rebuilt.{AreRebuilt}
use Rattle.block_sessions.proofs.Rooms.{all_unbuilt, rebuilt_at_first}
use Rattle.block_sessions.proofs.sessions.Sessions.new.Goals as goal

pub invariant_of-result : goal.invariant_of-result
invariant_of-result c =
    let s = c.args.shape in
    let count : c.partitions.counter ≡ s.k = omega (arith, c.partitions-test.false, c.partitions.auto.counter-end, c.k-end.ensures.value) in
    let pages : c.partitions.rebuilt.items ≡ replicate s.k (no_pages s.blocks s.block) = c.partitions.invariant
    ∙ ap (λ n. replicate n (no_pages s.blocks s.block)) count in
    let long : 0 < s.block = omega (arith, c.k-end.ensures.in_range.block) in
    record {
      opened = subst (AreSessions s 0) (sym c.new-2.ensures.items)
          (record {
            each = λ k d below. absurd (omega arith);
            rising = λ i j d lt below. absurd (omega arith);
            numbered = λ k d below. absurd (omega arith);
          });
      rebuilt = subst (λ (gs : List OpenSession). AreRebuilt s (length gs) c.partitions.rebuilt.items)
          (sym c.new-2.ensures.items) (subst (AreRebuilt s 0) (sym pages) (rebuilt_at_first s long));
    }

pub returns-clause-state : goal.returns-clause-state
returns-clause-state c =
    let s = c.args.shape in
    let count : c.partitions.counter ≡ s.k = omega (arith, c.partitions-test.false, c.partitions.auto.counter-end, c.k-end.ensures.value) in
    let pages : c.partitions.rebuilt.items ≡ replicate s.k (no_pages s.blocks s.block) = c.partitions.invariant
    ∙ ap (λ n. replicate n (no_pages s.blocks s.block)) count in
    ap₂ (λ (gs : List OpenSession) (ps : List PageContents). leader_state_of gs 0 ps) c.new-2.ensures.items pages
    ∙ ap (λ blocks. record { sessions = []; last_session = 0; rebuilt = blocks }) (all_unbuilt s.k s.blocks s.block)
