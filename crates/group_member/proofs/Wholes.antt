-- A member stays whole where its words or its node change.
use Rattle.std.proofs.Common.{ℕ, ◌≡◌, ◌+◌, List, length, refl, sym, ap, subst, ◌∙◌}
use Rattle.std.specs.Prelude.{All}
use Rattle.group_types.specs.Dimensions.{Dimensions}
use Rattle.group_types.specs.declared.process.ProcessId.{ProcessId}
use Rattle.group_run.specs.Process.{Node}
use Rattle.group_wire.specs.State.{Request}
use Rattle.group_member.specs.Callers.{AreCallersOf, IsItsCaller, OwnCaller, OwnCallers, with_caller}
use Rattle.group_member.specs.Requests.{IsTreatable}
use Rattle.group_member.specs.Standing.{OwnSigns, OwnWords}
use Rattle.group_member.specs.Whole.{IsMemberWhole, IsWholeMember}
use Rattle.group_member.specs.Words.{AreWords, AreAmong}
use Rattle.group_member.proofs.Callers.{still-own}

pub words-changed : (s : Dimensions) (w now : OwnWords) (v : OwnSigns) (node : Node) → now.shape ≡ w.shape → now.taken ≡ w.taken → AreWords now
    → IsWholeMember s w v node → IsWholeMember s now v node
words-changed s w now v node same taken words whole = record {
  words = words;
  shape_is = whole.shape_is ∙ sym same;
  lives = whole.lives;
  up = whole.up;
  known = subst (AreAmong node.process.known) (sym taken) whole.known;
  counts = whole.counts ∙ ap (λ (d : Dimensions). d.k + d.m) (sym same);
}

-- the shape of its node is its own
pub own-shape : (s : Dimensions) (w : OwnWords) (v : OwnSigns) (node : Node) → IsWholeMember s w v node → IsWholeMember w.shape w v node
own-shape s w v node whole = record { words = whole.words; shape_is = refl; lives = whole.lives; up = whole.up; known = whole.known; counts = whole.counts }

pub at-shape : (s t : Dimensions) (w : OwnWords) (v : OwnSigns) (node : Node) → t ≡ s → s ≡ w.shape → IsWholeMember w.shape w v node → IsWholeMember t w v node
at-shape s t w v node new old whole =
    record { words = whole.words; shape_is = new ∙ old; lives = whole.lives; up = whole.up; known = whole.known; counts = whole.counts }

pub counted-whole : (s : Dimensions) (w : OwnWords) (v now : OwnSigns) (node : Node)
    → length now.answered ≡ length v.answered → IsWholeMember s w v node → IsWholeMember s w now node
counted-whole s w v now node same whole =
    record { words = whole.words; shape_is = whole.shape_is; lives = whole.lives; up = whole.up; known = whole.known; counts = same ∙ whole.counts }

-- all of a member stays whole where its words keep their shape and name, beside what is shown of the rest
pub rest-whole : {s new : Dimensions} {w now : OwnWords} {v signs : OwnSigns} {c : OwnCallers} {parked : List Request} {node then : Node}
    → IsMemberWhole s w v c parked node → now.shape ≡ w.shape → now.name ≡ w.name → IsWholeMember new now signs then → IsMemberWhole new now signs c parked then
rest-whole {w = w} {now = now} {c = c} {parked = parked} whole shape name member = record {
  member = member;
  own = subst (λ (d : Dimensions). AreCallersOf d now.name c) (sym shape) (subst (λ (p : ProcessId). AreCallersOf w.shape p c) (sym name) whole.own);
  fit = subst (λ (d : Dimensions). All (IsTreatable d) parked) (sym shape) whole.fit;
}

-- and where one of its callers goes on, or others are parked
pub callers-whole : {s : Dimensions} {w : OwnWords} {v : OwnSigns} {c : OwnCallers} {parked : List
    Request} {node : Node} → IsMemberWhole s w v c parked node → (caller : ℕ)
    → IsItsCaller c caller → (state : OwnCaller) (now : OwnCallers) → now ≡ with_caller c caller state → IsMemberWhole s w v now parked node
callers-whole {s = s} {w = w} {v = v} {c = c} {parked = parked} {node = node} whole caller its state now is =
    subst (λ (n : OwnCallers). IsMemberWhole s w v n parked node) (sym is)
    (record { member = whole.member; own = still-own c caller its state w.shape w.name whole.own; fit = whole.fit })
