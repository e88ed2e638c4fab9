use Rattle.std.proofs.Common.{ℕ, ◌≡◌, ◌-◌, List, [], All, drop, take, length, ap, sym, subst, ◌∙◌, arith}
use Rattle.std.proofs.lemmas.Grind.{common_steps}
use Rattle.std.proofs.lemmas.List.{length-drop, take_all}
use Rattle.group_types.specs.Dimensions.{Dimensions, space_of}
use Rattle.group_message.specs.declared.update.Update.{Update}
use Rattle.group_run.specs.Fitting.{Writes}
use Rattle.group_run.specs.Replica.{Replica, applied_to, with_log}
use Rattle.head_service.specs.Paging.{AllMiss, MakesNoneOf}
use Rattle.head_service.specs.Storage.{MakesReady, Storage}
use Rattle.head_service.proofs.Paging.{last-ones}
use Rattle.follower_service.proofs.Following.{come-writes, known}
use Rattle.follower_service.proofs.prepare.for_list.Goals as goal

-- what a slice of a list's end holds
ends : (n : ℕ) (us vs : List Update) → us ≡ vs → take (length us - n) (drop n us) ≡ drop n vs
ends n us vs same = take_all (length us - n) (drop n us) (omega (arith, length-drop n us)) ∙ ap (drop n) same

-- what was made ready for the end of a list
makes-end : (b c : Storage) (n : ℕ) (us vs : List Update) → us ≡ vs → MakesReady (AllMiss b.shape.block (take (length us - n) (drop n us))) b c
    → MakesReady (AllMiss b.shape.block vs) b c
makes-end b c n us vs same makes = record {
  shape = makes.shape;
  pages = last-ones b.shape.block n vs b.made c.made
      (subst (λ (ws : List Update). MakesNoneOf (AllMiss b.shape.block ws) b.made c.made) (ends n us vs same)
      makes.pages);
  kept = makes.kept;
}

pub reserve_all-requires-clause-writes : goal.reserve_all-requires-clause-writes
reserve_all-requires-clause-writes g c =
    let r : Replica = c.args.replica.now.replica in
    let b : ℕ = c.args.base in
    let n : ℕ = c.saturating_sub-known.result in
    let space : ℕ = space_of c.args.replica.now.shape in
    let applied : Replica = applied_to b r in
    let count : r.applied - b ≡ n = grind (arith, common_steps) in
    subst (All (λ (u : Update). Writes (space_of (g.B.Beneath.storage c.args.below.now).shape) u.body))
    (sym (ends n c.updates.result.now c.args.list.now c.updates.ensures))
    (subst (λ (s : Dimensions). All (λ (u : Update). Writes (space_of s) u.body) (drop n c.args.list.now)) (sym c.requires.seat.stands.shape)
    (subst (λ (m : ℕ). All (λ (u : Update). Writes space u.body) (drop m c.args.list.now)) (known b r c.requires.fits.reached ∙ count)
    (come-writes space (with_log [] applied) (drop (applied.applied - b) c.args.list.now) c.requires.fits.come)))

pub returns-in_err-reserve_all-clause-makes : goal.returns-in_err-reserve_all-clause-makes
returns-in_err-reserve_all-clause-makes g c = makes-end (g.B.Beneath.storage c.args.below.now)
    (g.B.Beneath.storage c.reserve_all.new.below) c.saturating_sub-known.result
    c.updates.result.now c.args.list.now c.updates.ensures c.reserve_all.ensures.makes

pub returns-in_err-copy_all-clause-makes : goal.returns-in_err-copy_all-clause-makes
returns-in_err-copy_all-clause-makes g c = makes-end (g.B.Beneath.storage c.args.below.now)
    (g.B.Beneath.storage c.reserve_all.new.below) c.saturating_sub-known.result
    c.updates.result.now c.args.list.now c.updates.ensures c.reserve_all.ensures.makes

pub returns-in_err-room-clause-makes : goal.returns-in_err-room-clause-makes
returns-in_err-room-clause-makes g c = makes-end (g.B.Beneath.storage c.args.below.now)
    (g.B.Beneath.storage c.reserve_all.new.below) c.saturating_sub-known.result
    c.updates.result.now c.args.list.now c.updates.ensures c.reserve_all.ensures.makes

pub returns-clause-makes : goal.returns-clause-makes
returns-clause-makes g c = makes-end (g.B.Beneath.storage c.args.below.now) (g.B.Beneath.storage c.reserve_all.new.below) c.saturating_sub-known.result
    c.updates.result.now c.args.list.now c.updates.ensures c.reserve_all.ensures.makes
